-- The first line without a form, or with a wrong number, decides on the form of a text.
use Rattle.std.proofs.Common.{◌≡◌, ◌≢◌, ℕ, ◌+◌, ◌==◌, Bool, true, false, if◌then◌else◌, List, [], ◌∷◌, ◌++◌, length, map, Option, Some, None, Result, Ok, Err, refl, ap, sym, ◌∙◌, subst, arith}
use Rattle.kz_model.specs.declared.grammar.Mark.{Mark}
use Rattle.kz_model.specs.declared.grammar.Mark.TheVariants.{Fine, OutOfRange, BadNumber}
use Rattle.kz_model.specs.declared.grammar.Place.{Place}
use Rattle.kz_model.specs.declared.grammar.Place.TheVariants as place
use Rattle.kz_model.specs.declared.grammar.Cause.{Cause}
use Rattle.kz_model.specs.declared.grammar.Cause.TheVariants as cause
use Rattle.kz_model.specs.declared.grammar.Counted.TheVariants as counted
use Rattle.kz_model.specs.declared.grammar.Refusal.{Refusal}
use Rattle.kz_model.specs.Grammar.Tokens.{tokens_of}
use Rattle.kz_model.specs.Grammar.Form.{Line, Machine, SeedOf, Cpus, Frames, Pages, Budget, Magazine, Depot, Declares, Opens, Does, Break, Orders, Turns, Ends, Draft, empty_draft, line_at, with_break, with_line, judged, after_line, refused, rest_at, go_on, form_from, form_of}
use Rattle.kz_model.specs.declared.bundle.Bundle.{Bundle}
use Rattle.kz_model.specs.Grammar.Stages.{later_fault, bundle_of, unless, after_form}
use Rattle.kz_model.specs.Grammar.Spelling.{line_text, Leads}
use Rattle.kz_bundle.proofs.Choices.{err_not}
use Rattle.kz_bundle.proofs.Walking.{IsReached, leads_to, fails, reached_more, reached_first, formed, in_header, fits_reached, after_line_is, after_line_reads, some_line}
use Rattle.kz_grammar.specs.FormLaws.{HasNoForm, HasBadNumber, IsOutOfRange, IsMarked, IsAtLine, IsFormFault, IsFirstOf, BadLineForms, BadNumberForms, OutOfRangeForms, FirstBadLine, FirstBadNumber, FirstOutOfRange}
use Rattle.kz_grammar.proofs.LaterFaults.{OfLine, IsLater, is_later}
use Rattle.kz_grammar.proofs.Judgements.{bad_lines, bad_numbers, out_of_ranges}

-- ---- causes of a line

fails_same : (a b : Cause) → fails a ≡ fails b → a ≡ b
fails_same a b e = cc

-- what is found of the line
abbrev Means : Cause → Option (Line × Mark) → Type 0
Means cause.BadLine found = found ≡ None
Means cause.BadNumber found = IsMarked found BadNumber
Means cause.OutOfRange found = IsMarked found OutOfRange
Means other found = ⊥

leads_not : {P : Type 0} (d : Draft) (c : Cause) → leads_to d ≡ fails c → P
leads_not d c e = err_not Draft Cause c d (sym e)

-- too many lines is another cause
many_not : (c : Cause) (test : Bool) (what : _) (d : Draft) → OfLine c → (if test then Err (cause.TooMany what) else Ok d) ≡ fails c → ⊥
many_not c true what d of e = subst OfLine (sym (fails_same (cause.TooMany what) c e)) of
many_not c false what d of e = leads_not d c e

break_not : (p : Place) (d : Draft) (c : Cause) → OfLine c → with_break p d ≡ fails c → ⊥
break_not place.Order d c of e = leads_not _ c e
break_not (place.Header at) d c of e = many_not c (d.section.breaks == 999) counted.Rounds _ of e
break_not place.Types d c of e = many_not c (d.section.breaks == 999) counted.Rounds _ of e
break_not place.Steps d c of e = many_not c (d.section.breaks == 999) counted.Rounds _ of e
break_not place.Ended d c of e = many_not c (d.section.breaks == 999) counted.Rounds _ of e

line_not : (d : Draft) (number : ℕ) (line : Line) (c : Cause) → OfLine c → with_line d number line ≡ fails c → ⊥
line_not d number (Machine n) c of e = leads_not _ c e
line_not d number (SeedOf seed) c of e = leads_not _ c e
line_not d number (Cpus n) c of e = leads_not _ c e
line_not d number (Frames n) c of e = leads_not _ c e
line_not d number (Pages n) c of e = leads_not _ c e
line_not d number (Budget n) c of e = leads_not _ c e
line_not d number (Magazine n) c of e = leads_not _ c e
line_not d number (Depot n) c of e = leads_not _ c e
line_not d number (Declares decl) c of e = many_not c (length d.types == 1024) counted.Types _ of e
line_not d number (Opens cpu) c of e = leads_not _ c e
line_not d number (Does said) c of e = many_not c (d.steps == 1000000) counted.Steps _ of e
line_not d number Break c of e = break_not d.place d c of e
line_not d number Orders c of e = leads_not _ c e
line_not d number (Turns cpu) c of e = leads_not _ c e
line_not d number Ends c of e = leads_not _ c e

module _ (d : Draft) (number : ℕ) where
  judged_means : (found : Option (Line × Mark)) (c : Cause) → OfLine c → judged d number found ≡ fails c → Means c found
  judged_means None c of e = subst (λ c. Means c None) (fails_same cause.BadLine c e) refl
  judged_means (Some (line, BadNumber)) c of e = subst (λ c. Means c (Some (line, BadNumber))) (fails_same cause.BadNumber c e) (line, refl)
  judged_means (Some (line, OutOfRange)) c of e = subst (λ c. Means c (Some (line, OutOfRange))) (fails_same cause.OutOfRange c e) (line, refl)
  judged_means (Some (line, Fine)) c of e = absurd (line_not d number line c of e)

  means_judged : (found : Option (Line × Mark)) (c : Cause) → Means c found → judged d number found ≡ fails c
  means_judged found cause.BadLine is = ap (judged d number) is
  means_judged found cause.BadNumber is = ap (judged d number) is.1
  means_judged found cause.OutOfRange is = ap (judged d number) is.1
  means_judged found c is = absurd is

  -- at a place where lines may stand
  after_means : (p : Place) (words : List (List ℕ)) (c : Cause) → OfLine c → after_line p d number words ≡ fails c → (p ≢ place.Ended) × Means c (line_at p d words)
  after_means (place.Header at) words c of e = (λ same. absurd (header_open at same), judged_means (line_at (place.Header at) d words) c of e)
    where
      header_open : (at : ℕ) → place.Header at ≡ place.Ended → ⊥
      header_open at e = cc
  after_means place.Types words c of e = (λ same. absurd (types_open same), judged_means (line_at place.Types d words) c of e)
    where
      types_open : place.Types ≡ place.Ended → ⊥
      types_open e = cc
  after_means place.Steps words c of e = (λ same. absurd (steps_open same), judged_means (line_at place.Steps d words) c of e)
    where
      steps_open : place.Steps ≡ place.Ended → ⊥
      steps_open e = cc
  after_means place.Order words c of e = (λ same. absurd (order_open same), judged_means (line_at place.Order d words) c of e)
    where
      order_open : place.Order ≡ place.Ended → ⊥
      order_open e = cc
  after_means place.Ended words c of e = absurd (subst OfLine (sym (fails_same cause.Trailing c e)) of)

  means_after : (p : Place) (words : List (List ℕ)) (c : Cause) → p ≢ place.Ended → Means c (line_at p d words) → after_line p d number words ≡ fails c
  means_after (place.Header at) words c open_yet is = means_judged (line_at (place.Header at) d words) c is
  means_after place.Types words c open_yet is = means_judged (line_at place.Types d words) c is
  means_after place.Steps words c open_yet is = means_judged (line_at place.Steps d words) c is
  means_after place.Order words c open_yet is = means_judged (line_at place.Order d words) c is
  means_after place.Ended words c open_yet is = absurd (open_yet refl)

-- ---- lines one after the other

abbrev refuses : Refusal → Result Draft Refusal
refuses refusal = Err refusal

refuses_same : (a b : Refusal) → refuses a ≡ refuses b → a ≡ b
refuses_same a b e = cc

formed_not : {P : Type 0} (d : Draft) (refusal : Refusal) → formed d ≡ refuses refusal → P
formed_not d refusal e = err_not Draft Refusal refusal d (sym e)

abbrev refusal_at : ℕ → Cause → Refusal
refusal_at number c = record { line = number; cause = c }

-- lines lead from the draft to one at which the next line, the k-th, has this fault
record Fails (d : Draft) (number : ℕ) (texts : List (List ℕ)) (k : ℕ) (c : Cause) : Type 0 where
  lines : List Line
  end : Draft
  text : List ℕ
  next : List ℕ
  rest : List (List ℕ)
  parts : texts ≡ map line_text lines ++ text ∷ next ∷ rest
  leads : Leads d number lines end
  nth : k ≡ number + length lines
  fault : after_line end.place end k (tokens_of text) ≡ fails c

rest_not : (p : Place) (d : Draft) (number : ℕ) (rest : List ℕ) (k : ℕ) (c : Cause) → OfLine c → rest_at p d number rest ≡ refuses (refusal_at k c) → ⊥
rest_not p d number rest k c of e = by_place p rest e
  where
    other : (c' : Cause) → (OfLine c' → ⊥) → refuses (refusal_at number c') ≡ refuses (refusal_at k c) → ⊥
    other c' not e = not (subst OfLine (sym (ap (λ (r : Refusal). r.cause) (refuses_same (refusal_at number c') (refusal_at k c) e))) of)

    by_place : (p : Place) (rest : List ℕ) → rest_at p d number rest ≡ refuses (refusal_at k c) → ⊥
    by_place (place.Header at) rest e = other cause.Truncated (λ of. of) e
    by_place place.Types rest e = other cause.Truncated (λ of. of) e
    by_place place.Steps rest e = other cause.Truncated (λ of. of) e
    by_place place.Order rest e = other cause.Truncated (λ of. of) e
    by_place place.Ended [] e = formed_not d (refusal_at k c) e
    by_place place.Ended (byte ∷ rest) e = other cause.Trailing (λ of. of) e

failing : (d : Draft) (number : ℕ) (text : List ℕ) (texts : List (List ℕ)) (k : ℕ) (c : Cause) → IsReached d → OfLine c → form_from d number (text ∷ texts) ≡ refuses (refusal_at k c) → Fails d number (text ∷ texts) k c
failing d number text [] k c reached of e = absurd (rest_not d.place d number text k c of e)
failing d number text (next ∷ texts) k c reached of e = by_line (after_line d.place d number (tokens_of text)) refl (λ more. failing more (number + 1) next texts k c) e
  where
    by_line : (o : Result Draft Cause) → after_line d.place d number (tokens_of text) ≡ o →
        ((more : Draft) → IsReached more → OfLine c → form_from more (number + 1) (next ∷ texts) ≡ refuses (refusal_at k c) → Fails more (number + 1) (next ∷ texts) k c) →
        go_on number o (λ more. form_from more (number + 1) (next ∷ texts)) ≡ refuses (refusal_at k c) → Fails d number (text ∷ next ∷ texts) k c
    by_line (Err other) is again e =
        let same = refuses_same (refusal_at number other) (refusal_at k c) e in
        let line : number ≡ k = ap (λ (r : Refusal). r.line) same in
        record {
          lines = [];
          end = d;
          text = text;
          next = next;
          rest = texts;
          parts = refl;
          leads = refl;
          nth = omega (arith, line);
          fault = subst (λ k. after_line d.place d k (tokens_of text) ≡ fails c) line (is ∙ ap fails (ap (λ (r : Refusal). r.cause) same));
        }
    by_line (Ok more) is again e =
        let step = after_line_is d.place d number text more (in_header d.place d.header.cpus (length d.before) reached.here) is in
        let rest = again more (reached_more d number step.line more reached step.allowed step.led) of e in
        let nth = rest.nth in
        record {
          lines = step.line ∷ rest.lines;
          end = rest.end;
          text = rest.text;
          next = rest.next;
          rest = rest.rest;
          parts = ap (λ (first : List ℕ). first ∷ next ∷ texts) step.text_is ∙ ap (λ (more : List (List ℕ)). line_text step.line ∷ more) rest.parts;
          leads = (step.allowed, (more, (step.led, rest.leads)));
          nth = omega (arith, nth);
          fault = rest.fault;
        }

form_next : (d : Draft) (number : ℕ) (first : List ℕ) (texts : List (List ℕ)) (text next : List ℕ) (rest : List (List ℕ)) →
    form_from d number (first ∷ (texts ++ text ∷ next ∷ rest)) ≡ go_on number (after_line d.place d number (tokens_of first)) (λ more. form_from more (number + 1) (texts ++ text ∷ next ∷ rest))
form_next d number first [] text next rest = refl
form_next d number first (other ∷ texts) text next rest = refl

fails_from : (d : Draft) (number : ℕ) (lines : List Line) (end : Draft) (text next : List ℕ) (rest : List (List ℕ)) (k : ℕ) (c : Cause) → IsReached d → Leads d number lines end → k ≡ number + length lines →
    after_line end.place end k (tokens_of text) ≡ fails c → form_from d number (map line_text lines ++ text ∷ next ∷ rest) ≡ refuses (refusal_at k c)
fails_from d number [] end text next rest k c reached leads nth fault =
    let same : k ≡ number = omega (arith, nth) in
    ap (λ o. go_on number o (λ more. form_from more (number + 1) (next ∷ rest)))
    (subst (λ d. after_line d.place d number (tokens_of text) ≡ fails c) (sym leads) (subst (λ k. after_line end.place end k (tokens_of text) ≡ fails c) same fault))
    ∙ ap (λ k. refuses (refusal_at k c)) (sym same)
fails_from d number (line ∷ lines) end text next rest k c reached leads nth fault =
    form_next d number (line_text line) (map line_text lines) text next rest
    ∙ ap (λ o. go_on number o (λ more. form_from more (number + 1) (map line_text lines ++ text ∷ next ∷ rest))) (after_line_reads d.place d number line (fits_reached d reached) leads.0 ∙ leads.1.1.0)
    ∙ fails_from leads.1.0 (number + 1) lines end text next rest k c (reached_more d number line leads.1.0 reached leads.0 leads.1.1.0) leads.1.1.1 (omega (arith, nth)) fault

-- ---- a whole text

abbrev unread : Refusal → Result Bundle Refusal
unread refusal = Err refusal

unread_same : (a b : Refusal) → unread a ≡ unread b → a ≡ b
unread_same a b e = cc

unread_not : {P : Type 0} (b : Bundle) (refusal : Refusal) → Ok b ≡ unread refusal → P
unread_not b refusal e = err_not Bundle Refusal refusal b (sym e)

module _ (Is : Place → Draft → List (List ℕ) → Type 0) (c : Cause) (of : OfLine c) (to : (p : Place) (d : Draft) (words : List (List ℕ)) → Means c (line_at p d words) → Is p d words)
    (from : (p : Place) (d : Draft) (words : List (List ℕ)) → Is p d words → Means c (line_at p d words)) where
  found_at : (bytes : List ℕ) (number : ℕ) → form_of bytes ≡ refused number c → IsAtLine Is bytes number
  found_at bytes number e =
      let cut = some_line bytes in
      let fails_at = failing empty_draft 1 cut.0 cut.1 number c reached_first of (sym (ap (form_from empty_draft 1) cut.2) ∙ e) in
      let means = after_means fails_at.end number fails_at.end.place (tokens_of fails_at.text) c of fails_at.fault in
      record {
        said = fails_at.end;
        text = fails_at.text;
        stands = record {
          lines = fails_at.lines;
          next = fails_at.next;
          rest = fails_at.rest;
          parts = cut.2 ∙ fails_at.parts;
          leads = fails_at.leads;
          open_yet = means.0;
          nth = fails_at.nth;
        };
        is = to fails_at.end.place fails_at.end (tokens_of fails_at.text) means.1;
      }

  at_line : (bytes : List ℕ) (number : ℕ) → IsAtLine Is bytes number → form_of bytes ≡ refused number c
  at_line bytes number line =
      let stands = line.stands in
      ap (form_from empty_draft 1) stands.parts
      ∙ fails_from empty_draft 1 stands.lines line.said line.text stands.next stands.rest number c reached_first stands.leads stands.nth
      (means_after line.said number line.said.place (tokens_of line.text) c stands.open_yet (from line.said.place line.said (tokens_of line.text) line.is))

  is_fault : IsFormFault Is c
  is_fault bytes number = (found_at bytes number, at_line bytes number)

  -- the first fault of all stages
  is_first : IsFirstOf Is c
  is_first bytes number = (
    λ e. found_at bytes number (form_fault (form_of bytes) e),
    λ line. ap after_form (at_line bytes number line),
  )
    where
      by_later : (d : Draft) (fault : Option Refusal) → IsLater fault → unless d fault ≡ unread (refusal_at number c) → ⊥
      by_later d None later e = unread_not (bundle_of d) (refusal_at number c) e
      by_later d (Some refusal) later e = later (subst OfLine (sym (ap (λ (r : Refusal). r.cause) (unread_same refusal (refusal_at number c) e))) of)

      form_fault : (o : Result Draft Refusal) → after_form o ≡ unread (refusal_at number c) → o ≡ refuses (refusal_at number c)
      form_fault (Err refusal) e = ap refuses (unread_same refusal (refusal_at number c) e)
      form_fault (Ok d) e = absurd (by_later d (later_fault d) (is_later d) e)

pub bad_line_forms : BadLineForms
bad_line_forms = is_fault HasNoForm cause.BadLine tt (λ p d words. (bad_lines p d words).0) (λ p d words. (bad_lines p d words).1)

pub bad_number_forms : BadNumberForms
bad_number_forms = is_fault HasBadNumber cause.BadNumber tt (λ p d words. (bad_numbers p d words).0) (λ p d words. (bad_numbers p d words).1)

pub out_of_range_forms : OutOfRangeForms
out_of_range_forms = is_fault IsOutOfRange cause.OutOfRange tt (λ p d words. (out_of_ranges p d words).0) (λ p d words. (out_of_ranges p d words).1)

pub first_bad_line : FirstBadLine
first_bad_line = is_first HasNoForm cause.BadLine tt (λ p d words. (bad_lines p d words).0) (λ p d words. (bad_lines p d words).1)

pub first_bad_number : FirstBadNumber
first_bad_number = is_first HasBadNumber cause.BadNumber tt (λ p d words. (bad_numbers p d words).0) (λ p d words. (bad_numbers p d words).1)

pub first_out_of_range : FirstOutOfRange
first_out_of_range = is_first IsOutOfRange cause.OutOfRange tt (λ p d words. (out_of_ranges p d words).0) (λ p d words. (out_of_ranges p d words).1)
