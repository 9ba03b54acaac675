-- Lines one after the other: what is read of them, and what they lead to.
use Rattle.std.proofs.Common.{◌≡◌, ◌≢◌, ℕ, ◌+◌, ◌<◌, ◌≤◌, ◌==◌, true, false, List, [], ◌∷◌, ◌++◌, length, map, Option, Some, None, Result, Ok, Err, IsTrue, refl, ap, sym, ◌∙◌, arith, subst, if◌then◌else◌, length-append}
use Rattle.std.specs.List.{list_all}
use Rattle.std.proofs.lemmas.List.Splits.{length-slice_split}
use Rattle.kz_model.specs.declared.grammar.Mark.{Mark}
use Rattle.kz_model.specs.declared.grammar.Mark.TheVariants.{Fine, OutOfRange, BadNumber}
use Rattle.kz_model.specs.declared.grammar.Place.{Place}
use Rattle.kz_model.specs.declared.grammar.Place.TheVariants as place
use Rattle.kz_model.specs.declared.grammar.Cause.{Cause}
use Rattle.kz_model.specs.declared.grammar.Cause.TheVariants as cause
use Rattle.kz_model.specs.declared.grammar.Counted.TheVariants as counted
use Rattle.kz_model.specs.declared.grammar.Header.{Header}
use Rattle.kz_model.specs.declared.grammar.Refusal.{Refusal}
use Rattle.kz_model.specs.declared.bundle.Bundle.{Bundle}
use Rattle.kz_model.specs.Grammar.Tokens.{tokens_of, lines_of}
use Rattle.kz_model.specs.Grammar.Form.{Line, Machine, SeedOf, Cpus, Frames, Pages, Budget, Magazine, Depot, Declares, Opens, Does, Break, Orders, Turns, Ends, Draft, empty_draft, line_at, with_header, with_line, judged, after_line, rest_at, go_on, form_from, form_of, refused}
use Rattle.kz_model.specs.Grammar.Stages.{later_fault, bundle_of, unless, after_form, read}
use Rattle.kz_model.specs.Grammar.Spelling.{line_text, IsAllowed, Leads, Spells, SpellingIsReading}
use Rattle.kz_bundle.proofs.Choices.{and_true, not_so, ok_same, err_not}
use Rattle.kz_bundle.proofs.Splits.{inked, lines_of-lines, text_is}
use Rattle.kz_bundle.proofs.LineTexts.{InHeader, Fits, line_says, line_reads, line_inked}

-- ---- what holds of each draft

-- how many CPUs there are, and how many sections are before the newest
abbrev pub Reached : Place → ℕ → ℕ → Type 0
Reached (place.Header at) cpus before = (at ≤ 7) × (before ≡ 0) × (2 < at → 1 ≤ cpus)
Reached place.Types cpus before = (before ≡ 0) × (1 ≤ cpus)
Reached other cpus before = before + 1 ≤ cpus

pub record IsReached (d : Draft) : Type 0 where
  pub few : d.header.cpus ≤ 16
  pub here : Reached d.place d.header.cpus (length d.before)

abbrev pub leads_to : Draft → Result Draft Cause
leads_to d = Ok d

abbrev pub fails : Cause → Result Draft Cause
fails cause = Err cause

pub led_same : (a b : Draft) → leads_to a ≡ leads_to b → a ≡ b
led_same a b e = ok_same Draft Cause a b e

pub failed : {P : Type 0} (cause : Cause) (d : Draft) → fails cause ≡ leads_to d → P
failed cause d e = err_not Draft Cause cause d e

-- one more line of the header
header_more : (at cpus before : ℕ) → at ≤ 7 → before ≡ 0 → (2 ≤ at → 1 ≤ cpus) → Reached (if at == 7 then place.Types else place.Header (at + 1)) cpus before
header_more at cpus before most none some =
    elim (at == 7) as (λ b. (at == 7) ≡ b → Reached (if b then place.Types else place.Header (at + 1)) cpus before) [
      | true ↦ λ e. let here : at ≡ 7 = grind arith in (none, some (omega arith))
      | false ↦ λ e. let less : at ≢ 7 = grind arith in (omega arith, none, λ more. some (omega arith))
    ] refl

reached_header : (at : ℕ) (d : Draft) (h : Header) → at ≤ 7 → length d.before ≡ 0 → h.cpus ≤ 16 → (2 ≤ at → 1 ≤ h.cpus) → IsReached (with_header (record d { place = place.Header at }) h)
reached_header at d h most none few some = record { few = few; here = header_more at h.cpus (length d.before) most none some }

last_is : (before cpus : ℕ) → before + 1 ≤ cpus → ¬ IsTrue (before + 1 == cpus) → before + 1 + 1 ≤ cpus
last_is before cpus most h = let less : (before + 1 == cpus) ≡ false = not_so (before + 1 == cpus) h in grind arith

-- each draft that is led to is reached
reached_next : (p : Place) (d : Draft) (number : ℕ) (line : Line) (more : Draft) → d.header.cpus ≤ 16 → Reached p d.header.cpus (length d.before) → IsAllowed p d line →
    with_line (record d { place = p }) number line ≡ leads_to more → IsReached more
reached_next (place.Header at) d number (Machine n) more few here is e = subst IsReached (led_same _ more e) (reached_header at d (record d.header { machine = n }) here.0 here.1 few (λ h. absurd (omega (arith, h, is.0))))
reached_next (place.Header at) d number (SeedOf seed) more few here is e = subst IsReached (led_same _ more e) (reached_header at d (record d.header { seed = seed }) here.0 here.1 few (λ h. absurd (omega (arith, h, is.0))))
reached_next (place.Header at) d number (Cpus n) more few here is e = subst IsReached (led_same _ more e) (reached_header at d (record d.header { cpus = n }) here.0 here.1 (omega (arith, is.1)) (λ h. omega (arith, is.1)))
reached_next (place.Header at) d number (Frames n) more few here is e = subst IsReached (led_same _ more e) (reached_header at d (record d.header { frames = n }) here.0 here.1 few (λ h. here.2 (omega (arith, is.0))))
reached_next (place.Header at) d number (Pages n) more few here is e = subst IsReached (led_same _ more e) (reached_header at d (record d.header { pages = n }) here.0 here.1 few (λ h. here.2 (omega (arith, is.0))))
reached_next (place.Header at) d number (Budget n) more few here is e = subst IsReached (led_same _ more e) (reached_header at d (record d.header { budget = n }) here.0 here.1 few (λ h. here.2 (omega (arith, is.0))))
reached_next (place.Header at) d number (Magazine n) more few here is e = subst IsReached (led_same _ more e) (reached_header at d (record d.header { magazine = n }) here.0 here.1 few (λ h. here.2 (omega (arith, is.0))))
reached_next (place.Header at) d number (Depot n) more few here is e = subst IsReached (led_same _ more e) (reached_header at d (record d.header { depot = n }) here.0 here.1 few (λ h. here.2 (omega (arith, is.0))))
reached_next place.Types d number (Declares decl) more few here is e =
    elim (length d.types == 1024) as (λ b. (if b then Err (cause.TooMany counted.Types) else Ok (record d { place = place.Types; types = d.types ++ decl ∷ [] })) ≡ leads_to more → IsReached more) [
      | true ↦ λ e. failed (cause.TooMany counted.Types) more e
      | false ↦ λ e. subst IsReached (led_same _ more e) (record { few = few; here = here })
    ] e
reached_next place.Types d number (Opens cpu) more few here is e = subst IsReached (led_same _ more e) (record { few = few; here = omega (arith, here.0, here.1) })
reached_next place.Steps d number (Does said) more few here is e =
    elim (d.steps == 1000000) as (λ b. (if b then Err (cause.TooMany counted.Steps) else Ok (record d {
      place = place.Steps;
      steps = d.steps + 1;
      section = record d.section { steps = d.section.steps ++ record { line = number; round = d.section.breaks; said = said } ∷ [] };
    })) ≡ leads_to more → IsReached more) [
      | true ↦ λ e. failed (cause.TooMany counted.Steps) more e
      | false ↦ λ e. subst IsReached (led_same _ more e) (record { few = few; here = here })
    ] e
reached_next place.Steps d number Break more few here is e =
    elim (d.section.breaks == 999) as (λ b. (if b then Err (cause.TooMany counted.Rounds) else Ok (record d { place = place.Steps; section = record d.section { breaks = d.section.breaks + 1 } })) ≡ leads_to more → IsReached more) [
      | true ↦ λ e. failed (cause.TooMany counted.Rounds) more e
      | false ↦ λ e. subst IsReached (led_same _ more e) (record { few = few; here = here })
    ] e
reached_next place.Steps d number (Opens cpu) more few here is e =
    subst IsReached (led_same _ more e) (record { few = few; here = one_longer (length d.before) (length (d.before ++ d.section ∷ [])) d.header.cpus (length-append d.before (d.section ∷ [])) (last_is (length d.before) d.header.cpus here is.0) })
  where
    one_longer : (n m cpus : ℕ) → m ≡ n + 1 → n + 1 + 1 ≤ cpus → m + 1 ≤ cpus
    one_longer n m cpus e h = omega arith
reached_next place.Steps d number Orders more few here is e = subst IsReached (led_same _ more e) (record { few = few; here = here })
reached_next place.Steps d number Ends more few here is e = subst IsReached (led_same _ more e) (record { few = few; here = here })
reached_next place.Order d number (Turns cpu) more few here is e = subst IsReached (led_same _ more e) (record { few = few; here = here })
reached_next place.Order d number Break more few here is e = subst IsReached (led_same _ more e) (record { few = few; here = here })
reached_next place.Order d number Ends more few here is e = subst IsReached (led_same _ more e) (record { few = few; here = here })
reached_next p d number line more few here is e = absurd is

pub reached_more : (d : Draft) (number : ℕ) (line : Line) (more : Draft) → IsReached d → IsAllowed d.place d line → with_line d number line ≡ leads_to more → IsReached more
reached_more d number line more reached is e = reached_next d.place d number line more reached.few reached.here is e

pub in_header : (p : Place) (cpus before : ℕ) → Reached p cpus before → InHeader p
in_header (place.Header at) cpus before here = here.0
in_header place.Types cpus before here = tt
in_header place.Steps cpus before here = tt
in_header place.Order cpus before here = tt
in_header place.Ended cpus before here = tt

few_before : (p : Place) (cpus before : ℕ) → cpus ≤ 16 → Reached p cpus before → before ≤ 16
few_before (place.Header at) cpus before few here = omega (arith, here.1)
few_before place.Types cpus before few here = omega (arith, here.0)
few_before place.Steps cpus before few here = omega (arith, here)
few_before place.Order cpus before few here = omega (arith, here)
few_before place.Ended cpus before few here = omega (arith, here)

pub fits_reached : (d : Draft) → IsReached d → Fits d
fits_reached d reached = record { cpus = reached.few; before = few_before d.place d.header.cpus (length d.before) reached.few reached.here }

pub reached_first : IsReached empty_draft
reached_first = record { few = omega arith; here = (omega arith, refl, λ more. absurd (omega (arith, more))) }

-- ---- one line

-- the text is that of a line that may stand here, and this is what it leads to
pub record Stepped (p : Place) (d : Draft) (number : ℕ) (text : List ℕ) (more : Draft) : Type 0 where
  pub line : Line
  pub text_is : text ≡ line_text line
  pub allowed : IsAllowed p d line
  pub led : with_line d number line ≡ leads_to more

judged_is : (p : Place) (d : Draft) (number : ℕ) (text : List ℕ) (more : Draft) → InHeader p → judged d number (line_at p d (tokens_of text)) ≡ leads_to more → Stepped p d number text more
judged_is p d number text more within e = by_found (line_at p d (tokens_of text)) refl e
  where
    by_found : (found : Option (Line × Mark)) → line_at p d (tokens_of text) ≡ found → judged d number found ≡ leads_to more → Stepped p d number text more
    by_found None is e = failed cause.BadLine more e
    by_found (Some (line, BadNumber)) is e = failed cause.BadNumber more e
    by_found (Some (line, OutOfRange)) is e = failed cause.OutOfRange more e
    by_found (Some (line, Fine)) is e =
        let says = line_says p d text line within is in
        record { line = line; text_is = says.0; allowed = says.1; led = e }

pub after_line_is : (p : Place) (d : Draft) (number : ℕ) (text : List ℕ) (more : Draft) → InHeader p → after_line p d number (tokens_of text) ≡ leads_to more → Stepped p d number text more
after_line_is (place.Header at) d number text more within e = judged_is (place.Header at) d number text more within e
after_line_is place.Types d number text more within e = judged_is place.Types d number text more within e
after_line_is place.Steps d number text more within e = judged_is place.Steps d number text more within e
after_line_is place.Order d number text more within e = judged_is place.Order d number text more within e
after_line_is place.Ended d number text more within e = failed cause.Trailing more e

pub after_line_reads : (p : Place) (d : Draft) (number : ℕ) (line : Line) → Fits d → IsAllowed p d line → after_line p d number (tokens_of (line_text line)) ≡ with_line d number line
after_line_reads (place.Header at) d number line fits is = ap (judged d number) (line_reads (place.Header at) d line fits is)
after_line_reads place.Types d number line fits is = ap (judged d number) (line_reads place.Types d line fits is)
after_line_reads place.Steps d number line fits is = ap (judged d number) (line_reads place.Steps d line fits is)
after_line_reads place.Order d number line fits is = ap (judged d number) (line_reads place.Order d line fits is)
after_line_reads place.Ended d number line fits is = absurd (none line is)
  where
    none : (line : Line) → IsAllowed place.Ended d line → ⊥
    none (Machine n) is = is
    none line is = is

-- ---- all lines

abbrev pub formed : Draft → Result Draft Refusal
formed d = Ok d

unformed : {P : Type 0} (number : ℕ) (c : Cause) (d : Draft) → refused number c ≡ formed d → P
unformed number c d e = err_not Draft Refusal (record { line = number; cause = c }) d e

-- the lines are texts of lines that lead from one draft to the other, which is at the end
pub record Walked (d : Draft) (number : ℕ) (texts : List (List ℕ)) (end : Draft) : Type 0 where
  pub lines : List Line
  pub texts_are : texts ≡ map line_text lines ++ [] ∷ []
  pub leads : Leads d number lines end
  pub ended : end.place ≡ place.Ended

rest_is : (p : Place) (d : Draft) (number : ℕ) (rest : List ℕ) (end : Draft) → rest_at p d number rest ≡ formed end → (rest ≡ []) × (d ≡ end) × (p ≡ place.Ended)
rest_is (place.Header at) d number rest end e = unformed number cause.Truncated end e
rest_is place.Types d number rest end e = unformed number cause.Truncated end e
rest_is place.Steps d number rest end e = unformed number cause.Truncated end e
rest_is place.Order d number rest end e = unformed number cause.Truncated end e
rest_is place.Ended d number [] end e = (refl, ok_same Draft Refusal d end e, refl)
rest_is place.Ended d number (b ∷ rest) end e = unformed number cause.Trailing end e

pub walked : (d : Draft) (number : ℕ) (text : List ℕ) (texts : List (List ℕ)) (end : Draft) → IsReached d → form_from d number (text ∷ texts) ≡ formed end → Walked d number (text ∷ texts) end
walked d number text [] end reached e =
    let is = rest_is d.place d number text end e in
    record { lines = []; texts_are = ap (λ (rest : List ℕ). rest ∷ []) is.0; leads = is.1; ended = ap (λ (d : Draft). d.place) (sym is.1) ∙ is.2 }
walked d number text (next ∷ texts) end reached e = by_line (after_line d.place d number (tokens_of text)) refl (λ more. walked more (number + 1) next texts end) e
  where
    by_line : (o : Result Draft Cause) → after_line d.place d number (tokens_of text) ≡ o →
        ((more : Draft) → IsReached more → form_from more (number + 1) (next ∷ texts) ≡ formed end → Walked more (number + 1) (next ∷ texts) end) →
        go_on number o (λ more. form_from more (number + 1) (next ∷ texts)) ≡ formed end → Walked d number (text ∷ next ∷ texts) end
    by_line (Err c) is again e = unformed number c end e
    by_line (Ok more) is again e =
        let step = after_line_is d.place d number text more (in_header d.place d.header.cpus (length d.before) reached.here) is in
        let rest = again more (reached_more d number step.line more reached step.allowed step.led) e in
        record {
          lines = step.line ∷ rest.lines;
          texts_are = ap (λ (first : List ℕ). first ∷ next ∷ texts) step.text_is ∙ ap (λ (more : List (List ℕ)). line_text step.line ∷ more) rest.texts_are;
          leads = (step.allowed, (more, (step.led, rest.leads)));
          ended = rest.ended;
        }

rest_ends : (p : Place) (d : Draft) (number : ℕ) → p ≡ place.Ended → rest_at p d number [] ≡ formed d
rest_ends p d number e = subst (λ p. rest_at p d number [] ≡ formed d) (sym e) refl

form_step : (d : Draft) (number : ℕ) (text : List ℕ) (texts : List (List ℕ)) →
    form_from d number (text ∷ (texts ++ [] ∷ [])) ≡ go_on number (after_line d.place d number (tokens_of text)) (λ more. form_from more (number + 1) (texts ++ [] ∷ []))
form_step d number text [] = refl
form_step d number text (next ∷ texts) = refl

pub walks : (d : Draft) (number : ℕ) (lines : List Line) (end : Draft) → IsReached d → Leads d number lines end → end.place ≡ place.Ended → form_from d number (map line_text lines ++ [] ∷ []) ≡ formed end
walks d number [] end reached leads ended = rest_ends d.place d number (ap (λ (d : Draft). d.place) leads ∙ ended) ∙ ap formed leads
walks d number (line ∷ lines) end reached leads ended =
    form_step d number (line_text line) (map line_text lines)
    ∙ ap (λ o. go_on number o (λ more. form_from more (number + 1) (map line_text lines ++ [] ∷ []))) (after_line_reads d.place d number line (fits_reached d reached) leads.0 ∙ leads.1.1.0)
    ∙ walks leads.1.0 (number + 1) lines end (reached_more d number line leads.1.0 reached leads.0 leads.1.1.0) leads.1.1.1 ended

pub lines_inked : (d : Draft) (number : ℕ) (lines : List Line) (end : Draft) → IsReached d → Leads d number lines end → list_all inked (map line_text lines) ≡ true
lines_inked d number [] end reached leads = refl
lines_inked d number (line ∷ lines) end reached leads =
    and_true (inked (line_text line)) (list_all inked (map line_text lines)) (line_inked d.place d line (fits_reached d reached) leads.0)
    (lines_inked leads.1.0 (number + 1) lines end (reached_more d number line leads.1.0 reached leads.0 leads.1.1.0) leads.1.1.1)

-- ---- the whole

pub some_line : (text : List ℕ) → (line : List ℕ) × (lines : List (List ℕ)) × (lines_of text ≡ line ∷ lines)
some_line text = by_lines (lines_of text) refl
  where
    by_lines : (lines : List (List ℕ)) → lines_of text ≡ lines → (line : List ℕ) × (more : List (List ℕ)) × (lines_of text ≡ line ∷ more)
    by_lines [] e = absurd (omega (arith, length-slice_split (λ b. b == 10) text, ap length e))
    by_lines (line ∷ lines) e = (line, lines, e)

abbrev whole : Bundle → Result Bundle Refusal
whole b = Ok b

read_spells : (bytes : List ℕ) (b : Bundle) → read bytes ≡ whole b → Spells bytes b
read_spells bytes b e = by_form (form_of bytes) refl e
  where
    by_fault : (d : Draft) (fault : Option Refusal) → later_fault d ≡ fault → unless d fault ≡ whole b → (later_fault d ≡ None) × (b ≡ bundle_of d)
    by_fault d None is e = (is, sym (ok_same Bundle Refusal (bundle_of d) b e))
    by_fault d (Some refusal) is e = err_not Bundle Refusal refusal b e

    spells : (d : Draft) (text : List ℕ) (texts : List (List ℕ)) → lines_of bytes ≡ text ∷ texts → Walked empty_draft 1 (text ∷ texts) d → (later_fault d ≡ None) × (b ≡ bundle_of d) → Spells bytes b
    spells d text texts cut walk later =
        record { lines = walk.lines; text = text_is bytes (map line_text walk.lines) (cut ∙ walk.texts_are); said = d; leads = walk.leads; ended = walk.ended; faultless = later.0; bundle = later.1 }

    by_form : (o : Result Draft Refusal) → form_of bytes ≡ o → after_form o ≡ whole b → Spells bytes b
    by_form (Err refusal) is e = err_not Bundle Refusal refusal b e
    by_form (Ok d) is e =
        let cut = some_line bytes in
        spells d cut.0 cut.1 cut.2 (walked empty_draft 1 cut.0 cut.1 d reached_first (sym (ap (form_from empty_draft 1) cut.2) ∙ is)) (by_fault d (later_fault d) refl e)

spelled_read : (bytes : List ℕ) (b : Bundle) → Spells bytes b → read bytes ≡ whole b
spelled_read bytes b spells =
    let texts = map line_text spells.lines in
    ap read spells.text
    ∙ ap (λ lines. after_form (form_from empty_draft 1 lines)) (lines_of-lines texts (lines_inked empty_draft 1 spells.lines spells.said reached_first spells.leads))
    ∙ ap after_form (walks empty_draft 1 spells.lines spells.said reached_first spells.leads spells.ended)
    ∙ ap (unless spells.said) spells.faultless
    ∙ ap whole (sym spells.bundle)

pub spelling_is_reading : SpellingIsReading
spelling_is_reading bytes b = (read_spells bytes b, spelled_read bytes b)
