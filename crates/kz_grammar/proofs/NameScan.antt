-- The step lines one after the other: all sentences hold of them, or the first line that breaks one.
use Rattle.std.proofs.Common.{◌≡◌, ◌≢◌, ⊎_elim, ℕ, ◌≤◌, ◌==◌, Bool, true, false, not, List, [], ◌∷◌, ◌++◌, length, Option, Some, None, refl, ap, sym, ◌∙◌, subst, arith, true≢false, length-append}
use Rattle.std.specs.Prelude.{All, Contains}
use Rattle.std.specs.Option.{IfSome, option_map_or}
use Rattle.std.specs.Str.{bytes_eq}
use Rattle.std.specs.Cmp.Lexicographic.{bytes_decides}
use Rattle.std.proofs.lemmas.Bool.{not-true, not-false}
use Rattle.std.proofs.lemmas.List.{append_assoc, append-nil, length-map}
use Rattle.std.proofs.lemmas.List.Elements.{All-nil, All-push, All-weaker, All-contains_itself, Contains-push, Contains-push_cases, Contains-append_left}
use Rattle.kz_model.specs.declared.grammar.Cause.{Cause}
use Rattle.kz_model.specs.declared.grammar.Cause.TheVariants as cause
use Rattle.kz_model.specs.declared.grammar.Counted.TheVariants as counted
use Rattle.kz_model.specs.declared.grammar.Refusal.{Refusal}
use Rattle.kz_model.specs.Grammar.Stages.{else_fault, fault_if, Row, has, row_of, row_names, is_there, binds, type_in, name_in, gives_to, with_bound, with_row, rows_of, CpuLine, bound_fault, names_from}
use Rattle.kz_grammar.specs.Names.{Allocates, IsBound, AreDifferent, AreNamed, HasOtherType, HasOtherCpu, IsOneNameTooMany, HasUnknownName, BreaksNames, IsNameFault}
use Rattle.kz_bundle.proofs.Choices.{equal, itself}
use Rattle.kz_grammar.proofs.Members.{is_among, is_not_among}
use Rattle.kz_grammar.proofs.Cases.{SuitsRow, test_first, test_last, bound_first, if_some}
use Rattle.kz_grammar.proofs.RowFacts.{is_binding, is_allocation, new_row, with_bound-old, with_bound-new, row_stays, row_is_new, row_from, HasFirst, is_bound, bound_has_row, rows_from}
use Rattle.kz_grammar.proofs.NameRows.{named_has_row, row_has_name, names_differ}

-- the row of an `a` or `z` line
pub record IsRowOf (rows : List Row) (line : CpuLine) (name of : List ℕ) : Type 0 where
  pub row : Row
  pub found : row_of name rows ≡ Some row
  pub one_type : row.of ≡ of
  pub one_cpu : row.cpu ≡ line.0

-- the lines so far break no sentence, and these are their rows
pub record IsSoFar (types : List (List ℕ)) (whole before : List CpuLine) (rows : List Row) : Type 0 where
  pub declared : All (λ line. IfSome (type_in line.1.said) (Contains types)) before
  pub bound : All (λ line. IfSome (name_in line.1.said) (IsBound whole)) before
  pub gifts : All (λ line. gives_to line.1.said ≢ Some line.0) before
  pub of_lines : (line : CpuLine) (name of : List ℕ) → Contains before line → Allocates line name of → IsRowOf rows line name of
  pub of_rows : (name : List ℕ) (row : Row) → row_of name rows ≡ Some row → HasFirst before name row
  pub few : length rows ≤ 100000
  pub different : AreDifferent (row_names rows)

pub names_long : (rows : List Row) → length (row_names rows) ≡ length rows
names_long rows = length-map rows (λ row. row.name)

same_row : (rows : List Row) (name : List ℕ) (one other : Row) → row_of name rows ≡ Some one → row_of name rows ≡ Some other → one ≡ other
same_row rows name one other e f = cc

pub are_named : (types : List (List ℕ)) (whole before : List CpuLine) (rows : List Row) → IsSoFar types whole before rows → AreNamed types whole before
are_named types whole before rows h = record {
  one_type_and_cpu = λ one other name of type there too first second.
      let a = h.of_lines one name of there first in
      let b = h.of_lines other name type too second in
      let same = same_row rows name a.row b.row a.found b.found in
      (sym a.one_type ∙ ap (λ (row : Row). row.of) same ∙ b.one_type, sym a.one_cpu ∙ ap (λ (row : Row). row.cpu) same ∙ b.one_cpu);
  declared = h.declared;
  bound = h.bound;
  gifts = h.gifts;
  few = record {
    names = row_names rows;
    few = omega (arith, h.few, names_long rows);
    each = λ name bound. let is = h.of_lines bound.line name bound.of bound.there bound.allocates in row_has_name name rows is.row is.found;
  };
}

pub none_yet : (types : List (List ℕ)) (whole : List CpuLine) → IsSoFar types whole [] []
none_yet types whole = record {
  declared = All-nil (λ (line : CpuLine). IfSome (type_in line.1.said) (Contains types));
  bound = All-nil (λ (line : CpuLine). IfSome (name_in line.1.said) (IsBound whole));
  gifts = All-nil (λ (line : CpuLine). gives_to line.1.said ≢ Some line.0);
  of_lines = λ line name of there. absurd (omega (arith, there.1));
  of_rows = λ name row e. absurd (cc);
  few = omega arith;
  different = λ i j d lt le. absurd (omega (arith, le));
}

-- ---- one line that breaks none

abbrev pub Suits : List Row → CpuLine → Type 0
Suits rows line = (bound : List ℕ × List ℕ) → binds line.1.said ≡ Some bound → SuitsRow rows line.0 bound (row_of bound.0 rows)

row_after : (rows : List Row) (line : CpuLine) (name of : List ℕ) → Allocates line name of → Suits rows line → IsRowOf (with_row rows line) line name of
row_after rows line name of is suits = by_row (row_of name rows) refl (suits (name, of) binding)
  where
    binding : binds line.1.said ≡ Some (name, of)
    binding = is_binding line name of is

    by_row : (found : Option Row) → row_of name rows ≡ found → SuitsRow rows line.0 (name, of) found → IsRowOf (with_row rows line) line name of
    by_row None e room = record {
      row = new_row line.0 (name, of);
      found = ap (λ o. row_of name (with_bound rows line.0 o)) binding ∙ row_is_new rows line.0 (name, of) e;
      one_type = refl;
      one_cpu = refl;
    }
    by_row (Some row) e same = record { row = row; found = row_stays name rows row line.0 (binds line.1.said) e; one_type = same.0; one_cpu = same.1 }

rows_few : (rows : List Row) (cpu : ℕ) (o : Option (List ℕ × List ℕ)) → length rows ≤ 100000 → ((bound : List ℕ × List ℕ) → o ≡ Some bound → SuitsRow rows cpu bound (row_of bound.0 rows)) → length (with_bound rows cpu o) ≤ 100000
rows_few rows cpu None few suits = few
rows_few rows cpu (Some bound) few suits = by_row (row_of bound.0 rows) refl (suits bound refl)
  where
    by_row : (found : Option Row) → row_of bound.0 rows ≡ found → SuitsRow rows cpu bound found → length (with_bound rows cpu (Some bound)) ≤ 100000
    by_row None e room = omega (arith, ap (λ (r : List Row). length r) (with_bound-new rows cpu bound e), length-append rows (new_row cpu bound ∷ []))
    by_row (Some row) e same = omega (arith, ap (λ (r : List Row). length r) (with_bound-old rows cpu bound row e))

pub rows_differ : (rows : List Row) (cpu : ℕ) (o : Option (List ℕ × List ℕ)) → AreDifferent (row_names rows) → AreDifferent (row_names (with_bound rows cpu o))
rows_differ rows cpu None differ = differ
rows_differ rows cpu (Some bound) differ = by_row (row_of bound.0 rows) refl
  where
    by_row : (found : Option Row) → row_of bound.0 rows ≡ found → AreDifferent (row_names (with_bound rows cpu (Some bound)))
    by_row None e = subst (λ (r : List Row). AreDifferent (row_names r)) (sym (with_bound-new rows cpu bound e)) (names_differ rows (new_row cpu bound) differ e)
    by_row (Some row) e = subst (λ (r : List Row). AreDifferent (row_names r)) (sym (with_bound-old rows cpu bound row e)) differ

-- one line more, which breaks no sentence
pub one_more : (types : List (List ℕ)) (whole before : List CpuLine) (rows : List Row) (line : CpuLine) → IsSoFar types whole before rows →
    IfSome (type_in line.1.said) (Contains types) → IfSome (name_in line.1.said) (IsBound whole) → gives_to line.1.said ≢ Some line.0 → Suits rows line →
    IsSoFar types whole (before ++ line ∷ []) (with_row rows line)
one_more types whole before rows line h type name gift suits = record {
  declared = All-push (λ (line : CpuLine). IfSome (type_in line.1.said) (Contains types)) before line h.declared type;
  bound = All-push (λ (line : CpuLine). IfSome (name_in line.1.said) (IsBound whole)) before line h.bound name;
  gifts = All-push (λ (line : CpuLine). gives_to line.1.said ≢ Some line.0) before line h.gifts gift;
  of_lines = λ other name of there is.
      ⊎_elim
      (λ old. let was = h.of_lines other name of old is in record { row = was.row; found = row_stays name rows was.row line.0 (binds line.1.said) was.found; one_type = was.one_type; one_cpu = was.one_cpu })
      (λ (new : line ≡ other). subst (λ (l : CpuLine). IsRowOf (with_row rows line) l name of) new (row_after rows line name of (subst (λ (l : CpuLine). Allocates l name of) (sym new) is) suits))
      (Contains-push_cases before line other there);
  of_rows = λ name row e.
      ⊎_elim
      (λ old. let was = h.of_rows name row old in record { line = was.line; there = Contains-append_left before (line ∷ []) was.line was.there; allocates = was.allocates; on = was.on })
      (λ new. record { line = line; there = Contains-push before line; allocates = is_allocation line (name, row.of) new.bound; on = new.on })
      (row_from name rows row line.0 (binds line.1.said) e);
  few = rows_few rows line.0 (binds line.1.said) h.few suits;
  different = rows_differ rows line.0 (binds line.1.said) h.different;
}

-- ---- all lines

-- no line breaks a sentence, or the first that does
abbrev pub Outcome : List (List ℕ) → List CpuLine → Option Refusal → Type 0
Outcome types whole None = AreNamed types whole whole
Outcome types whole (Some refusal) = IsNameFault types whole refusal.line refusal.cause

module _ (types : List (List ℕ)) (whole before : List CpuLine) (rows : List Row) (line : CpuLine) (lines : List CpuLine) where
  abbrev After : Option Refusal → Type 0
  After o = Outcome types whole (else_fault o (names_from types (rows_of whole) (with_row rows line) lines))

  -- the line breaks this sentence
  breaks : whole ≡ before ++ line ∷ lines → IsSoFar types whole before rows → (cause : Cause) → BreaksNames types whole cause before line → After (Some (record { line = line.1.line; cause = cause }))
  breaks parts h cause broken = record { before = before; line = line; after = lines; parts = parts; numbered = refl; broken = broken; first = are_named types whole before rows h }

  module _ (parts : whole ≡ before ++ line ∷ lines) (h : IsSoFar types whole before rows) where
    two_types : (bound : List ℕ × List ℕ) (row : Row) → binds line.1.said ≡ Some bound → row_of bound.0 rows ≡ Some row → bytes_eq row.of bound.1 ≡ false → HasOtherType before line
    two_types bound row is found other =
        let first = h.of_rows bound.0 row found in
        record {
          name = bound.0;
          of = bound.1;
          type = row.of;
          earlier = first.line;
          there = first.there;
          here = is_allocation line bound is;
          first = first.allocates;
          differ = λ same. true≢false (sym ((bytes_decides row.of bound.1).1 (sym same)) ∙ other);
        }

    two_cpus : (bound : List ℕ × List ℕ) (row : Row) → binds line.1.said ≡ Some bound → row_of bound.0 rows ≡ Some row → row.of ≡ bound.1 → row.cpu ≢ line.0 → HasOtherCpu before line
    two_cpus bound row is found same other =
        let first = h.of_rows bound.0 row found in
        record {
          name = bound.0;
          of = bound.1;
          earlier = first.line;
          there = first.there;
          here = is_allocation line bound is;
          first = subst (λ (of : List ℕ). Allocates first.line bound.0 of) same first.allocates;
          differ = λ here. other (sym first.on ∙ sym here);
        }

    one_too_many : (bound : List ℕ × List ℕ) → binds line.1.said ≡ Some bound → row_of bound.0 rows ≡ None → length rows ≡ 100000 → IsOneNameTooMany before line
    one_too_many bound is none many = record {
      names = row_names rows;
      many = names_long rows ∙ many;
      different = h.different;
      bound = All-weaker (Contains (row_names rows)) (IsBound before) (λ name there. let row = named_has_row name rows there in is_bound before name row.0 (h.of_rows name row.0 row.1)) (row_names rows) (All-contains_itself (row_names rows));
      name = bound.0;
      of = bound.1;
      here = is_allocation line bound is;
      new = λ was. let row = h.of_lines was.line bound.0 was.of was.there was.allocates in no_row bound.0 row.row none row.found;
    }
      where
        no_row : (name : List ℕ) (row : Row) → row_of name rows ≡ None → row_of name rows ≡ Some row → ⊥
        no_row name row e f = cc

    unknown_name : (name : List ℕ) → name_in line.1.said ≡ Some name → is_there (row_of name (rows_of whole)) ≡ false → HasUnknownName whole line
    unknown_name name is none = record {
      name = name;
      here = is;
      unknown = λ bound. let row = bound_has_row [] whole bound.line name bound.of bound.there bound.allocates in true≢false (sym (ap is_there row.1) ∙ none);
    }

    known_name : (name : List ℕ) (found : Option Row) → row_of name (rows_of whole) ≡ found → is_there found ≡ true → IsBound whole name
    known_name name None e there = absurd (true≢false (sym there))
    known_name name (Some row) e there = ⊎_elim (λ none. absurd (nothing row none)) (λ first. is_bound whole name row first) (rows_from name [] row whole e)
      where
        nothing : (row : Row) → None ≡ Some row → ⊥
        nothing row e = cc

-- the lines from here on
pub scan : (types : List (List ℕ)) (whole before : List CpuLine) (rows : List Row) (lines : List CpuLine) → whole ≡ before ++ lines → IsSoFar types whole before rows →
    Outcome types whole (names_from types (rows_of whole) rows lines)
scan types whole before rows [] parts h = subst (λ (lines : List CpuLine). AreNamed types whole lines) (sym (parts ∙ append-nil before)) (are_named types whole before rows h)
scan types whole before rows (line ∷ lines) parts h =
    let All : List Row = rows_of whole in
    let N : ℕ = line.1.line in
    let name_test : List ℕ → Bool = λ name. not (is_there (row_of name All)) in
    let gift_test : ℕ → Bool = λ to. to == line.0 in
    let gift : Option Refusal = option_map_or (λ to. fault_if (gift_test to) N cause.GiveToSelf) (gives_to line.1.said) None in
    let names : Option Refusal = option_map_or (λ name. fault_if (name_test name) N cause.UnknownName) (name_in line.1.said) None in
    let P : Option Refusal → Type 0 = After types whole before rows line lines in
    let say = breaks types whole before rows line lines parts h in
    test_first P (type_in line.1.said) (λ of. not (has of types)) N cause.UnknownType (else_fault (bound_fault rows N line.0 (binds line.1.said)) (else_fault names gift))
    (λ of is wrong. say cause.UnknownType (record { of = of; here = is; unknown = is_not_among of types (not-true (has of types) wrong) }))
    (λ type_known. bound_first P rows N line.0 (binds line.1.said) (else_fault names gift) h.few
    (λ bound row is found other. say cause.NameOfTwoTypes (two_types types whole before rows line lines parts h bound row is found other))
    (λ bound row is found same other. say cause.NameOfTwoCpus (two_cpus types whole before rows line lines parts h bound row is found same other))
    (λ bound is none many. say (cause.TooMany counted.Names) (one_too_many types whole before rows line lines parts h bound is none many))
    (λ suits. test_first P (name_in line.1.said) name_test N cause.UnknownName gift
    (λ name is wrong. say cause.UnknownName (unknown_name types whole before rows line lines parts h name is (not-true (is_there (row_of name All)) wrong)))
    (λ name_known. test_last P (gives_to line.1.said) gift_test N cause.GiveToSelf
    (λ to is wrong. say cause.GiveToSelf (is ∙ ap (λ n. Some n) (equal to line.0 wrong)))
    (λ gift_fine.
    scan types whole (before ++ line ∷ []) (with_row rows line) lines (parts ∙ sym (append_assoc before (line ∷ []) lines))
    (one_more types whole before rows line h
    (if_some (type_in line.1.said) (Contains types) (λ of is. is_among of types (not-false (has of types) (type_known of is))))
    (if_some (name_in line.1.said) (IsBound whole) (λ name is. known_name types whole before rows line lines parts h name (row_of name All) refl (not-false (is_there (row_of name All)) (name_known name is))))
    (λ is. true≢false (sym (itself line.0) ∙ gift_fine line.0 is))
    suits)))))
