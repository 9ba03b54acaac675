-- What is found of a line, by the rows of its place: the header, `cpu` lines, step lines and the order.
use Rattle.std.proofs.Common.{◌≡◌, ℕ, ◌+◌, ◌-◌, ◌^◌, ◌==◌, ◌&&◌, Bool, true, false, not, true≢false, if◌then◌else◌, List, [], ◌∷◌, length, codes, Option, Some, None, refl, ap, sym, subst}
use Rattle.kz_model.specs.declared.bundle.Seed.{Seed}
use Rattle.kz_model.specs.declared.bundle.Seed.TheVariants.{Plain}
use Rattle.kz_model.specs.declared.grammar.Mark.{Mark}
use Rattle.kz_model.specs.declared.grammar.Mark.TheVariants.{Fine}
use Rattle.kz_model.specs.Grammar.Tokens.{is, is_run, number_in, worse}
use Rattle.kz_model.specs.Grammar.Steps.{NamedStep, number_line, step_line}
use Rattle.kz_model.specs.Grammar.Form.{Line, Machine, SeedOf, Cpus, Frames, Pages, Budget, Magazine, Depot, Opens, Does, Break, Orders, Turns, Ends, Draft, is_last, is_head, is_alone, as_line, seed_of, seed_line, header_line, cpu_line, line_of_steps, line_of_order}
use Rattle.kz_bundle.proofs.Choices.{wrong, is_same}
use Rattle.kz_bundle.proofs.Grammar.{worse_fine}
use Rattle.kz_grammar.specs.Forms.{Token, Slot, Word, Name, Hex, HasOneOf, number_row, number_rows, header_rows, step_rows, section_rows, order_rows}
use Rattle.kz_grammar.specs.Forms as slot
use Rattle.kz_grammar.proofs.Rows.{IsRightBy, IsRightByRows, fits_row, skip_row, at_row, no_rows}

-- the same as a line
pub as_line_judged : {A : Type 0} (F : List Token → Type 0) (words : List (List ℕ)) (f : A → Line) (found : Option (A × Mark)) → IsRightBy F words found → IsRightBy F words (as_line f found)
as_line_judged F words f None judged = judged
as_line_judged F words f (Some found) judged = judged

-- rows of a line that says one thing
pub as_line_rows : {A : Type 0} {rows : List (List Slot)} {words : List (List ℕ)} (f : A → Line) {found : Option (A × Mark)} → IsRightByRows A rows words found → IsRightByRows Line rows words (as_line f found)
as_line_rows {A} {rows} {words} f {found} rest = record { judged = as_line_judged (HasOneOf rows) words f found rest.judged }

-- ---- a word and a number

pub number_judged : (word : List ℕ) (low high : ℕ) (words : List (List ℕ)) → IsRightByRows ℕ (number_rows word low high) words (number_line word low high words)
number_judged word low high [] = skip_row refl no_rows
number_judged word low high (w ∷ []) = skip_row refl no_rows
number_judged word low high (w ∷ n ∷ []) = at_row _ refl (sym (worse_fine (number_in low high n).1)) no_rows
number_judged word low high (w ∷ n ∷ x ∷ words) = skip_row refl no_rows

-- ---- the header

abbrev seed_rows : List (List Slot)
seed_rows = (Word (codes "seed") ∷ Word (codes "plain") ∷ []) ∷ (Word (codes "seed") ∷ slot.Number (codes "plain" ∷ []) 0 (2 ^ 64 - 1) ∷ []) ∷ []

seed_judged : (words : List (List ℕ)) → IsRightByRows Seed seed_rows words (seed_line words)
seed_judged [] = skip_row refl (skip_row refl no_rows)
seed_judged (w ∷ []) = skip_row refl (skip_row refl no_rows)
seed_judged (w ∷ n ∷ []) =
    let number = number_in 0 (2 ^ 64 - 1) n in
    subst (IsRightByRows Seed seed_rows (w ∷ n ∷ [])) (same_choice (is (codes "seed") w) (is (codes "plain") n) (is_run n) (Plain, Fine) (seed_of number) plain_runs)
    (at_row _ refl refl (at_row _ refl (sym (worse_fine number.1)) no_rows))
  where
    plain_runs : is (codes "plain") n ≡ true → is_run n ≡ true
    plain_runs e = ap is_run (is_same (codes "plain") n e)

    same_choice : {B : Type 0} (a b c : Bool) (x y : B) → (b ≡ true → c ≡ true) →
        (if a && b then Some x else if a && (not b && true && c) then Some y else None) ≡ (if a && c then (if b then Some x else Some y) else None)
    same_choice true true true x y h = refl
    same_choice true true false x y h = absurd (true≢false (sym (h refl)))
    same_choice true false true x y h = refl
    same_choice true false false x y h = refl
    same_choice false b c x y h = refl
seed_judged (w ∷ n ∷ x ∷ words) = skip_row refl (skip_row refl no_rows)

pub header_judged : (at : ℕ) (words : List (List ℕ)) → IsRightByRows Line (header_rows at) words (header_line at words)
header_judged at words =
    by_test (at == 0) (as_line_rows Machine (number_judged (codes "machine") 1 1 words))
    (by_test (at == 1) (as_line_rows SeedOf (seed_judged words))
    (by_test (at == 2) (as_line_rows Cpus (number_judged (codes "cpus") 1 16 words))
    (by_test (at == 3) (as_line_rows Frames (number_judged (codes "frames") 1 8192 words))
    (by_test (at == 4) (as_line_rows Pages (number_judged (codes "pages") 1 4096 words))
    (by_test (at == 5) (as_line_rows Budget (number_judged (codes "budget") 1 128 words))
    (by_test (at == 6) (as_line_rows Magazine (number_judged (codes "magazine") 1 32 words))
    (as_line_rows Depot (number_judged (codes "depot") 0 16 words))))))))
  where
    by_test : (test : Bool) {rows others : List (List Slot)} {found other : Option (Line × Mark)} → IsRightByRows Line rows words found → IsRightByRows Line others words other →
        IsRightByRows Line (if test then rows else others) words (if test then found else other)
    by_test true here there = here
    by_test false here there = there

-- ---- step lines

pub step_judged : (cpus : ℕ) (words : List (List ℕ)) → IsRightByRows NamedStep (step_rows cpus) words (step_line cpus words)
step_judged cpus [] =
    skip_row refl (skip_row refl (skip_row refl (skip_row refl (skip_row refl (skip_row refl (skip_row refl (skip_row refl (skip_row refl (skip_row refl no_rows)))))))))
step_judged cpus (w ∷ []) =
    skip_row refl (skip_row refl (skip_row refl (skip_row refl (skip_row refl (skip_row refl (skip_row refl (skip_row refl (skip_row refl (skip_row refl no_rows)))))))))
step_judged cpus (w ∷ x ∷ []) =
    skip_row refl (skip_row refl (at_row _ refl refl (skip_row refl (skip_row refl (at_row _ refl refl (skip_row refl (skip_row refl (at_row _ refl refl (at_row _ refl refl no_rows)))))))))
step_judged cpus (w ∷ x ∷ y ∷ []) =
    at_row _ refl refl (at_row _ refl refl (skip_row refl (at_row _ refl refl (at_row _ refl (sym (worse_fine (number_in 0 (cpus - 1) y).1)) (skip_row refl (skip_row refl (skip_row refl (skip_row refl (skip_row refl no_rows)))))))))
step_judged cpus (w ∷ x ∷ y ∷ v ∷ []) =
    skip_row refl (skip_row refl (skip_row refl (skip_row refl (skip_row refl (skip_row refl (at_row _ refl (ap (worse (number_in 0 8191 y).1) (sym (worse_fine (number_in 1 32 v).1))) (at_row _ refl (sym (worse_fine (number_in 0 8191 y).1)) (skip_row refl (skip_row refl no_rows)))))))))
step_judged cpus (w ∷ x ∷ y ∷ v ∷ u ∷ words) =
    skip_row refl (skip_row refl (skip_row refl (skip_row refl (skip_row refl (skip_row refl (skip_row refl (skip_row refl (skip_row refl (skip_row refl no_rows)))))))))

-- ---- a CPU's section

-- what is found is none where the line begins so
unless : {rows : List (List Slot)} {words : List (List ℕ)} (test : Bool) {found : Option (Line × Mark)} → (test ≡ true → found ≡ None) → IsRightByRows Line rows words found → IsRightByRows Line rows words (if test then None else found)
unless {rows} {words} true none judged = subst (IsRightByRows Line rows words) (none refl) judged
unless false none judged = judged

no_step : (cpus : ℕ) (words : List (List ℕ)) → is_head (codes "cpu") words ≡ true → step_line cpus words ≡ None
no_step cpus [] e = wrong e
no_step cpus (w ∷ words) e = subst (λ w. step_line cpus (w ∷ words) ≡ None) (sym (is_same (codes "cpu") w e)) (none words)
  where
    none : (words : List (List ℕ)) → step_line cpus (codes "cpu" ∷ words) ≡ None
    none [] = refl
    none (x ∷ []) = refl
    none (x ∷ y ∷ []) = refl
    none (x ∷ y ∷ v ∷ []) = refl
    none (x ∷ y ∷ v ∷ u ∷ words) = refl

module _ (cpus : ℕ) where
  steps_rows : (words : List (List ℕ)) → IsRightByRows Line (step_rows cpus) words (as_line Does (step_line cpus words))
  steps_rows words = as_line_rows Does (step_judged cpus words)

  no_cpu : (words : List (List ℕ)) → is_head (codes "cpu") words ≡ true → as_line Does (step_line cpus words) ≡ None
  no_cpu words e = ap (as_line Does) (no_step cpus words e)

  -- after the last CPU's section no other begins
  last_rows : (words : List (List ℕ)) → IsRightByRows Line (step_rows cpus) words (if is_head (codes "cpu") words then None else as_line Does (step_line cpus words))
  last_rows words = unless (is_head (codes "cpu") words) (no_cpu words) (steps_rows words)

  -- the next CPU's line, beside step lines
  module _ (next : ℕ) where
    abbrev beside : List (List Slot)
    beside = number_row (codes "cpu") next next ∷ step_rows cpus

    opens : (words : List (List ℕ)) → IsRightByRows ℕ (step_rows cpus) words None → IsRightByRows ℕ beside words (number_line (codes "cpu") next next words)
    opens [] none = skip_row refl none
    opens (w ∷ []) none = skip_row refl none
    opens (w ∷ n ∷ []) none = at_row _ refl (sym (worse_fine (number_in next next n).1)) none
    opens (w ∷ n ∷ x ∷ words) none = skip_row refl none

    none_of_steps : (words : List (List ℕ)) → is_head (codes "cpu") words ≡ true → IsRightByRows ℕ (step_rows cpus) words None
    none_of_steps words e = let none = subst (IsRightByRows NamedStep (step_rows cpus) words) (no_step cpus words e) (step_judged cpus words) in record { judged = none.judged }

    not_opened : (words : List (List ℕ)) → is_head (codes "cpu") words ≡ false → fits_row (number_row (codes "cpu") next next) words ≡ false
    not_opened [] e = refl
    not_opened (w ∷ []) e = refl
    not_opened (w ∷ n ∷ []) e = ap (λ b. b && is_run n) e
    not_opened (w ∷ n ∷ x ∷ words) e = refl

    beside_rows : (words : List (List ℕ)) → IsRightByRows Line beside words (if is_head (codes "cpu") words then cpu_line next words else as_line Does (step_line cpus words))
    beside_rows words = by_head (is_head (codes "cpu") words) refl
      where
        by_head : (b : Bool) → is_head (codes "cpu") words ≡ b → IsRightByRows Line beside words (if b then cpu_line next words else as_line Does (step_line cpus words))
        by_head true e = as_line_rows Opens (opens words (none_of_steps words e))
        by_head false e = skip_row (not_opened words e) (steps_rows words)

and_true_is : (b : Bool) → b ≡ (b && true)
and_true_is true = refl
and_true_is false = refl

and_false_is : (b : Bool) → false ≡ (b && false)
and_false_is true = refl
and_false_is false = refl

module _ (d : Draft) where
  abbrev rows_of : Bool → List (List Slot)
  rows_of last =
      (Word (codes "--") ∷ [])
      ∷ (if last then (Word (codes "end") ∷ []) ∷ (Word (codes "order") ∷ []) ∷ step_rows d.header.cpus
      else number_row (codes "cpu") (length d.before + 1) (length d.before + 1) ∷ step_rows d.header.cpus)

  abbrev found : Bool → Bool → Bool → List (List ℕ) → Option (Line × Mark)
  found last ends orders words =
      if is_alone (codes "--") words then Some (Break, Fine)
      else if ends then Some (Ends, Fine)
      else if orders then Some (Orders, Fine)
      else if is_head (codes "cpu") words
      then (if last then None else cpu_line (length d.before + 1) words)
      else as_line Does (step_line d.header.cpus words)

  by_last : (last : Bool) (words : List (List ℕ)) → IsRightByRows Line (rows_of last) words (found last (is_alone (codes "end") words && last) (is_alone (codes "order") words && last) words)
  by_last true [] = skip_row refl (skip_row refl (skip_row refl (last_rows d.header.cpus [])))
  by_last true (w ∷ []) =
      subst (λ b. IsRightByRows Line (rows_of true) (w ∷ []) (found true b (is (codes "order") w && true) (w ∷ []))) (and_true_is (is (codes "end") w))
      (subst (λ b. IsRightByRows Line (rows_of true) (w ∷ []) (found true (is (codes "end") w) b (w ∷ []))) (and_true_is (is (codes "order") w))
      (at_row _ refl refl (at_row _ refl refl (at_row _ refl refl (last_rows d.header.cpus (w ∷ []))))))
  by_last true (w ∷ x ∷ words) = skip_row refl (skip_row refl (skip_row refl (last_rows d.header.cpus (w ∷ x ∷ words))))
  by_last false [] = skip_row refl (beside_rows d.header.cpus (length d.before + 1) [])
  by_last false (w ∷ []) =
      subst (λ b. IsRightByRows Line (rows_of false) (w ∷ []) (found false b (is (codes "order") w && false) (w ∷ []))) (and_false_is (is (codes "end") w))
      (subst (λ b. IsRightByRows Line (rows_of false) (w ∷ []) (found false false b (w ∷ []))) (and_false_is (is (codes "order") w))
      (at_row _ refl refl (beside_rows d.header.cpus (length d.before + 1) (w ∷ []))))
  by_last false (w ∷ x ∷ words) = skip_row refl (beside_rows d.header.cpus (length d.before + 1) (w ∷ x ∷ words))

  pub section_judged : (words : List (List ℕ)) → IsRightByRows Line (section_rows d) words (line_of_steps d words)
  section_judged words = by_last (is_last d) words

-- ---- the order

pub order_judged : (d : Draft) (words : List (List ℕ)) → IsRightByRows Line (order_rows d.header.cpus) words (line_of_order d words)
order_judged d [] = skip_row refl (skip_row refl (skip_row refl no_rows))
order_judged d (w ∷ []) =
    let number = number_in 0 (d.header.cpus - 1) w in
    subst (IsRightByRows Line (order_rows d.header.cpus) (w ∷ [])) (same_choice (is (codes "--") w) (is (codes "end") w) (is_run w) (Break, Fine) (Ends, Fine) number)
    (at_row _ refl refl (at_row _ refl refl (at_row (Turns number.0, number.1) refl (sym (worse_fine number.1)) no_rows)))
  where
    same_choice : (a b c : Bool) (x y : Line × Mark) (n : ℕ × Mark) →
        (if a then Some x else if b then Some y else if (not a && (not b && true)) && c then Some (Turns n.0, n.1) else None)
        ≡ (if a then Some x else if b then Some y else as_line Turns (if c then Some n else None))
    same_choice true b c x y n = refl
    same_choice false true c x y n = refl
    same_choice false false true x y n = refl
    same_choice false false false x y n = refl
order_judged d (w ∷ x ∷ words) = skip_row refl (skip_row refl (skip_row refl no_rows))
