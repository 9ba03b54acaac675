-- What the mark of a line says of the runs in the places of its numbers.
use Rattle.std.proofs.Common.{◌≡◌, inl, inr, ℕ, Bool, true, false, if◌then◌else◌, nat_le, List, [], ◌∷◌, Option, Some, None, refl, ap, sym, ◌∙◌}
use Rattle.kz_model.specs.declared.grammar.Mark.{Mark}
use Rattle.kz_model.specs.declared.grammar.Mark.TheVariants.{Fine, OutOfRange, BadNumber}
use Rattle.kz_model.specs.Grammar.Tokens.{is_between, number_of, number_in_range, worse}
use Rattle.kz_bundle.proofs.Choices.{wrong, left, right, and_true, within, is_within, found_same, none_found}
use Rattle.kz_bundle.proofs.NumberTexts.{number_is, number_of-decimal}
use Rattle.kz_grammar.specs.Forms.{Hole, IsWritten, IsNumber, IsInRange, EachHole, SomeHole}
use Rattle.kz_grammar.proofs.Rows.{mark_of_hole, mark_of_holes}

-- ---- one run

abbrev pub NoNumber : Hole → Type 0
NoNumber hole = ¬ IsNumber hole

abbrev pub NotInRange : Hole → Type 0
NotInRange hole = ¬ IsInRange hole

abbrev IsHoleMarked : Hole → Mark → Type 0
IsHoleMarked hole Fine = IsInRange hole
IsHoleMarked hole OutOfRange = IsNumber hole × NotInRange hole
IsHoleMarked hole BadNumber = NoNumber hole

-- the number that a run is written as is read from it
read_of : (run : List ℕ) (n : ℕ) → IsWritten n run → number_of run ≡ Some n
read_of run n is = ap number_of is.digits ∙ number_of-decimal n is.small

is_written : (run : List ℕ) (n : ℕ) → number_of run ≡ Some n → IsWritten n run
is_written run n e = let is = number_is run n e in record { digits = is.0; small = is.1 }

abbrev ranged : Bool → ℕ → ℕ × Mark
ranged b n = if b then (n, Fine) else (0, OutOfRange)

hole_marked : (hole : Hole) → IsHoleMarked hole (mark_of_hole hole)
hole_marked hole = by_number (number_of hole.run) refl
  where
    by_range : (n : ℕ) → number_of hole.run ≡ Some n → (b : Bool) → is_between hole.low hole.high n ≡ b → IsHoleMarked hole (ranged b n).1
    by_range n e true within_it =
        (n, is_written hole.run n e, within hole.low n (left (nat_le hole.low n) (nat_le n hole.high) within_it), within n hole.high (right (nat_le hole.low n) (nat_le n hole.high) within_it))
    by_range n e false out = ((n, is_written hole.run n e), λ is. absurd (beside is))
      where
        beside : IsInRange hole → ⊥
        beside is =
            let same : n ≡ is.0 = found_same n is.0 (sym e ∙ read_of hole.run is.0 is.1) in
            wrong (sym out ∙ ap (is_between hole.low hole.high) same ∙ and_true (nat_le hole.low is.0) (nat_le is.0 hole.high) (is_within hole.low is.0 is.2) (is_within is.0 hole.high is.3))

    by_number : (o : Option ℕ) → number_of hole.run ≡ o → IsHoleMarked hole (number_in_range hole.low hole.high o).1
    by_number None e = λ is. none_found is.0 (sym e ∙ read_of hole.run is.0 is.1)
    by_number (Some n) e = by_range n e (is_between hole.low hole.high n) refl

-- ---- all runs

abbrev pub AreMarked : List Hole → Mark → Type 0
AreMarked holes Fine = EachHole IsInRange holes
AreMarked holes OutOfRange = EachHole IsNumber holes × SomeHole NotInRange holes
AreMarked holes BadNumber = SomeHole NoNumber holes

number_in_it : (hole : Hole) → IsInRange hole → IsNumber hole
number_in_it hole is = (is.0, is.1)

each : (P Q : Hole → Type 0) → ((hole : Hole) → P hole → Q hole) → (holes : List Hole) → EachHole P holes → EachHole Q holes
each P Q f [] all = tt
each P Q f (hole ∷ holes) all = (f hole all.0, each P Q f holes all.1)

both_marked : (hole : Hole) (holes : List Hole) (m n : Mark) → IsHoleMarked hole m → AreMarked holes n → AreMarked (hole ∷ holes) (worse m n)
both_marked hole holes BadNumber n here there = inl here
both_marked hole holes OutOfRange BadNumber here there = inr there
both_marked hole holes OutOfRange OutOfRange here there = ((here.0, there.0), inl here.1)
both_marked hole holes OutOfRange Fine here there = ((here.0, each IsInRange IsNumber number_in_it holes there), inl here.1)
both_marked hole holes Fine BadNumber here there = inr there
both_marked hole holes Fine OutOfRange here there = ((number_in_it hole here, there.0), inr there.1)
both_marked hole holes Fine Fine here there = (here, there)

pub are_marked : (holes : List Hole) → AreMarked holes (mark_of_holes holes)
are_marked [] = tt
are_marked (hole ∷ holes) = both_marked hole holes (mark_of_hole hole) (mark_of_holes holes) (hole_marked hole) (are_marked holes)

-- ---- one mark

clash : (P Q : Hole → Type 0) → ((hole : Hole) → P hole → Q hole → ⊥) → (holes : List Hole) → EachHole P holes → SomeHole Q holes → ⊥
clash P Q not [] all some = some
clash P Q not (hole ∷ holes) all some =
    elim some as (λ some. ⊥) [
      | inl here ↦ not hole all.0 here
      | inr there ↦ clash P Q not holes all.1 there
    ]

fine_not_bad : (holes : List Hole) → EachHole IsInRange holes → SomeHole NoNumber holes → ⊥
fine_not_bad holes all some = clash IsInRange NoNumber (λ hole is no. no (number_in_it hole is)) holes all some

fine_not_out : (holes : List Hole) → EachHole IsInRange holes → SomeHole NotInRange holes → ⊥
fine_not_out holes all some = clash IsInRange NotInRange (λ hole is no. no is) holes all some

out_not_bad : (holes : List Hole) → EachHole IsNumber holes → SomeHole NoNumber holes → ⊥
out_not_bad holes all some = clash IsNumber NoNumber (λ hole is no. no is) holes all some

-- the three judgements exclude one another
pub one_mark : (holes : List Hole) (m n : Mark) → AreMarked holes m → AreMarked holes n → m ≡ n
one_mark holes Fine Fine one other = refl
one_mark holes OutOfRange OutOfRange one other = refl
one_mark holes BadNumber BadNumber one other = refl
one_mark holes Fine OutOfRange one other = absurd (fine_not_out holes one other.1)
one_mark holes Fine BadNumber one other = absurd (fine_not_bad holes one other)
one_mark holes OutOfRange Fine one other = absurd (fine_not_out holes other one.1)
one_mark holes OutOfRange BadNumber one other = absurd (out_not_bad holes one.0 other)
one_mark holes BadNumber Fine one other = absurd (fine_not_bad holes other one)
one_mark holes BadNumber OutOfRange one other = absurd (out_not_bad holes other.0 one)
