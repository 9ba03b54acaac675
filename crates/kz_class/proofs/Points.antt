-- The class of a size is where the classes that are below it end.
use Rattle.std.proofs.Common.{◌≡◌, ◌-◌, ◌<◌, ◌≤◌, ◌↔◌, ℕ, true, false, nat_lt, nat_le, List, Option, None, Some, length, slice_index, slice_index_or, IsNone, subst, refl, inl, inr, sym, arith}
use Rattle.std.specs.List.Sorted.{IsStrictlyIncreasing, IsPartitionedBy, IsPartitionPoint}
use Rattle.std.proofs.lemmas.Bool.{cases_eq}
use Rattle.std.proofs.lemmas.Bool.Decides.{nat_tests}
use Rattle.std.proofs.lemmas.List.Kept.{AllPairs-from_increasing}
use Rattle.kz_model.specs.Types.Class.{class_of, IsTable}
use Rattle.kz_class.proofs.Classes.{first_is, none_is, none_above_last}

-- classes that rise are divided by each size
pub divided : (sizes : List ℕ) (size : ℕ) → IsStrictlyIncreasing sizes → IsPartitionedBy (λ element. nat_lt element size) sizes
divided sizes size rising i j d le inside passes = elim (cases_eq i j) [
  | inl same ↦ let P : ℕ → Type 0 = λ k. nat_lt (slice_index_or sizes k d) size ≡ true in subst P (sym same) passes
  | inr ne ↦ let lt = AllPairs-from_increasing sizes rising i j d (omega (arith, ne)) inside in grind (arith, nat_tests)
]

abbrev pub IsPoint : List ℕ → ℕ → ℕ → Type 0
IsPoint sizes size at = IsPartitionPoint (λ element. nat_lt element size ≡ true) (λ element. nat_lt element size ≡ false) sizes at

abbrev pub IsEnd : List ℕ → ℕ → ℕ → Type 0
IsEnd sizes size at = IsPartitionPoint (λ element. element < size) (λ element. size ≤ element) sizes at

pub point_of_facts : (sizes : List ℕ) (size at : ℕ) → IsPoint sizes size at → IsEnd sizes size at
point_of_facts sizes size at point =
    (λ k d low high. let t = point.0 k d low high in grind (arith, nat_tests), λ k d low high. let t = point.1 k d low high in grind (arith, nat_tests))

pub some_at : (sizes : List ℕ) (size at : ℕ) → at < length sizes → IsEnd sizes size at → class_of sizes size ≡ Some at
some_at sizes size at inside end =
    first_is (λ element. nat_le size element) sizes at inside (let t = end.1 at 0 (omega arith) inside in grind (arith, nat_tests))
    (λ k lt. let t = end.0 k 0 (omega arith) lt in grind (arith, nat_tests))

pub none_at : (sizes : List ℕ) (size at : ℕ) → length sizes ≤ at → IsEnd sizes size at → class_of sizes size ≡ None
none_at sizes size at all end =
    none_is (λ element. nat_le size element) sizes (λ k lt. let t = end.0 k 0 (omega arith) (omega arith) in grind (arith, nat_tests))

-- no class is an answer exactly where the size is above the last
pub none_clause : (sizes : List ℕ) (size n : ℕ) (r : Option ℕ) → length sizes ≡ n → IsTable sizes → class_of sizes size ≡ r →
    IsNone r ↔ (slice_index sizes (n - 1) < size)
none_clause sizes size n r counted table e = subst (λ n. IsNone r ↔ (slice_index sizes (n - 1) < size)) counted (by r e)
  where
    law : (class_of sizes size ≡ None) ↔ (slice_index sizes (length sizes - 1) < size)
    law = none_above_last sizes size table.some table.rising

    by : (r : Option ℕ) → class_of sizes size ≡ r → IsNone r ↔ (slice_index sizes (length sizes - 1) < size)
    by None e = (λ _. law.0 e, λ l. refl)
    by (Some at) e = (λ f. cc, λ l. let f = law.1 l in cc)
