-- What a shuffle keeps.
use Rattle.std.proofs.Common.{◌≡◌, ℕ, zero, suc, ◌+◌, ◌-◌, ◌%◌, ◌<◌, ◌≤◌, List, [], ◌∷◌, length, map, refl, ap, sym, ◌∙◌, arith}
use Rattle.std.proofs.Math.ListN.{get_or-map}
use Rattle.std.proofs.lemmas.List.{map-set, length-map}
use Rattle.std.proofs.lemmas.List.Edits.{length-swap}
use Rattle.std.proofs.Math.Nat.{mod-lt}
use Rattle.std.proofs.lemmas.List.Sorted.{IsPermutation-refl, IsPermutation-swap, IsPermutation-trans}
use Rattle.std.specs.List.{swap}
use Rattle.std.specs.List.Sorted.{IsPermutation}
use Rattle.std.specs.Prelude.{slice_index_or, slice_set}
use Rattle.kz_model.specs.declared.bundle.Seed.{Seed}
use Rattle.kz_model.specs.Types.Plan.{shuffled, swapped_from}
use Rattle.kz_model.specs.Zone.Words.{word}

map-swap : {A B : Type 0} (f : A → B) (xs : List A) (i j : ℕ) → map f (swap xs i j) ≡ swap (map f xs) i j
map-swap f [] i j = refl
map-swap f (x ∷ xs) i j =
    map-set f (slice_set (x ∷ xs) i (slice_index_or (x ∷ xs) j x)) j (slice_index_or (x ∷ xs) i x)
    ∙ ap (λ ys. slice_set ys j (f (slice_index_or (x ∷ xs) i x))) (map-set f (x ∷ xs) i (slice_index_or (x ∷ xs) j x))
    ∙ ap (λ y. slice_set (slice_set (map f (x ∷ xs)) i y) j (f (slice_index_or (x ∷ xs) i x))) (sym (get_or-map f (x ∷ xs) j x))
    ∙ ap (λ y. slice_set (slice_set (map f (x ∷ xs)) i (slice_index_or (map f (x ∷ xs)) j (f x))) j y) (sym (get_or-map f (x ∷ xs) i x))

map-swapped_from : {A B : Type 0} (f : A → B) (seed : Seed) (drawn i : ℕ) (xs : List A) → map f (swapped_from seed drawn i xs) ≡ swapped_from seed drawn i (map f xs)
map-swapped_from f seed drawn zero xs = refl
map-swapped_from f seed drawn (suc i) xs =
    let other = word seed 0 drawn % (suc i + 1) in
    map-swapped_from f seed (drawn + 1) i (swap xs (suc i) other) ∙ ap (swapped_from seed (drawn + 1) i) (map-swap f xs (suc i) other)

-- a shuffle moves elements, whatever they show
pub map-shuffled : {A B : Type 0} (f : A → B) (seed : Seed) (drawn : ℕ) (xs : List A) → map f (shuffled seed drawn xs) ≡ shuffled seed drawn (map f xs)
map-shuffled f seed drawn xs =
    map-swapped_from f seed drawn (length xs - 1) xs ∙ ap (λ n. swapped_from seed drawn (n - 1) (map f xs)) (sym (length-map xs f))

length-swapped_from : {A : Type 0} (seed : Seed) (drawn i : ℕ) (xs : List A) → length (swapped_from seed drawn i xs) ≡ length xs
length-swapped_from seed drawn zero xs = refl
length-swapped_from seed drawn (suc i) xs =
    let other = word seed 0 drawn % (suc i + 1) in length-swapped_from seed (drawn + 1) i (swap xs (suc i) other) ∙ length-swap xs (suc i) other

pub length-shuffled : {A : Type 0} (seed : Seed) (drawn : ℕ) (xs : List A) → length (shuffled seed drawn xs) ≡ length xs
length-shuffled seed drawn xs = length-swapped_from seed drawn (length xs - 1) xs

-- a shuffle only moves elements
permuted_from : {A : Type 0} (seed : Seed) (drawn i : ℕ) (xs : List A) → i ≤ length xs - 1 → IsPermutation xs (swapped_from seed drawn i xs)
permuted_from seed drawn zero xs inside = IsPermutation-refl xs
permuted_from seed drawn (suc i) xs inside =
    let other = word seed 0 drawn % (suc i + 1) in
    let low : other < suc i + 1 = mod-lt (word seed 0 drawn) (omega arith) in
    let swapped = swap xs (suc i) other in
    let first : IsPermutation xs swapped = IsPermutation-swap xs swapped (suc i) other (omega arith) (omega arith) refl in
    IsPermutation-trans xs swapped (swapped_from seed (drawn + 1) i swapped) first
    (permuted_from seed (drawn + 1) i swapped (omega (arith, length-swap xs (suc i) other)))

pub shuffled-permuted : {A : Type 0} (seed : Seed) (drawn : ℕ) (xs : List A) → IsPermutation xs (shuffled seed drawn xs)
shuffled-permuted seed drawn xs = permuted_from seed drawn (length xs - 1) xs (omega arith)
