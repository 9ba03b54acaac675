-- An element that is put into its place.
use Rattle.std.proofs.Common.{◌≡◌, ℕ, suc, ◌+◌, ◌<◌, ◌≤◌, List, [], ◌∷◌, ◌++◌, length, true, false, not, cond, nat_lt, Bool, Some, None, unwrap_or, refl, ap, sym, ◌∙◌, arith}
use Rattle.std.specs.List.{position, position_or_len, insert, range_with_len}
use Rattle.std.proofs.lemmas.List.{map-id}
use Rattle.std.proofs.lemmas.List.FromFn.{map-range_with_len_more}
use Rattle.kz_model.specs.Zone.Rules.{with_number}
use Rattle.kz_model.specs.Zone.Whole.{times_idle, Rises}
use Rattle.kz_model.proofs.Counting.{length_within, rises-with_number}

abbrev above : ℕ → ℕ → Bool
above i element = nat_lt i element

with_number_is : (i : ℕ) (xs : List ℕ) → insert xs (position_or_len (above i) xs) i ≡ with_number i xs
with_number_is i [] = refl
with_number_is i (x ∷ xs) =
    elim (nat_lt i x) as (λ b. insert (x ∷ xs) (cond (not b) (1 + position_or_len (above i) xs) 0) i ≡ cond b (i ∷ x ∷ xs) (x ∷ with_number i xs)) [
      | true ↦ refl
      | false ↦ rw one_more (ap (λ (ys : List ℕ). x ∷ ys) (with_number_is i xs))
    ]
  where
    one_more : 1 + position_or_len (above i) xs ≡ suc (position_or_len (above i) xs)
    one_more = omega arith

place_within : (i : ℕ) (xs : List ℕ) → position_or_len (above i) xs ≤ length xs
place_within i [] = omega arith
place_within i (x ∷ xs) = elim (nat_lt i x) as (λ b. cond (not b) (1 + position_or_len (above i) xs) 0 ≤ length (x ∷ xs)) [ true ↦ omega arith | false ↦ omega (arith, place_within i xs) ]

-- the place, or the length where there is none
place_is : (at len : ℕ) → at ≤ len → unwrap_or (cond (nat_lt at len) (Some at) None) len ≡ at
place_is at len within = grind arith

pub put_is : (i place : ℕ) (xs new : List ℕ) → place ≡ unwrap_or (position (above i) xs) (length xs) → new ≡ insert xs place i → new ≡ with_number i xs
put_is i place xs new here is =
    is ∙ ap (λ k. insert xs k i) (here ∙ place_is (position_or_len (above i) xs) (length xs) (place_within i xs)) ∙ with_number_is i xs

-- ---- room

length-with_number : (i : ℕ) (xs : List ℕ) → length (with_number i xs) ≡ length xs + 1
length-with_number i [] = refl
length-with_number i (x ∷ xs) =
    elim (nat_lt i x) as (λ b. length (cond b (i ∷ x ∷ xs) (x ∷ with_number i xs)) ≡ length (x ∷ xs) + 1) [
      | true ↦ omega arith
      | false ↦ omega (arith, length-with_number i xs)
    ]

-- there is room for one that is not there
pub room_for_one : (high i : ℕ) (xs : List ℕ) → i < high → times_idle i xs ≡ 0 → Rises 0 high xs → length xs < high
room_for_one high i xs lt away h =
    omega (arith, length-with_number i xs, length_within 0 high (with_number i xs) (rises-with_number 0 high i xs (omega arith) lt away h))

-- ---- all elements

pub range_more : (n : ℕ) → range_with_len 0 (n + 1) ≡ range_with_len 0 n ++ n ∷ []
range_more n =
    sym (map-id (range_with_len 0 (n + 1))) ∙ map-range_with_len_more (λ i. i) 0 n n (omega arith) ∙ ap (λ (xs : List ℕ). xs ++ n ∷ []) (map-id (range_with_len 0 n))
