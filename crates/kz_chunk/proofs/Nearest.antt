-- In a rising list, the element at the least distance is the first that isn't before the start, else the first of all.
use Rattle.std.proofs.Common.{◌≡◌, ℕ, zero, suc, ◌+◌, ◌-◌, ◌%◌, ◌<◌, ◌≤◌, ◌==◌, Bool, true, false, not, cond, nat_lt, nat_le, List, [], ◌∷◌, length, Some, None, unwrap_or, refl, ap, sym, ◌∙◌, arith}
use Rattle.std.specs.List.{position, position_or_len, remove}
use Rattle.std.proofs.Math.ListN.{get_or, get_or-eq_default}
use Rattle.std.proofs.Math.Nat.{mod-eq_of_lt, add-mod_right}
use Rattle.std.proofs.lemmas.Bool.Decides.{nat_tests}
use Rattle.std.proofs.lemmas.List.{get_or_default}
use Rattle.kz_model.specs.Zone.Pick.{distance, nearest, element_to_pick}
use Rattle.kz_model.specs.Zone.Whole.{Rises}
use Rattle.kz_chunk.specs.Kept.{without}

-- ---- distances

not_before : (count start i : ℕ) → start ≤ i → i < count → distance count start i ≡ i - start
not_before count start i le lt =
    let split : i + count - start ≡ (i - start) + count = omega arith in
    let low : i - start < count = omega arith in
    ap (λ n. n % count) split ∙ add-mod_right (i - start) count ∙ mod-eq_of_lt low

before : (count start i : ℕ) → i < start → start < count → distance count start i ≡ i + count - start
before count start i lt within = let low : i + count - start < count = omega arith in mod-eq_of_lt low

-- ---- the nearest

abbrev from : ℕ → ℕ → Bool
from start element = nat_le start element

-- an element that isn't before the start is nearer than those behind it
stays : (count start i low : ℕ) (xs : List ℕ) → start ≤ i → i < count → i < low → Rises low count xs → nearest count start i xs ≡ i
stays count start i low [] le lt behind h = refl
stays count start i low (j ∷ xs) le lt behind h =
    let near = not_before count start i le lt in
    let far = not_before count start j (omega (arith, h.0)) h.1 in
    let farther : nat_lt (distance count start j) (distance count start i) ≡ false = let above : distance count start i < distance count start j = omega (arith, h.0) in grind (arith, nat_tests) in
    ap (λ b. nearest count start (cond b j i) xs) farther ∙ stays count start i (j + 1) xs le lt (omega (arith, h.0)) h.2

-- one before the start is nearer than those behind it, but for those that aren't before the start
first_from : (count start i low : ℕ) (xs : List ℕ) → start < count → i < start → i < low → Rises low count xs → nearest count start i xs ≡ get_or xs (position_or_len (from start) xs) i
first_from count start i low [] within lt behind h = refl
first_from count start i low (j ∷ xs) within lt behind h =
    elim (nat_le start j) as (λ b. nat_le start j ≡ b → nearest count start i (j ∷ xs) ≡ get_or (j ∷ xs) (cond (not b) (1 + position_or_len (from start) xs) 0) i) [
      | true ↦ λ e.
          let le : start ≤ j = grind (arith, nat_tests) in
          let here = not_before count start j le h.1 in
          let there = before count start i lt within in
          let nearer : nat_lt (distance count start j) (distance count start i) ≡ true = let below : distance count start j < distance count start i = omega (arith, h.1) in grind (arith, nat_tests) in
          ap (λ b. nearest count start (cond b j i) xs) nearer ∙ stays count start j (j + 1) xs le h.1 (omega arith) h.2
      | false ↦ λ e.
          let more : j < start = grind (arith, nat_tests) in
          let here = before count start j more within in
          let there = before count start i lt within in
          let farther : nat_lt (distance count start j) (distance count start i) ≡ false = let above : distance count start i < distance count start j = omega (arith, h.0) in grind (arith, nat_tests) in
          let one_more : 1 + position_or_len (from start) xs ≡ suc (position_or_len (from start) xs) = omega arith in
          ap (λ b. nearest count start (cond b j i) xs) farther ∙ first_from count start i (j + 1) xs within lt (omega (arith, h.0)) h.2
          ∙ sym (ap (λ n. get_or (j ∷ xs) n i) one_more)
    ] refl

place_is : (xs : List ℕ) (i at : ℕ) → get_or (i ∷ xs) (unwrap_or (cond (nat_lt at (length (i ∷ xs))) (Some at) None) 0) 0 ≡ get_or (i ∷ xs) at i
place_is xs i at =
    elim (nat_lt at (length (i ∷ xs))) as (λ b. nat_lt at (length (i ∷ xs)) ≡ b → get_or (i ∷ xs) (unwrap_or (cond b (Some at) None) 0) 0 ≡ get_or (i ∷ xs) at i) [
      | true ↦ λ e. let low : at < length (i ∷ xs) = grind (arith, nat_tests) in get_or_default (i ∷ xs) at 0 i low
      | false ↦ λ e. let high : length (i ∷ xs) ≤ at = grind (arith, nat_tests) in sym (get_or-eq_default (i ∷ xs) i high)
    ] refl

picked : (count start : ℕ) (xs : List ℕ) → start < count → 0 < length xs → Rises 0 count xs → get_or xs (unwrap_or (position (from start) xs) 0) 0 ≡ element_to_pick count start xs
picked count start [] within some h = absurd (omega arith)
picked count start (i ∷ xs) within some h =
    place_is xs i (position_or_len (from start) (i ∷ xs))
    ∙ elim (nat_le start i) as (λ b. nat_le start i ≡ b → get_or (i ∷ xs) (cond (not b) (1 + position_or_len (from start) xs) 0) i ≡ nearest count start i xs) [
      | true ↦ λ e. let le : start ≤ i = grind (arith, nat_tests) in sym (stays count start i (i + 1) xs le h.1 (omega arith) h.2)
      | false ↦ λ e.
          let lt : i < start = grind (arith, nat_tests) in
          let one_more : 1 + position_or_len (from start) xs ≡ suc (position_or_len (from start) xs) = omega arith in
          ap (λ n. get_or (i ∷ xs) n i) one_more ∙ sym (first_from count start i (i + 1) xs within lt (omega arith) h.2)
    ] refl

-- ---- without it

rises-low : (low high k : ℕ) (xs : List ℕ) → Rises low high xs → k < length xs → low ≤ get_or xs k 0
rises-low low high k [] h lt = absurd (omega arith)
rises-low low high zero (x ∷ xs) h lt = h.0
rises-low low high (suc k) (x ∷ xs) h lt = omega (arith, h.0, rises-low (x + 1) high k xs h.2 (omega arith))

none_less : (x low high : ℕ) (xs : List ℕ) → x < low → Rises low high xs → without x xs ≡ xs
none_less x low high [] lt h = refl
none_less x low high (y ∷ xs) lt h =
    let other : (y == x) ≡ false = let above : x < y = omega (arith, h.0) in grind arith in
    ap (λ b. cond (not b) (y ∷ without x xs) (without x xs)) other ∙ ap (λ ys. y ∷ ys) (none_less x (y + 1) high xs (omega (arith, h.0)) h.2)

pub removed : (low high k : ℕ) (xs : List ℕ) → Rises low high xs → k < length xs → remove xs k ≡ without (get_or xs k 0) xs
removed low high k [] h lt = absurd (omega arith)
removed low high zero (x ∷ xs) h lt =
    let same : (x == x) ≡ true = grind arith in
    sym (ap (λ b. cond (not b) (x ∷ without x xs) (without x xs)) same ∙ none_less x (x + 1) high xs (omega arith) h.2)
removed low high (suc k) (x ∷ xs) h lt =
    let y = get_or xs k 0 in
    let other : (x == y) ≡ false = let above : x + 1 ≤ y = rises-low (x + 1) high k xs h.2 (omega arith) in grind arith in
    ap (λ ys. x ∷ ys) (removed (x + 1) high k xs h.2 (omega arith)) ∙ sym (ap (λ b. cond (not b) (x ∷ without y xs) (without y xs)) other)

-- ---- what is taken out at a place

pub place_inside : (start place : ℕ) (xs : List ℕ) → place ≡ unwrap_or (position (from start) xs) 0 → 0 < length xs → place < length xs
place_inside start place xs here some =
    elim (nat_lt (position_or_len (from start) xs) (length xs)) as (λ b.
    nat_lt (position_or_len (from start) xs) (length xs) ≡ b → place ≡ unwrap_or (cond b (Some (position_or_len (from start) xs)) None) 0 → place < length xs) [
      | true ↦ λ e is. grind (arith, nat_tests)
      | false ↦ λ e is. omega arith
    ] refl here

pub nearest_taken : (count start place element : ℕ) (xs : List ℕ) → place ≡ unwrap_or (position (from start) xs) 0 → element ≡ get_or xs place element → 0 < length xs → start < count → Rises 0 count xs →
    element ≡ element_to_pick count start xs
nearest_taken count start place element xs here at some within h =
    let inside = place_inside start place xs here some in
    at ∙ get_or_default xs place element 0 inside ∙ ap (λ n. get_or xs n 0) here ∙ picked count start xs within (omega arith) h

pub rest_taken : (count place element : ℕ) (xs new : List ℕ) → element ≡ get_or xs place element → new ≡ remove xs place → place < length xs → Rises 0 count xs → new ≡ without element xs
rest_taken count place element xs new at is inside h =
    is ∙ removed 0 count place xs h inside ∙ ap (λ e. without e xs) (sym (at ∙ get_or_default xs place element 0 inside))

rises-high : (low high k : ℕ) (xs : List ℕ) → Rises low high xs → k < length xs → get_or xs k 0 < high
rises-high low high k [] h lt = absurd (omega arith)
rises-high low high zero (x ∷ xs) h lt = h.1
rises-high low high (suc k) (x ∷ xs) h lt = rises-high (x + 1) high k xs h.2 (omega arith)

pub taken_within : (count place element : ℕ) (xs : List ℕ) → element ≡ get_or xs place element → place < length xs → Rises 0 count xs → element < count
taken_within count place element xs at inside h = omega (arith, at, get_or_default xs place element 0 inside, rises-high 0 count place xs h inside)
