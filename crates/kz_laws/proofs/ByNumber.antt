-- A list whose numbers do not fall is its parts of each number, one after the other.
use Rattle.std.proofs.Common.{◌≡◌, ◌≢◌, ◌<◌, ◌≤◌, ℕ, zero, suc, ◌==◌, ◌+◌, true, false, if◌then◌else◌, List, [], ◌∷◌, ◌++◌, map, refl, ap, sym, ◌∙◌, arith}
use Rattle.std.specs.List.{AllByRecursion, filter, flat_map, range_with_len}
use Rattle.std.specs.List.Sorted.{IsNonDecreasingBy}
use Rattle.std.proofs.lemmas.Grind.{flat_map-append}
use Rattle.std.proofs.lemmas.List.{map-append, append-nil}
use Rattle.std.proofs.lemmas.List.Elements.{recursion_from_All}

-- ---- parts of each number

module _ {X : Type 0} (number : X → ℕ) where
  -- those of this number
  abbrev pub of_number : ℕ → List X → List X
  of_number n xs = filter (λ x. number x == n) xs

  -- those of these numbers
  abbrev pub by_number : List X → ℕ → ℕ → List X
  by_number xs from n = flat_map (λ k. of_number k xs) (range_with_len from n)

  none_by_number : (n from : ℕ) → by_number [] from n ≡ []
  none_by_number zero from = refl
  none_by_number (suc n) from = none_by_number n (from + 1)

  earlier_one : (x : X) (xs : List X) (n from : ℕ) → number x < from → by_number (x ∷ xs) from n ≡ by_number xs from n
  earlier_one x xs zero from lt = refl
  earlier_one x xs (suc n) from lt =
      let none : (number x == from) ≡ false = grind arith in
      ap (λ t. (if t then x ∷ of_number from xs else of_number from xs) ++ by_number (x ∷ xs) (from + 1) n) none
      ∙ ap (λ (l : List X). of_number from xs ++ l) (earlier_one x xs n (from + 1) (omega arith))

  none_of_later : (low at : ℕ) (xs : List X) → at < low → AllByRecursion (λ x. low ≤ number x) xs → of_number at xs ≡ []
  none_of_later low at [] lt later = refl
  none_of_later low at (x ∷ xs) lt later =
      let here = later.0 in
      let none : (number x == at) ≡ false = grind arith in
      ap (λ t. if t then x ∷ of_number at xs else of_number at xs) none ∙ none_of_later low at xs lt later.1

  first_one : (x : X) (xs : List X) (n from : ℕ) → from ≤ number x → number x < from + n → AllByRecursion (λ y. number x ≤ number y) xs → by_number (x ∷ xs) from n ≡ x ∷ by_number xs from n
  first_one x xs zero from low high later = absurd (omega arith)
  first_one x xs (suc n) from low high later =
      let mine = of_number from xs in
      elim (number x == from) as (λ t. (number x == from) ≡ t → (if t then x ∷ mine else mine) ++ by_number (x ∷ xs) (from + 1) n ≡ x ∷ (mine ++ by_number xs (from + 1) n)) [
        | true ↦ λ e.
            let is : number x ≡ from = grind arith in
            ap (λ (l : List X). x ∷ (mine ++ l)) (earlier_one x xs n (from + 1) (omega arith))
        | false ↦ λ e.
            let ne : number x ≢ from = grind arith in
            let none : mine ≡ [] = none_of_later (number x) from xs (omega arith) later in
            ap (λ (l : List X). l ++ by_number (x ∷ xs) (from + 1) n) none
            ∙ first_one x xs n (from + 1) (omega arith) (omega arith) later
            ∙ sym (ap (λ (l : List X). x ∷ (l ++ by_number xs (from + 1) n)) none)
      ] refl

  pub all_by_number : (xs : List X) (n : ℕ) → IsNonDecreasingBy number xs → AllByRecursion (λ x. number x < n) xs → by_number xs 0 n ≡ xs
  all_by_number [] n rising below = none_by_number n 0
  all_by_number (x ∷ xs) n rising below =
      first_one x xs n 0 (omega arith) (in_zero below.0) (recursion_from_All (λ (y : X). number x ≤ number y) xs (λ k d lt. rising 0 (suc k) d (omega arith) (omega arith)))
      ∙ ap (λ (l : List X). x ∷ l) (all_by_number xs n (λ i j d le lt. rising (suc i) (suc j) d (omega arith) (omega arith)) below.1)
    where
      in_zero : number x < n → number x < 0 + n
      in_zero lt = omega arith

-- ---- lists made of lists

module _ {X Y A : Type 0} where
  pub flat_map-flat_map : (f : Y → List A) (g : X → List Y) (xs : List X) → flat_map f (flat_map g xs) ≡ flat_map (λ x. flat_map f (g x)) xs
  flat_map-flat_map f g [] = refl
  flat_map-flat_map f g (x ∷ xs) = flat_map-append f (g x) (flat_map g xs) ∙ ap (λ (l : List A). flat_map f (g x) ++ l) (flat_map-flat_map f g xs)

  pub map-flat_map : (f : Y → A) (g : X → List Y) (xs : List X) → map f (flat_map g xs) ≡ flat_map (λ x. map f (g x)) xs
  map-flat_map f g [] = refl
  map-flat_map f g (x ∷ xs) = map-append f (g x) (flat_map g xs) ∙ ap (λ (l : List A). map f (g x) ++ l) (map-flat_map f g xs)

module _ {X A : Type 0} where
  pub flat_map_same : (f g : X → List A) → ((x : X) → f x ≡ g x) → (xs : List X) → flat_map f xs ≡ flat_map g xs
  flat_map_same f g same [] = refl
  flat_map_same f g same (x ∷ xs) = ap (λ (l : List A). l ++ flat_map f xs) (same x) ∙ ap (λ (l : List A). g x ++ l) (flat_map_same f g same xs)

-- where one number alone gives something
module _ {A : Type 0} (f : ℕ → List A) (z : ℕ) (others : (y : ℕ) → y ≢ z → f y ≡ []) where
  nothing_after : (from n : ℕ) → z < from → flat_map f (range_with_len from n) ≡ []
  nothing_after from zero lt = refl
  nothing_after from (suc n) lt = ap (λ (l : List A). l ++ flat_map f (range_with_len (from + 1) n)) (others from (omega arith)) ∙ nothing_after (from + 1) n (omega arith)

  pub one_of_range : (from n : ℕ) → from ≤ z → z < from + n → flat_map f (range_with_len from n) ≡ f z
  one_of_range from zero low high = absurd (omega arith)
  one_of_range from (suc n) low high =
      elim (from == z) as (λ t. (from == z) ≡ t → f from ++ flat_map f (range_with_len (from + 1) n) ≡ f z) [
        | true ↦ λ e.
            let is : from ≡ z = grind arith in
            ap (λ (l : List A). f from ++ l) (nothing_after (from + 1) n (omega arith)) ∙ append-nil (f from) ∙ ap f is
        | false ↦ λ e.
            let ne : from ≢ z = grind arith in
            ap (λ (l : List A). l ++ flat_map f (range_with_len (from + 1) n)) (others from ne) ∙ one_of_range (from + 1) n (omega arith) (omega arith)
      ] refl
