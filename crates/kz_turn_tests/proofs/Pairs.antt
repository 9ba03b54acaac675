-- For the tests: lists of one and of two passes, and lists of counts.
use Rattle.std.proofs.Common.{◌≡◌, ℕ, List, zero, suc, [], ◌∷◌, ◌++◌, ◌+◌, ◌<◌, length, map, add-one, arith, sym, refl, ap, ◌∙◌, subst, Some}
use Rattle.std.specs.Prelude.{All, slice_get, slice_index_or, remove}
use Rattle.std.specs.List.{range_with_len}
use Rattle.std.proofs.lemmas.List.{map-append}
use Rattle.std.proofs.lemmas.List.Elements.{All-cons, All-contains, All-weaker}
use Rattle.kz_turn.specs.Passes.{PassView, HasNumber}
use Rattle.kz_turn.proofs.Views.{same_value}
use Rattle.kz_turn.proofs.Passes.{get_in}

range_suc : (n a : ℕ) → range_with_len a (suc n) ≡ range_with_len a n ++ (a + n) ∷ []
range_suc zero a = let e : a ≡ a + 0 = omega arith in ap (λ (x : ℕ). x ∷ []) e
range_suc (suc n) a = let e : a + 1 + n ≡ a + suc n = omega arith in ap (λ (l : List ℕ). a ∷ l) (range_suc n (a + 1) ∙ ap (λ (x : ℕ). range_with_len (a + 1) n ++ x ∷ []) e)

pub range_more : (n : ℕ) → range_with_len 0 (n + 1) ≡ range_with_len 0 n ++ n ∷ []
range_more n = let e : 0 + n ≡ n = omega arith in ap (range_with_len 0) (add-one n) ∙ (range_suc n 0 ∙ ap (λ (x : ℕ). range_with_len 0 n ++ x ∷ []) e)

module _ {X : Type 0} where
  get_rest : (xs : List X) (k : ℕ) → slice_get (remove xs 0) k ≡ slice_get xs (suc k)
  get_rest [] k = refl
  get_rest (x ∷ xs) k = refl

  -- the first of a list, and the first of what is left then
  pub first_is : (xs : List X) (x y : X) → 0 < length xs → x ≡ slice_index_or xs 0 x → slice_get xs 0 ≡ Some y → x ≡ y
  first_is xs x y some is there = same_value x y (sym (get_in xs 0 x some (sym is)) ∙ there)

  pub second_is : (xs ys : List X) (x y : X) → 0 < length ys → ys ≡ remove xs 0 → x ≡ slice_index_or ys 0 x → slice_get xs 1 ≡ Some y → x ≡ y
  second_is xs ys x y some left is there = first_is ys x y some is (ap (λ (l : List X). slice_get l 0) left ∙ (get_rest xs 0 ∙ there))

  pub one_item : (xs ys : List X) (a : X) → xs ≡ [] → ys ≡ xs ++ a ∷ [] → ys ≡ a ∷ []
  one_item xs ys a none more = more ∙ ap (λ (l : List X). l ++ a ∷ []) none

  pub two_items : (xs ys zs : List X) (a b : X) → xs ≡ [] → ys ≡ xs ++ a ∷ [] → zs ≡ ys ++ b ∷ [] → zs ≡ a ∷ b ∷ []
  two_items xs ys zs a b none more last = last ∙ ap (λ (l : List X). l ++ b ∷ []) (one_item xs ys a none more)

  all_none : (P : X → Type 0) → All P []
  all_none P k d l = absurd (omega arith)

  pub all_one : (P : X → Type 0) (xs : List X) (a : X) → xs ≡ a ∷ [] → P a → All P xs
  all_one P xs a is at_a = subst (All P) (sym is) (All-cons P a [] at_a (all_none P))

  pub all_two : (P : X → Type 0) (xs : List X) (a b : X) → xs ≡ a ∷ b ∷ [] → P a → P b → All P xs
  all_two P xs a b is at_a at_b = subst (All P) (sym is) (All-cons P a (b ∷ []) at_a (All-cons P b [] at_b (all_none P)))

  pub of_one : (P : X → Type 0) (xs : List X) (a : X) → xs ≡ a ∷ [] → All P xs → P a
  of_one P xs a is each = subst (All P) is each 0 a (omega arith)

  pub of_two : (P : X → Type 0) (xs : List X) (a b : X) → xs ≡ a ∷ b ∷ [] → All P xs → P a × P b
  of_two P xs a b is each = let all = subst (All P) is each in (all 0 a (omega arith), all 1 b (omega arith))

module _ {B E : Type 0} where
  one_covered : (a : PassView B E) → a.number ≡ 0 → (n : ℕ) → n < 1 → HasNumber (a ∷ []) n
  one_covered a is zero few = (0, a, omega arith, refl, is)
  one_covered a is (suc n) few = absurd (omega arith)

  pub covers_one : (xs : List (PassView B E)) (a : PassView B E) (seats : ℕ) → xs ≡ a ∷ [] → a.number ≡ 0 → seats ≡ 1 → (n : ℕ) → n < seats → HasNumber xs n
  covers_one xs a seats is number count n few = subst (λ (l : List (PassView B E)). HasNumber l n) (sym is) (one_covered a number n (omega arith))

  two_covered : (a b : PassView B E) → a.number ≡ 1 → b.number ≡ 0 → (n : ℕ) → n < 2 → HasNumber (a ∷ b ∷ []) n
  two_covered a b is_a is_b zero few = (1, b, omega arith, refl, is_b)
  two_covered a b is_a is_b (suc zero) few = (0, a, omega arith, refl, is_a)
  two_covered a b is_a is_b (suc (suc n)) few = absurd (omega arith)

  pub covers_two : (xs : List (PassView B E)) (a b : PassView B E) (seats : ℕ) → xs ≡ a ∷ b ∷ [] → a.number ≡ 1 → b.number ≡ 0 → seats ≡ 2 → (n : ℕ) → n < seats → HasNumber xs n
  covers_two xs a b seats is is_a is_b count n few = subst (λ (l : List (PassView B E)). HasNumber l n) (sym is) (two_covered a b is_a is_b n (omega arith))

  -- what holds of the number of each pass holds of each number that one of them has
  pub numbers_of : (P : ℕ → Type 0) (xs : List (PassView B E)) (log : List (ℕ × E)) → All (λ p. P p.number) xs → All (λ x. HasNumber xs x.0) log → All (λ x. P x.0) log
  numbers_of P xs log each = All-weaker (λ x. HasNumber xs x.0) (λ x. P x.0) (λ x it. subst P it.4 (All-contains (λ p. P p.number) xs it.1 each (it.0, it.2, it.3))) log

-- one more entry, here and there
pub mirrored_more : (own own' : List ℕ) (log log' : List (ℕ × ℕ)) (n e : ℕ) → own ≡ map (λ x. x.1) log → own' ≡ own ++ e ∷ [] → log' ≡ log ++ (n, e) ∷ [] → own' ≡ map (λ x. x.1) log'
mirrored_more own own' log log' n e same is_own is_log =
    is_own ∙ (ap (λ (l : List ℕ). l ++ e ∷ []) same ∙ (sym (map-append (λ (x : ℕ × ℕ). x.1) log ((n, e) ∷ [])) ∙ ap (map (λ (x : ℕ × ℕ). x.1)) (sym is_log)))
