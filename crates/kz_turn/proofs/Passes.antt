-- Lists of passes: those of a new turn, and those that come back.
use Rattle.std.proofs.Common.{◌≡◌, ◌≢◌, ◌⊎◌, ℕ, List, zero, suc, [], ◌∷◌, ◌++◌, ◌+◌, ◌<◌, length, length-append, arith, add-one, sym, refl, ap, ◌∙◌, subst, inl, inr, ⊎_elim, Some}
use Rattle.std.specs.Prelude.{All, Contains, IsPermutation, slice_get, slice_index_or, insert, swap_remove}
use Rattle.std.proofs.lemmas.Option.{slice_get-get_or}
use Rattle.std.proofs.lemmas.List.Elements.{All-contains, Contains-append_left, Contains-get_or, Contains-push, Contains-push_cases}
use Rattle.std.proofs.lemmas.List.Sorted.{IsPermutation-swap_remove}
use mathlib.Core.Logic.{dite}
use native.Mathlib.Decide.{ℕ_discrete}
use Rattle.atomic_table.specs.Seated.{TableId}
use Rattle.kz_turn.specs.Passes.{PassView, AreNew, new_pass}

module _ {X : Type 0} where
  -- one more element, where the elements are known by their places
  pub get_more : (xs : List X) (x : X) (P : ℕ → X) → ((k : ℕ) → k < length xs → slice_get xs k ≡ Some (P k)) → x ≡ P (length xs) → (k : ℕ) → k < length (xs ++ x ∷ []) → slice_get (xs ++ x ∷ []) k ≡ Some (P k)
  get_more [] x P each is zero l = ap Some is
  get_more [] x P each is (suc k) l = absurd (omega arith)
  get_more (y ∷ ys) x P each is zero l = each 0 (omega arith)
  get_more (y ∷ ys) x P each is (suc k) l = get_more ys x (λ n. P (suc n)) (λ n m. each (suc n) (omega arith)) is k (omega arith)

  pub get_front : (x : X) (xs : List X) (P : ℕ → X) → x ≡ P 0 → ((k : ℕ) → k < length xs → slice_get xs k ≡ Some (P (k + 1))) → (k : ℕ) → k < length (x ∷ xs) → slice_get (x ∷ xs) k ≡ Some (P k)
  get_front x xs P is each zero l = ap Some is
  get_front x xs P is each (suc k) l = each k (omega arith) ∙ ap (λ (n : ℕ). Some (P n)) (add-one k)

  pub insert_front : (xs : List X) (x : X) → insert xs 0 x ≡ x ∷ xs
  insert_front [] x = refl
  insert_front (y ∷ ys) x = refl

  pub get_in : (xs : List X) (k : ℕ) (x : X) → k < length xs → slice_index_or xs k x ≡ x → slice_get xs k ≡ Some x
  get_in xs k x l is = slice_get-get_or xs k x l ∙ ap Some is

  pub none_left : (xs : List X) → length xs ≡ 0 → xs ≡ []
  none_left [] e = refl
  none_left (x ∷ xs) e = absurd (omega arith)

  pub contains_none : (xs : List X) (x : X) → length xs ≡ 0 → Contains xs x → ⊥
  contains_none xs x none there = let l = there.1 in omega arith

  front_at : (x : X) (xs : List X) (y : X) (k : ℕ) → k < length (x ∷ xs) → slice_index_or (x ∷ xs) k y ≡ y → (y ≡ x) ⊎ Contains xs y
  front_at x xs y zero l e = inl (sym e)
  front_at x xs y (suc k) l e = inr (k, omega arith, e)

  pub contains_front : (x : X) (xs : List X) (y : X) → Contains (x ∷ xs) y → (y ≡ x) ⊎ Contains xs y
  contains_front x xs y there = front_at x xs y there.0 there.1 there.2

  -- what stood in a list is its last element, or still stands there once that is gone
  pub still_there : (xs ys : List X) (x y : X) → xs ≡ ys ++ y ∷ [] → Contains xs x → (x ≡ y) ⊎ Contains ys x
  still_there xs ys x y is there =
      ⊎_elim (λ (t : Contains ys x). inr t) (λ (t : y ≡ x). inl (sym t)) (Contains-push_cases ys y x (subst (λ (l : List X). Contains l x) is there))

  pub all_but_last : (P : X → Type 0) (xs ys : List X) (y : X) → xs ≡ ys ++ y ∷ [] → All P xs → P y × All P ys
  all_but_last P xs ys y is each = let all : All P (ys ++ y ∷ []) = subst (All P) is each in
      (All-contains P (ys ++ y ∷ []) y all (Contains-push ys y), λ k d l. All-contains P (ys ++ y ∷ []) (slice_index_or ys k d) all (Contains-append_left ys (y ∷ []) (slice_index_or ys k d) (Contains-get_or ys k d l)))

module _ {X : Type 0} where
  get_or_same : (xs : List X) (k : ℕ) (d e : X) → k < length xs → slice_index_or xs k d ≡ slice_index_or xs k e
  get_or_same [] k d e l = absurd (omega arith)
  get_or_same (x ∷ xs) zero d e l = refl
  get_or_same (x ∷ xs) (suc k) d e l = get_or_same xs k d e (omega arith)

  -- an element that was swapped out of a list stands before the rest in another order of it
  pub swapped_out : (xs xs' ys : List X) (i : ℕ) (x : X) → xs' ≡ xs → i < length xs' → x ≡ slice_index_or xs' i x → ys ≡ swap_remove xs' i x → IsPermutation xs (x ∷ ys)
  swapped_out xs xs' ys i x same inside at_i left =
      subst (λ (l : List X). IsPermutation l (x ∷ ys)) same (subst (λ (l : List X). IsPermutation xs' (x ∷ l)) (sym left) (IsPermutation-swap_remove xs' i x inside at_i))

  -- no element below n has the number m, nor has that at n
  pub none_more : (f : X → ℕ) (m : ℕ) (xs : List X) (n : ℕ) (x : X) → n < length xs → x ≡ slice_index_or xs n x → f x ≢ m
      → ((k : ℕ) (d : X) → k < n → f (slice_index_or xs k d) ≢ m) → (k : ℕ) (d : X) → k < n + 1 → f (slice_index_or xs k d) ≢ m
  none_more f m xs n x inside is other before k d l same = dite (ℕ_discrete k n)
      (λ here. other (ap f (is ∙ get_or_same xs n x d inside) ∙ (ap (λ (i : ℕ). f (slice_index_or xs i d)) (sym here) ∙ same)))
      (λ not_here. before k d (omega arith) same)

module _ {B E : Type 0} where
  pub next_pass : (xs ys : List (PassView B E)) (p : PassView B E) (name : TableId) (n : ℕ) (base : B) → ys ≡ xs ++ p ∷ [] → p ≡ new_pass name n base → length xs + 1 ≡ n
      → ((k : ℕ) → k < length xs → slice_get xs k ≡ Some (new_pass name (k + 1) base)) → (length ys + 1 ≡ n + 1) × ((k : ℕ) → k < length ys → slice_get ys k ≡ Some (new_pass name (k + 1) base))
  next_pass xs ys p name n base is new count each = let P : List (PassView B E) → Type 0 = λ l. (length l + 1 ≡ n + 1) × ((k : ℕ) → k < length l → slice_get l k ≡ Some (new_pass name (k + 1) base)) in
      subst P (sym is) (omega (arith, length-append xs (p ∷ [])), get_more xs p (λ k. new_pass name (k + 1) base) each (new ∙ ap (λ (k : ℕ). new_pass name k base) (sym count)))

  pub all_passes : (xs ys : List (PassView B E)) (p : PassView B E) (name : TableId) (n : ℕ) (base : B) → ys ≡ insert xs 0 p → p ≡ new_pass name 0 base → length xs + 1 ≡ n
      → ((k : ℕ) → k < length xs → slice_get xs k ≡ Some (new_pass name (k + 1) base)) → AreNew name n base ys
  all_passes xs ys p name n base is new count each = let longer : length (p ∷ xs) ≡ n = omega arith in
      subst (AreNew name n base) (sym (is ∙ insert_front xs p)) (longer, λ k l. get_front p xs (λ m. new_pass name m base) new each k (subst (λ (m : ℕ). k < m) (sym longer) l))
