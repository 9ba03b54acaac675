-- Lists of views, read by `get_elem?`: sums over them, and what no two of them share.
use Rattle.std.proofs.Common.{append-nil, ◌≡◌, ◌≢◌, ◌⊎◌, ℕ, zero, suc, ◌+◌, ◌<◌, ◌≤◌, List, [], ◌∷◌, ◌++◌, map, length, set, sym, refl, ap, ◌∙◌, subst, inl, inr, ⊎_elim, arith, cond, get_or, eqb, eq-eqb, ne_eqb, Bool}
use Rattle.std.specs.List.{filter, sum_by, All}
use Rattle.std.proofs.lemmas.List.Sums.{sum_by-cons, sum_by-append}
use Rattle.std.proofs.lemmas.List.Elements.{filter-append}
use Rattle.std.proofs.lemmas.List.{map-append}
use mathlib.Core.Option.{some, some-injective, some-ne-none, none}
use mathlib.Core.Logic.{dite}
use native.Mathlib.Decide.{ℕ_discrete, dec_le}
use lib.ListN.{get_elem?}
use Rattle.atomic_table.proofs.Lists.{at_set, set_here, set_else, at_longer}
use Rattle.kz_turn.specs.declared.view.View.{View}
use Rattle.kz_turn.specs.Journal.{entries_of}
use Rattle.kz_turn.specs.Views.{number_of, HasZeroth, Differ}

module _ {A : Type 0} where
  pub sum_at : (f : A → ℕ) (xs : List A) (i : ℕ) (x y : A) → get_elem? xs i ≡ some x → sum_by f (set xs i y) + f x ≡ sum_by f xs + f y
  sum_at f [] i x y e = absurd (some-ne-none x (sym e))
  sum_at f (z ∷ zs) zero x y e = let h : f z ≡ f x = ap f (some-injective z x e) in omega (arith, sum_by-cons f y zs, sum_by-cons f z zs)
  sum_at f (z ∷ zs) (suc i) x y e = omega (arith, sum_at f zs i x y e, sum_by-cons f z (set zs i y), sum_by-cons f z zs)

  pub sum_more : (f : A → ℕ) (xs : List A) (y : A) → sum_by f (xs ++ y ∷ []) ≡ sum_by f xs + f y
  sum_more f xs y = omega (arith, sum_by-append f xs (y ∷ []), sum_by-cons f y [])

  pub sum_under : (f g : A → ℕ) → ((x : A) → f x ≤ g x) → (xs : List A) → sum_by f xs ≤ sum_by g xs
  sum_under f g le [] = omega arith
  sum_under f g le (x ∷ xs) = omega (arith, le x, sum_under f g le xs, sum_by-cons f x xs, sum_by-cons g x xs)

  pub at_end : (l : List A) (a b : A) (j : ℕ) → get_elem? (l ++ a ∷ []) j ≡ some b → (get_elem? l j ≡ some b) ⊎ ((j ≡ length l) × (a ≡ b))
  at_end [] a b zero e = inr (refl, some-injective a b e)
  at_end [] a b (suc j) e = absurd (some-ne-none b (sym e))
  at_end (x ∷ xs) a b zero e = inl e
  at_end (x ∷ xs) a b (suc j) e = ⊎_elim (λ (t : get_elem? xs j ≡ some b). inl t) (λ (t : (j ≡ length xs) × (a ≡ b)). inr (omega arith, t.1)) (at_end xs a b j e)

  pub inside : (l : List A) (i : ℕ) (a : A) → get_elem? l i ≡ some a → i < length l
  inside [] i a e = absurd (some-ne-none a (sym e))
  inside (x ∷ xs) zero a e = omega arith
  inside (x ∷ xs) (suc i) a e = omega (arith, inside xs i a e)

  -- what holds of the new one and of the others
  pub each_set : (K : ℕ → A → Type 0) (vs : List A) (me : ℕ) (w : A) → K me w → ((j : ℕ) (v : A) → j ≢ me → get_elem? vs j ≡ some v → K j v)
      → (j : ℕ) (v : A) → get_elem? (set vs me w) j ≡ some v → K j v
  each_set K vs me w mine others j v e = ⊎_elim (λ (t : (j ≡ me) × (w ≡ v)). subst (λ (x : ℕ × A). K x.0 x.1) (λ i. (sym t.0 i, t.1 i)) mine) (λ (t : (j ≢ me) × (get_elem? vs j ≡ some v)). others j v t.0 t.1) (at_set vs me j w v e)

  pub each_more : (K : ℕ → A → Type 0) (vs : List A) (w : A) → K (length vs) w → ((j : ℕ) (v : A) → get_elem? vs j ≡ some v → K j v)
      → (j : ℕ) (v : A) → get_elem? (vs ++ w ∷ []) j ≡ some v → K j v
  each_more K vs w mine others j v e = ⊎_elim (λ (t : get_elem? vs j ≡ some v). others j v t) (λ (t : (j ≡ length vs) × (w ≡ v)). subst (λ (x : ℕ × A). K x.0 x.1) (λ i. (sym t.0 i, t.1 i)) mine) (at_end vs w v j e)

module _ {A : Type 0} (f : A → mathlib.Core.Option.Option ℕ) where
  pub differ_set : (vs : List A) (me : ℕ) (w : A) → Differ f vs → ((j : ℕ) (v : A) (n : ℕ) → j ≢ me → get_elem? vs j ≡ some v → f v ≡ some n → f w ≢ some n) → Differ f (set vs me w)
  differ_set vs me w d new i j v u n at_i at_j is_v is_u =
      ⊎_elim
      (λ (p : (i ≡ me) × (w ≡ v)). ⊎_elim
      (λ (q : (j ≡ me) × (w ≡ u)). p.0 ∙ sym q.0)
      (λ (q : (j ≢ me) × (get_elem? vs j ≡ some u)). absurd (new j u n q.0 q.1 is_u (ap f p.1 ∙ is_v)))
      (at_set vs me j w u at_j))
      (λ (p : (i ≢ me) × (get_elem? vs i ≡ some v)). ⊎_elim
      (λ (q : (j ≡ me) × (w ≡ u)). absurd (new i v n p.0 p.1 is_v (ap f q.1 ∙ is_u)))
      (λ (q : (j ≢ me) × (get_elem? vs j ≡ some u)). d i j v u n p.1 q.1 is_v is_u)
      (at_set vs me j w u at_j))
      (at_set vs me i w v at_i)

  -- the new one has what the old one had
  pub differ_same : (vs : List A) (me : ℕ) (v w : A) → get_elem? vs me ≡ some v → f w ≡ f v → Differ f vs → Differ f (set vs me w)
  differ_same vs me v w at same d = differ_set vs me w d (λ j u n other at_j is_u is_w. other (d j me u v n at_j at is_u (sym same ∙ is_w)))

  -- the new one has none
  pub differ_none : (vs : List A) (me : ℕ) (w : A) → f w ≡ none → Differ f vs → Differ f (set vs me w)
  differ_none vs me w is d = differ_set vs me w d (λ j u n _ _ _ is_w. some-ne-none n (sym is_w ∙ is))

  pub differ_more : (vs : List A) (w : A) → Differ f vs → ((j : ℕ) (v : A) (n : ℕ) → get_elem? vs j ≡ some v → f v ≡ some n → f w ≢ some n) → Differ f (vs ++ w ∷ [])
  differ_more vs w d new i j v u n at_i at_j is_v is_u =
      ⊎_elim
      (λ (p : get_elem? vs i ≡ some v). ⊎_elim
      (λ (q : get_elem? vs j ≡ some u). d i j v u n p q is_v is_u)
      (λ (q : (j ≡ length vs) × (w ≡ u)). absurd (new i v n p is_v (ap f q.1 ∙ is_u)))
      (at_end vs w u j at_j))
      (λ (p : (i ≡ length vs) × (w ≡ v)). ⊎_elim
      (λ (q : get_elem? vs j ≡ some u). absurd (new j u n q is_u (ap f p.1 ∙ is_v)))
      (λ (q : (j ≡ length vs) × (w ≡ u)). p.0 ∙ sym q.0)
      (at_end vs w u j at_j))
      (at_end vs w v i at_i)

module _ {B E : Type 0} where
  pub zeroth_set : (vs : List (View B E)) (me : ℕ) (v w : View B E) → get_elem? vs me ≡ some v → number_of w ≡ number_of v → HasZeroth vs → HasZeroth (set vs me w)
  zeroth_set vs me v w at same z = dite (ℕ_discrete z.0 me)
      (λ here. (me, w, set_here vs me w (inside vs me v at), same ∙ (ap number_of (some-injective v z.1 (sym at ∙ (ap (get_elem? vs) (sym here) ∙ z.2))) ∙ z.3)))
      (λ other. (z.0, z.1, set_else vs me z.0 w other ∙ z.2, z.3))

  pub zeroth_more : (vs : List (View B E)) (w : View B E) → HasZeroth vs → HasZeroth (vs ++ w ∷ [])
  zeroth_more vs w z = (z.0, z.1, at_longer vs (w ∷ []) z.0 z.1 z.2, z.3)

module _ {E : Type 0} where
  pub entries_of-append : (n : ℕ) (xs ys : List (ℕ × E)) → entries_of n (xs ++ ys) ≡ entries_of n xs ++ entries_of n ys
  entries_of-append n xs ys = ap (map (λ (x : ℕ × E). x.1)) (filter-append (λ (x : ℕ × E). eqb x.0 n) xs ys) ∙ map-append (λ (x : ℕ × E). x.1) (filter (λ (x : ℕ × E). eqb x.0 n) xs) (filter (λ (x : ℕ × E). eqb x.0 n) ys)

  pub entries_of-own : (n : ℕ) (xs : List (ℕ × E)) (e : E) → entries_of n (xs ++ (n, e) ∷ []) ≡ entries_of n xs ++ e ∷ []
  entries_of-own n xs e = entries_of-append n xs ((n, e) ∷ []) ∙ ap (λ (l : List E). entries_of n xs ++ l) (subst (λ (b : Bool). map (λ (x : ℕ × E). x.1) (cond b ((n, e) ∷ []) []) ≡ e ∷ []) (sym (eq-eqb n n refl)) refl)

  pub entries_of-other : (n m : ℕ) (xs : List (ℕ × E)) (e : E) → m ≢ n → entries_of n (xs ++ (m, e) ∷ []) ≡ entries_of n xs
  entries_of-other n m xs e ne = entries_of-append n xs ((m, e) ∷ []) ∙ (ap (λ (l : List E). entries_of n xs ++ l) (subst (λ (b : Bool). map (λ (x : ℕ × E). x.1) (cond b ((m, e) ∷ []) []) ≡ []) (sym (ne_eqb m n ne)) refl) ∙ append-nil (entries_of n xs))

  first_entry : (n : ℕ) (y : ℕ × E) (ys : List (ℕ × E)) → y.0 ≡ n → entries_of n (y ∷ ys) ≢ []
  first_entry n y ys same empty = let F : List (ℕ × E) = filter (λ (x : ℕ × E). eqb x.0 n) ys in
      let here : y.1 ∷ map (λ (x : ℕ × E). x.1) F ≡ [] = subst (λ (b : Bool). map (λ (x : ℕ × E). x.1) (cond b (y ∷ F) F) ≡ []) (eq-eqb y.0 n same) empty in cc

  has_entry : (n : ℕ) (log : List (ℕ × E)) (k : ℕ) (d : ℕ × E) → k < length log → (get_or log k d).0 ≡ n → entries_of n log ≢ []
  has_entry n [] k d l is empty = omega arith
  has_entry n (y ∷ ys) zero d l is empty = first_entry n y ys is empty
  has_entry n (y ∷ ys) (suc k) d l is empty = dite (ℕ_discrete y.0 n) (λ same. first_entry n y ys same empty) (λ other.
      let F : List (ℕ × E) = filter (λ (x : ℕ × E). eqb x.0 n) ys in
      has_entry n ys k d (omega arith) is (subst (λ (b : Bool). map (λ (x : ℕ × E). x.1) (cond b (y ∷ F) F) ≡ []) (ne_eqb y.0 n other) empty))

  -- where no number from `made` on has an entry, each entry has a number below
  pub all_below : (made seats : ℕ) (log : List (ℕ × E)) → made ≤ seats → ((n : ℕ) → made ≤ n → entries_of n log ≡ []) → All (λ x. x.0 < seats) log
  all_below made seats log few empty k d l = dite (dec_le made (get_or log k d).0) (λ above. absurd (has_entry (get_or log k d).0 log k d l refl (empty (get_or log k d).0 above))) (λ below. omega arith)
