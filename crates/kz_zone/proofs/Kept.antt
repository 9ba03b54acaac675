-- What a test keeps of a list, after one item of the list changes.
use Rattle.std.proofs.Common.{◌≡◌, ℕ, zero, suc, ◌+◌, ◌<◌, ◌≤◌, Bool, true, false, not, cond, nat_lt, List, [], ◌∷◌, ◌++◌, length, take, map, slice_set, slice_index_or, Some, None, refl, ap, sym, ◌∙◌, arith}
use Rattle.std.specs.List.{filter, remove, position, position_or_len}
use Rattle.std.proofs.lemmas.Bool.{cond-true, cond-false, lt-ltb, le-ltb}
use Rattle.std.proofs.lemmas.List.{map-append, append-nil, take_more}
use Rattle.std.proofs.lemmas.List.Elements.{filter-append, filter_more}

-- what f gives of each item that the test keeps
abbrev pub kept : {X Y : Type 0} → (X → Bool) → (X → Y) → List X → List Y
kept keep f xs = map f (filter keep xs)

-- how many items before this place the test keeps
abbrev pub rank : {X : Type 0} → (X → Bool) → List X → ℕ → ℕ
rank keep xs i = length (filter keep (take i xs))

module _ {X Y : Type 0} (keep : X → Bool) (f : X → Y) where
  -- one more item, which is kept
  pub kept-push : (xs : List X) (x : X) → keep x ≡ true → kept keep f (xs ++ x ∷ []) ≡ kept keep f xs ++ f x ∷ []
  kept-push xs x h =
      ap (map f) (filter-append keep xs (x ∷ [])) ∙ ap (λ (ys : List X). map f (filter keep xs ++ ys)) (cond-true (keep x) (x ∷ []) [] h)
      ∙ map-append f (filter keep xs) (x ∷ [])

  -- one more of the first items
  pub kept-more : (xs : List X) (i : ℕ) (d : X) → i < length xs → keep (slice_index_or xs i d) ≡ true → kept keep f (take (i + 1) xs) ≡ kept keep f (take i xs) ++ f (slice_index_or xs i d) ∷ []
  kept-more xs i d lt here = ap (kept keep f) (take_more xs i d lt) ∙ kept-push (take i xs) (slice_index_or xs i d) here

  pub kept-skip : (xs : List X) (i : ℕ) (d : X) → i < length xs → keep (slice_index_or xs i d) ≡ false → kept keep f (take (i + 1) xs) ≡ kept keep f (take i xs)
  kept-skip xs i d lt here =
      ap (map f) (filter_more keep xs i d lt ∙ ap (λ (ys : List X). filter keep (take i xs) ++ ys) (cond-false (keep (slice_index_or xs i d)) (slice_index_or xs i d ∷ []) [] here) ∙ append-nil (filter keep (take i xs)))

  pub length-kept : (xs : List X) → length (kept keep f xs) ≤ length xs
  length-kept [] = omega arith
  length-kept (x ∷ xs) = under (keep x) (length-kept xs)
    where
      under : (b : Bool) → length (kept keep f xs) ≤ length xs → length (map f (cond b (x ∷ filter keep xs) (filter keep xs))) ≤ length (x ∷ xs)
      under true h = omega arith
      under false h = omega arith

  -- an item that gives the same, and is kept exactly where the one before was
  pub kept-set : (xs : List X) (i : ℕ) (y d : X) → keep y ≡ keep (slice_index_or xs i d) → f y ≡ f (slice_index_or xs i d) → kept keep f (slice_set xs i y) ≡ kept keep f xs
  kept-set [] i y d k h = refl
  kept-set (x ∷ xs) zero y d k h = ap (λ b. map f (cond b (y ∷ filter keep xs) (filter keep xs))) k ∙ same (keep x)
    where
      same : (b : Bool) → map f (cond b (y ∷ filter keep xs) (filter keep xs)) ≡ map f (cond b (x ∷ filter keep xs) (filter keep xs))
      same true = ap (λ z. z ∷ kept keep f xs) h
      same false = refl
  kept-set (x ∷ xs) (suc i) y d k h = under (keep x) (kept-set xs i y d k h)
    where
      under : (b : Bool) → kept keep f (slice_set xs i y) ≡ kept keep f xs →
          map f (cond b (x ∷ filter keep (slice_set xs i y)) (filter keep (slice_set xs i y))) ≡ map f (cond b (x ∷ filter keep xs) (filter keep xs))
      under true e = ap (λ ys. f x ∷ ys) e
      under false e = e

  -- an item that was kept and is no more
  pub kept-removed : (xs : List X) (i : ℕ) (y d : X) → i < length xs → keep (slice_index_or xs i d) ≡ true → keep y ≡ false → kept keep f (slice_set xs i y) ≡ remove (kept keep f xs) (rank keep xs i)
  kept-removed [] i y d lt here gone = absurd (omega arith)
  kept-removed (x ∷ xs) zero y d lt here gone =
      ap (map f) (cond-false (keep y) (y ∷ filter keep xs) (filter keep xs) gone) ∙ ap (λ b. remove (map f (cond b (x ∷ filter keep xs) (filter keep xs))) 0) (sym here)
  kept-removed (x ∷ xs) (suc i) y d lt here gone = under (keep x) (kept-removed xs i y d (omega arith) here gone)
    where
      under : (b : Bool) → kept keep f (slice_set xs i y) ≡ remove (kept keep f xs) (rank keep xs i) →
          map f (cond b (x ∷ filter keep (slice_set xs i y)) (filter keep (slice_set xs i y)))
          ≡ remove (map f (cond b (x ∷ filter keep xs) (filter keep xs))) (length (cond b (x ∷ filter keep (take i xs)) (filter keep (take i xs))))
      under true e = ap (λ ys. f x ∷ ys) e
      under false e = e

  -- the item that is kept at its rank
  pub kept-at_rank : (xs : List X) (i : ℕ) (d : X) (e : Y) → i < length xs → keep (slice_index_or xs i d) ≡ true → slice_index_or (kept keep f xs) (rank keep xs i) e ≡ f (slice_index_or xs i d)
  kept-at_rank [] i d e lt here = absurd (omega arith)
  kept-at_rank (x ∷ xs) zero d e lt here = ap (λ b. slice_index_or (map f (cond b (x ∷ filter keep xs) (filter keep xs))) 0 e) here
  kept-at_rank (x ∷ xs) (suc i) d e lt here = under (keep x) (kept-at_rank xs i d e (omega arith) here)
    where
      under : (b : Bool) → slice_index_or (kept keep f xs) (rank keep xs i) e ≡ f (slice_index_or xs i d) →
          slice_index_or (map f (cond b (x ∷ filter keep xs) (filter keep xs))) (length (cond b (x ∷ filter keep (take i xs)) (filter keep (take i xs)))) e ≡ f (slice_index_or xs i d)
      under true h = h
      under false h = h

  pub rank-within : (xs : List X) (i : ℕ) (d : X) → i < length xs → keep (slice_index_or xs i d) ≡ true → rank keep xs i < length (kept keep f xs)
  rank-within [] i d lt here = absurd (omega arith)
  rank-within (x ∷ xs) zero d lt here = let one : length (kept keep f (x ∷ xs)) ≡ suc (length (kept keep f xs)) = ap (λ b. length (map f (cond b (x ∷ filter keep xs) (filter keep xs)))) here in omega arith
  rank-within (x ∷ xs) (suc i) d lt here = under (keep x) (rank-within xs i d (omega arith) here)
    where
      under : (b : Bool) → rank keep xs i < length (kept keep f xs) →
          length (cond b (x ∷ filter keep (take i xs)) (filter keep (take i xs))) < length (map f (cond b (x ∷ filter keep xs) (filter keep xs)))
      under true h = omega arith
      under false h = h

  module _ (test : Y → Bool) where
    -- the first place of a list that passes, as a number
    first_is : (ys : List Y) (n : ℕ) → position_or_len test ys ≡ n → n < length ys → position test ys ≡ Some n
    first_is ys n e lt =
        let within : nat_lt (position_or_len test ys) (length ys) ≡ true = lt-ltb (position_or_len test ys) (length ys) (omega arith) in
        cond-true (nat_lt (position_or_len test ys) (length ys)) (Some (position_or_len test ys)) None within ∙ ap (λ k. Some k) e

    none_passes : (ys : List Y) → position_or_len test ys ≡ length ys → position test ys ≡ None
    none_passes ys e =
        let past : nat_lt (position_or_len test ys) (length ys) ≡ false = le-ltb (position_or_len test ys) (length ys) (omega arith) in
        cond-false (nat_lt (position_or_len test ys) (length ys)) (Some (position_or_len test ys)) None past

    -- the kept item that passes first
    or_len-kept : (xs : List X) (i : ℕ) (d : X) → i < length xs → keep (slice_index_or xs i d) ≡ true → test (f (slice_index_or xs i d)) ≡ true →
        ((k : ℕ) → k < i → keep (slice_index_or xs k d) ≡ true → test (f (slice_index_or xs k d)) ≡ false) → position_or_len test (kept keep f xs) ≡ rank keep xs i
    or_len-kept [] i d lt here passes before = absurd (omega arith)
    or_len-kept (x ∷ xs) zero d lt here passes before =
        ap (λ b. position_or_len test (map f (cond b (x ∷ filter keep xs) (filter keep xs)))) here ∙ ap (λ b. cond (not b) (1 + position_or_len test (kept keep f xs)) 0) passes
    or_len-kept (x ∷ xs) (suc i) d lt here passes before = under (keep x) (before 0 (omega arith)) (or_len-kept xs i d (omega arith) here passes (λ k less. before (suc k) (omega arith)))
      where
        under : (b : Bool) → (b ≡ true → test (f x) ≡ false) → position_or_len test (kept keep f xs) ≡ rank keep xs i →
            position_or_len test (map f (cond b (x ∷ filter keep xs) (filter keep xs))) ≡ length (cond b (x ∷ filter keep (take i xs)) (filter keep (take i xs)))
        under true fails e = ap (λ b. cond (not b) (1 + position_or_len test (kept keep f xs)) 0) (fails refl) ∙ omega arith
        under false fails e = e

    pub position-kept : (xs : List X) (i : ℕ) (d : X) → i < length xs → keep (slice_index_or xs i d) ≡ true → test (f (slice_index_or xs i d)) ≡ true →
        ((k : ℕ) → k < i → keep (slice_index_or xs k d) ≡ true → test (f (slice_index_or xs k d)) ≡ false) → position test (kept keep f xs) ≡ Some (rank keep xs i)
    position-kept xs i d lt here passes before = first_is (kept keep f xs) (rank keep xs i) (or_len-kept xs i d lt here passes before) (rank-within xs i d lt here)

    -- no kept item passes
    or_len-none : (xs : List X) (d : X) → ((k : ℕ) → k < length xs → keep (slice_index_or xs k d) ≡ true → test (f (slice_index_or xs k d)) ≡ false) → position_or_len test (kept keep f xs) ≡ length (kept keep f xs)
    or_len-none [] d fail = refl
    or_len-none (x ∷ xs) d fail = under (keep x) (fail 0 (omega arith)) (or_len-none xs d (λ k less. fail (suc k) (omega arith)))
      where
        under : (b : Bool) → (b ≡ true → test (f x) ≡ false) → position_or_len test (kept keep f xs) ≡ length (kept keep f xs) →
            position_or_len test (map f (cond b (x ∷ filter keep xs) (filter keep xs))) ≡ length (map f (cond b (x ∷ filter keep xs) (filter keep xs)))
        under true fails e = ap (λ b. cond (not b) (1 + position_or_len test (kept keep f xs)) 0) (fails refl) ∙ omega arith
        under false fails e = e

    pub position-none : (xs : List X) (d : X) → ((k : ℕ) → k < length xs → keep (slice_index_or xs k d) ≡ true → test (f (slice_index_or xs k d)) ≡ false) → position test (kept keep f xs) ≡ None
    position-none xs d fail = none_passes (kept keep f xs) (or_len-none xs d fail)
