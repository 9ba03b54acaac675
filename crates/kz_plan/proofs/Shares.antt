-- Lemmas on the division of a budget.
use Rattle.std.proofs.Common.{◌≡◌, ℕ, zero, suc, ◌+◌, ◌-◌, ◌*◌, ◌<◌, ◌≤◌, ◌⊎◌, Bool, true, false, cond, List, [], ◌∷◌, length, get_or, refl, sym, subst, add-zero, zero-add, ◌∙◌, ap, inl, inr, arith}
use Rattle.std.specs.Prelude.{sum, sum_by, count_by, nat_lt, ◌||◌, ◌&&◌, ◌==◌}
use Rattle.std.specs.List.{range_with_len, flat_map}
use Rattle.kz_model.specs.Types.Share.{precedes, rank, is_granted, part, share, marks_of}
use Rattle.kz_plan.specs.Sharing.{ComesBefore, IsInOrder, IsDivision}
use Rattle.kz_model.proofs.Counts.{count_by-map}
use Rattle.std.proofs.lemmas.List.Sums.{sum_by-cons, sum_by-append}
use Rattle.std.proofs.lemmas.Bool.{cases_lt, ltb-true, lt-ltb}
use Rattle.std.proofs.lemmas.Bool.Decides.{nat_tests}
use Rattle.std.proofs.lemmas.List.{same_lists}
use Rattle.std.proofs.lemmas.List.FromFn.{length-map-range_with_len, get_or-map-range_with_len}
use Rattle.std.proofs.Math.Nat.{eq-or-lt_of_le, mul-le-mul_left}
use Rattle.std.proofs.lemmas.Grind.{get_or_default_zero}

pub bool_cases : (b : Bool) → (b ≡ true) ⊎ (b ≡ false)
bool_cases true = inl refl
bool_cases false = inr refl

-- Sums over the numbers from s on.

pub sum_by-le : (f g : ℕ → ℕ) (s n : ℕ) → ((j : ℕ) → s ≤ j → j < s + n → f j ≤ g j) → sum_by f (range_with_len s n) ≤ sum_by g (range_with_len s n)
sum_by-le f g s zero below = omega arith
sum_by-le f g s (suc n) below =
    let here : f s ≤ g s = below s (omega arith) (omega arith) in
    let rest : sum_by f (range_with_len (s + 1) n) ≤ sum_by g (range_with_len (s + 1) n) = sum_by-le f g (s + 1) n (λ j from to. below j (omega arith) (omega arith)) in
    omega (arith, sum_by-cons f s (range_with_len (s + 1) n), sum_by-cons g s (range_with_len (s + 1) n))

pub sum_by-lt : (f g : ℕ → ℕ) (s n i : ℕ) → s ≤ i → i < s + n → f i < g i → ((j : ℕ) → s ≤ j → j < s + n → f j ≤ g j) → sum_by f (range_with_len s n) < sum_by g (range_with_len s n)
sum_by-lt f g s zero i from to less below = absurd (omega arith)
sum_by-lt f g s (suc n) i from to less below =
    let here : f s ≤ g s = below s (omega arith) (omega arith) in
    let rest : sum_by f (range_with_len (s + 1) n) ≤ sum_by g (range_with_len (s + 1) n) = sum_by-le f g (s + 1) n (λ j from to. below j (omega arith) (omega arith)) in
    let ef : sum_by f (range_with_len s (suc n)) ≡ f s + sum_by f (range_with_len (s + 1) n) = sum_by-cons f s (range_with_len (s + 1) n) in
    let eg : sum_by g (range_with_len s (suc n)) ≡ g s + sum_by g (range_with_len (s + 1) n) = sum_by-cons g s (range_with_len (s + 1) n) in
    elim (eq-or-lt_of_le from) [
      | inl e ↦ let first : f s < g s = subst (λ (x : ℕ). f x < g x) (sym e) less in omega arith
      | inr later ↦
          let deep : sum_by f (range_with_len (s + 1) n) < sum_by g (range_with_len (s + 1) n) = sum_by-lt f g (s + 1) n i (omega arith) (omega arith) less (λ j from to. below j (omega arith) (omega arith)) in omega arith
    ]

-- where each element of a list is one more than f, the list's sum is the sum of f and its length
pub sum_one_more : (f : ℕ → ℕ) (s : ℕ) (xs : List ℕ) → ((k : ℕ) → k < length xs → f (s + k) + 1 ≡ get_or xs k 0) → sum_by f (range_with_len s (length xs)) + length xs ≡ sum xs
sum_one_more f s [] more = refl
sum_one_more f s (x ∷ xs) more =
    let here : f s + 1 ≡ x = rw (add-zero s) at (more 0 (omega arith)) in
    let rest : sum_by f (range_with_len (s + 1) (length xs)) + length xs ≡ sum xs = sum_one_more f (s + 1) xs (λ k less. let h : f (s + suc k) + 1 ≡ get_or xs k 0 = more (suc k) (omega arith) in let e : s + 1 + k ≡ s + suc k = omega arith in ap (λ (z : ℕ). f z + 1) e ∙ h) in
    omega (arith, sum_by-cons f s (range_with_len (s + 1) (length xs)), sum_by-cons (λ y. y) x xs)

-- Counts over the numbers from s on.

-- one step of a count
pub count_by-cons_yes : {X : Type 0} (q : X → Bool) (x : X) (xs : List X) → q x ≡ true → count_by q (x ∷ xs) ≡ 1 + count_by q xs
count_by-cons_yes q x xs pass = sum_by-cons (λ y. cond (q y) 1 0) x xs ∙ ap (λ (b : Bool). cond b 1 0 + count_by q xs) pass

pub count_by-cons_no : {X : Type 0} (q : X → Bool) (x : X) (xs : List X) → q x ≡ false → count_by q (x ∷ xs) ≡ count_by q xs
count_by-cons_no q x xs fail = sum_by-cons (λ y. cond (q y) 1 0) x xs ∙ ap (λ (b : Bool). cond b 1 0 + count_by q xs) fail ∙ zero-add (count_by q xs)

-- only numbers below p pass
pub count_by-le : (q : ℕ → Bool) (s n p : ℕ) → ((k : ℕ) → s ≤ k → k < s + n → q k ≡ true → k < p) → count_by q (range_with_len s n) ≤ p - s
count_by-le q s zero p only = omega arith
count_by-le q s (suc n) p only =
    let rest : count_by q (range_with_len (s + 1) n) ≤ p - (s + 1) = count_by-le q (s + 1) n p (λ k from to pass. only k (omega arith) (omega arith) pass) in
    elim (bool_cases (q s)) [
      | inl pass ↦ let here : s < p = only s (omega arith) (omega arith) pass in omega (arith, count_by-cons_yes q s (range_with_len (s + 1) n) pass)
      | inr fail ↦ omega (arith, count_by-cons_no q s (range_with_len (s + 1) n) fail)
    ]

-- all numbers below p pass
pub count_by-ge : (q : ℕ → Bool) (s n p : ℕ) → p ≤ s + n → ((k : ℕ) → s ≤ k → k < p → q k ≡ true) → p - s ≤ count_by q (range_with_len s n)
count_by-ge q s zero p short all = omega arith
count_by-ge q s (suc n) p short all =
    let rest : p - (s + 1) ≤ count_by q (range_with_len (s + 1) n) = count_by-ge q (s + 1) n p (omega arith) (λ k from to. all k (omega arith) to) in
    elim (cases_lt s p) [
      | inl less ↦ omega (arith, count_by-cons_yes q s (range_with_len (s + 1) n) (all s (omega arith) less))
      | inr more ↦ omega arith
    ]

pub count_by-flat_map : {X Y : Type 0} (q : Y → Bool) (f : X → List Y) (xs : List X) → count_by q (flat_map f xs) ≡ sum_by (λ x. count_by q (f x)) xs
count_by-flat_map q f [] = refl
count_by-flat_map q f (x ∷ xs) = omega (arith, count_by-flat_map q f xs, sum_by-append (λ y. cond (q y) 1 0) (f x) (flat_map f xs), sum_by-cons (λ y. count_by q (f y)) x xs)

test_means : (x y i j : ℕ) → (nat_lt x y || ((x == y) && nat_lt i j)) ≡ true → (x ≤ y) × (x ≡ y → i < j)
test_means x y i j pass = grind (arith, nat_tests)

test_passes : (x y i j : ℕ) → x ≤ y → (x ≡ y → i < j) → (nat_lt x y || ((x == y) && nat_lt i j)) ≡ true
test_passes x y i j below tie = grind (arith, nat_tests)

pub before_of_precedes : (counts : List ℕ) (i k j l : ℕ) → precedes counts (i, k) (j, l) ≡ true → ComesBefore i (get_or counts i 0) k j (get_or counts j 0) l
before_of_precedes counts i k j l pass = test_means (get_or counts j 0 * k) (get_or counts i 0 * l) i j pass

pub precedes_of_before : (counts : List ℕ) (i k j l : ℕ) → ComesBefore i (get_or counts i 0) k j (get_or counts j 0) l → precedes counts (i, k) (j, l) ≡ true
precedes_of_before counts i k j l before = test_passes (get_or counts j 0 * k) (get_or counts i 0 * l) i j before.0 before.1

pub sum_by-same : (f g : ℕ → ℕ) (s n : ℕ) → ((j : ℕ) → f j ≡ g j) → sum_by f (range_with_len s n) ≡ sum_by g (range_with_len s n)
sum_by-same f g s n same =
    let up : sum_by f (range_with_len s n) ≤ sum_by g (range_with_len s n) = sum_by-le f g s n (λ j _ _. omega (arith, same j)) in
    let down : sum_by g (range_with_len s n) ≤ sum_by f (range_with_len s n) = sum_by-le g f s n (λ j _ _. omega (arith, same j)) in
    omega arith

-- how many marks of class j precede a mark
abbrev pub rank_among : List ℕ → ℕ → ℕ → ℕ → ℕ
rank_among counts i k j = count_by (λ l. precedes counts (j, l) (i, k)) (range_with_len 1 (get_or counts j 0 - 1))

pub rank-sum : (counts : List ℕ) (i k : ℕ) → rank counts (i, k) ≡ sum_by (rank_among counts i k) (range_with_len 0 (length counts))
rank-sum counts i k =
    count_by-flat_map (λ m. precedes counts m (i, k)) (marks_of counts) (range_with_len 0 (length counts))
    ∙ sum_by-same (λ j. count_by (λ m. precedes counts m (i, k)) (marks_of counts j)) (rank_among counts i k) 0 (length counts)
    (λ j. count_by-map (λ m. precedes counts m (i, k)) (λ l. (j, l)) (range_with_len 1 (get_or counts j 0 - 1)))

-- the marks given, summed
pub sum-given : (counts parts : List ℕ) → IsInOrder counts parts → sum_by (λ j. get_or parts j 0 - 1) (range_with_len 0 (length counts)) + length counts ≡ sum parts
sum-given counts parts h =
    subst (λ (n : ℕ). sum_by (λ j. get_or parts j 0 - 1) (range_with_len 0 n) + n ≡ sum parts) h.same_length
    (sum_one_more (λ j. get_or parts j 0 - 1) 0 parts (λ k less.
    let here : 1 ≤ get_or parts k 0 = h.at_least k (omega (arith, h.same_length)) in
    rw (zero-add k) (omega arith)))

-- two marks do not precede each other
not_both : (i c k j d l : ℕ) → ComesBefore i c k j d l → ComesBefore j d l i c k → ⊥
not_both i c k j d l first second =
    let same : d * k ≡ c * l = omega (arith, first.0, second.0) in
    let one : i < j = first.1 same in
    let other : j < i = second.1 (sym same) in
    omega arith

-- of one class's marks the smaller number precedes
smaller_first : (i c k l : ℕ) → ComesBefore i c l i c k → l < k
smaller_first i c k l before =
    elim (cases_lt l k) [
      | inl less ↦ less
      | inr more ↦ let le : c * k ≤ c * l = mul-le-mul_left c more in
          let same : c * l ≡ c * k = omega (arith, before.0) in
          let none : i < i = before.1 same in absurd (omega arith)
    ]

pub rank-given : (counts parts : List ℕ) (budget i k : ℕ) → IsDivision counts parts budget → i < length counts → 1 ≤ k → k < get_or parts i 0 → rank counts (i, k) < budget - length counts
rank-given counts parts budget i k h inside from to =
    let below : (j : ℕ) → 0 ≤ j → j < 0 + length counts → rank_among counts i k j ≤ get_or parts j 0 - 1 =
    λ j _ within. count_by-le (λ l. precedes counts (j, l) (i, k)) 1 (get_or counts j 0 - 1) (get_or parts j 0) (λ l start stop pass.
    elim (cases_lt l (get_or parts j 0)) [
      | inl less ↦ less
      | inr more ↦ absurd (not_both i (get_or counts i 0) k j (get_or counts j 0) l
          (h.in_order.order i j k l inside (omega arith) from to more (omega arith)) (before_of_precedes counts j l i k pass))
    ]) in
    let here : rank_among counts i k i ≤ k - 1 =
    count_by-le (λ l. precedes counts (i, l) (i, k)) 1 (get_or counts i 0 - 1) k (λ l start stop pass. smaller_first i (get_or counts i 0) k l (before_of_precedes counts i l i k pass)) in
    let less : sum_by (rank_among counts i k) (range_with_len 0 (length counts)) < sum_by (λ j. get_or parts j 0 - 1) (range_with_len 0 (length counts)) =
    sum_by-lt (rank_among counts i k) (λ j. get_or parts j 0 - 1) 0 (length counts) i (omega arith) (omega arith) (omega arith) below in
    omega (arith, rank-sum counts i k, sum-given counts parts h.in_order, h.within)

pub rank-not_given : (counts parts : List ℕ) (budget i k : ℕ) → IsDivision counts parts budget → i < length counts → get_or parts i 0 ≤ k → k < get_or counts i 0 → budget - length counts ≤ rank counts (i, k)
rank-not_given counts parts budget i k h inside from to =
    let above : (j : ℕ) → 0 ≤ j → j < 0 + length counts → get_or parts j 0 - 1 ≤ rank_among counts i k j =
    λ j _ within.
    let at_least : 1 ≤ get_or parts j 0 = h.in_order.at_least j (omega arith) in
    let at_most : get_or parts j 0 ≤ get_or counts j 0 = h.in_order.at_most j (omega arith) in
    count_by-ge (λ l. precedes counts (j, l) (i, k)) 1 (get_or counts j 0 - 1) (get_or parts j 0) (omega arith) (λ l start stop.
    precedes_of_before counts j l i k (h.in_order.order j i l k (omega arith) inside start stop from to)) in
    let more : sum_by (λ j. get_or parts j 0 - 1) (range_with_len 0 (length counts)) ≤ sum_by (rank_among counts i k) (range_with_len 0 (length counts)) =
    sum_by-le (λ j. get_or parts j 0 - 1) (rank_among counts i k) 0 (length counts) above in
    omega (arith, rank-sum counts i k, sum-given counts parts h.in_order, h.spent i inside (omega arith))

pub part-given : (counts parts : List ℕ) (budget i : ℕ) → IsDivision counts parts budget → i < length counts → part counts budget i ≡ get_or parts i 0
part-given counts parts budget i h inside =
    let at_least : 1 ≤ get_or parts i 0 = h.in_order.at_least i inside in
    let at_most : get_or parts i 0 ≤ get_or counts i 0 = h.in_order.at_most i inside in
    let test : ℕ → Bool = λ k. is_granted counts budget (i, k) in
    let up : count_by test (range_with_len 1 (get_or counts i 0 - 1)) ≤ get_or parts i 0 - 1 =
    count_by-le test 1 (get_or counts i 0 - 1) (get_or parts i 0) (λ k start stop pass.
    elim (cases_lt k (get_or parts i 0)) [
      | inl less ↦ less
      | inr more ↦
          let few : rank counts (i, k) < budget - length counts = ltb-true (rank counts (i, k)) (budget - length counts) pass in
          absurd (omega (arith, rank-not_given counts parts budget i k h inside more (omega arith)))
    ]) in
    let down : get_or parts i 0 - 1 ≤ count_by test (range_with_len 1 (get_or counts i 0 - 1)) =
    count_by-ge test 1 (get_or counts i 0 - 1) (get_or parts i 0) (omega arith) (λ k start stop.
    lt-ltb (rank counts (i, k)) (budget - length counts) (rank-given counts parts budget i k h inside start stop)) in
    omega (arith, count_by-map (is_granted counts budget) (λ k. (i, k)) (range_with_len 1 (get_or counts i 0 - 1)))

-- The division of the budget is the one in order that spends it.
pub share-division : (counts parts : List ℕ) (budget : ℕ) → IsDivision counts parts budget → share counts budget ≡ parts
share-division counts parts budget h =
    sym (same_lists parts (share counts budget) (h.in_order.same_length ∙ sym (length-map-range_with_len (part counts budget) 0 (length counts))) (λ k d less.
    let inside : k < length counts = omega (arith, h.in_order.same_length) in
    get_or_default_zero parts k d less ∙ sym (part-given counts parts budget k h inside)
    ∙ sym (get_or-map-range_with_len (part counts budget) 0 (length counts) k k d inside (zero-add k))))
