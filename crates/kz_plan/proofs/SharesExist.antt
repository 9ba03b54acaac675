-- Each budget has its division, and none is better.
use Rattle.std.proofs.Common.{◌≡◌, ℕ, zero, suc, ◌+◌, ◌-◌, ◌*◌, ◌<◌, ◌≤◌, ◌⊎◌, List, [], ◌∷◌, length, get_or, replicate, refl, sym, subst, ◌∙◌, ap, inl, inr, arith, zero-add, add-one, add-zero}
use Rattle.std.specs.Prelude.{sum, sum_by}
use Rattle.std.specs.List.{range_with_len}
use Rattle.std.proofs.lemmas.Bool.{cases_lt, cases_eq}
use Rattle.std.proofs.lemmas.List.Elements.{All-get_or, All-from_get_or}
use Rattle.std.proofs.lemmas.List.Sums.{sum_by-cons}
use Rattle.std.proofs.Math.Nat.{mul-le-mul_left}
use Rattle.kz_model.specs.Types.Share.{share}
use Rattle.kz_plan.specs.Sharing.{IsInOrder, IsDivision, AreFull, IsNextClass}
use Rattle.kz_plan.specs.ShareLaws.{HaveSignatures, SharesAreWithin, SharesSpend, SharesAreFairest, OneForEach, OneMoreForNext, RestIsUnused}
use Rattle.kz_plan.proofs.Shares.{sum_by-le, sum_by-lt, sum_one_more, share-division}
use Rattle.kz_plan.proofs.SharesGrow.{full_none, full_more, next_first, next_full, next_kept, next_greater, ones-in_order, sum-ones, with_more, sum-with_more, in_order-more, division_full, division_spent}

-- of the first n classes none wants a zone, or one is next
seen_or_next : (counts parts : List ℕ) → IsInOrder counts parts → (n : ℕ) → n ≤ length counts → AreFull counts parts n ⊎ ((i : ℕ) × IsNextClass counts parts n i)
seen_or_next counts parts ordered zero inside = inl (full_none counts parts)
seen_or_next counts parts ordered (suc n) inside =
    subst (λ (m : ℕ). AreFull counts parts m ⊎ ((i : ℕ) × IsNextClass counts parts m i)) (add-one n)
    (elim (seen_or_next counts parts ordered n (omega arith)) [
      | inl full ↦
          elim (cases_lt (get_or parts n 0) (get_or counts n 0)) [
            | inl wants ↦ inr (n, next_first counts parts n full wants)
            | inr here ↦ inl (full_more counts parts n full here)
          ]
      | inr found ↦
          elim (cases_lt (get_or parts n 0) (get_or counts n 0)) [
            | inl wants ↦
                elim (cases_lt (get_or counts found.0 0 * get_or parts n 0) (get_or counts n 0 * get_or parts found.0 0)) [
                  | inl greater ↦ inr (n, next_greater counts parts n found.0 ordered (omega arith) found.1 wants greater)
                  | inr below ↦ inr (found.0, next_kept counts parts n found.0 found.1 below)
                ]
            | inr here ↦ inr (found.0, next_full counts parts n found.0 found.1 here)
          ]
    ])

pub full_or_next : (counts parts : List ℕ) → IsInOrder counts parts → AreFull counts parts (length counts) ⊎ ((i : ℕ) × IsNextClass counts parts (length counts) i)
full_or_next counts parts ordered = seen_or_next counts parts ordered (length counts) (omega arith)

-- each count is at least 1
some_at : (counts : List ℕ) → HaveSignatures counts → (i : ℕ) → i < length counts → 1 ≤ get_or counts i 0
some_at counts some i inside = All-get_or (λ (count : ℕ). 1 ≤ count) counts i 0 inside some

-- one more zone for the class that is next
division_more : (counts parts : List ℕ) (budget i : ℕ) → IsDivision counts parts budget → IsNextClass counts parts (length counts) i → IsDivision counts (with_more parts i) (budget + 1)
division_more counts parts budget i h next =
    division_spent counts (with_more parts i) (budget + 1) (in_order-more counts parts i h.in_order next)
    (omega (arith, h.spent i next.inside next.wants, sum-with_more parts i (omega (arith, next.inside, h.in_order.same_length))))

-- and where there is none, one more that is unused
division_unused : (counts parts : List ℕ) (budget : ℕ) → IsDivision counts parts budget → AreFull counts parts (length counts) → IsDivision counts parts (budget + 1)
division_unused counts parts budget h full = division_full counts parts (budget + 1) h.in_order full (omega (arith, h.within))

-- one zone for each class divides their number
division_ones : (counts : List ℕ) → HaveSignatures counts → IsDivision counts (replicate (length counts) 1) (length counts)
division_ones counts some = division_spent counts (replicate (length counts) 1) (length counts) (ones-in_order counts (some_at counts some)) (sum-ones (length counts))

divided : (counts : List ℕ) → HaveSignatures counts → (zones : ℕ) → (parts : List ℕ) × IsDivision counts parts (length counts + zones)
divided counts some zero = (replicate (length counts) 1, subst (λ (n : ℕ). IsDivision counts (replicate (length counts) 1) n) (sym (add-zero (length counts))) (division_ones counts some))
divided counts some (suc zones) =
    let before = divided counts some zones in
    let same : length counts + zones + 1 ≡ length counts + suc zones = omega arith in
    subst (λ (n : ℕ). (parts : List ℕ) × IsDivision counts parts n) same
    (elim (full_or_next counts before.0 before.1.in_order) [
      | inl full ↦ (before.0, division_unused counts before.0 (length counts + zones) before.1 full)
      | inr next ↦ (with_more before.0 next.0, division_more counts before.0 (length counts + zones) next.0 before.1 next.1)
    ])

-- the shares are the division of the budget
pub division-share : (counts : List ℕ) (budget : ℕ) → HaveSignatures counts → length counts ≤ budget → IsDivision counts (share counts budget) budget
division-share counts budget some enough =
    let found = divided counts some (budget - length counts) in
    let same : length counts + (budget - length counts) ≡ budget = omega arith in
    let here : IsDivision counts found.0 budget = subst (λ (n : ℕ). IsDivision counts found.0 n) same found.1 in
    subst (λ (parts : List ℕ). IsDivision counts parts budget) (sym (share-division counts found.0 budget here)) here

pub shares_are_within : SharesAreWithin
shares_are_within counts budget some enough =
    let h = division-share counts budget some enough in
    record { same_length = h.in_order.same_length; at_least = h.in_order.at_least; at_most = h.in_order.at_most; within = h.within }

-- the sum of a list, over its places
sum_at : (f : ℕ → ℕ) (s : ℕ) (xs : List ℕ) → ((k : ℕ) → k < length xs → f (s + k) ≡ get_or xs k 0) → sum_by f (range_with_len s (length xs)) ≡ sum xs
sum_at f s [] same = refl
sum_at f s (x ∷ xs) same =
    let here : f s ≡ x = rw (add-zero s) at (same 0 (omega arith)) in
    let rest : sum_by f (range_with_len (s + 1) (length xs)) ≡ sum xs = sum_at f (s + 1) xs (λ k less.
    let h : f (s + suc k) ≡ get_or xs k 0 = same (suc k) (omega arith) in
    let e : s + 1 + k ≡ s + suc k = omega arith in ap f e ∙ h) in
    omega (arith, sum_by-cons f s (range_with_len (s + 1) (length xs)), sum_by-cons (λ (y : ℕ). y) x xs)

sum-places : (xs : List ℕ) → sum_by (λ j. get_or xs j 0) (range_with_len 0 (length xs)) ≡ sum xs
sum-places xs = sum_at (λ j. get_or xs j 0) 0 xs (λ k less. ap (λ (n : ℕ). get_or xs n 0) (zero-add k))

-- a list that is at most another, place by place
sum-le : (xs ys : List ℕ) → length xs ≡ length ys → ((j : ℕ) → j < length ys → get_or xs j 0 ≤ get_or ys j 0) → sum xs ≤ sum ys
sum-le xs ys same below =
    let less : sum_by (λ j. get_or xs j 0) (range_with_len 0 (length ys)) ≤ sum_by (λ j. get_or ys j 0) (range_with_len 0 (length ys)) =
    sum_by-le (λ j. get_or xs j 0) (λ j. get_or ys j 0) 0 (length ys) (λ j _ inside. below j (omega arith)) in
    let first : sum_by (λ j. get_or xs j 0) (range_with_len 0 (length ys)) ≡ sum xs = subst (λ (n : ℕ). sum_by (λ j. get_or xs j 0) (range_with_len 0 n) ≡ sum xs) same (sum-places xs) in
    omega (arith, sum-places ys)

-- and below it at one place
sum-lt : (xs ys : List ℕ) (i : ℕ) → length xs ≡ length ys → i < length ys → get_or xs i 0 < get_or ys i 0 → ((j : ℕ) → j < length ys → get_or xs j 0 ≤ get_or ys j 0) → sum xs < sum ys
sum-lt xs ys i same inside here below =
    let less : sum_by (λ j. get_or xs j 0) (range_with_len 0 (length ys)) < sum_by (λ j. get_or ys j 0) (range_with_len 0 (length ys)) =
    sum_by-lt (λ j. get_or xs j 0) (λ j. get_or ys j 0) 0 (length ys) i (omega arith) (omega arith) here (λ j _ within. below j (omega arith)) in
    let first : sum_by (λ j. get_or xs j 0) (range_with_len 0 (length ys)) ≡ sum xs = subst (λ (n : ℕ). sum_by (λ j. get_or xs j 0) (range_with_len 0 n) ≡ sum xs) same (sum-places xs) in
    omega (arith, sum-places ys)

pub shares_spend : SharesSpend
shares_spend counts budget some enough =
    let h : IsDivision counts (share counts budget) budget = division-share counts budget some enough in
    let most : sum (share counts budget) ≤ sum counts = sum-le (share counts budget) counts h.in_order.same_length h.in_order.at_most in
    elim (full_or_next counts (share counts budget) h.in_order) [
      | inl full ↦
          let least : sum counts ≤ sum (share counts budget) =
          sum-le counts (share counts budget) (sym h.in_order.same_length) (λ j inside. full j (omega (arith, h.in_order.same_length))) in
          omega (arith, h.within)
      | inr next ↦ omega (arith, h.spent next.0 next.1.inside next.1.wants)
    ]

-- a place where a list is below another, or none
below_or_none : (xs ys : List ℕ) (n : ℕ) → ((j : ℕ) × ((j < n) × (get_or xs j 0 < get_or ys j 0))) ⊎ ((j : ℕ) → j < n → get_or ys j 0 ≤ get_or xs j 0)
below_or_none xs ys zero = inr (λ j less. absurd (omega arith))
below_or_none xs ys (suc n) =
    elim (cases_lt (get_or xs n 0) (get_or ys n 0)) [
      | inl here ↦ inl (n, (omega arith, here))
      | inr no_less ↦
          elim (below_or_none xs ys n) [
            | inl found ↦ inl (found.0, (omega (arith, found.1.0), found.1.1))
            | inr none ↦ inr (λ j less.
                elim (cases_eq j n) [
                  | inl same ↦ subst (λ (x : ℕ). get_or ys x 0 ≤ get_or xs x 0) (sym same) no_less
                  | inr apart ↦ none j (omega arith)
                ])
          ]
    ]

-- parts that are each at least 1 are at least as many as they are
length-le-sum : (parts : List ℕ) → ((i : ℕ) → i < length parts → 1 ≤ get_or parts i 0) → length parts ≤ sum parts
length-le-sum parts some =
    omega (arith, sum_one_more (λ j. get_or parts j 0 - 1) 0 parts (λ k less. rw (zero-add k) (omega (arith, some k less))))

pub shares_are_fairest : SharesAreFairest
shares_are_fairest counts budget parts i w inside =
    let some : HaveSignatures counts = All-from_get_or (λ (count : ℕ). 1 ≤ count) counts 0 (λ k within. omega (arith, w.at_least k within, w.at_most k within)) in
    let enough : length counts ≤ budget = omega (arith, w.same_length, w.within, length-le-sum parts (λ k within. w.at_least k (omega (arith, w.same_length)))) in
    let h : IsDivision counts (share counts budget) budget = division-share counts budget some enough in
    let here : get_or parts i 0 ≤ get_or (share counts budget) i 0 → get_or counts i 0 * get_or parts i 0 ≤ get_or counts i 0 * get_or (share counts budget) i 0 = mul-le-mul_left (get_or counts i 0) in
    elim (cases_lt (get_or (share counts budget) i 0) (get_or parts i 0)) [
      | inr most ↦ (i, (inside, here most))
      | inl more ↦
          elim (below_or_none parts (share counts budget) (length counts)) [
            | inl found ↦
                let at_least : 1 ≤ get_or parts found.0 0 = w.at_least found.0 found.1.0 in
                let wants : get_or (share counts budget) i 0 < get_or counts i 0 = omega (arith, w.at_most i inside) in
                (found.0, (found.1.0, (h.in_order.order found.0 i (get_or parts found.0 0) (get_or (share counts budget) i 0) found.1.0 inside at_least found.1.1 (omega arith) wants).0))
            | inr none ↦
                let less : sum (share counts budget) < sum parts = sum-lt (share counts budget) parts i (h.in_order.same_length ∙ sym w.same_length) (omega (arith, w.same_length)) more (λ j within. none j (omega (arith, w.same_length))) in
                absurd (omega (arith, w.within, h.spent i inside (omega (arith, w.at_most i inside))))
          ]
    ]

pub one_for_each : OneForEach
one_for_each counts some = share-division counts (replicate (length counts) 1) (length counts) (division_ones counts some)

pub one_more_for_next : OneMoreForNext
one_more_for_next counts budget i some enough next =
    share-division counts (with_more (share counts budget) i) (budget + 1) (division_more counts (share counts budget) budget i (division-share counts budget some enough) next)

pub rest_is_unused : RestIsUnused
rest_is_unused counts budget some enough full =
    share-division counts (share counts budget) (budget + 1) (division_unused counts (share counts budget) budget (division-share counts budget some enough) full)
