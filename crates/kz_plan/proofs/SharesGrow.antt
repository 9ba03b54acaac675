-- The parts of a division grow one by one.
use Rattle.std.proofs.Common.{◌≡◌, ℕ, ◌+◌, ◌*◌, ◌<◌, ◌≤◌, ◌⊎◌, List, length, get_or, set, replicate, sym, subst, ◌∙◌, ap, inl, inr, arith, length-set}
use Rattle.std.specs.Prelude.{sum}
use Rattle.std.proofs.lemmas.Bool.{cases_lt, cases_eq}
use Rattle.std.proofs.lemmas.List.{get_or-set_other, get_or-replicate, length-replicate}
use Rattle.std.proofs.lemmas.Grind.{get_or-set_at}
use Rattle.std.proofs.lemmas.List.Sums.{sum_by-set}
use Rattle.std.proofs.lemmas.List.Folds.{sum_by-replicate}
use Rattle.std.proofs.Math.Nat.{mul-le-mul_left, mul-lt-mul_of_pos_left, lt_of_mul-lt-mul_right}
use Rattle.kz_plan.specs.Sharing.{ComesBefore, IsInOrder, IsDivision, AreFull, IsNextClass}

-- a count whose ratio is greater than one that is at least another's is greater than that
greater_ratio : (ci pi cb pb cj pj : ℕ) → 0 < pj → cj * pb ≤ cb * pj → cb * pi < ci * pb → cj * pi < ci * pj
greater_ratio ci pi cb pb cj pj some below less =
    let low : pi * (cj * pb) ≤ pi * (cb * pj) = mul-le-mul_left pi below in
    let high : pj * (cb * pi) < pj * (ci * pb) = mul-lt-mul_of_pos_left less some in
    lt_of_mul-lt-mul_right pb (grind (arith, low, high))

-- with no class seen, none wants a zone
pub full_none : (counts parts : List ℕ) → AreFull counts parts 0
full_none counts parts j less = absurd (omega arith)

-- a class that wants none
pub full_more : (counts parts : List ℕ) (n : ℕ) → AreFull counts parts n → get_or counts n 0 ≤ get_or parts n 0 → AreFull counts parts (n + 1)
full_more counts parts n full here j less =
    elim (cases_eq j n) [
      | inl same ↦ subst (λ (x : ℕ). get_or counts x 0 ≤ get_or parts x 0) (sym same) here
      | inr other ↦ full j (omega arith)
    ]

-- the first class that wants a zone
pub next_first : (counts parts : List ℕ) (n : ℕ) → AreFull counts parts n → get_or parts n 0 < get_or counts n 0 → IsNextClass counts parts (n + 1) n
next_first counts parts n full wants = record {
  inside = omega arith;
  wants = wants;
  first = λ j less other more. absurd (omega (arith, full j (omega arith)));
}

-- a class that wants none leaves the choice
pub next_full : (counts parts : List ℕ) (n i : ℕ) → IsNextClass counts parts n i → get_or counts n 0 ≤ get_or parts n 0 → IsNextClass counts parts (n + 1) i
next_full counts parts n i h full = record {
  inside = omega (arith, h.inside);
  wants = h.wants;
  first = λ j less other more.
      elim (cases_eq j n) [
        | inl same ↦ absurd (let here : get_or counts j 0 ≤ get_or parts j 0 = subst (λ (x : ℕ). get_or counts x 0 ≤ get_or parts x 0) (sym same) full in omega arith)
        | inr apart ↦ h.first j (omega arith) other more
      ];
}

-- a class whose ratio is not greater leaves the choice
pub next_kept : (counts parts : List ℕ) (n i : ℕ) → IsNextClass counts parts n i → get_or counts n 0 * get_or parts i 0 ≤ get_or counts i 0 * get_or parts n 0 → IsNextClass counts parts (n + 1) i
next_kept counts parts n i h below = record {
  inside = omega (arith, h.inside);
  wants = h.wants;
  first = λ j less other more.
      elim (cases_eq j n) [
        | inl same ↦ subst (λ (x : ℕ). ComesBefore i (get_or counts i 0) (get_or parts i 0) x (get_or counts x 0) (get_or parts x 0)) (sym same) (below, λ _. h.inside)
        | inr apart ↦ h.first j (omega arith) other more
      ];
}

-- a class whose ratio is greater is the choice
pub next_greater : (counts parts : List ℕ) (n i : ℕ) → IsInOrder counts parts → n < length counts → IsNextClass counts parts n i → get_or parts n 0 < get_or counts n 0 →
    get_or counts i 0 * get_or parts n 0 < get_or counts n 0 * get_or parts i 0 → IsNextClass counts parts (n + 1) n
next_greater counts parts n i ordered inside h wants greater = record {
  inside = omega arith;
  wants = wants;
  first = λ j less other more.
      let strict : get_or counts j 0 * get_or parts n 0 < get_or counts n 0 * get_or parts j 0 =
      elim (cases_eq j i) [
        | inl same ↦ subst (λ (x : ℕ). get_or counts x 0 * get_or parts n 0 < get_or counts n 0 * get_or parts x 0) (sym same) greater
        | inr apart ↦ greater_ratio (get_or counts n 0) (get_or parts n 0) (get_or counts i 0) (get_or parts i 0) (get_or counts j 0) (get_or parts j 0)
            (ordered.at_least j (omega arith)) (h.first j (omega arith) apart more).0 greater
      ] in
      (omega arith, λ e. absurd (omega arith));
}

-- all parts are 1
pub ones-in_order : (counts : List ℕ) → ((i : ℕ) → i < length counts → 1 ≤ get_or counts i 0) → IsInOrder counts (replicate (length counts) 1)
ones-in_order counts some =
    let one : (i : ℕ) → i < length counts → get_or {A = ℕ} (replicate (length counts) 1) i 0 ≡ 1 = λ i inside. get_or-replicate {A = ℕ} (length counts) i 1 0 inside in
    record {
      same_length = length-replicate {A = ℕ} (length counts) 1;
      at_least = λ i inside. omega (arith, one i inside);
      at_most = λ i inside. omega (arith, one i inside, some i inside);
      order = λ i j k l inside _ from to _ _. absurd (omega (arith, one i inside));
    }

pub sum-ones : (n : ℕ) → sum (replicate n 1) ≡ n
sum-ones n = omega (arith, sum_by-replicate (λ (x : ℕ). x) n 1)

-- the parts with one more for class i
abbrev pub with_more : List ℕ → ℕ → List ℕ
with_more parts i = set parts i (get_or parts i 0 + 1)

pub sum-with_more : (parts : List ℕ) (i : ℕ) → i < length parts → sum (with_more parts i) ≡ sum parts + 1
sum-with_more parts i inside = omega (arith, sum_by-set (λ (x : ℕ). x) parts i (get_or parts i 0 + 1) 0 inside)

-- a mark is below the parts with one more, where it was, or it is the one given
below_more : (parts : List ℕ) (i a k : ℕ) → i < length parts → k < get_or (with_more parts i) a 0 → (k < get_or parts a 0) ⊎ ((a ≡ i) × (k ≡ get_or parts i 0))
below_more parts i a k inside to =
    elim (cases_eq a i) [
      | inl same ↦
          let here : get_or (with_more parts i) a 0 ≡ get_or parts i 0 + 1 = get_or-set_at parts i a (get_or parts i 0 + 1) 0 same inside in
          let there : get_or parts a 0 ≡ get_or parts i 0 = ap (λ (x : ℕ). get_or parts x 0) same in
          elim (cases_lt k (get_or parts a 0)) [ inl less ↦ inl less | inr more ↦ inr (same, omega arith) ]
      | inr apart ↦ inl (subst (λ (x : ℕ). k < x) (get_or-set_other parts i a (get_or parts i 0 + 1) 0 apart) to)
    ]

-- parts with one more are no smaller
pub part-with_more : (parts : List ℕ) (i a : ℕ) → i < length parts → get_or parts a 0 ≤ get_or (with_more parts i) a 0
part-with_more parts i a inside =
    elim (cases_eq a i) [
      | inl same ↦
          let here : get_or (with_more parts i) a 0 ≡ get_or parts i 0 + 1 = get_or-set_at parts i a (get_or parts i 0 + 1) 0 same inside in
          let there : get_or parts a 0 ≡ get_or parts i 0 = ap (λ (x : ℕ). get_or parts x 0) same in omega arith
      | inr apart ↦ omega (arith, get_or-set_other parts i a (get_or parts i 0 + 1) 0 apart)
    ]

-- the mark that is given comes before those that are left
given_first : (counts parts : List ℕ) (i j l : ℕ) → IsInOrder counts parts → IsNextClass counts parts (length counts) i → j < length counts → get_or (with_more parts i) j 0 ≤ l → l < get_or counts j 0 →
    ComesBefore i (get_or counts i 0) (get_or parts i 0) j (get_or counts j 0) l
given_first counts parts i j l ordered h inside from to =
    let i_inside : i < length parts = omega (arith, h.inside, ordered.same_length) in
    elim (cases_eq j i) [
      | inl same ↦
          let here : get_or (with_more parts i) j 0 ≡ get_or parts i 0 + 1 = get_or-set_at parts i j (get_or parts i 0 + 1) 0 same i_inside in
          let count : get_or counts j 0 ≡ get_or counts i 0 = ap (λ (x : ℕ). get_or counts x 0) same in
          let strict : get_or counts i 0 * get_or parts i 0 < get_or counts i 0 * l = mul-lt-mul_of_pos_left (omega arith) (omega (arith, h.wants)) in
          let strict_j : get_or counts j 0 * get_or parts i 0 < get_or counts i 0 * l = rw count strict in
          (omega arith, λ e. absurd (omega arith))
      | inr apart ↦
          let old : get_or parts j 0 ≤ l = omega (arith, part-with_more parts i j i_inside) in
          let before : ComesBefore i (get_or counts i 0) (get_or parts i 0) j (get_or counts j 0) (get_or parts j 0) = h.first j inside apart (omega arith) in
          let later : get_or counts i 0 * get_or parts j 0 ≤ get_or counts i 0 * l = mul-le-mul_left (get_or counts i 0) old in
          (omega (arith, before.0), λ e. before.1 (omega (arith, before.0)))
    ]

-- the class that is next takes one more
pub in_order-more : (counts parts : List ℕ) (i : ℕ) → IsInOrder counts parts → IsNextClass counts parts (length counts) i → IsInOrder counts (with_more parts i)
in_order-more counts parts i ordered h =
    let i_inside : i < length parts = omega (arith, h.inside, ordered.same_length) in
    record {
      same_length = length-set parts i (get_or parts i 0 + 1) ∙ ordered.same_length;
      at_least = λ a inside. omega (arith, ordered.at_least a inside, part-with_more parts i a i_inside);
      at_most = λ a inside.
          elim (cases_eq a i) [
            | inl same ↦
                let here : get_or (with_more parts i) a 0 ≡ get_or parts i 0 + 1 = get_or-set_at parts i a (get_or parts i 0 + 1) 0 same i_inside in
                let count : get_or counts a 0 ≡ get_or counts i 0 = ap (λ (x : ℕ). get_or counts x 0) same in
                omega (arith, h.wants)
            | inr apart ↦ omega (arith, ordered.at_most a inside, get_or-set_other parts i a (get_or parts i 0 + 1) 0 apart)
          ];
      order = λ a j k l inside j_inside from to l_from l_to.
          elim (below_more parts i a k i_inside to) [
            | inl less ↦ ordered.order a j k l inside j_inside from less (omega (arith, part-with_more parts i j i_inside)) l_to
            | inr it ↦ rw (it.0, it.1) (given_first counts parts i j l ordered h j_inside l_from l_to)
          ];
    }

-- parts in order that are full within the budget divide it
pub division_full : (counts parts : List ℕ) (budget : ℕ) → IsInOrder counts parts → AreFull counts parts (length counts) → sum parts ≤ budget → IsDivision counts parts budget
division_full counts parts budget ordered full within = record {
  in_order = ordered;
  within = within;
  spent = λ i inside wants. absurd (omega (arith, full i inside));
}

-- parts in order that spend the budget divide it
pub division_spent : (counts parts : List ℕ) (budget : ℕ) → IsInOrder counts parts → sum parts ≡ budget → IsDivision counts parts budget
division_spent counts parts budget ordered spent = record {
  in_order = ordered;
  within = omega arith;
  spent = λ i inside wants. spent;
}
