-- Slots and the table that finds them, after a gift is put or taken.
use Rattle.std.proofs.Common.{◌≡◌, ℕ, ◌+◌, ◌<◌, ◌≤◌, ◌⊎◌, inl, inr, true, false, cond, nat_lt, nat_eq, List, length, Option, Some, None, refl, ap, sym, ◌∙◌, subst, arith}
use Rattle.std.specs.Option.{option_or, IfSome}
use Rattle.std.specs.Map.{lookup}
use Rattle.std.proofs.lemmas.Bool.{cases_lt, cases_eq, cases_order, cases_Bool, cond-true, cond-false, and_parts, and_from, eqb-true, eq-eqb, lt-ltb, le-ltb}
use Rattle.kz_zone.specs.declared.slots.Slot.{Slot}
use Rattle.kz_zone.specs.declared.slots.Ends.{Ends}
use Rattle.kz_zone.specs.Slots.{slot_at, key_at, same_key, NoneBetween, IsNextSlot, is_before, AreEnds, IsFound, AreLinked}

-- ---- keys

pub same_key-true : (a b : ℕ × ℕ) → same_key a b ≡ true → a ≡ b
same_key-true a b h =
    let parts = and_parts (nat_eq a.0 b.0) (nat_eq a.1 b.1) h in λ i. (eqb-true a.0 b.0 parts.0 i, eqb-true a.1 b.1 parts.1 i)

pub same_key-itself : (a : ℕ × ℕ) → same_key a a ≡ true
same_key-itself a = and_from (nat_eq a.0 a.0) (nat_eq a.1 a.1) (eq-eqb a.0 a.0 refl) (eq-eqb a.1 a.1 refl)

same_key-false : (a b : ℕ × ℕ) → same_key a b ≡ false → a ≡ b → ⊥
same_key-false a b h e =
    let yes = same_key-itself a in
    let no : same_key a a ≡ false = ap (same_key a) e ∙ h in absurd (cc)

-- what the table finds after one key's value is written
found_by : (slots : List Slot) (index left : List ((ℕ × ℕ) × Ends)) (key : ℕ × ℕ) (ends : Ends) →
    ((q : ℕ × ℕ) → lookup (same_key q) left ≡ cond (same_key key q) (Some ends) (lookup (same_key q) index)) →
    AreEnds slots key ends →
    ((q : ℕ × ℕ) → (key ≡ q → ⊥) → IsFound slots q (lookup (same_key q) index)) →
    (q : ℕ × ℕ) → IsFound slots q (lookup (same_key q) left)
found_by slots index left key ends says here others q = elim (cases_Bool (same_key key q)) [
  | inl same ↦
      let is : lookup (same_key q) left ≡ Some ends = says q ∙ cond-true (same_key key q) (Some ends) (lookup (same_key q) index) same in
      subst (IsFound slots q) (sym is) (subst (λ k. AreEnds slots k ends) (same_key-true key q same) here)
  | inr other ↦
      let is : lookup (same_key q) left ≡ lookup (same_key q) index = says q ∙ cond-false (same_key key q) (Some ends) (lookup (same_key q) index) other in
      subst (IsFound slots q) (sym is) (others q (same_key-false key q other))
]

-- ---- a gift is put

-- the slots with one more behind them, whose gift is for the key
pub record IsPut (old new : List Slot) (key : ℕ × ℕ) : Type 0 where
  pub size : length new ≡ length old + 1
  pub keys : (place : ℕ) → place < length old → key_at new place ≡ key_at old place
  pub takens : (place : ℕ) → place < length old → (slot_at new place).taken ≡ (slot_at old place).taken
  pub new_key : key_at new (length old) ≡ key
  pub new_taken : (slot_at new (length old)).taken ≡ false
  pub new_next : (slot_at new (length old)).next ≡ None

module _ (old new : List Slot) (key : ℕ × ℕ) (put : IsPut old new key) where
  old_or_new : (place : ℕ) → place < length new → (place < length old) ⊎ (place ≡ length old)
  old_or_new place lt = let size = put.size in elim (cases_lt place (length old)) [ inl less ↦ inl less | inr most ↦ inr (omega arith) ]

  -- the new place has the key alone
  new_place : (q : ℕ × ℕ) (place : ℕ) → place ≡ length old → key_at new place ≡ q → key ≡ q
  new_place q place is e = sym put.new_key ∙ ap (key_at new) (sym is) ∙ e

  none_yet : (q : ℕ × ℕ) (low high : ℕ) → high ≤ length old → NoneBetween old q low high → NoneBetween new q low high
  none_yet q low high few h place above below e = h place above below (sym (put.keys place (omega arith)) ∙ e)

  none_more : (q : ℕ × ℕ) (low : ℕ) → (key ≡ q → ⊥) → NoneBetween old q low (length old) → NoneBetween new q low (length new)
  none_more q low other h place above below e = elim (old_or_new place below) [
    | inl lt ↦ h place above lt (sym (put.keys place lt) ∙ e)
    | inr is ↦ other (new_place q place is e)
  ]

  first_stays : (q : ℕ × ℕ) (first : Option ℕ) → IfSome first (λ first. (first < length old) × (key_at old first ≡ q)) → IfSome first (λ first. (first < length new) × (key_at new first ≡ q))
  first_stays q None h = h
  first_stays q (Some first) h = let size = put.size in let lt = h.0 in (omega arith, put.keys first h.0 ∙ h.1)

  -- what is found for another key
  found_other : (q : ℕ × ℕ) → (key ≡ q → ⊥) → (found : Option Ends) → IsFound old q found → IsFound new q found
  found_other q other None h = λ place lt e. elim (old_or_new place lt) [
    | inl less ↦ h place less (sym (put.keys place less) ∙ e)
    | inr is ↦ other (new_place q place is e)
  ]
  found_other q other (Some ends) h = record {
    first = first_stays q ends.first h.first;
    taken = λ place lt e. elim (old_or_new place lt) [
      | inl less ↦ put.takens place less ∙ h.taken place less (sym (put.keys place less) ∙ e)
      | inr is ↦ absurd (other (new_place q place is e))
    ];
    last = let size = put.size in let lt = h.last in omega arith;
    last_key = put.keys ends.last h.last ∙ h.last_key;
    none_behind = none_more q ends.last other h.none_behind;
  }

  none_behind_new : NoneBetween new key (length old) (length new)
  none_behind_new place above below e = let size = put.size in absurd (omega arith)

  new_is_free : (place : ℕ) → place ≡ length old → (slot_at new place).taken ≡ false
  new_is_free place is = ap (λ k. (slot_at new k).taken) is ∙ put.new_taken

  -- what is found for the gift's own key, where nothing was
  found_first : IsFound old key None → AreEnds new key (record { first = Some (length old); last = length old })
  found_first none = let size = put.size in record {
    first = (omega arith, put.new_key);
    taken = λ place lt e. elim (old_or_new place lt) [
      | inl less ↦ absurd (none place less (sym (put.keys place less) ∙ e))
      | inr is ↦ new_is_free place is ∙ sym (le-ltb place (length old) (omega arith))
    ];
    last = omega arith;
    last_key = put.new_key;
    none_behind = none_behind_new;
  }

  first_again : (first : Option ℕ) → IfSome first (λ first. (first < length old) × (key_at old first ≡ key)) →
      IfSome (option_or first (Some (length old))) (λ first. (first < length new) × (key_at new first ≡ key))
  first_again None h = let size = put.size in (omega arith, put.new_key)
  first_again (Some first) h = first_stays key (Some first) h

  taken_again : (first : Option ℕ) → IfSome first (λ first. (first < length old) × (key_at old first ≡ key)) →
      ((place : ℕ) → place < length old → key_at old place ≡ key → (slot_at old place).taken ≡ is_before place first) →
      (place : ℕ) → place < length new → key_at new place ≡ key → (slot_at new place).taken ≡ is_before place (option_or first (Some (length old)))
  taken_again None there h place lt e = elim (old_or_new place lt) [
    | inl less ↦ put.takens place less ∙ h place less (sym (put.keys place less) ∙ e) ∙ sym (lt-ltb place (length old) less)
    | inr is ↦ new_is_free place is ∙ sym (le-ltb place (length old) (omega arith))
  ]
  taken_again (Some first) there h place lt e = elim (old_or_new place lt) [
    | inl less ↦ put.takens place less ∙ h place less (sym (put.keys place less) ∙ e)
    | inr is ↦ let within = there.0 in new_is_free place is ∙ sym (le-ltb place first (omega arith))
  ]

  -- the same, where some came before
  found_again : (ends : Ends) → AreEnds old key ends → AreEnds new key (record { first = option_or ends.first (Some (length old)); last = length old })
  found_again ends h = record {
    first = first_again ends.first h.first;
    taken = taken_again ends.first h.first h.taken;
    last = let size = put.size in omega arith;
    last_key = put.new_key;
    none_behind = none_behind_new;
  }

  next_new : (place : ℕ) → place ≡ length old → IsNextSlot new place (slot_at new place).next
  next_new place is =
      let end : IsNextSlot new (length old) None = λ k above below e. let size = put.size in absurd (omega arith) in
      subst (λ k. IsNextSlot new k (slot_at new k).next) (sym is) (subst (IsNextSlot new (length old)) (sym put.new_next) end)

  -- a slot whose next stays, unless it was the last for the key
  next_old : (place : ℕ) → place < length old → (next : Option ℕ) → IsNextSlot old place next → (next ≡ None → key ≡ key_at old place → ⊥) → IsNextSlot new place next
  next_old place lt None h other = subst (λ q. NoneBetween new q place (length new)) (sym (put.keys place lt)) (none_more (key_at old place) place (other refl) h)
  next_old place lt (Some next) h other =
      let size = put.size in
      let within = h.1 in (
        h.0,
        omega arith,
        put.keys next h.1 ∙ h.2 ∙ sym (put.keys place lt),
        subst (λ q. NoneBetween new q place next) (sym (put.keys place lt)) (none_yet (key_at old place) place next (omega arith) h.3),
      )

  next_last : (ends : Ends) → AreEnds old key ends → IsNextSlot new ends.last (Some (length old))
  next_last ends h =
      let size = put.size in
      let was : key_at new ends.last ≡ key = put.keys ends.last h.last ∙ h.last_key in
      (h.last, omega arith, put.new_key ∙ sym was, subst (λ q. NoneBetween new q ends.last (length old)) (sym was) (none_yet key ends.last (length old) (omega arith) h.none_behind))

  -- a slot for the key that has no next is the last
  is_last : (ends : Ends) → AreEnds old key ends → (place : ℕ) → place < length old → NoneBetween old (key_at old place) place (length old) → key ≡ key_at old place → place ≡ ends.last
  is_last ends h place lt none e = elim (cases_order place ends.last) [
    | inl same ↦ same
    | inr order ↦ elim order [
      | inl less ↦ absurd (none ends.last less h.last (h.last_key ∙ e))
      | inr more ↦ absurd (h.none_behind place more lt (sym e))
    ]
  ]

  pub linked_first : (index left : List ((ℕ × ℕ) × Ends)) → AreLinked old index → lookup (same_key key) index ≡ None →
      ((place : ℕ) → place < length old → (slot_at new place).next ≡ (slot_at old place).next) →
      ((q : ℕ × ℕ) → lookup (same_key q) left ≡ cond (same_key key q) (Some (record { first = Some (length old); last = length old })) (lookup (same_key q) index)) →
      AreLinked new left
  linked_first index left h absent nexts says =
      let none : IsFound old key None = subst (IsFound old key) absent (h.found key) in
      record {
        next = λ place lt. elim (old_or_new place lt) [
          | inl less ↦ subst (IsNextSlot new place) (sym (nexts place less)) (next_old place less (slot_at old place).next (h.next place less) (λ _ e. none place less (sym e)))
          | inr is ↦ next_new place is
        ];
        found = found_by new index left key (record { first = Some (length old); last = length old }) says (found_first none) (λ q other. found_other q other (lookup (same_key q) index) (h.found q));
      }

  pub linked_again : (index left : List ((ℕ × ℕ) × Ends)) (ends : Ends) → AreLinked old index → lookup (same_key key) index ≡ Some ends →
      (slot_at new ends.last).next ≡ Some (length old) →
      ((place : ℕ) → place < length old → (place ≡ ends.last → ⊥) → (slot_at new place).next ≡ (slot_at old place).next) →
      ((q : ℕ × ℕ) → lookup (same_key q) left ≡ cond (same_key key q) (Some (record { first = option_or ends.first (Some (length old)); last = length old })) (lookup (same_key q) index)) →
      AreLinked new left
  linked_again index left ends h present last nexts says =
      let was : AreEnds old key ends = subst (IsFound old key) present (h.found key) in
      record {
        next = λ place lt. elim (old_or_new place lt) [
          | inl less ↦ elim (cases_eq place ends.last) [
            | inl is ↦ subst (λ k. IsNextSlot new k (slot_at new k).next) (sym is) (subst (IsNextSlot new ends.last) (sym last) (next_last ends was))
            | inr apart ↦ subst (IsNextSlot new place) (sym (nexts place less apart)) (not_last place less apart (slot_at old place).next (h.next place less) was)
          ]
          | inr is ↦ next_new place is
        ];
        found = found_by new index left key (record { first = option_or ends.first (Some (length old)); last = length old }) says (found_again ends was) (λ q other. found_other q other (lookup (same_key q) index) (h.found q));
      }
    where
      not_last : (place : ℕ) → place < length old → (place ≡ ends.last → ⊥) → (next : Option ℕ) → IsNextSlot old place next → AreEnds old key ends → IsNextSlot new place next
      not_last place less apart None is was = next_old place less None is (λ _ e. apart (is_last ends was place less is e))
      not_last place less apart (Some next) is was = next_old place less (Some next) is (λ none e. absurd (cc))

-- ---- a gift is taken

-- the slots with the one at this place marked
pub record IsMarked (old new : List Slot) (at : ℕ) : Type 0 where
  pub size : length new ≡ length old
  pub keys : (place : ℕ) → key_at new place ≡ key_at old place
  pub nexts : (place : ℕ) → (slot_at new place).next ≡ (slot_at old place).next
  pub taken : (slot_at new at).taken ≡ true
  pub others : (place : ℕ) → (place ≡ at → ⊥) → (slot_at new place).taken ≡ (slot_at old place).taken

module _ (old new : List Slot) (at : ℕ) (marked : IsMarked old new at) where
  none_still : (q : ℕ × ℕ) (low high : ℕ) → NoneBetween old q low high → NoneBetween new q low high
  none_still q low high h place above below e = h place above below (sym (marked.keys place) ∙ e)

  next_still : (place : ℕ) (next : Option ℕ) → IsNextSlot old place next → IsNextSlot new place next
  next_still place None h =
      subst (λ q. NoneBetween new q place (length new)) (sym (marked.keys place)) (subst (NoneBetween new (key_at old place) place) (sym marked.size) (none_still (key_at old place) place (length old) h))
  next_still place (Some next) h =
      let size = marked.size in
      let within = h.1 in
      (h.0, omega arith, marked.keys next ∙ h.2 ∙ sym (marked.keys place), subst (λ q. NoneBetween new q place next) (sym (marked.keys place)) (none_still (key_at old place) place next h.3))

  first_still : (q : ℕ × ℕ) (first : Option ℕ) → IfSome first (λ first. (first < length old) × (key_at old first ≡ q)) → IfSome first (λ first. (first < length new) × (key_at new first ≡ q))
  first_still q None h = h
  first_still q (Some first) h = let size = marked.size in let lt = h.0 in (omega arith, marked.keys first ∙ h.1)

  found_still : (q : ℕ × ℕ) → (key_at old at ≡ q → ⊥) → (found : Option Ends) → IsFound old q found → IsFound new q found
  found_still q other None h = λ place lt e. let size = marked.size in h place (omega arith) (sym (marked.keys place) ∙ e)
  found_still q other (Some ends) h = let size = marked.size in record {
    first = first_still q ends.first h.first;
    taken = λ place lt e.
        let was : key_at old place ≡ q = sym (marked.keys place) ∙ e in
        marked.others place (λ is. other (ap (key_at old) (sym is) ∙ was)) ∙ h.taken place (omega arith) was;
    last = let lt = h.last in omega arith;
    last_key = marked.keys ends.last ∙ h.last_key;
    none_behind = subst (NoneBetween new q ends.last) (sym size) (none_still q ends.last (length old) h.none_behind);
  }

  first_next : (key : ℕ × ℕ) (next : Option ℕ) → key_at old at ≡ key → IsNextSlot old at next → IfSome next (λ first. (first < length new) × (key_at new first ≡ key))
  first_next key None here h = tt
  first_next key (Some next) here h = let size = marked.size in let within = h.1 in (omega arith, marked.keys next ∙ h.2 ∙ here)

  before_next : (place : ℕ) (next : Option ℕ) → IsNextSlot old at next → place ≤ at → is_before place next ≡ true
  before_next place None is few = refl
  before_next place (Some next) is few = let above = is.0 in lt-ltb place next (omega arith)

  from_next : (key : ℕ × ℕ) (place : ℕ) (next : Option ℕ) → key_at old at ≡ key → IsNextSlot old at next → at < place → place < length old → key_at old place ≡ key → is_before place next ≡ false
  from_next key place None here is above lt e = absurd (is place above lt (e ∙ sym here))
  from_next key place (Some next) here is above lt e = elim (cases_lt place next) [
    | inl less ↦ absurd (is.3 place above less (e ∙ sym here))
    | inr most ↦ le-ltb place next most
  ]

  -- all before the next are taken, and no other is
  taken_next : (key : ℕ × ℕ) (next : Option ℕ) → key_at old at ≡ key → IsNextSlot old at next →
      ((place : ℕ) → place < length old → key_at old place ≡ key → (slot_at old place).taken ≡ nat_lt place at) →
      (place : ℕ) → place < length old → key_at old place ≡ key → (slot_at new place).taken ≡ is_before place next
  taken_next key next here is h place lt e = elim (cases_order place at) [
    | inl same ↦ ap (λ k. (slot_at new k).taken) same ∙ marked.taken ∙ sym (before_next place next is (omega arith))
    | inr order ↦ elim order [
      | inl less ↦ marked.others place (λ same. absurd (omega arith)) ∙ h place lt e ∙ lt-ltb place at less ∙ sym (before_next place next is (omega arith))
      | inr more ↦ marked.others place (λ same. absurd (omega arith)) ∙ h place lt e ∙ le-ltb place at (omega arith) ∙ sym (from_next key place next here is more lt e)
    ]
  ]

  pub linked_marked : (index left : List ((ℕ × ℕ) × Ends)) (key : ℕ × ℕ) (ends : Ends) → AreLinked old index → lookup (same_key key) index ≡ Some ends → ends.first ≡ Some at →
      ((q : ℕ × ℕ) → lookup (same_key q) left ≡ cond (same_key key q) (Some (record { first = (slot_at old at).next; last = ends.last })) (lookup (same_key q) index)) →
      AreLinked new left
  linked_marked index left key ends h present first says =
      let size = marked.size in
      let was : AreEnds old key ends = subst (IsFound old key) present (h.found key) in
      let there : (at < length old) × (key_at old at ≡ key) = subst (λ first. IfSome first (λ first. (first < length old) × (key_at old first ≡ key))) first was.first in
      let is : IsNextSlot old at (slot_at old at).next = h.next at there.0 in
      let here : AreEnds new key (record { first = (slot_at old at).next; last = ends.last }) = record {
        first = first_next key (slot_at old at).next there.1 is;
        taken = λ place lt e. taken_next key (slot_at old at).next there.1 is (λ place lt e. was.taken place lt e ∙ ap (is_before place) first) place (omega arith) (sym (marked.keys place) ∙ e);
        last = let lt = was.last in omega arith;
        last_key = marked.keys ends.last ∙ was.last_key;
        none_behind = subst (NoneBetween new key ends.last) (sym size) (none_still key ends.last (length old) was.none_behind);
      } in
      record {
        next = λ place lt. subst (IsNextSlot new place) (sym (marked.nexts place)) (next_still place (slot_at old place).next (h.next place (omega arith)));
        found = found_by new index left key (record { first = (slot_at old at).next; last = ends.last }) says here (λ q other. found_still q (λ e. other (sym there.1 ∙ e)) (lookup (same_key q) index) (h.found q));
      }
