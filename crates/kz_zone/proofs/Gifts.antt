-- What is seen of slots: the gift that a key finds, and the gifts after one is put or taken.
use Rattle.std.proofs.Common.{◌≡◌, inl, inr, ℕ, ◌+◌, ◌<◌, ◌≤◌, ◌==◌, ◌&&◌, Bool, true, false, not, cond, List, [], ◌∷◌, ◌++◌, length, slice_set, Some, None, refl, ap, sym, ◌∙◌, subst, arith, get_or-set_same, get_or-set_other}
use Rattle.std.specs.Option.{option_or, IfSome}
use Rattle.std.specs.Map.{lookup}
use Rattle.std.specs.List.{remove}
use Rattle.std.proofs.lemmas.Bool.{cases_eq, false_from_ne_true, not_from_false, lt-ltb, le-ltb}
use Rattle.std.proofs.lemmas.List.{length-set, length_push, get_or_append_left, get_or_push}
use Rattle.kz_model.specs.Zone.State.{Gift}
use Rattle.kz_model.specs.Zone.Rules.{gift_place, gift_at}
use Rattle.kz_zone.specs.declared.slots.Slot.{Slot}
use Rattle.kz_zone.specs.declared.slots.Ends.{Ends}
use Rattle.kz_zone.specs.Slots.{is_free, key_of, gifts_in, no_slot, slot_at, key_at, same_key, is_before, AreEnds, IsFound, AreLinked, AreSlots}
use Rattle.kz_zone.proofs.Kept.{rank, kept-push, kept-set, kept-removed, kept-at_rank, position-kept, position-none}
use Rattle.kz_zone.proofs.Links.{same_key-true, same_key-itself, IsPut, IsMarked, linked_first, linked_again, linked_marked}

-- ---- what a key finds

-- how many gifts stand before the one at this place
abbrev pub rank_at : List Slot → ℕ → ℕ
rank_at slots at = rank is_free slots at

taken_and_free : (taken : Bool) → taken ≡ true → not taken ≡ true → ⊥
taken_and_free true e free = absurd (cc)
taken_and_free false e free = absurd (cc)

-- where all gifts for the key are taken
none_left : (slots : List Slot) (key : ℕ × ℕ) → ((place : ℕ) → place < length slots → key_at slots place ≡ key → (slot_at slots place).taken ≡ true) → gift_place key.0 key.1 (gifts_in slots) ≡ None
none_left slots key all =
    position-none is_free (λ (slot : Slot). slot.gift) (λ (gift : Gift). (gift.to == key.0) && (gift.name == key.1)) slots no_slot
    (λ place lt free. false_from_ne_true (same_key (key_at slots place) key) (λ passes. taken_and_free (slot_at slots place).taken (all place lt (same_key-true (key_at slots place) key passes)) free))

pub none_came : (slots : List Slot) (index : List ((ℕ × ℕ) × Ends)) (key : ℕ × ℕ) → AreLinked slots index → lookup (same_key key) index ≡ None → gift_place key.0 key.1 (gifts_in slots) ≡ None
none_came slots index key h absent =
    let none : IsFound slots key None = subst (IsFound slots key) absent (h.found key) in
    none_left slots key (λ place lt e. absurd (none place lt e))

pub none_is_left : (slots : List Slot) (index : List ((ℕ × ℕ) × Ends)) (key : ℕ × ℕ) (ends : Ends) → AreLinked slots index → lookup (same_key key) index ≡ Some ends → ends.first ≡ None → gift_place key.0 key.1 (gifts_in slots) ≡ None
none_is_left slots index key ends h present none =
    let are : AreEnds slots key ends = subst (IsFound slots key) present (h.found key) in
    none_left slots key (λ place lt e. are.taken place lt e ∙ ap (is_before place) none)

-- the first slot for the key that isn't taken
pub record IsFirst (slots : List Slot) (key : ℕ × ℕ) (at : ℕ) : Type 0 where
  pub within : at < length slots
  pub is_for : key_at slots at ≡ key
  pub free : (slot_at slots at).taken ≡ false
  pub before : (place : ℕ) → place < at → key_at slots place ≡ key → (slot_at slots place).taken ≡ true

pub first_is : (slots : List Slot) (index : List ((ℕ × ℕ) × Ends)) (key : ℕ × ℕ) (ends : Ends) (at : ℕ) → AreLinked slots index → lookup (same_key key) index ≡ Some ends → ends.first ≡ Some at → IsFirst slots key at
first_is slots index key ends at linked present first =
    let h : AreEnds slots key ends = subst (IsFound slots key) present (linked.found key) in
    let there : (at < length slots) × (key_at slots at ≡ key) = subst (λ first. IfSome first (λ first. (first < length slots) × (key_at slots first ≡ key))) first h.first in
    record {
      within = there.0;
      is_for = there.1;
      free = h.taken at there.0 there.1 ∙ ap (is_before at) first ∙ le-ltb at at (omega arith);
      before = λ place less e. let lt = there.0 in h.taken place (omega arith) e ∙ ap (is_before place) first ∙ lt-ltb place at less;
    }

-- the key finds the gift in the first slot
pub gift_found : (slots : List Slot) (key : ℕ × ℕ) (at : ℕ) → IsFirst slots key at → gift_place key.0 key.1 (gifts_in slots) ≡ Some (rank_at slots at)
gift_found slots key at h =
    position-kept is_free (λ (slot : Slot). slot.gift) (λ (gift : Gift). (gift.to == key.0) && (gift.name == key.1)) slots at no_slot h.within
    (not_from_false (slot_at slots at).taken h.free) (ap (λ k. same_key k key) h.is_for ∙ same_key-itself key)
    (λ place less free. false_from_ne_true (same_key (key_at slots place) key) (λ passes. taken_and_free (slot_at slots place).taken (h.before place less (same_key-true (key_at slots place) key passes)) free))

pub gift_is : (slots : List Slot) (key : ℕ × ℕ) (at : ℕ) → IsFirst slots key at → gift_at (gifts_in slots) (rank_at slots at) ≡ (slot_at slots at).gift
gift_is slots key at h =
    kept-at_rank is_free (λ (slot : Slot). slot.gift) slots at no_slot (record { to = 0; name = 0; block = record { chunk = 0; index = 0 } }) h.within (not_from_false (slot_at slots at).taken h.free)

-- ---- a slot is marked

-- what stays of the slot that is written stays everywhere
stays : {X : Type 0} (g : Slot → X) (slots : List Slot) (at : ℕ) (slot : Slot) → at < length slots → g slot ≡ g (slot_at slots at) → (place : ℕ) → g (slot_at (slice_set slots at slot) place) ≡ g (slot_at slots place)
stays g slots at slot lt same place = elim (cases_eq place at) [
  | inl is ↦ ap (λ k. g (slot_at (slice_set slots at slot) k)) is ∙ ap g (get_or-set_same slots at slot no_slot lt) ∙ same ∙ ap (λ k. g (slot_at slots k)) (sym is)
  | inr apart ↦ ap g (get_or-set_other slots at place slot no_slot apart)
]

pub marked : (slots : List Slot) (at : ℕ) (slot : Slot) → at < length slots → slot ≡ slot_at slots at → IsMarked slots (slice_set slots at (record slot { taken = true })) at
marked slots at slot lt is =
    let new : Slot = record slot { taken = true } in
    record {
      size = length-set slots at new;
      keys = stays key_of slots at new lt (ap key_of is);
      nexts = stays (λ (slot : Slot). slot.next) slots at new lt (ap (λ (slot : Slot). slot.next) is);
      taken = ap (λ (slot : Slot). slot.taken) (get_or-set_same slots at new no_slot lt);
      others = λ place apart. ap (λ (slot : Slot). slot.taken) (get_or-set_other slots at place new no_slot apart);
    }

pub gifts_left : (slots : List Slot) (key : ℕ × ℕ) (at : ℕ) (slot : Slot) → IsFirst slots key at → slot.taken ≡ true → gifts_in (slice_set slots at slot) ≡ remove (gifts_in slots) (rank_at slots at)
gifts_left slots key at slot h taken =
    kept-removed is_free (λ (slot : Slot). slot.gift) slots at slot no_slot h.within (not_from_false (slot_at slots at).taken h.free) (ap not taken)

-- ---- a slot is put

abbrev pub new_slot : Gift → Slot
new_slot gift = record { gift = gift; taken = false; next = None }

-- a slot behind the others
pushed : (slots : List Slot) (gift : Gift) → IsPut slots (slots ++ new_slot gift ∷ []) (key_of (new_slot gift))
pushed slots gift =
    let slot = new_slot gift in
    let new : slot_at (slots ++ slot ∷ []) (length slots) ≡ slot = get_or_push slots slot no_slot (length slots) refl in
    record {
      size = length_push slots slot;
      keys = λ place lt. ap key_of (get_or_append_left slots (slot ∷ []) no_slot place lt);
      takens = λ place lt. ap (λ (slot : Slot). slot.taken) (get_or_append_left slots (slot ∷ []) no_slot place lt);
      new_key = ap key_of new;
      new_taken = ap (λ (slot : Slot). slot.taken) new;
      new_next = ap (λ (slot : Slot). slot.next) new;
    }

is_put : (key : ℕ × ℕ) (gift : Gift) (slots now : List Slot) → key_of (new_slot gift) ≡ key → now ≡ slots ++ new_slot gift ∷ [] → IsPut slots now key
is_put key gift slots now key_is is = subst (IsPut slots now) key_is (subst (λ now. IsPut slots now (key_of (new_slot gift))) (sym is) (pushed slots gift))

-- and another slot gets a next
pushed_next : (old slots : List Slot) (key : ℕ × ℕ) (at next : ℕ) (slot : Slot) → IsPut old slots key → at < length old → slot ≡ slot_at slots at → IsPut old (slice_set slots at (record slot { next = Some next })) key
pushed_next old slots key at next slot put lt is =
    let new : Slot = record slot { next = Some next } in
    let size = put.size in
    let within : at < length slots = omega arith in
    let key_stays : (place : ℕ) → key_at (slice_set slots at new) place ≡ key_at slots place = stays key_of slots at new within (ap key_of is) in
    let taken_stays : (place : ℕ) → (slot_at (slice_set slots at new) place).taken ≡ (slot_at slots place).taken = stays (λ (slot : Slot). slot.taken) slots at new within (ap (λ (slot : Slot). slot.taken) is) in
    record {
      size = length-set slots at new ∙ size;
      keys = λ place lt. key_stays place ∙ put.keys place lt;
      takens = λ place lt. taken_stays place ∙ put.takens place lt;
      new_key = key_stays (length old) ∙ put.new_key;
      new_taken = taken_stays (length old) ∙ put.new_taken;
      new_next = ap (λ (slot : Slot). slot.next) (get_or-set_other slots at (length old) new no_slot (λ e. absurd (omega arith))) ∙ put.new_next;
    }

pub gifts_pushed : (slots : List Slot) (gift : Gift) → gifts_in (slots ++ new_slot gift ∷ []) ≡ gifts_in slots ++ gift ∷ []
gifts_pushed slots gift = kept-push is_free (λ (slot : Slot). slot.gift) slots (new_slot gift) refl

pub gifts_stay : (slots : List Slot) (at next : ℕ) (slot : Slot) → slot ≡ slot_at slots at → gifts_in (slice_set slots at (record slot { next = Some next })) ≡ gifts_in slots
gifts_stay slots at next slot is =
    kept-set is_free (λ (slot : Slot). slot.gift) slots at (record slot { next = Some next }) no_slot (ap is_free is) (ap (λ (slot : Slot). slot.gift) is)

-- ---- the table with the slots

-- the same slots, with a table that has the same
pub slots_stay : (room list table table' : ℕ) (slots : List Slot) (index left : List ((ℕ × ℕ) × Ends)) → AreSlots room list table slots index → left ≡ index → table' ≡ table → AreSlots room list table' slots left
slots_stay room list table table' slots index left h same free =
    subst (λ n. AreSlots room list n slots left) (sym free) (subst (λ entries. AreSlots room list table slots entries) (sym same) h)

-- a gift is taken
pub slots_marked : (room list table table' at : ℕ) (key : ℕ × ℕ) (slots : List Slot) (index left : List ((ℕ × ℕ) × Ends)) (ends : Ends) (slot read : Slot) → AreSlots room list table slots index →
    lookup (same_key key) index ≡ Some ends → ends.first ≡ Some at → at < length slots → slot ≡ slot_at slots at → read ≡ slot_at slots at →
    ((q : ℕ × ℕ) → lookup (same_key q) left ≡ cond (same_key key q) (Some (record { first = read.next; last = ends.last })) (lookup (same_key q) index)) →
    length left ≡ length index → table' ≡ table → AreSlots room list table' (slice_set slots at (record slot { taken = true })) left
slots_marked room list table table' at key slots index left ends slot read h present first lt is read_is says many free =
    let now = slice_set slots at (record slot { taken = true }) in
    let size : length now ≡ length slots = length-set slots at (record slot { taken = true }) in
    let a = h.few in
    let b = h.list in
    let d = h.keys in
    let e = h.table in
    let next : read.next ≡ (slot_at slots at).next = ap (λ (slot : Slot). slot.next) read_is in
    record {
      linked = linked_marked slots now at (marked slots at slot lt is) index left key ends h.linked present first
          (λ q. says q ∙ ap (λ next. cond (same_key key q) (Some (record { first = next; last = ends.last })) (lookup (same_key q) index)) next);
      few = omega arith;
      list = b;
      keys = omega arith;
      table = omega arith;
    }

-- a gift is put for a key that none came for
pub slots_first : (room list list' table table' place : ℕ) (key : ℕ × ℕ) (gift : Gift) (slots now : List Slot) (index left : List ((ℕ × ℕ) × Ends)) → AreSlots room list table slots index →
    key_of (new_slot gift) ≡ key → place ≡ length slots → now ≡ slots ++ new_slot gift ∷ [] → length slots < room → lookup (same_key key) index ≡ None →
    ((q : ℕ × ℕ) → lookup (same_key q) left ≡ cond (same_key key q) (Some (record { first = Some place; last = place })) (lookup (same_key q) index)) →
    list ≤ list' → length left ≡ length index + 1 → table ≤ table' + 1 → AreSlots room list' table' now left
slots_first room list list' table table' place key gift slots now index left h key_is end is some absent says wide many free =
    let put : IsPut slots now key = is_put key gift slots now key_is is in
    let size = put.size in
    let a = h.few in
    let b = h.list in
    let d = h.keys in
    let e = h.table in
    record {
      linked = linked_first slots now key put index left h.linked absent (λ place lt. ap (λ now. (slot_at now place).next) is ∙ ap (λ (slot : Slot). slot.next) (get_or_append_left slots (new_slot gift ∷ []) no_slot place lt))
          (λ q. says q ∙ ap (λ place. cond (same_key key q) (Some (record { first = Some place; last = place })) (lookup (same_key q) index)) end);
      few = omega arith;
      list = omega arith;
      keys = omega arith;
      table = omega arith;
    }

-- a gift is put for a key that some came for
pub slots_again : (room list list' table table' place : ℕ) (key : ℕ × ℕ) (gift : Gift) (slots now : List Slot) (index left : List ((ℕ × ℕ) × Ends)) (ends : Ends) (slot : Slot) → AreSlots room list table slots index →
    key_of (new_slot gift) ≡ key → place ≡ length slots → now ≡ slots ++ new_slot gift ∷ [] → length slots < room → lookup (same_key key) index ≡ Some ends → slot ≡ slot_at now ends.last →
    ((q : ℕ × ℕ) → lookup (same_key q) left ≡ cond (same_key key q) (Some (record { first = option_or ends.first (Some place); last = place })) (lookup (same_key q) index)) →
    list ≤ list' → length left ≡ length index → table' ≡ table → AreSlots room list' table' (slice_set now ends.last (record slot { next = Some place })) left
slots_again room list list' table table' place key gift slots now index left ends slot h key_is end is some present slot_is says wide many free =
    let found : AreEnds slots key ends = subst (IsFound slots key) present (h.linked.found key) in
    let put : IsPut slots now key = is_put key gift slots now key_is is in
    let new : Slot = record slot { next = Some place } in
    let written : IsPut slots (slice_set now ends.last new) key = pushed_next slots now key ends.last place slot put found.last slot_is in
    let size = put.size in
    let written_size = written.size in
    let lt = found.last in
    let within : ends.last < length now = omega arith in
    let a = h.few in
    let b = h.list in
    let d = h.keys in
    let e = h.table in
    record {
      linked = linked_again slots (slice_set now ends.last new) key written index left ends h.linked present (ap (λ (slot : Slot). slot.next) (get_or-set_same now ends.last new no_slot within) ∙ ap (λ place. Some place) end)
          (λ place less apart. ap (λ (slot : Slot). slot.next) (get_or-set_other now ends.last place new no_slot apart) ∙ ap (λ now. (slot_at now place).next) is ∙ ap (λ (slot : Slot). slot.next) (get_or_append_left slots (new_slot gift ∷ []) no_slot place less))
          (λ q. says q ∙ ap (λ place. cond (same_key key q) (Some (record { first = option_or ends.first (Some place); last = place })) (lookup (same_key q) index)) end);
      few = omega arith;
      list = omega arith;
      keys = omega arith;
      table = omega arith;
    }
