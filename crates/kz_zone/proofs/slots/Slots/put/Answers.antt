use Rattle.std.proofs.Common.{◌≡◌, ℕ, ◌+◌, ◌<◌, ◌++◌, ◌∷◌, [], Option, Result, Some, None, Ok, Err, List, if◌then◌else◌, cond, slice_set, is_some, ap, sym, subst, ◌∙◌, length, arith, rules}
use Rattle.std.specs.Result.{IsOk, IfOk, OnOk}
use Rattle.std.specs.Map.{lookup}
use Rattle.std.specs.HashMap.{HashMap, spare}
use Rattle.std.proofs.lemmas.List.{get_or_read, length_push, length-set}
use Rattle.kz_model.specs.Zone.State.{Gift}
use Rattle.kz_zone.specs.declared.slots.Slot.{Slot}
use Rattle.kz_zone.specs.declared.slots.Ends.{Ends}
use Rattle.kz_zone.specs.Slots.{Slots as Seen, gifts_in, no_slot, same_key, slot_at, AreEnds, IsFound, AreSlots}
use Rattle.kz_zone.proofs.Gifts.{new_slot, gifts_pushed, gifts_stay, slots_first, slots_again}
use Rattle.kz_zone.proofs.slots.Slots.put.Goals as goal
use Rattle.kz_zone.proofs.slots.Slots.put.Goals.{After-push_within, In-Some}

-- ---- a key that is there

-- its last slot is there
last_within : (room list table : ℕ) (key : ℕ × ℕ) (slots : List Slot) (index : List ((ℕ × ℕ) × Ends)) (ends : Ends) → AreSlots room list table slots index → Some ends ≡ lookup (same_key key) index → ends.last < length slots
last_within room list table key slots index ends h present =
    let are : AreEnds slots key ends = subst (IsFound slots key) (sym present) (h.linked.found key) in are.last

within : (c : In-Some) → c.in-Some.ends.now.last < length c.push_within.new.items.items
within c =
    let i = c.self.inside in
    let lt = last_within i.room i.slots.cap (spare i.index) (c.gift.inside.to, c.gift.inside.name) i.slots.items i.index.entries c.in-Some.ends.now c.self.invariant c.in-Some.ensures.value in
    let more = ap (λ (slots : List Slot). length slots) c.push_within.ensures.items ∙ length_push i.slots.items (new_slot c.args.gift) in
    omega arith

pub index_mut-requires : goal.index_mut-requires
index_mut-requires c = let lt = within (goal.at.index_mut-requires c).In-Some in omega arith

pub invariant_of-self : goal.invariant_of-self
invariant_of-self c =
    let i = c.self.inside in
    let ends = c.in-Some.ends.now in
    let place = c.len-place.result in
    let used : length i.slots.items ≡ c.args.self.now.used = ap (λ (z : Seen). z.used) c.self.view_is in
    let room : i.room ≡ c.args.self.now.room = ap (λ (z : Seen). z.room) c.self.view_is in
    let slot = get_or_read c.push_within.new.items.items ends.last c.index_mut.result.now (within (goal.at.invariant_of-self c).In-Some) c.index_mut.ensures.value no_slot in
    let written : Ends = record { first = c.or-ends.result; last = place } in
    let left = c.get_mut.follows.holds written in
    slots_again i.room i.slots.cap c.push_within.new.items.cap (spare i.index) (spare (c.get_mut.follows.lender written)) place (c.gift.inside.to, c.gift.inside.name) c.args.gift i.slots.items
    c.push_within.new.items.items i.index.entries (c.get_mut.follows.lender written).entries ends c.index_mut.result.now c.self.invariant
    (ap (λ (gift : Gift). (gift.to, gift.name)) (sym c.gift.view_is)) (omega arith) c.push_within.ensures.items (omega arith) (sym c.in-Some.ensures.value) slot
    (λ q. (left.3 (search rules)).0 q ∙ ap (λ first. cond (same_key (c.gift.inside.to, c.gift.inside.name) q) (Some (record { first = first; last = place })) (lookup (same_key q) i.index.entries)) c.or-ends.ensures)
    c.push_within.ensures.capacity left.2 left.6

-- what is seen after another slot gets a next
seen_again : (z : Seen) (room at place : ℕ) (slots now : List Slot) (gift : Gift) (slot : Slot) → record { room = room; used = length slots; gifts = gifts_in slots } ≡ z → now ≡ slots ++ new_slot gift ∷ [] → slot ≡ slot_at now at →
    record { room = room; used = length (slice_set now at (record slot { next = Some place })); gifts = gifts_in (slice_set now at (record slot { next = Some place })) } ≡ record z { used = z.used + 1; gifts = z.gifts ++ gift ∷ [] }
seen_again z room at place slots now gift slot seen is slot_is =
    let used : length (slice_set now at (record slot { next = Some place })) ≡ z.used + 1 =
    length-set now at (record slot { next = Some place }) ∙ ap (λ (slots : List Slot). length slots) is ∙ length_push slots (new_slot gift) ∙ ap (λ (z : Seen). z.used + 1) seen in
    let gifts : gifts_in (slice_set now at (record slot { next = Some place })) ≡ z.gifts ++ gift ∷ [] = gifts_stay now at place slot slot_is ∙ ap gifts_in is ∙ gifts_pushed slots gift ∙ ap (λ (z : Seen). z.gifts ++ gift ∷ []) seen in
    λ i. record { room = (seen i).room; used = used i; gifts = gifts i }

pub returns-in-Some : goal.returns-in-Some
returns-in-Some c =
    let i = c.self.inside in
    let ends = c.in-Some.ends.now in
    let slot = get_or_read c.push_within.new.items.items ends.last c.index_mut.result.now (within (goal.at.returns-in-Some c).In-Some) c.index_mut.ensures.value no_slot in
    seen_again c.args.self.now i.room ends.last c.len-place.result i.slots.items c.push_within.new.items.items c.args.gift c.index_mut.result.now c.self.view_is c.push_within.ensures.items slot

-- ---- a new key

-- what an insert that can't fail says
at_ok : {T E P : Type 0} (r : Result T E) → IsOk r → OnOk r P → P
at_ok (Ok x) ok h = h
at_ok (Err e) ok h = absurd (cc)

-- a key that was not there makes one entry more
one_more : {E : Type 0} (r : Result (Option Ends) E) (old : Option Ends) (few many : ℕ) → IsOk r → IfOk r (λ was. was ≡ old) → IfOk r (λ was. many ≡ few + (if is_some was then 0 else 1)) → old ≡ None → many ≡ few + 1
one_more (Ok was) old few many ok is len none = len ∙ ap (λ (was : Option Ends). few + (if is_some was then 0 else 1)) (is ∙ none)
one_more (Err e) old few many ok is len none = absurd (cc)

pub invariant_of-self-in-None : goal.invariant_of-self-in-None
invariant_of-self-in-None c =
    let i = c.self.inside in
    let key : ℕ × ℕ = (c.gift.inside.to, c.gift.inside.name) in
    let place = c.len-place.result in
    let used : length i.slots.items ≡ c.args.self.now.used = ap (λ (z : Seen). z.used) c.self.view_is in
    let room : i.room ≡ c.args.self.now.room = ap (λ (z : Seen). z.room) c.self.view_is in
    let was = c.get_mut.follows.lender-at-none in
    let same = c.get_mut.follows.holds-at-none in
    let keys = c.self.invariant.keys in
    let table = c.self.invariant.table in
    let spares : spare was ≡ spare i.index = ap spare same in
    let ok = c.insert.ensures.succeeds (omega arith) in
    let absent : lookup (same_key key) i.index.entries ≡ None = sym c.in-None.ensures.value in
    slots_first i.room i.slots.cap c.push_within.new.items.cap (spare i.index) (spare c.insert.new.self) place key c.args.gift i.slots.items c.push_within.new.items.items i.index.entries c.insert.new.self.entries c.self.invariant
    (ap (λ (gift : Gift). (gift.to, gift.name)) (sym c.gift.view_is)) (omega arith) c.push_within.ensures.items (omega arith) absent
    (λ q. (at_ok c.insert.result ok c.insert.ensures.updates).0 q ∙ ap (λ (index : HashMap (ℕ × ℕ) Ends _). cond (same_key key q) (Some (record { first = Some place; last = place })) (lookup (same_key q) index.entries)) same)
    c.push_within.ensures.capacity
    (one_more c.insert.result (lookup (same_key key) was.entries) (length was.entries) (length c.insert.new.self.entries) ok c.insert.ensures.old c.insert.ensures.len (ap (λ (index : HashMap (ℕ × ℕ) Ends _). lookup (same_key key) index.entries) same ∙ absent)
    ∙ ap (λ (index : HashMap (ℕ × ℕ) Ends _). length index.entries + 1) same)
    (omega (arith, c.insert.ensures.spare))
