use Rattle.std.proofs.Common.{◌≡◌, ℕ, Option, Some, None, List, true, refl, slice_set, is_some, unwrap_or, ap, sym, ◌∙◌, length, arith, rules}
use Rattle.std.specs.List.{remove}
use Rattle.std.proofs.lemmas.List.{get_or_read, length-set}
use Rattle.std.proofs.lemmas.Map.Steps.{set_value_same}
use Rattle.kz_model.specs.Zone.State.{Gift}
use Rattle.kz_model.specs.Zone.Rules.{gift_place, gift_at}
use Rattle.kz_zone.specs.declared.slots.Slot.{Slot}
use Rattle.kz_zone.specs.declared.slots.Ends.{Ends}
use Rattle.kz_zone.specs.Slots.{Slots as Seen, gifts_in, no_slot, same_key, slot_at}
use Rattle.kz_zone.proofs.Gifts.{rank_at, none_came, none_is_left, IsFirst, first_is, gift_found, gift_is, gifts_left, slots_stay, slots_marked}
use Rattle.kz_zone.proofs.slots.Slots.take.Goals as goal
use Rattle.kz_zone.proofs.slots.Slots.take.Goals.{In_ok-place, After-index_mut}

first : (c : In_ok-place) → IsFirst c.self.inside.slots.items (c.args.to, c.args.name) c.in_ok-place.field-0
first c = first_is c.self.inside.slots.items c.self.inside.index.entries (c.args.to, c.args.name) c.in_ok-ends.ends.now c.in_ok-place.field-0 c.self.invariant.linked (sym c.in_ok-ends.ensures.value) c.in_ok-place.was

pub index-requires : goal.index-requires
index-requires c = let there = first (goal.at.index-requires c).In_ok-place in omega (arith, there.within)

pub index_mut-requires : goal.index_mut-requires
index_mut-requires c = let there = first (goal.at.index_mut-requires c).In_ok-place in omega (arith, there.within)

-- whether there is a gift, by the place that the slots have
some_seen : (z : Seen) (slots : List Slot) (to name : ℕ) (place : Option ℕ) → gifts_in slots ≡ z.gifts → gift_place to name (gifts_in slots) ≡ place → is_some place ≡ is_some (gift_place to name z.gifts)
some_seen z slots to name place seen is = ap is_some (sym is) ∙ ap (λ gifts. is_some (gift_place to name gifts)) seen

pub returns-in_err-ends-clause-some : goal.returns-in_err-ends-clause-some
returns-in_err-ends-clause-some c =
    let i = c.self.inside in
    ap is_some c.from_residual.ensures
    ∙ some_seen c.args.self.now i.slots.items c.args.to c.args.name None (ap (λ (z : Seen). z.gifts) c.self.view_is) (none_came i.slots.items i.index.entries (c.args.to, c.args.name) c.self.invariant.linked (sym c.in_err-ends.ensures.value))

pub returns-in_err-place-clause-some : goal.returns-in_err-place-clause-some
returns-in_err-place-clause-some c =
    let i = c.self.inside in
    ap is_some c.from_residual-in_err-place.ensures
    ∙ some_seen c.args.self.now i.slots.items c.args.to c.args.name None (ap (λ (z : Seen). z.gifts) c.self.view_is)
    (none_is_left i.slots.items i.index.entries (c.args.to, c.args.name) c.in_ok-ends.ends.now c.self.invariant.linked (sym c.in_ok-ends.ensures.value) c.in_err-place.was)

pub invariant_of-self-in_err-place : goal.invariant_of-self-in_err-place
invariant_of-self-in_err-place c =
    let i = c.self.inside in
    let left = c.get_mut.follows.holds c.in_ok-ends.ends.now in
    slots_stay i.room i.slots.cap _ _ i.slots.items i.index.entries (c.get_mut.follows.lender c.in_ok-ends.ends.now).entries c.self.invariant
    (left.0 ∙ set_value_same (same_key (c.args.to, c.args.name)) i.index.entries c.in_ok-ends.ends.now (sym c.in_ok-ends.ensures.value)) left.6

pub returns-clause-some : goal.returns-clause-some
returns-clause-some c =
    let i = c.self.inside in
    let there = first (goal.at.returns-clause-some c).In_ok-place in
    some_seen c.args.self.now i.slots.items c.args.to c.args.name (Some (rank_at i.slots.items c.in_ok-place.field-0)) (ap (λ (z : Seen). z.gifts) c.self.view_is) (gift_found i.slots.items (c.args.to, c.args.name) c.in_ok-place.field-0 there)

-- the gift at the place that is found
gift_seen : (z : Seen) (slots : List Slot) (to name at : ℕ) (slot : Slot) → gifts_in slots ≡ z.gifts → IsFirst slots (to, name) at → slot ≡ slot_at slots at → slot.gift ≡ gift_at z.gifts (unwrap_or (gift_place to name z.gifts) 0)
gift_seen z slots to name at slot seen there is =
    ap (λ (slot : Slot). slot.gift) is ∙ sym (gift_is slots (to, name) at there) ∙ ap (λ place. gift_at (gifts_in slots) (unwrap_or place 0)) (sym (gift_found slots (to, name) at there))
    ∙ ap (λ gifts. gift_at gifts (unwrap_or (gift_place to name gifts) 0)) seen

pub returns-clause-block : goal.returns-clause-block
returns-clause-block c =
    let i = c.self.inside in
    let there = first (goal.at.returns-clause-block c).In_ok-place in
    let read = get_or_read i.slots.items c.in_ok-place.field-0 c.index.result.now there.within c.index.ensures no_slot in
    ap (λ (gift : Gift). gift.block) (c.gift.view_is ∙ gift_seen c.args.self.now i.slots.items c.args.to c.args.name c.in_ok-place.field-0 c.index.result.now (ap (λ (z : Seen). z.gifts) c.self.view_is) there read)

-- the slots that are left
seen_left : (z : Seen) (room : ℕ) (slots : List Slot) (to name at : ℕ) (slot : Slot) → record { room = room; used = length slots; gifts = gifts_in slots } ≡ z → IsFirst slots (to, name) at → slot.taken ≡ true →
    record { room = room; used = length (slice_set slots at slot); gifts = gifts_in (slice_set slots at slot) } ≡ record z { gifts = remove z.gifts (unwrap_or (gift_place to name z.gifts) 0) }
seen_left z room slots to name at slot seen there taken =
    let used : length (slice_set slots at slot) ≡ z.used = length-set slots at slot ∙ ap (λ (z : Seen). z.used) seen in
    let gifts : gifts_in (slice_set slots at slot) ≡ remove z.gifts (unwrap_or (gift_place to name z.gifts) 0) =
    gifts_left slots (to, name) at slot there taken
    ∙ ap (λ place. remove (gifts_in slots) (unwrap_or place 0)) (sym (gift_found slots (to, name) at there))
    ∙ ap (λ (z : Seen). remove z.gifts (unwrap_or (gift_place to name z.gifts) 0)) seen in
    λ i. record { room = (seen i).room; used = used i; gifts = gifts i }

pub invariant_of-self-2 : goal.invariant_of-self-2
invariant_of-self-2 c =
    let i = c.self.inside in
    let at = c.in_ok-place.field-0 in
    let there = first (goal.at.invariant_of-self-2 c).In_ok-place in
    let next = get_or_read i.slots.items at c.index.result.now there.within c.index.ensures no_slot in
    let slot = get_or_read i.slots.items at c.index_mut.result.now there.within c.index_mut.ensures.value no_slot in
    let ends = c.in_ok-ends.ends.now in
    let now : Ends = record { first = c.index.result.now.next; last = ends.last } in
    let left = c.get_mut.follows.holds now in
    slots_marked i.room i.slots.cap _ _ at (c.args.to, c.args.name) i.slots.items i.index.entries (c.get_mut.follows.lender now).entries ends c.index_mut.result.now c.index.result.now
    c.self.invariant (sym c.in_ok-ends.ensures.value) c.in_ok-place.was there.within slot next (left.3 (search rules)).0 left.2 left.6

pub returns-clause-left : goal.returns-clause-left
returns-clause-left c =
    let i = c.self.inside in
    let at = c.in_ok-place.field-0 in
    let there = first (goal.at.returns-clause-left c).In_ok-place in
    seen_left c.args.self.now i.room i.slots.items c.args.to c.args.name at (record c.index_mut.result.now { taken = true }) c.self.view_is there refl
