use Rattle.std.proofs.Common.{length, take, ap, arith}
use Rattle.std.proofs.lemmas.List.{length-take}
use Rattle.kz_zone.specs.declared.slots.Slot.{Slot}
use Rattle.kz_zone.specs.Slots.{Slots as Seen, is_free}
use Rattle.kz_zone.proofs.Kept.{length-kept}
use Rattle.kz_zone.proofs.slots.Slots.copy_to.Goals as goal

pub push_within-requires : goal.push_within-requires
push_within-requires c =
    let items = c.deref-slot-items.result.now in
    let copied = ap (λ gifts. length gifts) c.loop-slot.invariant.items in
    let few = length-kept is_free (λ (slot : Slot). slot.gift) (take c.loop-slot.slot-index items) in
    let below = length-take c.loop-slot.slot-index items in
    let room = ap (λ (z : Seen). z.room) c.self.view_is in
    let all = ap (λ slots. length slots) c.deref-slot-items.ensures.value in
    omega arith
