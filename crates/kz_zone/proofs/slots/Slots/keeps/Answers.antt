use Rattle.std.proofs.Common.{length, ap, arith}
use Rattle.kz_zone.specs.declared.slots.Slot.{Slot}
use Rattle.kz_zone.specs.Slots.{Slots as Seen, is_free}
use Rattle.kz_zone.proofs.Kept.{length-kept}
use Rattle.kz_zone.proofs.slots.Slots.keeps.Goals as goal

pub returns-clause-gifts : goal.returns-clause-gifts
returns-clause-gifts c =
    let few = length-kept is_free (λ (slot : Slot). slot.gift) c.self.inside.slots.items in
    let gifts = ap (λ (z : Seen). length z.gifts) c.self.view_is in
    let used = ap (λ (z : Seen). z.used) c.self.view_is in
    omega arith
