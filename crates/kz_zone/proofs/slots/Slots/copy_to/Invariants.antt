use Rattle.std.proofs.Common.{◌≡◌, ◌≤◌, take, vec_capacity}
use Rattle.kz_zone.specs.Slots.{gifts_in}
use Rattle.kz_zone.proofs.slots.Slots.copy_to.Given as goal

abbrev pub invariant-loop-slot : goal.invariant-loop-slot
invariant-loop-slot l = record {
  items : l.into.items ≡ gifts_in (take l.slot-index l.slot-items);
  capacity : vec_capacity l.fn.into ≤ vec_capacity l.into;
}
