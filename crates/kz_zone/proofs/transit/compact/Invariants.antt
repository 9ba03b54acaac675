use Rattle.std.proofs.Common.{◌≡◌, take}
use Rattle.kz_zone.proofs.transit.compact.Given as goal

abbrev pub invariant-loop-gift : goal.invariant-loop-gift
invariant-loop-gift l = l.slots ≡ record l.fn.slots { used = l.gift-index; gifts = take l.gift-index l.fn.slots.gifts }
