use Rattle.std.proofs.Common.{length}
use Rattle.kz_bundle.specs.Counted.{load_of}
use Rattle.kz_machine.specs.Needs.{needed_of}
use Rattle.kz_bundle.proofs.InRange.{IsMade}
use Rattle.kz_machine.proofs.opening.limited_rooms.Given as goal

abbrev pub invariant-loop-load : goal.invariant-loop-load
invariant-loop-load l = IsMade (load_of l.bundle l.plan) (needed_of l.bundle l.plan) (length l.plan.zones) l.yielded l.load-iterator.rest.items l.rooms.items
