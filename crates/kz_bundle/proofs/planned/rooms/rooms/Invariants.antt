use Rattle.std.proofs.Common.{length}
use Rattle.kz_model.specs.Run.Rooms.{room_of}
use Rattle.kz_bundle.specs.Counted.{load_of}
use Rattle.kz_bundle.proofs.InRange.{IsMade}
use Rattle.kz_bundle.proofs.planned.rooms.rooms.Given as goal

abbrev pub invariant-loop-load : goal.invariant-loop-load
invariant-loop-load l = IsMade (load_of l.bundle l.plan) (room_of l.bundle l.plan) (length l.plan.zones) l.yielded l.load-iterator.rest.items l.rooms.items
