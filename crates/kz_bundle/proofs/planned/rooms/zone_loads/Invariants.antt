use Rattle.std.proofs.Common.{length}
use Rattle.kz_model.specs.Run.Journal.{trace_of}
use Rattle.kz_bundle.specs.Counted.{counted_on, load_of}
use Rattle.kz_bundle.proofs.InRange.{IsMade}
use Rattle.kz_bundle.proofs.planned.rooms.zone_loads.Given as goal

abbrev pub invariant-loop-lines : goal.invariant-loop-lines
invariant-loop-lines l = IsMade (counted_on l.bundle l.plan (trace_of l.bundle)) (load_of l.bundle l.plan) (length l.plan.zones) l.yielded l.lines-iterator.rest.items l.loads.items
