use Rattle.std.proofs.Common.{take}
use Rattle.kz_plan.specs.Homes.{AreCounts}
use Rattle.kz_plan.proofs.zones.counts.Given as goal

-- the counts of the types so far
abbrev pub invariant-loop-zone : goal.invariant-loop-zone
invariant-loop-zone l = AreCounts l.counts.items l.fn.zones (take l.zone-index l.of_type)
