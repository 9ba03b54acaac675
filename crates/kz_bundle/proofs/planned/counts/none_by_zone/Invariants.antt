use Rattle.std.proofs.Common.{◌≡◌, replicate}
use Rattle.kz_bundle.specs.Counted.{no_lines}
use Rattle.kz_bundle.proofs.planned.counts.none_by_zone.Given as goal

abbrev pub invariant-loop-zone : goal.invariant-loop-zone
invariant-loop-zone l = l.table.items ≡ replicate l._zone (no_lines l.cpus)
