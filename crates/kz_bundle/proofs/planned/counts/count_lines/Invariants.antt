use Rattle.std.proofs.Common.{◌≡◌}
use Rattle.kz_bundle.specs.Counted.{counted, lines_before}
use Rattle.kz_bundle.proofs.planned.counts.count_lines.Given as goal

abbrev pub invariant-loop-cpu : goal.invariant-loop-cpu
invariant-loop-cpu l = l.table.items ≡ counted l.bundle l.plan (lines_before l.bundle l.cpu 0)
