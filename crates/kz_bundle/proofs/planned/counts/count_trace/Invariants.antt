use Rattle.std.proofs.Common.{◌≡◌}
use Rattle.kz_bundle.specs.Counted.{counted, lines_before}
use Rattle.kz_bundle.proofs.planned.counts.count_trace.Given as goal

abbrev pub invariant-loop-at : goal.invariant-loop-at
invariant-loop-at l = l.table ≡ counted l.bundle l.plan (lines_before l.bundle l.cpu l.at)
