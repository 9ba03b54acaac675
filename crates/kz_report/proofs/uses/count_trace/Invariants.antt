use Rattle.std.proofs.Common.{◌≡◌, ◌+◌, drop}
use Rattle.kz_report.specs.Uses.{counted_all, AreFew}
use Rattle.kz_report.proofs.uses.count_trace.Given as goal

-- the numbers so far, with the lines that are left, give the whole
abbrev pub invariant-loop-at : goal.invariant-loop-at
invariant-loop-at l = record {
  left : counted_all l.bundle (drop l.at l.trace) (drop l.at l.replies) l.uses.items ≡ counted_all l.bundle l.trace l.replies l.fn.uses.items;
  few : AreFew (15000000 + l.at) l.uses.items;
}
