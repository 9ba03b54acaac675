use Rattle.std.proofs.Common.{take}
use Rattle.kz_make.specs.Totals.{replies_in, IsWithin, AreTotals}
use Rattle.kz_make.proofs.summary.totals_of.Given as goal

-- the replies of the CPUs so far are told
abbrev pub invariant-loop-replies : goal.invariant-loop-replies
invariant-loop-replies l = record {
  within : IsWithin l.totals;
  are : AreTotals l.totals (replies_in (take l.replies-index l.all));
}
