use Rattle.std.proofs.Common.{◌≡◌, ◌+◌, ◌++◌, List, take}
use Rattle.kz_model.specs.declared.step.Reply.{Reply}
use Rattle.kz_make.specs.Totals.{IsWithin, AreTotals}
use Rattle.kz_make.proofs.summary.add_replies.Given as goal

-- the replies so far are told
abbrev pub invariant-loop-at : goal.invariant-loop-at
invariant-loop-at l = record {
  steps : l.totals.steps ≡ l.fn.totals.steps + l.at;
  within : IsWithin l.totals;
  more : (before : List Reply) → AreTotals l.fn.totals before → AreTotals l.totals (before ++ take l.at l.replies);
}
