use Rattle.std.proofs.Common.{take}
use Rattle.kz_bundle.proofs.Columns.{IsCounted}
use Rattle.kz_bundle.proofs.stages.rounds.count_rounds.Given as goal

abbrev pub invariant-loop-at : goal.invariant-loop-at
invariant-loop-at l = IsCounted l.counts.items (take l.at l.steps) l.at l.rounds
