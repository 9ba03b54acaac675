use Rattle.std.proofs.Common.{◌≡◌, take}
use Rattle.kz_bundle.specs.Rounds.{column}
use Rattle.kz_bundle.proofs.stages.rounds.column_of.Given as goal

abbrev pub invariant-loop-table : goal.invariant-loop-table
invariant-loop-table l = l.left.items ≡ column (take l.table-index l.tables) l.round
