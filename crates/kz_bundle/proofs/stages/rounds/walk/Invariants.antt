use Rattle.std.proofs.Common.{length}
use Rattle.kz_bundle.proofs.OrderTurns.{IsWalked}
use Rattle.kz_bundle.proofs.stages.rounds.walk.Given as goal

abbrev pub invariant-loop-ahead : goal.invariant-loop-ahead
invariant-loop-ahead l = IsWalked l.tables l.turns l.rounds l.order_at l.left.items l.ahead l.round l.line

abbrev pub decreases-loop-ahead : goal.decreases-loop-ahead
decreases-loop-ahead l = length l.ahead
