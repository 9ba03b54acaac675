use Rattle.std.proofs.Common.{vec_capacity}
use Rattle.kz_supply.proofs.Stocks.{AreTaken}
use Rattle.kz_supply.proofs.stock.take_frames.Given as goal

abbrev pub invariant-loop-taken : goal.invariant-loop-taken
invariant-loop-taken l = AreTaken l.initial.free.items l.free.items (vec_capacity l.initial.free) (vec_capacity l.free) l._taken l.frames
