use Rattle.std.proofs.Common.{vec_capacity, length}
use Rattle.kz_supply.proofs.Stocks.{AreBack}
use Rattle.kz_supply.proofs.stock.give_back.Given as goal

abbrev pub invariant-loop-frame : goal.invariant-loop-frame
invariant-loop-frame l = AreBack l.initial.free.items l.free.items (vec_capacity l.initial.free) (vec_capacity l.free) l.initial.frames l.frames

abbrev pub decreases-loop-frame : goal.decreases-loop-frame
decreases-loop-frame l = length l.frames
