use Rattle.std.proofs.Common.{vec_capacity}
use Rattle.kz_supply.proofs.Stocks.{AreMade}
use Rattle.kz_supply.proofs.stock.new_frames.Given as goal

abbrev pub invariant-loop-made : goal.invariant-loop-made
invariant-loop-made l = AreMade (vec_capacity l.frames) l._made l.frames.items l.count
