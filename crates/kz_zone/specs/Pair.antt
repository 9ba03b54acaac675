-- A CPU's stack of blocks, as contracts see it.
use Rattle.std.specs.Prelude.{ℕ, List}
use Rattle.kz_model.specs.declared.step.Block.{Block}

-- the magazine's size, and the blocks, the oldest first
pub record Pair : Type 0 where
  pub magazine : ℕ
  pub blocks : List Block
