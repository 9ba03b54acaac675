-- Blocks in transit, as contracts see them.
use Rattle.std.specs.Prelude.{ℕ, List}
use Rattle.kz_model.specs.Zone.State.{Gift}

-- for how many gifts there is room, and the gifts, the oldest first
pub record Transit : Type 0 where
  pub room : ℕ
  pub gifts : List Gift
