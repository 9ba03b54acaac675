-- What one zone sees of the supply, and what a use of it leaves.
use Rattle.std.specs.Prelude.{◌≡◌, ℕ, ◌+◌, ◌++◌, Bool, List, IsTrue}
use Rattle.kz_model.specs.declared.record.ZoneParams.{ZoneParams}
use Rattle.kz_supply.specs.Exchange.{Exchange}

-- the zone's parameters, its asks so far with their answers, which asks can be answered now, for how many backs there
-- is room, how many chunks may still be granted, and what stays the same through all calls
pub record SupplyView (Base : Type 0) : Type 0 where
  pub params : ZoneParams
  pub exchanges : List Exchange
  pub can_chunk : Bool
  pub can_frames : Bool
  pub backs : ℕ
  pub grants : ℕ
  pub base : Base

-- The zone made these exchanges, and each chunk that it has more was granted. The zone and the base are as before, and
-- no ask can be answered that could not be before.
pub record IsUsed {Base : Type 0} (old new : SupplyView Base) (exchanges : List Exchange)
    (chunks_before chunks_after : ℕ) : Type 0 where
  pub asked : new.exchanges ≡ old.exchanges ++ exchanges
  pub params : new.params ≡ old.params
  pub base : new.base ≡ old.base
  pub grants : new.grants + chunks_after ≡ old.grants + chunks_before
  pub chunks : IsTrue new.can_chunk → IsTrue old.can_chunk
  pub frames : IsTrue new.can_frames → IsTrue old.can_frames
