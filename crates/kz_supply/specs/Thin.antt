-- A supply with fewer frames made than it counts, as contracts see it.
use Rattle.std.specs.Prelude.{ℕ, ◌≡◌, ◌+◌, ◌<◌, ◌≤◌, ◌*◌, List, length, min, nat_le, Bool, ◌||◌}
use Rattle.kz_model.specs.declared.supply.SupplyEntry.{SupplyEntry}
use Rattle.kz_model.specs.Run.Supply.{Stock}
use Rattle.kz_supply.specs.Exchange.{Exchange}
use Rattle.kz_supply.specs.Store.{IsEnough}
use Rattle.kz_supply.specs.Supply.{Supply, AreAnswered, stock_of, frames_out, room_left, with_entry, with_exchanges}

-- the supply with all its frames counted, and how many of them were made
pub record ThinSupply : Type 0 where
  pub counted : Supply
  pub made : ℕ

-- So many frames more may go out. Where all frames were made, or eight for each entry that the log has room for, this
-- says nothing: they are enough for any asks then. Else no more may be out than were made.
abbrev pub HasMade : ℕ → ThinSupply → Type 0
HasMade count s = s.made < s.counted.frames → s.made < 8 * s.counted.room → frames_out s.counted + count ≤ s.made

abbrev pub has_made : ℕ → ThinSupply → Bool
has_made count s = nat_le s.counted.frames s.made || nat_le (8 * s.counted.room) s.made
    || nat_le (frames_out s.counted + count) s.made

-- as many frames were made as any asks can have out: all of them, or eight for each entry that the log has room for
abbrev pub IsMadeWhole : ThinSupply → Type 0
IsMadeWhole s = min s.counted.frames (8 * s.counted.room) ≤ s.made

-- what is left is what the log leaves, its answers are right, no more is free than there was, frames are made or
-- unmade, there is room for the whole log, and where eight were made for each of its entries they are at hand for those
-- that it still takes
pub record AgreesWithLog (left : Stock) (unmade capacity : ℕ) (s : ThinSupply) : Type 0 where
  pub left_is : left ≡ stock_of s.counted
  pub answers : AreAnswered s.counted
  pub free : (stock_of s.counted).free ≤ s.counted.frames
  pub most : length s.counted.log ≤ s.counted.room
  pub room : s.counted.room ≤ capacity
  pub made : s.made + unmade ≡ s.counted.frames
  pub enough : 8 * s.counted.room ≤ s.made → IsEnough (8 * room_left s.counted) unmade left

-- the supply with one entry more
abbrev pub thin_with_entry : SupplyEntry → ThinSupply → ThinSupply
thin_with_entry entry s = record s { counted = with_entry entry s.counted }

-- the supply with these exchanges of a zone more
abbrev pub thin_with_exchanges : ℕ → List Exchange → ThinSupply → ThinSupply
thin_with_exchanges zone exchanges s = record s { counted = with_exchanges zone exchanges s.counted }
