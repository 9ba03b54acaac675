-- The supply as contracts see it.
use Rattle.std.specs.Prelude.{ℕ, ◌≡◌, ◌-◌, ◌/◌, List, [], ◌∷◌, ◌++◌, length, map, min}
use Rattle.std.specs.List.{fold}
use Rattle.kz_model.specs.declared.supply.SupplyEntry.{SupplyEntry}
use Rattle.kz_supply.specs.Exchange.{Exchange, entries_of}
use Rattle.kz_model.specs.Run.Supply.{Stock, opening_stock, stock_after, pages_left, supply_answers}

-- the frames that it began with, the pages of each submap, for how many entries its log has room, and its log
pub record Supply : Type 0 where
  pub frames : ℕ
  pub pages : ℕ
  pub room : ℕ
  pub log : List SupplyEntry

-- what is left after the entries of a log
abbrev pub stock_with : Stock → SupplyEntry → Stock
stock_with stock entry = stock_after stock entry.ask entry.answer

abbrev pub stock_of : Supply → Stock
stock_of s = fold stock_with (opening_stock s.frames) s.log

-- how many frames are out
abbrev pub frames_out : Supply → ℕ
frames_out s = s.frames - (stock_of s).free

-- for how many entries more the log has room
abbrev pub room_left : Supply → ℕ
room_left s = s.room - length s.log

-- how many packs of so many pages can come back: the log has room for each, and so many frames are out
abbrev pub backs_left : ℕ → Supply → ℕ
backs_left pages s = min (room_left s) (frames_out s / pages)

-- how many chunks of so many pages a submap has left
abbrev pub grants_left : ℕ → ℕ → Supply → ℕ
grants_left submap pages s = pages_left s.pages (stock_of s) submap / pages

-- the log's answers are those of the supply's table
abbrev pub AreAnswered : Supply → Type 0
AreAnswered s = map (λ entry. entry.answer) s.log ≡ supply_answers s.frames s.pages (map (λ entry. entry.ask) s.log)

-- the supply with one entry more
abbrev pub with_entry : SupplyEntry → Supply → Supply
with_entry entry s = record s { log = s.log ++ entry ∷ [] }

-- the supply with these exchanges of a zone more
abbrev pub with_exchanges : ℕ → List Exchange → Supply → Supply
with_exchanges zone exchanges s = record s { log = s.log ++ entries_of zone exchanges }
