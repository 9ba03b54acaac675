-- The supply behind a turn: its base, its journal, and what a zone's pass knows.
use Rattle.std.specs.Prelude.{ℕ, ◌++◌, List, map, take, drop}
use Rattle.kz_model.specs.declared.supply.SupplyEntry.{SupplyEntry}
use Rattle.kz_model.specs.Run.Journal.{log_at}
use Rattle.kz_supply.specs.Thin.{ThinSupply}
use Rattle.kz_turn.specs.Passes.{PassView}
use Rattle.kz_locked.specs.declared.supply.Share.{Share}
use Rattle.kz_locked.specs.declared.supply.SupplyStart.{SupplyStart}
use Rattle.kz_locked.specs.Shares.{share_of}

-- the supply as it was when its log had so many entries
abbrev pub start_of : List Share → ℕ → ThinSupply → SupplyStart
start_of shares opened s =
    record {
      frames = s.counted.frames;
      made = s.made;
      pages = s.counted.pages;
      room = s.counted.room;
      shares = shares;
      log = take opened s.counted.log;
    }

-- each entry since then, with the number of its zone's seat
abbrev pub entries_since : ℕ → ThinSupply → List (ℕ × SupplyEntry)
entries_since entries s = map (λ entry. (entry.zone, entry)) (drop entries s.counted.log)

-- the supply of a start, with this log
abbrev pub supply_with : SupplyStart → List SupplyEntry → ThinSupply
supply_with start log =
    record {
      counted = record { frames = start.frames; pages = start.pages; room = start.room; log = log };
      made =
          start.made;
    }

-- a zone's own entries, as its pass knows them
abbrev pub own_log : PassView SupplyStart SupplyEntry → List SupplyEntry
own_log pass = log_at pass.number pass.base.log ++ pass.own

-- the share of the pass's zone
abbrev pub own_share : PassView SupplyStart SupplyEntry → Share
own_share pass = share_of pass.base.shares pass.number
