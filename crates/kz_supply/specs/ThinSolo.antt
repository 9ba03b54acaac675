-- What one zone's use of a supply with fewer frames made can answer, and what stays the same.
use Rattle.std.specs.Prelude.{ℕ, ◌+◌, ◌&&◌, ◌||◌, Bool, nat_lt}
use Rattle.kz_model.specs.declared.record.ZoneParams.{ZoneParams}
use Rattle.kz_model.specs.Run.Supply.{granted_in}
use Rattle.kz_model.specs.Run.Supply.{pages_left}
use Rattle.kz_supply.specs.Supply.{stock_of, room_left}
use Rattle.kz_supply.specs.Solo.{Start, no_start, supply_at, entries_since}
use Rattle.kz_supply.specs.Thin.{ThinSupply, has_made}

-- the start of a supply's use, and how many frames were made
pub record ThinStart : Type 0 where
  pub counted : Start
  pub made : ℕ

abbrev pub no_thin_start : ThinStart
no_thin_start = record { counted = no_start; made = 0 }

-- the supply as it was when its log had so many entries
abbrev pub thin_at : ℕ → ThinSupply → ThinSupply
thin_at entries s = record s { counted = supply_at entries s.counted }

-- so many frames more may go out, by the supply as it was and all that was granted since
abbrev pub may_grant : ℕ → ℕ → ThinSupply → Bool
may_grant pages entries s = has_made (granted_in (entries_since entries s.counted) + pages) (thin_at entries s)

-- The ask for the frames of a chunk can be answered: the log has room, and the frames were made.
abbrev pub can_give : ℕ → ZoneParams → ThinSupply → Bool
can_give entries p s = nat_lt 0 (room_left s.counted) && may_grant p.pages entries s

-- the ask for a chunk too, or its refusal where the submap has too few pages left
abbrev pub can_place : ℕ → ZoneParams → ThinSupply → Bool
can_place entries p s = nat_lt 0 (room_left s.counted)
    && (nat_lt (pages_left s.counted.pages (stock_of s.counted) p.submap) p.pages || may_grant p.pages entries s)
