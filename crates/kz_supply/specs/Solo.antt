-- What stays the same while one zone alone uses a supply.
use Rattle.std.specs.Prelude.{ℕ, ◌≡◌, List, [], take, drop}
use Rattle.std.specs.Borrow.{GName}
use Rattle.kz_model.specs.declared.supply.SupplyEntry.{SupplyEntry}
use Rattle.kz_supply.specs.Supply.{Supply}
use Rattle.kz_supply.specs.Exchange.{exchanges_at, entries_of}

-- the borrow by which the supply is used, and the supply as it was when that began
pub record Start : Type 0 where
  pub borrow : GName
  pub supply : Supply

abbrev pub no_start : Start
no_start = record { borrow = 0; supply = record { frames = 0; pages = 0; room = 0; log = [] } }

-- the supply as it was when its log had so many entries
abbrev pub supply_at : ℕ → Supply → Supply
supply_at entries s = record s { log = take entries s.log }

-- the entries that were made since
abbrev pub entries_since : ℕ → Supply → List SupplyEntry
entries_since entries s = drop entries s.log

-- all of them are this zone's
abbrev pub AreOfZone : ℕ → List SupplyEntry → Type 0
AreOfZone zone entries = entries_of zone (exchanges_at zone entries) ≡ entries
