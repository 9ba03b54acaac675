-- For the tests: a supply that two zones share.
use Rattle.std.specs.Prelude.{ℕ, [], ◌∷◌}
use Rattle.kz_model.specs.declared.record.ZoneParams.{ZoneParams}
use Rattle.kz_supply.specs.Ready.{Ready, NoAnswer}
use Rattle.kz_locked.specs.declared.supply.Share.{Share}
use Rattle.kz_locked.specs.declared.supply.SupplyStart.{SupplyStart}

abbrev pub even_share : Share
even_share = record { entries = 2; frames = 4 }

-- as its turn is opened
abbrev pub start : SupplyStart
start = record { frames = 8; made = 8; pages = 16; room = 4; shares = even_share ∷ even_share ∷ []; log = [] }

-- a zone's answers before its first visit
abbrev pub unused : ZoneParams → ℕ → Ready
unused p chunks = record { params = p; chunks = chunks; ready = NoAnswer; exchanges = []; handed = 0; waiting = [] }
