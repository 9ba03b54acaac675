-- What a zone's use of a supply means.
use Rattle.std.specs.Prelude.{List}
use Rattle.kz_supply.specs.declared.solo.SoloPages.{SoloPages}
use Rattle.kz_supply.specs.declared.thin_pages.ThinPages.{ThinPages}
use Rattle.kz_supply.specs.Exchange.{Exchange, exchanges_at}
use Rattle.kz_supply.specs.Solo.{Start, supply_at}
use Rattle.kz_supply.specs.ThinSolo.{ThinStart}

-- the zone's exchanges so far
abbrev pub exchanges_of : SoloPages → List Exchange
exchanges_of s = exchanges_at s.params.zone s.supply.now.log

-- by which borrow the supply is used, and the supply as it was when the use began
abbrev pub base_of : SoloPages → Start
base_of s = record { borrow = s.supply.ghost_name; supply = supply_at s.start s.supply.now }

-- the same of a supply with fewer frames made
abbrev pub thin_exchanges_of : ThinPages → List Exchange
thin_exchanges_of s = exchanges_at s.params.zone s.supply.now.counted.log

abbrev pub thin_base_of : ThinPages → ThinStart
thin_base_of s = record {
  counted =
      record { borrow = s.supply.ghost_name; supply = supply_at s.start s.supply.now.counted };
  made = s.supply.now.made;
}
