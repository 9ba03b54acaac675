use Rattle.std.proofs.Common.{None, sym}
use Rattle.kz_model.specs.declared.record.ZoneRow.{ZoneRow}
use Rattle.kz_report.proofs.Lookups.{none_there}
use Rattle.kz_report.proofs.addresses.zone_row.Goals as goal

pub returns-in-None : goal.returns-in-None
returns-in-None c =
    let no_zone : ZoneRow = record { bucket = None; submap = 0; shape = record { element = 0; count = 0; pages = 0 }; types = 0 } in
    sym (none_there c.args.plan.now.zones c.args.zone no_zone (sym c.in-None.ensures.value))
