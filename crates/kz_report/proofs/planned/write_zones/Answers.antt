use Rattle.std.proofs.Common.{None, rules}
use Rattle.kz_model.specs.declared.record.ZoneRow.{ZoneRow}
use Rattle.std.specs.String.{string_bytes}
use Rattle.kz_report.specs.Lines.{numbered_zone_line}
use Rattle.kz_report.proofs.PlanText.{more_numbered}
use Rattle.kz_report.proofs.planned.write_zones.Goals as goal

pub loop-zone-preserved : goal.loop-zone-preserved
loop-zone-preserved c =
    let no_zone : ZoneRow = record { bucket = None; submap = 0; shape = record { element = 0; count = 0; pages = 0 }; types = 0 } in
    more_numbered numbered_zone_line c.args.zones.now c.loop-zone.zone _ no_zone (string_bytes c.args.out.now) (string_bytes c.loop-zone.out) (string_bytes c.write_zone.new.out) c.loop-zone-test.true (search rules) c.loop-zone.invariant c.in_ok-write_zone.ensures
