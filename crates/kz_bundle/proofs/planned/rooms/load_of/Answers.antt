use Rattle.std.proofs.Common.{◌<◌, None, ap, subst, sym, arith}
use Rattle.std.specs.Prelude.{sum}
use Rattle.kz_model.specs.declared.record.ZoneParams.{ZoneParams}
use Rattle.kz_model.specs.declared.record.ZoneRow.{ZoneRow}
use Rattle.kz_bundle.specs.declared.planned.counts.ZoneLines.{ZoneLines}
use Rattle.kz_bundle.proofs.Counting.{few_steps_on}
use Rattle.kz_bundle.proofs.Zoned.{planned_is_fit, planned_is_valid}
use Rattle.kz_bundle.proofs.planned.rooms.load_of.Goals as goal

pub nonzero_div-room : goal.nonzero_div-room
nonzero_div-room c =
    let no_zone : ZoneRow = record { bucket = None; submap = 0; shape = record { element = 0; count = 0; pages = 0 }; types = 0 } in
    subst (λ (params : ZoneParams). 0 < params.pages) (sym c.params_of-params.ensures) ((planned_is_fit c.requires.planned).rows c.args.zone no_zone c.requires.zone).shape.some_pages

pub total-requires : goal.total-requires
total-requires c = omega (arith, ap sum c.as_slice.ensures, ap (λ (lines : ZoneLines). sum lines.by_cpu) c.requires.lines, few_steps_on c.args.bundle.now c.args.plan.now c.args.zone (planned_is_valid c.requires.planned))
