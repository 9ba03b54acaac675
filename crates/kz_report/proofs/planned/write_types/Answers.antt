use Rattle.std.proofs.Common.{ℕ, List, ap, slice_index, arith, ◌∙◌}
use Rattle.kz_model.specs.declared.record.ZoneRow.{ZoneRow}
use Rattle.std.specs.String.{string_bytes}
use Rattle.kz_report.specs.Lines.{type_line_of}
use Rattle.kz_report.proofs.PlanText.{one_type, default_layout, more_of_range}
use Rattle.kz_report.proofs.planned.write_types.Goals as goal

pub loop-of-preserved : goal.loop-of-preserved
loop-of-preserved c =
    let b = c.args.bundle.now in
    let plan = c.args.plan.now in
    let layouts = c.args.layouts.now in
    more_of_range (type_line_of b plan layouts) c.loop-of.of (string_bytes c.args.out.now) (string_bytes c.loop-of.out) (string_bytes c.write_type.new.out) c.loop-of.invariant
    (one_type b plan layouts c.loop-of.of (string_bytes c.loop-of.out) (string_bytes c.write_type.new.out) _ _ _ _ c.name.ensures (c.index-layouts-of.is ∙ default_layout layouts c.loop-of.of c.index-layouts-of.result (omega (arith, c.loop-of-test.true, c.len-of-end.ensures, c.requires.laid_out))) (ap (λ (row : ZoneRow). row.shape.element) c.zone_row-class.ensures) (ap (λ (zones : List ℕ). slice_index zones c.loop-of.of) c.as_slice-zones.ensures) c.in_ok-write_type.ensures)
