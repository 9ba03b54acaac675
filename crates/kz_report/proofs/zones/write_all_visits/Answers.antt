use Rattle.std.proofs.Common.{[], slice_index_or, arith, ◌∙◌}
use Rattle.kz_model.specs.Text.Report.{zone_visits_lines}
use Rattle.kz_report.proofs.Lookups.{item_is}
use Rattle.kz_report.proofs.PlanText.{more_lines}
use Rattle.kz_report.proofs.Reportable.{visits_written}
use Rattle.kz_report.proofs.zones.write_all_visits.Goals as goal

pub loop-zone-preserved : goal.loop-zone-preserved
loop-zone-preserved c =
    let zone = c.loop-zone.zone in
    let b = c.args.bundle.now in
    let plan = c.args.plan.now in
    let made = c.args.made.now in
    let visits = item_is made.visits c.as_slice.result.now zone c.index-as_slice-zone.result [] (omega (arith, c.requires.run.one_journal_each, c.loop-zone-test.true, c.len-zone-end.ensures)) c.as_slice.ensures c.index-as_slice-zone.is in
    more_lines (λ zone. zone_visits_lines b zone (slice_index_or made.visits zone [])) zone (c.args.out.now.items) (c.loop-zone.out.items) (c.write_visits.new.out.items) c.loop-zone.invariant
    (visits_written b plan made zone c.as_slice-in-loop-zone.result.now (c.loop-zone.out.items) (c.write_visits.new.out.items) c.requires (omega (arith, c.loop-zone-test.true, c.len-zone-end.ensures)) (c.as_slice-in-loop-zone.ensures ∙ visits) c.in_ok-write_visits.ensures)
