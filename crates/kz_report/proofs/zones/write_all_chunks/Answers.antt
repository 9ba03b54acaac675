use Rattle.std.proofs.Common.{◌≡◌, ◌++◌, length, [], map, ap, arith, ◌∙◌}
use Rattle.std.specs.List.{enumerate_from, flat_map, range_with_len}
use Rattle.kz_model.specs.Text.Report.{chunk_line, zone_chunks}
use Rattle.kz_model.specs.Text.Lines.{text_of_lines}
use Rattle.kz_report.proofs.BasePages.{are_bases}
use Rattle.kz_report.proofs.Lookups.{item_is}
use Rattle.kz_report.proofs.PlanText.{more_lines}
use Rattle.kz_report.proofs.Reportable.{chunks_written}
use Rattle.kz_report.proofs.zones.write_all_chunks.Goals as goal

pub loop-zone-preserved : goal.loop-zone-preserved
loop-zone-preserved c =
    let zone = c.loop-zone.zone in
    let b = c.args.given.now.bundle.now in
    let plan = c.args.given.now.plan.now in
    let made = c.args.made.now in
    let h = c.requires.record in
    let mapped = item_is made.mapped c.as_slice.result.now zone c.index-as_slice-zone.result [] (omega (arith, h.answered.zones, c.loop-zone-test.true, c.len-zone-end.ensures)) c.as_slice.ensures c.index-as_slice-zone.is in
    more_lines (λ zone. map (chunk_line b plan made.supply zone) (enumerate_from 0 (zone_chunks b plan made.visits made.supply zone))) zone (c.args.out.now.items) (c.loop-zone.out.items) (c.write_chunks.new.out.items) c.loop-zone.invariant
    (chunks_written b plan made c.args.given.now.pages.now zone c.zone_row-row.result c.of_zone.result.now c.as_slice-mapped.result.now (c.loop-zone.out.items) (c.write_chunks.new.out.items) h (omega (arith, c.loop-zone-test.true, c.len-zone-end.ensures))
    (are_bases (length plan.zones) made.supply c.args.given.now.pages.now c.requires.pages h.run.of_zones) c.zone_row-row.ensures c.of_zone.ensures (c.as_slice-mapped.ensures ∙ mapped) c.in_ok-write_chunks.ensures)

pub returns : goal.returns
returns c =
    let given = c.args.given.now in
    let made = c.args.made.now in
    let all : c.loop-zone.zone ≡ length given.plan.now.zones = omega (arith, c.loop-zone-test.false, c.loop-zone.auto.zone-end, c.len-zone-end.ensures) in
    c.loop-zone.invariant
    ∙ ap
    (λ n. c.args.out.now.items ++ text_of_lines (flat_map (λ zone. map (chunk_line given.bundle.now given.plan.now made.supply zone) (enumerate_from 0 (zone_chunks given.bundle.now given.plan.now made.visits made.supply zone))) (range_with_len 0 n)))
    all
