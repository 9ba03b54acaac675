use Rattle.std.proofs.Common.{◌≡◌, ◌++◌, map}
use Rattle.std.specs.List.{enumerate_from, flat_map, range_with_len}
use Rattle.kz_model.specs.Text.Report.{chunk_line, zone_chunks}
use Rattle.kz_model.specs.Text.Lines.{text_of_lines}
use Rattle.kz_report.proofs.zones.write_all_chunks.Given as goal

-- the zones so far are written
abbrev pub invariant-loop-zone : goal.invariant-loop-zone
invariant-loop-zone l =
    l.out.items
    ≡ l.fn.out.items ++ text_of_lines (flat_map (λ zone. map (chunk_line l.given.bundle.now l.given.plan.now l.made.supply zone) (enumerate_from 0 (zone_chunks l.given.bundle.now l.given.plan.now l.made.visits l.made.supply zone))) (range_with_len 0 l.zone))
