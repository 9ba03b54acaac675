use Rattle.std.proofs.Common.{◌≡◌, ◌++◌, [], slice_index_or}
use Rattle.std.specs.List.{flat_map, range_with_len}
use Rattle.kz_model.specs.Text.Report.{zone_visits_lines}
use Rattle.kz_model.specs.Text.Lines.{text_of_lines}
use Rattle.kz_report.proofs.zones.write_all_visits.Given as goal

-- the zones so far are written
abbrev pub invariant-loop-zone : goal.invariant-loop-zone
invariant-loop-zone l = l.out.items ≡ l.fn.out.items ++ text_of_lines (flat_map (λ zone. zone_visits_lines l.bundle zone (slice_index_or l.made.visits zone [])) (range_with_len 0 l.zone))
