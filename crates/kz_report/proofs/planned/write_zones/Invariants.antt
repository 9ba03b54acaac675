use Rattle.std.proofs.Common.{◌≡◌, ◌++◌, map, take}
use Rattle.std.specs.List.{enumerate_from}
use Rattle.std.specs.String.{string_bytes}
use Rattle.kz_model.specs.Text.Lines.{text_of_lines}
use Rattle.kz_report.specs.Lines.{numbered_zone_line}
use Rattle.kz_report.proofs.planned.write_zones.Given as goal

-- the lines so far are written
abbrev pub invariant-loop-zone : goal.invariant-loop-zone
invariant-loop-zone l = string_bytes l.out ≡ string_bytes l.fn.out ++ text_of_lines (map numbered_zone_line (enumerate_from 0 (take l.zone l.zones)))
