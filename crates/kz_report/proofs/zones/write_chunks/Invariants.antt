use Rattle.std.proofs.Common.{◌≡◌, ◌++◌, map, take}
use Rattle.std.specs.List.{enumerate_from}
use Rattle.kz_model.specs.Text.Lines.{text_of_lines}
use Rattle.kz_report.specs.Lines.{mapped_line}
use Rattle.kz_report.proofs.zones.write_chunks.Given as goal

-- the lines so far are written
abbrev pub invariant-loop-chunk : goal.invariant-loop-chunk
invariant-loop-chunk l = l.out.items ≡ l.fn.out.items ++ text_of_lines (map (mapped_line l.zone l.row l.pages) (enumerate_from 0 (take l.chunk l.mapped)))
