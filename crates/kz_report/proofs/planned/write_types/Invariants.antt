use Rattle.std.proofs.Common.{◌≡◌, ◌++◌, map}
use Rattle.std.specs.List.{range_with_len}
use Rattle.std.specs.String.{string_bytes}
use Rattle.kz_model.specs.Text.Lines.{text_of_lines}
use Rattle.kz_report.specs.Lines.{type_line_of}
use Rattle.kz_report.proofs.planned.write_types.Given as goal

-- the lines so far are written
abbrev pub invariant-loop-of : goal.invariant-loop-of
invariant-loop-of l = string_bytes l.out ≡ string_bytes l.fn.out ++ text_of_lines (map (type_line_of l.bundle l.plan l.layouts) (range_with_len 0 l.of))
