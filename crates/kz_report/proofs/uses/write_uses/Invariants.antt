use Rattle.std.proofs.Common.{◌≡◌, ◌++◌, map}
use Rattle.std.specs.List.{range_with_len}
use Rattle.kz_model.specs.Text.Report.{use_line, all_answered_lines}
use Rattle.kz_model.specs.Text.Lines.{text_of_lines}
use Rattle.kz_report.proofs.uses.write_uses.Given as goal

-- the lines so far are written
abbrev pub invariant-loop-of : goal.invariant-loop-of
invariant-loop-of l =
    l.out.items ≡ l.fn.out.items ++ text_of_lines (map (use_line l.bundle (all_answered_lines l.bundle l.plan l.made.visits l.made.supply)) (range_with_len 0 l.of))
