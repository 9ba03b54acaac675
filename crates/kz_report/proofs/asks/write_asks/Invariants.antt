use Rattle.std.proofs.Common.{◌≡◌, ◌++◌, take, map}
use Rattle.kz_model.specs.Text.Lines.{ask_line, text_of_lines}
use Rattle.kz_report.proofs.asks.write_asks.Given as goal

-- the lines so far are written
abbrev pub invariant-loop-entry : goal.invariant-loop-entry
invariant-loop-entry l = l.out.items ≡ l.fn.out.items ++ text_of_lines (map ask_line (take l.entry-index l.log))
