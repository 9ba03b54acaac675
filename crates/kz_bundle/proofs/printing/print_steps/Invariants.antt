use Rattle.std.proofs.Common.{◌≡◌, ◌++◌, drop}
use Rattle.kz_model.specs.Grammar.Spelling.{section_lines}
use Rattle.kz_bundle.specs.Printing.{lines_text}
use Rattle.kz_bundle.proofs.printing.print_steps.Given as goal

-- what is written, and the lines that are left
abbrev pub invariant-loop-at : goal.invariant-loop-at
invariant-loop-at l = l.out.items ++ lines_text (section_lines l.bundle l.round (drop l.at l.trace)) ≡ l.fn.out.items ++ lines_text (section_lines l.bundle 0 l.trace)
