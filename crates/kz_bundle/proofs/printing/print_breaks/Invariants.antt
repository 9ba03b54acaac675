use Rattle.std.proofs.Common.{◌≡◌, ◌-◌, ◌++◌, replicate}
use Rattle.kz_model.specs.Grammar.Form.{Break}
use Rattle.kz_bundle.specs.Printing.{lines_text}
use Rattle.kz_bundle.proofs.printing.print_breaks.Given as goal

-- what is written, and the lines that are left
abbrev pub invariant-loop : goal.invariant-loop
invariant-loop l = l.out.items ++ lines_text (replicate (l.count - l.counter) Break) ≡ l.fn.out.items ++ lines_text (replicate l.count Break)
