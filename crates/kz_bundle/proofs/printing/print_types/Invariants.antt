use Rattle.std.proofs.Common.{◌≡◌, ◌++◌, drop, map}
use Rattle.kz_model.specs.Grammar.Form.{Declares}
use Rattle.kz_bundle.specs.Printing.{lines_text}
use Rattle.kz_bundle.proofs.printing.print_types.Given as goal

-- what is written, and the lines that are left
abbrev pub invariant-loop-at : goal.invariant-loop-at
invariant-loop-at l = l.out.items ++ lines_text (map Declares (drop l.at l.types)) ≡ l.fn.out.items ++ lines_text (map Declares l.types)
