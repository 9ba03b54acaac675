use Rattle.std.proofs.Common.{◌≡◌, ◌-◌, ◌++◌, map}
use Rattle.kz_model.specs.Grammar.Form.{Does}
use Rattle.kz_model.specs.Text.Made.{names_count, names_allocated}
use Rattle.kz_bundle.specs.Printing.{lines_text}
use Rattle.kz_make.proofs.sections.write_allocations.Given as goal

-- what is written, and the names that are left
abbrev pub invariant-loop-k : goal.invariant-loop-k
invariant-loop-k l = l.out.items ++ lines_text (map Does (names_allocated l.cpu l.k (names_count - l.k))) ≡ l.fn.out.items ++ lines_text (map Does (names_allocated l.cpu 0 names_count))
