use Rattle.std.proofs.Common.{◌≡◌, ◌++◌, drop}
use Rattle.std.specs.List.{flat_map, enumerate_from}
use Rattle.kz_model.specs.Grammar.Spelling.{cpu_lines}
use Rattle.kz_bundle.specs.Printing.{lines_text}
use Rattle.kz_bundle.proofs.printing.print_sections.Given as goal

-- what is written, and the sections that are left
abbrev pub invariant-loop-cpu : goal.invariant-loop-cpu
invariant-loop-cpu l =
    l.out.items ++ lines_text (flat_map (cpu_lines l.bundle) (enumerate_from l.cpu (drop l.cpu l.trace-items)))
    ≡ l.fn.out.items ++ lines_text (flat_map (cpu_lines l.bundle) (enumerate_from 0 l.trace-items))
