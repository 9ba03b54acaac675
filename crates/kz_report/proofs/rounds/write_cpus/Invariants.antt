use Rattle.std.proofs.Common.{◌≡◌, ◌++◌}
use Rattle.std.specs.List.{flat_map, range_with_len}
use Rattle.kz_model.specs.Text.Report.{cpu_lines}
use Rattle.kz_model.specs.Text.Lines.{text_of_lines}
use Rattle.kz_report.proofs.rounds.write_cpus.Given as goal

-- the sections so far are written
abbrev pub invariant-loop-cpu : goal.invariant-loop-cpu
invariant-loop-cpu l = l.out.items ≡ l.fn.out.items ++ text_of_lines (flat_map (cpu_lines l.given.bundle.now l.given.plan.now l.made.visits l.made.supply) (range_with_len 0 l.cpu))
