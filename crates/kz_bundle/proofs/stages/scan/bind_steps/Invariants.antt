use Rattle.std.proofs.Common.{◌≡◌, map, take, fold}
use Rattle.kz_model.specs.Grammar.Stages.{with_row, of_cpu}
use Rattle.kz_bundle.specs.Parts.{line_meant}
use Rattle.kz_bundle.proofs.stages.scan.bind_steps.Given as goal

abbrev pub invariant-loop-at : goal.invariant-loop-at
invariant-loop-at l = l.rows ≡ record l.fn.rows { rows = fold with_row l.fn.rows.rows (of_cpu l.cpu (map (line_meant l.fn.rows.names l.fn.rows.words) (take l.at l.steps))) }
