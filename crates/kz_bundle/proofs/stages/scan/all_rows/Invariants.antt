use Rattle.std.proofs.Common.{◌≡◌, map, take}
use Rattle.kz_model.specs.Grammar.Stages.{rows_of, lines_from}
use Rattle.kz_model.specs.Grammar.Tokens.{texts}
use Rattle.kz_bundle.specs.Parts.{section_meant}
use Rattle.kz_bundle.proofs.stages.scan.all_rows.Given as goal

abbrev pub invariant-loop-cpu : goal.invariant-loop-cpu
invariant-loop-cpu l = l.rows ≡ record { names = texts l.names; words = texts l.words; rows = rows_of (lines_from 0 (map (section_meant (texts l.names) (texts l.words)) (take l.cpu l.sections))) }
