use Rattle.std.proofs.Common.{ℕ, List, map, take}
use Rattle.kz_bundle.specs.Parts.{section_meant}
use Rattle.kz_bundle.specs.Rounds.{AreTables}
use Rattle.kz_bundle.proofs.stages.rounds.tables_of.Given as goal

abbrev pub invariant-loop-section : goal.invariant-loop-section
invariant-loop-section l = (names words : List (List ℕ)) → AreTables l.tables.items (map (section_meant names words) (take l.section-index l.sections)) l.rounds
