use Rattle.std.proofs.Common.{◌≡◌, map, take}
use Rattle.kz_model.specs.Grammar.Tokens.{texts}
use Rattle.kz_bundle.specs.Rows.{numbered_row}
use Rattle.kz_bundle.proofs.stages.entry.rows_of.Given as goal

abbrev pub invariant-loop-entry : goal.invariant-loop-entry
invariant-loop-entry l = l.rows ≡ map (numbered_row (texts l.names) l.types) (take l.entry-index l.entries)
