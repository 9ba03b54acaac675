use Rattle.std.proofs.Common.{take}
use Rattle.kz_model.specs.Grammar.Tokens.{texts}
use Rattle.kz_layout.specs.Tables.{ArePlaces}
use Rattle.kz_layout.proofs.places.Places.of.Given as goal

-- the map has the first place of each name so far
abbrev pub invariant-loop-place : goal.invariant-loop-place
invariant-loop-place l = ArePlaces l.places (texts (take l.place l.fn.names.items))
