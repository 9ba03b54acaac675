use Rattle.std.proofs.Common.{◌≡◌, take}
use Rattle.kz_model.specs.Types.Layouts.{names_of}
use Rattle.kz_model.specs.Grammar.Tokens.{texts}
use Rattle.kz_bundle.proofs.stages.numbers.type_names.Given as goal

abbrev pub invariant-loop-at : goal.invariant-loop-at
invariant-loop-at l = texts l.names.items ≡ names_of (take l.at l.types)
