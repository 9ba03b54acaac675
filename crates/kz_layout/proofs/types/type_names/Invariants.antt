use Rattle.std.proofs.Common.{◌≡◌, take}
use Rattle.kz_model.specs.Types.Layouts.{names_of}
use Rattle.kz_model.specs.Grammar.Tokens.{texts}
use Rattle.kz_layout.proofs.types.type_names.Given as goal

-- the names so far
abbrev pub invariant-loop-decl : goal.invariant-loop-decl
invariant-loop-decl l = texts l.names.items ≡ names_of (take l.decl-index l.types)
