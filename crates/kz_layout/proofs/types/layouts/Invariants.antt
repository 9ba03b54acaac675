use Rattle.std.proofs.Common.{◌≡◌, take}
use Rattle.kz_model.specs.Types.Layouts.{names_of}
use Rattle.kz_layout.specs.Laid.{HasLaidOut}
use Rattle.kz_layout.proofs.types.layouts.Given as goal

-- the types so far are laid out
abbrev pub invariant-loop-at : goal.invariant-loop-at
invariant-loop-at l = record {
  named : l.layouter.names ≡ names_of l.types;
  laid : HasLaidOut l.layouter (take l.at l.types);
}
