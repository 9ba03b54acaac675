use Rattle.std.proofs.Common.{◌≡◌, drop}
use Rattle.kz_model.specs.Types.Plan.{signatures}
use Rattle.kz_model.specs.Grammar.Tokens.{texts}
use Rattle.kz_plan.proofs.Signatures.{signatures_with}
use Rattle.kz_plan.proofs.grouping.signatures.Given as goal

-- what the set has, with the signatures of the types that are left, are all
abbrev pub invariant-loop-layout : goal.invariant-loop-layout
invariant-loop-layout l = signatures_with (texts l.distinct.keys) (drop l.layout-index l.layouts) l.class ≡ signatures l.layouts l.class
