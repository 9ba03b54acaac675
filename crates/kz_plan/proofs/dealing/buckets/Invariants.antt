use Rattle.std.proofs.Common.{take}
use Rattle.kz_model.specs.Grammar.Tokens.{texts}
use Rattle.kz_plan.specs.Shown.{AreBuckets}
use Rattle.kz_plan.proofs.dealing.buckets.Given as goal

-- the map has the buckets of the signatures so far
abbrev pub invariant-loop-place : goal.invariant-loop-place
invariant-loop-place l = AreBuckets l.buckets l.fn.zones (texts (take l.place l.order))
