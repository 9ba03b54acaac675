use Rattle.std.proofs.Common.{◌≡◌, ◌+◌, ◌++◌, drop, sum}
use Rattle.kz_model.specs.Types.Plan.{deals_from}
use Rattle.kz_plan.proofs.dealing.deals.Given as goal

-- the zones and the deals so far, with those that are left, are all
abbrev pub invariant-loop-place : goal.invariant-loop-place
invariant-loop-place l = record {
  zones : l.first + sum (drop l.place l.parts) ≡ sum l.parts;
  deals : l.deals.items ++ deals_from l.first (drop l.place l.groups) (drop l.place l.parts) ≡ deals_from 0 l.groups l.parts;
}
