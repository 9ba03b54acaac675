use Rattle.std.proofs.Common.{◌≡◌, ◌+◌, ◌≤◌, sum}
use Rattle.kz_plan.specs.Sharing.{IsInOrder}
use Rattle.kz_plan.proofs.division.give.Given as goal

-- the parts stay in order, and each zone given is one more
abbrev pub invariant-loop-left : goal.invariant-loop-left
invariant-loop-left l = record {
  in_order : IsInOrder l.counts l.parts;
  at_most : l.left ≤ l.zones;
  total : sum l.parts + l.left ≡ sum l.initial.parts + l.zones;
}

abbrev pub decreases-loop-left : goal.decreases-loop-left
decreases-loop-left l = l.left
