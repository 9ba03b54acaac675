use Rattle.std.proofs.Common.{MatchOption}
use Rattle.kz_plan.specs.Sharing.{IsNextClass, AreFull}
use Rattle.kz_plan.proofs.division.next_class.Given as goal

-- what is known of the classes so far
abbrev pub invariant-loop-class : goal.invariant-loop-class
invariant-loop-class l = MatchOption l.next (AreFull l.counts l.parts l.class) (λ i. IsNextClass l.counts l.parts l.class i)
