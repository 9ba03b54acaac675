use Rattle.kz_machine.specs.Left.{IsLeft, rounds_after}
use Rattle.kz_machine.proofs.running.play_rounds.Given as goal

abbrev pub invariant-loop-round : goal.invariant-loop-round
invariant-loop-round l = IsLeft l.bundle l.plan l.machine (rounds_after l.bundle l.round)
