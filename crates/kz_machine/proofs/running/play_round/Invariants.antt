use Rattle.std.proofs.Common.{◌+◌, ◌++◌}
use Rattle.kz_machine.specs.Left.{IsLeft, turns_from, rounds_after}
use Rattle.kz_machine.proofs.running.play_round.Given as goal

abbrev pub invariant-loop-cpu : goal.invariant-loop-cpu
invariant-loop-cpu l = IsLeft l.bundle l.plan l.machine (turns_from l.bundle l.round l.cpu ++ rounds_after l.bundle (l.round + 1))
