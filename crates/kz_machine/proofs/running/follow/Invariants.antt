use Rattle.std.proofs.Common.{drop}
use Rattle.kz_machine.specs.Left.{IsLeft}
use Rattle.kz_machine.proofs.running.follow.Given as goal

abbrev pub invariant-loop-line : goal.invariant-loop-line
invariant-loop-line l = IsLeft l.bundle l.plan l.machine (drop l.line-index l.lines)
