use Rattle.std.proofs.Common.{◌-◌, length}
use Rattle.kz_frame.proofs.Loops.{IsRead}
use Rattle.kz_frame.proofs.over.read_over.Given as goal

abbrev pub invariant-loop-done : goal.invariant-loop-done
invariant-loop-done l = IsRead l.frames l.at l.done l.into

abbrev pub decreases-loop-done : goal.decreases-loop-done
decreases-loop-done l = length l.initial.into - l.done
