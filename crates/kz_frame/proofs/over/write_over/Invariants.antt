use Rattle.std.proofs.Common.{◌-◌, length}
use Rattle.kz_frame.proofs.Loops.{IsWritten}
use Rattle.kz_frame.proofs.over.write_over.Given as goal

abbrev pub invariant-loop-done : goal.invariant-loop-done
invariant-loop-done l = IsWritten l.initial.frames l.frames l.at l.done l.from

abbrev pub decreases-loop-done : goal.decreases-loop-done
decreases-loop-done l = length l.from - l.done
