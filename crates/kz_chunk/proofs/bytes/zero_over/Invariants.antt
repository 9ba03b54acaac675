use Rattle.std.proofs.Common.{◌≡◌, ◌≤◌, ◌-◌, length, replicate}
use Rattle.kz_frame.specs.Frames.{joined, written}
use Rattle.kz_chunk.proofs.bytes.zero_over.Given as goal

-- so many bytes are 0
abbrev pub invariant-loop-done : goal.invariant-loop-done
invariant-loop-done l = record {
  most : l.done ≤ l.len;
  bytes : joined l.frames ≡ written l.at (replicate l.done 0) (joined l.fn.frames);
  frames : length l.frames ≡ length l.fn.frames;
}

abbrev pub decreases-loop-done : goal.decreases-loop-done
decreases-loop-done l = l.len - l.done
