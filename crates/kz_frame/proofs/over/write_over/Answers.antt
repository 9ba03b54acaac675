use Rattle.std.proofs.Common.{◌+◌, ◌/◌, ◌%◌, ℕ, take, drop, slice_index_or, slice_set, [], ◌∙◌, ap, arith}
use Rattle.std.proofs.Math.Nat.{add-sub_cancel_left}
use Rattle.kz_frame.specs.Frames.{written}
use Rattle.kz_frame.proofs.Loops.{write_more}
use Rattle.kz_frame.proofs.over.write_over.Goals as goal

pub loop-done-preserved : goal.loop-done-preserved
loop-done-preserved c =
    let place = c.args.at + c.loop-done.done in let frames = c.loop-done.frames in let same = c.loop-done.invariant.frames in
    let new = c.write.ensures.frames
    ∙ ap (λ (n : ℕ). slice_set frames (place / 4096) (written (place % 4096) (take n (drop c.loop-done.done c.args.from.now)) (slice_index_or frames (place / 4096) []))) (add-sub_cancel_left c.loop-done.done c.min-count.result) in
    write_more c.args.frames.now frames c.write.new.self c.args.at c.loop-done.done c.min-count.result c.args.from.now c.write.ensures.sizes
    (record { room = omega arith; more = c.loop-done-test.true; count_is = c.min-count.ensures }) c.loop-done.invariant new
