use Rattle.std.proofs.Common.{◌≡◌, ◌+◌, ◌-◌, ◌%◌, ℕ, List, length, take, drop, ◌∙◌, ap₂, arith}
use Rattle.std.proofs.Math.Nat.{add-sub_cancel_left}
use Rattle.std.proofs.lemmas.List.{length-take-le, length-drop}
use Rattle.std.proofs.lemmas.Slice.{take-put_mid}
use Rattle.kz_frame.proofs.Loops.{IsStep, read_more, at_most, length-put_mid}
use Rattle.kz_frame.proofs.over.read_over.Goals as goal

pub loop-done-preserved : goal.loop-done-preserved
loop-done-preserved c =
    let at = c.args.at in let done = c.loop-done.done in let into = c.loop-done.into in let count = c.min-count.result in
    let offset = (at + done) % 4096 in
    let long : length into ≡ length c.args.into.now = c.loop-done.auto.into in
    let part = c.copy_from_slice.ensures.after ∙ ap₂ (λ (n : ℕ) (bytes : List ℕ). take n (drop offset bytes)) (add-sub_cancel_left offset count) (c.bytes-bytes.ensures.bytes ∙ c.frame.ensures.frame) in
    let step : IsStep at done count (length into) (length c.args.frames.now) = record { room = omega arith; more = omega arith; count_is = c.min-count.ensures } in
    let most = at_most at done count _ _ step in
    let size = c.copy_from_slice.ensures.len ∙ length-take-le (done + count - done) (drop done into) (omega (arith, length-drop done into)) in
    read_more c.args.frames.now at done count into _ c.copy_from_slice.new.self c.frame.ensures.sizes step c.loop-done.invariant part
    (length-put_mid done (done + count - done) into c.copy_from_slice.new.self size (omega arith))
    (take-put_mid done (done + count - done) into c.copy_from_slice.new.self (done + count) (omega (arith, size)) c.loop-done.invariant.most)
