-- The text is written whole, or in part.
use Rattle.std.proofs.Common.{ℕ, List, length, subst, ap, arith}
use Rattle.std.specs.Io.KnownBytes.{Appends}
use Rattle.kz_text.specs.Streams.{AppendsFront}
use Rattle.kz_top.proofs.Outcomes.{finished_written, finished_cut_off}
use Rattle.kz_top.proofs.call.finish.Goals as goal

pub returns-in-Ok-clause-done : goal.returns-in-Ok-clause-done
returns-in-Ok-clause-done g c =
    let P : List ℕ → Type 0 = λ text. Appends (g.K.Sink.taken c.args.out.now) (g.K.Sink.taken c.write_whole.new.sink) text in
    finished_written _ _ _ _ _ _ _ c.in-Ok-Ok.text.items (rw c.in-Ok-Ok.field-0-is at c.in-Ok-Ok.ensures) (subst P c.as_slice.ensures.value c.in-Ok.ensures.ok)
    (λ fits. (c.in-Ok.ensures.sure (omega (arith, fits, ap (λ (text : List ℕ). length text) c.as_slice.ensures.value))).1)

pub returns-clause-done : goal.returns-clause-done
returns-clause-done g c =
    let P : List ℕ → Type 0 = λ text. AppendsFront (g.K.Sink.taken c.args.out.now) (g.K.Sink.taken c.write_whole.new.sink) text in
    finished_cut_off _ _ _ _ _ _ _ c.in-Ok-Ok.text.items (rw c.in-Ok-Ok.field-0-is at c.in-Ok-Ok.ensures) (subst P c.as_slice.ensures.value c.in-Err-write_whole.ensures.err) c.in-Err-write_whole.ensures.cause
    (λ fits. let impossible = (c.in-Err-write_whole.ensures.sure (omega (arith, fits, ap (λ (text : List ℕ). length text) c.as_slice.ensures.value))).0 in cc)
