use Rattle.std.proofs.Common.{◌∙◌, arith}
use Rattle.std.proofs.lemmas.List.{take-replicate}
use Rattle.kz_frame.specs.Frames.{joined}
use Rattle.kz_chunk.proofs.Pieces.{zero_more}
use Rattle.kz_chunk.proofs.bytes.zero_over.Goals as goal

pub loop-done-preserved : goal.loop-done-preserved
loop-done-preserved c =
    let l = c.loop-done in
    let old = joined c.args.frames.now in
    record {
      most = omega (arith, c.min-count.ensures);
      bytes = zero_more c.args.at l.done c.min-count.result _ old (joined l.frames) (joined c.write_over.new.frames) (take-replicate c.min-count.result 512 0 (omega (arith, c.min-count.ensures)))
          (omega (arith, l.invariant.most, c.requires.inside, c.requires.whole)) l.invariant.bytes c.write_over.ensures.bytes;
      frames = c.write_over.ensures.frames ∙ l.invariant.frames;
    }
