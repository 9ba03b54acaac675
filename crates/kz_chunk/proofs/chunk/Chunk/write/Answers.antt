use Rattle.std.proofs.Common.{◌+◌, ap, ◌∙◌, arith}
use Rattle.kz_frame.specs.Frames.{joined, written}
use Rattle.kz_chunk.specs.Chunk.{first_of}
use Rattle.kz_chunk.proofs.Pieces.{element_ends, write_seen}
use Rattle.kz_chunk.proofs.chunk.Chunk.write.Goals as goal

pub returns : goal.returns
returns c =
    write_seen (λ shape. first_of shape c.args.index + c.args.off) (λ shape. c.args.bytes.now) _ _ _ _ c.self.inside.frames c.write_over.new.frames c.args.self.now c.self.view_is c.self.invariant c.requires.mapped
    (omega (arith, c.requires.inside.within, element_ends c.args.self.now.shape c.args.index c.requires.inside.element)) (c.write_over.ensures.bytes ∙ ap (λ bytes. written (first_of c.self.inside.shape c.args.index + c.args.off) bytes (joined c.self.inside.frames)) c.as_slice.ensures)
