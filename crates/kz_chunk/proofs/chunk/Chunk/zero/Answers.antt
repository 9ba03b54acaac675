use Rattle.std.proofs.Common.{replicate, ℕ, arith}
use Rattle.std.proofs.lemmas.List.{length-replicate}
use Rattle.kz_chunk.specs.Chunk.{first_of}
use Rattle.kz_chunk.proofs.Pieces.{element_ends, write_seen}
use Rattle.kz_chunk.proofs.chunk.Chunk.zero.Goals as goal

pub returns : goal.returns
returns c =
    write_seen (λ shape. first_of shape c.args.index) (λ shape. replicate shape.element 0) _ _ _ _ c.self.inside.frames c.zero_over.new.frames c.args.self.now c.self.view_is c.self.invariant c.requires.mapped
    (omega (arith, length-replicate {A = ℕ} c.args.self.now.shape.element 0, element_ends c.args.self.now.shape c.args.index c.requires.within)) c.zero_over.ensures.bytes
