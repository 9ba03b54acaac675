use Rattle.std.proofs.Common.{ap, sym, ◌∙◌}
use Rattle.kz_chunk.specs.Chunk.{Chunk}
use Rattle.kz_chunk.proofs.Pieces.{map_keeps}
use Rattle.kz_chunk.proofs.chunk.Chunk.map.Goals as goal

pub invariant_of-self : goal.invariant_of-self
invariant_of-self c =
    map_keeps c.self.inside.shape c.fill.new.idle.items c.args.frames c.self.invariant.shape c.fill.ensures c.len.ensures.sizes (c.requires.frames ∙ sym (ap (λ (now : Chunk). now.shape.pages) c.self.view_is))
