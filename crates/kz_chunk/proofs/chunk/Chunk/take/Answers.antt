use Rattle.std.proofs.Common.{ap, ◌∙◌}
use Rattle.kz_chunk.specs.Chunk.{Chunk}
use Rattle.kz_chunk.proofs.Pieces.{taken_keeps}
use Rattle.kz_chunk.proofs.chunk.Chunk.take.Goals as goal

pub invariant_of-self : goal.invariant_of-self
invariant_of-self c =
    taken_keeps c.self.inside.shape c.self.inside.mapped c.self.inside.idle.items c.take_nearest.new.idle.items c.self.inside.frames c.take_nearest.result c.self.invariant (ap (λ (now : Chunk). now.state.mapped) c.self.view_is ∙ c.requires)
    (c.take_nearest.ensures.rest c.self.inside.shape.count c.self.invariant.rises)
