use Rattle.kz_chunk.proofs.Pieces.{idle_few}
use Rattle.kz_chunk.proofs.chunk.Chunk.idle.Goals as goal

pub returns-clause-few : goal.returns-clause-few
returns-clause-few c = idle_few _ _ _ _ _ _ c.self.view_is c.self.invariant
