-- Blocks that are out: elements of mapped chunks, none of which is idle.
use Rattle.std.specs.Prelude.{◌+◌, ◌≤◌, List}
use Rattle.kz_model.specs.declared.step.Block.{Block}
use Rattle.kz_model.specs.declared.record.ZoneParams.{ZoneParams}
use Rattle.kz_model.specs.Zone.State.{Chunk, chunk_at}
use Rattle.kz_model.specs.Zone.Whole.{times, times_idle, due}

-- each of these blocks stands here once, and is an element of a mapped chunk that is not idle
abbrev pub AreOut : ZoneParams → List Chunk → List Block → Type 0
AreOut p chunks blocks =
    (block : Block) → times block blocks
    + times_idle block.index (chunk_at chunks block.chunk).idle ≤ due p chunks block
