-- Picks from chunks, by the words that are left of a stream.
use Rattle.std.specs.Prelude.{ℕ, zero, suc, ◌%◌, List, [], ◌∷◌, slice_set, Option}
use Rattle.std.specs.Option.{option_map_or}
use Rattle.rand_pcg.specs.Lcg.{Lcg}
use Rattle.kz_model.specs.declared.step.Block.{Block}
use Rattle.kz_model.specs.Zone.Words.{word_of, rest_of}
use Rattle.kz_model.specs.Zone.State.{Chunk, chunk_at}
use Rattle.kz_model.specs.Zone.Pick.{chunk_to_pick, element_to_pick, without_idle}

-- the picked blocks, and the chunks and the words that are left
pub record Picked : Type 0 where
  pub blocks : List Block
  pub chunks : List Chunk
  pub words : Option Lcg

-- the block of a chunk that the next word picks
abbrev pub block_by : ℕ → List Chunk → Option Lcg → ℕ → Block
block_by count chunks words ordinal =
    record { chunk = ordinal; index = element_to_pick count (word_of words % count) (chunk_at chunks ordinal).idle }

-- the chunks with a block no longer idle
abbrev pub without_block : Block → List Chunk → List Chunk
without_block block chunks =
    slice_set chunks block.chunk (without_idle block.index (chunk_at chunks block.chunk))

-- the picks with one more before them
abbrev pub with_first : Block → Picked → Picked
with_first block rest = record rest { blocks = block ∷ rest.blocks }

-- up to n picks
abbrev pub picked : ℕ → ℕ → List Chunk → Option Lcg → Picked
picked count zero chunks words = record { blocks = []; chunks = chunks; words = words }
picked count (suc n) chunks words =
    option_map_or (λ ordinal. let block = block_by count chunks words ordinal in
    with_first block (picked count n (without_block block chunks) (rest_of words))) (chunk_to_pick count chunks)
    (record { blocks = []; chunks = chunks; words = words })
