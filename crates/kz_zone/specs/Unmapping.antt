-- What a trim leaves of the chunks.
use Rattle.std.specs.Prelude.{ℕ, if◌then◌else◌, List, map}
use Rattle.kz_model.specs.Zone.State.{Chunk, no_chunk}
use Rattle.kz_model.specs.Zone.Pick.{is_whole}

-- the chunks after each that is wholly idle is unmapped
abbrev pub unmapped_chunks : ℕ → List Chunk → List Chunk
unmapped_chunks count chunks = map (λ chunk. if is_whole count chunk then no_chunk else chunk) chunks
