-- The chunks of a zone as contracts see them, and what their fields keep.
use Rattle.std.specs.Prelude.{◌≡◌, ℕ, ◌≤◌, List, length, map}
use Rattle.std.specs.List.{All}
use Rattle.kz_model.specs.declared.record.Geometry.{Geometry}
use Rattle.kz_model.specs.declared.record.ZoneParams.{ZoneParams}
use Rattle.kz_model.specs.Zone.State.{Chunk as State, chunk_at}
use Rattle.kz_model.specs.Zone.Whole.{IsChunk}
use Rattle.kz_chunk.specs.Chunk.{Chunk}
use Rattle.kz_queue.specs.Shelf.{Shelf}
use Rattle.kz_zone.specs.Room.{AreFitParams}
use Rattle.kz_zone.specs.Zone.{place_of}

-- the zone's parameters, for how many chunks there is room, the chunks by ordinal, and their first pages
pub record Chunks : Type 0 where
  pub params : ZoneParams
  pub most : ℕ
  pub chunks : List State
  pub bases : List ℕ

abbrev pub states_of : List Chunk → List State
states_of chunks = map (λ chunk. chunk.state) chunks

abbrev pub bases_of : List Chunk → List ℕ
bases_of chunks = map (λ chunk. chunk.base) chunks

-- the shape of a zone's chunks
abbrev pub shape_of : ZoneParams → Geometry
shape_of p = record { element = p.element; count = p.count; pages = p.pages }

-- chunks of one zone, in a row of this capacity, with a shelf that has the place of each
pub record AreChunks (p : ZoneParams) (most capacity : ℕ) (chunks : List Chunk) (shelf : Shelf) : Type 0 where
  pub fit : AreFitParams p
  pub few : length chunks ≤ most
  pub most_chunks : most ≤ 4096
  pub enough : most ≤ capacity
  pub shelf_room : shelf.room ≡ most
  pub places : shelf.places ≡ map (place_of p.count) (states_of chunks)
  pub shapes : All (λ chunk. chunk.shape ≡ shape_of p) chunks
  pub kept : (ordinal : ℕ) → IsChunk p (chunk_at (states_of chunks) ordinal)
