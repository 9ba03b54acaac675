-- What a chunk keeps of its parts.
use Rattle.std.specs.Prelude.{◌≡◌, ℕ, ◌*◌, ◌==◌, Bool, true, false, not, List, [], length, take}
use Rattle.std.specs.List.{filter}
use Rattle.kz_model.specs.declared.record.Geometry.{Geometry}
use Rattle.kz_model.specs.Zone.Whole.{Rises}
use Rattle.kz_frame.specs.Frames.{joined}
use Rattle.kz_model.specs.Types.Class.{IsFitGeometry}
use Rattle.kz_chunk.specs.Chunk.{Chunk, slack_of}

-- the elements but for this one
abbrev pub without : ℕ → List ℕ → List ℕ
without i elements = filter (λ j. not (j == i)) elements

-- the bytes of the elements of these frames
abbrev pub bytes_of : Geometry → List (List ℕ) → List ℕ
bytes_of shape frames = take (shape.count * shape.element) (joined frames)

-- a chunk of these parts
abbrev pub seen : Geometry → ℕ → Bool → List ℕ → List (List ℕ) → Chunk
seen shape base mapped idle frames =
    record {
      shape = shape;
      base = base;
      state =
          record { mapped = mapped; idle = idle; bytes = bytes_of shape frames };
      slack = slack_of shape frames;
    }

-- The idle elements rise below the count, and the frames are those of the pages while the chunk is mapped.
pub record IsSoundChunk (geometry : Geometry) (mapped : Bool) (idle : List ℕ) (frames : List (List ℕ)) : Type 0 where
  pub shape : IsFitGeometry geometry
  pub rises : Rises 0 geometry.count idle
  pub bytes : length (joined frames) ≡ 4096 * length frames
  pub pages : mapped ≡ true → length frames ≡ geometry.pages
  pub nothing : mapped ≡ false → (idle ≡ []) × (frames ≡ [])
