-- A chunk as contracts see it.
use Rattle.std.specs.Prelude.{ℕ, ◌+◌, ◌*◌, ◌<◌, ◌≤◌, true, List, take, drop}
use Rattle.std.specs.List.{range_with_len}
use Rattle.kz_model.specs.declared.record.Geometry.{Geometry}
use Rattle.kz_model.specs.Zone.State.{Chunk as State}
use Rattle.kz_model.specs.Zone.Rules.{with_number, written}
use Rattle.kz_frame.specs.Frames.{joined}

-- its shape, its first page in its submap, its state (whether it is mapped, its idle elements and its bytes), and the
-- bytes of its frames that stand behind its elements
pub record Chunk : Type 0 where
  pub shape : Geometry
  pub base : ℕ
  pub state : State
  pub slack : List ℕ

-- a chunk mapped with these frames: all elements are idle, and the bytes are the frames'
abbrev pub mapped_with : Geometry → List (List ℕ) → State
mapped_with shape frames =
    record {
      mapped = true;
      idle = range_with_len 0 shape.count;
      bytes =
          take (shape.count * shape.element) (joined frames);
    }

-- the bytes of these frames behind the elements
abbrev pub slack_of : Geometry → List (List ℕ) → List ℕ
slack_of shape frames = drop (shape.count * shape.element) (joined frames)

-- where the bytes of an element begin
abbrev pub first_of : Geometry → ℕ → ℕ
first_of shape index = index * shape.element

-- the state with an element idle, and with these bytes in place of those from a place on
abbrev pub with_idle_element : ℕ → State → State
with_idle_element index state = record state { idle = with_number index state.idle }

abbrev pub with_bytes_at : ℕ → List ℕ → State → State
with_bytes_at at bytes state = record state { bytes = written at bytes state.bytes }

-- some bytes of an element lie in it
pub record IsInside (shape : Geometry) (index off len : ℕ) : Type 0 where
  pub element : index < shape.count
  pub within : off + len ≤ shape.element
