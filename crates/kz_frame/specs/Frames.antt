-- Frames of memory, and the bytes of several joined.
use Rattle.std.specs.Prelude.{ℕ, ◌+◌, List, ◌++◌, length, take, drop, replicate, map, All, Option, Some, ◌≡◌}
use Rattle.std.specs.List.{flat_map, filter_map}

-- a frame whose bytes are all 0
abbrev pub zero_frame : List ℕ
zero_frame = replicate 4096 0

-- so many of them
abbrev pub zero_frames : ℕ → List (List ℕ)
zero_frames count = replicate count zero_frame

-- the bytes of frames, one after another
abbrev pub joined : List (List ℕ) → List ℕ
joined frames = flat_map (λ frame. frame) frames

-- a list with these items in place of those from here on
abbrev pub written : ℕ → List ℕ → List ℕ → List ℕ
written at bytes old = take at old ++ bytes ++ drop (at + length bytes) old

-- the frames at the places that have one
abbrev pub present : List (Option (List ℕ)) → List (List ℕ)
present places = filter_map (λ place. place) places

-- these frames stand in these places, each of 4096 bytes
pub record IsPack (places : List (Option (List ℕ))) (frames : List (List ℕ)) : Type 0 where
  pub places_are : places ≡ map Some frames
  pub sizes : All (λ frame. length frame ≡ 4096) frames
