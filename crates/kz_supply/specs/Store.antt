-- What a supply has left.
use Rattle.std.specs.Prelude.{ℕ, List, length, All, ◌≡◌, ◌+◌, ◌<◌, ◌≤◌}
use Rattle.kz_model.specs.Run.Supply.{Stock}
use Rattle.kz_frame.specs.Frames.{zero_frame}

-- the frames that there were, the pages of each submap, what is left of them, and how many of the free frames were
-- never made
pub record Store : Type 0 where
  pub frames : ℕ
  pub pages : ℕ
  pub left : Stock
  pub unmade : ℕ

-- So many frames are at hand. Where none is unmade this says nothing: all free frames are at hand then, however few.
abbrev pub IsEnough : ℕ → ℕ → Stock → Type 0
IsEnough count unmade left = 0 < unmade → count + unmade ≤ left.free

-- the frames at hand are zero, with the unmade ones they are no more than there were, there is room for all that were
-- made to come back, and no cursor is past the pages
pub record IsStore (frames pages unmade capacity : ℕ) (free : List (List ℕ)) (cursors : List ℕ) : Type 0 where
  pub room : frames ≤ capacity + unmade
  pub few : length free + unmade ≤ frames
  pub zero : All (λ frame. frame ≡ zero_frame) free
  pub inside : All (λ cursor. cursor ≤ pages) cursors
