-- A shelf of chunks, each at a place, by their ordinals.
use Rattle.std.specs.Prelude.{ℕ, Bool, true, false, List, Option}
use Rattle.std.specs.List.{position}
use Rattle.kz_queue.specs.declared.place.Place.{Place}
use Rattle.kz_queue.specs.declared.place.Place.TheVariants.{Part, Whole, Out, Gone}

-- for how many ordinals there is room, and the place of each ordinal
pub record Shelf : Type 0 where
  pub room : ℕ
  pub places : List Place

abbrev pub is_place : Place → Place → Bool
is_place Part Part = true
is_place Whole Whole = true
is_place Out Out = true
is_place Gone Gone = true
is_place place other = false

-- the lowest ordinal at this place
abbrev pub lowest_at : Place → List Place → Option ℕ
lowest_at place places = position (is_place place) places
