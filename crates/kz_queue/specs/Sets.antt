-- For each place the set of the ordinals that stand there.
use Rattle.std.specs.Prelude.{◌≡◌, ℕ, ◌*◌, ◌^◌, ◌<◌, ◌≤◌, ◌&&◌, nat_lt, Bool, List, length, slice_index_or}
use Rattle.kz_queue.specs.Ordinals.{has}
use Rattle.kz_queue.specs.Shelf.{is_place}
use Rattle.kz_queue.specs.declared.place.Place.{Place}
use Rattle.kz_queue.specs.declared.place.Place.TheVariants.{Part, Whole, Out, Gone}
use Rattle.kz_queue.specs.declared.sets.Sets.{Sets}

abbrev pub set_of : Sets → Place → List ℕ
set_of sets Part = sets.part
set_of sets Whole = sets.whole
set_of sets Out = sets.out
set_of sets Gone = sets.gone

-- each set has room for so many ordinals
abbrev pub HaveRoom : Sets → ℕ → Type 0
HaveRoom sets room = (place : Place) → room ≤ 64 * length (set_of sets place)

-- an ordinal stands at this place
abbrev pub stands : List Place → Place → ℕ → Bool
stands places place ordinal = nat_lt ordinal (length places) && is_place place (slice_index_or places ordinal Gone)

-- each set has just the ordinals at its place
abbrev pub AreSets : Sets → List Place → Type 0
AreSets sets places = (place : Place) (ordinal : ℕ) → ordinal < 64 * length (set_of sets place) →
    has (set_of sets place) ordinal ≡ stands places place ordinal

-- What a shelf keeps.
pub record IsShelf (room capacity : ℕ) (places : List Place) (sets : Sets) : Type 0 where
  pub most : room < 2 ^ 32
  pub fit : length places ≤ room
  pub enough : room ≤ capacity
  pub have_room : HaveRoom sets room
  pub are_sets : AreSets sets places
