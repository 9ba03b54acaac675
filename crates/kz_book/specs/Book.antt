-- A zone with its journal, as contracts see it, and the histories that it keeps.
use Rattle.std.specs.Prelude.{◌≡◌, ℕ, ◌+◌, ◌<◌, ◌≤◌, ◌==◌, if◌then◌else◌, List, [], ◌∷◌, All, length, sum, Some, slice_index_or}
use Rattle.kz_model.specs.declared.record.Room.{Room}
use Rattle.kz_model.specs.declared.record.Visit.{Visit}
use Rattle.kz_model.specs.declared.record.ZoneParams.{ZoneParams}
use Rattle.kz_model.specs.declared.step.Step.{Step}
use Rattle.kz_model.specs.declared.supply.Answer.{Answer}
use Rattle.kz_model.specs.Zone.Alone.{Course, alone}
use Rattle.kz_model.specs.Run.Journal.{carried_of}
use Rattle.kz_model.specs.Zone.Whole.{IsWhole}
use Rattle.kz_zone.specs.Room.{IsFitRoom}
use Rattle.kz_zone.specs.Zone.{Zone, StandsFor}

-- the zone's steps in the order of its visits, each with its CPU, the supply's answers to it, and what the zone alone
-- makes of these
pub record History : Type 0 where
  pub steps : List (ℕ × Step)
  pub answers : List Answer
  pub made : Course

-- the room, the zone and the visits so far
pub record Book : Type 0 where
  pub room : Room
  pub zone : Zone
  pub visits : List Visit

abbrev pub params_of : Book → ZoneParams
params_of book = book.room.params

-- The book keeps this history: its zone is what the zone alone gives from these steps and answers.
pub record KeepsHistory (book : Book) (j : History) : Type 0 where
  pub alone : alone (params_of book) j.steps j.answers ≡ Some j.made
  pub params : book.zone.params ≡ params_of book
  pub shows : StandsFor book.zone j.made.end.shared
  pub whole : IsWhole (params_of book) j.made.end

-- what a visit leaves: the room, and for how many chunks and gifts the zone has room
pub record HasSameRoom (old new : Book) : Type 0 where
  pub room : new.room ≡ old.room
  pub most_chunks : new.zone.most_chunks ≡ old.zone.most_chunks
  pub most_gifts : new.zone.most_gifts ≡ old.zone.most_gifts

-- the journal has room for a visit of so many steps of a CPU
abbrev pub HasRoom : Book → ℕ → ℕ → Type 0
HasRoom book cpu count = carried_of cpu book.visits + count ≤ slice_index_or book.room.steps cpu 0

-- how many visits of a CPU there are
abbrev pub visits_of : ℕ → List Visit → ℕ
visits_of cpu [] = 0
visits_of cpu (v ∷ visits) = (if v.cpu == cpu then 1 else 0) + visits_of cpu visits

-- The visits are of the zone's CPUs and carry a step each, and there are no more steps and no more visits of a CPU than
-- the room says.
pub record AreWithinRoom (room : Room) (visits : List Visit) : Type 0 where
  pub cpus : All (λ v. v.cpu < length room.steps) visits
  pub some : All (λ v. 1 ≤ v.count) visits
  pub counts : (cpu : ℕ) → carried_of cpu visits ≤ slice_index_or room.steps cpu 0
  pub few : (cpu : ℕ) → visits_of cpu visits ≤ slice_index_or room.steps cpu 0

-- What each book keeps: its room is fit, and its visits are within it. So there is room for all that will come.
pub record IsWithin (room : Room) (visits : List Visit) (capacity : ℕ) : Type 0 where
  pub fit : IsFitRoom room
  pub within : AreWithinRoom room visits
  pub enough : sum room.steps ≤ capacity
