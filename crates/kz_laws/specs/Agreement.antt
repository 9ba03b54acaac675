-- What two runs agree on at a zone.
use Rattle.std.specs.Prelude.{◌≡◌, ℕ, Bool, true, false, ◌+◌, ◌==◌, not, if◌then◌else◌, List, [], ◌∷◌, map}
use Rattle.std.specs.List.{filter}
use Rattle.kz_model.specs.declared.step.Step.{Step}
use Rattle.kz_model.specs.declared.step.Step.TheVariants.{Alloc, AllocZero, Free, Give, Take, Read, Write, Flush, Trim}
use Rattle.kz_model.specs.declared.supply.Answer.{Answer}
use Rattle.kz_model.specs.declared.supply.Answer.TheVariants.{Base, Given, NoSpace, NoFrames, Taken}
use Rattle.kz_model.specs.Zone.Alone.{Course}
use Rattle.kz_model.specs.Zone.State.{Chunk, ZoneState}
use Rattle.kz_laws.specs.Renaming.{renamed_steps, renamed_course}

-- an answer with 0 for the page of a Base
abbrev pub without_page : Answer → Answer
without_page (Base page) = Base 0
without_page Given = Given
without_page (NoSpace left) = NoSpace left
without_page (NoFrames free) = NoFrames free
without_page Taken = Taken

-- the names in a step
abbrev pub names_in_step : Step → List ℕ
names_in_step (Alloc name) = name ∷ []
names_in_step (AllocZero name) = name ∷ []
names_in_step (Free name asked) = name ∷ []
names_in_step (Give name to) = name ∷ []
names_in_step (Take name) = name ∷ []
names_in_step (Read name off len) = name ∷ []
names_in_step (Write name off bytes) = name ∷ []
names_in_step Flush = []
names_in_step Trim = []

-- the different names of steps, in the order in which they first appear
abbrev pub onto_names : List ℕ → List ℕ → List ℕ
onto_names [] names = names
onto_names (name ∷ more) names = name ∷ filter (λ other. not (other == name)) (onto_names more names)

abbrev pub first_names : List (ℕ × Step) → List ℕ
first_names [] = []
first_names (step ∷ steps) = onto_names (names_in_step step.1) (first_names steps)

-- a name's place among these, and for a name that is not there a number of its own
abbrev pub number_in : List ℕ → ℕ → ℕ
number_in [] name = name
number_in (first ∷ names) name = if name == first then 0 else 1 + number_in names name

-- steps with names numbered as they first appear
abbrev pub numbered : List (ℕ × Step) → List (ℕ × Step)
numbered steps = renamed_steps (number_in (first_names steps)) steps

-- the course with names so numbered, and answers without pages
abbrev pub numbered_course : List (ℕ × Step) → Course → Course
numbered_course steps c = record (renamed_course (number_in (first_names steps)) c) { left = map without_page c.left }

abbrev pub chunks_of : ZoneState → List Chunk
chunks_of state = state.shared.chunks

-- two courses answer equally, and have the same chunks at each place
pub record AreAlike (c d : Course) : Type 0 where
  pub replies : c.replies ≡ d.replies
  pub asks : c.asks ≡ d.asks
  pub before : map chunks_of c.before ≡ map chunks_of d.before
  pub end : chunks_of c.end ≡ chunks_of d.end

-- no answer is a refusal
abbrev pub is_granted : Answer → Bool
is_granted (NoSpace left) = false
is_granted (NoFrames free) = false
is_granted answer = true

abbrev pub AreGranted : List Answer → Type 0
AreGranted [] = Unit {0}
AreGranted (answer ∷ answers) = (is_granted answer ≡ true) × AreGranted answers
