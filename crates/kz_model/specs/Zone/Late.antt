-- The steps of CPUs since their last visits to a zone, and the zone as if they had come in time.
use Rattle.std.specs.Prelude.{◌≡◌, ℕ, ◌<◌, ◌==◌, false, if◌then◌else◌, List, [], ◌∷◌, ◌++◌, length, map, Some}
use Rattle.std.specs.List.{fold, flat_map, range_with_len}
use Rattle.std.specs.Option.{option_map_or}
use Rattle.kz_model.specs.declared.step.Step.{Step}
use Rattle.kz_model.specs.declared.step.Reply.{Reply}
use Rattle.kz_model.specs.declared.record.ZoneParams.{ZoneParams}
use Rattle.kz_model.specs.declared.supply.Answer.{Answer}
use Rattle.kz_model.specs.Zone.State.{CpuPart, ZoneState, opening, cpu_part}
use Rattle.kz_model.specs.Zone.Rules.{needs_visit}
use Rattle.kz_model.specs.Zone.Alone.{Course, course}
use Rattle.kz_model.specs.Zone.Local.{local_answer, with_cpu_part}

-- none of these steps needs a visit, from what the CPU has
abbrev pub NeedNone : ZoneParams → CpuPart → List Step → Type 0
NeedNone p own [] = Unit {0}
NeedNone p own (step ∷ steps) = (needs_visit p own step ≡ false) × NeedNone p (local_answer p own step).own steps

-- what the CPU has after them
abbrev pub part_after : ZoneParams → CpuPart → List Step → CpuPart
part_after p own [] = own
part_after p own (step ∷ steps) = part_after p (local_answer p own step).own steps

-- its steps, each with the reply to it
abbrev pub answered_late : ZoneParams → CpuPart → List Step → List (Step × Reply)
answered_late p own [] = []
answered_late p own (step ∷ steps) = (step, (local_answer p own step).reply)
    ∷ answered_late p (local_answer p own step).own steps

-- the zone's state before each of them, with what the steps so far leave the CPU
abbrev pub states_late : ZoneParams → ZoneState → ℕ → List Step → List ZoneState
states_late p state cpu [] = []
states_late p state cpu (step ∷ steps) =
    state ∷ states_late p (with_cpu_part state cpu (local_answer p (cpu_part state cpu) step).own) cpu steps

-- The undelayed zone is the delayed one with each CPU's stack and names as its late steps leave them; none of those
-- needs a visit.
pub record IsDelayed (p : ZoneParams) (undelayed delayed : ZoneState) (late : ℕ → List Step) : Type 0 where
  pub shared : undelayed.shared ≡ delayed.shared
  pub cpus : length undelayed.own ≡ length delayed.own
  pub own : (cpu : ℕ) → cpu < length delayed.own → cpu_part undelayed cpu
      ≡ part_after p (cpu_part delayed cpu) (late cpu)
  pub none : (cpu : ℕ) → cpu < length delayed.own → NeedNone p (cpu_part delayed cpu) (late cpu)

-- a CPU's steps among these, each with the reply at its place
abbrev pub answered_by : ℕ → List (ℕ × Step) → List Reply → List (Step × Reply)
answered_by cpu [] replies = []
answered_by cpu (step ∷ steps) [] = []
answered_by cpu (step ∷ steps) (reply ∷ replies) =
    if step.0 == cpu then (step.1, reply) ∷ answered_by cpu steps replies else answered_by cpu steps replies

-- Lines of one zone in their order, and what visits made of them, with the same answers: the same asks, and each CPU's
-- lines have the same replies.
pub record AnswersAlike (p : ZoneParams) (lines made : List (ℕ × Step)) (late : ℕ → List Step) (answers : List Answer)
    (undelayed delayed : Course) : Type 0 where
  pub undelayed_is : course p (opening p) lines answers ≡ Some undelayed
  pub delayed_is : course p (opening p) made answers ≡ Some delayed
  pub left : undelayed.left ≡ delayed.left
  pub asks : flat_map (λ asks. asks) undelayed.asks ≡ flat_map (λ asks. asks) delayed.asks
  pub state : IsDelayed p undelayed.end delayed.end late
  pub replies : (cpu : ℕ) → cpu < p.cpus → answered_by cpu lines undelayed.replies
      ≡ answered_by cpu made delayed.replies ++ answered_late p (cpu_part delayed.end cpu) (late cpu)

-- ---- one zone in an order

-- the steps that visits made, in the order of the visits, and of each CPU the steps since its last visit
pub record Delay : Type 0 where
  pub made : List (ℕ × Step)
  pub late : ℕ → List Step

abbrev pub on_time : Delay
on_time = record { made = []; late = λ cpu. [] }

-- with these late steps of a CPU
abbrev pub with_late : ℕ → List Step → (ℕ → List Step) → ℕ → List Step
with_late cpu steps late other = if other == cpu then steps else late other

abbrev pub by_cpu : ℕ → List Step → List (ℕ × Step)
by_cpu cpu steps = map (λ step. (cpu, step)) steps

-- the zone's state after steps, with these answers
abbrev pub state_after : ZoneParams → List Answer → List (ℕ × Step) → ZoneState
state_after p answers steps = option_map_or (λ c. c.end) (course p (opening p) steps answers) (opening p)

-- a line in the state after what visits made and the CPU's late steps: a visit of these and of the line where it needs
-- one, else one more late step
abbrev pub delayed_line : ZoneParams → List Answer → Delay → ℕ × Step → Delay
delayed_line p answers d line =
    let late = by_cpu line.0 (d.late line.0) in
    if needs_visit p (cpu_part (state_after p answers (d.made ++ late)) line.0) line.1
    then record { made = d.made ++ (late ++ line ∷ []); late = with_late line.0 [] d.late }
    else record d { late = with_late line.0 (d.late line.0 ++ line.1 ∷ []) d.late }

-- a CPU settles its late steps
abbrev pub settled_late : Delay → ℕ → Delay
settled_late d cpu = record { made = d.made ++ by_cpu cpu (d.late cpu); late = with_late cpu [] d.late }

-- lines of one zone with visits where they are needed, and at the end all settle, CPUs rising
abbrev pub delayed_lines : ZoneParams → List Answer → List (ℕ × Step) → Delay
delayed_lines p answers lines = fold (delayed_line p answers) on_time lines

abbrev pub settled_lines : ZoneParams → List Answer → List (ℕ × Step) → Delay
settled_lines p answers lines = fold settled_late (delayed_lines p answers lines) (range_with_len 0 p.cpus)
