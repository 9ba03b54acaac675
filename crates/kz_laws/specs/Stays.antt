-- Stays of CPUs in a zone: each is a visit with its steps and with what the zone asked meanwhile.
use Rattle.std.specs.Prelude.{◌≡◌, ℕ, ◌-◌, ◌≤◌, ◌&&◌, ◌==◌, if◌then◌else◌, List, [], ◌∷◌, ◌++◌, length, take, drop, map, replicate, Some}
use Rattle.std.specs.List.{flat_map, filter}
use Rattle.std.specs.Option.{option_map_or}
use Rattle.kz_model.specs.declared.step.Reply.{Reply}
use Rattle.kz_model.specs.declared.step.Step.{Step}
use Rattle.kz_model.specs.declared.record.Visit.{Visit}
use Rattle.kz_model.specs.declared.record.ZoneParams.{ZoneParams}
use Rattle.kz_model.specs.declared.supply.SupplyEntry.{SupplyEntry}
use Rattle.kz_model.specs.declared.supply.Ask.{Ask}
use Rattle.kz_model.specs.declared.supply.Answer.{Answer}
use Rattle.kz_model.specs.Zone.State.{CpuPart, ZoneState, cpu_part}
use Rattle.kz_model.specs.Zone.Alone.{Course, course}
use Rattle.kz_model.specs.Zone.Late.{by_cpu}
use Rattle.kz_model.specs.Run.Runs.{needs_along, needs_within}
use Rattle.kz_laws.specs.declared.stays.Stay.{Stay}

-- ---- what a stay is in a journal and in a log

abbrev pub visit_in : Stay → Visit
visit_in s = record { round = s.round; cpu = s.cpu; count = length s.steps; settled = s.settled }

abbrev pub visits_in : List Stay → List Visit
visits_in stays = map visit_in stays

abbrev pub steps_in_stay : Stay → List (ℕ × Step)
steps_in_stay s = by_cpu s.cpu s.steps

abbrev pub steps_in : List Stay → List (ℕ × Step)
steps_in stays = flat_map steps_in_stay stays

abbrev pub entries_in : List Stay → List SupplyEntry
entries_in stays = flat_map (λ s. s.entries) stays

abbrev pub asks_in : List SupplyEntry → List Ask
asks_in entries = map (λ entry. entry.ask) entries

abbrev pub answers_in : List SupplyEntry → List Answer
answers_in entries = map (λ entry. entry.answer) entries

-- the round of each entry
abbrev pub rounds_in : List Stay → List ℕ
rounds_in stays = flat_map (λ s. replicate (length s.entries) s.round) stays

-- the steps of a CPU and round that the stays carry
abbrev pub steps_made_by : ℕ → ℕ → List Stay → List Step
steps_made_by cpu round [] = []
steps_made_by cpu round (s ∷ stays) =
    (if (s.cpu == cpu) && (s.round == round) then s.steps else []) ++ steps_made_by cpu round stays

abbrev pub replies_in : List Stay → List Reply
replies_in stays = flat_map (λ s. s.replies) stays

-- the replies to a CPU's steps of a round
abbrev pub replies_made_to : ℕ → ℕ → List Stay → List Reply
replies_made_to cpu round [] = []
replies_made_to cpu round (s ∷ stays) =
    (if (s.cpu == cpu) && (s.round == round) then s.replies else []) ++ replies_made_to cpu round stays

-- ---- what a CPU has

abbrev pub part_left_by : Stay → CpuPart
part_left_by s = record { stack = s.stack; names = s.names }

-- after stays of its own, the first of which began from this
abbrev pub part_left : CpuPart → List Stay → CpuPart
part_left own [] = own
part_left own (s ∷ stays) = part_left (part_left_by s) stays

abbrev pub stays_by : ℕ → List Stay → List Stay
stays_by cpu stays = filter (λ s. s.cpu == cpu) stays

-- ---- stays one after the other

-- The zone alone does the stay's steps from this state, with the answers that it got, to its asks. In a visit the last
-- step alone needs one, in a settled visit none.
pub record IsStay (p : ZoneParams) (before : ZoneState) (s : Stay) (made : Course) : Type 0 where
  pub some : 1 ≤ length s.steps
  pub made_is : course p before (steps_in_stay s) (answers_in s.entries) ≡ Some made
  pub used : made.left ≡ []
  pub replied : made.replies ≡ s.replies
  pub asked : flat_map (λ asks. asks) made.asks ≡ asks_in s.entries
  pub left : cpu_part made.end s.cpu ≡ part_left_by s
  pub needs : needs_along p (steps_in_stay s) made.before ≡ needs_within (visit_in s)

-- The stays lead from one state of the zone to the other.
abbrev pub AreStays : ZoneParams → ZoneState → List Stay → ZoneState → Type 0
AreStays p state [] end = state ≡ end
AreStays p state (s ∷ stays) end = (made : Course) × IsStay p state s made × AreStays p made.end stays end

-- ---- the stays that visits and entries tell

-- a visit of these steps, with this course, the first of these entries being its own
abbrev pub stay_told : Visit → List Step → List SupplyEntry → Course → Stay
stay_told v steps entries made =
    record {
      round = v.round;
      cpu = v.cpu;
      steps = steps;
      replies = made.replies;
      settled = v.settled;
      entries = take (length entries - length made.left) entries;
      stack = (cpu_part made.end v.cpu).stack;
      names = (cpu_part made.end v.cpu).names;
    }

-- the stays of these visits after the earlier ones, where each visit's steps are a function of those before it
abbrev pub stays_told : ZoneParams → (List Visit → Visit → List Step) → ZoneState → List Visit → List Visit →
    List SupplyEntry → List Stay
stays_told p steps state earlier [] entries = []
stays_told p steps state earlier (v ∷ visits) entries =
    option_map_or (λ made. stay_told v (steps earlier v) entries made
    ∷ stays_told p steps made.end (earlier ++ v ∷ []) visits (drop (length entries - length made.left) entries))
    (course p state (by_cpu v.cpu (steps earlier v)) (answers_in entries)) []

-- these stays are of such steps
abbrev pub HaveSteps : (List Visit → Visit → List Step) → List Visit → List Stay → Type 0
HaveSteps steps earlier [] = Unit {0}
HaveSteps steps earlier (s ∷ stays) =
    (steps earlier (visit_in s) ≡ s.steps) × HaveSteps steps (earlier ++ visit_in s ∷ []) stays
