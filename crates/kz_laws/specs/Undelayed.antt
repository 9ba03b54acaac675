-- The lines of an order that are addressed to a zone, undelayed, beside the zone's journal so far.
use Rattle.std.specs.Prelude.{◌≡◌, ℕ, ◌<◌, ◌==◌, ◌&&◌, if◌then◌else◌, List, [], ◌∷◌, ◌++◌, length, map, slice_index, slice_index_or, Some}
use Rattle.std.specs.List.{flat_map}
use Rattle.kz_model.specs.declared.bundle.Bundle.{Bundle}
use Rattle.kz_model.specs.declared.bundle.OrderLine.{OrderLine}
use Rattle.kz_model.specs.declared.bundle.OrderLine.TheVariants.{Cpu, Round}
use Rattle.kz_model.specs.declared.step.Step.{Step}
use Rattle.kz_model.specs.declared.step.Reply.{Reply}
use Rattle.kz_model.specs.declared.record.Plan.{Plan}
use Rattle.kz_model.specs.Zone.Alone.{Course, alone}
use Rattle.kz_model.specs.Run.Journal.{params_of, addressed, lines_of_round, spell, answers_at, alone_at}
use Rattle.kz_model.specs.Zone.Late.{AnswersAlike, answered_by}
use Rattle.kz_model.specs.Text.Report.{replies_carried, zone_replies}
use Rattle.kz_model.specs.Run.Order.{Progress, late, next_line, order_step}

-- a CPU's next step, where it is addressed to the zone
abbrev pub next_there : Bundle → Plan → ℕ → Progress → ℕ → List (ℕ × Step)
next_there b plan zone g cpu =
    let there = addressed b plan (next_line b cpu g).act in if there.0 == zone then (cpu, there.1) ∷ [] else []

-- the zone's steps of these lines of the order, as they come
abbrev pub lines_at : Bundle → Plan → ℕ → Progress → List OrderLine → List (ℕ × Step)
lines_at b plan zone g [] = []
lines_at b plan zone g (Cpu cpu ∷ lines) = next_there b plan zone g cpu
    ++ lines_at b plan zone (order_step b plan g (Cpu cpu)) lines
lines_at b plan zone g (Round ∷ lines) = lines_at b plan zone (order_step b plan g Round) lines

-- the round and the CPU of each of these
abbrev pub places_at : Bundle → Plan → ℕ → Progress → List OrderLine → List (ℕ × ℕ)
places_at b plan zone g [] = []
places_at b plan zone g (Cpu cpu ∷ lines) = map (λ step. (g.round, step.0)) (next_there b plan zone g cpu)
    ++ places_at b plan zone (order_step b plan g (Cpu cpu)) lines
places_at b plan zone g (Round ∷ lines) = places_at b plan zone (order_step b plan g Round) lines

-- the replies to a CPU's lines of a round, among the replies at these places
abbrev pub replies_at : ℕ → ℕ → List (ℕ × ℕ) → List Reply → List Reply
replies_at cpu round [] replies = []
replies_at cpu round (place ∷ places) [] = []
replies_at cpu round (place ∷ places) (reply ∷ replies) =
    if (place.1 == cpu) && (place.0 == round) then reply ∷ replies_at cpu round places replies
    else replies_at cpu round places replies

-- a line is of a CPU that has a line left in its round, addressed to a zone of the plan
abbrev pub IsNextLine : Bundle → Plan → Progress → OrderLine → Type 0
IsNextLine b plan g (Cpu cpu) =
    (cpu < b.cpus) × (slice_index g.done cpu < length (lines_of_round b cpu g.round)) ×
    ((addressed b plan (next_line b cpu g).act).0 < length plan.zones)
IsNextLine b plan g Round = Unit {0}

abbrev pub AreNextLines : Bundle → Plan → Progress → List OrderLine → Type 0
AreNextLines b plan g [] = Unit {0}
AreNextLines b plan g (line ∷ lines) = IsNextLine b plan g line × AreNextLines b plan (order_step b plan g line) lines

-- The zone's lines so far, undelayed, and its journal so far: with the answers of the log the same asks and replies,
-- and the same state but for what is late.
pub record IsAlikeAt (b : Bundle) (plan : Plan) (g : Progress) (zone : ℕ) (lines : List (ℕ × Step)) : Type 0 where
  pub steps : List (ℕ × Step)
  pub undelayed : Course
  pub delayed : Course
  pub spelled : spell b plan g.journals zone ≡ Some steps
  pub alike : AnswersAlike (params_of b plan zone) lines steps (λ cpu. late b plan g cpu zone)
      (answers_at zone g.log) undelayed delayed
  pub used : undelayed.left ≡ []

-- The zone's lines of a whole order, undelayed, and its journal in the run: each alone, with the answers of the log,
-- makes the same asks, ends in the same state, and answers each line alike.
pub record IsSameAt (b : Bundle) (plan : Plan) (run : Progress) (zone : ℕ) (lines : List (ℕ × Step))
    (places : List (ℕ × ℕ)) : Type 0 where
  pub steps : List (ℕ × Step)
  pub undelayed : Course
  pub delayed : Course
  pub spelled : spell b plan run.journals zone ≡ Some steps
  pub undelayed_is : alone (params_of b plan zone) lines (answers_at zone run.log) ≡ Some undelayed
  pub delayed_is : alone_at b plan run.journals run.log zone ≡ Some delayed
  pub asks : flat_map (λ asks. asks) undelayed.asks ≡ flat_map (λ asks. asks) delayed.asks
  pub end : undelayed.end ≡ delayed.end
  pub replies : (cpu : ℕ) → cpu < b.cpus → answered_by cpu lines undelayed.replies
      ≡ answered_by cpu steps delayed.replies
  -- what the report reads for a CPU's round is the replies at its lines
  pub printed : (cpu round : ℕ) → replies_at cpu round places undelayed.replies
      ≡ replies_carried cpu round (slice_index_or run.journals zone []) (zone_replies b plan run.journals run.log zone)
