-- Laws over stays.
use Rattle.std.specs.Prelude.{◌≡◌, ℕ, ◌<◌, ◌==◌, if◌then◌else◌, List, [], ◌∷◌, length, map, Some}
use Rattle.std.specs.List.{All, flat_map, range_with_len, zip}
use Rattle.std.specs.List.Sorted.{IsNonDecreasing}
use Rattle.kz_model.specs.declared.bundle.Bundle.{Bundle}
use Rattle.kz_model.specs.declared.record.Plan.{Plan}
use Rattle.kz_model.specs.declared.record.Visit.{Visit}
use Rattle.kz_model.specs.declared.bundle.TraceStep.{TraceStep}
use Rattle.kz_model.specs.declared.step.Reply.{Reply}
use Rattle.kz_model.specs.declared.step.Step.{Step}
use Rattle.kz_model.specs.declared.record.ZoneParams.{ZoneParams}
use Rattle.kz_model.specs.declared.supply.SupplyEntry.{SupplyEntry}
use Rattle.kz_model.specs.Text.Report.{answered_lines}
use Rattle.kz_model.specs.Run.Recorded.{zone_mapped}
use Rattle.kz_model.specs.Run.Supply.{supply_answers}
use Rattle.kz_model.specs.Run.Journal.{params_of, steps_of, log_at, addressed, lines_of_round}
use Rattle.kz_model.specs.Run.Runs.{IsRun, needs_along, Carries, SettlesLast, ask_rounds, rounds_at}
use Rattle.kz_model.specs.Zone.State.{ZoneState, opening, cpu_part}
use Rattle.kz_model.specs.Zone.Alone.{Course, course}
use Rattle.kz_laws.specs.declared.stays.Stay.{Stay}
use Rattle.kz_laws.specs.Stays.{AreStays, HaveSteps, stays_told, part_left, stays_by, visits_in, steps_in, entries_in, asks_in, answers_in, rounds_in, steps_made_by, replies_in, replies_made_to}

-- The course of all steps of stays: it ends where the stays end, its asks are theirs, and its steps need visits as they
-- say.
pub record IsCourseOf (p : ZoneParams) (state : ZoneState) (stays : List Stay) (end : ZoneState)
    (made : Course) : Type 0 where
  pub made_is : course p state (steps_in stays) (answers_in (entries_in stays)) ≡ Some made
  pub used : made.left ≡ []
  pub is_end : made.end ≡ end
  pub replied : made.replies ≡ replies_in stays
  pub asked : flat_map (λ asks. asks) made.asks ≡ asks_in (entries_in stays)
  pub carries : Carries (visits_in stays) (needs_along p (steps_in stays) made.before)
  pub asked_in_round : ask_rounds (visits_in stays) made.asks ≡ rounds_in stays

-- Stays one after the other make such a course.
abbrev pub StaysMakeCourses : Type 0
StaysMakeCourses = (p : ZoneParams) (state end : ZoneState) (stays : List Stay) → AreStays p state stays end →
    (made : Course) × IsCourseOf p state stays end made

-- What a CPU has after stays is what its own last one left it.
abbrev pub StaysLeaveParts : Type 0
StaysLeaveParts = (p : ZoneParams) (state end : ZoneState) (cpu : ℕ) (stays : List Stay) → AreStays p state stays end →
    cpu_part end cpu ≡ part_left (cpu_part state cpu) (stays_by cpu stays)

-- Visits and entries tell the stays that made them.
abbrev pub VisitsTellStays : Type 0
VisitsTellStays =
    (p : ZoneParams) (steps : List Visit → Visit → List Step) (state end : ZoneState) (earlier : List Visit)
    (stays : List Stay) → AreStays p state stays end → HaveSteps steps earlier stays →
    stays_told p steps state earlier (visits_in stays) (entries_in stays) ≡ stays

-- ---- the run that stays make

-- the journals that the stays of all zones leave
abbrev pub journals_of : Plan → (ℕ → List Stay) → List (List Visit)
journals_of plan stays = map (λ zone. visits_in (stays zone)) (range_with_len 0 (length plan.zones))

-- The stays in one zone begin at its opening, their rounds do not fall, each CPU's steps of each round are carried once
-- and in order, and their entries are those of the zone in the log.
pub record AreStaysAt (b : Bundle) (plan : Plan) (log : List SupplyEntry) (rounds : List ℕ) (zone : ℕ)
    (stays : List Stay) (end : ZoneState) : Type 0 where
  pub alone : AreStays (params_of b plan zone) (opening (params_of b plan zone)) stays end
  pub in_rounds : IsNonDecreasing (map (λ v. v.round) (visits_in stays))
  pub settles : SettlesLast (visits_in stays)
  pub steps : (cpu round : ℕ) → steps_made_by cpu round stays ≡ steps_of b plan cpu zone round
  pub entries : entries_in stays ≡ log_at zone log
  pub timed : rounds_in stays ≡ rounds_at zone (zip log rounds)

-- The stays in all zones, and the supply's log with the round of each entry.
pub record AreStaysOfRun (b : Bundle) (plan : Plan) (stays : ℕ → List Stay) (ends : ℕ → ZoneState)
    (log : List SupplyEntry) (rounds : List ℕ) : Type 0 where
  pub of_zones : All (λ entry. entry.zone < length plan.zones) log
  pub answered : map (λ entry. entry.answer) log ≡ supply_answers b.frames b.pages (map (λ entry. entry.ask) log)
  pub one_round_each : length rounds ≡ length log
  pub rounds_rise : IsNonDecreasing rounds
  pub each : (zone : ℕ) → zone < length plan.zones → AreStaysAt b plan log rounds zone (stays zone) (ends zone)

-- Stays make a run.
abbrev pub StaysMakeRuns : Type 0
StaysMakeRuns =
    (b : Bundle) (plan : Plan) (stays : ℕ → List Stay) (ends : ℕ → ZoneState) (log : List SupplyEntry)
    (rounds : List ℕ) → AreStaysOfRun b plan stays ends log rounds → IsRun b plan (journals_of plan stays) log

-- ---- what the report says of the lines

-- of the replies to these lines, those to lines that are addressed to the zone
abbrev pub replies_among : Bundle → Plan → ℕ → List TraceStep → List Reply → List Reply
replies_among b plan zone [] replies = []
replies_among b plan zone (line ∷ lines) [] = []
replies_among b plan zone (line ∷ lines) (reply ∷ replies) =
    if (addressed b plan line.act).0 == zone
    then reply ∷ replies_among b plan zone lines replies
    else replies_among b plan zone lines replies

-- A CPU's lines of a round had these replies: one each, and in each zone they are those of its stays.
pub record AreReplies (b : Bundle) (plan : Plan) (stays : ℕ → List Stay) (cpu round : ℕ)
    (replies : List Reply) : Type 0 where
  pub long : length replies ≡ length (lines_of_round b cpu round)
  pub zones : All (λ line. (addressed b plan line.act).0 < length plan.zones) (lines_of_round b cpu round)
  pub each : (zone : ℕ) → zone < length plan.zones →
      replies_among b plan zone (lines_of_round b cpu round) replies ≡ replies_made_to cpu round (stays zone)

-- Such replies are those that the report gives to the lines, and its chunks are those of the stays' ends.
abbrev pub StaysAnswer : Type 0
StaysAnswer =
    (b : Bundle) (plan : Plan) (stays : ℕ → List Stay) (ends : ℕ → ZoneState) (log : List SupplyEntry)
    (rounds : List ℕ) → AreStaysOfRun b plan stays ends log rounds →
    ((cpu round : ℕ) (replies : List Reply) → AreReplies b plan stays cpu round replies →
    map (λ line. line.reply) (answered_lines b plan (journals_of plan stays) log cpu round) ≡ replies) ×
    ((zone : ℕ) → zone < length plan.zones → zone_mapped b plan (journals_of plan stays) log zone
    ≡ map (λ chunk. chunk.mapped) (ends zone).shared.chunks)
