-- When visits and a supply's log are a run of a bundle.
use Rattle.std.specs.Prelude.{◌≡◌, ◌≢◌, ◌==◌, ℕ, ◌-◌, ◌<◌, ◌≤◌, Bool, true, false, if◌then◌else◌, List, [], ◌∷◌, ◌++◌, length, take, drop, map, replicate, slice_index_or, Some, IsTrue}
use Rattle.std.specs.List.{All, flat_map, filter, zip}
use Rattle.std.specs.List.Sorted.{IsNonDecreasing}
use Rattle.kz_model.specs.declared.bundle.Bundle.{Bundle}
use Rattle.kz_model.specs.declared.step.Step.{Step}
use Rattle.kz_model.specs.declared.record.Plan.{Plan}
use Rattle.kz_model.specs.declared.record.ZoneParams.{ZoneParams}
use Rattle.kz_model.specs.declared.record.Visit.{Visit}
use Rattle.kz_model.specs.declared.supply.SupplyEntry.{SupplyEntry}
use Rattle.kz_model.specs.declared.supply.Ask.{Ask}
use Rattle.kz_model.specs.Run.Supply.{supply_answers}
use Rattle.kz_model.specs.Zone.State.{ZoneState, cpu_part}
use Rattle.kz_model.specs.Zone.Rules.{needs_visit}
use Rattle.kz_model.specs.Zone.Alone.{Course, alone}
use Rattle.kz_model.specs.Run.Journal.{params_of, steps_of, carried, spell, asks_at, answers_at}

-- which steps need a visit, each in the state before it
abbrev pub needs_along : ZoneParams → List (ℕ × Step) → List ZoneState → List Bool
needs_along p steps before =
    map (λ pair. needs_visit p (cpu_part pair.1 pair.0.0) pair.0.1) (zip steps before)

-- in a visit the last step alone needs one, in a settled visit none
abbrev pub needs_within : Visit → List Bool
needs_within v =
    if v.settled then replicate v.count false else replicate (v.count - 1) false ++ true ∷ []

-- the visits carry these steps, each at least one
abbrev pub Carries : List Visit → List Bool → Type 0
Carries [] needs = needs ≡ []
Carries (v ∷ visits) needs =
    (1 ≤ v.count) × (take v.count needs ≡ needs_within v) × Carries visits (drop v.count needs)

-- after a settled visit no other visit of its round is unsettled or of its CPU
abbrev pub SettlesLast : List Visit → Type 0
SettlesLast [] = Unit {0}
SettlesLast (v ∷ visits) =
    (IsTrue v.settled → All (λ w. w.round ≡ v.round → IsTrue w.settled × (w.cpu ≢ v.cpu)) visits) × SettlesLast visits

-- the round of each ask: that of the visit whose step made it
abbrev pub ask_rounds : List Visit → List (List Ask) → List ℕ
ask_rounds [] asks = []
ask_rounds (v ∷ visits) asks =
    replicate (length (flat_map (λ made. made) (take v.count asks))) v.round ++ ask_rounds visits (drop v.count asks)

-- the rounds of the entries of a zone, where each entry of the log has a round
abbrev pub rounds_at : ℕ → List (SupplyEntry × ℕ) → List ℕ
rounds_at zone entries = map (λ pair. pair.1) (filter (λ pair. pair.0.zone == zone) entries)

-- one zone's journal is in order, and the zone alone gives what it asked
pub record IsRunAt (b : Bundle) (plan : Plan) (visits : List Visit) (log : List SupplyEntry) (rounds : List ℕ)
    (zone : ℕ) (steps : List (ℕ × Step)) (made : Course) : Type 0 where
  pub in_rounds : IsNonDecreasing (map (λ v. v.round) visits)
  pub complete : (cpu round : ℕ) → carried cpu round visits ≡ length (steps_of b plan cpu zone round)
  pub carries : Carries visits (needs_along (params_of b plan zone) steps made.before)
  pub settles : SettlesLast visits
  pub alone : alone (params_of b plan zone) steps (answers_at zone log) ≡ Some made
  pub asked : flat_map (λ asks. asks) made.asks ≡ asks_at zone log
  pub asked_in_round : rounds_at zone (zip log rounds) ≡ ask_rounds visits made.asks

-- Visits by zone and a supply's log are a run of the bundle.
pub record IsRun (b : Bundle) (plan : Plan) (journals : List (List Visit)) (log : List SupplyEntry) : Type 0 where
  pub one_journal_each : length journals ≡ length plan.zones
  pub of_zones : All (λ entry. entry.zone < length plan.zones) log
  pub answered : map (λ entry. entry.answer) log ≡ supply_answers b.frames b.pages (map (λ entry. entry.ask) log)
  pub rounds : List ℕ
  pub one_round_each : length rounds ≡ length log
  pub rounds_rise : IsNonDecreasing rounds
  pub steps : ℕ → List (ℕ × Step)
  pub made : ℕ → Course
  pub spelled : (zone : ℕ) → zone < length plan.zones → spell b plan journals zone ≡ Some (steps zone)
  pub each : (zone : ℕ) → zone < length plan.zones →
      IsRunAt b plan (slice_index_or journals zone []) log rounds zone (steps zone) (made zone)
