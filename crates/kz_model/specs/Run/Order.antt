-- The run of an order: which visits and asks it makes.
use Rattle.std.specs.Prelude.{ℕ, true, false, zero, suc, nat_lt, ◌+◌, if◌then◌else◌, List, [], ◌∷◌, ◌++◌, length, take, drop, map, replicate, slice_index, slice_index_or, slice_set}
use Rattle.std.specs.List.{fold, flat_map, range_with_len, zip}
use Rattle.std.specs.Option.{option_map_or, unwrap_or}
use Rattle.kz_model.specs.declared.bundle.Bundle.{Bundle}
use Rattle.kz_model.specs.declared.bundle.OrderLine.{OrderLine}
use Rattle.kz_model.specs.declared.bundle.TraceStep.{TraceStep}
use Rattle.kz_model.specs.declared.bundle.OrderLine.TheVariants.{Cpu, Round}
use Rattle.kz_model.specs.declared.step.Step.{Step}
use Rattle.kz_model.specs.declared.bundle.Act.TheVariants as act
use Rattle.kz_model.specs.declared.record.Plan.{Plan}
use Rattle.kz_model.specs.declared.record.Visit.{Visit}
use Rattle.kz_model.specs.declared.supply.SupplyEntry.{SupplyEntry}
use Rattle.kz_model.specs.declared.supply.Ask.{Ask}
use Rattle.kz_model.specs.Zone.State.{ZoneState, opening, cpu_part}
use Rattle.kz_model.specs.Zone.Rules.{asks_of, needs_visit}
use Rattle.kz_model.specs.Zone.Alone.{course}
use Rattle.kz_model.specs.Run.Supply.{supply_answers}
use Rattle.kz_model.specs.Run.Journal.{params_of, addressed, lines_of_round, steps_among, spell, answers_at, carried}

-- ---- the order

-- in each round CPU 0 does its steps, then CPU 1, and so on
abbrev pub default_round : Bundle → ℕ → List OrderLine
default_round b round =
    flat_map (λ cpu. replicate (length (lines_of_round b cpu round)) (Cpu cpu)) (range_with_len 0 b.cpus)

-- the rounds from this one on, with a line between two
abbrev pub default_rounds : Bundle → ℕ → ℕ → List OrderLine
default_rounds b round zero = []
default_rounds b round (suc zero) = default_round b round
default_rounds b round (suc (suc more)) = default_round b round ++ Round ∷ default_rounds b (round + 1) (suc more)

abbrev pub order_of : Bundle → List OrderLine
order_of b = unwrap_or b.order (default_rounds b 0 b.rounds)

-- ---- the run

-- the visits of each zone, the supply's log, the round, and how many of its lines of the round each CPU has done
pub record Progress : Type 0 where
  pub journals : List (List Visit)
  pub log : List SupplyEntry
  pub round : ℕ
  pub done : List ℕ

abbrev pub opening_progress : Bundle → Plan → Progress
opening_progress b plan =
    record { journals = replicate (length plan.zones) []; log = []; round = 0; done = replicate b.cpus 0 }

-- the steps of a CPU on a zone since its last visit there
abbrev pub late : Bundle → Plan → Progress → ℕ → ℕ → List Step
late b plan g cpu zone =
    drop (carried cpu g.round (slice_index_or g.journals zone []))
    (steps_among b plan zone (take (slice_index g.done cpu) (lines_of_round b cpu g.round)))

-- the zone's state after its journal and the late steps of this CPU
abbrev pub state_with_late : Bundle → Plan → Progress → ℕ → ℕ → ZoneState
state_with_late b plan g cpu zone =
    let p = params_of b plan zone in
    let steps = unwrap_or (spell b plan g.journals zone) [] ++ map (λ step. (cpu, step)) (late b plan g cpu zone) in
    option_map_or (λ c. c.end) (course p (opening p) steps (answers_at zone g.log)) (opening p)

-- a zone's asks with the supply's answers after this log
abbrev pub answered : Bundle → ℕ → List SupplyEntry → List Ask → List SupplyEntry
answered b zone log asks =
    let answers = drop (length log) (supply_answers b.frames b.pages (map (λ entry. entry.ask) log ++ asks)) in
    map (λ pair. record { zone = zone; ask = pair.0; answer = pair.1 }) (zip asks answers)

-- one more visit at the end of a zone's journal
abbrev pub with_visit : ℕ → Visit → Progress → Progress
with_visit zone v g =
    record g { journals = slice_set g.journals zone (slice_index_or g.journals zone [] ++ v ∷ []) }

-- one more line of this CPU is done
abbrev pub counted : ℕ → Progress → Progress
counted cpu g = record g { done = slice_set g.done cpu (slice_index g.done cpu + 1) }

-- a visit that carries the late steps and this one, with its asks and their answers
abbrev pub visit_made : Bundle → Plan → ℕ → Progress → ℕ → Step → ZoneState → Progress
visit_made b plan cpu g zone step state =
    let visit : Visit = record {
      round = g.round;
      cpu = cpu;
      count = length (late b plan g cpu zone) + 1;
      settled =
          false;
    } in
    let asks = asks_of (params_of b plan zone) state.shared cpu (cpu_part state cpu) step in
    with_visit zone visit (record (counted cpu g) { log = g.log ++ answered b zone g.log asks })

-- a step in the zone's state after its journal and the late steps: a visit where it needs one, else one more late step
abbrev pub stepped : Bundle → Plan → ℕ → Progress → ℕ → Step → ZoneState → Progress
stepped b plan cpu g zone step state =
    if needs_visit (params_of b plan zone) (cpu_part state cpu) step
    then visit_made b plan cpu g zone step state
    else counted cpu g

-- CPU's next line
abbrev pub next_line : Bundle → ℕ → Progress → TraceStep
next_line b cpu g =
    slice_index_or (lines_of_round b cpu g.round) (slice_index g.done cpu)
    (record { line = 0; round = 0; act = act.Flush 0 })

-- CPU does its next step
abbrev pub one_step : Bundle → Plan → ℕ → Progress → Progress
one_step b plan cpu g =
    let there = addressed b plan (next_line b cpu g).act in
    stepped b plan cpu g there.0 there.1 (state_with_late b plan g cpu there.0)

-- CPU settles its late steps on a zone, if there are some
abbrev pub with_settling : Bundle → Plan → ℕ → Progress → ℕ → Progress
with_settling b plan cpu g zone =
    let count = length (late b plan g cpu zone) in
    if nat_lt 0 count
    then with_visit zone (record { round = g.round; cpu = cpu; count = count; settled = true }) g
    else g

-- at a round's end, CPUs rising, each settles on each zone
abbrev pub with_round_settled : Bundle → Plan → Progress → Progress
with_round_settled b plan g =
    fold (λ before cpu. fold (with_settling b plan cpu) before (range_with_len 0 (length plan.zones))) g
    (range_with_len 0 b.cpus)

abbrev pub order_step : Bundle → Plan → Progress → OrderLine → Progress
order_step b plan g (Cpu cpu) = one_step b plan cpu g
order_step b plan g Round =
    record (with_round_settled b plan g) { round = g.round + 1; done = replicate b.cpus 0 }

-- the visits and the supply's log that the order makes
abbrev pub order_run : Bundle → Plan → Progress
order_run b plan = with_round_settled b plan (fold (order_step b plan) (opening_progress b plan) (order_of b))
