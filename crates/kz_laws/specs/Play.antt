-- The run of an order as it goes: what there is after each line, with no look back.
use Rattle.std.specs.Prelude.{ℕ, ◌+◌, Bool, true, false, nat_lt, if◌then◌else◌, List, [], ◌∷◌, ◌++◌, length, map, replicate, slice_index, slice_index_or, slice_set}
use Rattle.std.specs.List.{fold, filter_map, range_with_len}
use Rattle.std.specs.Prelude.{Option, None, Some}
use Rattle.kz_model.specs.declared.bundle.Bundle.{Bundle}
use Rattle.kz_model.specs.declared.bundle.OrderLine.{OrderLine}
use Rattle.kz_model.specs.declared.bundle.OrderLine.TheVariants.{Cpu, Round}
use Rattle.kz_model.specs.declared.bundle.TraceStep.{TraceStep}
use Rattle.kz_model.specs.declared.step.Step.{Step}
use Rattle.kz_model.specs.declared.step.Reply.{Reply}
use Rattle.kz_model.specs.declared.record.Plan.{Plan}
use Rattle.kz_model.specs.declared.record.Record.{Record}
use Rattle.kz_model.specs.declared.record.Visit.{Visit}
use Rattle.kz_model.specs.declared.record.ZoneParams.{ZoneParams}
use Rattle.kz_model.specs.declared.supply.SupplyEntry.{SupplyEntry}
use Rattle.kz_model.specs.Zone.State.{ZoneState, opening, cpu_part}
use Rattle.kz_model.specs.Zone.Rules.{Effect, needs_visit, asks_of, effect_of}
use Rattle.kz_model.specs.Run.Journal.{params_of, addressed, trace_of}
use Rattle.kz_model.specs.Run.Journal.{no_step}
use Rattle.kz_model.specs.Run.Order.{answered, order_of}

-- a zone as its lines so far leave it, its visits so far, and how many steps each CPU has done there since its last
-- visit
pub record ZonePlay : Type 0 where
  pub state : ZoneState
  pub visits : List Visit
  pub late : List ℕ

-- the zones, the supply's log, the round, and each CPU's replies so far
pub record Play : Type 0 where
  pub zones : List ZonePlay
  pub log : List SupplyEntry
  pub round : ℕ
  pub replies : List (List Reply)

-- ---- the opening

abbrev pub opening_zone_play : ZoneParams → ZonePlay
opening_zone_play p = record { state = opening p; visits = []; late = replicate p.cpus 0 }

abbrev pub opening_play : Bundle → Plan → Play
opening_play b plan =
    record {
      zones = map (λ zone. opening_zone_play (params_of b plan zone)) (range_with_len 0 (length plan.zones));
      log = [];
      round = 0;
      replies = replicate b.cpus [];
    }

abbrev pub no_play : ZonePlay
no_play = record {
  state = record {
    shared = record { chunks = []; depot = []; transit = []; drawn = 0 };
    own =
        [];
  };
  visits = [];
  late = [];
}

abbrev pub zone_play : Play → ℕ → ZonePlay
zone_play s zone = slice_index_or s.zones zone no_play

abbrev pub replies_so_far : Play → ℕ → List Reply
replies_so_far s cpu = slice_index_or s.replies cpu []

-- ---- a line

-- the zone after a step with this effect, which needed a visit or not
abbrev pub zone_after : ℕ → ℕ → ZonePlay → Bool → Effect → ZonePlay
zone_after round cpu z needs effect =
    let late = slice_index z.late cpu in
    record {
      state = record { shared = effect.shared; own = slice_set z.state.own cpu effect.own };
      visits = if needs then z.visits ++ record { round = round; cpu = cpu; count = late + 1; settled = false } ∷ []
          else z.visits;
      late = slice_set z.late cpu (if needs then 0 else late + 1);
    }

-- the asks of a step of a CPU, each with the supply's answer
abbrev pub asked : Bundle → Plan → Play → ℕ → ℕ → Step → List SupplyEntry
asked b plan s cpu zone step =
    let state = (zone_play s zone).state in
    answered b zone s.log (asks_of (params_of b plan zone) state.shared cpu (cpu_part state cpu) step)

-- its effect with these answers
abbrev pub effect_there : Bundle → Plan → Play → ℕ → ℕ → Step → Effect
effect_there b plan s cpu zone step =
    let state = (zone_play s zone).state in
    effect_of (params_of b plan zone) state.shared cpu (cpu_part state cpu) step
    (map (λ entry. entry.answer) (asked b plan s cpu zone step))

-- a step of a CPU on a zone
abbrev pub play_after_step : Bundle → Plan → Play → ℕ → ℕ → Step → Play
play_after_step b plan s cpu zone step =
    let z = zone_play s zone in
    let effect = effect_there b plan s cpu zone step in
    record {
      zones = slice_set s.zones zone
          (zone_after s.round cpu z (needs_visit (params_of b plan zone) (cpu_part z.state cpu) step) effect);
      log = s.log ++ asked b plan s cpu zone step;
      round = s.round;
      replies = slice_set s.replies cpu (replies_so_far s cpu ++ effect.reply ∷ []);
    }

-- a CPU's next line is the one behind those that have replies
abbrev pub line_to_play : Bundle → Play → ℕ → TraceStep
line_to_play b s cpu = slice_index_or (trace_of b cpu) (length (replies_so_far s cpu)) no_step

abbrev pub play_after_line : Bundle → Plan → Play → ℕ → Play
play_after_line b plan s cpu =
    let there = addressed b plan (line_to_play b s cpu).act in play_after_step b plan s cpu there.0 there.1

-- ---- a round's end

-- the visit that settles a CPU's late steps, where there are some
abbrev pub settling : ℕ → List ℕ → ℕ → Option Visit
settling round late cpu =
    let count = slice_index late cpu in
    if nat_lt 0 count then Some (record { round = round; cpu = cpu; count = count; settled = true }) else None

-- the zone when all CPUs have settled, CPUs rising
abbrev pub zone_after_settling : ℕ → ℕ → ZonePlay → ZonePlay
zone_after_settling round cpus z =
    record z {
      visits = z.visits ++ filter_map (settling round z.late) (range_with_len 0 cpus);
      late =
          replicate cpus 0;
    }

abbrev pub play_after_round : Bundle → Play → Play
play_after_round b s = record s { zones = map (zone_after_settling s.round b.cpus) s.zones; round = s.round + 1 }

-- ---- the whole

abbrev pub play_after_order_line : Bundle → Plan → Play → OrderLine → Play
play_after_order_line b plan s (Cpu cpu) = play_after_line b plan s cpu
play_after_order_line b plan s Round = play_after_round b s

abbrev pub play_after_lines : Bundle → Plan → List OrderLine → Play
play_after_lines b plan lines = fold (play_after_order_line b plan) (opening_play b plan) lines

abbrev pub play_run : Bundle → Plan → Play
play_run b plan = play_after_round b (play_after_lines b plan (order_of b))

-- the record that is kept of it
abbrev pub record_of : Play → Record
record_of s =
    record {
      replies = s.replies;
      visits = map (λ z. z.visits) s.zones;
      mapped = map (λ z. map (λ chunk. chunk.mapped) z.state.shared.chunks) s.zones;
      supply = s.log;
    }
