-- What a visit's step makes of the zone, of its CPU's stack and of what its name is bound to.
use Rattle.std.specs.Prelude.{◌≡◌, ℕ, ◌<◌, ◌==◌, ◌&&◌, true, if◌then◌else◌, List, [], ◌∷◌, length, map, Option}
use Rattle.kz_model.specs.declared.record.ZoneParams.{ZoneParams}
use Rattle.kz_model.specs.declared.step.Block.{Block}
use Rattle.kz_model.specs.declared.step.Bound.{Bound}
use Rattle.kz_model.specs.declared.step.Reply.{Reply}
use Rattle.kz_model.specs.declared.step.Step.{Step}
use Rattle.kz_model.specs.declared.supply.Ask.{Ask}
use Rattle.kz_model.specs.Zone.Pick.{ask_to_grow}
use Rattle.kz_model.specs.Zone.Rules.{Effect, needs_visit, must_grow, asks_of, all_answered, effect_of}
use Rattle.kz_model.specs.Zone.Whole.{IsWhole}
use Rattle.kz_model.specs.Zone.State.{Shared, CpuPart, ZoneState, cpu_part}
use Rattle.kz_supply.specs.Exchange.{Exchange, ask_of, answer_of}
use Rattle.kz_supply.specs.Pages.{SupplyView}
use Rattle.kz_zone.specs.Room.{AreFitParams}
use Rattle.kz_zone.specs.Zone.{Zone, StandsFor}
use Rattle.kz_book.specs.Visits.{HasUsed, bound_there}

-- a zone, and what a CPU brings to it: its stack, and what the step's name is bound to
pub record Scene : Type 0 where
  pub zone : Zone
  pub stack : List Block
  pub bound : Option Bound

abbrev pub scene : Zone → List Block → Option Bound → Scene
scene zone stack bound = record { zone = zone; stack = stack; bound = bound }

-- The zone stands for this shared state, a CPU with this part brings its stack and binding, and the step needs a visit.
pub record IsIn (here : Scene) (step : Step) (s : Shared) (own : CpuPart) : Type 0 where
  pub shows : StandsFor here.zone s
  pub stack : here.stack ≡ own.stack
  pub bound : here.bound ≡ bound_there own step
  pub needs : needs_visit here.zone.params own step ≡ true

-- This is a scene of a zone in order, of whose CPUs this is one.
pub record IsOrderly (here : Scene) (cpu : ℕ) (step : Step) : Type 0 where
  pub fit : AreFitParams here.zone.params
  pub state : ZoneState
  pub whole : IsWhole here.zone.params state
  pub one_of : cpu < length state.own
  pub at : IsIn here step state.shared (cpu_part state cpu)

-- the effect of the step in this state, with these exchanges
abbrev pub effect_at : Scene → ℕ → Step → Shared → CpuPart → List Exchange → Effect
effect_at here cpu step s own exchanges = effect_of here.zone.params s cpu own step (map answer_of exchanges)

-- The exchanges are the step's asks, each fittingly answered, and the reply and what there is then are the step's
-- effect.
pub record HasEffect (before after : Scene) (cpu : ℕ) (step : Step) (s : Shared) (own : CpuPart) (reply : Reply)
    (exchanges : List Exchange) : Type 0 where
  pub asks : map ask_of exchanges ≡ asks_of before.zone.params s cpu own step
  pub fit : all_answered (map ask_of exchanges) (map answer_of exchanges) ≡ true
  pub is_reply : reply ≡ (effect_at before cpu step s own exchanges).reply
  pub shows : StandsFor after.zone (effect_at before cpu step s own exchanges).shared
  pub stack : after.stack ≡ (effect_at before cpu step s own exchanges).own.stack
  pub bound : after.bound ≡ bound_there (effect_at before cpu step s own exchanges).own step

-- The zone made these exchanges, and did the step in each state that this was a scene of.
pub record HasEffectInEachState {Base : Type 0} (before after : Scene) (cpu : ℕ) (step : Step) (reply : Reply)
    (first last : SupplyView Base) : Type 0 where
  pub exchanges : List Exchange
  pub used : HasUsed before.zone after.zone first last exchanges
  pub does : (s : Shared) (own : CpuPart) → IsIn before step s own →
      HasEffect before after cpu step s own reply exchanges

-- what the zone asks before a block of this stack can be popped
abbrev pub filling_asks : ZoneParams → Shared → List Block → List Ask
filling_asks p s stack = if (length stack == 0) && must_grow s then ask_to_grow p s ∷ [] else []
