-- Laws over the run of an order as it goes.
use Rattle.std.specs.Prelude.{◌≡◌, ℕ, ◌≤◌, List, ◌∷◌, ◌++◌, length, map, sum_by}
use Rattle.std.specs.List.{zip}
use Rattle.kz_model.specs.declared.bundle.Bundle.{Bundle}
use Rattle.kz_model.specs.declared.bundle.OrderLine.{OrderLine}
use Rattle.kz_model.specs.declared.bundle.OrderLine.TheVariants.{Cpu}
use Rattle.kz_model.specs.declared.record.Plan.{Plan}
use Rattle.kz_model.specs.declared.supply.SupplyEntry.{SupplyEntry}
use Rattle.kz_model.specs.declared.supply.Ask.{Ask}
use Rattle.kz_laws.specs.Amounts.{stock_of}
use Rattle.kz_model.specs.Run.Rooms.{zone_lines}
use Rattle.kz_model.specs.Run.Order.{opening_progress, order_of, order_run, answered}
use Rattle.kz_laws.specs.Play.{play_after_lines, play_run, record_of}
use Rattle.kz_laws.specs.PlayedAt.{IsSupplied, IsPlaySound, IsPlayedAt, HasTurn}
use Rattle.kz_model.specs.Run.Recorded.{IsOfOrder}
use Rattle.kz_model.specs.Run.Runs.{IsRun}
use Rattle.kz_model.specs.Run.Supply.{answers_from}
use Rattle.kz_model.specs.Grammar.Turns.{counts_in, AreInTurn}
use Rattle.kz_laws.specs.Undelayed.{AreNextLines}
use Rattle.kz_model.specs.Grammar.Valid.{IsValid}
use Rattle.kz_model.specs.Types.Planned.{HasZones, HasElements}

-- ---- the order

-- The lines of an order are in turn, also where the bundle leaves it to the default.
abbrev pub OrderIsInTurn : Type 0
OrderIsInTurn = (b : Bundle) → IsValid b → AreInTurn b 0 (counts_in b 0) (order_of b)

-- Each line of an order is a CPU's next, and is addressed to a zone of the plan.
abbrev pub OrderIsNext : Type 0
OrderIsNext = (b : Bundle) (plan : Plan) → IsValid b → HasZones b plan →
    AreNextLines b plan (opening_progress b plan) (order_of b)

-- ---- after each line

-- After each line of its order a play is sound, and each zone is its journal's but for late steps.
abbrev pub PlaysAreSound : Type 0
PlaysAreSound =
    (b : Bundle) (plan : Plan) → IsValid b → HasZones b plan → HasElements plan → (lines more : List OrderLine) →
    lines ++ more ≡ order_of b →
    IsPlayedAt b plan lines (play_after_lines b plan lines)

-- A CPU whose turn it is has a line to play.
abbrev pub TurnsHaveLines : Type 0
TurnsHaveLines =
    (b : Bundle) (plan : Plan) → IsValid b → HasZones b plan → (lines more : List OrderLine) (cpu : ℕ) →
    lines ++ Cpu cpu ∷ more ≡ order_of b →
    HasTurn b plan (play_after_lines b plan lines) cpu

-- A zone has no more lines than all traces together.
abbrev pub LinesAreFew : Type 0
LinesAreFew = (b : Bundle) (plan : Plan) (zone : ℕ) → IsValid b → zone_lines b plan zone ≤ sum_by length b.traces

-- The supply's answers after a log are those of the stock after it.
abbrev pub StockAnswers : Type 0
StockAnswers =
    (b : Bundle) (plan : Plan) (log : List SupplyEntry) (zone : ℕ) (asks : List Ask) → IsSupplied b plan log →
    answered b zone log asks ≡ map (λ pair. record { zone = zone; ask = pair.0; answer = pair.1 })
    (zip asks (answers_from b.pages (stock_of b log) asks))

-- ---- the run

-- The run of an order is a run of the bundle.
abbrev pub OrderRunsAreRuns : Type 0
OrderRunsAreRuns = (b : Bundle) (plan : Plan) → IsValid b → HasZones b plan → let run = order_run b plan in
    IsRun b plan run.journals run.log

-- At its end the play is sound.
abbrev pub RunsEndSound : Type 0
RunsEndSound = (b : Bundle) (plan : Plan) → IsValid b → HasZones b plan → HasElements plan →
    IsPlaySound b plan (play_run b plan)

-- The record of the run as it goes is that of the run of the order.
abbrev pub OrderedRunsArePlayed : Type 0
OrderedRunsArePlayed = (b : Bundle) (plan : Plan) → IsValid b → HasZones b plan →
    IsOfOrder b plan (record_of (play_run b plan))
