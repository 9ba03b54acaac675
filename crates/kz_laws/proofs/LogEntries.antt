-- The entries of a run's log: their asks are for their zones' pages, and their answers fit.
use Rattle.std.proofs.Common.{◌≡◌, ℕ, zero, suc, ◌^◌, ◌<◌, ◌≤◌, ◌==◌, ◌&&◌, nat_lt, Bool, true, false, if◌then◌else◌, List, [], ◌∷◌, length, map, replicate, slice_index, is_some, None, refl, sym, subst, arith}
use Rattle.std.specs.List.{All, AllByRecursion}
use Rattle.std.proofs.lemmas.List.Elements.{All-get_or, recursion_from_All}
use Rattle.kz_model.specs.declared.bundle.Bundle.{Bundle}
use Rattle.kz_model.specs.declared.step.Step.{Step}
use Rattle.kz_model.specs.declared.step.Step.TheVariants.{Alloc, AllocZero, Free, Give, Take, Read, Write, Flush, Trim}
use Rattle.kz_model.specs.declared.step.Block.{Block}
use Rattle.kz_model.specs.declared.record.Plan.{Plan}
use Rattle.kz_model.specs.declared.record.Visit.{Visit}
use Rattle.kz_model.specs.declared.record.ZoneParams.{ZoneParams}
use Rattle.kz_model.specs.declared.supply.SupplyEntry.{SupplyEntry}
use Rattle.kz_model.specs.declared.supply.Ask.{Ask}
use Rattle.kz_model.specs.declared.supply.Ask.TheVariants.{Chunk, Frames, Back}
use Rattle.kz_model.specs.declared.supply.Answer.{Answer}
use Rattle.kz_model.specs.declared.supply.Answer.TheVariants.{Base, Given, NoSpace, NoFrames}
use Rattle.kz_model.specs.Zone.State.{Shared, CpuPart}
use Rattle.kz_model.specs.Run.Journal.{params_of}
use Rattle.kz_model.specs.Zone.Pick.{unmapped_place, ask_to_grow}
use Rattle.kz_model.specs.Types.Planned.{IsFitRow}
use Rattle.kz_model.specs.Zone.Rules.{must_grow, refusal, asks_of_action, asks_of, fits}
use Rattle.kz_model.specs.Run.Runs.{IsRun}
use Rattle.kz_model.specs.Run.Supply.{Stock, opening_stock, pages_left, answer_of, stock_after, answers_from}
use Rattle.kz_laws.specs.Addresses.{IsForZone}
use Rattle.kz_laws.proofs.AskLines.{pages_of, number_of, IsEntry}
use Rattle.kz_laws.proofs.AsksOfRuns.{asks_of_run}
use Rattle.kz_laws.proofs.Each.{each-both, each-weaker}

-- ---- asks

-- an ask is for its zone's pages, one for a chunk in the zone's submap
abbrev IsAskOf : ZoneParams → Ask → Type 0
IsAskOf p ask = IsForZone p ask × (pages_of ask ≡ p.pages)

to_grow : (p : ZoneParams) (s : Shared) → IsAskOf p (ask_to_grow p s)
to_grow p s =
    elim (is_some (unmapped_place s.chunks)) as (λ b. IsAskOf p (if b then Frames p.pages else Chunk p.submap p.pages)) [ true ↦ (tt, refl) | false ↦ ((refl, refl), refl) ]

grows_or_not : (p : ZoneParams) (s : Shared) (b : Bool) → AllByRecursion (IsAskOf p) (if b then ask_to_grow p s ∷ [] else [])
grows_or_not p s true = (to_grow p s, tt)
grows_or_not p s false = tt

given_back : (p : ZoneParams) (n : ℕ) → AllByRecursion (IsAskOf p) (replicate n (Back p.pages))
given_back p zero = tt
given_back p (suc n) = ((tt, refl), given_back p n)

action_asks : (p : ZoneParams) (s : Shared) (stack : List Block) (step : Step) → AllByRecursion (IsAskOf p) (asks_of_action p s stack step)
action_asks p s stack (Alloc name) = grows_or_not p s ((length stack == 0) && must_grow s)
action_asks p s stack (AllocZero name) = grows_or_not p s ((length stack == 0) && must_grow s)
action_asks p s stack (Free name asked) = tt
action_asks p s stack (Give name to) = tt
action_asks p s stack (Take name) = tt
action_asks p s stack (Read name off len) = tt
action_asks p s stack (Write name off bytes) = tt
action_asks p s stack Flush = tt
action_asks p s stack Trim = given_back p _

step_asks : (p : ZoneParams) (s : Shared) (cpu : ℕ) (own : CpuPart) (step : Step) → AllByRecursion (IsAskOf p) (asks_of p s cpu own step)
step_asks p s cpu own step =
    elim (is_some (refusal p s cpu own step)) as (λ b. AllByRecursion (IsAskOf p) (if b then [] else asks_of_action p s own.stack step)) [ true ↦ tt | false ↦ action_asks p s own.stack step ]

-- ---- answers

-- an answer is of a kind that fits its ask, and its number is in range
record IsFitAnswer (ask : Ask) (answer : Answer) : Type 0 where
  fit : fits ask answer ≡ true
  number : number_of answer < 2 ^ 64

-- so are those of the supply
supply_fits : (pages : ℕ) (stock : Stock) (ask : Ask) → pages ≤ 4096 → 0 < pages_of ask → pages_of ask ≤ 8 → IsFitAnswer ask (answer_of pages stock ask)
supply_fits pages stock (Chunk submap p) most some few =
    let left = pages_left pages stock submap in
    let base = slice_index stock.cursors submap in
    elim (nat_lt left p) as (λ t. nat_lt left p ≡ t → IsFitAnswer (Chunk submap p) (if t then NoSpace left else if nat_lt stock.free p then NoFrames stock.free else Base base)) [
      | true ↦ λ e. let lt : left < p = grind arith in record { fit = refl; number = omega arith }
      | false ↦ λ e.
          let le : p ≤ left = grind arith in
          elim (nat_lt stock.free p) as (λ u. nat_lt stock.free p ≡ u → IsFitAnswer (Chunk submap p) (if u then NoFrames stock.free else Base base)) [
            | true ↦ λ f. let lt : stock.free < p = grind arith in record { fit = refl; number = omega arith }
            | false ↦ λ f. record { fit = refl; number = omega arith }
          ] refl
    ] refl
supply_fits pages stock (Frames p) most some few =
    elim (nat_lt stock.free p) as (λ u. nat_lt stock.free p ≡ u → IsFitAnswer (Frames p) (if u then NoFrames stock.free else Given)) [
      | true ↦ λ f. let lt : stock.free < p = grind arith in record { fit = refl; number = omega arith }
      | false ↦ λ f. record { fit = refl; number = omega arith }
    ] refl
supply_fits pages stock (Back p) most some few = record { fit = refl; number = omega arith }

-- an entry's answer is the supply's, from some stock
abbrev IsAnswered : ℕ → SupplyEntry → Type 0
IsAnswered pages entry = (stock : Stock) × (entry.answer ≡ answer_of pages stock entry.ask)

each_answered : (pages : ℕ) (stock : Stock) (log : List SupplyEntry) → map (λ entry. entry.answer) log ≡ answers_from pages stock (map (λ entry. entry.ask) log) → AllByRecursion (IsAnswered pages) log
each_answered pages stock [] h = tt
each_answered pages stock (e ∷ log) h =
    let first : e.answer ≡ answer_of pages stock e.ask = cc in
    let rest : map (λ (entry : SupplyEntry). entry.answer) log ≡ answers_from pages (stock_after stock e.ask (answer_of pages stock e.ask)) (map (λ entry. entry.ask) log) = cc in
    ((stock, first), each_answered pages (stock_after stock e.ask (answer_of pages stock e.ask)) log rest)

-- ---- entries

abbrev IsKnown : Bundle → Plan → SupplyEntry → Type 0
IsKnown b plan e = (e.zone < length plan.zones) × (IsAskOf (params_of b plan e.zone) e.ask × IsAnswered b.pages e)

is_entry : (b : Bundle) (plan : Plan) → b.pages ≤ 4096 → length plan.zones ≤ 160 → All IsFitRow plan.zones → (e : SupplyEntry) → IsKnown b plan e → IsEntry (params_of b plan) e
is_entry b plan most few rows e h =
    let row = All-get_or IsFitRow plan.zones e.zone (record { bucket = None; submap = 0; shape = record { element = 0; count = 0; pages = 0 }; types = 0 }) h.0 rows in
    let ask = h.1.0 in
    let stock = h.1.1.0 in
    let some : 0 < pages_of e.ask = omega (arith, ask.1, row.shape.some_pages) in
    let at_most : pages_of e.ask ≤ 8 = omega (arith, ask.1, row.shape.most_pages) in
    let answer : IsFitAnswer e.ask e.answer = subst (IsFitAnswer e.ask) (sym h.1.1.1) (supply_fits b.pages stock e.ask most some at_most) in
    record { zone = omega (arith, h.0, few); own = ask.0; pages = omega (arith, at_most); fit = answer.fit; number = answer.number }

pub entries_of_run : (b : Bundle) (plan : Plan) (journals : List (List Visit)) (log : List SupplyEntry) → b.pages ≤ 4096 → length plan.zones ≤ 160 → All IsFitRow plan.zones → IsRun b plan journals log →
    AllByRecursion (IsEntry (params_of b plan)) log
entries_of_run b plan journals log most few rows run =
    let below = recursion_from_All (λ (e : SupplyEntry). e.zone < length plan.zones) log run.of_zones in
    let asks = asks_of_run (λ (zone : ℕ) (ask : Ask). IsAskOf (params_of b plan zone) ask) b plan journals log (λ zone s cpu own step. step_asks (params_of b plan zone) s cpu own step) run in
    let answers = each_answered b.pages (opening_stock b.frames) log run.answered in
    each-weaker (IsKnown b plan) (IsEntry (params_of b plan)) (is_entry b plan most few rows) log
    (
    each-both (λ (e : SupplyEntry). e.zone < length plan.zones) (λ (e : SupplyEntry). IsAskOf (params_of b plan e.zone) e.ask × IsAnswered b.pages e) log below
    (each-both (λ (e : SupplyEntry). IsAskOf (params_of b plan e.zone) e.ask) (IsAnswered b.pages) log asks answers)
    )
