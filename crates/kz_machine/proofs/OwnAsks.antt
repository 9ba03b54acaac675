-- What a step asks for is for its own zone.
use Rattle.std.proofs.Common.{ℕ, zero, suc, ◌==◌, ◌&&◌, Bool, true, false, if◌then◌else◌, List, [], ◌∷◌, length, replicate, All, is_some, refl}
use Rattle.std.proofs.lemmas.List.Elements.{All-nil, All-cons, All-head, All-tail}
use Rattle.kz_model.specs.declared.record.ZoneParams.{ZoneParams}
use Rattle.kz_model.specs.declared.step.Block.{Block}
use Rattle.kz_model.specs.declared.step.Step.{Step}
use Rattle.kz_model.specs.declared.step.Step.TheVariants.{Alloc, AllocZero, Free, Give, Take, Read, Write, Flush, Trim}
use Rattle.kz_model.specs.declared.supply.Answer.{Answer}
use Rattle.kz_model.specs.declared.supply.Ask.{Ask}
use Rattle.kz_model.specs.declared.supply.Ask.TheVariants.{Chunk, Frames, Back}
use Rattle.kz_model.specs.declared.supply.SupplyEntry.{SupplyEntry}
use Rattle.kz_laws.specs.Addresses.{IsForZone}
use Rattle.kz_model.specs.Zone.Pick.{unmapped_place, ask_to_grow}
use Rattle.kz_model.specs.Zone.Rules.{must_grow, refusal, asks_of_action, asks_of}
use Rattle.kz_model.specs.Zone.State.{Shared, CpuPart}
use Rattle.kz_laws.proofs.OrderLines.{entries}

abbrev AreOwn : ZoneParams → List Ask → Type 0
AreOwn p asks = All (IsForZone p) asks

growing : (p : ZoneParams) (s : Shared) (grows : Bool) → AreOwn p (if grows then ask_to_grow p s ∷ [] else [])
growing p s false = All-nil (IsForZone p)
growing p s true =
    All-cons (IsForZone p) (ask_to_grow p s) []
    (elim (is_some (unmapped_place s.chunks)) as (λ b. IsForZone p (if b then Frames p.pages else Chunk p.submap p.pages)) [ true ↦ tt | false ↦ (refl, refl) ])
    (All-nil (IsForZone p))

giving_back : (p : ZoneParams) (n : ℕ) → AreOwn p (replicate n (Back p.pages))
giving_back p zero = All-nil (IsForZone p)
giving_back p (suc n) = All-cons (IsForZone p) (Back p.pages) (replicate n (Back p.pages)) tt (giving_back p n)

acting : (p : ZoneParams) (s : Shared) (stack : List Block) (step : Step) → AreOwn p (asks_of_action p s stack step)
acting p s stack (Alloc name) = growing p s ((length stack == 0) && must_grow s)
acting p s stack (AllocZero name) = growing p s ((length stack == 0) && must_grow s)
acting p s stack (Free name asked) = All-nil (IsForZone p)
acting p s stack (Give name to) = All-nil (IsForZone p)
acting p s stack (Take name) = All-nil (IsForZone p)
acting p s stack (Read name off len) = All-nil (IsForZone p)
acting p s stack (Write name off bytes) = All-nil (IsForZone p)
acting p s stack Flush = All-nil (IsForZone p)
acting p s stack Trim = giving_back p _

own_asks : (p : ZoneParams) (s : Shared) (cpu : ℕ) (own : CpuPart) (step : Step) → AreOwn p (asks_of p s cpu own step)
own_asks p s cpu own step =
    elim (is_some (refusal p s cpu own step)) as (λ b. AreOwn p (if b then [] else asks_of_action p s own.stack step)) [ true ↦ All-nil (IsForZone p) | false ↦ acting p s own.stack step ]

-- as entries of a log
entries_own : (params : ℕ → ZoneParams) (zone : ℕ) (asks : List Ask) (answers : List Answer) → AreOwn (params zone) asks → All (λ entry. IsForZone (params entry.zone) entry.ask) (entries zone asks answers)
entries_own params zone [] answers are = All-nil (λ (entry : SupplyEntry). IsForZone (params entry.zone) entry.ask)
entries_own params zone (ask ∷ asks) [] are = All-nil (λ (entry : SupplyEntry). IsForZone (params entry.zone) entry.ask)
entries_own params zone (ask ∷ asks) (answer ∷ answers) are =
    All-cons (λ (entry : SupplyEntry). IsForZone (params entry.zone) entry.ask) (record { zone = zone; ask = ask; answer = answer }) (entries zone asks answers)
    (All-head (IsForZone (params zone)) ask asks are) (entries_own params zone asks answers (All-tail (IsForZone (params zone)) ask asks are))

pub step_entries_own : (params : ℕ → ZoneParams) (zone : ℕ) (s : Shared) (cpu : ℕ) (own : CpuPart) (step : Step) (answers : List Answer) →
    All (λ entry. IsForZone (params entry.zone) entry.ask) (entries zone (asks_of (params zone) s cpu own step) answers)
step_entries_own params zone s cpu own step answers = entries_own params zone (asks_of (params zone) s cpu own step) answers (own_asks (params zone) s cpu own step)
