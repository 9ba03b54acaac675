-- The visits of a run: their CPUs, their counts and their rounds are in range.
use Rattle.std.proofs.Common.{◌≡◌, ℕ, ◌^◌, ◌<◌, ◌≤◌, ◌==◌, ◌&&◌, nat_lt, Bool, true, false, if◌then◌else◌, List, [], ◌∷◌, length, drop, refl, ap, ◌∙◌, arith}
use Rattle.std.specs.List.{AllByRecursion, filter}
use Rattle.std.proofs.lemmas.Bool.{eq-eqb}
use Rattle.std.proofs.lemmas.List.{get_or_past}
use Rattle.std.proofs.lemmas.List.Elements.{All-get_or, recursion_from_All}
use Rattle.kz_model.specs.declared.bundle.Bundle.{Bundle}
use Rattle.kz_model.specs.declared.bundle.TraceStep.{TraceStep}
use Rattle.kz_model.specs.declared.record.Plan.{Plan}
use Rattle.kz_model.specs.declared.record.Visit.{Visit}
use Rattle.kz_model.specs.Run.Journal.{addressed, trace_of, lines_of_round, steps_among, steps_of, carried}
use Rattle.kz_model.specs.Run.Runs.{Carries}
use Rattle.kz_model.specs.Grammar.Valid.{IsStepWithin, IsValid}
use Rattle.kz_model.proofs.TraceRounds.{short_traces, steps_within}
use Rattle.kz_laws.proofs.Each.{each-weaker}

-- each visit has a step, and its steps are counted among those that its CPU and round carry
abbrev IsCounted : List Visit → Visit → Type 0
IsCounted all v = (1 ≤ v.count) × (v.count ≤ carried v.cpu v.round all)

are_counted : (visits : List Visit) (needs : List Bool) → Carries visits needs → AllByRecursion (IsCounted visits) visits
are_counted visits needs h = within visits visits needs h (λ cpu round. omega arith)
  where
    same_one : (n : ℕ) → (n == n) ≡ true
    same_one n = eq-eqb n n refl

    mine : (v : Visit) → (if (v.cpu == v.cpu) && (v.round == v.round) then v.count else 0) ≡ v.count
    mine v = ap (λ t. if t && (v.round == v.round) then v.count else 0) (same_one v.cpu) ∙ ap (λ t. if t then v.count else 0) (same_one v.round)

    within : (all later : List Visit) (needs : List Bool) → Carries later needs → ((cpu round : ℕ) → carried cpu round later ≤ carried cpu round all) → AllByRecursion (IsCounted all) later
    within all [] needs h most = tt
    within all (v ∷ later) needs h most = (
      (h.0, omega (arith, mine v, most v.cpu v.round)),
      within all later (drop v.count needs) h.2 (λ cpu round. omega (arith, most cpu round)),
    )

-- ---- how many steps a CPU has

few_of_round : (round : ℕ) (trace : List TraceStep) → length (filter (λ line. line.round == round) trace) ≤ length trace
few_of_round round [] = omega arith
few_of_round round (line ∷ trace) =
    let rest = filter (λ line. line.round == round) trace in
    elim (line.round == round) as (λ t. length (if t then line ∷ rest else rest) ≤ length (line ∷ trace)) [ true ↦ omega (arith, few_of_round round trace) | false ↦ omega (arith, few_of_round round trace) ]

few_steps_among : (b : Bundle) (plan : Plan) (zone : ℕ) (lines : List TraceStep) → length (steps_among b plan zone lines) ≤ length lines
few_steps_among b plan zone [] = omega arith
few_steps_among b plan zone (line ∷ lines) =
    let there = addressed b plan line.act in
    let rest = steps_among b plan zone lines in
    elim (there.0 == zone) as (λ t. length (if t then there.1 ∷ rest else rest) ≤ length (line ∷ lines)) [ true ↦ omega (arith, few_steps_among b plan zone lines) | false ↦ omega (arith, few_steps_among b plan zone lines) ]

-- a round with lines is one of the rounds
some_of_round : (round n : ℕ) (trace : List TraceStep) → AllByRecursion (λ line. line.round < n) trace → 0 < length (filter (λ line. line.round == round) trace) → round < n
some_of_round round n [] below some = absurd (omega arith)
some_of_round round n (line ∷ trace) below some =
    let rest = filter (λ line. line.round == round) trace in
    elim (line.round == round) as (λ t. (line.round == round) ≡ t → 0 < length (if t then line ∷ rest else rest) → round < n) [
      | true ↦ λ e some. let is : line.round ≡ round = grind arith in omega (arith, below.0)
      | false ↦ λ e some. some_of_round round n trace below.1 some
    ] refl some

-- a CPU with lines is one of the CPUs, and has not too many
record IsCpu (b : Bundle) (cpu : ℕ) : Type 0 where
  among : cpu < b.cpus
  few : length (trace_of b cpu) ≤ 1000000

is_cpu : (b : Bundle) → IsValid b → (cpu : ℕ) → 0 < length (trace_of b cpu) → IsCpu b cpu
is_cpu b valid cpu some =
    elim (nat_lt cpu (length b.traces)) as (λ t. nat_lt cpu (length b.traces) ≡ t → IsCpu b cpu) [
      | true ↦ λ e.
          let lt : cpu < length b.traces = grind arith in
          record { among = omega (arith, valid.traces); few = All-get_or (λ (trace : List TraceStep). length trace ≤ 1000000) b.traces cpu [] lt (short_traces b valid) }
      | false ↦ λ e. let past : length b.traces ≤ cpu = grind arith in absurd (omega (arith, ap length (get_or_past b.traces cpu [] past)))
    ] refl

-- ---- the visits

-- a visit's numbers are in range, and its round is one of the bundle's
pub record IsInRange (b : Bundle) (v : Visit) : Type 0 where
  pub cpu : v.cpu < 2 ^ 64
  pub count : v.count < 2 ^ 64
  pub round : v.round < b.rounds

-- Each visit of a zone's journal, where it carries all of the zone's steps.
pub visits_in_range : (b : Bundle) (plan : Plan) (zone : ℕ) (visits : List Visit) (needs : List Bool) → IsValid b → ((cpu round : ℕ) → carried cpu round visits ≡ length (steps_of b plan cpu zone round)) → Carries visits needs →
    AllByRecursion (IsInRange b) visits
visits_in_range b plan zone visits needs valid complete carries = each-weaker (IsCounted visits) (IsInRange b) in_range visits (are_counted visits needs carries)
  where
    in_range : (v : Visit) → IsCounted visits v → IsInRange b v
    in_range v h =
        let lines = lines_of_round b v.cpu v.round in
        let steps : v.count ≤ length lines = omega (arith, h.1, complete v.cpu v.round, few_steps_among b plan zone lines) in
        let all : length lines ≤ length (trace_of b v.cpu) = few_of_round v.round (trace_of b v.cpu) in
        let cpu = is_cpu b valid v.cpu (omega (arith, h.0, steps, all)) in
        let below = recursion_from_All (IsStepWithin (length b.names) (length b.types) b.rounds) (trace_of b v.cpu) (steps_within b valid v.cpu) in
        record {
          cpu = omega (arith, cpu.among, valid.few_cpus);
          count = omega (arith, steps, all, cpu.few);
          round = some_of_round v.round b.rounds (trace_of b v.cpu)
              (each-weaker (IsStepWithin (length b.names) (length b.types) b.rounds) (λ (line : TraceStep). line.round < b.rounds) (λ line is. is.round) (trace_of b v.cpu) below) (omega (arith, h.0, steps));
        }
