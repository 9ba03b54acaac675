-- The log of a run: each ask for a chunk is for its zone's pages in its zone's submap.
use Rattle.std.proofs.Common.{◌≡◌, ◌<◌, ℕ, zero, suc, ◌==◌, ◌&&◌, Bool, true, false, if◌then◌else◌, List, [], ◌∷◌, ◌++◌, length, map, replicate, slice_index_or, Option, None, Some, is_some, refl, subst, arith}
use Rattle.std.specs.List.{All, flat_map}
use Rattle.std.specs.Option.{option_map_or}
use Rattle.kz_model.specs.declared.bundle.Bundle.{Bundle}
use Rattle.kz_model.specs.declared.step.Step.{Step}
use Rattle.kz_model.specs.declared.step.Step.TheVariants.{Alloc, AllocZero, Free, Give, Take, Read, Write, Flush, Trim}
use Rattle.kz_model.specs.declared.step.Block.{Block}
use Rattle.kz_model.specs.declared.record.Plan.{Plan}
use Rattle.kz_model.specs.declared.record.Visit.{Visit}
use Rattle.kz_model.specs.declared.record.ZoneParams.{ZoneParams}
use Rattle.kz_model.specs.declared.supply.SupplyEntry.{SupplyEntry}
use Rattle.kz_model.specs.declared.supply.Ask.{Ask}
use Rattle.kz_model.specs.declared.supply.Ask.TheVariants.{Chunk as AskChunk, Frames, Back}
use Rattle.kz_model.specs.declared.supply.Answer.{Answer}
use Rattle.kz_model.specs.Zone.State.{Shared, CpuPart, ZoneState, opening, cpu_part}
use Rattle.kz_model.specs.Zone.Pick.{unmapped_place, ask_to_grow}
use Rattle.kz_model.specs.Zone.Rules.{Stepped, must_grow, refusal, asks_of_action, asks_of, part_of, put_back, all_answered, alone_step}
use Rattle.kz_model.specs.Zone.Alone.{Course, course, with_first, all_used}
use Rattle.kz_model.specs.Run.Journal.{params_of, log_at, asks_at, answers_at}
use Rattle.kz_model.specs.Run.Runs.{IsRun}
use Rattle.kz_laws.specs.Addresses.{IsFit, IsForZone, IsLog}

-- these asks are a zone's
abbrev AreForZone : ZoneParams → List Ask → Type 0
AreForZone p [] = Unit {0}
AreForZone p (ask ∷ asks) = IsForZone p ask × AreForZone p asks

both : (p : ZoneParams) (xs ys : List Ask) → AreForZone p xs → AreForZone p ys → AreForZone p (xs ++ ys)
both p [] ys here there = there
both p (x ∷ xs) ys here there = (here.0, both p xs ys here.1 there)

to_grow : (p : ZoneParams) (s : Shared) → IsForZone p (ask_to_grow p s)
to_grow p s = elim (is_some (unmapped_place s.chunks)) as (λ b. IsForZone p (if b then Frames p.pages else AskChunk p.submap p.pages)) [ true ↦ tt | false ↦ (refl, refl) ]

grows_or_not : (p : ZoneParams) (s : Shared) (b : Bool) → AreForZone p (if b then ask_to_grow p s ∷ [] else [])
grows_or_not p s true = (to_grow p s, tt)
grows_or_not p s false = tt

given_back : (p : ZoneParams) (n : ℕ) → AreForZone p (replicate n (Back p.pages))
given_back p zero = tt
given_back p (suc n) = (tt, given_back p n)

action_asks : (p : ZoneParams) (s : Shared) (stack : List Block) (step : Step) → AreForZone p (asks_of_action p s stack step)
action_asks p s stack (Alloc name) = grows_or_not p s ((length stack == 0) && must_grow s)
action_asks p s stack (AllocZero name) = grows_or_not p s ((length stack == 0) && must_grow s)
action_asks p s stack (Free name asked) = tt
action_asks p s stack (Give name to) = tt
action_asks p s stack (Take name) = tt
action_asks p s stack (Read name off len) = tt
action_asks p s stack (Write name off bytes) = tt
action_asks p s stack Flush = tt
action_asks p s stack Trim = given_back p _

step_asks : (p : ZoneParams) (s : Shared) (cpu : ℕ) (own : CpuPart) (step : Step) → AreForZone p (asks_of p s cpu own step)
step_asks p s cpu own step =
    elim (is_some (refusal p s cpu own step)) as (λ b. AreForZone p (if b then [] else asks_of_action p s own.stack step)) [ true ↦ tt | false ↦ action_asks p s own.stack step ]

asks_of_stepped : (p : ZoneParams) (b : Bool) (s o : Stepped) → AreForZone p s.asks → (if b then Some s else None) ≡ Some o → AreForZone p o.asks
asks_of_stepped p true s o are h = let same : s ≡ o = cc in subst (λ (o : Stepped). AreForZone p o.asks) same are
asks_of_stepped p false s o are h = absurd (cc)

same_course : (a c : Course) → Some a ≡ Some c → a ≡ c
same_course a c e = cc

-- the asks of a course
course_asks : (p : ZoneParams) (state : ZoneState) (steps : List (ℕ × Step)) (answers : List Answer) (c : Course) → course p state steps answers ≡ Some c → AreForZone p (flat_map (λ asks. asks) c.asks)
course_asks p state [] answers c made = subst (λ (c : Course). AreForZone p (flat_map (λ asks. asks) c.asks)) (same_course _ c made) tt
course_asks p state (step ∷ steps) answers c made =
    elim (alone_step p state step.0 step.1 answers) as (λ (o : Option Stepped). alone_step p state step.0 step.1 answers ≡ o →
    option_map_or (λ stepped. option_map_or (λ rest. Some (with_first state stepped rest)) (course p stepped.state steps stepped.left) None) o None ≡ Some c → AreForZone p (flat_map (λ asks. asks) c.asks)) [
      | None ↦ λ e f. absurd (cc)
      | Some o ↦ λ e f.
          let part = part_of p state.shared step.0 (cpu_part state step.0) step.1 answers in
          by_rest o (asks_of_stepped p (all_answered part.asks answers) (put_back state step.0 part) o (step_asks p state.shared step.0 (cpu_part state step.0) step.1) e) (course p o.state steps o.left) (λ r g. course_asks p o.state steps o.left r g) f
    ] refl made
  where
    by_rest : (o : Stepped) → AreForZone p o.asks → (r : Option Course) → ((rest : Course) → r ≡ Some rest → AreForZone p (flat_map (λ asks. asks) rest.asks)) → option_map_or (λ rest. Some (with_first state o rest)) r None ≡ Some c → AreForZone p (flat_map (λ asks. asks) c.asks)
    by_rest o are None again f = absurd (cc)
    by_rest o are (Some rest) again f =
        subst (λ (c : Course). AreForZone p (flat_map (λ asks. asks) c.asks)) (same_course _ c f) (both p o.asks (flat_map (λ asks. asks) rest.asks) are (again rest refl))

alone_course : (o : Option Course) (c : Course) → option_map_or all_used o None ≡ Some c → o ≡ Some c
alone_course None c h = absurd (cc)
alone_course (Some d) c h = used (length d.left == 0) h
  where
    used : (b : Bool) → (if b then Some d else None) ≡ Some c → Some d ≡ Some c
    used true h = h
    used false h = absurd (cc)

-- from each zone's asks to the entries of the log
later_asks : (p : ZoneParams) (zone : ℕ) (e : SupplyEntry) (log : List SupplyEntry) → AreForZone p (asks_at zone (e ∷ log)) → AreForZone p (asks_at zone log)
later_asks p zone e log =
    elim (e.zone == zone) as (λ b. AreForZone p (map (λ (entry : SupplyEntry). entry.ask) (if b then e ∷ log_at zone log else log_at zone log)) → AreForZone p (asks_at zone log)) [
      | true ↦ λ h. h.1
      | false ↦ λ h. h
    ]

first_ask : (p : ZoneParams) (e : SupplyEntry) (log : List SupplyEntry) → AreForZone p (asks_at e.zone (e ∷ log)) → IsForZone p e.ask
first_ask p e log h =
    let is : (e.zone == e.zone) ≡ true = grind arith in
    (subst (λ b. AreForZone p (map (λ (entry : SupplyEntry). entry.ask) (if b then e ∷ log_at e.zone log else log_at e.zone log))) is h).0

each_ask : (params : ℕ → ZoneParams) (zones : ℕ) (log : List SupplyEntry) → All (λ entry. entry.zone < zones) log → ((zone : ℕ) → zone < zones → AreForZone (params zone) (asks_at zone log)) →
    (k : ℕ) (d : SupplyEntry) → k < length log → IsForZone (params (slice_index_or log k d).zone) (slice_index_or log k d).ask
each_ask params zones [] below are k d lt = absurd (omega arith)
each_ask params zones (e ∷ log) below are zero d lt = first_ask (params e.zone) e log (are e.zone (below 0 d (omega arith)))
each_ask params zones (e ∷ log) below are (suc k) d lt =
    each_ask params zones log (λ k d lt. below (suc k) d (omega arith)) (λ zone in'. later_asks (params zone) zone e log (are zone in')) k d (omega arith)

pub run_has_log : (b : Bundle) (plan : Plan) (journals : List (List Visit)) (log : List SupplyEntry) → ((zone : ℕ) → zone < length plan.zones → IsFit (params_of b plan zone)) →
    IsRun b plan journals log → IsLog b.frames b.pages (params_of b plan) log
run_has_log b plan journals log fit run =
    record {
      fit = λ k d lt. fit (slice_index_or log k d).zone (run.of_zones k d lt);
      own = each_ask (params_of b plan) (length plan.zones) log run.of_zones (λ zone in'.
          let p = params_of b plan zone in
          let is = run.each zone in' in
          subst (AreForZone p) is.asked (course_asks p (opening p) (run.steps zone) (answers_at zone log) (run.made zone) (alone_course (course p (opening p) (run.steps zone) (answers_at zone log)) (run.made zone) is.alone)));
      answers = run.answered;
    }
