-- What holds of each ask of a zone's steps holds of each of the zone's entries in a run's log.
use Rattle.std.proofs.Common.{◌≡◌, ◌<◌, ℕ, ◌==◌, Bool, true, false, if◌then◌else◌, List, [], ◌∷◌, length, map, Option, None, Some, refl, subst, arith}
use Rattle.std.specs.List.{AllByRecursion, flat_map}
use Rattle.std.specs.Option.{option_map_or}
use Rattle.std.proofs.lemmas.List.Elements.{recursion_from_All}
use Rattle.kz_model.specs.declared.bundle.Bundle.{Bundle}
use Rattle.kz_model.specs.declared.step.Step.{Step}
use Rattle.kz_model.specs.declared.record.Plan.{Plan}
use Rattle.kz_model.specs.declared.record.Visit.{Visit}
use Rattle.kz_model.specs.declared.record.ZoneParams.{ZoneParams}
use Rattle.kz_model.specs.declared.supply.SupplyEntry.{SupplyEntry}
use Rattle.kz_model.specs.declared.supply.Ask.{Ask}
use Rattle.kz_model.specs.declared.supply.Answer.{Answer}
use Rattle.kz_model.specs.Zone.State.{Shared, CpuPart, ZoneState, opening, cpu_part}
use Rattle.kz_model.specs.Zone.Rules.{Stepped, asks_of, part_of, put_back, all_answered, alone_step}
use Rattle.kz_model.specs.Zone.Alone.{Course, course, with_first, all_used}
use Rattle.kz_model.specs.Run.Journal.{params_of, log_at, asks_at, answers_at}
use Rattle.kz_model.specs.Run.Runs.{IsRun}
use Rattle.kz_laws.proofs.Each.{each-append}

-- ---- the asks of a course

module _ (P : Ask → Type 0) (p : ZoneParams) (of_step : (s : Shared) (cpu : ℕ) (own : CpuPart) (step : Step) → AllByRecursion P (asks_of p s cpu own step)) where
  abbrev AreAll : Course → Type 0
  AreAll c = AllByRecursion P (flat_map (λ asks. asks) c.asks)

  asks_of_stepped : (b : Bool) (s o : Stepped) → AllByRecursion P s.asks → (if b then Some s else None) ≡ Some o → AllByRecursion P o.asks
  asks_of_stepped true s o are h = let same : s ≡ o = cc in subst (λ (o : Stepped). AllByRecursion P o.asks) same are
  asks_of_stepped false s o are h = absurd (cc)

  same_course : (a c : Course) → Some a ≡ Some c → a ≡ c
  same_course a c e = cc

  course_asks : (state : ZoneState) (steps : List (ℕ × Step)) (answers : List Answer) (c : Course) → course p state steps answers ≡ Some c → AreAll c
  course_asks state [] answers c made = subst AreAll (same_course _ c made) tt
  course_asks state (step ∷ steps) answers c made =
      elim (alone_step p state step.0 step.1 answers) as (λ (o : Option Stepped). alone_step p state step.0 step.1 answers ≡ o →
      option_map_or (λ stepped. option_map_or (λ rest. Some (with_first state stepped rest)) (course p stepped.state steps stepped.left) None) o None ≡ Some c → AreAll c) [
        | None ↦ λ e f. absurd (cc)
        | Some o ↦ λ e f.
            let part = part_of p state.shared step.0 (cpu_part state step.0) step.1 answers in
            by_rest o (asks_of_stepped (all_answered part.asks answers) (put_back state step.0 part) o (of_step state.shared step.0 (cpu_part state step.0) step.1) e) (course p o.state steps o.left) (λ r g. course_asks o.state steps o.left r g) f
      ] refl made
    where
      by_rest : (o : Stepped) → AllByRecursion P o.asks → (r : Option Course) → ((rest : Course) → r ≡ Some rest → AreAll rest) → option_map_or (λ rest. Some (with_first state o rest)) r None ≡ Some c → AreAll c
      by_rest o are None again f = absurd (cc)
      by_rest o are (Some rest) again f = subst AreAll (same_course _ c f) (each-append P o.asks (flat_map (λ asks. asks) rest.asks) are (again rest refl))

alone_course : (o : Option Course) (c : Course) → option_map_or all_used o None ≡ Some c → o ≡ Some c
alone_course None c h = absurd (cc)
alone_course (Some d) c h = used (length d.left == 0) h
  where
    used : (b : Bool) → (if b then Some d else None) ≡ Some c → Some d ≡ Some c
    used true h = h
    used false h = absurd (cc)

-- ---- the entries of a log

module _ (P : ℕ → Ask → Type 0) where
  later_asks : (zone : ℕ) (e : SupplyEntry) (log : List SupplyEntry) → AllByRecursion (P zone) (asks_at zone (e ∷ log)) → AllByRecursion (P zone) (asks_at zone log)
  later_asks zone e log =
      elim (e.zone == zone) as (λ b. AllByRecursion (P zone) (map (λ (entry : SupplyEntry). entry.ask) (if b then e ∷ log_at zone log else log_at zone log)) → AllByRecursion (P zone) (asks_at zone log)) [
        | true ↦ λ h. h.1
        | false ↦ λ h. h
      ]

  first_ask : (e : SupplyEntry) (log : List SupplyEntry) → AllByRecursion (P e.zone) (asks_at e.zone (e ∷ log)) → P e.zone e.ask
  first_ask e log h =
      let is : (e.zone == e.zone) ≡ true = grind arith in
      (subst (λ b. AllByRecursion (P e.zone) (map (λ (entry : SupplyEntry). entry.ask) (if b then e ∷ log_at e.zone log else log_at e.zone log))) is h).0

  each_ask : (zones : ℕ) (log : List SupplyEntry) → AllByRecursion (λ e. e.zone < zones) log → ((zone : ℕ) → zone < zones → AllByRecursion (P zone) (asks_at zone log)) → AllByRecursion (λ e. P e.zone e.ask) log
  each_ask zones [] below are = tt
  each_ask zones (e ∷ log) below are = (first_ask e log (are e.zone below.0), each_ask zones log below.1 (λ zone in'. later_asks zone e log (are zone in')))

pub asks_of_run : (P : ℕ → Ask → Type 0) (b : Bundle) (plan : Plan) (journals : List (List Visit)) (log : List SupplyEntry) →
    ((zone : ℕ) (s : Shared) (cpu : ℕ) (own : CpuPart) (step : Step) → AllByRecursion (P zone) (asks_of (params_of b plan zone) s cpu own step)) → IsRun b plan journals log →
    AllByRecursion (λ e. P e.zone e.ask) log
asks_of_run P b plan journals log of_step run =
    each_ask P (length plan.zones) log (recursion_from_All (λ (e : SupplyEntry). e.zone < length plan.zones) log run.of_zones) (λ zone in'.
    let p = params_of b plan zone in
    let is = run.each zone in' in
    subst (AllByRecursion (P zone)) is.asked (course_asks (P zone) p (of_step zone) (opening p) (run.steps zone) (answers_at zone log) (run.made zone) (alone_course (course p (opening p) (run.steps zone) (answers_at zone log)) (run.made zone) is.alone)))
