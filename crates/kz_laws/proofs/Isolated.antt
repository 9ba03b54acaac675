-- Runs keep their zones apart.
use Rattle.std.proofs.Common.{◌≡◌, inl, inr, ℕ, ◌+◌, ◌*◌, ◌<◌, ◌≤◌, ◌==◌, ◌&&◌, nat_le, Bool, true, if◌then◌else◌, List, [], ◌∷◌, ◌++◌, length, take, drop, map, slice_index, slice_index_or, Option, Some, None, All, refl, ap, sym, subst, ◌∙◌, arith}
use Rattle.std.specs.List.{AllByRecursion, filter}
use Rattle.std.proofs.Math.ListN.{get_or-eq_default}
use Rattle.std.proofs.lemmas.Option.{same_Some}
use Rattle.std.specs.Option.{option_map_or}
use Rattle.std.proofs.lemmas.Bool.{eq-eqb, cases_lt}
use Rattle.kz_model.specs.declared.bundle.Bundle.{Bundle}
use Rattle.kz_model.specs.declared.bundle.TraceStep.{TraceStep}
use Rattle.kz_model.specs.declared.record.Plan.{Plan}
use Rattle.kz_model.specs.declared.record.Visit.{Visit}
use Rattle.kz_model.specs.declared.record.ZoneParams.{ZoneParams}
use Rattle.kz_model.specs.declared.step.Block.{Block}
use Rattle.kz_model.specs.declared.step.Step.{Step}
use Rattle.kz_model.specs.Zone.State.{ZoneState}
use Rattle.kz_model.specs.Zone.Alone.{Course}
use Rattle.kz_model.specs.Run.Journal.{params_of, zone_row, steps_among, steps_of, carried, steps_carried, spell_after, answers_at}
use Rattle.kz_model.specs.Run.Runs.{Carries}
use Rattle.kz_laws.specs.Agreement.{numbered_course}
use Rattle.kz_model.specs.Zone.Whole.{IsWhole}
use Rattle.kz_laws.specs.Addresses.{IsAddress}
use Rattle.kz_model.specs.Run.Journal.{bases}
use Rattle.kz_model.specs.Types.Planned.{IsFitRow}
use Rattle.kz_laws.specs.Isolation.{AreBlocksWithin, HoldsAlong, IsLiveOnce, RunsAreIsolated}
use Rattle.kz_laws.specs.PlayedAt.{IsReplyWithin}
use Rattle.kz_laws.proofs.WholeCourses.{AreByCpus, IsWholeBelow, chunk_count, chained, chosen, alone_whole, whole_along, blocks_within}
use Rattle.kz_laws.proofs.Agreeing.{alone-own}
use Rattle.kz_laws.proofs.ChunksApart.{one_chunk}
use Rattle.kz_laws.proofs.LiveApart.{live_once, one_block, same_block}
use Rattle.kz_laws.proofs.RunLogs.{run_has_log}

-- ---- the CPUs of a run's steps

abbrev AreOfCpus : ℕ → List Visit → Type 0
AreOfCpus cpus visits = AllByRecursion (λ v. v.cpu < cpus) visits

-- each visit is counted among the steps that its CPU and round carry
counted : (visits : List Visit) (needs : List Bool) → Carries visits needs → AllByRecursion (λ v. 1 ≤ carried v.cpu v.round visits) visits
counted visits needs h = within visits [] visits needs h (λ cpu round. omega arith)
  where
    same_one : (n : ℕ) → (n == n) ≡ true
    same_one n = eq-eqb n n refl

    mine : (v : Visit) → (if (v.cpu == v.cpu) && (v.round == v.round) then v.count else 0) ≡ v.count
    mine v = ap (λ t. if t && (v.round == v.round) then v.count else 0) (same_one v.cpu) ∙ ap (λ t. if t then v.count else 0) (same_one v.round)

    within : (all : List Visit) (earlier later : List Visit) (needs : List Bool) → Carries later needs → ((cpu round : ℕ) → carried cpu round later ≤ carried cpu round all) → AllByRecursion (λ v. 1 ≤ carried v.cpu v.round all) later
    within all earlier [] needs h most = tt
    within all earlier (v ∷ later) needs h most = (
      omega (arith, h.0, mine v, most v.cpu v.round),
      within all earlier later (drop v.count needs) h.2 (λ cpu round. omega (arith, most cpu round)),
    )

no_steps : (b : Bundle) (plan : Plan) (cpu zone round : ℕ) → length b.traces ≡ b.cpus → b.cpus ≤ cpu → steps_of b plan cpu zone round ≡ []
no_steps b plan cpu zone round traces beyond =
    ap (λ (lines : List TraceStep). steps_among b plan zone (filter (λ line. line.round == round) lines)) (get_or-eq_default b.traces [] (omega (arith, traces, beyond)))

-- so each is of one of the CPUs
visits_of_cpus : (b : Bundle) (plan : Plan) (zone : ℕ) (all visits : List Visit) → length b.traces ≡ b.cpus → ((cpu round : ℕ) → carried cpu round all ≡ length (steps_of b plan cpu zone round)) →
    AllByRecursion (λ v. 1 ≤ carried v.cpu v.round all) visits → AreOfCpus b.cpus visits
visits_of_cpus b plan zone all [] traces complete h = tt
visits_of_cpus b plan zone all (v ∷ visits) traces complete h = (
  elim (cases_lt v.cpu b.cpus) [
    | inl lt ↦ lt
    | inr beyond ↦ absurd (omega (arith, h.0, complete v.cpu v.round, ap length (no_steps b plan v.cpu zone v.round traces beyond)))
  ],
  visits_of_cpus b plan zone all visits traces complete h.1,
)

by_cpus-map : (cpus cpu : ℕ) (steps : List Step) → cpu < cpus → AreByCpus cpus (map (λ step. (cpu, step)) steps)
by_cpus-map cpus cpu [] lt = tt
by_cpus-map cpus cpu (step ∷ steps) lt = (lt, by_cpus-map cpus cpu steps lt)

by_cpus-append : (cpus : ℕ) (xs ys : List (ℕ × Step)) → AreByCpus cpus xs → AreByCpus cpus ys → AreByCpus cpus (xs ++ ys)
by_cpus-append cpus [] ys hx hy = hy
by_cpus-append cpus (x ∷ xs) ys hx hy = (hx.0, by_cpus-append cpus xs ys hx.1 hy)

spelled_by_cpus : (b : Bundle) (plan : Plan) (zone : ℕ) (earlier visits : List Visit) (steps : List (ℕ × Step)) → AreOfCpus b.cpus visits → spell_after b plan zone earlier visits ≡ Some steps → AreByCpus b.cpus steps
spelled_by_cpus b plan zone earlier [] steps h is = subst (AreByCpus b.cpus) (same_Some [] steps is) tt
spelled_by_cpus b plan zone earlier (v ∷ visits) steps h is =
    let more = λ (here : List (ℕ × Step)). option_map_or (λ (rest : List (ℕ × Step)). Some (here ++ rest)) (spell_after b plan zone (earlier ++ v ∷ []) visits) None in
    let first = chained more (steps_carried b plan zone earlier v) steps is in
    let second = chained (λ (rest : List (ℕ × Step)). Some (first.0 ++ rest)) (spell_after b plan zone (earlier ++ v ∷ []) visits) steps first.2 in
    let mine = steps_of b plan v.cpu zone v.round in
    let from = carried v.cpu v.round earlier in
    let next = map (λ step. (v.cpu, step)) (take v.count (drop from mine)) in
    let here_is : next ≡ first.0 = (chosen (nat_le (from + v.count) (length mine)) next first.0 first.1).1 in
    subst (AreByCpus b.cpus) (same_Some (first.0 ++ second.0) steps second.2)
    (by_cpus-append b.cpus first.0 second.0 (subst (AreByCpus b.cpus) here_is (by_cpus-map b.cpus v.cpu (take v.count (drop from mine)) h.0))
    (spelled_by_cpus b plan zone (earlier ++ v ∷ []) visits second.0 h.1 second.1))

-- ---- addresses

-- two blocks of one chunk at an address are one
same_element : (p : ZoneParams) (page x : ℕ) (one other : Block) → p.count * p.element ≤ 4096 * p.pages → one.chunk ≡ other.chunk → IsAddress p page one x → IsAddress p page other x → one ≡ other
same_element p page x one other fit chunk here there =
    same_block one other chunk
    (one_block p (λ ordinal. page) 1 x (record { chunk = 0; index = one.index }) (record { chunk = 0; index = other.index }) fit (λ j k at lt lt' lo hi lo' hi'. omega (arith, lt, lt')) (omega arith) here.element (omega arith) there.element here.from here.below there.from there.below).1

-- ---- a run

pub runs_are_isolated : RunsAreIsolated
runs_are_isolated b plan journals log valid rows run =
    let fit = λ (zone : ℕ) (lt : zone < length plan.zones). row_fits b plan zone rows lt in
    let is_log = run_has_log b plan journals log (λ zone lt. let f = fit zone lt in record { elements = f.shape.within; submap = f.submap }) run in
    let whole_at = λ (zone : ℕ) (lt : zone < length plan.zones).
    let at = run.each zone lt in
    let visits = slice_index_or journals zone [] in
    let cpus = visits_of_cpus b plan zone visits visits valid.traces at.complete (counted visits _ at.carries) in
    let steps = spelled_by_cpus b plan zone [] visits (run.steps zone) cpus (run.spelled zone lt) in
    alone_whole (params_of b plan zone) (run.steps zone) (answers_at zone log) (run.made zone)
    (fit zone lt).shape.some_count valid.magazine.0 steps at.alone in
    let all_along = λ (zone : ℕ) (lt : zone < length plan.zones) (P : ZoneState → Type 0)
    (f : (state : ZoneState) → IsWholeBelow (params_of b plan zone) (chunk_count (run.made zone).end) state → P state).
    whole_along (params_of b plan zone) (answers_at zone log) (run.made zone) P f (whole_at zone lt) in
    record {
      steps = run.steps;
      made = run.made;
      spelled = run.spelled;
      answered = λ zone lt. (run.each zone lt).alone;
      own = λ zone lt.
          alone-own (params_of b plan zone) (run.steps zone) (answers_at zone log)
          ∙ ap (λ (o : Option Course). option_map_or (λ (c : Course). Some (numbered_course (run.steps zone) c)) o None) (run.each zone lt).alone;
      whole = λ zone lt. all_along zone lt (IsWhole (params_of b plan zone)) (λ state below. below.whole);
      once = λ zone lt.
          let p = params_of b plan zone in
          all_along zone lt IsLiveOnce (λ state below block. live_once p state block below.whole);
      apart = λ y z x one other in-y in-z chunk chunk' here there.
          let same = one_chunk b.frames b.pages (params_of b plan) log valid.pages is_log y z x one other chunk chunk' here there in
          let moved : IsAddress (params_of b plan y) (slice_index (bases y log) one.chunk) other x =
          subst (λ ordinal. IsAddress (params_of b plan y) (slice_index (bases y log) ordinal) other x) (sym same.1)
          (subst (λ zone. IsAddress (params_of b plan zone) (slice_index (bases zone log) other.chunk) other x) (sym same.0) there) in
          (same.0, same_element (params_of b plan y) (slice_index (bases y log) one.chunk) x one other (fit y in-y).shape.within same.1 here moved);
      answered_within = λ zone lt.
          let is = whole_at zone lt in
          subst (λ n. AllByRecursion (IsReplyWithin n) (run.made zone).replies) (sym is.chunks) is.course.replies;
      within = λ zone lt.
          let p = params_of b plan zone in
          subst (λ n. HoldsAlong (AreBlocksWithin p n) (run.made zone)) (sym (whole_at zone lt).chunks)
          (all_along zone lt (AreBlocksWithin p (chunk_count (run.made zone).end))
          (λ state below. blocks_within p (chunk_count (run.made zone).end) state below.whole below.few));
      bases = λ zone lt. (whole_at zone lt).chunks;
    }
  where
    row_fits : (b : Bundle) (plan : Plan) (zone : ℕ) → All IsFitRow plan.zones → zone < length plan.zones → IsFitRow (zone_row plan zone)
    row_fits b plan zone rows lt = rows zone _ lt
