-- What a visit and a settling make of a zone's course in the run of an order.
use Rattle.std.proofs.Common.{◌≡◌, ◌<◌, ℕ, zero, suc, Bool, true, false, if◌then◌else◌, List, [], ◌∷◌, ◌++◌, length, replicate, Option, None, Some, refl, ap, sym, ◌∙◌, subst}
use Rattle.std.specs.Option.{option_map_or}
use Rattle.std.proofs.lemmas.List.{append-nil, map-append, get_or-set_same, length-set}
use Rattle.kz_model.specs.declared.bundle.Bundle.{Bundle}
use Rattle.kz_model.specs.declared.step.Step.{Step}
use Rattle.kz_model.specs.declared.record.Plan.{Plan}
use Rattle.kz_model.specs.declared.record.Visit.{Visit}
use Rattle.kz_model.specs.declared.record.ZoneParams.{ZoneParams}
use Rattle.kz_model.specs.declared.supply.Ask.{Ask}
use Rattle.kz_model.specs.declared.supply.Answer.{Answer}
use Rattle.kz_model.specs.Zone.State.{ZoneState, CpuPart, no_cpu_part, opening, cpu_part}
use Rattle.kz_model.specs.Zone.Rules.{Stepped, needs_visit, asks_of, part_of, put_back, all_answered, alone_step}
use Rattle.kz_model.specs.Zone.Alone.{Course, course, with_first}
use Rattle.kz_model.specs.Run.Journal.{params_of, steps_carried, spell_after, answers_at}
use Rattle.kz_model.specs.Zone.Late.{NeedNone, IsDelayed, by_cpu as steps_by}
use Rattle.kz_model.specs.Zone.Local.{local_answer, with_cpu_part}
use Rattle.kz_model.specs.Run.Order.{Progress, late}
use Rattle.kz_model.specs.Run.Runs.{needs_along}
use Rattle.kz_model.proofs.Commuting.{steps_alone}
use Rattle.kz_model.proofs.Courses.{joined}
use Rattle.kz_model.proofs.LateSteps.{late_course}
use Rattle.kz_model.proofs.MoreAnswers.{with_more, course-more}
use Rattle.kz_laws.proofs.OrderJournals.{all_asks, HasLengths, course_lengths, course_split, needs_along-append}
use Rattle.kz_laws.proofs.OrderLines.{spell_after-push, journal_at, InStep}
use Rattle.kz_laws.proofs.Parts.{same_part}
use Rattle.kz_laws.proofs.Played.{same_course}

-- ---- late steps

late_needs : (p : ZoneParams) (state : ZoneState) (cpu : ℕ) (steps : List Step) (answers : List Answer) (w : Course) → cpu < length state.own → NeedNone p (cpu_part state cpu) steps → course p state (steps_by cpu steps) answers ≡ Some w →
    needs_along p (steps_by cpu steps) w.before ≡ replicate (length steps) false
late_needs p state cpu [] answers w lt none made = ap (λ (w : Course). needs_along p [] w.before) (same_course w _ (sym made))
late_needs p state cpu (step ∷ steps) answers w lt none made =
    let own = (local_answer p (cpu_part state cpu) step).own in
    let next = with_cpu_part state cpu own in
    let o : Stepped = record { reply = (local_answer p (cpu_part state cpu) step).reply; state = next; asks = []; left = answers } in
    let mine : cpu_part next cpu ≡ own = get_or-set_same state.own cpu own no_cpu_part lt in
    by_rest o (course p next (steps_by cpu steps) answers)
    (λ rest is. late_needs p next cpu steps answers rest (subst (λ n. cpu < n) (sym (length-set state.own cpu own)) lt) (subst (λ (own : CpuPart). NeedNone p own steps) (sym mine) none.1) is)
    (sym (ap (λ (o : Option Stepped). option_map_or (λ stepped. option_map_or (λ rest. Some (with_first state stepped rest)) (course p stepped.state (steps_by cpu steps) stepped.left) None) o None) (steps_alone p state cpu step answers none.0)) ∙ made)
  where
    by_rest : (o : Stepped) (r : Option Course) → ((rest : Course) → r ≡ Some rest → needs_along p (steps_by cpu steps) rest.before ≡ replicate (length steps) false) → option_map_or (λ rest. Some (with_first state o rest)) r None ≡ Some w →
        needs_along p (steps_by cpu (step ∷ steps)) w.before ≡ false ∷ replicate (length steps) false
    by_rest o None again e = absurd (cc)
    by_rest o (Some rest) again e =
        ap (λ (w : Course). needs_along p (steps_by cpu (step ∷ steps)) w.before) (sym (same_course (with_first state o rest) w e))
        ∙ ap (λ (b : Bool). b ∷ needs_along p (steps_by cpu steps) rest.before) none.0
        ∙ ap (λ (l : List Bool). false ∷ l) (again rest refl)

no_asks_made : (n : ℕ) → all_asks (replicate n []) ≡ []
no_asks_made zero = refl
no_asks_made (suc n) = no_asks_made n

-- a CPU's late steps, settled: none needs a visit, and none asks
pub record IsSettling (p : ZoneParams) (cpu : ℕ) (steps : List Step) (w : Course) : Type 0 where
  pub needs : needs_along p (steps_by cpu steps) w.before ≡ replicate (length steps) false
  pub asks : all_asks w.asks ≡ []

pub settling_course : (p : ZoneParams) (state : ZoneState) (cpu : ℕ) (steps : List Step) (answers : List Answer) (w : Course) → cpu < length state.own → NeedNone p (cpu_part state cpu) steps → course p state (steps_by cpu steps) answers ≡ Some w →
    IsSettling p cpu steps w
settling_course p state cpu steps answers w lt none made =
    let by_late = late_course p state cpu steps answers lt none in
    let same : w ≡ by_late.0 = same_course w by_late.0 (sym made ∙ by_late.1) in
    record {
      needs = late_needs p state cpu steps answers w lt none made;
      asks = ap (λ (w : Course). all_asks w.asks) same ∙ ap all_asks by_late.2.asks ∙ no_asks_made (length steps);
    }

-- ---- a visit: the late steps, and one that needs it

pub record IsVisiting (p : ZoneParams) (cpu : ℕ) (steps : List Step) (step : Step) (asks : List Ask) (w : Course) : Type 0 where
  pub needs : needs_along p (steps_by cpu (steps ++ step ∷ [])) w.before ≡ replicate (length steps) false ++ true ∷ []
  pub asked : all_asks w.asks ≡ asks

-- `u` is the undelayed zone, where the step needs a visit
pub visiting_course : (p : ZoneParams) (u state : ZoneState) (cpu : ℕ) (late : ℕ → List Step) (step : Step) (answers : List Answer) (w : Course) → cpu < length state.own → IsDelayed p u state late →
    needs_visit p (cpu_part u cpu) step ≡ true → all_answered (asks_of p u.shared cpu (cpu_part u cpu) step) answers ≡ true → course p state (steps_by cpu (late cpu ++ step ∷ [])) answers ≡ Some w →
    IsVisiting p cpu (late cpu) step (asks_of p u.shared cpu (cpu_part u cpu) step) w
visiting_course p u state cpu late step answers w lt is need fit made =
    let steps = late cpu in
    let lates = steps_by cpu steps in
    let parted : steps_by cpu (steps ++ step ∷ []) ≡ lates ++ (cpu, step) ∷ [] = map-append (λ (step : Step). (cpu, step)) steps (step ∷ []) in
    let by_late = late_course p state cpu steps answers lt (is.none cpu lt) in
    let a = by_late.0 in
    let mid = a.end in
    let part = part_of p u.shared cpu (cpu_part u cpu) step answers in
    let end : mid ≡ with_cpu_part state cpu (cpu_part u cpu) = by_late.2.end ∙ ap (λ (own : CpuPart). with_cpu_part state cpu own) (sym (is.own cpu lt)) in
    let own : cpu_part mid cpu ≡ cpu_part u cpu = ap (λ (st : ZoneState). cpu_part st cpu) end ∙ get_or-set_same state.own cpu (cpu_part u cpu) no_cpu_part lt in
    let shared : u.shared ≡ mid.shared = is.shared ∙ sym (ap (λ (st : ZoneState). st.shared) end) in
    let split = course_split p state lates ((cpu, step) ∷ []) answers a w by_late.1 (ap (λ (l : List (ℕ × Step)). course p state l answers) (sym parted) ∙ made) in
    let there : alone_step p mid cpu step a.left ≡ Some (put_back mid cpu part) =
    ap (λ (left : List Answer). alone_step p mid cpu step left) by_late.2.left ∙ same_part p u mid cpu step answers shared (sym own) ∙ ap (λ b. if b then Some (put_back mid cpu part) else None) fit in
    let last : Course = with_first mid (put_back mid cpu part) (record { replies = []; asks = []; before = []; end = (put_back mid cpu part).state; left = part.left }) in
    let one : split.0 ≡ last = same_course split.0 last (sym split.1 ∙ ap (λ (o : Option Stepped). option_map_or (λ stepped. option_map_or (λ rest. Some (with_first mid stepped rest)) (course p stepped.state [] stepped.left) None) o None) there) in
    let whole : w ≡ joined a last = split.2 ∙ ap (joined a) one in
    let lengths = course_lengths p state lates answers a by_late.1 in
    record {
      needs = ap (λ (w : Course). needs_along p (steps_by cpu (steps ++ step ∷ [])) w.before) whole
          ∙ ap (λ (l : List (ℕ × Step)). needs_along p l (a.before ++ mid ∷ [])) parted
          ∙ needs_along-append p lates ((cpu, step) ∷ []) a.before (mid ∷ []) (sym lengths.before)
          ∙ ap (λ (l : List Bool). l ++ needs_visit p (cpu_part mid cpu) step ∷ []) (late_needs p state cpu steps answers a lt (is.none cpu lt) by_late.1)
          ∙ ap (λ (b : Bool). replicate (length steps) false ++ b ∷ []) (ap (λ (own : CpuPart). needs_visit p own step) own ∙ need);
      asked = ap (λ (w : Course). all_asks w.asks) whole
          ∙ ap (λ (l : List (List Ask)). all_asks (l ++ part.asks ∷ [])) by_late.2.asks
          ∙ one_asks (length steps) part.asks;
    }
  where
    one_asks : (n : ℕ) (asks : List Ask) → all_asks (replicate n [] ++ asks ∷ []) ≡ asks
    one_asks zero asks = append-nil asks
    one_asks (suc n) asks = one_asks n asks

-- ---- one more visit in the order's run

-- the steps and the course of a zone's journal with one more visit
pub record IsPushed (b : Bundle) (plan : Plan) (g h : Progress) (zone : ℕ) (here : List (ℕ × Step)) (new : List Answer) (steps others : List (ℕ × Step)) (c d w : Course) : Type 0 where
  pub steps_are : others ≡ steps ++ here
  pub there : course (params_of b plan zone) c.end here new ≡ Some w
  pub course_is : d ≡ joined (with_more new c) w
  pub lengths : HasLengths here w

same_steps : (a c : List (ℕ × Step)) → Some a ≡ Some c → a ≡ c
same_steps a c e = cc

pub pushed : (b : Bundle) (plan : Plan) (g h : Progress) (zone : ℕ) (v : Visit) (here : List (ℕ × Step)) (new : List Answer) (lines others : List (ℕ × Step)) (places there : List (ℕ × ℕ)) →
    (i : InStep b plan g zone lines places) (j : InStep b plan h zone others there) → steps_carried b plan zone (journal_at g zone) v ≡ Some here → journal_at h zone ≡ journal_at g zone ++ v ∷ [] → answers_at zone h.log ≡ answers_at zone g.log ++ new →
    (w : Course) × IsPushed b plan g h zone here new i.is.steps j.is.steps i.is.delayed j.is.delayed w
pushed b plan g h zone v here new lines others places there i j carries journal answers =
    let p = params_of b plan zone in
    let c = i.is.delayed in
    let steps : j.is.steps ≡ i.is.steps ++ here =
    same_steps j.is.steps (i.is.steps ++ here) (sym j.is.spelled ∙ ap (λ visits. spell_after b plan zone [] visits) journal ∙ spell_after-push b plan zone (journal_at g zone) [] v i.is.steps here i.is.spelled carries) in
    let first : course p (opening p) i.is.steps (answers_at zone g.log ++ new) ≡ Some (with_more new c) = course-more p (opening p) i.is.steps (answers_at zone g.log) new c i.is.alike.delayed_is in
    let all : course p (opening p) (i.is.steps ++ here) (answers_at zone g.log ++ new) ≡ Some j.is.delayed =
    ap (λ (l : List (ℕ × Step)). course p (opening p) l (answers_at zone g.log ++ new)) (sym steps) ∙ ap (λ (answers : List Answer). course p (opening p) j.is.steps answers) (sym answers) ∙ j.is.alike.delayed_is in
    let split = course_split p (opening p) i.is.steps here (answers_at zone g.log ++ new) (with_more new c) j.is.delayed first all in
    let used : c.left ++ new ≡ new = ap (λ (left : List Answer). left ++ new) (sym i.is.alike.left ∙ i.is.used) in
    let made : course p c.end here new ≡ Some split.0 = ap (λ (left : List Answer). course p c.end here left) (sym used) ∙ split.1 in
    (split.0, record { steps_are = steps; there = made; course_is = split.2; lengths = course_lengths p c.end here new split.0 made })

-- nothing that is read of the zone is new
pub record IsKeptAs (steps others : List (ℕ × Step)) (c d : Course) : Type 0 where
  pub steps_are : others ≡ steps
  pub course_is : d ≡ c

pub kept_as : (b : Bundle) (plan : Plan) (g h : Progress) (zone : ℕ) (lines others : List (ℕ × Step)) (places there : List (ℕ × ℕ)) (i : InStep b plan g zone lines places) (j : InStep b plan h zone others there) →
    journal_at h zone ≡ journal_at g zone → answers_at zone h.log ≡ answers_at zone g.log → IsKeptAs i.is.steps j.is.steps i.is.delayed j.is.delayed
kept_as b plan g h zone lines others places there i j journal answers =
    let p = params_of b plan zone in
    let steps : j.is.steps ≡ i.is.steps = same_steps j.is.steps i.is.steps (sym j.is.spelled ∙ ap (λ visits. spell_after b plan zone [] visits) journal ∙ i.is.spelled) in
    record {
      steps_are = steps;
      course_is = same_course j.is.delayed i.is.delayed
          (sym j.is.alike.delayed_is ∙ ap (λ (l : List (ℕ × Step)). course p (opening p) l (answers_at zone h.log)) steps ∙ ap (λ (answers : List Answer). course p (opening p) i.is.steps answers) answers ∙ i.is.alike.delayed_is);
    }
