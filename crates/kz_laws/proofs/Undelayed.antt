-- A zone in an order: its undelayed state beside the delayed one, at a late step, a visit and a settling.
use Rattle.std.proofs.Common.{◌≡◌, ◌≢◌, ◌<◌, ℕ, ◌==◌, Bool, true, false, if◌then◌else◌, List, [], ◌∷◌, ◌++◌, length, map, replicate, Option, None, Some, refl, ap, sym, ◌∙◌, subst, arith}
use Rattle.std.specs.Option.{option_map_or}
use Rattle.std.proofs.lemmas.Bool.{eqb-true}
use Rattle.std.proofs.lemmas.List.{get_or-set_same, get_or-set_other, length-set, ext_get_or}
use Rattle.kz_model.specs.declared.step.Step.{Step}
use Rattle.kz_model.specs.declared.step.Reply.{Reply}
use Rattle.kz_model.specs.declared.record.ZoneParams.{ZoneParams}
use Rattle.kz_model.specs.declared.supply.Answer.{Answer}
use Rattle.kz_model.specs.declared.supply.Ask.{Ask}
use Rattle.kz_model.specs.Zone.State.{Shared, ZoneState, CpuPart, no_cpu_part, cpu_part}
use Rattle.kz_model.specs.Zone.Rules.{Part, Stepped, needs_visit, part_of, put_back, all_answered, alone_step}
use Rattle.kz_model.specs.Zone.Alone.{Course, course, with_first}
use Rattle.kz_model.specs.Zone.Local.{local_answer, with_cpu_part}
use Rattle.kz_model.specs.Zone.Late.{NeedNone, part_after, IsDelayed}
use Rattle.kz_model.proofs.LateSteps.{replies_of, late_course, need_none-push, part_after-push}
use Rattle.kz_laws.proofs.Parts.{same_part}
use Rattle.kz_model.proofs.Courses.{joined, then_course, course-append}

-- this CPU, and each other
pub mine_or_other : (P : ℕ → Type 0) (cpu other : ℕ) → P cpu → (other ≢ cpu → P other) → P other
mine_or_other P cpu other here there =
    elim (other == cpu) as (λ b. (other == cpu) ≡ b → P other) [
      | true ↦ λ e. subst P (sym (eqb-true other cpu e)) here
      | false ↦ λ e. there (λ same. grind arith)
    ] refl

-- the late steps after a line or a settling: a CPU's anew, the others' as before
pub record IsLateNow (cpu : ℕ) (steps : List Step) (late now : ℕ → List Step) : Type 0 where
  pub mine : now cpu ≡ steps
  pub others : (other : ℕ) → other ≢ cpu → now other ≡ late other

-- a step that needs no visit is one more late step
pub one_more_late : (p : ZoneParams) (u d : ZoneState) (late now : ℕ → List Step) (cpu : ℕ) (step : Step) → cpu < length d.own → IsDelayed p u d late → needs_visit p (cpu_part u cpu) step ≡ false →
    IsLateNow cpu (late cpu ++ step ∷ []) late now →
    IsDelayed p (with_cpu_part u cpu (local_answer p (cpu_part u cpu) step).own) d now
one_more_late p u d late now cpu step lt is none new =
    let own = (local_answer p (cpu_part u cpu) step).own in
    let lt' : cpu < length u.own = subst (λ n. cpu < n) (sym is.cpus) lt in
    record {
      shared = is.shared;
      cpus = length-set u.own cpu own ∙ is.cpus;
      own = λ other in'.
          mine_or_other (λ other. other < length d.own → cpu_part (with_cpu_part u cpu own) other ≡ part_after p (cpu_part d other) (now other)) cpu other
          (λ in'. get_or-set_same u.own cpu own no_cpu_part lt' ∙ ap (λ (own : CpuPart). (local_answer p own step).own) (is.own cpu lt) ∙ sym (part_after-push p (cpu_part d cpu) (late cpu) step) ∙ ap (λ (steps : List Step). part_after p (cpu_part d cpu) steps) (sym new.mine))
          (λ ne in'. get_or-set_other u.own cpu other own no_cpu_part ne ∙ is.own other in' ∙ ap (λ (steps : List Step). part_after p (cpu_part d other) steps) (sym (new.others other ne)))
          in';
      none = λ other in'.
          mine_or_other (λ other. other < length d.own → NeedNone p (cpu_part d other) (now other)) cpu other
          (λ in'. subst (λ (steps : List Step). NeedNone p (cpu_part d cpu) steps) (sym new.mine) (need_none-push p (cpu_part d cpu) (late cpu) step (is.none cpu lt) (subst (λ (own : CpuPart). needs_visit p own step ≡ false) (is.own cpu lt) none)))
          (λ ne in'. subst (λ (steps : List Step). NeedNone p (cpu_part d other) steps) (sym (new.others other ne)) (is.none other in'))
          in';
    }

-- the delayed state with a CPU's late steps done
pub caught_up : (p : ZoneParams) (u d : ZoneState) (late now : ℕ → List Step) (cpu : ℕ) → cpu < length d.own → IsDelayed p u d late → IsLateNow cpu [] late now → IsDelayed p u (with_cpu_part d cpu (cpu_part u cpu)) now
caught_up p u d late now cpu lt is new =
    let mine : cpu_part (with_cpu_part d cpu (cpu_part u cpu)) cpu ≡ cpu_part u cpu = get_or-set_same d.own cpu (cpu_part u cpu) no_cpu_part lt in
    record {
      shared = is.shared;
      cpus = is.cpus ∙ sym (length-set d.own cpu (cpu_part u cpu));
      own = λ other in'.
          mine_or_other (λ other. cpu_part u other ≡ part_after p (cpu_part (with_cpu_part d cpu (cpu_part u cpu)) other) (now other)) cpu other
          (sym mine ∙ ap (λ (steps : List Step). part_after p (cpu_part (with_cpu_part d cpu (cpu_part u cpu)) cpu) steps) (sym new.mine))
          (λ ne. is.own other (subst (λ n. other < n) (length-set d.own cpu (cpu_part u cpu)) in')
          ∙ ap (λ (own : CpuPart). part_after p own (late other)) (sym (get_or-set_other d.own cpu other (cpu_part u cpu) no_cpu_part ne))
          ∙ ap (λ (steps : List Step). part_after p (cpu_part (with_cpu_part d cpu (cpu_part u cpu)) other) steps) (sym (new.others other ne)));
      none = λ other in'.
          mine_or_other (λ other. other < length d.own → NeedNone p (cpu_part (with_cpu_part d cpu (cpu_part u cpu)) other) (now other)) cpu other
          (λ in'. subst (λ (steps : List Step). NeedNone p (cpu_part (with_cpu_part d cpu (cpu_part u cpu)) cpu) steps) (sym new.mine) tt)
          (λ ne in'. subst (λ (steps : List Step). NeedNone p (cpu_part (with_cpu_part d cpu (cpu_part u cpu)) other) steps) (sym (new.others other ne))
          (subst (λ (own : CpuPart). NeedNone p own (late other)) (sym (get_or-set_other d.own cpu other (cpu_part u cpu) no_cpu_part ne)) (is.none other in')))
          (subst (λ n. other < n) (length-set d.own cpu (cpu_part u cpu)) in');
    }

-- a step's part put back in both, where the CPU has no late steps
pub both_step : (p : ZoneParams) (u d : ZoneState) (late : ℕ → List Step) (cpu : ℕ) (part : Part) → cpu < length d.own → IsDelayed p u d late → late cpu ≡ [] →
    IsDelayed p (put_back u cpu part).state (put_back d cpu part).state late
both_step p u d late cpu part lt is none =
    let own = part.effect.own in
    let lt' : cpu < length u.own = subst (λ n. cpu < n) (sym is.cpus) lt in
    record {
      shared = refl;
      cpus = length-set u.own cpu own ∙ is.cpus ∙ sym (length-set d.own cpu own);
      own = λ other in'.
          mine_or_other (λ other. cpu_part (with_cpu_part u cpu own) other ≡ part_after p (cpu_part (with_cpu_part d cpu own) other) (late other)) cpu other
          (get_or-set_same u.own cpu own no_cpu_part lt' ∙ sym (get_or-set_same d.own cpu own no_cpu_part lt) ∙ ap (λ (steps : List Step). part_after p (cpu_part (with_cpu_part d cpu own) cpu) steps) (sym none))
          (λ ne. get_or-set_other u.own cpu other own no_cpu_part ne ∙ is.own other (subst (λ n. other < n) (length-set d.own cpu own) in')
          ∙ ap (λ (own : CpuPart). part_after p own (late other)) (sym (get_or-set_other d.own cpu other own no_cpu_part ne)));
      none = λ other in'.
          mine_or_other (λ other. other < length d.own → NeedNone p (cpu_part (with_cpu_part d cpu own) other) (late other)) cpu other
          (λ in'. subst (λ (steps : List Step). NeedNone p (cpu_part (with_cpu_part d cpu own) cpu) steps) (sym none) tt)
          (λ ne in'. subst (λ (own : CpuPart). NeedNone p own (late other)) (sym (get_or-set_other d.own cpu other own no_cpu_part ne)) (is.none other in'))
          (subst (λ n. other < n) (length-set d.own cpu own) in');
    }

-- a zone without late steps is not delayed
pub none_late : (p : ZoneParams) (u d : ZoneState) (late : ℕ → List Step) → IsDelayed p u d late → ((cpu : ℕ) → cpu < length d.own → late cpu ≡ []) → u ≡ d
none_late p u d late is none =
    ap (λ (s : Shared). record { shared = s; own = u.own }) is.shared
    ∙ ap (λ (owns : List CpuPart). record { shared = d.shared; own = owns })
    (ext_get_or no_cpu_part u.own d.own is.cpus (λ cpu in'. let lt : cpu < length d.own = subst (λ n. cpu < n) is.cpus in' in is.own cpu lt ∙ ap (λ (steps : List Step). part_after p (cpu_part d cpu) steps) (none cpu lt)))

-- the course of a CPU's late steps, settled
pub record IsSettled (p : ZoneParams) (u d : ZoneState) (late now : ℕ → List Step) (cpu : ℕ) (answers : List Answer) (c : Course) : Type 0 where
  pub made : course p d (map (λ step. (cpu, step)) (late cpu)) answers ≡ Some c
  pub replies : c.replies ≡ replies_of p (cpu_part d cpu) (late cpu)
  pub asks : c.asks ≡ replicate (length (late cpu)) []
  pub left : c.left ≡ answers
  pub state : IsDelayed p u c.end now
  pub others : (other : ℕ) → other ≢ cpu → cpu_part c.end other ≡ cpu_part d other

pub settles : (p : ZoneParams) (u d : ZoneState) (late now : ℕ → List Step) (cpu : ℕ) (answers : List Answer) → cpu < length d.own → IsDelayed p u d late → IsLateNow cpu [] late now →
    (c : Course) × IsSettled p u d late now cpu answers c
settles p u d late now cpu answers lt is new =
    let by_late = late_course p d cpu (late cpu) answers lt (is.none cpu lt) in
    let end : by_late.0.end ≡ with_cpu_part d cpu (cpu_part u cpu) = by_late.2.end ∙ ap (λ (own : CpuPart). with_cpu_part d cpu own) (sym (is.own cpu lt)) in (
      by_late.0,
      record {
        made = by_late.1;
        replies = by_late.2.replies;
        asks = by_late.2.asks;
        left = by_late.2.left;
        state = subst (λ (st : ZoneState). IsDelayed p u st now) (sym end) (caught_up p u d late now cpu lt is new);
        others = λ other ne. ap (λ (st : ZoneState). cpu_part st other) end ∙ get_or-set_other d.own cpu other (cpu_part u cpu) no_cpu_part ne;
      },
    )

-- a visit's course: the CPU's late steps, and then this one
pub record IsVisited (p : ZoneParams) (d : ZoneState) (late now : ℕ → List Step) (cpu : ℕ) (step : Step) (answers : List Answer) (o : Stepped) (c : Course) : Type 0 where
  pub made : course p d (map (λ step. (cpu, step)) (late cpu) ++ (cpu, step) ∷ []) answers ≡ Some c
  pub replies : c.replies ≡ replies_of p (cpu_part d cpu) (late cpu) ++ o.reply ∷ []
  pub asks : c.asks ≡ replicate (length (late cpu)) [] ++ o.asks ∷ []
  pub left : c.left ≡ o.left
  pub state : IsDelayed p o.state c.end now
  pub others : (other : ℕ) → other ≢ cpu → cpu_part c.end other ≡ cpu_part d other

part_answered : (b : Bool) (s o : Stepped) → (if b then Some s else None) ≡ Some o → (b ≡ true) × (s ≡ o)
part_answered true s o h = (refl, cc)
part_answered false s o h = absurd (cc)

pub visits : (p : ZoneParams) (u d : ZoneState) (late now : ℕ → List Step) (cpu : ℕ) (step : Step) (answers : List Answer) (o : Stepped) → cpu < length d.own → IsDelayed p u d late → IsLateNow cpu [] late now →
    alone_step p u cpu step answers ≡ Some o →
    (c : Course) × IsVisited p d late now cpu step answers o c
visits p u d late now cpu step answers o lt is new made =
    let done = settles p u d late now cpu answers lt is new in
    let mid = done.0.end in
    let part = part_of p u.shared cpu (cpu_part u cpu) step answers in
    let in-mid : cpu < length mid.own = subst (λ n. cpu < n) (sym is.cpus ∙ done.1.state.cpus) lt in
    let fit = part_answered (all_answered part.asks answers) (put_back u cpu part) o made in
    let there : alone_step p mid cpu step answers ≡ Some (put_back mid cpu part) =
    same_part p u mid cpu step answers done.1.state.shared (done.1.state.own cpu in-mid ∙ ap (λ (steps : List Step). part_after p (cpu_part mid cpu) steps) new.mine)
    ∙ ap (λ b. if b then Some (put_back mid cpu part) else None) fit.0 in
    let last : Course = with_first mid (put_back mid cpu part) (record { replies = []; asks = []; before = []; end = (put_back mid cpu part).state; left = part.left }) in
    let one : course p mid ((cpu, step) ∷ []) answers ≡ Some last =
    ap (λ (o : Option Stepped). option_map_or (λ stepped. option_map_or (λ rest. Some (with_first mid stepped rest)) (course p stepped.state [] stepped.left) None) o None) there in (
      joined done.0 last,
      record {
        made = course-append p d (map (λ step. (cpu, step)) (late cpu)) ((cpu, step) ∷ []) answers
            ∙ ap (λ (r : Option Course). then_course r (λ st left. course p st ((cpu, step) ∷ []) left)) done.1.made
            ∙ ap (λ (r : Option Course). option_map_or (λ b. Some (joined done.0 b)) r None) (ap (λ left. course p mid ((cpu, step) ∷ []) left) done.1.left ∙ one);
        replies = ap (λ (r : List Reply). r ++ part.effect.reply ∷ []) done.1.replies ∙ ap (λ (o : Stepped). replies_of p (cpu_part d cpu) (late cpu) ++ o.reply ∷ []) fit.1;
        asks = ap (λ (r : List (List Ask)). r ++ part.asks ∷ []) done.1.asks ∙ ap (λ (o : Stepped). replicate (length (late cpu)) [] ++ o.asks ∷ []) fit.1;
        left = ap (λ (o : Stepped). o.left) fit.1;
        state = subst (λ (o : Stepped). IsDelayed p o.state (put_back mid cpu part).state now) fit.1 (both_step p u mid now cpu part in-mid done.1.state new.mine);
        others = λ other ne. get_or-set_other mid.own cpu other part.effect.own no_cpu_part ne ∙ done.1.others other ne;
      },
    )
