-- Lines of one zone in an order, with visits as they are needed.
use Rattle.std.proofs.Common.{◌≡◌, ◌≢◌, ◌<◌, ◌≤◌, ℕ, zero, suc, ◌==◌, ◌+◌, true, false, if◌then◌else◌, List, [], ◌∷◌, ◌++◌, Option, None, Some, refl, ap, sym, ◌∙◌, subst, arith, append_assoc}
use Rattle.std.specs.List.{All, fold, range_with_len}
use Rattle.std.specs.Option.{option_map_or}
use Rattle.std.proofs.lemmas.List.{append-nil}
use Rattle.std.proofs.lemmas.List.Elements.{All-head, All-tail}
use Rattle.kz_model.specs.declared.step.Step.{Step}
use Rattle.kz_model.specs.declared.record.ZoneParams.{ZoneParams}
use Rattle.kz_model.specs.declared.supply.Answer.{Answer}
use Rattle.kz_model.specs.Zone.State.{ZoneState, CpuPart, opening, cpu_part}
use Rattle.kz_model.specs.Zone.Rules.{Stepped, needs_visit, alone_step}
use Rattle.kz_model.specs.Zone.Alone.{Course, course, with_first}
use Rattle.kz_model.specs.Zone.Late.{NeedNone, part_after, answered_late, answered_by, AnswersAlike, Delay, on_time, with_late, by_cpu as steps_by, state_after, delayed_line, settled_late, delayed_lines, settled_lines}
use Rattle.kz_model.proofs.Commuting.{steps_alone}
use Rattle.kz_laws.proofs.Undelayed.{IsLateNow, none_late}
use Rattle.kz_laws.proofs.Alike.{with_line, cpus_of, cpu_in, alike_late, alike_settled, alike_visited}

with_late_now : (cpu : ℕ) (steps : List Step) (late : ℕ → List Step) → IsLateNow cpu steps late (with_late cpu steps late)
with_late_now cpu steps late = record { mine = let is : (cpu == cpu) ≡ true = grind arith in rw is refl; others = λ other ne. let is : (other == cpu) ≡ false = grind arith in rw is refl }

-- the state after what visits made and a CPU's late steps is the undelayed one in what is shared and in what that CPU has
pub caught_up_state : (p : ZoneParams) (lines made : List (ℕ × Step)) (late : ℕ → List Step) (answers : List Answer) (u c : Course) (cpu : ℕ) → cpu < p.cpus → AnswersAlike p lines made late answers u c →
    ((state_after p answers (made ++ steps_by cpu (late cpu))).shared ≡ u.end.shared) × (cpu_part (state_after p answers (made ++ steps_by cpu (late cpu))) cpu ≡ cpu_part u.end cpu)
caught_up_state p lines made late answers u c cpu lt is =
    let new = with_late_now cpu [] late in
    let done = alike_settled p lines made late (with_late cpu [] late) answers u c cpu lt is new in
    let steps = made ++ steps_by cpu (late cpu) in
    let end : state_after p answers steps ≡ done.0.end = ap (λ (r : Option Course). option_map_or (λ (c : Course). c.end) r (opening p)) done.1.delayed_is in
    let own : cpu_part u.end cpu ≡ cpu_part done.0.end cpu = done.1.state.own cpu (cpu_in p steps answers done.0 cpu done.1.delayed_is lt) ∙ ap (λ (steps : List Step). part_after p (cpu_part done.0.end cpu) steps) new.mine in
    (ap (λ (st : ZoneState). st.shared) end ∙ sym done.1.state.shared, ap (λ (st : ZoneState). cpu_part st cpu) end ∙ sym own)

-- one line
line_alike : (p : ZoneParams) (lines : List (ℕ × Step)) (answers : List Answer) (d : Delay) (u c : Course) (line : ℕ × Step) (o : Stepped) → line.0 < p.cpus → AnswersAlike p lines d.made d.late answers u c →
    alone_step p u.end line.0 line.1 u.left ≡ Some o →
    let e = delayed_line p answers d line in (b : Course) × AnswersAlike p (lines ++ line ∷ []) e.made e.late answers (with_line u o) b
line_alike p lines answers d u c line o lt is next =
    let cpu = line.0 in
    let state = state_after p answers (d.made ++ steps_by cpu (d.late cpu)) in
    let same : cpu_part state cpu ≡ cpu_part u.end cpu = (caught_up_state p lines d.made d.late answers u c cpu lt is).1 in
    elim (needs_visit p (cpu_part state cpu) line.1) as (λ b. needs_visit p (cpu_part state cpu) line.1 ≡ b →
    let e : Delay = if b then record { made = d.made ++ (steps_by cpu (d.late cpu) ++ line ∷ []); late = with_late cpu [] d.late } else record d { late = with_late cpu (d.late cpu ++ line.1 ∷ []) d.late } in
    (b : Course) × AnswersAlike p (lines ++ line ∷ []) e.made e.late answers (with_line u o) b) [
      | true ↦ λ e. let now = alike_visited p lines d.made d.late (with_late cpu [] d.late) answers u c cpu line.1 o lt is next (with_late_now cpu [] d.late) in (now.0, now.1)
      | false ↦ λ e.
          let none : needs_visit p (cpu_part u.end cpu) line.1 ≡ false = subst (λ (own : CpuPart). needs_visit p own line.1 ≡ false) same e in (
            c,
            subst (λ (o : Stepped). AnswersAlike p (lines ++ line ∷ []) d.made (with_late cpu (d.late cpu ++ line.1 ∷ []) d.late) answers (with_line u o) c) (same_step _ o (sym (steps_alone p u.end cpu line.1 u.left none) ∙ next))
                (alike_late p lines d.made d.late (with_late cpu (d.late cpu ++ line.1 ∷ []) d.late) answers u c cpu line.1 lt is none (with_late_now cpu (d.late cpu ++ line.1 ∷ []) d.late)),
          )
    ] refl
  where
    same_step : (a b : Stepped) → Some a ≡ Some b → a ≡ b
    same_step a b e = cc

-- the first step of a course, and its rest
first_step : (state : ZoneState) (o : Option Stepped) (go : Stepped → Option Course) (r : Course) → option_map_or (λ stepped. option_map_or (λ rest. Some (with_first state stepped rest)) (go stepped) None) o None ≡ Some r →
    (s : Stepped) × (rest : Course) × (o ≡ Some s) × (go s ≡ Some rest)
first_step state None go r h = absurd (cc)
first_step state (Some s) go r h = let more = rest_of (go s) h in (s, more.0, refl, more.1)
  where
    rest_of : (g : Option Course) → option_map_or (λ rest. Some (with_first state s rest)) g None ≡ Some r → (rest : Course) × (g ≡ Some rest)
    rest_of None h = absurd (cc)
    rest_of (Some rest) h = (rest, refl)

-- lines after these
lines_alike : (p : ZoneParams) (answers : List Answer) (lines before : List (ℕ × Step)) (d : Delay) (u c r : Course) → All (λ line. line.0 < p.cpus) lines → AnswersAlike p before d.made d.late answers u c →
    course p u.end lines u.left ≡ Some r →
    let e = fold (delayed_line p answers) d lines in (v : Course) × (b : Course) × AnswersAlike p (before ++ lines) e.made e.late answers v b
lines_alike p answers [] before d u c r below is made =
    (u, c, subst (λ (lines : List (ℕ × Step)). AnswersAlike p lines d.made d.late answers u c) (sym (append-nil before)) is)
lines_alike p answers (line ∷ lines) before d u c r below is made =
    let next = first_step u.end (alone_step p u.end line.0 line.1 u.left) (λ stepped. course p stepped.state lines stepped.left) r made in
    let one = line_alike p before answers d u c line next.0 (All-head (λ (line : ℕ × Step). line.0 < p.cpus) line lines below) is next.2 in
    let more = lines_alike p answers lines (before ++ line ∷ []) (delayed_line p answers d line) (with_line u next.0) one.0 next.1 (All-tail (λ (line : ℕ × Step). line.0 < p.cpus) line lines below) one.1 next.3 in
    (more.0, more.1, subst (λ (all : List (ℕ × Step)). let e = fold (delayed_line p answers) (delayed_line p answers d line) lines in AnswersAlike p all e.made e.late answers more.0 more.1) (append_assoc before (line ∷ []) lines) more.2)

abbrev pub no_steps : ZoneParams → List Answer → Course
no_steps p answers = record { replies = []; asks = []; before = []; end = opening p; left = answers }

pub alike_none : (p : ZoneParams) (late : ℕ → List Step) (answers : List Answer) → ((cpu : ℕ) → late cpu ≡ []) → AnswersAlike p [] [] late answers (no_steps p answers) (no_steps p answers)
alike_none p late answers none =
    record {
      undelayed_is = refl;
      delayed_is = refl;
      left = refl;
      asks = refl;
      state = record {
        shared = refl;
        cpus = refl;
        own = λ cpu lt. ap (λ (steps : List Step). part_after p (cpu_part (opening p) cpu) steps) (sym (none cpu));
        none = λ cpu lt. subst (λ (steps : List Step). NeedNone p (cpu_part (opening p) cpu) steps) (sym (none cpu)) tt;
      };
      replies = λ cpu lt. ap (λ (steps : List Step). answered_late p (cpu_part (opening p) cpu) steps) (sym (none cpu));
    }

same_course : (a b : Course) → Some a ≡ Some b → a ≡ b
same_course a b e = cc

pub alike_by_lines : (p : ZoneParams) (lines : List (ℕ × Step)) (answers : List Answer) (u : Course) → All (λ line. line.0 < p.cpus) lines → course p (opening p) lines answers ≡ Some u →
    let d = delayed_lines p answers lines in (c : Course) × AnswersAlike p lines d.made d.late answers u c
alike_by_lines p lines answers u below made =
    let all = lines_alike p answers lines [] on_time (no_steps p answers) (no_steps p answers) u below (alike_none p (λ cpu. []) answers (λ cpu. refl)) made in
    (all.1, subst (λ (v : Course). let d = delayed_lines p answers lines in AnswersAlike p lines d.made d.late answers v all.1) (same_course all.0 u (sym all.2.undelayed_is ∙ made)) all.2)

-- CPUs settle, one by one
settled_alike : (p : ZoneParams) (lines : List (ℕ × Step)) (answers : List Answer) (n from : ℕ) (d : Delay) (u c : Course) → from + n ≤ p.cpus → AnswersAlike p lines d.made d.late answers u c →
    let e = fold settled_late d (range_with_len from n) in (b : Course) × AnswersAlike p lines e.made e.late answers u b
settled_alike p lines answers zero from d u c le is = (c, is)
settled_alike p lines answers (suc n) from d u c le is =
    let one = alike_settled p lines d.made d.late (with_late from [] d.late) answers u c from (omega arith) is (with_late_now from [] d.late) in
    settled_alike p lines answers n (from + 1) (settled_late d from) u one.0 (omega arith) one.1

-- and then have no late steps
settled_none : (n from : ℕ) (d : Delay) (cpu : ℕ) → cpu < from + n → (cpu < from → d.late cpu ≡ []) → (fold settled_late d (range_with_len from n)).late cpu ≡ []
settled_none zero from d cpu lt is = is (omega arith)
settled_none (suc n) from d cpu lt is =
    settled_none n (from + 1) (settled_late d from) cpu (omega arith)
    (λ below.
    elim (cpu == from) as (λ b. (cpu == from) ≡ b → (if b then [] else d.late cpu) ≡ []) [
      | true ↦ λ e. refl
      | false ↦ λ e. is (let ne : cpu ≢ from = grind arith in omega arith)
    ] refl)

pub alike_when_settled : (p : ZoneParams) (lines : List (ℕ × Step)) (answers : List Answer) (u : Course) → All (λ line. line.0 < p.cpus) lines → course p (opening p) lines answers ≡ Some u →
    let made = (settled_lines p answers lines).made in
    (c : Course) × (course p (opening p) made answers ≡ Some c) × (u.end ≡ c.end) × (u.left ≡ c.left) × ((cpu : ℕ) → cpu < p.cpus → answered_by cpu lines u.replies ≡ answered_by cpu made c.replies)
alike_when_settled p lines answers u below is =
    let by_lines = alike_by_lines p lines answers u below is in
    let d = delayed_lines p answers lines in
    let all = settled_alike p lines answers p.cpus 0 d u by_lines.0 (omega arith) by_lines.1 in
    let e = settled_lines p answers lines in
    let none : (cpu : ℕ) → cpu < p.cpus → e.late cpu ≡ [] = λ cpu lt. settled_none p.cpus 0 d cpu (omega arith) (λ no. absurd (omega arith)) in (
      all.0,
      all.1.delayed_is,
      none_late p u.end all.0.end e.late all.1.state (λ cpu lt. none cpu (subst (λ n. cpu < n) (cpus_of p e.made answers all.0 all.1.delayed_is) lt)),
      all.1.left,
      λ cpu lt. all.1.replies cpu lt ∙ ap (λ (steps : List Step). answered_by cpu e.made all.0.replies ++ answered_late p (cpu_part all.0.end cpu) steps) (none cpu lt) ∙ append-nil (answered_by cpu e.made all.0.replies),
    )
