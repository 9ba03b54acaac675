-- Undelayed lines of a zone and what visits made of them answer alike: this is kept by a late step, a visit and a settling.
use Rattle.std.proofs.Common.{◌≡◌, ◌≢◌, ◌<◌, ℕ, zero, suc, ◌==◌, Bool, true, false, if◌then◌else◌, List, [], ◌∷◌, ◌++◌, length, map, replicate, slice_set, Option, None, Some, refl, ap, sym, ◌∙◌, subst, arith, append_assoc}
use Rattle.std.specs.List.{flat_map}
use Rattle.std.specs.Option.{option_map_or}
use Rattle.std.proofs.lemmas.Grind.{flat_map-append}
use Rattle.std.proofs.lemmas.List.{length-set, length-replicate, length-map, append-nil}
use Rattle.kz_model.specs.declared.step.Step.{Step}
use Rattle.kz_model.specs.declared.step.Reply.{Reply}
use Rattle.kz_model.specs.declared.record.ZoneParams.{ZoneParams}
use Rattle.kz_model.specs.declared.supply.Answer.{Answer}
use Rattle.kz_model.specs.declared.supply.Ask.{Ask}
use Rattle.kz_model.specs.Zone.State.{ZoneState, CpuPart, opening, no_cpu_part, cpu_part}
use Rattle.kz_model.specs.Zone.Rules.{Stepped, needs_visit, part_of, put_back, all_answered, alone_step}
use Rattle.kz_model.specs.Zone.Alone.{Course, course, with_first}
use Rattle.kz_model.specs.Zone.Local.{local_answer, with_cpu_part}
use Rattle.kz_model.specs.Zone.Late.{part_after, answered_late, answered_by, AnswersAlike}
use Rattle.kz_model.proofs.Commuting.{steps_alone}
use Rattle.kz_model.proofs.LateSteps.{replies_of, answered_late-push, length-replies_of}
use Rattle.kz_model.proofs.Courses.{joined, then_course, course-append}
use Rattle.kz_laws.proofs.Undelayed.{IsLateNow, mine_or_other, one_more_late, settles, visits}

-- ---- a course's replies and CPUs

pub record IsLong (state : ZoneState) (steps : List (ℕ × Step)) (c : Course) : Type 0 where
  pub replies : length c.replies ≡ length steps
  pub cpus : length c.end.own ≡ length state.own

step_cpus : (b : Bool) (state : ZoneState) (cpu : ℕ) (own : CpuPart) (s o : Stepped) → s.state.own ≡ slice_set state.own cpu own → (if b then Some s else None) ≡ Some o → length o.state.own ≡ length state.own
step_cpus true state cpu own s o is h = let same : o ≡ s = cc in ap (λ (o : Stepped). length o.state.own) same ∙ ap (λ (owns : List CpuPart). length owns) is ∙ length-set state.own cpu own
step_cpus false state cpu own s o is h = absurd (cc)

pub course_long : (p : ZoneParams) (state : ZoneState) (steps : List (ℕ × Step)) (answers : List Answer) (c : Course) → course p state steps answers ≡ Some c → IsLong state steps c
course_long p state [] answers c made = subst (IsLong state []) (same _ c made) (record { replies = refl; cpus = refl })
  where
    same : (a c : Course) → Some a ≡ Some c → a ≡ c
    same a c e = cc
course_long p state (step ∷ steps) answers c made =
    elim (alone_step p state step.0 step.1 answers) as (λ (o : Option Stepped). alone_step p state step.0 step.1 answers ≡ o →
    option_map_or (λ stepped. option_map_or (λ rest. Some (with_first state stepped rest)) (course p stepped.state steps stepped.left) None) o None ≡ Some c → IsLong state (step ∷ steps) c) [
      | None ↦ λ e f. absurd (cc)
      | Some o ↦ λ e f.
          let part = part_of p state.shared step.0 (cpu_part state step.0) step.1 answers in
          by_rest o (step_cpus (all_answered part.asks answers) state step.0 part.effect.own (put_back state step.0 part) o refl e) (course p o.state steps o.left) (λ r g. course_long p o.state steps o.left r g) f
    ] refl made
  where
    same : (a c : Course) → Some a ≡ Some c → a ≡ c
    same a c e = cc

    by_rest : (o : Stepped) → length o.state.own ≡ length state.own → (r : Option Course) → ((rest : Course) → r ≡ Some rest → IsLong o.state steps rest) → option_map_or (λ rest. Some (with_first state o rest)) r None ≡ Some c → IsLong state (step ∷ steps) c
    by_rest o is None again f = absurd (cc)
    by_rest o is (Some rest) again f =
        subst (IsLong state (step ∷ steps)) (same _ c f) (record { replies = ap (λ n. suc n) (again rest refl).replies; cpus = (again rest refl).cpus ∙ is })

-- ---- replies by CPU

pub answered_by-append : (cpu : ℕ) (xs ys : List (ℕ × Step)) (rs qs : List Reply) → length rs ≡ length xs → answered_by cpu (xs ++ ys) (rs ++ qs) ≡ answered_by cpu xs rs ++ answered_by cpu ys qs
answered_by-append cpu [] ys [] qs same = refl
answered_by-append cpu [] ys (r ∷ rs) qs same = absurd (omega arith)
answered_by-append cpu (x ∷ xs) ys [] qs same = absurd (omega arith)
answered_by-append cpu (x ∷ xs) ys (r ∷ rs) qs same =
    let again = answered_by-append cpu xs ys rs qs (omega arith) in
    elim (x.0 == cpu) as (λ b. (if b then (x.1, r) ∷ answered_by cpu (xs ++ ys) (rs ++ qs) else answered_by cpu (xs ++ ys) (rs ++ qs)) ≡ (if b then (x.1, r) ∷ answered_by cpu xs rs else answered_by cpu xs rs) ++ answered_by cpu ys qs) [
      | true ↦ ap (λ (l : List (Step × Reply)). (x.1, r) ∷ l) again
      | false ↦ again
    ]

same_number : (n : ℕ) → (n == n) ≡ true
same_number n = grind arith

other_number : (n m : ℕ) → m ≢ n → (n == m) ≡ false
other_number n m ne = grind arith

answered_by-mine : (p : ZoneParams) (cpu : ℕ) (own : CpuPart) (steps : List Step) → answered_by cpu (map (λ step. (cpu, step)) steps) (replies_of p own steps) ≡ answered_late p own steps
answered_by-mine p cpu own [] = refl
answered_by-mine p cpu own (step ∷ steps) =
    let is = same_number cpu in
    rw is (ap (λ (l : List (Step × Reply)). (step, (local_answer p own step).reply) ∷ l) (answered_by-mine p cpu (local_answer p own step).own steps))

answered_by-others : (p : ZoneParams) (cpu other : ℕ) (own : CpuPart) (steps : List Step) → other ≢ cpu → answered_by other (map (λ step. (cpu, step)) steps) (replies_of p own steps) ≡ []
answered_by-others p cpu other own [] ne = refl
answered_by-others p cpu other own (step ∷ steps) ne =
    let is = other_number cpu other ne in
    rw is (answered_by-others p cpu other (local_answer p own step).own steps ne)

one_mine : (cpu : ℕ) (step : Step) (reply : Reply) → answered_by cpu ((cpu, step) ∷ []) (reply ∷ []) ≡ (step, reply) ∷ []
one_mine cpu step reply = let is = same_number cpu in rw is refl

one_other : (cpu other : ℕ) (step : Step) (reply : Reply) → other ≢ cpu → answered_by other ((cpu, step) ∷ []) (reply ∷ []) ≡ []
one_other cpu other step reply ne = let is = other_number cpu other ne in rw is refl

-- ---- asks

no_asks_made : (n : ℕ) → flat_map (λ (asks : List Ask). asks) (replicate n []) ≡ []
no_asks_made zero = refl
no_asks_made (suc n) = no_asks_made n

-- ---- a line at the end of a course

-- a course with one more step at the end
abbrev pub with_line : Course → Stepped → Course
with_line u o = joined u (with_first u.end o (record { replies = []; asks = []; before = []; end = o.state; left = o.left }))

-- what a step gives that needs no visit
abbrev pub stepped_alone : ZoneParams → ZoneState → ℕ → Step → List Answer → Stepped
stepped_alone p state cpu step answers =
    record {
      reply = (local_answer p (cpu_part state cpu) step).reply;
      state = with_cpu_part state cpu (local_answer p (cpu_part state cpu) step).own;
      asks = [];
      left = answers;
    }

pub one_line : (p : ZoneParams) (lines : List (ℕ × Step)) (cpu : ℕ) (step : Step) (answers : List Answer) (u : Course) (o : Stepped) →
    course p (opening p) lines answers ≡ Some u → alone_step p u.end cpu step u.left ≡ Some o →
    course p (opening p) (lines ++ (cpu, step) ∷ []) answers ≡ Some (with_line u o)
one_line p lines cpu step answers u o made next =
    course-append p (opening p) lines ((cpu, step) ∷ []) answers
    ∙ ap (λ (r : Option Course). then_course r (λ st left. course p st ((cpu, step) ∷ []) left)) made
    ∙ ap (λ (o : Option Stepped). option_map_or (λ b. Some (joined u b)) (option_map_or (λ stepped. option_map_or (λ rest. Some (with_first u.end stepped rest)) (course p stepped.state [] stepped.left) None) o None) None) next

-- more steps at the end of a course
more_steps : (p : ZoneParams) (made steps : List (ℕ × Step)) (answers left : List Answer) (c w : Course) → course p (opening p) made answers ≡ Some c → left ≡ c.left → course p c.end steps left ≡ Some w →
    course p (opening p) (made ++ steps) answers ≡ Some (joined c w)
more_steps p made steps answers left c w is same next =
    course-append p (opening p) made steps answers
    ∙ ap (λ (r : Option Course). then_course r (λ st left. course p st steps left)) is
    ∙ ap (λ (r : Option Course). option_map_or (λ b. Some (joined c b)) r None) (ap (λ left. course p c.end steps left) (sym same) ∙ next)

-- so many CPUs
pub cpus_of : (p : ZoneParams) (steps : List (ℕ × Step)) (answers : List Answer) (c : Course) → course p (opening p) steps answers ≡ Some c → length c.end.own ≡ p.cpus
cpus_of p steps answers c made = (course_long p (opening p) steps answers c made).cpus ∙ length-replicate p.cpus no_cpu_part

pub cpu_in : (p : ZoneParams) (steps : List (ℕ × Step)) (answers : List Answer) (c : Course) (cpu : ℕ) → course p (opening p) steps answers ≡ Some c → cpu < p.cpus → cpu < length c.end.own
cpu_in p steps answers c cpu made lt = subst (λ n. cpu < n) (sym (cpus_of p steps answers c made)) lt

-- ---- what is kept

-- a step that needs no visit
pub alike_late : (p : ZoneParams) (lines made : List (ℕ × Step)) (late now : ℕ → List Step) (answers : List Answer) (u c : Course) (cpu : ℕ) (step : Step) → cpu < p.cpus →
    AnswersAlike p lines made late answers u c → needs_visit p (cpu_part u.end cpu) step ≡ false → IsLateNow cpu (late cpu ++ step ∷ []) late now →
    AnswersAlike p (lines ++ (cpu, step) ∷ []) made now answers (with_line u (stepped_alone p u.end cpu step u.left)) c
alike_late p lines made late now answers u c cpu step lt is none new =
    let in-c = cpu_in p made answers c cpu is.delayed_is lt in
    let said = local_answer p (cpu_part u.end cpu) step in
    let mine : cpu_part u.end cpu ≡ part_after p (cpu_part c.end cpu) (late cpu) = is.state.own cpu in-c in
    record {
      undelayed_is = one_line p lines cpu step answers u (stepped_alone p u.end cpu step u.left) is.undelayed_is (steps_alone p u.end cpu step u.left none);
      delayed_is = is.delayed_is;
      left = is.left;
      asks = flat_map-append (λ (asks : List Ask). asks) u.asks ([] ∷ []) ∙ append-nil (flat_map (λ (asks : List Ask). asks) u.asks) ∙ is.asks;
      state = one_more_late p u.end c.end late now cpu step in-c is.state none new;
      replies = λ other in'.
          answered_by-append other lines ((cpu, step) ∷ []) u.replies (said.reply ∷ []) (course_long p (opening p) lines answers u is.undelayed_is).replies
          ∙ mine_or_other (λ other. other < p.cpus → answered_by other lines u.replies ++ answered_by other ((cpu, step) ∷ []) (said.reply ∷ []) ≡ answered_by other made c.replies ++ answered_late p (cpu_part c.end other) (now other)) cpu other
          (λ in'.
          ap (λ (l : List (Step × Reply)). l ++ answered_by cpu ((cpu, step) ∷ []) (said.reply ∷ [])) (is.replies cpu in')
          ∙ append_assoc (answered_by cpu made c.replies) (answered_late p (cpu_part c.end cpu) (late cpu)) (answered_by cpu ((cpu, step) ∷ []) (said.reply ∷ []))
          ∙ ap (λ (l : List (Step × Reply)). answered_by cpu made c.replies ++ (answered_late p (cpu_part c.end cpu) (late cpu) ++ l)) (one_mine cpu step said.reply ∙ ap (λ (own : CpuPart). (step, (local_answer p own step).reply) ∷ []) mine)
          ∙ ap (λ (l : List (Step × Reply)). answered_by cpu made c.replies ++ l) (sym (answered_late-push p (cpu_part c.end cpu) (late cpu) step) ∙ ap (λ (steps : List Step). answered_late p (cpu_part c.end cpu) steps) (sym new.mine)))
          (λ ne in'.
          ap (λ (l : List (Step × Reply)). answered_by other lines u.replies ++ l) (one_other cpu other step said.reply ne)
          ∙ append-nil (answered_by other lines u.replies)
          ∙ is.replies other in'
          ∙ ap (λ (steps : List Step). answered_by other made c.replies ++ answered_late p (cpu_part c.end other) steps) (sym (new.others other ne)))
          in';
    }

-- a CPU's late steps and replies of other CPUs
late_same : (p : ZoneParams) (a b : ZoneState) (late now : ℕ → List Step) (other : ℕ) → cpu_part b other ≡ cpu_part a other → now other ≡ late other → answered_late p (cpu_part b other) (now other) ≡ answered_late p (cpu_part a other) (late other)
late_same p a b late now other own steps = ap (λ (own : CpuPart). answered_late p own (now other)) own ∙ ap (λ (steps : List Step). answered_late p (cpu_part a other) steps) steps

-- a CPU settles
pub alike_settled : (p : ZoneParams) (lines made : List (ℕ × Step)) (late now : ℕ → List Step) (answers : List Answer) (u c : Course) (cpu : ℕ) → cpu < p.cpus →
    AnswersAlike p lines made late answers u c → IsLateNow cpu [] late now →
    (d : Course) × AnswersAlike p lines (made ++ map (λ step. (cpu, step)) (late cpu)) now answers u d
    × (d.replies ≡ c.replies ++ (replies_of p (cpu_part c.end cpu) (late cpu) ++ [])) × ((other : ℕ) → other ≢ cpu → cpu_part d.end other ≡ cpu_part c.end other)
alike_settled p lines made late now answers u c cpu lt is new =
    let in-c = cpu_in p made answers c cpu is.delayed_is lt in
    let done = settles p u.end c.end late now cpu u.left in-c is.state new in
    let w = done.0 in
    let steps = map (λ step. (cpu, step)) (late cpu) in
    let said = replies_of p (cpu_part c.end cpu) (late cpu) in
    let parted : (other : ℕ) → answered_by other (made ++ steps) (c.replies ++ w.replies) ≡ answered_by other made c.replies ++ answered_by other steps said =
    λ other. answered_by-append other made steps c.replies w.replies (course_long p (opening p) made answers c is.delayed_is).replies
    ∙ ap (λ (rs : List Reply). answered_by other made c.replies ++ answered_by other steps rs) done.1.replies in (
      joined c w,
      record {
        undelayed_is = is.undelayed_is;
        delayed_is = more_steps p made steps answers u.left c w is.delayed_is is.left done.1.made;
        left = sym done.1.left;
        asks = is.asks
            ∙ sym (flat_map-append (λ (asks : List Ask). asks) c.asks w.asks
            ∙ ap (λ (l : List Ask). flat_map (λ (asks : List Ask). asks) c.asks ++ l) (ap (λ (made : List (List Ask)). flat_map (λ (asks : List Ask). asks) made) done.1.asks ∙ no_asks_made (length (late cpu)))
            ∙ append-nil (flat_map (λ (asks : List Ask). asks) c.asks));
        state = done.1.state;
        replies = λ other in'.
            is.replies other in'
            ∙ mine_or_other (λ other. answered_by other made c.replies ++ answered_late p (cpu_part c.end other) (late other) ≡ answered_by other (made ++ steps) (c.replies ++ w.replies) ++ answered_late p (cpu_part w.end other) (now other)) cpu other
            (ap (λ (l : List (Step × Reply)). answered_by cpu made c.replies ++ l) (sym (answered_by-mine p cpu (cpu_part c.end cpu) (late cpu)))
            ∙ sym (parted cpu)
            ∙ sym (append-nil (answered_by cpu (made ++ steps) (c.replies ++ w.replies)))
            ∙ ap (λ (l : List Step). answered_by cpu (made ++ steps) (c.replies ++ w.replies) ++ answered_late p (cpu_part w.end cpu) l) (sym new.mine))
            (λ ne. sym (
            ap (λ (l : List (Step × Reply)). l ++ answered_late p (cpu_part w.end other) (now other))
            (parted other ∙ ap (λ (l : List (Step × Reply)). answered_by other made c.replies ++ l) (answered_by-others p cpu other (cpu_part c.end cpu) (late cpu) ne) ∙ append-nil (answered_by other made c.replies))
            ∙ ap (λ (l : List (Step × Reply)). answered_by other made c.replies ++ l) (late_same p c.end w.end late now other (done.1.others other ne) (new.others other ne))));
      },
      ap (λ (rs : List Reply). c.replies ++ rs) (done.1.replies ∙ sym (append-nil said)),
      done.1.others,
    )

-- a CPU visits
pub alike_visited : (p : ZoneParams) (lines made : List (ℕ × Step)) (late now : ℕ → List Step) (answers : List Answer) (u c : Course) (cpu : ℕ) (step : Step) (o : Stepped) → cpu < p.cpus →
    AnswersAlike p lines made late answers u c → alone_step p u.end cpu step u.left ≡ Some o → IsLateNow cpu [] late now →
    (d : Course) × AnswersAlike p (lines ++ (cpu, step) ∷ []) (made ++ (map (λ step. (cpu, step)) (late cpu) ++ (cpu, step) ∷ [])) now answers (with_line u o) d
    × (d.replies ≡ c.replies ++ (replies_of p (cpu_part c.end cpu) (late cpu) ++ o.reply ∷ [])) × ((other : ℕ) → other ≢ cpu → cpu_part d.end other ≡ cpu_part c.end other)
alike_visited p lines made late now answers u c cpu step o lt is next new =
    let in-c = cpu_in p made answers c cpu is.delayed_is lt in
    let done = visits p u.end c.end late now cpu step u.left o in-c is.state new next in
    let w = done.0 in
    let lates = map (λ step. (cpu, step)) (late cpu) in
    let steps = lates ++ (cpu, step) ∷ [] in
    let said = replies_of p (cpu_part c.end cpu) (late cpu) in
    let flat : List (List Ask) → List Ask = λ made. flat_map (λ (asks : List Ask). asks) made in
    let long : length said ≡ length lates = length-replies_of p (cpu_part c.end cpu) (late cpu) ∙ sym (length-map (late cpu) (λ (step : Step). (cpu, step))) in
    let one : ℕ → List (Step × Reply) = λ other. answered_by other ((cpu, step) ∷ []) (o.reply ∷ []) in
    let parted : (other : ℕ) → answered_by other (made ++ steps) (c.replies ++ w.replies) ≡ answered_by other made c.replies ++ (answered_by other lates said ++ one other) =
    λ other. answered_by-append other made steps c.replies w.replies (course_long p (opening p) made answers c is.delayed_is).replies
    ∙ ap (λ (rs : List Reply). answered_by other made c.replies ++ answered_by other steps rs) done.1.replies
    ∙ ap (λ (l : List (Step × Reply)). answered_by other made c.replies ++ l) (answered_by-append other lates ((cpu, step) ∷ []) said (o.reply ∷ []) long) in (
      joined c w,
      record {
        undelayed_is = one_line p lines cpu step answers u o is.undelayed_is next;
        delayed_is = more_steps p made steps answers u.left c w is.delayed_is is.left done.1.made;
        left = sym done.1.left;
        asks = flat_map-append (λ (asks : List Ask). asks) u.asks (o.asks ∷ [])
            ∙ ap (λ (l : List Ask). l ++ flat (o.asks ∷ [])) is.asks
            ∙ ap (λ (l : List Ask). flat c.asks ++ l) (sym (ap flat done.1.asks ∙ flat_map-append (λ (asks : List Ask). asks) (replicate (length (late cpu)) []) (o.asks ∷ []) ∙ ap (λ (l : List Ask). l ++ flat (o.asks ∷ [])) (no_asks_made (length (late cpu)))))
            ∙ sym (flat_map-append (λ (asks : List Ask). asks) c.asks w.asks);
        state = done.1.state;
        replies = λ other in'.
            answered_by-append other lines ((cpu, step) ∷ []) u.replies (o.reply ∷ []) (course_long p (opening p) lines answers u is.undelayed_is).replies
            ∙ ap (λ (l : List (Step × Reply)). l ++ one other) (is.replies other in')
            ∙ mine_or_other (λ other. (answered_by other made c.replies ++ answered_late p (cpu_part c.end other) (late other)) ++ one other ≡ answered_by other (made ++ steps) (c.replies ++ w.replies) ++ answered_late p (cpu_part w.end other) (now other)) cpu other
            (append_assoc (answered_by cpu made c.replies) (answered_late p (cpu_part c.end cpu) (late cpu)) (one cpu)
            ∙ ap (λ (l : List (Step × Reply)). answered_by cpu made c.replies ++ (l ++ one cpu)) (sym (answered_by-mine p cpu (cpu_part c.end cpu) (late cpu)))
            ∙ sym (parted cpu)
            ∙ sym (append-nil (answered_by cpu (made ++ steps) (c.replies ++ w.replies)))
            ∙ ap (λ (l : List Step). answered_by cpu (made ++ steps) (c.replies ++ w.replies) ++ answered_late p (cpu_part w.end cpu) l) (sym new.mine))
            (λ ne.
            ap (λ (l : List (Step × Reply)). (answered_by other made c.replies ++ answered_late p (cpu_part c.end other) (late other)) ++ l) (one_other cpu other step o.reply ne)
            ∙ append-nil (answered_by other made c.replies ++ answered_late p (cpu_part c.end other) (late other))
            ∙ sym (
            ap (λ (l : List (Step × Reply)). l ++ answered_late p (cpu_part w.end other) (now other))
            (parted other
            ∙ ap (λ (l : List (Step × Reply)). answered_by other made c.replies ++ (l ++ one other)) (answered_by-others p cpu other (cpu_part c.end cpu) (late cpu) ne)
            ∙ ap (λ (l : List (Step × Reply)). answered_by other made c.replies ++ l) (one_other cpu other step o.reply ne)
            ∙ append-nil (answered_by other made c.replies))
            ∙ ap (λ (l : List (Step × Reply)). answered_by other made c.replies ++ l) (late_same p c.end w.end late now other (done.1.others other ne) (new.others other ne))));
      },
      ap (λ (rs : List Reply). c.replies ++ rs) done.1.replies,
      done.1.others,
    )
