-- After the first visits to a zone a CPU's stack and names are as after its last visit among them.
use Rattle.std.proofs.Common.{◌≡◌, ◌≢◌, ℕ, suc, ◌+◌, ◌≤◌, ◌==◌, ◌||◌, true, false, nat_le, nat_lt, if◌then◌else◌, List, [], ◌∷◌, ◌++◌, length, take, drop, map, slice_index_or, Option, None, Some, refl, ap, sym, subst, ◌∙◌, arith, append_assoc, length-append}
use Rattle.std.specs.List.{AllByRecursion, sum_by}
use Rattle.std.specs.Option.{option_map_or}
use Rattle.std.proofs.lemmas.Option.{same_Some}
use Rattle.std.proofs.lemmas.List.{append-nil, length-map, length-take, length-drop, take-append-drop}
use Rattle.std.proofs.lemmas.List.Sums.{sum_by-append}
use Rattle.kz_model.specs.declared.bundle.Bundle.{Bundle}
use Rattle.kz_model.specs.declared.record.Plan.{Plan}
use Rattle.kz_model.specs.declared.record.Visit.{Visit}
use Rattle.kz_model.specs.declared.record.ZoneParams.{ZoneParams}
use Rattle.kz_model.specs.declared.step.Step.{Step}
use Rattle.kz_model.specs.declared.supply.Answer.{Answer}
use Rattle.kz_model.specs.Zone.State.{ZoneState, opening, cpu_part}
use Rattle.kz_model.specs.Zone.Rules.{Stepped, alone_step}
use Rattle.kz_model.specs.Zone.Alone.{Course, course, all_used, with_first}
use Rattle.kz_model.specs.Run.Journal.{params_of, steps_of, carried, steps_carried, spell_after, answers_at}
use Rattle.kz_model.specs.Zone.Local.{AreOfOthers}
use Rattle.kz_laws.specs.Laws.{through_last, LastVisitDecides}
use Rattle.kz_laws.proofs.WholeCourses.{chained, chosen}
use Rattle.kz_model.proofs.Commuting.{keeps_others}

-- ---- the visits after the last one of a CPU

abbrev AreVisitsOfOthers : ℕ → List Visit → Type 0
AreVisitsOfOthers cpu visits = AllByRecursion (λ v. v.cpu ≢ cpu) visits

others_after : (cpu : ℕ) (visits : List Visit) →
    (others : List Visit) × (through_last cpu visits ++ others ≡ visits) × AreVisitsOfOthers cpu others
others_after cpu [] = ([], refl, tt)
others_after cpu (v ∷ visits) =
    let later = others_after cpu visits in
    let last = through_last cpu visits in
    elim (v.cpu == cpu) as (λ t. (v.cpu == cpu) ≡ t →
    let all : List Visit = if t || nat_lt 0 (length last) then v ∷ last else [] in
    (others : List Visit) × (all ++ others ≡ v ∷ visits) × AreVisitsOfOthers cpu others) [
      | true ↦ λ e. (later.0, ap (λ (l : List Visit). v ∷ l) later.1, later.2)
      | false ↦ λ e. let ne : v.cpu ≢ cpu = grind arith in by_last ne (through_last cpu visits) later.0 later.1 later.2
    ] refl
  where
    by_last : v.cpu ≢ cpu → (last others : List Visit) → last ++ others ≡ visits → AreVisitsOfOthers cpu others →
        let all : List Visit = if nat_lt 0 (length last) then v ∷ last else [] in
        (others : List Visit) × (all ++ others ≡ v ∷ visits) × AreVisitsOfOthers cpu others
    by_last ne [] others is away = (v ∷ others, ap (λ (l : List Visit). v ∷ l) is, (ne, away))
    by_last ne (w ∷ last) others is away =
        let some : nat_lt 0 (suc (length last)) ≡ true = grind arith in
        (others, ap (λ t. (if t then v ∷ w ∷ last else []) ++ others) some ∙ ap (λ (l : List Visit). v ∷ l) is, away)

-- ---- the steps of visits

abbrev count_in : List Visit → ℕ
count_in visits = sum_by (λ v. v.count) visits

-- visits one after the other, and the steps that each part carries
record AreSpelled (b : Bundle) (plan : Plan) (zone : ℕ) (earlier xs ys : List Visit) (steps : List (ℕ × Step)) :
    Type 0 where
  here : List (ℕ × Step)
  later : List (ℕ × Step)
  is_here : spell_after b plan zone earlier xs ≡ Some here
  is_later : spell_after b plan zone (earlier ++ xs) ys ≡ Some later
  all : here ++ later ≡ steps
  long : length here ≡ count_in xs

-- a visit carries as many steps as it counts
carried_long : (b : Bundle) (plan : Plan) (zone : ℕ) (earlier : List Visit) (v : Visit) (steps : List (ℕ × Step)) →
    steps_carried b plan zone earlier v ≡ Some steps → length steps ≡ v.count
carried_long b plan zone earlier v steps is =
    let mine = steps_of b plan v.cpu zone v.round in
    let from = carried v.cpu v.round earlier in
    let next = map (λ step. (v.cpu, step)) (take v.count (drop from mine)) in
    let there = chosen (nat_le (from + v.count) (length mine)) next steps is in
    ap (λ (l : List (ℕ × Step)). length l) (sym there.1)
    ∙ length-map (take v.count (drop from mine)) (λ step. (v.cpu, step))
    ∙ long from v.count mine there.0
  where
    long : (from n : ℕ) (steps : List Step) → nat_le (from + n) (length steps) ≡ true →
        length (take n (drop from steps)) ≡ n
    long from n steps le =
        let few : from + n ≤ length steps = grind arith in
        omega (arith, length-take n (drop from steps), length-drop from steps)

spelled_apart : (b : Bundle) (plan : Plan) (zone : ℕ) (earlier xs ys : List Visit) (steps : List (ℕ × Step)) →
    spell_after b plan zone earlier (xs ++ ys) ≡ Some steps → AreSpelled b plan zone earlier xs ys steps
spelled_apart b plan zone earlier [] ys steps is = record {
  here = [];
  later = steps;
  is_here = refl;
  is_later = ap (λ (l : List Visit). spell_after b plan zone l ys) (append-nil earlier) ∙ is;
  all = refl;
  long = refl;
}
spelled_apart b plan zone earlier (x ∷ xs) ys steps is =
    let go = λ (here : List (ℕ × Step)). option_map_or (λ (rest : List (ℕ × Step)). Some (here ++ rest))
    (spell_after b plan zone (earlier ++ x ∷ []) (xs ++ ys)) None in
    let first = chained go (steps_carried b plan zone earlier x) steps is in
    let second = chained (λ (rest : List (ℕ × Step)). Some (first.0 ++ rest))
    (spell_after b plan zone (earlier ++ x ∷ []) (xs ++ ys)) steps first.2 in
    let more = spelled_apart b plan zone (earlier ++ x ∷ []) xs ys second.0 second.1 in
    record {
      here = first.0 ++ more.here;
      later = more.later;
      is_here =
          ap (λ (o : Option (List (ℕ × Step))). option_map_or (λ here. option_map_or (λ rest. Some (here ++ rest))
          (spell_after b plan zone (earlier ++ x ∷ []) xs) None) o None) first.1
          ∙ ap (λ (o : Option (List (ℕ × Step))). option_map_or (λ rest. Some (first.0 ++ rest)) o None) more.is_here;
      is_later =
          ap (λ (l : List Visit). spell_after b plan zone l ys) (sym (append_assoc earlier (x ∷ []) xs))
          ∙ more.is_later;
      all =
          append_assoc first.0 more.here more.later
          ∙ ap (λ (l : List (ℕ × Step)). first.0 ++ l) more.all
          ∙ same_Some (first.0 ++ second.0) steps second.2;
      long = sums x xs first.0 more.here (carried_long b plan zone earlier x first.0 first.1) more.long;
    }
  where
    sums : (x : Visit) (xs : List Visit) (here more : List (ℕ × Step)) →
        length here ≡ x.count → length more ≡ count_in xs → length (here ++ more) ≡ count_in (x ∷ xs)
    sums x xs here more a c =
        omega (arith, a, c, length-append here more, sum_by-append (λ (v : Visit). v.count) (x ∷ []) xs)

others-append : (cpu : ℕ) (xs ys : List (ℕ × Step)) → AreOfOthers cpu xs → AreOfOthers cpu ys →
    AreOfOthers cpu (xs ++ ys)
others-append cpu [] ys here there = there
others-append cpu (x ∷ xs) ys here there = (here.0, others-append cpu xs ys here.1 there)

pub others-map : (cpu other : ℕ) (steps : List Step) → other ≢ cpu → AreOfOthers cpu (map (λ step. (other, step)) steps)
others-map cpu other [] ne = tt
others-map cpu other (step ∷ steps) ne = (ne, others-map cpu other steps ne)

-- visits of other CPUs carry steps of other CPUs
spelled_by_others : (b : Bundle) (plan : Plan) (zone cpu : ℕ) (earlier visits : List Visit) (steps : List (ℕ × Step)) →
    AreVisitsOfOthers cpu visits → spell_after b plan zone earlier visits ≡ Some steps → AreOfOthers cpu steps
spelled_by_others b plan zone cpu earlier [] steps away is = subst (AreOfOthers cpu) (same_Some [] steps is) tt
spelled_by_others b plan zone cpu earlier (v ∷ visits) steps away is =
    let go = λ (here : List (ℕ × Step)). option_map_or (λ (rest : List (ℕ × Step)). Some (here ++ rest))
    (spell_after b plan zone (earlier ++ v ∷ []) visits) None in
    let first = chained go (steps_carried b plan zone earlier v) steps is in
    let second = chained (λ (rest : List (ℕ × Step)). Some (first.0 ++ rest))
    (spell_after b plan zone (earlier ++ v ∷ []) visits) steps first.2 in
    let mine = steps_of b plan v.cpu zone v.round in
    let from = carried v.cpu v.round earlier in
    let next = map (λ step. (v.cpu, step)) (take v.count (drop from mine)) in
    let here = (chosen (nat_le (from + v.count) (length mine)) next first.0 first.1).1 in
    let others = others-map cpu v.cpu (take v.count (drop from mine)) away.0 in
    subst (AreOfOthers cpu) (same_Some (first.0 ++ second.0) steps second.2)
    (others-append cpu first.0 second.0 (subst (AreOfOthers cpu) here others)
    (spelled_by_others b plan zone cpu (earlier ++ v ∷ []) visits second.0 away.1 second.1))

-- ---- the states along a course

abbrev state_at : Course → ℕ → ZoneState
state_at c place = slice_index_or c.before place c.end

-- a course of steps, by its first step and the rest
pub record Goes (p : ZoneParams) (state : ZoneState) (step : ℕ × Step) (steps : List (ℕ × Step)) (answers : List Answer)
    (c : Course) : Type 0 where
  pub stepped : Stepped
  pub rest : Course
  pub one : alone_step p state step.0 step.1 answers ≡ Some stepped
  pub more : course p stepped.state steps stepped.left ≡ Some rest
  pub is : with_first state stepped rest ≡ c

pub goes : (p : ZoneParams) (state : ZoneState) (step : ℕ × Step) (steps : List (ℕ × Step)) (answers : List Answer)
    (c : Course) → course p state (step ∷ steps) answers ≡ Some c → Goes p state step steps answers c
goes p state step steps answers c is =
    let go = λ (stepped : Stepped). option_map_or (λ (rest : Course). Some (with_first state stepped rest))
    (course p stepped.state steps stepped.left) None in
    let first = chained go (alone_step p state step.0 step.1 answers) c is in
    let onto = λ (rest : Course). Some (with_first state first.0 rest) in
    let second = chained onto (course p first.0.state steps first.0.left) c first.2 in
    record {
      stepped = first.0;
      rest = second.0;
      one = first.1;
      more = second.1;
      is = same_Some (with_first state first.0 second.0) c second.2;
    }

-- it begins where it is said to begin
begins : (p : ZoneParams) (state : ZoneState) (steps : List (ℕ × Step)) (answers : List Answer) (c : Course) →
    course p state steps answers ≡ Some c → state_at c 0 ≡ state
begins p state [] answers c is =
    let none : Course = record { replies = []; asks = []; before = []; end = state; left = answers } in
    sym (ap (λ (c : Course). state_at c 0) (same_Some none c is))
begins p state (step ∷ steps) answers c is =
    let g = goes p state step steps answers c is in sym (ap (λ (c : Course). state_at c 0) g.is)

-- after steps of other CPUs a CPU has what it had
kept_at : (p : ZoneParams) (cpu : ℕ) (state : ZoneState) (xs ys : List (ℕ × Step)) (answers : List Answer)
    (c : Course) → AreOfOthers cpu xs → course p state (xs ++ ys) answers ≡ Some c →
    cpu_part (state_at c (length xs)) cpu ≡ cpu_part state cpu
kept_at p cpu state [] ys answers c away is = ap (λ (s : ZoneState). cpu_part s cpu) (begins p state ys answers c is)
kept_at p cpu state (x ∷ xs) ys answers c away is =
    let g = goes p state x (xs ++ ys) answers c is in
    ap (λ (c : Course). cpu_part (state_at c (suc (length xs))) cpu) (sym g.is)
    ∙ kept_at p cpu g.stepped.state xs ys g.stepped.left g.rest away.1 g.more
    ∙ keeps_others p state x.0 cpu x.1 answers g.stepped away.0 g.one

-- so between two places with steps of other CPUs between them
kept_between : (p : ZoneParams) (cpu : ℕ) (state : ZoneState) (front xs ys : List (ℕ × Step)) (answers : List Answer)
    (c : Course) → AreOfOthers cpu xs → course p state (front ++ (xs ++ ys)) answers ≡ Some c →
    cpu_part (state_at c (length front + length xs)) cpu ≡ cpu_part (state_at c (length front)) cpu
kept_between p cpu state [] xs ys answers c away is =
    ap (λ n. cpu_part (state_at c n) cpu) (none (length xs)) ∙ kept_at p cpu state xs ys answers c away is
    ∙ sym (ap (λ (s : ZoneState). cpu_part s cpu) (begins p state (xs ++ ys) answers c is))
  where
    none : (n : ℕ) → 0 + n ≡ n
    none n = omega arith
kept_between p cpu state (x ∷ front) xs ys answers c away is =
    let g = goes p state x (front ++ (xs ++ ys)) answers c is in
    ap (λ n. cpu_part (state_at c n) cpu) (one_more (length front) (length xs))
    ∙ ap (λ (c : Course). cpu_part (state_at c (suc (length front + length xs))) cpu) (sym g.is)
    ∙ kept_between p cpu g.stepped.state front xs ys g.stepped.left g.rest away g.more
    ∙ ap (λ (c : Course). cpu_part (state_at c (suc (length front))) cpu) g.is
  where
    one_more : (m n : ℕ) → suc m + n ≡ suc (m + n)
    one_more m n = omega arith

-- ---- a run

pub last_visit_decides : LastVisitDecides
last_visit_decides b plan journals log run zone cpu n lt =
    let p = params_of b plan zone in
    let journal = slice_index_or journals zone [] in
    let visits = take n journal in
    let rest = drop n journal in
    let last = through_last cpu visits in
    let after = others_after cpu visits in
    let spelled : spell_after b plan zone [] (last ++ (after.0 ++ rest)) ≡ Some (run.steps zone) =
    ap (λ (l : List Visit). spell_after b plan zone [] l)
    (sym (append_assoc last after.0 rest) ∙ ap (λ (l : List Visit). l ++ rest) after.1 ∙ take-append-drop n journal)
    ∙ run.spelled zone lt in
    let first = spelled_apart b plan zone [] last (after.0 ++ rest) (run.steps zone) spelled in
    let second = spelled_apart b plan zone last after.0 rest first.later first.is_later in
    let steps : first.here ++ (second.here ++ second.later) ≡ run.steps zone =
    ap (λ (l : List (ℕ × Step)). first.here ++ l) second.all ∙ first.all in
    let away = spelled_by_others b plan zone cpu last after.0 second.here after.2 second.is_here in
    let made = run.made zone in
    let all =
    chained all_used (course p (opening p) (run.steps zone) (answers_at zone log)) made (run.each zone lt).alone in
    let used = (chosen (length all.0.left == 0) all.0 made all.2).1 in
    let is : course p (opening p) (first.here ++ (second.here ++ second.later)) (answers_at zone log) ≡ Some made =
    ap (λ (l : List (ℕ × Step)). course p (opening p) l (answers_at zone log)) steps
    ∙ all.1 ∙ ap (λ (c : Course). Some c) used in
    let place : count_in visits ≡ length first.here + length second.here =
    sym (ap count_in after.1) ∙ sums last after.0 first.here second.here first.long second.long in
    ap (λ k. cpu_part (state_at made k) cpu) place
    ∙ kept_between p cpu (opening p) first.here second.here second.later (answers_at zone log) made away is
    ∙ ap (λ k. cpu_part (state_at made k) cpu) first.long
  where
    sums : (xs ys : List Visit) (here there : List (ℕ × Step)) →
        length here ≡ count_in xs → length there ≡ count_in ys → count_in (xs ++ ys) ≡ length here + length there
    sums xs ys here there a c = omega (arith, a, c, sum_by-append (λ (v : Visit). v.count) xs ys)
