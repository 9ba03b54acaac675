-- A round's end makes a run: each CPU settles once, with what is late.
use Rattle.std.proofs.Common.{◌≡◌, ◌≢◌, ◌<◌, ◌≤◌, ℕ, zero, suc, ◌+◌, ◌-◌, nat_lt, true, false, if◌then◌else◌, List, [], ◌∷◌, ◌++◌, length, take, drop, slice_index, None, Some, refl, ap, sym, ◌∙◌, subst, arith, append_assoc, length-append}
use Rattle.std.specs.List.{filter_map, range_with_len, cons_option}
use Rattle.std.proofs.lemmas.List.{append-nil, length-map, length-drop, nil_from_length, take_all, take-append-drop}
use Rattle.std.proofs.lemmas.List.Elements.{All-weaker}
use Rattle.kz_model.specs.declared.bundle.Bundle.{Bundle}
use Rattle.kz_model.specs.declared.bundle.OrderLine.TheVariants.{Round}
use Rattle.kz_model.specs.declared.step.Step.{Step}
use Rattle.kz_model.specs.declared.record.Plan.{Plan}
use Rattle.kz_model.specs.declared.record.Visit.{Visit}
use Rattle.kz_model.specs.declared.record.ZoneParams.{ZoneParams}
use Rattle.kz_model.specs.declared.supply.SupplyEntry.{SupplyEntry}
use Rattle.kz_model.specs.Zone.State.{opening, cpu_part}
use Rattle.kz_model.specs.Zone.Alone.{Course, course}
use Rattle.kz_model.specs.Run.Journal.{params_of, lines_of_round, steps_among, steps_of, carried, steps_carried, spell_after, answers_at}
use Rattle.kz_model.specs.Zone.Late.{NeedNone, AnswersAlike, by_cpu as steps_by}
use Rattle.kz_model.specs.Run.Order.{Progress, late, order_step}
use Rattle.kz_laws.specs.Play.{Play}
use Rattle.kz_laws.specs.PlayedAt.{IsSupplied}
use Rattle.kz_laws.proofs.Alike.{alike_settled, course_long, cpu_in}
use Rattle.kz_model.proofs.Courses.{joined}
use Rattle.kz_model.proofs.MoreAnswers.{with_more}
use Rattle.kz_laws.proofs.OrderJournals.{course_lengths, course_split, IsJournal, journal_push, journal_round}
use Rattle.kz_laws.proofs.OrderLines.{carried-mine, carried-other, spell_after-push, visit_carries, journal_at, seen, InStep, alike_same}
use Rattle.kz_model.proofs.Addressed.{steps_among-append}
use Rattle.kz_laws.proofs.OrderVisits.{settling_course}
use Rattle.kz_laws.proofs.Played.{Told, AreBeside, same_course}
use Rattle.kz_laws.proofs.PlayedRounds.{round_same, round_settles, settles_at}
use Rattle.kz_laws.proofs.Printed.{total, total-push}
use Rattle.kz_laws.proofs.RunLines.{carried-away, journal_of, IsRunning}
use Rattle.kz_model.proofs.TraceRounds.{filter_map_push}
use Rattle.kz_laws.proofs.Undelayed.{IsLateNow, mine_or_other}

-- ---- CPUs settle on a zone, one after the other

-- the journal when the CPUs below k have settled
abbrev pub journal_to : Bundle → Plan → Progress → ℕ → ℕ → List Visit
journal_to b plan g zone k = journal_at g zone ++ filter_map (settles_at b plan g zone) (range_with_len 0 k)

abbrev pub late_to : Bundle → Plan → Progress → ℕ → ℕ → ℕ → List Step
late_to b plan g zone k cpu = if nat_lt cpu k then [] else late b plan g cpu zone

pub record HasSettledTo (b : Bundle) (plan : Plan) (g : Progress) (zone : ℕ) (rounds : List ℕ) (lines : List (ℕ × Step)) (u : Course) (k : ℕ) (journal : List Visit) : Type 0 where
  pub steps : List (ℕ × Step)
  pub c : Course
  pub spelled : spell_after b plan zone [] journal ≡ Some steps
  pub alike : AnswersAlike (params_of b plan zone) lines steps (late_to b plan g zone k) (answers_at zone g.log) u c
  pub is : IsJournal b plan zone journal g.log g.round rounds k steps c
  pub long : length steps ≡ total journal
  pub rest : (cpu : ℕ) → k ≤ cpu → carried cpu g.round journal ≡ carried cpu g.round (journal_at g zone)
  pub all : (cpu : ℕ) → cpu < k → carried cpu g.round journal ≡ length (seen b plan g cpu zone)
  pub others : (cpu round : ℕ) → round ≢ g.round → carried cpu round journal ≡ carried cpu round (journal_at g zone)

-- with no CPU settled
settled_to_none : (b : Bundle) (plan : Plan) (g : Progress) (zone : ℕ) (rounds : List ℕ) (lines : List (ℕ × Step)) (places : List (ℕ × ℕ)) (i : InStep b plan g zone lines places) →
    IsJournal b plan zone (journal_at g zone) g.log g.round rounds 0 i.is.steps i.is.delayed → HasSettledTo b plan g zone rounds lines i.is.undelayed 0 (journal_at g zone)
settled_to_none b plan g zone rounds lines places i is =
    let p = params_of b plan zone in
    record {
      steps = i.is.steps;
      c = i.is.delayed;
      spelled = i.is.spelled;
      alike = alike_same p lines i.is.steps (λ cpu. late b plan g cpu zone) (late_to b plan g zone 0) (answers_at zone g.log) i.is.undelayed i.is.delayed (λ cpu. let none : nat_lt cpu 0 ≡ false = grind arith in ap (λ t. if t then [] else late b plan g cpu zone) none) i.is.alike;
      is = is;
      long = sym (course_long p (opening p) i.is.steps (answers_at zone g.log) i.is.delayed i.is.alike.delayed_is).replies ∙ sym i.printed.all;
      rest = λ cpu le. refl;
      all = λ cpu lt. absurd (omega arith);
      others = λ cpu round ne. refl;
    }

-- the next CPU
module _ (b : Bundle) (plan : Plan) (g : Progress) (zone : ℕ) (rounds : List ℕ) (lines : List (ℕ × Step)) (places : List (ℕ × ℕ)) (i : InStep b plan g zone lines places) (long : length rounds ≡ length g.log) (k : ℕ) (journal : List Visit)
    (lt : k < b.cpus) (before : HasSettledTo b plan g zone rounds lines i.is.undelayed k journal) where
  abbrev p : ZoneParams
  p = params_of b plan zone

  abbrev lates : List Step
  lates = late b plan g k zone

  abbrev v : Visit
  v = record { round = g.round; cpu = k; count = length lates; settled = true }

  abbrev old : List Step
  old = seen b plan g k zone

  mine : late_to b plan g zone k k ≡ lates
  mine = let none : nat_lt k k ≡ false = grind arith in ap (λ t. if t then [] else lates) none

  few : length lates ≡ length old - carried k g.round (journal_at g zone)
  few = length-drop (carried k g.round (journal_at g zone)) old

  new : IsLateNow k [] (late_to b plan g zone k) (late_to b plan g zone (suc k))
  new = record {
    mine = let there : nat_lt k (suc k) ≡ true = grind arith in ap (λ t. if t then [] else lates) there;
    others = λ other ne. let same : nat_lt other (suc k) ≡ nat_lt other k = same_test other ne in ap (λ t. if t then [] else late b plan g other zone) same;
  }
    where
      same_test : (other : ℕ) → other ≢ k → nat_lt other (suc k) ≡ nat_lt other k
      same_test other ne =
          elim (nat_lt other k) as (λ t. nat_lt other k ≡ t → nat_lt other (suc k) ≡ t) [
            | true ↦ λ e. grind arith
            | false ↦ λ e. grind arith
          ] refl

  -- it has no late steps
  next_none : length lates ≡ 0 → HasSettledTo b plan g zone rounds lines i.is.undelayed (suc k) journal
  next_none none =
      let nothing : lates ≡ [] = nil_from_length lates none in
      record {
        steps = before.steps;
        c = before.c;
        spelled = before.spelled;
        alike = alike_same p lines before.steps (late_to b plan g zone k) (late_to b plan g zone (suc k)) (answers_at zone g.log) i.is.undelayed before.c
            (λ cpu. mine_or_other (λ cpu. late_to b plan g zone (suc k) cpu ≡ late_to b plan g zone k cpu) k cpu (new.mine ∙ sym (mine ∙ nothing)) (λ ne. new.others cpu ne)) before.alike;
        is = record {
          in_rounds = before.is.in_rounds;
          within = before.is.within;
          carries = before.is.carries;
          settles = before.is.settles;
          settled = λ j d within same settled. more (before.is.settled j d within same settled);
          asked = before.is.asked;
          timed = before.is.timed;
        };
        long = before.long;
        rest = λ cpu le. before.rest cpu (omega arith);
        all = λ cpu below.
            mine_or_other (λ cpu. cpu < suc k → carried cpu g.round journal ≡ length (seen b plan g cpu zone)) k cpu
            (λ below. before.rest k (omega arith) ∙ done (carried k g.round (journal_at g zone)) (length old) (length lates) (i.done k) few none)
            (λ ne below. before.all cpu (omega arith)) below;
        others = before.others;
      }
    where
      more : {j : ℕ} → j < k → j < suc k
      more lt = omega arith

      done : (c n l : ℕ) → c ≤ n → l ≡ n - c → l ≡ 0 → c ≡ n
      done c n l le e f = omega arith

  visit_carried : steps_carried b plan zone journal v ≡ Some (steps_by k lates)
  visit_carried =
      let same = before.rest k (omega arith) in
      let all = lines_of_round b k g.round in
      let to = slice_index g.done k in
      let parted : steps_of b plan k zone g.round ≡ old ++ steps_among b plan zone (drop to all) =
      ap (λ lines. steps_among b plan zone lines) (sym (take-append-drop to all)) ∙ steps_among-append b plan zone (take to all) (drop to all) in
      visit_carries b plan zone journal v old (steps_among b plan zone (drop to all)) parted (subst (λ n. n ≤ length old) (sym same) (i.done k)) (ap (λ n. length (drop n old)) (sym same))
      ∙ ap (λ n. Some (steps_by k (drop n old))) same

  next_some : 0 < length lates → HasSettledTo b plan g zone rounds lines i.is.undelayed (suc k) (journal ++ v ∷ [])
  next_some some =
      let here = steps_by k lates in
      let answers = answers_at zone g.log in
      let c = before.c in
      let done = alike_settled p lines before.steps (late_to b plan g zone k) (late_to b plan g zone (suc k)) answers i.is.undelayed c k lt before.alike new in
      let d = done.0 in
      let alike : AnswersAlike p lines (before.steps ++ here) (late_to b plan g zone (suc k)) answers i.is.undelayed d =
      subst (λ (steps : List Step). AnswersAlike p lines (before.steps ++ steps_by k steps) (late_to b plan g zone (suc k)) answers i.is.undelayed d) mine done.1 in
      let split = course_split p (opening p) before.steps here answers c d before.alike.delayed_is alike.delayed_is in
      let w = split.0 in
      let in-c = cpu_in p before.steps answers c k before.alike.delayed_is lt in
      let settling = settling_course p c.end k lates c.left w in-c (subst (λ (steps : List Step). NeedNone p (cpu_part c.end k) steps) mine (before.alike.state.none k in-c)) split.1 in
      let count : v.count ≡ length here = sym (length-map lates (λ (step : Step). (k, step))) in
      let pushed_is = journal_push b plan zone journal g.log [] g.round rounds k (suc k) before.steps c w v here [] [] before.is before.long
      (course_lengths p (opening p) before.steps answers c before.alike.delayed_is) (course_lengths p c.end here c.left w split.1) long refl lt count some settling.needs settling.asks (omega arith)
      (λ w below. (refl, λ same. absurd (omega arith))) (λ settled. omega arith) refl refl in
      record {
        steps = before.steps ++ here;
        c = d;
        spelled = spell_after-push b plan zone journal [] v before.steps here before.spelled visit_carried;
        alike = alike;
        is = subst (λ rounds. IsJournal b plan zone (journal ++ v ∷ []) g.log g.round rounds (suc k) (before.steps ++ here) d) (append-nil rounds)
            (journal_of b plan zone (journal ++ v ∷ []) (journal ++ v ∷ []) (g.log ++ []) g.log g.round g.round (rounds ++ []) (suc k) (before.steps ++ here) (before.steps ++ here) (joined (with_more [] c) w) d refl (sym (append-nil g.log)) refl refl split.2 pushed_is);
        long = length-append before.steps here ∙ both before.long (sym count) ∙ sym (total-push journal v);
        rest = λ cpu le. carried-other cpu g.round journal v (λ same. absurd (omega arith)) ∙ before.rest cpu (omega arith);
        all = λ cpu below.
            mine_or_other (λ cpu. cpu < suc k → carried cpu g.round (journal ++ v ∷ []) ≡ length (seen b plan g cpu zone)) k cpu
            (λ below. carried-mine k g.round journal v refl refl ∙ ap (λ n. n + length lates) (before.rest k (omega arith)) ∙ sums (carried k g.round (journal_at g zone)) (length old) (length lates) (i.done k) few)
            (λ ne below. carried-other cpu g.round journal v ne ∙ before.all cpu (omega arith)) below;
        others = λ cpu round ne. carried-away cpu round journal v ne ∙ before.others cpu round ne;
      }
    where
      both : {m n k l : ℕ} → m ≡ n → k ≡ l → m + k ≡ n + l
      both e f = omega arith

      sums : (c n l : ℕ) → c ≤ n → l ≡ n - c → c + l ≡ n
      sums c n l le e = omega arith

  next_settled : HasSettledTo b plan g zone rounds lines i.is.undelayed (suc k) (journal ++ cons_option (settles_at b plan g zone k) [])
  next_settled =
      elim (nat_lt 0 (length lates)) as (λ t. nat_lt 0 (length lates) ≡ t → HasSettledTo b plan g zone rounds lines i.is.undelayed (suc k) (journal ++ cons_option (if t then Some v else None) [])) [
        | true ↦ λ e. let some : 0 < length lates = grind arith in next_some some
        | false ↦ λ e. let none : length lates ≡ 0 = grind arith in subst (λ journal. HasSettledTo b plan g zone rounds lines i.is.undelayed (suc k) journal) (sym (append-nil journal)) (next_none none)
      ] refl

pub settled_to : (b : Bundle) (plan : Plan) (g : Progress) (zone : ℕ) (rounds : List ℕ) (lines : List (ℕ × Step)) (places : List (ℕ × ℕ)) (i : InStep b plan g zone lines places) → length rounds ≡ length g.log →
    IsJournal b plan zone (journal_at g zone) g.log g.round rounds 0 i.is.steps i.is.delayed → (k : ℕ) → k ≤ b.cpus → HasSettledTo b plan g zone rounds lines i.is.undelayed k (journal_to b plan g zone k)
settled_to b plan g zone rounds lines places i long is zero le =
    subst (λ journal. HasSettledTo b plan g zone rounds lines i.is.undelayed 0 journal) (sym (append-nil (journal_at g zone))) (settled_to_none b plan g zone rounds lines places i is)
settled_to b plan g zone rounds lines places i long is (suc k) le =
    subst (λ journal. HasSettledTo b plan g zone rounds lines i.is.undelayed (suc k) journal)
    (append_assoc (journal_at g zone) (filter_map (settles_at b plan g zone) (range_with_len 0 k)) (cons_option (settles_at b plan g zone k) []) ∙ ap (λ (l : List Visit). journal_at g zone ++ l) (sym (filter_map_push (settles_at b plan g zone) k)))
    (next_settled b plan g zone rounds lines places i long k (journal_to b plan g zone k) (omega arith) (settled_to b plan g zone rounds lines places i long is k (omega arith)))

-- ---- a round's end

pub same_steps : (a c : List (ℕ × Step)) → Some a ≡ Some c → a ≡ c
same_steps a c e = cc

-- all lines of the round are done
pub all_seen : (b : Bundle) (plan : Plan) (g : Progress) (cpu zone : ℕ) → slice_index g.done cpu ≡ length (lines_of_round b cpu g.round) → length (seen b plan g cpu zone) ≡ length (steps_of b plan cpu zone g.round)
all_seen b plan g cpu zone all =
    let lines = lines_of_round b cpu g.round in
    ap (λ n. length (steps_among b plan zone (take n lines))) all ∙ ap (λ lines. length (steps_among b plan zone lines)) (take_all (length lines) lines (itself (length lines)))
  where
    itself : (n : ℕ) → n ≤ n
    itself n = omega arith

pub round_runs : (b : Bundle) (plan : Plan) (g : Progress) (s : Play) (told : ℕ → Told) (rounds : List ℕ) → ((cpu : ℕ) → cpu < b.cpus → slice_index g.done cpu ≡ length (lines_of_round b cpu g.round)) → AreBeside b plan g s told → IsRunning b plan g rounds →
    IsRunning b plan (order_step b plan g Round) rounds
round_runs b plan g s told rounds all beside running =
    let h = order_step b plan g Round in
    let same = round_same b plan g beside.sized.journals in
    record {
      long = running.long ∙ sym (ap (λ (log : List SupplyEntry). length log) same.log);
      rising = running.rising;
      few = All-weaker (λ round. round ≤ g.round) (λ round. round ≤ g.round + 1) (λ round le. omega arith) rounds running.few;
      supplied = subst (IsSupplied b plan) (sym same.log) running.supplied;
      each = λ zone in' others there j.
          let p = params_of b plan zone in
          let i = (beside.zones zone in').in_step in
          let hs = settled_to b plan g zone rounds (told zone).lines (told zone).places i running.long (running.each zone in' (told zone).lines (told zone).places i) b.cpus (omega arith) in
          let journal : journal_at h zone ≡ journal_to b plan g zone b.cpus = (round_settles b plan zone g in' beside.sized.journals).here in
          let steps : j.is.steps ≡ hs.steps = same_steps j.is.steps hs.steps (sym j.is.spelled ∙ ap (λ journal. spell_after b plan zone [] journal) journal ∙ hs.spelled) in
          let delayed : j.is.delayed ≡ hs.c =
          same_course j.is.delayed hs.c
          (sym j.is.alike.delayed_is ∙ ap (λ (l : List (ℕ × Step)). course p (opening p) l (answers_at zone h.log)) steps ∙ ap (λ (log : List SupplyEntry). course p (opening p) hs.steps (answers_at zone log)) same.log ∙ hs.alike.delayed_is) in
          journal_of b plan zone (journal_to b plan g zone b.cpus) (journal_at h zone) g.log h.log (g.round + 1) h.round rounds 0 hs.steps j.is.steps hs.c j.is.delayed journal same.log refl steps delayed
          (journal_round b plan zone (journal_to b plan g zone b.cpus) g.log g.round rounds b.cpus hs.steps hs.c hs.is);
      past = λ zone cpu round in' lt before.
          let i = (beside.zones zone in').in_step in
          let hs = settled_to b plan g zone rounds (told zone).lines (told zone).places i running.long (running.each zone in' (told zone).lines (told zone).places i) b.cpus (omega arith) in
          ap (λ journal. carried cpu round journal) (round_settles b plan zone g in' beside.sized.journals).here
          ∙ mine_or_other (λ round. round < g.round + 1 → carried cpu round (journal_to b plan g zone b.cpus) ≡ length (steps_of b plan cpu zone round)) g.round round
          (λ before. hs.all cpu lt ∙ all_seen b plan g cpu zone (all cpu lt))
          (λ ne before. hs.others cpu round ne ∙ running.past zone cpu round in' lt (omega arith)) before;
    }
