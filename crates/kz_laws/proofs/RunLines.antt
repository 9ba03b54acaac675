-- A line of an order makes a run: the journal of its zone, and the rounds of the log's entries.
use Rattle.std.proofs.Common.{◌≡◌, ◌≢◌, ◌<◌, ◌≤◌, ℕ, zero, suc, ◌==◌, ◌+◌, ◌-◌, ◌&&◌, Bool, true, false, if◌then◌else◌, List, [], ◌∷◌, ◌++◌, length, take, drop, map, replicate, slice_index, Some, refl, ap, sym, ◌∙◌, subst, arith, append_assoc, length-append}
use Rattle.std.specs.List.{All, zip}
use Rattle.std.specs.List.Sorted.{IsNonDecreasingBy}
use Rattle.std.proofs.lemmas.List.{append-nil, length-map, length-replicate, nil_from_length, take-append-drop, drop-append-le}
use Rattle.std.proofs.lemmas.List.Elements.{All-push, All-append, All-replicate}
use Rattle.std.proofs.lemmas.List.Sorted.{IsNonDecreasingBy-push}
use Rattle.kz_model.specs.declared.bundle.Bundle.{Bundle}
use Rattle.kz_model.specs.declared.bundle.OrderLine.TheVariants.{Cpu}
use Rattle.kz_model.specs.declared.step.Step.{Step}
use Rattle.kz_model.specs.declared.record.Plan.{Plan}
use Rattle.kz_model.specs.declared.record.Visit.{Visit}
use Rattle.kz_model.specs.declared.record.ZoneParams.{ZoneParams}
use Rattle.kz_model.specs.declared.supply.SupplyEntry.{SupplyEntry}
use Rattle.kz_model.specs.declared.supply.Ask.{Ask}
use Rattle.kz_model.specs.declared.supply.Answer.{Answer}
use Rattle.kz_model.specs.Zone.State.{ZoneState, opening, cpu_part}
use Rattle.kz_model.specs.Zone.Rules.{needs_visit, asks_of, all_answered}
use Rattle.kz_model.specs.Zone.Alone.{Course}
use Rattle.kz_model.specs.Run.Journal.{params_of, addressed, lines_of_round, steps_among, steps_of, carried, steps_carried, log_at, answers_at}
use Rattle.kz_model.specs.Zone.Late.{by_cpu as steps_by}
use Rattle.kz_model.specs.Run.Order.{Progress, late, counted, next_line, order_step}
use Rattle.kz_laws.specs.Play.{Play, zone_play}
use Rattle.kz_laws.specs.PlayedAt.{IsSupplied}
use Rattle.kz_model.specs.Run.Runs.{rounds_at}
use Rattle.kz_laws.specs.Undelayed.{IsNextLine}
use Rattle.kz_laws.proofs.Alike.{course_long, cpu_in}
use Rattle.kz_model.proofs.Courses.{joined}
use Rattle.kz_model.proofs.Delays.{no_asks}
use Rattle.kz_model.proofs.MoreAnswers.{with_more}
use Rattle.kz_laws.proofs.OrderJournals.{course_lengths, timed_here, timed_elsewhere, IsJournal, journal_push, journal_away}
use Rattle.kz_laws.proofs.OrderLines.{carried-push, visit_carries, entries, entries_there, entries_elsewhere, answers_at-append, new_answers, are_new, journal_at, seen, InStep, seen_mine}
use Rattle.kz_model.proofs.Addressed.{steps_among-append}
use Rattle.kz_model.proofs.LineCounts.{same_number, other_number}
use Rattle.kz_laws.proofs.OrderVisits.{visiting_course, pushed, kept_as}
use Rattle.kz_laws.proofs.Played.{Told, IsBeside, AreBeside, IsMade, asks_there, made_now}
use Rattle.kz_laws.proofs.Stocks.{entries_long, entries_asks, supplies, log_here, log_elsewhere}
use Rattle.kz_laws.proofs.Undelayed.{mine_or_other}

-- a visit of another round
pub carried-away : (cpu round : ℕ) (visits : List Visit) (v : Visit) → round ≢ v.round → carried cpu round (visits ++ v ∷ []) ≡ carried cpu round visits
carried-away cpu round visits v ne =
    carried-push cpu round visits v
    ∙ ap (λ t. carried cpu round visits + (if (v.cpu == cpu) && t then v.count else 0)) (other_number v.round round ne)
    ∙ elim (v.cpu == cpu) as (λ t. carried cpu round visits + (if t && false then v.count else 0) ≡ carried cpu round visits) [ true ↦ plain (carried cpu round visits) | false ↦ plain (carried cpu round visits) ]
  where
    plain : (n : ℕ) → n + 0 ≡ n
    plain n = omega arith

-- the same journal by equal parts
pub journal_of : (b : Bundle) (plan : Plan) (zone : ℕ) (journal journal' : List Visit) (log log' : List SupplyEntry) (round round' : ℕ) (rounds : List ℕ) (n : ℕ) (steps steps' : List (ℕ × Step)) (c c' : Course) →
    journal' ≡ journal → log' ≡ log → round' ≡ round → steps' ≡ steps → c' ≡ c → IsJournal b plan zone journal log round rounds n steps c → IsJournal b plan zone journal' log' round' rounds n steps' c'
journal_of b plan zone journal journal' log log' round round' rounds n steps steps' c c' j l r s e is =
    subst (λ journal. IsJournal b plan zone journal log' round' rounds n steps' c') (sym j)
    (subst (λ log. IsJournal b plan zone journal log round' rounds n steps' c') (sym l)
    (subst (λ round. IsJournal b plan zone journal log round rounds n steps' c') (sym r)
    (subst (λ steps. IsJournal b plan zone journal log round rounds n steps c') (sym s)
    (subst (λ c. IsJournal b plan zone journal log round rounds n steps c) (sym e) is))))

-- ---- the run so far

pub record IsRunning (b : Bundle) (plan : Plan) (g : Progress) (rounds : List ℕ) : Type 0 where
  pub long : length rounds ≡ length g.log
  pub rising : IsNonDecreasingBy (λ round. round) rounds
  pub few : All (λ round. round ≤ g.round) rounds
  pub supplied : IsSupplied b plan g.log
  pub each : (zone : ℕ) → zone < length plan.zones → (lines : List (ℕ × Step)) (places : List (ℕ × ℕ)) (i : InStep b plan g zone lines places) → IsJournal b plan zone (journal_at g zone) g.log g.round rounds 0 i.is.steps i.is.delayed
  pub past : (zone cpu round : ℕ) → zone < length plan.zones → cpu < b.cpus → round < g.round → carried cpu round (journal_at g zone) ≡ length (steps_of b plan cpu zone round)

-- more entries of this round
rising_more : (rounds : List ℕ) (round n : ℕ) → IsNonDecreasingBy (λ round. round) rounds → All (λ r. r ≤ round) rounds → IsNonDecreasingBy (λ round. round) (rounds ++ replicate n round)
rising_more rounds round zero rising few = subst (IsNonDecreasingBy (λ (r : ℕ). r)) (sym (append-nil rounds)) rising
rising_more rounds round (suc n) rising few =
    subst (IsNonDecreasingBy (λ (r : ℕ). r)) (append_assoc rounds (round ∷ []) (replicate n round))
    (rising_more (rounds ++ round ∷ []) round n (IsNonDecreasingBy-push (λ (r : ℕ). r) rounds round rising (λ d some. few (length rounds - 1) d (last some))) (All-push (λ r. r ≤ round) rounds round few (itself round)))
  where
    last : 0 < length rounds → length rounds - 1 < length rounds
    last some = omega arith

    itself : (n : ℕ) → n ≤ n
    itself n = omega arith

-- ---- a line

module _ (b : Bundle) (plan : Plan) (g : Progress) (s : Play) (told : ℕ → Told) (cpu : ℕ) (rounds : List ℕ) (next : IsNextLine b plan g (Cpu cpu)) (beside : AreBeside b plan g s told) (running : IsRunning b plan g rounds) where
  abbrev line : ℕ × Step
  line = addressed b plan (next_line b cpu g).act

  abbrev at : ℕ
  at = line.0

  abbrev step : Step
  step = line.1

  abbrev p : ZoneParams
  p = params_of b plan at

  abbrev h : Progress
  h = order_step b plan g (Cpu cpu)

  abbrev state : ZoneState
  state = (zone_play s at).state

  abbrev here : IsBeside b plan g at (zone_play s at) (told at)
  here = beside.zones at next.2

  abbrev asks : List Ask
  asks = asks_there p state cpu step

  abbrev new : List Answer
  new = new_answers b g.log asks

  abbrev more : List SupplyEntry
  more = entries at asks new

  abbrev times : List ℕ
  times = rounds ++ replicate (length more) g.round

  abbrev journal : List Visit
  journal = journal_at g at

  abbrev lates : List Step
  lates = late b plan g cpu at

  abbrev visit : Visit
  visit = record { round = g.round; cpu = cpu; count = length lates + 1; settled = false }

  made : IsMade b plan g h cpu at step state
  made = made_now b plan g s told cpu next beside

  new_long : length new ≡ length asks
  new_long = (are_new b g.log asks).long

  more_long : length more ≡ length asks
  more_long = entries_long at asks new new_long

  mine : steps_among b plan at (next_line b cpu g ∷ []) ≡ step ∷ []
  mine = ap (λ t. if t then step ∷ [] else []) (same_number at)

  answers_here : answers_at at h.log ≡ answers_at at g.log ++ new
  answers_here = ap (λ (log : List SupplyEntry). answers_at at log) made.log ∙ answers_at-append at g.log more ∙ ap (λ (l : List Answer). answers_at at g.log ++ l) (entries_there at asks new new_long)

  answers_away : (zone : ℕ) → zone ≢ at → answers_at zone h.log ≡ answers_at zone g.log
  answers_away zone ne =
      ap (λ (log : List SupplyEntry). answers_at zone log) made.log ∙ answers_at-append zone g.log more ∙ ap (λ (l : List Answer). answers_at zone g.log ++ l) (entries_elsewhere at zone asks new ne) ∙ append-nil (answers_at zone g.log)

  -- the visit carries the late steps and this one
  visit_carried : steps_carried b plan at journal visit ≡ Some (steps_by cpu (lates ++ step ∷ []))
  visit_carried =
      let k = carried cpu g.round journal in
      let old = seen b plan g cpu at in
      let now = seen b plan (counted cpu g) cpu at in
      let all = lines_of_round b cpu g.round in
      let to = slice_index (counted cpu g).done cpu in
      let le : k ≤ length old = here.in_step.done cpu in
      let one : now ≡ old ++ step ∷ [] = seen_mine b plan g cpu at (subst (λ n. cpu < n) (sym beside.sized.done) next.0) next.1 ∙ ap (λ (l : List Step). old ++ l) mine in
      let long : length now ≡ length old + 1 = ap (λ (l : List Step). length l) one ∙ length-append old (step ∷ []) in
      let dropped : drop k now ≡ lates ++ step ∷ [] = ap (λ (l : List Step). drop k l) one ∙ drop-append-le k old (step ∷ []) le in
      let parted : steps_of b plan cpu at g.round ≡ now ++ steps_among b plan at (drop to all) =
      ap (λ lines. steps_among b plan at lines) (sym (take-append-drop to all)) ∙ steps_among-append b plan at (take to all) (drop to all) in
      visit_carries b plan at journal visit now (steps_among b plan at (drop to all)) parted (fits k (length old) (length now) le long) (sym (ap (λ (l : List Step). length l) dropped ∙ length-append lates (step ∷ [])))
      ∙ ap (λ (l : List Step). Some (steps_by cpu l)) dropped
    where
      fits : (k old now : ℕ) → k ≤ old → now ≡ old + 1 → k ≤ now
      fits k old now le long = omega arith

  -- the zone of the line: a visit
  journal_visited : (others : List (ℕ × Step)) (there : List (ℕ × ℕ)) (j : InStep b plan h at others there) → needs_visit p (cpu_part state cpu) step ≡ true → IsJournal b plan at (journal_at h at) h.log h.round times 0 j.is.steps j.is.delayed
  journal_visited others there j need =
      let i = here.in_step in
      let u = i.is.undelayed in
      let c = i.is.delayed in
      let ys = lates ++ step ∷ [] in
      let with_visit : journal_at h at ≡ journal ++ visit ∷ [] = made.journal ∙ ap (λ t. if t then journal ++ visit ∷ [] else journal) need in
      let push = pushed b plan g h at visit (steps_by cpu ys) new (told at).lines others (told at).places there i j visit_carried with_visit answers_here in
      let in-c = cpu_in p i.is.steps (answers_at at g.log) c cpu i.is.alike.delayed_is next.0 in
      let same_asks : asks ≡ asks_of p u.end.shared cpu (cpu_part u.end cpu) step = ap (λ (st : ZoneState). asks_there p st cpu step) here.state in
      let visiting = visiting_course p u.end c.end cpu (λ cpu. late b plan g cpu at) step new push.0 in-c i.is.alike.state
      (ap (λ (st : ZoneState). needs_visit p (cpu_part st cpu) step) (sym here.state) ∙ need)
      (subst (λ (asks : List Ask). all_answered asks new ≡ true) same_asks (are_new b g.log asks).all) push.1.there in
      let count : visit.count ≡ length (steps_by cpu ys) = sym (length-map ys (λ (step : Step). (cpu, step)) ∙ length-append lates (step ∷ [])) in
      journal_of b plan at (journal ++ visit ∷ []) (journal_at h at) (g.log ++ more) h.log g.round h.round times 0 (i.is.steps ++ steps_by cpu ys) j.is.steps (joined (with_more new c) push.0) j.is.delayed with_visit made.log made.round push.1.steps_are push.1.course_is
      (journal_push b plan at journal g.log more g.round rounds 0 0 i.is.steps c push.0 visit (steps_by cpu ys) asks new (running.each at next.2 (told at).lines (told at).places i)
      (sym (course_long p (opening p) i.is.steps (answers_at at g.log) c i.is.alike.delayed_is).replies ∙ sym i.printed.all)
      (course_lengths p (opening p) i.is.steps (answers_at at g.log) c i.is.alike.delayed_is) push.1.lengths running.long refl next.0 count (one_more (length lates))
      (visiting.needs ∙ ap (λ n. replicate n false ++ true ∷ []) (less_one (length lates))) (visiting.asked ∙ sym same_asks) (omega arith) (λ w lt. absurd (omega (arith, lt))) (λ e. absurd (cc))
      (ap (λ (l : List SupplyEntry). map (λ (entry : SupplyEntry). entry.ask) l) (log_here at asks new) ∙ entries_asks at asks new new_long)
      (ap (λ n. rounds_at at (zip more (replicate n g.round))) more_long ∙ timed_here at g.round asks new new_long))
    where
      one_more : (n : ℕ) → 1 ≤ n + 1
      one_more n = omega arith

      less_one : (n : ℕ) → n ≡ n + 1 - 1
      less_one n = omega arith

  -- the zone of the line: one more late step
  journal_late : (others : List (ℕ × Step)) (there : List (ℕ × ℕ)) (j : InStep b plan h at others there) → needs_visit p (cpu_part state cpu) step ≡ false → IsJournal b plan at (journal_at h at) h.log h.round times 0 j.is.steps j.is.delayed
  journal_late others there j need =
      let i = here.in_step in
      let none : asks ≡ [] = no_asks p state.shared cpu (cpu_part state cpu) step need in
      let nothing : more ≡ [] = ap (λ (asks : List Ask). entries at asks (new_answers b g.log asks)) none in
      let same_journal : journal_at h at ≡ journal = made.journal ∙ ap (λ t. if t then journal ++ visit ∷ [] else journal) need in
      let no_answers : new ≡ [] = nil_from_length new (new_long ∙ ap (λ (asks : List Ask). length asks) none) in
      let kept = kept_as b plan g h at (told at).lines others (told at).places there i j same_journal (answers_here ∙ ap (λ (l : List Answer). answers_at at g.log ++ l) no_answers ∙ append-nil (answers_at at g.log)) in
      journal_of b plan at journal (journal_at h at) (g.log ++ more) h.log g.round h.round times 0 i.is.steps j.is.steps i.is.delayed j.is.delayed same_journal made.log made.round kept.steps_are kept.course_is
      (journal_away b plan at journal g.log more g.round rounds 0 i.is.steps i.is.delayed (running.each at next.2 (told at).lines (told at).places i) running.long
      (ap (λ (l : List SupplyEntry). log_at at l) nothing) (ap (λ (l : List SupplyEntry). rounds_at at (zip l (replicate (length l) g.round))) nothing))

  journal_elsewhere : (zone : ℕ) → zone ≢ at → zone < length plan.zones → (others : List (ℕ × Step)) (there : List (ℕ × ℕ)) (j : InStep b plan h zone others there) → IsJournal b plan zone (journal_at h zone) h.log h.round times 0 j.is.steps j.is.delayed
  journal_elsewhere zone ne in' others there j =
      let i = (beside.zones zone in').in_step in
      let kept = kept_as b plan g h zone (told zone).lines others (told zone).places there i j (made.others zone ne) (answers_away zone ne) in
      journal_of b plan zone (journal_at g zone) (journal_at h zone) (g.log ++ more) h.log g.round h.round times 0 i.is.steps j.is.steps i.is.delayed j.is.delayed (made.others zone ne) made.log made.round kept.steps_are kept.course_is
      (journal_away b plan zone (journal_at g zone) g.log more g.round rounds 0 i.is.steps i.is.delayed (running.each zone in' (told zone).lines (told zone).places i) running.long
      (log_elsewhere at zone asks new (other_number at zone ne)) (ap (λ n. rounds_at zone (zip more (replicate n g.round))) more_long ∙ timed_elsewhere at zone g.round asks new (other_number at zone ne)))

  carried_same : (zone other round : ℕ) → round ≢ g.round → carried other round (journal_at h zone) ≡ carried other round (journal_at g zone)
  carried_same zone other round ne =
      mine_or_other (λ zone. carried other round (journal_at h zone) ≡ carried other round (journal_at g zone)) at zone
      (ap (carried other round) made.journal
      ∙ elim (needs_visit p (cpu_part state cpu) step) as (λ t. carried other round (if t then journal ++ visit ∷ [] else journal) ≡ carried other round journal) [ true ↦ carried-away other round journal visit ne | false ↦ refl ])
      (λ away. ap (carried other round) (made.others zone away))

  pub line_runs : IsRunning b plan h times
  line_runs = record {
    long = length-append rounds (replicate (length more) g.round) ∙ ap (λ n. length rounds + n) (length-replicate (length more) g.round) ∙ ap (λ n. n + length more) running.long ∙ sym (ap (λ (log : List SupplyEntry). length log) made.log ∙ length-append g.log more);
    rising = rising_more rounds g.round (length more) running.rising running.few;
    few = subst (λ now. All (λ round. round ≤ now) times) (sym made.round) (All-append (λ round. round ≤ g.round) rounds (replicate (length more) g.round) running.few (All-replicate (λ round. round ≤ g.round) (length more) g.round (itself g.round)));
    supplied = subst (IsSupplied b plan) (sym made.log) (supplies b plan g.log at asks next.2 running.supplied).supplied;
    each = λ zone in' others there j.
        mine_or_other (λ zone. zone < length plan.zones → (j : InStep b plan h zone others there) → IsJournal b plan zone (journal_at h zone) h.log h.round times 0 j.is.steps j.is.delayed) at zone
        (λ in' j. by_needs others there j (needs_visit p (cpu_part state cpu) step) refl)
        (λ ne in' j. journal_elsewhere zone ne in' others there j) in' j;
    past = λ zone other round in' lt before.
        let earlier : round < g.round = subst (λ now. round < now) made.round before in
        carried_same zone other round (λ same. absurd (omega arith)) ∙ running.past zone other round in' lt earlier;
  }
    where
      itself : (n : ℕ) → n ≤ n
      itself n = omega arith

      by_needs : (others : List (ℕ × Step)) (there : List (ℕ × ℕ)) (j : InStep b plan h at others there) (needs : Bool) → needs_visit p (cpu_part state cpu) step ≡ needs → IsJournal b plan at (journal_at h at) h.log h.round times 0 j.is.steps j.is.delayed
      by_needs others there j true e = journal_visited others there j e
      by_needs others there j false e = journal_late others there j e
