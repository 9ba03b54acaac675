-- A line of an order in the run as it goes, beside the run as it is defined: each zone of the play is the undelayed zone.
use Rattle.std.proofs.Common.{◌≡◌, ◌≢◌, ◌<◌, ◌≤◌, ℕ, ◌==◌, ◌+◌, ◌-◌, Bool, true, false, if◌then◌else◌, List, [], ◌∷◌, ◌++◌, length, take, map, slice_index, slice_set, None, Some, refl, ap, sym, ◌∙◌, subst, arith, length-append}
use Rattle.std.proofs.lemmas.List.{append-nil, get_or-set_same, get_or-set_other, length-set, length-drop, take_all}
use Rattle.kz_model.specs.declared.bundle.Bundle.{Bundle}
use Rattle.kz_model.specs.declared.bundle.OrderLine.TheVariants.{Cpu}
use Rattle.kz_model.specs.declared.step.Step.{Step}
use Rattle.kz_model.specs.declared.step.Reply.{Reply}
use Rattle.kz_model.specs.declared.record.Plan.{Plan}
use Rattle.kz_model.specs.declared.record.Visit.{Visit}
use Rattle.kz_model.specs.declared.record.ZoneParams.{ZoneParams}
use Rattle.kz_model.specs.declared.supply.SupplyEntry.{SupplyEntry}
use Rattle.kz_model.specs.declared.supply.Ask.{Ask}
use Rattle.kz_model.specs.declared.supply.Answer.{Answer}
use Rattle.kz_model.specs.Zone.State.{Shared, ZoneState, CpuPart, opening, cpu_part}
use Rattle.kz_model.specs.Zone.Rules.{Effect, Part, needs_visit, asks_of, effect_of, part_of, put_back, alone_step}
use Rattle.kz_model.specs.Zone.Alone.{Course, course}
use Rattle.kz_model.specs.Run.Journal.{params_of, addressed, lines_of_round, steps_among, carried, answers_at}
use Rattle.kz_model.specs.Run.Order.{Progress, late, state_with_late, counted, visit_made, stepped, next_line, one_step}
use Rattle.kz_laws.specs.Undelayed.{next_there, IsNextLine}
use Rattle.kz_laws.specs.Play.{ZonePlay, Play, no_play, zone_play, zone_after, asked, effect_there, play_after_step}
use Rattle.kz_model.proofs.Courses.{joined}
use Rattle.kz_model.proofs.Delays.{no_asks}
use Rattle.kz_model.proofs.OneMore.{one_course, course_one_more}
use Rattle.kz_laws.proofs.OrderLines.{carried-mine, carried-other, entries, entries_there, entries_elsewhere, answers_at-append, new_answers, are_new, journal_at, seen, IsSized, InStep, IsUntouched, in_step_untouched, seen_mine, seen_other}
use Rattle.kz_laws.proofs.OrderRuns.{counted_untouched, line_state, one_step_sized, one_step_keeps}
use Rattle.kz_model.proofs.LineCounts.{same_number, other_number}
use Rattle.kz_laws.proofs.Stocks.{entries_answers}
use Rattle.kz_laws.proofs.Undelayed.{mine_or_other}

pub same_course : (a b : Course) → Some a ≡ Some b → a ≡ b
same_course a b e = cc

-- ---- a zone of the play

-- the lines of a zone so far, the round and the CPU of each, and the replies to them
pub record Told : Type 0 where
  pub lines : List (ℕ × Step)
  pub places : List (ℕ × ℕ)
  pub replies : List Reply

-- a zone of the play is the undelayed zone, with the visits of the order's run, and counts how many steps are late
pub record IsBeside (b : Bundle) (plan : Plan) (g : Progress) (zone : ℕ) (z : ZonePlay) (told : Told) : Type 0 where
  pub in_step : InStep b plan g zone told.lines told.places
  pub state : z.state ≡ in_step.is.undelayed.end
  pub replies : told.replies ≡ in_step.is.undelayed.replies
  pub visits : z.visits ≡ journal_at g zone
  pub long : length z.late ≡ b.cpus
  pub late : (cpu : ℕ) → cpu < b.cpus → slice_index z.late cpu + carried cpu g.round (journal_at g zone) ≡ length (seen b plan g cpu zone)

pub late_count : (b : Bundle) (plan : Plan) (g : Progress) (zone cpu : ℕ) (z : ZonePlay) (told : Told) → IsBeside b plan g zone z told → cpu < b.cpus → slice_index z.late cpu ≡ length (late b plan g cpu zone)
late_count b plan g zone cpu z told is lt =
    let k = carried cpu g.round (journal_at g zone) in
    by_numbers (slice_index z.late cpu) k (length (seen b plan g cpu zone)) (length (late b plan g cpu zone)) (is.late cpu lt) (length-drop k (seen b plan g cpu zone))
  where
    by_numbers : (n k l m : ℕ) → n + k ≡ l → m ≡ l - k → n ≡ m
    by_numbers n k l m e f = omega arith

-- lines and answers give one undelayed course
pub undelayed_same : (b : Bundle) (plan : Plan) (g h : Progress) (zone : ℕ) (lines others : List (ℕ × Step)) (places there : List (ℕ × ℕ)) (i : InStep b plan g zone lines places) (j : InStep b plan h zone others there) →
    others ≡ lines → answers_at zone h.log ≡ answers_at zone g.log → j.is.undelayed ≡ i.is.undelayed
undelayed_same b plan g h zone lines others places there i j same answers =
    let p = params_of b plan zone in
    same_course j.is.undelayed i.is.undelayed
    (sym j.is.alike.undelayed_is
    ∙ ap (λ (lines : List (ℕ × Step)). course p (opening p) lines (answers_at zone h.log)) same
    ∙ ap (λ (answers : List Answer). course p (opening p) lines answers) answers
    ∙ i.is.alike.undelayed_is)

-- ---- a line at its zone

abbrev pub asks_there : ZoneParams → ZoneState → ℕ → Step → List Ask
asks_there p state cpu step = asks_of p state.shared cpu (cpu_part state cpu) step

-- a step's part in this state, with the supply's answers after this log
abbrev pub part_there : Bundle → ZoneParams → List SupplyEntry → ℕ → Step → ZoneState → Part
part_there b p log cpu step state = part_of p state.shared cpu (cpu_part state cpu) step (new_answers b log (asks_there p state cpu step))

-- what a line makes of the log and of its zone's journal
pub record IsMade (b : Bundle) (plan : Plan) (g h : Progress) (cpu zone : ℕ) (step : Step) (state : ZoneState) : Type 0 where
  pub round : h.round ≡ g.round
  pub done : h.done ≡ slice_set g.done cpu (slice_index g.done cpu + 1)
  pub log : let asks = asks_there (params_of b plan zone) state cpu step in h.log ≡ g.log ++ entries zone asks (new_answers b g.log asks)
  pub journal : journal_at h zone
      ≡ (if needs_visit (params_of b plan zone) (cpu_part state cpu) step then journal_at g zone ++ record { round = g.round; cpu = cpu; count = length (late b plan g cpu zone) + 1; settled = false } ∷ [] else journal_at g zone)
  pub others : (other : ℕ) → other ≢ zone → journal_at h other ≡ journal_at g other

line_made : (b : Bundle) (plan : Plan) (g : Progress) (cpu zone : ℕ) (step : Step) (worked state : ZoneState) → zone < length plan.zones → IsSized b plan g → worked.shared ≡ state.shared → cpu_part worked cpu ≡ cpu_part state cpu →
    IsMade b plan g (stepped b plan cpu g zone step worked) cpu zone step state
line_made b plan g cpu zone step worked state in-zones sized shared own =
    let p = params_of b plan zone in
    let journal = journal_at g zone in
    let v : Visit = record { round = g.round; cpu = cpu; count = length (late b plan g cpu zone) + 1; settled = false } in
    let same : needs_visit p (cpu_part worked cpu) step ≡ needs_visit p (cpu_part state cpu) step = ap (λ (own : CpuPart). needs_visit p own step) own in
    let asks : asks_there p worked cpu step ≡ asks_there p state cpu step = ap (λ (s : Shared). asks_of p s cpu (cpu_part worked cpu) step) shared ∙ ap (λ (own : CpuPart). asks_of p state.shared cpu own step) own in
    elim (needs_visit p (cpu_part worked cpu) step) as (λ t. needs_visit p (cpu_part worked cpu) step ≡ t → IsMade b plan g (if t then visit_made b plan cpu g zone step worked else counted cpu g) cpu zone step state) [
      | true ↦ λ e.
          record {
            round = refl;
            done = refl;
            log = ap (λ (asks : List Ask). g.log ++ entries zone asks (new_answers b g.log asks)) asks;
            journal = get_or-set_same g.journals zone (journal ++ v ∷ []) [] (subst (λ n. zone < n) (sym sized.journals) in-zones) ∙ ap (λ t. if t then journal ++ v ∷ [] else journal) (sym e ∙ same);
            others = λ other ne. get_or-set_other g.journals zone other (journal ++ v ∷ []) [] ne;
          }
      | false ↦ λ e.
          let none : asks_there p state cpu step ≡ [] = no_asks p state.shared cpu (cpu_part state cpu) step (sym same ∙ e) in
          record {
            round = refl;
            done = refl;
            log = sym (ap (λ (asks : List Ask). g.log ++ entries zone asks (new_answers b g.log asks)) none ∙ append-nil g.log);
            journal = ap (λ t. if t then journal ++ v ∷ [] else journal) (sym e ∙ same);
            others = λ other ne. refl;
          }
    ] refl

-- the play's effect is that part's
pub effect_is : (b : Bundle) (p : ZoneParams) (log : List SupplyEntry) (zone cpu : ℕ) (step : Step) (state : ZoneState) →
    let asks = asks_there p state cpu step in
    effect_of p state.shared cpu (cpu_part state cpu) step (map (λ (entry : SupplyEntry). entry.answer) (entries zone asks (new_answers b log asks))) ≡ (part_there b p log cpu step state).effect
effect_is b p log zone cpu step state =
    let asks = asks_there p state cpu step in
    let long = (are_new b log asks).long in
    ap (λ (answers : List Answer). effect_of p state.shared cpu (cpu_part state cpu) step answers)
    (entries_answers zone asks (new_answers b log asks) long ∙ sym (take_all (length asks) (new_answers b log asks) (no_more long)))
  where
    no_more : {n m : ℕ} → n ≡ m → n ≤ m
    no_more e = omega arith

-- a zone's course with one more line, whose answers are the supply's
line_course : (b : Bundle) (p : ZoneParams) (log : List SupplyEntry) (lines : List (ℕ × Step)) (answers : List Answer) (cpu : ℕ) (step : Step) (u v : Course) → course p (opening p) lines answers ≡ Some u → u.left ≡ [] →
    course p (opening p) (lines ++ (cpu, step) ∷ []) (answers ++ new_answers b log (asks_there p u.end cpu step)) ≡ Some v →
    v ≡ joined u (one_course u.end (put_back u.end cpu (part_there b p log cpu step u.end)))
line_course b p log lines answers cpu step u v made used more =
    let asks = asks_there p u.end cpu step in
    let o = put_back u.end cpu (part_there b p log cpu step u.end) in
    let one : alone_step p u.end cpu step (new_answers b log asks) ≡ Some o = ap (λ t. if t then Some o else None) (are_new b log asks).all in
    same_course v (joined u (one_course u.end o)) (sym more ∙ course_one_more p (opening p) lines cpu step answers (new_answers b log asks) u o made used one)

-- what a CPU has done at a zone, with one more line
pub seen_now : (b : Bundle) (plan : Plan) (g h : Progress) (cpu zone other : ℕ) → h.round ≡ g.round → h.done ≡ slice_set g.done cpu (slice_index g.done cpu + 1) → seen b plan h other zone ≡ seen b plan (counted cpu g) other zone
seen_now b plan g h cpu zone other round done =
    ap (λ round. steps_among b plan zone (take (slice_index h.done other) (lines_of_round b other round))) round
    ∙ ap (λ (done : List ℕ). steps_among b plan zone (take (slice_index done other) (lines_of_round b other g.round))) done

module _ (b : Bundle) (plan : Plan) (g h : Progress) (cpu zone : ℕ) (step : Step) (z : ZonePlay) (told now : Told) (effect : Effect)
    (lt : cpu < b.cpus) (in-zones : zone < length plan.zones) (sized : IsSized b plan g) (more : slice_index g.done cpu < length (lines_of_round b cpu g.round)) (mine : steps_among b plan zone (next_line b cpu g ∷ []) ≡ step ∷ [])
    (is : IsBeside b plan g zone z told) (made : IsMade b plan g h cpu zone step z.state) (j : InStep b plan h zone now.lines now.places) (lines : now.lines ≡ told.lines ++ (cpu, step) ∷ [])
    (replies : now.replies ≡ told.replies ++ effect.reply ∷ []) (effect_there : effect ≡ (part_there b (params_of b plan zone) g.log cpu step z.state).effect) where
  abbrev p : ZoneParams
  p = params_of b plan zone

  abbrev u : Course
  u = is.in_step.is.undelayed

  abbrev answers : List Answer
  answers = answers_at zone g.log

  abbrev journal : List Visit
  journal = journal_at g zone

  abbrev needs : Bool
  needs = needs_visit p (cpu_part z.state cpu) step

  abbrev lates : ℕ
  lates = slice_index z.late cpu

  abbrev v : Visit
  v = record { round = g.round; cpu = cpu; count = length (late b plan g cpu zone) + 1; settled = false }

  answers_are : answers_at zone h.log ≡ answers ++ new_answers b g.log (asks_there p z.state cpu step)
  answers_are =
      let asks = asks_there p z.state cpu step in
      ap (λ (log : List SupplyEntry). answers_at zone log) made.log
      ∙ answers_at-append zone g.log (entries zone asks (new_answers b g.log asks))
      ∙ ap (λ (l : List Answer). answers ++ l) (entries_there zone asks (new_answers b g.log asks) (are_new b g.log asks).long)

  course_is : j.is.undelayed ≡ joined u (one_course u.end (put_back u.end cpu (part_there b p g.log cpu step u.end)))
  course_is =
      line_course b p g.log told.lines answers cpu step u j.is.undelayed is.in_step.is.alike.undelayed_is is.in_step.is.used
      (ap (λ (st : ZoneState). course p (opening p) (told.lines ++ (cpu, step) ∷ []) (answers ++ new_answers b g.log (asks_there p st cpu step))) (sym is.state)
      ∙ ap (λ (answers : List Answer). course p (opening p) (told.lines ++ (cpu, step) ∷ []) answers) (sym answers_are)
      ∙ ap (λ (lines : List (ℕ × Step)). course p (opening p) lines (answers_at zone h.log)) (sym lines)
      ∙ j.is.alike.undelayed_is)

  abbrev after : ZonePlay
  after = zone_after g.round cpu z needs effect

  state_is : after.state ≡ j.is.undelayed.end
  state_is =
      ap (λ (e : Effect). let own = slice_set z.state.own cpu e.own in let st : ZoneState = record { shared = e.shared; own = own } in st) effect_there
      ∙ ap (λ (st : ZoneState). (put_back st cpu (part_there b p g.log cpu step st)).state) is.state
      ∙ sym (ap (λ (c : Course). c.end) course_is)

  replies_are : now.replies ≡ j.is.undelayed.replies
  replies_are =
      replies
      ∙ ap (λ (e : Effect). told.replies ++ e.reply ∷ []) effect_there
      ∙ ap (λ (rs : List Reply). rs ++ (part_there b p g.log cpu step z.state).effect.reply ∷ []) is.replies
      ∙ ap (λ (st : ZoneState). u.replies ++ (part_there b p g.log cpu step st).effect.reply ∷ []) is.state
      ∙ sym (ap (λ (c : Course). c.replies) course_is)

  count_is : lates ≡ length (late b plan g cpu zone)
  count_is = late_count b plan g zone cpu z told is lt

  visits_are : after.visits ≡ journal_at h zone
  visits_are =
      ap (λ (visits : List Visit). if needs then visits ++ record { round = g.round; cpu = cpu; count = lates + 1; settled = false } ∷ [] else visits) is.visits
      ∙ ap (λ n. if needs then journal ++ record { round = g.round; cpu = cpu; count = n + 1; settled = false } ∷ [] else journal) count_is
      ∙ sym made.journal

  -- this CPU has one more step there, late or carried
  late_mine : slice_index after.late cpu + carried cpu h.round (journal_at h zone) ≡ length (seen b plan h cpu zone)
  late_mine =
      let long : length (seen b plan h cpu zone) ≡ length (seen b plan g cpu zone) + 1 =
      ap (λ (l : List Step). length l) (seen_now b plan g h cpu zone cpu made.round made.done ∙ seen_mine b plan g cpu zone (subst (λ n. cpu < n) (sym sized.done) lt) more ∙ ap (λ (l : List Step). seen b plan g cpu zone ++ l) mine)
      ∙ length-append (seen b plan g cpu zone) (step ∷ []) in
      let there : carried cpu h.round (journal_at h zone) ≡ carried cpu g.round (if needs then journal ++ v ∷ [] else journal) = ap (λ round. carried cpu round (journal_at h zone)) made.round ∙ ap (λ journal. carried cpu g.round journal) made.journal in
      let own : slice_index after.late cpu ≡ (if needs then 0 else lates + 1) = get_or-set_same z.late cpu (if needs then 0 else lates + 1) 0 (subst (λ n. cpu < n) (sym is.long) lt) in
      ap (λ n. n + carried cpu h.round (journal_at h zone)) own
      ∙ ap (λ n. (if needs then 0 else lates + 1) + n) there
      ∙ elim needs as (λ t. (if t then 0 else lates + 1) + carried cpu g.round (if t then journal ++ v ∷ [] else journal) ≡ length (seen b plan g cpu zone) + 1) [
        | true ↦ omega (arith, carried-mine cpu g.round journal v refl refl, is.late cpu lt, count_is)
        | false ↦ omega (arith, is.late cpu lt)
      ]
      ∙ sym long

  late_other : (other : ℕ) → other ≢ cpu → other < b.cpus → slice_index after.late other + carried other h.round (journal_at h zone) ≡ length (seen b plan h other zone)
  late_other other ne in' =
      let long : length (seen b plan h other zone) ≡ length (seen b plan g other zone) = ap (λ (l : List Step). length l) (seen_now b plan g h cpu zone other made.round made.done ∙ seen_other b plan g cpu other zone ne) in
      let there : carried other h.round (journal_at h zone) ≡ carried other g.round (if needs then journal ++ v ∷ [] else journal) = ap (λ round. carried other round (journal_at h zone)) made.round ∙ ap (λ journal. carried other g.round journal) made.journal in
      ap (λ n. n + carried other h.round (journal_at h zone)) (get_or-set_other z.late cpu other (if needs then 0 else lates + 1) 0 ne)
      ∙ ap (λ n. slice_index z.late other + n) there
      ∙ elim needs as (λ t. slice_index z.late other + carried other g.round (if t then journal ++ v ∷ [] else journal) ≡ length (seen b plan g other zone)) [
        | true ↦ ap (λ n. slice_index z.late other + n) (carried-other other g.round journal v ne) ∙ is.late other in'
        | false ↦ is.late other in'
      ]
      ∙ sym long

  pub beside_there : IsBeside b plan h zone after now
  beside_there = record {
    in_step = j;
    state = state_is;
    replies = replies_are;
    visits = visits_are;
    long = length-set z.late cpu (if needs then 0 else lates + 1) ∙ is.long;
    late = λ other in'. mine_or_other (λ other. other < b.cpus → slice_index after.late other + carried other h.round (journal_at h zone) ≡ length (seen b plan h other zone)) cpu other (λ in'. late_mine) (λ ne in'. late_other other ne in') in';
  }

-- ---- a zone that a line does not touch

beside_untouched : (b : Bundle) (plan : Plan) (g h : Progress) (zone : ℕ) (z : ZonePlay) (told : Told) → IsUntouched b plan g h zone → IsBeside b plan g zone z told → IsBeside b plan h zone z told
beside_untouched b plan g h zone z told same is =
    let j = in_step_untouched b plan g h zone told.lines told.places same is.in_step in
    let u : j.is.undelayed ≡ is.in_step.is.undelayed = undelayed_same b plan g h zone told.lines told.lines told.places told.places is.in_step j refl same.answers in
    record {
      in_step = j;
      state = is.state ∙ sym (ap (λ (c : Course). c.end) u);
      replies = is.replies ∙ sym (ap (λ (c : Course). c.replies) u);
      visits = is.visits ∙ sym same.journal;
      long = is.long;
      late = λ cpu lt.
          ap (λ n. slice_index z.late cpu + n) (ap (λ round. carried cpu round (journal_at h zone)) same.round ∙ ap (λ journal. carried cpu g.round journal) same.journal)
          ∙ is.late cpu lt ∙ sym (ap (λ (l : List Step). length l) (same.seen cpu));
    }

-- ---- a line

-- the line of a CPU and the reply to it, told at its zone
abbrev pub more_told : Bundle → Plan → Progress → ℕ → Reply → (ℕ → Told) → ℕ → Told
more_told b plan g cpu reply told zone =
    let here = next_there b plan zone g cpu in
    record {
      lines = (told zone).lines ++ here;
      places = (told zone).places ++ map (λ step. (g.round, step.0)) here;
      replies = (told zone).replies ++ (if (addressed b plan (next_line b cpu g).act).0 == zone then reply ∷ [] else []);
    }

-- the play is beside the order's run
pub record AreBeside (b : Bundle) (plan : Plan) (g : Progress) (s : Play) (told : ℕ → Told) : Type 0 where
  pub sized : IsSized b plan g
  pub round : s.round ≡ g.round
  pub log : s.log ≡ g.log
  pub zones_long : length s.zones ≡ length plan.zones
  pub cpus_long : length s.replies ≡ b.cpus
  pub zones : (zone : ℕ) → zone < length plan.zones → IsBeside b plan g zone (zone_play s zone) (told zone)

pub told_elsewhere : (b : Bundle) (plan : Plan) (g : Progress) (cpu zone : ℕ) (reply : Reply) (told : ℕ → Told) → zone ≢ (addressed b plan (next_line b cpu g).act).0 → more_told b plan g cpu reply told zone ≡ told zone
told_elsewhere b plan g cpu zone reply told ne =
    let there = addressed b plan (next_line b cpu g).act in
    let t = told zone in
    ap (λ test. let told : Told = record { lines = t.lines ++ (if test then (cpu, there.1) ∷ [] else []); places = t.places ++ map (λ (step : ℕ × Step). (g.round, step.0)) (if test then (cpu, there.1) ∷ [] else []); replies = t.replies ++ (if test then reply ∷ [] else []) } in told) (other_number there.0 zone ne)
    ∙ ap (λ (lines : List (ℕ × Step)). record { lines = lines; places = t.places ++ []; replies = t.replies ++ [] }) (append-nil t.lines)
    ∙ ap (λ (places : List (ℕ × ℕ)). record { lines = t.lines; places = places; replies = t.replies ++ [] }) (append-nil t.places)
    ∙ ap (λ (replies : List Reply). record { lines = t.lines; places = t.places; replies = replies }) (append-nil t.replies)

module _ (b : Bundle) (plan : Plan) (g : Progress) (s : Play) (told : ℕ → Told) (cpu : ℕ) (next : IsNextLine b plan g (Cpu cpu)) (beside : AreBeside b plan g s told) where
  abbrev line : ℕ × Step
  line = addressed b plan (next_line b cpu g).act

  abbrev at : ℕ
  at = line.0

  abbrev h : Progress
  h = one_step b plan cpu g

  abbrev effect_now : Effect
  effect_now = effect_there b plan s cpu at line.1

  abbrev t : Play
  t = play_after_step b plan s cpu at line.1

  abbrev now : ℕ → Told
  now = more_told b plan g cpu effect_now.reply told

  here : IsBeside b plan g at (zone_play s at) (told at)
  here = beside.zones at next.2

  pub made_now : IsMade b plan g h cpu at line.1 (zone_play s at).state
  made_now =
      let worked = state_with_late b plan g cpu at in
      let same = line_state b plan g cpu at (told at).lines (told at).places next.0 here.in_step in
      line_made b plan g cpu at line.1 worked (zone_play s at).state next.2 beside.sized (same.0 ∙ sym (ap (λ (st : ZoneState). st.shared) here.state)) (same.1 ∙ sym (ap (λ (st : ZoneState). cpu_part st cpu) here.state))

  effect_is_there : effect_now ≡ (part_there b (params_of b plan at) g.log cpu line.1 (zone_play s at).state).effect
  effect_is_there =
      let p = params_of b plan at in
      let st = (zone_play s at).state in
      let asks = asks_there p st cpu line.1 in
      ap (λ (log : List SupplyEntry). effect_of p st.shared cpu (cpu_part st cpu) line.1 (map (λ (entry : SupplyEntry). entry.answer) (entries at asks (new_answers b log asks)))) beside.log
      ∙ effect_is b p g.log at cpu line.1 st

  kept : (zone : ℕ) → IsBeside b plan g zone (zone_play s zone) (told zone) → InStep b plan h zone (now zone).lines (now zone).places
  kept zone is = one_step_keeps b plan g cpu zone (told zone).lines (told zone).places beside.sized next is.in_step

  beside_here : IsBeside b plan h at (zone_play t at) (now at)
  beside_here =
      let z = zone_play s at in
      let p = params_of b plan at in
      let needs = needs_visit p (cpu_part z.state cpu) line.1 in
      let after : zone_play t at ≡ zone_after g.round cpu z needs effect_now =
      get_or-set_same s.zones at (zone_after s.round cpu z needs effect_now) no_play (subst (λ n. at < n) (sym beside.zones_long) next.2)
      ∙ ap (λ round. zone_after round cpu z needs effect_now) beside.round in
      let mine : steps_among b plan at (next_line b cpu g ∷ []) ≡ line.1 ∷ [] = ap (λ t. if t then line.1 ∷ [] else []) (same_number at) in
      subst (λ (z : ZonePlay). IsBeside b plan h at z (now at)) (sym after)
      (beside_there b plan g h cpu at line.1 z (told at) (now at) effect_now next.0 next.2 beside.sized next.1 mine here made_now (kept at here)
      (ap (λ t. (told at).lines ++ (if t then (cpu, line.1) ∷ [] else [])) (same_number at))
      (ap (λ t. (told at).replies ++ (if t then effect_now.reply ∷ [] else [])) (same_number at))
      effect_is_there)

  beside_elsewhere : (zone : ℕ) → zone ≢ at → zone < length plan.zones → IsBeside b plan h zone (zone_play t zone) (now zone)
  beside_elsewhere zone ne in' =
      let z = zone_play s at in
      let p = params_of b plan at in
      let asks = asks_there p z.state cpu line.1 in
      let none : steps_among b plan zone (next_line b cpu g ∷ []) ≡ [] = ap (λ t. if t then line.1 ∷ [] else []) (other_number at zone ne) in
      let untouched : IsUntouched b plan g h zone =
      record {
        round = made_now.round;
        journal = made_now.others zone ne;
        answers = ap (λ (log : List SupplyEntry). answers_at zone log) made_now.log
            ∙ answers_at-append zone g.log (entries at asks (new_answers b g.log asks))
            ∙ ap (λ (l : List Answer). answers_at zone g.log ++ l) (entries_elsewhere at zone asks (new_answers b g.log asks) ne)
            ∙ append-nil (answers_at zone g.log);
        seen = λ other. seen_now b plan g h cpu zone other made_now.round made_now.done ∙ (counted_untouched b plan g cpu zone (subst (λ n. cpu < n) (sym beside.sized.done) next.0) next.1 none).seen other;
      } in
      subst (λ (z : ZonePlay). IsBeside b plan h zone z (now zone)) (sym (get_or-set_other s.zones at zone (zone_after s.round cpu z (needs_visit p (cpu_part z.state cpu) line.1) effect_now) no_play ne))
      (subst (λ (told : Told). IsBeside b plan h zone (zone_play s zone) told) (sym (told_elsewhere b plan g cpu zone effect_now.reply told ne))
      (beside_untouched b plan g h zone (zone_play s zone) (told zone) untouched (beside.zones zone in')))

  pub line_beside : AreBeside b plan h t now
  line_beside = record {
    sized = one_step_sized b plan g cpu beside.sized;
    round = beside.round ∙ sym made_now.round;
    log = ap (λ (log : List SupplyEntry). log ++ asked b plan (record s { log = log }) cpu at line.1) beside.log ∙ sym made_now.log;
    zones_long = length-set s.zones at _ ∙ beside.zones_long;
    cpus_long = length-set s.replies cpu _ ∙ beside.cpus_long;
    zones = λ zone in'. mine_or_other (λ zone. zone < length plan.zones → IsBeside b plan h zone (zone_play t zone) (now zone)) at zone (λ in'. beside_here) (λ ne in'. beside_elsewhere zone ne in') in';
  }
