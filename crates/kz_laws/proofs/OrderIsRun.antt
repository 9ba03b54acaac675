-- The run of an order is a run of the bundle.
use Rattle.std.proofs.Common.{◌≡◌, ◌≢◌, ◌<◌, ◌≤◌, ℕ, ◌==◌, ◌+◌, ◌-◌, ◌&&◌, nat_lt, true, false, if◌then◌else◌, List, [], ◌∷◌, ◌++◌, length, map, slice_index, slice_index_or, slice_set, Option, None, Some, IsTrue, refl, ap, sym, ◌∙◌, subst, arith}
use Rattle.std.specs.List.{All, fold, filter}
use Rattle.std.specs.Option.{option_map_or, unwrap_or}
use Rattle.std.proofs.lemmas.List.{append-nil, get_or-map, get_or_past, length-map}
use Rattle.std.proofs.lemmas.List.Elements.{All-nil, All-head, All-tail, All-weaker}
use Rattle.kz_model.specs.declared.bundle.Bundle.{Bundle}
use Rattle.kz_model.specs.declared.bundle.TraceStep.{TraceStep}
use Rattle.kz_model.specs.declared.bundle.OrderLine.{OrderLine}
use Rattle.kz_model.specs.declared.bundle.OrderLine.TheVariants.{Cpu, Round}
use Rattle.kz_model.specs.declared.step.Step.{Step}
use Rattle.kz_model.specs.declared.record.Plan.{Plan}
use Rattle.kz_model.specs.declared.record.Visit.{Visit}
use Rattle.kz_model.specs.declared.supply.SupplyEntry.{SupplyEntry}
use Rattle.kz_model.specs.Zone.State.{opening}
use Rattle.kz_model.specs.Zone.Alone.{Course, course, alone}
use Rattle.kz_model.specs.Run.Journal.{params_of, addressed, trace_of, lines_of_round, steps_among, steps_of, carried, spell, spell_after, answers_at, alone_at}
use Rattle.kz_model.specs.Run.Order.{Progress, opening_progress, order_of, order_step, order_run}
use Rattle.kz_laws.specs.Play.{Play, line_to_play, effect_there, opening_play, play_after_line, play_after_round, play_after_order_line}
use Rattle.kz_model.specs.Types.Planned.{HasZones}
use Rattle.kz_model.specs.Run.Runs.{IsRunAt, IsRun}
use Rattle.kz_model.specs.Run.Supply.{supply_answers}
use Rattle.kz_model.specs.Grammar.Turns.{counts_in, is_of_round}
use Rattle.kz_laws.specs.Undelayed.{IsNextLine}
use Rattle.kz_model.specs.Grammar.Valid.{IsStepWithin, IsValid}
use Rattle.kz_laws.proofs.InTurn.{turn_of_cpu, turn_of_round, turn_ends, next_within}
use Rattle.kz_laws.proofs.OrderLines.{journal_at, InStep}
use Rattle.kz_laws.proofs.OrderRuns.{no_journal, used_all}
use Rattle.kz_laws.proofs.Played.{Told, AreBeside, more_told, same_course}
use Rattle.kz_laws.proofs.PlayedRounds.{IsSame, round_same, round_settles}
use Rattle.kz_laws.proofs.PlayedRuns.{IsGoing, Goes, line_goes, round_goes, nothing_told, going_at_start, goes_so_far}
use Rattle.kz_laws.proofs.RunLines.{journal_of, IsRunning, line_runs}
use Rattle.kz_laws.proofs.RunRounds.{journal_to, HasSettledTo, settled_to, same_steps, all_seen, round_runs}
use Rattle.kz_laws.proofs.Stocks.{supplied_at_start}
use Rattle.kz_model.proofs.TraceRounds.{steps_within}
use Rattle.kz_laws.proofs.Undelayed.{mine_or_other}

-- ---- along the order

runs : (b : Bundle) (plan : Plan) → IsValid b → HasZones b plan → (lines more : List OrderLine) (g : Progress) (s : Play) (told : ℕ → Told) (left : List ℕ) (rounds : List ℕ) → IsGoing b plan g s told left (lines ++ more) → IsRunning b plan g rounds →
    (times : List ℕ) × IsRunning b plan (fold (order_step b plan) g lines) times
runs b plan valid zones [] more g s told left rounds going running = (rounds, running)
runs b plan valid zones (Cpu cpu ∷ lines) more g s told left rounds going running =
    let turn = turn_of_cpu b plan g left cpu (lines ++ more) going.turns in
    let next : IsNextLine b plan g (Cpu cpu) = (turn.0, turn.1, next_within b plan g cpu valid zones turn.1) in
    let line = addressed b plan (line_to_play b s cpu).act in
    runs b plan valid zones lines more (order_step b plan g (Cpu cpu)) (play_after_line b plan s cpu) (more_told b plan g cpu (effect_there b plan s cpu line.0 line.1).reply told) (slice_set left cpu (slice_index left cpu - 1)) _
    (line_goes b plan valid zones g s told left cpu (lines ++ more) going) (line_runs b plan g s told cpu rounds next going.beside running)
runs b plan valid zones (Round ∷ lines) more g s told left rounds going running =
    let turn = turn_of_round b plan g left (lines ++ more) valid.traces going.turns in
    runs b plan valid zones lines more (order_step b plan g Round) (play_after_round b s) told (counts_in b (g.round + 1)) rounds
    (round_goes b plan valid g s told left (lines ++ more) going) (round_runs b plan g s told rounds turn.0 going.beside running)

running_at_start : (b : Bundle) (plan : Plan) → IsRunning b plan (opening_progress b plan) []
running_at_start b plan =
    record {
      long = refl;
      rising = λ i j d le lt. absurd (omega arith);
      few = All-nil (λ round. round ≤ 0);
      supplied = supplied_at_start b plan;
      each = λ zone in' lines places i.
          let p = params_of b plan zone in
          let none : journal_at (opening_progress b plan) zone ≡ [] = no_journal (length plan.zones) zone in
          let nothing : Course = record { replies = []; asks = []; before = []; end = opening p; left = [] } in
          let steps : i.is.steps ≡ [] = same_steps i.is.steps [] (sym i.is.spelled ∙ ap (λ journal. spell_after b plan zone [] journal) none) in
          let delayed : i.is.delayed ≡ nothing = same_course i.is.delayed nothing (sym i.is.alike.delayed_is ∙ ap (λ (l : List (ℕ × Step)). course p (opening p) l []) steps) in
          journal_of b plan zone [] (journal_at (opening_progress b plan) zone) [] [] 0 0 [] 0 [] i.is.steps nothing i.is.delayed none refl refl steps delayed (record {
            in_rounds = λ i j d le lt. absurd (omega arith);
            within = All-nil (λ (v : Visit). (v.round ≤ 0) × (v.cpu < b.cpus));
            carries = refl;
            settles = tt;
            settled = All-nil (λ (v : Visit). v.round ≡ 0 → IsTrue v.settled → v.cpu < 0);
            asked = refl;
            timed = refl;
          });
      past = λ zone cpu round in' lt before. absurd (omega arith);
    }

-- ---- the whole

-- visits of others, or of other rounds
carried-none : (cpu round : ℕ) (visits : List Visit) → All (λ v. ((v.cpu == cpu) && (v.round == round)) ≡ false) visits → carried cpu round visits ≡ 0
carried-none cpu round [] none = refl
carried-none cpu round (v ∷ visits) none =
    let P : Visit → Type 0 = λ v. ((v.cpu == cpu) && (v.round == round)) ≡ false in
    ap (λ t. (if t then v.count else 0) + carried cpu round visits) (All-head P v visits none) ∙ plain (carried cpu round visits) ∙ carried-none cpu round visits (All-tail P v visits none)
  where
    plain : (n : ℕ) → 0 + n ≡ n
    plain n = omega arith

none_of_round : (round rounds : ℕ) (lines : List TraceStep) → rounds ≤ round → All (λ line. line.round < rounds) lines → filter (is_of_round round) lines ≡ []
none_of_round round rounds [] le within = refl
none_of_round round rounds (line ∷ lines) le within =
    let below : line.round < rounds = All-head (λ (line : TraceStep). line.round < rounds) line lines within in
    let none : (line.round == round) ≡ false = grind arith in
    ap (λ t. if t then line ∷ filter (is_of_round round) lines else filter (is_of_round round) lines) none ∙ none_of_round round rounds lines le (All-tail (λ (line : TraceStep). line.round < rounds) line lines within)

module _ (b : Bundle) (plan : Plan) (valid : IsValid b) (zones : HasZones b plan) where
  abbrev lines : List OrderLine
  lines = order_of b

  abbrev g : Progress
  g = fold (order_step b plan) (opening_progress b plan) lines

  abbrev run : Progress
  run = order_run b plan

  all_runs : (times : List ℕ) × IsRunning b plan g times
  all_runs =
      runs b plan valid zones lines [] (opening_progress b plan) (opening_play b plan) nothing_told (counts_in b 0) []
      (subst (λ lines. IsGoing b plan (opening_progress b plan) (opening_play b plan) nothing_told (counts_in b 0) lines) (sym (append-nil lines)) (going_at_start b plan valid)) (running_at_start b plan)

  abbrev times : List ℕ
  times = all_runs.0

  running : IsRunning b plan g times
  running = all_runs.1

  end : Goes b plan (opening_progress b plan) (opening_play b plan) nothing_told lines []
  end = goes_so_far b plan valid zones lines [] (append-nil lines)

  abbrev beside : AreBeside b plan g (fold (play_after_order_line b plan) (opening_play b plan) lines) end.now
  beside = end.going.beside

  over : ((cpu : ℕ) → cpu < b.cpus → slice_index g.done cpu ≡ length (lines_of_round b cpu g.round)) × (g.round + 1 ≡ b.rounds)
  over = turn_ends b g end.left end.going.turns

  settled : IsSame g run
  settled = round_same b plan g beside.sized.journals

  abbrev in_step : (zone : ℕ) (in' : zone < length plan.zones) → InStep b plan g zone (end.now zone).lines (end.now zone).places
  in_step zone in' = (beside.zones zone in').in_step

  hs : (zone : ℕ) (in' : zone < length plan.zones) → HasSettledTo b plan g zone times (end.now zone).lines (in_step zone in').is.undelayed b.cpus (journal_to b plan g zone b.cpus)
  hs zone in' = settled_to b plan g zone times (end.now zone).lines (end.now zone).places (in_step zone in') running.long (running.each zone in' (end.now zone).lines (end.now zone).places (in_step zone in')) b.cpus (omega arith)

  journal_is : (zone : ℕ) → zone < length plan.zones → journal_at run zone ≡ journal_to b plan g zone b.cpus
  journal_is zone in' = (round_settles b plan zone g in' beside.sized.journals).here

  spelled_is : (zone : ℕ) (in' : zone < length plan.zones) → spell b plan run.journals zone ≡ Some (hs zone in').steps
  spelled_is zone in' = ap (λ journal. spell_after b plan zone [] journal) (journal_is zone in') ∙ (hs zone in').spelled

  alone_is : (zone : ℕ) (in' : zone < length plan.zones) → alone (params_of b plan zone) (hs zone in').steps (answers_at zone run.log) ≡ Some (hs zone in').c
  alone_is zone in' =
      let p = params_of b plan zone in
      let h = hs zone in' in
      ap (λ (log : List SupplyEntry). alone p h.steps (answers_at zone log)) settled.log
      ∙ used_all (course p (opening p) h.steps) (answers_at zone g.log) h.c h.alike.delayed_is (sym h.alike.left ∙ (in_step zone in').is.used)

  -- a round that is over, the last one, and those that the bundle has not
  complete_of : (zone : ℕ) (in' : zone < length plan.zones) (cpu round : ℕ) → cpu < b.cpus → carried cpu round (journal_to b plan g zone b.cpus) ≡ length (steps_of b plan cpu zone round)
  complete_of zone in' cpu round lt =
      let h = hs zone in' in
      let J = journal_to b plan g zone b.cpus in
      mine_or_other (λ round. carried cpu round J ≡ length (steps_of b plan cpu zone round)) g.round round
      (h.all cpu lt ∙ all_seen b plan g cpu zone (over.0 cpu lt))
      (λ ne.
      elim (nat_lt round g.round) as (λ t. nat_lt round g.round ≡ t → carried cpu round J ≡ length (steps_of b plan cpu zone round)) [
        | true ↦ λ e. let before : round < g.round = grind arith in h.others cpu round ne ∙ running.past zone cpu round in' lt before
        | false ↦ λ e.
            let after : g.round < round = later round g.round e ne in
            carried-none cpu round J (λ k d within. past_it (slice_index_or J k d) (omega (arith, (h.is.within k d within).0, after)))
            ∙ sym (ap (λ lines. length (steps_among b plan zone lines)) (none_of_round round b.rounds (trace_of b cpu) (omega (arith, over.1, after)) (All-weaker (IsStepWithin (length b.names) (length b.types) b.rounds) (λ (line : TraceStep). line.round < b.rounds) (λ line is. is.round) (trace_of b cpu) (steps_within b valid cpu))))
      ] refl)
    where
      later : (round now : ℕ) → nat_lt round now ≡ false → round ≢ now → now < round
      later round now e ne = grind arith

      past_it : (v : Visit) → v.round < round → ((v.cpu == cpu) && (v.round == round)) ≡ false
      past_it v lt = let none : (v.round == round) ≡ false = grind arith in ap (λ t. (v.cpu == cpu) && t) none ∙ elim (v.cpu == cpu) as (λ t. (t && false) ≡ false) [ true ↦ refl | false ↦ refl ]

  complete : (zone : ℕ) (in' : zone < length plan.zones) (cpu round : ℕ) → carried cpu round (journal_to b plan g zone b.cpus) ≡ length (steps_of b plan cpu zone round)
  complete zone in' cpu round =
      let J = journal_to b plan g zone b.cpus in
      elim (nat_lt cpu b.cpus) as (λ t. nat_lt cpu b.cpus ≡ t → carried cpu round J ≡ length (steps_of b plan cpu zone round)) [
        | true ↦ λ e. let lt : cpu < b.cpus = grind arith in complete_of zone in' cpu round lt
        | false ↦ λ e.
            let past : b.cpus ≤ cpu = grind arith in
            carried-none cpu round J (λ k d within. none_of (slice_index_or J k d) (omega (arith, ((hs zone in').is.within k d within).1, past)))
            ∙ sym (ap (λ lines. length (steps_among b plan zone (filter (is_of_round round) lines))) (get_or_past b.traces cpu [] (subst (λ n. n ≤ cpu) (sym valid.traces) past)))
      ] refl
    where
      none_of : (v : Visit) → v.cpu < cpu → ((v.cpu == cpu) && (v.round == round)) ≡ false
      none_of v lt = let none : (v.cpu == cpu) ≡ false = grind arith in ap (λ t. t && (v.round == round)) none

  run_at : (zone : ℕ) (in' : zone < length plan.zones) → IsRunAt b plan (journal_at run zone) run.log times zone (hs zone in').steps (hs zone in').c
  run_at zone in' =
      let h = hs zone in' in
      let is = h.is in
      subst (λ journal. IsRunAt b plan journal run.log times zone h.steps h.c) (sym (journal_is zone in'))
      (subst (λ log. IsRunAt b plan (journal_to b plan g zone b.cpus) log times zone h.steps h.c) (sym settled.log) (record {
        in_rounds = λ i j d le lt.
            let J = journal_to b plan g zone b.cpus in
            let within : j < length J = subst (λ n. j < n) (length-map J (λ (v : Visit). v.round)) lt in
            let v : Visit = record { round = d; cpu = 0; count = 0; settled = false } in
            omega (arith, is.in_rounds i j v le within, get_or-map (λ (v : Visit). v.round) J i v d (omega arith), get_or-map (λ (v : Visit). v.round) J j v d within);
        complete = complete zone in';
        carries = is.carries;
        settles = is.settles;
        alone = ap (λ (log : List SupplyEntry). alone (params_of b plan zone) h.steps (answers_at zone log)) (sym settled.log) ∙ alone_is zone in';
        asked = is.asked;
        asked_in_round = is.timed;
      }))

  abbrev steps_at : ℕ → List (ℕ × Step)
  steps_at zone = unwrap_or (spell b plan run.journals zone) []

  abbrev made_at : ℕ → Course
  made_at zone = unwrap_or (alone_at b plan run.journals run.log zone) (record { replies = []; asks = []; before = []; end = opening (params_of b plan zone); left = [] })

  pub order_is_run : IsRun b plan run.journals run.log
  order_is_run = record {
    one_journal_each = settled.long ∙ beside.sized.journals;
    of_zones = subst (λ (log : List SupplyEntry). All (λ (entry : SupplyEntry). entry.zone < length plan.zones) log) (sym settled.log) running.supplied.of_zones;
    answered = subst (λ (log : List SupplyEntry). map (λ (entry : SupplyEntry). entry.answer) log ≡ supply_answers b.frames b.pages (map (λ (entry : SupplyEntry). entry.ask) log)) (sym settled.log) running.supplied.answers;
    rounds = times;
    one_round_each = running.long ∙ sym (ap (λ (log : List SupplyEntry). length log) settled.log);
    rounds_rise = running.rising;
    steps = steps_at;
    made = made_at;
    spelled = λ zone in'. spelled_is zone in' ∙ ap (λ (o : Option (List (ℕ × Step))). Some (unwrap_or o [])) (sym (spelled_is zone in'));
    each = λ zone in'.
        let h = hs zone in' in
        let made : alone_at b plan run.journals run.log zone ≡ Some h.c = ap (λ (o : Option (List (ℕ × Step))). option_map_or (λ steps. alone (params_of b plan zone) steps (answers_at zone run.log)) o None) (spelled_is zone in') ∙ alone_is zone in' in
        let nothing : Course = record { replies = []; asks = []; before = []; end = opening (params_of b plan zone); left = [] } in
        subst (λ (steps : List (ℕ × Step)). IsRunAt b plan (journal_at run zone) run.log times zone steps (made_at zone)) (sym (ap (λ (o : Option (List (ℕ × Step))). unwrap_or o []) (spelled_is zone in')))
        (subst (λ (c : Course). IsRunAt b plan (journal_at run zone) run.log times zone h.steps c) (sym (ap (λ (o : Option Course). unwrap_or o nothing) made)) (run_at zone in'));
  }
