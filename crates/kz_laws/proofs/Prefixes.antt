-- What holds of a play after the first lines of its order, and at its end.
use Rattle.std.proofs.Common.{◌≡◌, ◌<◌, ◌≤◌, ℕ, ◌==◌, ◌+◌, ◌-◌, true, List, [], ◌∷◌, ◌++◌, length, map, slice_index, slice_index_or, slice_set, ap, sym, ◌∙◌, subst, arith}
use Rattle.std.specs.List.{fold, zip}
use Rattle.std.proofs.lemmas.List.{append-nil, get_or-map, length-map, length-replicate}
use Rattle.std.proofs.lemmas.List.Elements.{All-get_or, filter_passes}
use Rattle.kz_model.specs.declared.bundle.Bundle.{Bundle}
use Rattle.kz_model.specs.declared.bundle.TraceStep.{TraceStep}
use Rattle.kz_model.specs.declared.bundle.OrderLine.{OrderLine}
use Rattle.kz_model.specs.declared.bundle.OrderLine.TheVariants.{Cpu, Round}
use Rattle.kz_model.specs.declared.record.Plan.{Plan}
use Rattle.kz_model.specs.declared.record.Visit.{Visit}
use Rattle.kz_model.specs.declared.supply.SupplyEntry.{SupplyEntry}
use Rattle.kz_model.specs.declared.supply.Ask.{Ask}
use Rattle.kz_model.specs.declared.supply.Answer.{Answer}
use Rattle.kz_model.specs.Zone.State.{ZoneState, opening}
use Rattle.kz_model.specs.Zone.Alone.{course}
use Rattle.kz_laws.specs.Amounts.{stock_of, lines_done}
use Rattle.kz_model.specs.Run.Journal.{params_of, addressed, trace_of, lines_of_round, spell_after, answers_at}
use Rattle.kz_model.specs.Zone.Late.{IsDelayed}
use Rattle.kz_model.specs.Run.Order.{Progress, opening_progress, late, order_of, order_step, answered, next_line}
use Rattle.kz_laws.specs.Play.{ZonePlay, Play, no_play, zone_play, replies_so_far, line_to_play, effect_there, opening_play, play_after_line, zone_after_settling, play_after_round, play_after_order_line, play_after_lines, play_run}
use Rattle.kz_laws.specs.PlayedAt.{IsBehind, IsZonePlayed, IsSupplied, IsPlaySound, IsPlayedAt, HasTurn, order_so_far}
use Rattle.kz_model.specs.Types.Planned.{HasZones, HasElements}
use Rattle.kz_model.specs.Run.Supply.{answers_from}
use Rattle.kz_model.specs.Grammar.Turns.{counts_in, is_of_round}
use Rattle.kz_model.specs.Grammar.Valid.{IsValid}
use Rattle.kz_laws.proofs.InTurn.{turn_of_cpu, next_within}
use Rattle.kz_laws.proofs.OrderLines.{entries}
use Rattle.kz_laws.proofs.Played.{Told, IsBeside, late_count, more_told}
use Rattle.kz_model.specs.Run.Rooms.{lines_among, lines_on}
use Rattle.kz_laws.proofs.PlayedAt.{IsSound, AreBlocks, AreFrames, lines_within, count_left, line_sound, line_supplied, line_blocks, line_frames, round_sound, round_blocks, round_frames, opening_sound, opening_blocks, opening_frames}
use Rattle.kz_model.proofs.LineCounts.{lines_add, line_here}
use Rattle.kz_laws.proofs.PlayedReplies.{replies_long, same_line}
use Rattle.kz_laws.proofs.PlayedRuns.{IsGoing, line_goes, round_goes, nothing_told, going_at_start, goes_so_far}
use Rattle.kz_laws.proofs.Stocks.{new_are, supplied_at_start}
use Rattle.kz_model.proofs.Sums.{sum_below-le}
use Rattle.kz_model.proofs.TraceRounds.{is_placed}

-- ---- a turn

-- a CPU whose turn it is, at a place of the order
turn_here : (b : Bundle) (plan : Plan) → IsValid b → HasZones b plan → (g : Progress) (s : Play) (told : ℕ → Told) (left : List ℕ) (cpu : ℕ) (more : List OrderLine) → IsGoing b plan g s told left (Cpu cpu ∷ more) → HasTurn b plan s cpu
turn_here b plan valid zones g s told left cpu more going =
    let turn = turn_of_cpu b plan g left cpu more going.turns in
    let lt = turn.0 in
    let n = slice_index g.done cpu in
    let lines = lines_of_round b cpu g.round in
    let placed = is_placed b valid cpu g.round n going.turns.within turn.1 in
    let same = same_line b plan g s told cpu valid lt going.turns.within turn.1 going.are_told in
    let some : length (replies_so_far s cpu) < length (trace_of b cpu) = subst (λ n. n < length (trace_of b cpu)) (sym (replies_long b plan g s told cpu lt (few n (length lines) turn.1) going.are_told)) placed.within in
    let passes : is_of_round g.round (next_line b cpu g) ≡ true = All-get_or (λ line. is_of_round g.round line ≡ true) lines n _ turn.1 (filter_passes (is_of_round g.round) (trace_of b cpu)) in
    let zone = (addressed b plan (line_to_play b s cpu).act).0 in
    record {
      is_cpu = lt;
      some = some;
      in_round = ap (λ (line : TraceStep). line.round) same ∙ equal (next_line b cpu g).round g.round passes ∙ sym going.beside.round;
      in_zones = subst (λ (line : TraceStep). (addressed b plan line.act).0 < length plan.zones) (sym same) (next_within b plan g cpu valid zones turn.1);
      more = count_left (lines_among b plan zone) (lines_add b plan zone) b s cpu lt some (omega (arith, line_here b plan (line_to_play b s cpu)));
    }
  where
    few : (n m : ℕ) → n < m → n ≤ m
    few n m lt = omega arith

    equal : (n m : ℕ) → (n == m) ≡ true → n ≡ m
    equal n m e = grind arith

-- ---- along the order

-- what is kept at a place of the order
record IsSoundSoFar (b : Bundle) (plan : Plan) (s : Play) : Type 0 where
  each : (zone : ℕ) → zone < length plan.zones → IsSound b plan s zone (zone_play s zone)
  supplied : IsSupplied b plan s.log
  frames : AreFrames b plan s
  blocks : AreBlocks b plan s

line_keeps : (b : Bundle) (plan : Plan) → IsValid b → HasZones b plan → HasElements plan → (g : Progress) (s : Play) (told : ℕ → Told) (left : List ℕ) (cpu : ℕ) (more : List OrderLine) → IsGoing b plan g s told left (Cpu cpu ∷ more) → IsSoundSoFar b plan s →
    IsSoundSoFar b plan (play_after_line b plan s cpu)
line_keeps b plan valid zones elements g s told left cpu more going kept =
    let turn = turn_here b plan valid zones g s told left cpu more going in
    let at = (addressed b plan (line_to_play b s cpu).act).0 in
    let beside = going.beside in
    record {
      each = line_sound b plan s cpu elements valid.magazine.0 turn.is_cpu turn.in_zones turn.some beside.zones_long beside.cpus_long kept.supplied kept.each (beside.zones at turn.in_zones).long kept.frames;
      supplied = line_supplied b plan s cpu elements valid.magazine.0 turn.is_cpu turn.in_zones turn.some beside.zones_long beside.cpus_long kept.supplied;
      frames = line_frames b plan s cpu elements valid.magazine.0 turn.is_cpu turn.in_zones turn.some beside.zones_long beside.cpus_long kept.supplied kept.frames;
      blocks = line_blocks b plan s cpu elements valid.magazine.0 turn.is_cpu turn.in_zones turn.some beside.zones_long beside.cpus_long kept.supplied (kept.each at turn.in_zones) kept.blocks;
    }

round_keeps : (b : Bundle) (plan : Plan) (s : Play) → length s.zones ≡ length plan.zones → IsSoundSoFar b plan s → IsSoundSoFar b plan (play_after_round b s)
round_keeps b plan s long kept =
    record {
      each = round_sound b plan s long kept.each;
      supplied = kept.supplied;
      frames = ap (λ n. (stock_of b s.log).free + n) (round_frames b plan s long) ∙ kept.frames;
      blocks = round_blocks b plan s kept.blocks;
    }

keeps : (b : Bundle) (plan : Plan) → IsValid b → HasZones b plan → HasElements plan → (lines more : List OrderLine) (g : Progress) (s : Play) (told : ℕ → Told) (left : List ℕ) → IsGoing b plan g s told left (lines ++ more) → IsSoundSoFar b plan s →
    IsSoundSoFar b plan (fold (play_after_order_line b plan) s lines)
keeps b plan valid zones elements [] more g s told left going kept = kept
keeps b plan valid zones elements (Cpu cpu ∷ lines) more g s told left going kept =
    let line = addressed b plan (line_to_play b s cpu).act in
    keeps b plan valid zones elements lines more (order_step b plan g (Cpu cpu)) (play_after_line b plan s cpu) (more_told b plan g cpu (effect_there b plan s cpu line.0 line.1).reply told) (slice_set left cpu (slice_index left cpu - 1))
    (line_goes b plan valid zones g s told left cpu (lines ++ more) going) (line_keeps b plan valid zones elements g s told left cpu (lines ++ more) going kept)
keeps b plan valid zones elements (Round ∷ lines) more g s told left going kept =
    keeps b plan valid zones elements lines more (order_step b plan g Round) (play_after_round b s) told (counts_in b (g.round + 1))
    (round_goes b plan valid g s told left (lines ++ more) going) (round_keeps b plan s going.beside.zones_long kept)

kept_at_start : (b : Bundle) (plan : Plan) → IsSoundSoFar b plan (opening_play b plan)
kept_at_start b plan =
    record {
      each = opening_sound b plan;
      supplied = supplied_at_start b plan;
      frames = ap (λ n. b.frames + n) (opening_frames b plan) ∙ plain b.frames;
      blocks = opening_blocks b plan;
    }
  where
    plain : (n : ℕ) → n + 0 ≡ n
    plain n = omega arith

kept_so_far : (b : Bundle) (plan : Plan) → IsValid b → HasZones b plan → HasElements plan → (lines more : List OrderLine) → lines ++ more ≡ order_of b → IsSoundSoFar b plan (play_after_lines b plan lines)
kept_so_far b plan valid zones elements lines more parted =
    keeps b plan valid zones elements lines more (opening_progress b plan) (opening_play b plan) nothing_told (counts_in b 0)
    (subst (λ lines. IsGoing b plan (opening_progress b plan) (opening_play b plan) nothing_told (counts_in b 0) lines) (sym parted) (going_at_start b plan valid)) (kept_at_start b plan)

-- ---- a zone

zone_played : (b : Bundle) (plan : Plan) (s : Play) (zone : ℕ) (z : ZonePlay) → length z.late ≡ b.cpus → IsSound b plan s zone z → IsZonePlayed b plan s zone z
zone_played b plan s zone z long is =
    record {
      cpus = long;
      own = is.whole.cpus;
      whole = is.whole;
      pages = is.pages;
      bases = is.bases_long;
      chunks = is.chunks;
      framed = is.framed;
      entries = is.entries_few;
      gifts = is.gifts;
      visits = is.visits;
      carried = is.carried;
      lines = sum_below-le (lines_done b plan s zone) (lines_on b plan zone) b.cpus (λ cpu lt. lines_within b plan s zone cpu);
    }

-- the zone of its journal, but for late steps
is_behind : (b : Bundle) (plan : Plan) (lines : List OrderLine) (s : Play) (zone : ℕ) (told : Told) → zone < length plan.zones → length s.zones ≡ length plan.zones → s.log ≡ (order_so_far b plan lines).log →
    IsBeside b plan (order_so_far b plan lines) zone (zone_play s zone) told → IsBehind b plan lines s zone (zone_play s zone)
is_behind b plan lines s zone told lt long log is =
    let p = params_of b plan zone in
    let i = is.in_step.is in
    let z = zone_play s zone in
    let visits : slice_index_or (map (λ (z : ZonePlay). z.visits) s.zones) zone [] ≡ z.visits = get_or-map (λ (z : ZonePlay). z.visits) s.zones zone no_play [] (subst (λ n. zone < n) (sym long) lt) in
    record {
      steps = i.steps;
      made = i.delayed;
      spelled = ap (λ (visits : List Visit). spell_after b plan zone [] visits) (visits ∙ is.visits) ∙ i.spelled;
      made_is = ap (λ (log : List SupplyEntry). course p (opening p) i.steps (answers_at zone log)) log ∙ i.alike.delayed_is;
      used = sym i.alike.left ∙ i.used;
      state = subst (λ (st : ZoneState). IsDelayed p st i.delayed.end (λ cpu. late b plan (order_so_far b plan lines) cpu zone)) (sym is.state) i.alike.state;
      counted = λ cpu in'. late_count b plan (order_so_far b plan lines) zone cpu z told is in';
    }

-- ---- the laws

pub plays_are_sound : (b : Bundle) (plan : Plan) → IsValid b → HasZones b plan → HasElements plan → (lines more : List OrderLine) → lines ++ more ≡ order_of b → IsPlayedAt b plan lines (play_after_lines b plan lines)
plays_are_sound b plan valid zones elements lines more parted =
    let s = play_after_lines b plan lines in
    let goes = goes_so_far b plan valid zones lines more parted in
    let beside = goes.going.beside in
    let kept = kept_so_far b plan valid zones elements lines more parted in
    record {
      round = subst (λ round. round < b.rounds) (sym beside.round) goes.going.turns.within;
      sound = record {
        zones = beside.zones_long;
        cpus = beside.cpus_long;
        each = λ zone lt. zone_played b plan s zone (zone_play s zone) (beside.zones zone lt).long (kept.each zone lt);
        supplied = kept.supplied;
        frames = kept.frames;
        blocks = kept.blocks;
      };
      behind = λ zone lt. is_behind b plan lines s zone (goes.now zone) lt beside.zones_long beside.log (beside.zones zone lt);
    }

pub turns_have_lines : (b : Bundle) (plan : Plan) → IsValid b → HasZones b plan → (lines more : List OrderLine) (cpu : ℕ) → lines ++ Cpu cpu ∷ more ≡ order_of b → HasTurn b plan (play_after_lines b plan lines) cpu
turns_have_lines b plan valid zones lines more cpu parted =
    let goes = goes_so_far b plan valid zones lines (Cpu cpu ∷ more) parted in
    turn_here b plan valid zones (order_so_far b plan lines) (play_after_lines b plan lines) goes.now goes.left cpu more goes.going

pub stock_answers : (b : Bundle) (plan : Plan) (log : List SupplyEntry) (zone : ℕ) (asks : List Ask) → IsSupplied b plan log →
    answered b zone log asks ≡ map (λ pair. record { zone = zone; ask = pair.0; answer = pair.1 }) (zip asks (answers_from b.pages (stock_of b log) asks))
stock_answers b plan log zone asks is = ap (λ (answers : List Answer). entries zone asks answers) (new_are b log asks is.answers)

pub runs_end_sound : (b : Bundle) (plan : Plan) → IsValid b → HasZones b plan → HasElements plan → IsPlaySound b plan (play_run b plan)
runs_end_sound b plan valid zones elements =
    let lines = order_of b in
    let s = play_after_lines b plan lines in
    let beside = (goes_so_far b plan valid zones lines [] (append-nil lines)).going.beside in
    let kept = round_keeps b plan s beside.zones_long (kept_so_far b plan valid zones elements lines [] (append-nil lines)) in
    let t = play_run b plan in
    record {
      zones = length-map s.zones (zone_after_settling s.round b.cpus) ∙ beside.zones_long;
      cpus = beside.cpus_long;
      each = λ zone lt. zone_played b plan t zone (zone_play t zone) (late_long s zone beside.zones_long lt) (kept.each zone lt);
      supplied = kept.supplied;
      frames = kept.frames;
      blocks = kept.blocks;
    }
  where
    late_long : (s : Play) (zone : ℕ) → length s.zones ≡ length plan.zones → zone < length plan.zones → length (zone_play (play_after_round b s) zone).late ≡ b.cpus
    late_long s zone long lt =
        ap (λ (z : ZonePlay). length z.late) (get_or-map (zone_after_settling s.round b.cpus) s.zones zone no_play no_play (subst (λ n. zone < n) (sym long) lt))
        ∙ length-replicate {A = ℕ} b.cpus 0
