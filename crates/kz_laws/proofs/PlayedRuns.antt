-- The run of an order as it goes is the run as it is defined.
use Rattle.std.proofs.Common.{◌≡◌, ◌<◌, ◌≤◌, ℕ, zero, suc, ◌+◌, ◌-◌, Bool, List, [], ◌∷◌, ◌++◌, length, map, take, replicate, slice_index, slice_index_or, slice_set, Option, Some, refl, ap, sym, ◌∙◌, subst, arith, append_assoc}
use Rattle.std.specs.List.{fold, flat_map, range_with_len}
use Rattle.std.specs.Option.{option_map_or}
use Rattle.std.proofs.lemmas.List.{append-nil, map-append, get_or-map, length-map, length-replicate, ext_get_or, take_all}
use Rattle.std.proofs.lemmas.List.FromFn.{get_or-map-range_with_len, length-map-range_with_len}
use Rattle.kz_model.specs.declared.bundle.Bundle.{Bundle}
use Rattle.kz_model.specs.declared.bundle.TraceStep.{TraceStep}
use Rattle.kz_model.specs.declared.bundle.OrderLine.{OrderLine}
use Rattle.kz_model.specs.declared.bundle.OrderLine.TheVariants.{Cpu, Round}
use Rattle.kz_model.specs.declared.step.Step.{Step}
use Rattle.kz_model.specs.declared.step.Reply.{Reply}
use Rattle.kz_model.specs.declared.step.Reply.TheVariants as reply
use Rattle.kz_model.specs.declared.record.Plan.{Plan}
use Rattle.kz_model.specs.declared.record.Record.{Record}
use Rattle.kz_model.specs.declared.record.Visit.{Visit}
use Rattle.kz_model.specs.declared.supply.SupplyEntry.{SupplyEntry}
use Rattle.kz_model.specs.Zone.State.{Chunk, ZoneState, opening}
use Rattle.kz_model.specs.Zone.Alone.{Course, course, alone}
use Rattle.kz_model.specs.Run.Journal.{params_of, addressed, lines_of_round, steps_among, answers_at}
use Rattle.kz_model.specs.Run.Order.{Progress, opening_progress, order_of, order_step, order_run}
use Rattle.kz_model.specs.Text.Report.{Answered, replies_carried, zone_replies, answered_after, answered_lines}
use Rattle.kz_laws.specs.Play.{ZonePlay, Play, opening_zone_play, opening_play, no_play, zone_play, replies_so_far, line_to_play, effect_there, play_after_step, play_after_line, zone_after_settling, play_after_round, play_after_order_line, play_after_lines, play_run, record_of}
use Rattle.kz_model.specs.Types.Planned.{HasZones}
use Rattle.kz_model.specs.Run.Recorded.{cpu_replies, zone_mapped, IsAnswered, IsOfOrder}
use Rattle.kz_model.specs.Grammar.Turns.{counts_in}
use Rattle.kz_laws.specs.Undelayed.{next_there, lines_at, places_at, replies_at, IsNextLine, IsSameAt}
use Rattle.kz_model.specs.Grammar.Valid.{IsValid}
use Rattle.kz_laws.proofs.InTurn.{IsInTurn, first_in_turn, turn_of_cpu, turn_of_round, turn_ends, round_within, next_within, order_is_next}
use Rattle.kz_laws.proofs.OrderLines.{journal_at}
use Rattle.kz_laws.proofs.OrderRuns.{zeros, no_journal, at_start, used_all, order_run_is_same}
use Rattle.kz_laws.proofs.Played.{Told, IsBeside, AreBeside, more_told, line_beside, same_course}
use Rattle.kz_laws.proofs.PlayedReplies.{AreTold, said_at, of_round, of_rounds, replies_to, replies_to-same, same_line, told_at_start, line_told, one_more_round, round_told}
use Rattle.kz_laws.proofs.PlayedRounds.{IsSame, round_same, visits_settled, round_beside}

-- ---- along the order

-- the play at a place of the order, with these lines to come
pub record IsGoing (b : Bundle) (plan : Plan) (g : Progress) (s : Play) (told : ℕ → Told) (left : List ℕ) (more : List OrderLine) : Type 0 where
  pub turns : IsInTurn b g left more
  pub beside : AreBeside b plan g s told
  pub are_told : AreTold b plan g s told

-- the play after some lines
pub record Goes (b : Bundle) (plan : Plan) (g : Progress) (s : Play) (told : ℕ → Told) (lines more : List OrderLine) : Type 0 where
  pub now : ℕ → Told
  pub left : List ℕ
  pub going : IsGoing b plan (fold (order_step b plan) g lines) (fold (play_after_order_line b plan) s lines) now left more
  pub lines_are : (zone : ℕ) → (now zone).lines ≡ (told zone).lines ++ lines_at b plan zone g lines
  pub places_are : (zone : ℕ) → (now zone).places ≡ (told zone).places ++ places_at b plan zone g lines

pub line_goes : (b : Bundle) (plan : Plan) → IsValid b → HasZones b plan → (g : Progress) (s : Play) (told : ℕ → Told) (left : List ℕ) (cpu : ℕ) (more : List OrderLine) → IsGoing b plan g s told left (Cpu cpu ∷ more) →
    let line = addressed b plan (line_to_play b s cpu).act in
    IsGoing b plan (order_step b plan g (Cpu cpu)) (play_after_line b plan s cpu) (more_told b plan g cpu (effect_there b plan s cpu line.0 line.1).reply told) (slice_set left cpu (slice_index left cpu - 1)) more
line_goes b plan valid zones g s told left cpu more going =
    let turn = turn_of_cpu b plan g left cpu more going.turns in
    let next : IsNextLine b plan g (Cpu cpu) = (turn.0, turn.1, next_within b plan g cpu valid zones turn.1) in
    let same = same_line b plan g s told cpu valid turn.0 going.turns.within turn.1 going.are_told in
    subst (λ (l : TraceStep).
    let line = addressed b plan l.act in
    IsGoing b plan (order_step b plan g (Cpu cpu)) (play_after_step b plan s cpu line.0 line.1) (more_told b plan g cpu (effect_there b plan s cpu line.0 line.1).reply told) (slice_set left cpu (slice_index left cpu - 1)) more) (sym same)
    (record {
      turns = turn.2;
      beside = line_beside b plan g s told cpu next going.beside;
      are_told = line_told b plan g s told cpu (round_within b plan valid zones) next going.beside going.are_told;
    })

pub round_goes : (b : Bundle) (plan : Plan) → IsValid b → (g : Progress) (s : Play) (told : ℕ → Told) (left : List ℕ) (more : List OrderLine) → IsGoing b plan g s told left (Round ∷ more) →
    IsGoing b plan (order_step b plan g Round) (play_after_round b s) told (counts_in b (g.round + 1)) more
round_goes b plan valid g s told left more going =
    let turn = turn_of_round b plan g left more valid.traces going.turns in
    record { turns = turn.2; beside = round_beside b plan g s told going.beside; are_told = round_told b plan g s told turn.0 going.are_told }

pub goes : (b : Bundle) (plan : Plan) → IsValid b → HasZones b plan → (lines more : List OrderLine) (g : Progress) (s : Play) (told : ℕ → Told) (left : List ℕ) → IsGoing b plan g s told left (lines ++ more) → Goes b plan g s told lines more
goes b plan valid zones [] more g s told left going =
    record { now = told; left = left; going = going; lines_are = λ zone. sym (append-nil (told zone).lines); places_are = λ zone. sym (append-nil (told zone).places) }
goes b plan valid zones (Cpu cpu ∷ lines) more g s told left going =
    let one = line_goes b plan valid zones g s told left cpu (lines ++ more) going in
    let line = addressed b plan (line_to_play b s cpu).act in
    let rest = goes b plan valid zones lines more (order_step b plan g (Cpu cpu)) (play_after_line b plan s cpu) (more_told b plan g cpu (effect_there b plan s cpu line.0 line.1).reply told) (slice_set left cpu (slice_index left cpu - 1)) one in
    record {
      now = rest.now;
      left = rest.left;
      going = rest.going;
      lines_are = λ zone. rest.lines_are zone ∙ append_assoc (told zone).lines (next_there b plan zone g cpu) (lines_at b plan zone (order_step b plan g (Cpu cpu)) lines);
      places_are = λ zone. rest.places_are zone ∙ append_assoc (told zone).places (map (λ (step : ℕ × Step). (g.round, step.0)) (next_there b plan zone g cpu)) (places_at b plan zone (order_step b plan g (Cpu cpu)) lines);
    }
goes b plan valid zones (Round ∷ lines) more g s told left going =
    let rest = goes b plan valid zones lines more (order_step b plan g Round) (play_after_round b s) told (counts_in b (g.round + 1)) (round_goes b plan valid g s told left (lines ++ more) going) in
    record { now = rest.now; left = rest.left; going = rest.going; lines_are = rest.lines_are; places_are = rest.places_are }

-- ---- the start

abbrev pub nothing_told : ℕ → Told
nothing_told zone = record { lines = []; places = []; replies = [] }

beside_at_start : (b : Bundle) (plan : Plan) (zone : ℕ) → zone < length plan.zones → IsBeside b plan (opening_progress b plan) zone (zone_play (opening_play b plan) zone) (nothing_told zone)
beside_at_start b plan zone in-zones =
    let p = params_of b plan zone in
    let i = (at_start b plan zone).1 in
    let nothing : Course = record { replies = []; asks = []; before = []; end = opening p; left = [] } in
    let u : i.is.undelayed ≡ nothing = same_course i.is.undelayed nothing (sym i.is.alike.undelayed_is) in
    let there : zone_play (opening_play b plan) zone ≡ opening_zone_play p = get_or-map-range_with_len (λ zone. opening_zone_play (params_of b plan zone)) 0 (length plan.zones) zone zone no_play in-zones (from_zero zone) in
    let journal : journal_at (opening_progress b plan) zone ≡ [] = no_journal (length plan.zones) zone in
    subst (λ (z : ZonePlay). IsBeside b plan (opening_progress b plan) zone z (nothing_told zone)) (sym there) (record {
      in_step = i;
      state = sym (ap (λ (c : Course). c.end) u);
      replies = sym (ap (λ (c : Course). c.replies) u);
      visits = sym journal;
      long = length-replicate {A = ℕ} b.cpus 0;
      late = λ cpu lt. nothing_late (i.done cpu) (zeros b.cpus cpu) (ap (λ n. length (steps_among b plan zone (take n (lines_of_round b cpu 0)))) (zeros b.cpus cpu));
    })
  where
    from_zero : (n : ℕ) → 0 + n ≡ n
    from_zero n = omega arith

    nothing_late : {n k l : ℕ} → k ≤ l → n ≡ 0 → l ≡ 0 → n + k ≡ l
    nothing_late le e f = omega arith

pub going_at_start : (b : Bundle) (plan : Plan) → IsValid b → IsGoing b plan (opening_progress b plan) (opening_play b plan) nothing_told (counts_in b 0) (order_of b)
going_at_start b plan valid =
    record {
      turns = first_in_turn b plan valid;
      beside = record {
        sized = record { journals = length-replicate {A = List Visit} (length plan.zones) []; done = length-replicate {A = ℕ} b.cpus 0 };
        round = refl;
        log = refl;
        zones_long = length-map-range_with_len (λ zone. opening_zone_play (params_of b plan zone)) 0 (length plan.zones);
        cpus_long = length-replicate {A = List Reply} b.cpus [];
        zones = beside_at_start b plan;
      };
      are_told = told_at_start b plan (opening_progress b plan) (opening_play b plan) refl refl (λ cpu lt. none b.cpus cpu);
    }
  where
    none : (n cpu : ℕ) → slice_index_or {A = List Reply} (replicate n []) cpu [] ≡ []
    none zero cpu = refl
    none (suc n) zero = refl
    none (suc n) (suc cpu) = none n cpu

-- the play after the first lines of the order
pub goes_so_far : (b : Bundle) (plan : Plan) → IsValid b → HasZones b plan → (lines more : List OrderLine) → lines ++ more ≡ order_of b → Goes b plan (opening_progress b plan) (opening_play b plan) nothing_told lines more
goes_so_far b plan valid zones lines more parted =
    goes b plan valid zones lines more (opening_progress b plan) (opening_play b plan) nothing_told (counts_in b 0)
    (subst (λ lines. IsGoing b plan (opening_progress b plan) (opening_play b plan) nothing_told (counts_in b 0) lines) (sym parted) (going_at_start b plan valid))

-- ---- the whole

-- the replies that are read of a run
answered_replies : (b : Bundle) (plan : Plan) (journals : List (List Visit)) (log : List SupplyEntry) (cpu round : ℕ) (lines earlier : List TraceStep) →
    map (λ (line : Answered). line.reply) (answered_after b plan journals log cpu round earlier lines) ≡ replies_to b plan (λ zone. replies_carried cpu round (slice_index_or journals zone []) (zone_replies b plan journals log zone)) earlier lines
answered_replies b plan journals log cpu round [] earlier = refl
answered_replies b plan journals log cpu round (line ∷ lines) earlier =
    let zone = (addressed b plan line.act).0 in
    ap (λ (l : List Reply). slice_index_or (replies_carried cpu round (slice_index_or journals zone []) (zone_replies b plan journals log zone)) (length (steps_among b plan zone earlier)) reply.Done ∷ l)
    (answered_replies b plan journals log cpu round lines (earlier ++ line ∷ []))

module _ (b : Bundle) (plan : Plan) (valid : IsValid b) (zones : HasZones b plan) where
  abbrev lines : List OrderLine
  lines = order_of b

  abbrev g : Progress
  g = fold (order_step b plan) (opening_progress b plan) lines

  abbrev run : Progress
  run = order_run b plan

  abbrev s : Play
  s = play_after_lines b plan lines

  abbrev made : Record
  made = record_of (play_run b plan)

  end : Goes b plan (opening_progress b plan) (opening_play b plan) nothing_told lines []
  end = goes_so_far b plan valid zones lines [] (append-nil lines)

  beside : AreBeside b plan g s end.now
  beside = end.going.beside

  settled : IsSame g run
  settled = round_same b plan g beside.sized.journals

  same_at : (zone : ℕ) → zone < length plan.zones → IsSameAt b plan run zone (lines_at b plan zone (opening_progress b plan) lines) (places_at b plan zone (opening_progress b plan) lines)
  same_at zone in' = order_run_is_same b plan zone in' (order_is_next b plan valid zones)

  -- the undelayed course is the play's
  undelayed_is : (zone : ℕ) (in' : zone < length plan.zones) → (same_at zone in').undelayed ≡ (beside.zones zone in').in_step.is.undelayed
  undelayed_is zone in' =
      let p = params_of b plan zone in
      let i = (beside.zones zone in').in_step.is in
      let told = end.now zone in
      let mine : alone p (lines_at b plan zone (opening_progress b plan) lines) (answers_at zone run.log) ≡ Some i.undelayed =
      ap (λ (l : List (ℕ × Step)). alone p l (answers_at zone run.log)) (sym (end.lines_are zone))
      ∙ ap (λ (log : List SupplyEntry). alone p told.lines (answers_at zone log)) settled.log
      ∙ used_all (course p (opening p) told.lines) (answers_at zone g.log) i.undelayed i.alike.undelayed_is i.used in
      same_course (same_at zone in').undelayed i.undelayed (sym (same_at zone in').undelayed_is ∙ mine)

  printed : (cpu round zone : ℕ) → zone < length plan.zones → said_at end.now cpu round zone ≡ replies_carried cpu round (slice_index_or run.journals zone []) (zone_replies b plan run.journals run.log zone)
  printed cpu round zone in' =
      let is = beside.zones zone in' in
      ap (λ (places : List (ℕ × ℕ)). replies_at cpu round places (end.now zone).replies) (end.places_are zone)
      ∙ ap (λ (rs : List Reply). replies_at cpu round (places_at b plan zone (opening_progress b plan) lines) rs) (is.replies ∙ sym (ap (λ (c : Course). c.replies) (undelayed_is zone in')))
      ∙ (same_at zone in').printed cpu round

  visits_are : made.visits ≡ run.journals
  visits_are =
      let visits_of : ZonePlay → List Visit = λ z. z.visits in
      let settle = zone_after_settling s.round b.cpus in
      let long : length made.visits ≡ length plan.zones = length-map (map settle s.zones) visits_of ∙ length-map s.zones settle ∙ beside.zones_long in
      ext_get_or [] made.visits run.journals (long ∙ sym (settled.long ∙ beside.sized.journals)) (λ zone lt.
      let in' : zone < length plan.zones = subst (λ n. zone < n) long lt in
      let in-zones : zone < length s.zones = subst (λ n. zone < n) (sym beside.zones_long) in' in
      get_or-map visits_of (map settle s.zones) zone no_play [] (subst (λ n. zone < n) (sym (length-map s.zones settle)) in-zones)
      ∙ ap visits_of (get_or-map settle s.zones zone no_play no_play in-zones ∙ ap (λ round. zone_after_settling round b.cpus (zone_play s zone)) beside.round)
      ∙ visits_settled b plan g zone (zone_play s zone) (end.now zone) in' beside.sized (beside.zones zone in'))

  supply_is : made.supply ≡ run.log
  supply_is = beside.log ∙ sym settled.log

  rounds_are : (cpu n from : ℕ) → flat_map (of_round b plan end.now cpu) (range_with_len from n) ≡ map (λ (line : Answered). line.reply) (flat_map (λ round. answered_lines b plan run.journals run.log cpu round) (range_with_len from n))
  rounds_are cpu zero from = refl
  rounds_are cpu (suc n) from =
      let here = answered_lines b plan run.journals run.log cpu from in
      let rest = flat_map (λ round. answered_lines b plan run.journals run.log cpu round) (range_with_len (from + 1) n) in
      ap (λ (l : List Reply). l ++ flat_map (of_round b plan end.now cpu) (range_with_len (from + 1) n))
      (replies_to-same b plan (said_at end.now cpu from) (λ zone. replies_carried cpu from (slice_index_or run.journals zone []) (zone_replies b plan run.journals run.log zone)) [] (lines_of_round b cpu from) (round_within b plan valid zones cpu from)
      (λ zone k in' lt. ap (λ (l : List Reply). slice_index_or l k reply.Done) (printed cpu from zone in'))
      ∙ sym (answered_replies b plan run.journals run.log cpu from (lines_of_round b cpu from) []))
      ∙ ap (λ (l : List Reply). map (λ (line : Answered). line.reply) here ++ l) (rounds_are cpu n (from + 1))
      ∙ sym (map-append (λ (line : Answered). line.reply) here rest)

  replies_are : (cpu : ℕ) → cpu < b.cpus → replies_so_far s cpu ≡ cpu_replies b plan run.journals run.log cpu
  replies_are cpu lt =
      let over = turn_ends b g end.left end.going.turns in
      let last = lines_of_round b cpu g.round in
      end.going.are_told.replies cpu lt
      ∙ ap (λ n. of_rounds b plan end.now cpu g.round ++ replies_to b plan (said_at end.now cpu g.round) [] (take n last)) (over.0 cpu lt)
      ∙ ap (λ lines. of_rounds b plan end.now cpu g.round ++ replies_to b plan (said_at end.now cpu g.round) [] lines) (take_all (length last) last (itself (length last)))
      ∙ one_more_round b plan end.now cpu g.round
      ∙ ap (λ n. of_rounds b plan end.now cpu n) over.1
      ∙ rounds_are cpu b.rounds 0
    where
      itself : (n : ℕ) → n ≤ n
      itself n = omega arith

  mapped_are : (zone : ℕ) → zone < length plan.zones → slice_index_or made.mapped zone [] ≡ zone_mapped b plan run.journals run.log zone
  mapped_are zone in' =
      let flags : ZonePlay → List Bool = λ z. map (λ (chunk : Chunk). chunk.mapped) z.state.shared.chunks in
      let settle = zone_after_settling s.round b.cpus in
      let in-zones : zone < length s.zones = subst (λ n. zone < n) (sym beside.zones_long) in' in
      let same = same_at zone in' in
      get_or-map flags (map settle s.zones) zone no_play [] (subst (λ n. zone < n) (sym (length-map s.zones settle)) in-zones)
      ∙ ap flags (get_or-map settle s.zones zone no_play no_play in-zones)
      ∙ ap (λ (st : ZoneState). map (λ (chunk : Chunk). chunk.mapped) st.shared.chunks) ((beside.zones zone in').state ∙ sym (ap (λ (c : Course). c.end) (undelayed_is zone in')) ∙ same.end)
      ∙ ap (λ (o : Option Course). map (λ (chunk : Chunk). chunk.mapped) (option_map_or (λ (c : Course). c.end.shared.chunks) o [])) (sym same.delayed_is)

  answered : IsAnswered b plan made
  answered = record {
    cpus = beside.cpus_long;
    replies = λ cpu lt. replies_are cpu lt ∙ sym (ap (λ (log : List SupplyEntry). cpu_replies b plan made.visits log cpu) supply_is ∙ ap (λ (journals : List (List Visit)). cpu_replies b plan journals run.log cpu) visits_are);
    zones = length-map (map (zone_after_settling s.round b.cpus) s.zones) (λ (z : ZonePlay). map (λ (chunk : Chunk). chunk.mapped) z.state.shared.chunks) ∙ length-map s.zones (zone_after_settling s.round b.cpus) ∙ beside.zones_long;
    mapped = λ zone in'. mapped_are zone in' ∙ sym (ap (λ (log : List SupplyEntry). zone_mapped b plan made.visits log zone) supply_is ∙ ap (λ (journals : List (List Visit)). zone_mapped b plan journals run.log zone) visits_are);
  }

  pub ordered_runs_are_played : IsOfOrder b plan made
  ordered_runs_are_played = record { visits = visits_are; supply = supply_is; answered = answered }
