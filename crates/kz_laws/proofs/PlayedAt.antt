-- What holds of a play is kept by each line of its order and each round's end.
use Rattle.std.proofs.Common.{◌≡◌, ◌≢◌, ◌<◌, ◌≤◌, ℕ, zero, suc, ◌==◌, ◌+◌, ◌*◌, nat_lt, nat_le, Bool, true, false, if◌then◌else◌, List, [], ◌∷◌, ◌++◌, length, take, map, max, replicate, slice_index, slice_index_or, slice_set, None, Some, refl, ap, sym, ◌∙◌, subst, arith, length-append}
use Rattle.std.specs.List.{filter_map, range_with_len, cons_option}
use Rattle.std.proofs.lemmas.List.{append-nil, get_or-set_same, get_or-set_other, get_or-map, get_or_append_left, get_or_push, get_or_past, length-map, length-set}
use Rattle.std.proofs.lemmas.List.Elements.{All-get_or, filter_map-append}
use Rattle.std.proofs.lemmas.List.FromFn.{get_or-map-range_with_len}
use Rattle.std.proofs.lemmas.Nat.{mul-le}
use Rattle.kz_model.specs.declared.bundle.Act.{Act}
use Rattle.kz_model.specs.declared.bundle.Act.TheVariants as act
use Rattle.kz_model.specs.declared.bundle.Bundle.{Bundle}
use Rattle.kz_model.specs.declared.bundle.TraceStep.{TraceStep}
use Rattle.kz_model.specs.declared.step.Step.{Step}
use Rattle.kz_model.specs.declared.step.Reply.{Reply}
use Rattle.kz_model.specs.declared.step.Reply.TheVariants as reply
use Rattle.kz_model.specs.declared.record.Plan.{Plan}
use Rattle.kz_model.specs.declared.record.Visit.{Visit}
use Rattle.kz_model.specs.declared.record.ZoneParams.{ZoneParams}
use Rattle.kz_model.specs.declared.record.ZoneRow.{ZoneRow}
use Rattle.kz_model.specs.declared.supply.SupplyEntry.{SupplyEntry}
use Rattle.kz_model.specs.declared.supply.Ask.{Ask}
use Rattle.kz_model.specs.declared.supply.Answer.{Answer}
use Rattle.kz_model.specs.Zone.State.{CpuPart, ZoneState, no_cpu_part, cpu_part}
use Rattle.kz_model.specs.Zone.Rules.{Effect, needs_visit, effect_of, put_back, alone_step}
use Rattle.kz_model.specs.Zone.Whole.{AreWithin, IsCpuPart, IsWhole}
use Rattle.kz_laws.specs.Amounts.{mapped_count, pages_held, stock_of, lines_done, zone_lines_done, kind_done, zone_kind_done, zone_allocations_done, zone_gifts_done}
use Rattle.kz_model.specs.Run.Journal.{carried_of}
use Rattle.kz_model.specs.Run.Rooms.{sum_below, is_allocating, is_giving, kind_among}
use Rattle.kz_model.specs.Run.Supply.{granted_in, returned_in}
use Rattle.kz_model.specs.Run.Journal.{params_of, addressed, trace_of, steps_among, log_at, answers_at}
use Rattle.kz_model.specs.Run.Rooms.{lines_among, lines_on}
use Rattle.kz_laws.specs.Play.{ZonePlay, Play, no_play, zone_play, replies_so_far, line_to_play, opening_zone_play, opening_play, zone_after, effect_there, play_after_step, settling, zone_after_settling, play_after_round}
use Rattle.kz_laws.specs.PlayedAt.{IsSupplied, IsReplyWithin, chunks_there, zone_of_line}
use Rattle.kz_model.specs.Types.Planned.{HasElements}
use Rattle.kz_model.specs.Run.Journal.{bases, page_of}
use Rattle.kz_laws.specs.Amounts.{new_gifts, new_chunks_most}
use Rattle.kz_laws.proofs.Amounts.{Amounts, effect_amounts}
use Rattle.kz_laws.proofs.Blocks.{within_more, reply_within}
use Rattle.kz_laws.proofs.OrderLines.{entries, entries_there, answers_at-append, new_answers, are_new}
use Rattle.kz_laws.proofs.Played.{asks_there, part_there, effect_is}
use Rattle.kz_laws.proofs.Stocks.{entries_answers, entries_long, supplies, log_here, log_elsewhere, log_at-append}
use Rattle.kz_model.proofs.LineCounts.{same_number, other_number, Adds, count_within, count_more, lines_add, kind_adds, line_here, line_away, kind_here, kind_within}
use Rattle.kz_model.proofs.Grants.{granted_in-append, returned_in-append}
use Rattle.kz_model.proofs.Sums.{sum_below-same, sum_below-zero, sum_below-one, sum_below-set, sum_below-lt}
use Rattle.kz_model.proofs.TraceRounds.{filter_map_push}
use Rattle.kz_laws.proofs.Undelayed.{mine_or_other}
use Rattle.kz_model.proofs.WholeKept.{whole_opening, whole_step}

-- ---- what is kept of a zone

pub record IsSound (b : Bundle) (plan : Plan) (s : Play) (zone : ℕ) (z : ZonePlay) : Type 0 where
  pub whole : IsWhole (params_of b plan zone) z.state
  pub pages : (params_of b plan zone).pages * mapped_count z.state.shared.chunks + returned_in (log_at zone s.log) ≡ granted_in (log_at zone s.log)
  pub bases_long : length (bases zone s.log) ≡ length z.state.shared.chunks
  pub chunks : length z.state.shared.chunks ≤ zone_allocations_done b plan s zone
  pub framed : (params_of b plan zone).pages * length z.state.shared.chunks ≤ b.frames
  pub entries_few : length (log_at zone s.log) + mapped_count z.state.shared.chunks ≤ 2 * zone_allocations_done b plan s zone
  pub gifts : length z.state.shared.transit ≤ zone_gifts_done b plan s zone
  pub visits : length z.visits + sum_below (slice_index z.late) b.cpus ≤ zone_lines_done b plan s zone
  pub carried : (cpu : ℕ) → cpu < b.cpus → carried_of cpu z.visits + slice_index z.late cpu ≡ lines_done b plan s zone cpu

-- each block that was handed out is of a chunk of its zone
abbrev pub AreBlocks : Bundle → Plan → Play → Type 0
AreBlocks b plan s = (cpu k : ℕ) → cpu < b.cpus → k < length (replies_so_far s cpu) → IsReplyWithin (chunks_there s (zone_of_line b plan cpu k)) (slice_index_or (replies_so_far s cpu) k reply.Done)

-- each frame is free or in a mapped chunk
abbrev pub AreFrames : Bundle → Plan → Play → Type 0
AreFrames b plan s = (stock_of b s.log).free + sum_below (pages_held b plan s) (length plan.zones) ≡ b.frames

-- with the same entries of the log and the same lines done
sound_same : (b : Bundle) (plan : Plan) (s t : Play) (zone : ℕ) (z : ZonePlay) → log_at zone t.log ≡ log_at zone s.log → ((cpu : ℕ) → cpu < b.cpus → lines_done b plan t zone cpu ≡ lines_done b plan s zone cpu) → ((kind : Act → Bool) (cpu : ℕ) → cpu < b.cpus → kind_done b plan kind t zone cpu ≡ kind_done b plan kind s zone cpu) → IsSound b plan s zone z → IsSound b plan t zone z
sound_same b plan s t zone z log lines kinds is =
    let done : zone_lines_done b plan t zone ≡ zone_lines_done b plan s zone = sum_below-same (lines_done b plan t zone) (lines_done b plan s zone) b.cpus lines in
    let of_kinds : (kind : Act → Bool) → zone_kind_done b plan kind t zone ≡ zone_kind_done b plan kind s zone = λ kind. sum_below-same (kind_done b plan kind t zone) (kind_done b plan kind s zone) b.cpus (kinds kind) in
    record {
      whole = is.whole;
      pages = subst (λ (l : List SupplyEntry). (params_of b plan zone).pages * mapped_count z.state.shared.chunks + returned_in l ≡ granted_in l) (sym log) is.pages;
      bases_long = ap (λ (l : List SupplyEntry). length (filter_map page_of (map (λ (entry : SupplyEntry). entry.answer) l))) log ∙ is.bases_long;
      chunks = subst (λ n. length z.state.shared.chunks ≤ n) (sym (of_kinds is_allocating)) is.chunks;
      framed = is.framed;
      entries_few = subst (λ n. length (log_at zone t.log) + mapped_count z.state.shared.chunks ≤ 2 * n) (sym (of_kinds is_allocating)) (subst (λ (l : List SupplyEntry). length l + mapped_count z.state.shared.chunks ≤ 2 * zone_allocations_done b plan s zone) (sym log) is.entries_few);
      gifts = subst (λ n. length z.state.shared.transit ≤ n) (sym (of_kinds is_giving)) is.gifts;
      visits = subst (λ n. length z.visits + sum_below (slice_index z.late) b.cpus ≤ n) (sym done) is.visits;
      carried = λ cpu lt. is.carried cpu lt ∙ sym (lines cpu lt);
    }

carried_of-append : (cpu : ℕ) (xs ys : List Visit) → carried_of cpu (xs ++ ys) ≡ carried_of cpu xs + carried_of cpu ys
carried_of-append cpu [] ys = omega arith
carried_of-append cpu (x ∷ xs) ys = omega (arith, carried_of-append cpu xs ys)

one_visit : (cpu : ℕ) (v : Visit) (test : Bool) → (v.cpu == cpu) ≡ test → carried_of cpu (v ∷ []) ≡ (if test then v.count else 0)
one_visit cpu v test is = ap (λ t. (if t then v.count else 0) + 0) is ∙ plain (if test then v.count else 0)
  where
    plain : (n : ℕ) → n + 0 ≡ n
    plain n = omega arith

-- pages for one of two numbers of chunks
fit_max : (pages m n k frames : ℕ) → k ≤ max m n → pages * m ≤ frames → pages * n ≤ frames → pages * k ≤ frames
fit_max pages m n k frames le first second =
    elim (nat_le k m) as (λ b. nat_le k m ≡ b → pages * k ≤ frames) [
      | true ↦ λ e. let few : k ≤ m = grind arith in omega (arith, mul-le pages k pages m (omega arith) few)
      | false ↦ λ e. let few : k ≤ n = grind arith in omega (arith, mul-le pages k pages n (omega arith) few)
    ] refl

-- ---- counts of lines

-- that of the lines of a CPU that are done
abbrev pub so_far : (List TraceStep → ℕ) → Bundle → Play → ℕ → ℕ
so_far count b s cpu = count (take (length (replies_so_far s cpu)) (trace_of b cpu))

-- where a CPU's next line counts, not all are done
pub count_left : (count : List TraceStep → ℕ) → Adds count → (b : Bundle) (s : Play) (cpu : ℕ) → cpu < b.cpus → length (replies_so_far s cpu) < length (trace_of b cpu) → 0 < count (line_to_play b s cpu ∷ []) →
    sum_below (so_far count b s) b.cpus < sum_below (λ cpu. count (trace_of b cpu)) b.cpus
count_left count adds b s cpu lt some counts =
    let n = length (replies_so_far s cpu) in
    sum_below-lt (so_far count b s) (λ cpu. count (trace_of b cpu)) b.cpus cpu lt
    (omega (arith, counts, count_more count adds (trace_of b cpu) n some, count_within count adds (trace_of b cpu) (n + 1)))
    (λ other in'. count_within count adds (trace_of b other) (length (replies_so_far s other)))

-- its step adds a gift where the line gives a block away
pub gives : (b : Bundle) (plan : Plan) (line : Act) → new_gifts (addressed b plan line).1 ≡ (if is_giving line then 1 else 0)
gives b plan (act.Free name None) = refl
gives b plan (act.Free name (Some of)) = refl
gives b plan line = refl

-- and a chunk at most where it allocates
pub allocates : (b : Bundle) (plan : Plan) (line : Act) → new_chunks_most (addressed b plan line).1 ≡ (if is_allocating line then 1 else 0)
allocates b plan (act.Free name None) = refl
allocates b plan (act.Free name (Some of)) = refl
allocates b plan line = refl

pub lines_within : (b : Bundle) (plan : Plan) (s : Play) (zone cpu : ℕ) → lines_done b plan s zone cpu ≤ lines_on b plan zone cpu
lines_within b plan s zone cpu = count_within (lines_among b plan zone) (lines_add b plan zone) (trace_of b cpu) (length (replies_so_far s cpu))

-- ---- one more line

module _ (b : Bundle) (plan : Plan) (s : Play) (cpu : ℕ) (elements : HasElements plan) (magazine : 1 ≤ b.magazine) (lt : cpu < b.cpus) (in-zones : (addressed b plan (line_to_play b s cpu).act).0 < length plan.zones)
    (some : length (replies_so_far s cpu) < length (trace_of b cpu)) (zones_long : length s.zones ≡ length plan.zones) (cpus_long : length s.replies ≡ b.cpus) (supplied : IsSupplied b plan s.log) where
  abbrev line : ℕ × Step
  line = addressed b plan (line_to_play b s cpu).act

  abbrev at : ℕ
  at = line.0

  abbrev step : Step
  step = line.1

  abbrev p : ZoneParams
  p = params_of b plan at

  abbrev z : ZonePlay
  z = zone_play s at

  abbrev t : Play
  t = play_after_step b plan s cpu at step

  abbrev asks : List Ask
  asks = asks_there p z.state cpu step

  abbrev given : List Answer
  given = new_answers b s.log asks

  abbrev new : List SupplyEntry
  new = entries at asks given

  abbrev effect : Effect
  effect = effect_there b plan s cpu at step

  abbrev needs : Bool
  needs = needs_visit p (cpu_part z.state cpu) step

  abbrev after : ZonePlay
  after = zone_after s.round cpu z needs effect

  abbrev lates : ℕ
  lates = slice_index z.late cpu

  long : length given ≡ length asks
  long = (are_new b s.log asks).long

  after_is : zone_play t at ≡ after
  after_is = get_or-set_same s.zones at after no_play (subst (λ n. at < n) (sym zones_long) in-zones)

  away_is : (zone : ℕ) → zone ≢ at → zone_play t zone ≡ zone_play s zone
  away_is zone ne = get_or-set_other s.zones at zone after no_play ne

  -- how many lines are done

  replies_mine : length (replies_so_far t cpu) ≡ length (replies_so_far s cpu) + 1
  replies_mine =
      ap (λ (l : List Reply). length l) (get_or-set_same s.replies cpu (replies_so_far s cpu ++ effect.reply ∷ []) [] (subst (λ n. cpu < n) (sym cpus_long) lt))
      ∙ length-append (replies_so_far s cpu) (effect.reply ∷ [])

  module _ (count : List TraceStep → ℕ) (adds : Adds count) where
    abbrev one : ℕ
    one = count (line_to_play b s cpu ∷ [])

    count_mine : so_far count b t cpu ≡ so_far count b s cpu + one
    count_mine = ap (λ n. count (take n (trace_of b cpu))) replies_mine ∙ count_more count adds (trace_of b cpu) (length (replies_so_far s cpu)) some

    count_other : (other : ℕ) → other ≢ cpu → so_far count b t other ≡ so_far count b s other
    count_other other ne = ap (λ (l : List Reply). count (take (length l) (trace_of b other))) (get_or-set_other s.replies cpu other (replies_so_far s cpu ++ effect.reply ∷ []) [] ne)

    count_none : one ≡ 0 → (other : ℕ) → so_far count b t other ≡ so_far count b s other
    count_none none other = mine_or_other (λ other. so_far count b t other ≡ so_far count b s other) cpu other (omega (arith, count_mine, none)) (λ ne. count_other other ne)

    count_all : sum_below (so_far count b t) b.cpus ≡ sum_below (so_far count b s) b.cpus + one
    count_all = omega (arith, sum_below-set (so_far count b s) (so_far count b t) b.cpus cpu lt (λ other lt ne. count_other other ne), count_mine)

  done_mine : lines_done b plan t at cpu ≡ lines_done b plan s at cpu + 1
  done_mine = count_mine (lines_among b plan at) (lines_add b plan at) ∙ ap (λ n. lines_done b plan s at cpu + n) (line_here b plan (line_to_play b s cpu))

  done_other : (other : ℕ) → other ≢ cpu → lines_done b plan t at other ≡ lines_done b plan s at other
  done_other = count_other (lines_among b plan at) (lines_add b plan at)

  done_away : (zone other : ℕ) → zone ≢ at → lines_done b plan t zone other ≡ lines_done b plan s zone other
  done_away zone other ne = count_none (lines_among b plan zone) (lines_add b plan zone) (line_away b plan zone (line_to_play b s cpu) ne) other

  kind_away : (kind : Act → Bool) (zone other : ℕ) → zone ≢ at → kind_done b plan kind t zone other ≡ kind_done b plan kind s zone other
  kind_away kind zone other ne =
      let none : kind_among b plan kind zone (line_to_play b s cpu ∷ []) ≡ 0 = omega (arith, kind_within b plan kind zone (line_to_play b s cpu ∷ []), line_away b plan zone (line_to_play b s cpu) ne) in
      count_none (kind_among b plan kind zone) (kind_adds b plan kind zone) none other

  all_done : zone_lines_done b plan t at ≡ zone_lines_done b plan s at + 1
  all_done = count_all (lines_among b plan at) (lines_add b plan at) ∙ ap (λ n. zone_lines_done b plan s at + n) (line_here b plan (line_to_play b s cpu))

  all_of_kind : (kind : Act → Bool) → zone_kind_done b plan kind t at ≡ zone_kind_done b plan kind s at + (if kind (line_to_play b s cpu).act then 1 else 0)
  all_of_kind kind = count_all (kind_among b plan kind at) (kind_adds b plan kind at) ∙ ap (λ n. zone_kind_done b plan kind s at + n) (kind_here b plan kind (line_to_play b s cpu))

  -- the entries of the log

  log_mine : log_at at t.log ≡ log_at at s.log ++ new
  log_mine = log_at-append at s.log new ∙ ap (λ (l : List SupplyEntry). log_at at s.log ++ l) (log_here at asks given)

  log_away : (zone : ℕ) → zone ≢ at → log_at zone t.log ≡ log_at zone s.log
  log_away zone ne = log_at-append zone s.log new ∙ ap (λ (l : List SupplyEntry). log_at zone s.log ++ l) (log_elsewhere at zone asks given (other_number at zone ne)) ∙ append-nil (log_at zone s.log)

  -- the step's effect

  effect_given : effect ≡ effect_of p z.state.shared cpu (cpu_part z.state cpu) step given
  effect_given = ap (λ (answers : List Answer). effect_of p z.state.shared cpu (cpu_part z.state cpu) step answers) (entries_answers at asks given long)

  amounts : Amounts p at z.state.shared effect.shared asks given (new_gifts step) (new_chunks_most step)
  amounts = subst (λ (e : Effect). Amounts p at z.state.shared e.shared asks given (new_gifts step) (new_chunks_most step)) (sym effect_given) (effect_amounts p at z.state.shared cpu (cpu_part z.state cpu) step given (are_new b s.log asks).all long)

  some_elements : 0 < p.count
  some_elements = All-get_or (λ (row : ZoneRow). 0 < row.shape.count) plan.zones at _ in-zones elements

  whole_after : IsWhole p z.state → IsWhole p after.state
  whole_after whole =
      let o = put_back z.state cpu (part_there b p s.log cpu step z.state) in
      let made : alone_step p z.state cpu step given ≡ Some o = ap (λ t. if t then Some o else None) (are_new b s.log asks).all in
      let same : after.state ≡ o.state = ap (λ (e : Effect). let st : ZoneState = record { shared = e.shared; own = slice_set z.state.own cpu e.own } in st) (effect_is b p s.log at cpu step z.state) in
      subst (IsWhole p) (sym same) (whole_step p z.state cpu step given o some_elements magazine lt whole made)

  -- frames

  pub line_supplied : IsSupplied b plan t.log
  line_supplied = (supplies b plan s.log at asks in-zones supplied).supplied

  held_after : pages_held b plan t at ≡ p.pages * mapped_count effect.shared.chunks
  held_after = ap (λ (z : ZonePlay). p.pages * mapped_count z.state.shared.chunks) after_is

  pub line_frames : AreFrames b plan s → AreFrames b plan t
  line_frames all =
      let free = (supplies b plan s.log at asks in-zones supplied).free in
      let sums = sum_below-set (pages_held b plan s) (pages_held b plan t) (length plan.zones) at in-zones (λ zone lt ne. ap (λ (z : ZonePlay). (params_of b plan zone).pages * mapped_count z.state.shared.chunks) (away_is zone ne)) in
      numbers (stock_of b s.log).free (stock_of b t.log).free (granted_in new) (returned_in new) (sum_below (pages_held b plan s) (length plan.zones)) (sum_below (pages_held b plan t) (length plan.zones))
      (pages_held b plan s at) (pages_held b plan t at) (p.pages * mapped_count effect.shared.chunks) free sums held_after amounts.pages all
    where
      numbers : (free next g r f h m held n : ℕ) → next + g ≡ free + r → h + m ≡ f + held → held ≡ n → n + r ≡ m + g → free + f ≡ b.frames → next + h ≡ b.frames
      numbers free next g r f h m held n a c d e all = omega arith

  mapped_framed : AreFrames b plan s → p.pages * mapped_count effect.shared.chunks ≤ b.frames
  mapped_framed all =
      one_part (stock_of b t.log).free (sum_below (pages_held b plan t) (length plan.zones)) (pages_held b plan t at) (p.pages * mapped_count effect.shared.chunks)
      (line_frames all) (sum_below-one (pages_held b plan t) (length plan.zones) at in-zones) held_after
    where
      one_part : (free h held n : ℕ) → free + h ≡ b.frames → held ≤ h → held ≡ n → n ≤ b.frames
      one_part free h held n all le e = omega arith

  -- the zone of the line

  module _ (is : IsSound b plan s at z) (late_long : length z.late ≡ b.cpus) (all : AreFrames b plan s) where
    late_mine : slice_index after.late cpu ≡ (if needs then 0 else lates + 1)
    late_mine = get_or-set_same z.late cpu (if needs then 0 else lates + 1) 0 (subst (λ n. cpu < n) (sym late_long) lt)

    late_other : (other : ℕ) → other ≢ cpu → slice_index after.late other ≡ slice_index z.late other
    late_other other ne = get_or-set_other z.late cpu other (if needs then 0 else lates + 1) 0 ne

    abbrev v : Visit
    v = record { round = s.round; cpu = cpu; count = lates + 1; settled = false }

    visits_after : length after.visits + sum_below (slice_index after.late) b.cpus ≤ zone_lines_done b plan s at + 1
    visits_after =
        let sums = sum_below-set (slice_index z.late) (slice_index after.late) b.cpus cpu lt (λ other lt ne. late_other other ne) in
        by_needs needs (sum_below (slice_index after.late) b.cpus) (slice_index after.late cpu) sums late_mine
      where
        by_needs : (needs : Bool) (now own : ℕ) → now + lates ≡ sum_below (slice_index z.late) b.cpus + own → own ≡ (if needs then 0 else lates + 1) → length (if needs then z.visits ++ v ∷ [] else z.visits) + now ≤ zone_lines_done b plan s at + 1
        by_needs true now own e f = omega (arith, is.visits, e, f, length-append z.visits (v ∷ []))
        by_needs false now own e f = omega (arith, is.visits, e, f)

    carried_mine : carried_of cpu after.visits + slice_index after.late cpu ≡ lines_done b plan s at cpu + 1
    carried_mine = ap (λ n. carried_of cpu after.visits + n) late_mine ∙ by_needs needs
      where
        by_needs : (needs : Bool) → carried_of cpu (if needs then z.visits ++ v ∷ [] else z.visits) + (if needs then 0 else lates + 1) ≡ lines_done b plan s at cpu + 1
        by_needs true = omega (arith, is.carried cpu lt, carried_of-append cpu z.visits (v ∷ []), one_visit cpu v true (same_number cpu))
        by_needs false = omega (arith, is.carried cpu lt)

    carried_other : (other : ℕ) → other ≢ cpu → other < b.cpus → carried_of other after.visits + slice_index after.late other ≡ lines_done b plan s at other
    carried_other other ne in' = ap (λ n. carried_of other after.visits + n) (late_other other ne) ∙ by_needs needs
      where
        by_needs : (needs : Bool) → carried_of other (if needs then z.visits ++ v ∷ [] else z.visits) + slice_index z.late other ≡ lines_done b plan s at other
        by_needs true = omega (arith, is.carried other in', carried_of-append other z.visits (v ∷ []), one_visit other v false (other_number cpu other ne))
        by_needs false = is.carried other in'

    bases_after : length (bases at t.log) ≡ length after.state.shared.chunks
    bases_after =
        ap (λ (l : List Answer). length (filter_map page_of l)) (answers_at-append at s.log new ∙ ap (λ (l : List Answer). answers_at at s.log ++ l) (entries_there at asks given long))
        ∙ ap (λ (l : List ℕ). length l) (filter_map-append page_of (answers_at at s.log) given)
        ∙ length-append (bases at s.log) (filter_map page_of given)
        ∙ ap (λ n. n + length (filter_map page_of given)) is.bases_long
        ∙ sym amounts.chunks

    sound_here : IsSound b plan t at after
    sound_here =
        let log = log_at at s.log in
        record {
          whole = whole_after is.whole;
          pages = subst (λ (l : List SupplyEntry). p.pages * mapped_count after.state.shared.chunks + returned_in l ≡ granted_in l) (sym log_mine) (omega (arith, is.pages, amounts.pages, granted_in-append log new, returned_in-append log new));
          bases_long = bases_after;
          chunks = omega (arith, is.chunks, amounts.chunks_few, allocates b plan (line_to_play b s cpu).act, all_of_kind is_allocating);
          framed = fit_max p.pages (length z.state.shared.chunks) (mapped_count effect.shared.chunks) (length effect.shared.chunks) b.frames amounts.full is.framed (mapped_framed all);
          entries_few = subst (λ (l : List SupplyEntry). length l + mapped_count after.state.shared.chunks ≤ 2 * zone_allocations_done b plan t at) (sym log_mine)
              (omega (arith, is.entries_few, amounts.entries_few, length-append log new, entries_long at asks given long, allocates b plan (line_to_play b s cpu).act, all_of_kind is_allocating));
          gifts = omega (arith, is.gifts, amounts.transit, gives b plan (line_to_play b s cpu).act, all_of_kind is_giving);
          visits = subst (λ n. length after.visits + sum_below (slice_index after.late) b.cpus ≤ n) (sym all_done) visits_after;
          carried = λ other in'. mine_or_other (λ other. other < b.cpus → carried_of other after.visits + slice_index after.late other ≡ lines_done b plan t at other) cpu other
              (λ in'. carried_mine ∙ sym done_mine) (λ ne in'. carried_other other ne in' ∙ sym (done_other other ne)) in';
        }

  pub line_sound : ((zone : ℕ) → zone < length plan.zones → IsSound b plan s zone (zone_play s zone)) → length z.late ≡ b.cpus → AreFrames b plan s → (zone : ℕ) → zone < length plan.zones → IsSound b plan t zone (zone_play t zone)
  line_sound each late_long all zone in' =
      mine_or_other (λ zone. zone < length plan.zones → IsSound b plan t zone (zone_play t zone)) at zone
      (λ in'. subst (IsSound b plan t at) (sym after_is) (sound_here (each at in') late_long all))
      (λ ne in'. subst (IsSound b plan t zone) (sym (away_is zone ne)) (sound_same b plan s t zone (zone_play s zone) (log_away zone ne) (λ other lt. done_away zone other ne) (λ kind other lt. kind_away kind zone other ne) (each zone in'))) in'

  -- blocks

  chunks_grow : (zone : ℕ) → chunks_there s zone ≤ chunks_there t zone
  chunks_grow zone =
      mine_or_other (λ zone. chunks_there s zone ≤ chunks_there t zone) at zone
      (subst (λ (z : ZonePlay). chunks_there s at ≤ length z.state.shared.chunks) (sym after_is) (omega (arith, amounts.chunks)))
      (λ ne. subst (λ (z : ZonePlay). chunks_there s zone ≤ length z.state.shared.chunks) (sym (away_is zone ne)) (omega arith))

  block_new : IsSound b plan s at z → length z.state.own ≡ b.cpus → IsReplyWithin (chunks_there t at) effect.reply
  block_new is own_long =
      let e = effect_of p z.state.shared cpu (cpu_part z.state cpu) step given in
      let whole = whole_after is.whole in
      let within-own : cpu < length after.state.own = subst (λ n. cpu < n) (sym (length-set z.state.own cpu effect.own ∙ own_long)) lt in
      let mine = All-get_or (IsCpuPart p (length after.state.shared.chunks)) after.state.own cpu no_cpu_part within-own whole.own in
      let own : cpu_part after.state cpu ≡ effect.own = get_or-set_same z.state.own cpu effect.own no_cpu_part (subst (λ n. cpu < n) (sym own_long) lt) in
      subst (λ (z : ZonePlay). IsReplyWithin (length z.state.shared.chunks) effect.reply) (sym after_is)
      (subst (λ (e : Effect). AreWithin p (length e.shared.chunks) e.own.names → IsReplyWithin (length e.shared.chunks) e.reply) (sym effect_given)
      (reply_within p z.state.shared cpu (cpu_part z.state cpu) step given)
      (subst (λ (own : CpuPart). AreWithin p (length effect.shared.chunks) own.names) own mine.names))

  pub line_blocks : IsSound b plan s at z → AreBlocks b plan s → AreBlocks b plan t
  line_blocks is blocks other k in' below =
      mine_or_other (λ other. other < b.cpus → k < length (replies_so_far t other) → IsReplyWithin (chunks_there t (zone_of_line b plan other k)) (slice_index_or (replies_so_far t other) k reply.Done)) cpu other
      (λ in' below.
      let old = replies_so_far s cpu in
      let now : replies_so_far t cpu ≡ old ++ effect.reply ∷ [] = get_or-set_same s.replies cpu (old ++ effect.reply ∷ []) [] (subst (λ n. cpu < n) (sym cpus_long) lt) in
      let within : k < length old + 1 = subst (λ n. k < n) replies_mine below in
      subst (λ (l : List Reply). IsReplyWithin (chunks_there t (zone_of_line b plan cpu k)) (slice_index_or l k reply.Done)) (sym now)
      (elim (nat_lt k (length old)) as (λ test. nat_lt k (length old) ≡ test → IsReplyWithin (chunks_there t (zone_of_line b plan cpu k)) (slice_index_or (old ++ effect.reply ∷ []) k reply.Done)) [
        | true ↦ λ e.
            let earlier : k < length old = grind arith in
            subst (IsReplyWithin (chunks_there t (zone_of_line b plan cpu k))) (sym (get_or_append_left old (effect.reply ∷ []) reply.Done k earlier))
            (within_more (chunks_there s (zone_of_line b plan cpu k)) (chunks_there t (zone_of_line b plan cpu k)) (slice_index_or old k reply.Done) (chunks_grow (zone_of_line b plan cpu k)) (blocks cpu k in' earlier))
        | false ↦ λ e.
            let last : length old ≡ k = newest_is k (length old) within e in
            subst (IsReplyWithin (chunks_there t (zone_of_line b plan cpu k))) (sym (get_or_push old effect.reply reply.Done k last))
            (subst (λ k. IsReplyWithin (chunks_there t (zone_of_line b plan cpu k)) effect.reply) last (block_new is is.whole.cpus))
      ] refl))
      (λ ne in' below.
      let same : replies_so_far t other ≡ replies_so_far s other = get_or-set_other s.replies cpu other (replies_so_far s cpu ++ effect.reply ∷ []) [] ne in
      subst (λ (l : List Reply). IsReplyWithin (chunks_there t (zone_of_line b plan other k)) (slice_index_or l k reply.Done)) (sym same)
      (within_more (chunks_there s (zone_of_line b plan other k)) (chunks_there t (zone_of_line b plan other k)) (slice_index_or (replies_so_far s other) k reply.Done) (chunks_grow (zone_of_line b plan other k))
      (blocks other k in' (subst (λ (l : List Reply). k < length l) same below)))) in' below
    where
      newest_is : (k n : ℕ) → k < n + 1 → nat_lt k n ≡ false → n ≡ k
      newest_is k n lt e = grind arith

-- ---- a round's end

-- who settles
settle_long : (round : ℕ) (late : List ℕ) (n : ℕ) → length (filter_map (settling round late) (range_with_len 0 n)) ≤ sum_below (slice_index late) n
settle_long round late zero = omega arith
settle_long round late (suc n) =
    let before = filter_map (settling round late) (range_with_len 0 n) in
    let v : Visit = record { round = round; cpu = n; count = slice_index late n; settled = true } in
    let one : length (cons_option (settling round late n) []) ≤ slice_index late n =
    elim (nat_lt 0 (slice_index late n)) as (λ t. nat_lt 0 (slice_index late n) ≡ t → length (cons_option (if t then Some v else None) []) ≤ slice_index late n) [
      | true ↦ λ e. let some : 0 < slice_index late n = grind arith in omega arith
      | false ↦ λ e. omega arith
    ] refl in
    omega (arith, settle_long round late n, one, ap (λ (l : List Visit). length l) (filter_map_push (settling round late) n), length-append before (cons_option (settling round late n) []))

settle_one : (round n cpu : ℕ) (late : List ℕ) → carried_of cpu (cons_option (settling round late n) []) ≡ (if n == cpu then slice_index late n else 0)
settle_one round n cpu late =
    let v : Visit = record { round = round; cpu = n; count = slice_index late n; settled = true } in
    elim (nat_lt 0 (slice_index late n)) as (λ t. nat_lt 0 (slice_index late n) ≡ t → carried_of cpu (cons_option (if t then Some v else None) []) ≡ (if n == cpu then slice_index late n else 0)) [
      | true ↦ λ e. one_visit cpu v (n == cpu) refl
      | false ↦ λ e. let none : slice_index late n ≡ 0 = grind arith in elim (n == cpu) as (λ t. 0 ≡ (if t then slice_index late n else 0)) [ true ↦ sym none | false ↦ refl ]
    ] refl

settle_none : (round cpu : ℕ) (late : List ℕ) (n : ℕ) → n ≤ cpu → carried_of cpu (filter_map (settling round late) (range_with_len 0 n)) ≡ 0
settle_none round cpu late zero le = refl
settle_none round cpu late (suc n) le =
    let before = filter_map (settling round late) (range_with_len 0 n) in
    let not_it : (n == cpu) ≡ false = grind arith in
    omega (arith, settle_none round cpu late n (omega arith), ap (carried_of cpu) (filter_map_push (settling round late) n), carried_of-append cpu before (cons_option (settling round late n) []), settle_one round n cpu late, ap (λ t. if t then slice_index late n else 0) not_it)

settle_carries : (round cpu : ℕ) (late : List ℕ) (n : ℕ) → cpu < n → carried_of cpu (filter_map (settling round late) (range_with_len 0 n)) ≡ slice_index late cpu
settle_carries round cpu late zero lt = absurd (omega arith)
settle_carries round cpu late (suc n) lt =
    let before = filter_map (settling round late) (range_with_len 0 n) in
    let all : carried_of cpu (filter_map (settling round late) (range_with_len 0 (suc n))) ≡ carried_of cpu before + (if n == cpu then slice_index late n else 0) =
    ap (carried_of cpu) (filter_map_push (settling round late) n) ∙ carried_of-append cpu before (cons_option (settling round late n) []) ∙ ap (λ m. carried_of cpu before + m) (settle_one round n cpu late) in
    elim (n == cpu) as (λ t. (n == cpu) ≡ t → carried_of cpu (filter_map (settling round late) (range_with_len 0 (suc n))) ≡ carried_of cpu before + (if t then slice_index late n else 0) → carried_of cpu (filter_map (settling round late) (range_with_len 0 (suc n))) ≡ slice_index late cpu) [
      | true ↦ λ e all. let is : n ≡ cpu = grind arith in all ∙ ap (λ m. m + slice_index late n) (settle_none round cpu late n (omega arith)) ∙ plain (slice_index late n) ∙ ap (slice_index late) is
      | false ↦ λ e all. let ne : n ≢ cpu = grind arith in all ∙ ap (λ m. m + 0) (settle_carries round cpu late n (omega arith)) ∙ plain_right (slice_index late cpu)
    ] refl all
  where
    plain : (n : ℕ) → 0 + n ≡ n
    plain n = omega arith

    plain_right : (n : ℕ) → n + 0 ≡ n
    plain_right n = omega arith

zero_at : (n k : ℕ) → slice_index (replicate n 0) k ≡ 0
zero_at zero k = refl
zero_at (suc n) zero = refl
zero_at (suc n) (suc k) = zero_at n k

zone_round_sound : (b : Bundle) (plan : Plan) (s : Play) (zone : ℕ) (z : ZonePlay) → IsSound b plan s zone z → IsSound b plan (play_after_round b s) zone (zone_after_settling s.round b.cpus z)
zone_round_sound b plan s zone z is =
    let new = filter_map (settling s.round z.late) (range_with_len 0 b.cpus) in
    record {
      whole = is.whole;
      pages = is.pages;
      bases_long = is.bases_long;
      chunks = is.chunks;
      framed = is.framed;
      entries_few = is.entries_few;
      gifts = is.gifts;
      visits = omega (arith, is.visits, length-append z.visits new, settle_long s.round z.late b.cpus, sum_below-zero (slice_index (replicate b.cpus 0)) b.cpus (λ k lt. zero_at b.cpus k));
      carried = λ cpu lt. omega (arith, is.carried cpu lt, carried_of-append cpu z.visits new, settle_carries s.round cpu z.late b.cpus lt, zero_at b.cpus cpu);
    }

settled_is : (b : Bundle) (plan : Plan) (s : Play) (zone : ℕ) → length s.zones ≡ length plan.zones → zone < length plan.zones → zone_play (play_after_round b s) zone ≡ zone_after_settling s.round b.cpus (zone_play s zone)
settled_is b plan s zone long lt = get_or-map (zone_after_settling s.round b.cpus) s.zones zone no_play no_play (subst (λ n. zone < n) (sym long) lt)

pub round_sound : (b : Bundle) (plan : Plan) (s : Play) → length s.zones ≡ length plan.zones → ((zone : ℕ) → zone < length plan.zones → IsSound b plan s zone (zone_play s zone)) →
    (zone : ℕ) → zone < length plan.zones → IsSound b plan (play_after_round b s) zone (zone_play (play_after_round b s) zone)
round_sound b plan s long each zone lt = subst (IsSound b plan (play_after_round b s) zone) (sym (settled_is b plan s zone long lt)) (zone_round_sound b plan s zone (zone_play s zone) (each zone lt))

pub round_blocks : (b : Bundle) (plan : Plan) (s : Play) → AreBlocks b plan s → AreBlocks b plan (play_after_round b s)
round_blocks b plan s blocks cpu k lt below =
    subst (λ n. IsReplyWithin n (slice_index_or (replies_so_far s cpu) k reply.Done)) (sym (same (zone_of_line b plan cpu k))) (blocks cpu k lt below)
  where
    same : (zone : ℕ) → chunks_there (play_after_round b s) zone ≡ chunks_there s zone
    same zone =
        elim (nat_lt zone (length s.zones)) as (λ t. nat_lt zone (length s.zones) ≡ t → chunks_there (play_after_round b s) zone ≡ chunks_there s zone) [
          | true ↦ λ e. let in' : zone < length s.zones = grind arith in ap (λ (z : ZonePlay). length z.state.shared.chunks) (get_or-map (zone_after_settling s.round b.cpus) s.zones zone no_play no_play in')
          | false ↦ λ e.
              let past : length s.zones ≤ zone = grind arith in
              ap (λ (z : ZonePlay). length z.state.shared.chunks) (get_or_past (map (zone_after_settling s.round b.cpus) s.zones) zone no_play (subst (λ n. n ≤ zone) (sym (length-map s.zones (zone_after_settling s.round b.cpus))) past) ∙ sym (get_or_past s.zones zone no_play past))
        ] refl

pub round_frames : (b : Bundle) (plan : Plan) (s : Play) → length s.zones ≡ length plan.zones → sum_below (pages_held b plan (play_after_round b s)) (length plan.zones) ≡ sum_below (pages_held b plan s) (length plan.zones)
round_frames b plan s long =
    sum_below-same (pages_held b plan (play_after_round b s)) (pages_held b plan s) (length plan.zones)
    (λ zone lt. ap (λ (z : ZonePlay). (params_of b plan zone).pages * mapped_count z.state.shared.chunks) (settled_is b plan s zone long lt))

-- ---- the start

opened_is : (b : Bundle) (plan : Plan) (zone : ℕ) → zone < length plan.zones → zone_play (opening_play b plan) zone ≡ opening_zone_play (params_of b plan zone)
opened_is b plan zone lt = get_or-map-range_with_len (λ zone. opening_zone_play (params_of b plan zone)) 0 (length plan.zones) zone zone no_play lt (from_zero zone)
  where
    from_zero : (n : ℕ) → 0 + n ≡ n
    from_zero n = omega arith

none_said : (n cpu : ℕ) → slice_index_or {A = List Reply} (replicate n []) cpu [] ≡ []
none_said zero cpu = refl
none_said (suc n) zero = refl
none_said (suc n) (suc cpu) = none_said n cpu

pub opening_blocks : (b : Bundle) (plan : Plan) → AreBlocks b plan (opening_play b plan)
opening_blocks b plan cpu k lt below = absurd (let none : k < 0 = subst (λ (l : List Reply). k < length l) (none_said b.cpus cpu) below in omega arith)

nothing_done : (b : Bundle) (plan : Plan) (zone cpu : ℕ) → lines_done b plan (opening_play b plan) zone cpu ≡ 0
nothing_done b plan zone cpu = ap (λ (l : List Reply). length (steps_among b plan zone (take (length l) (trace_of b cpu)))) (none_said b.cpus cpu)

pub opening_sound : (b : Bundle) (plan : Plan) (zone : ℕ) → zone < length plan.zones → IsSound b plan (opening_play b plan) zone (zone_play (opening_play b plan) zone)
opening_sound b plan zone lt =
    let p = params_of b plan zone in
    subst (IsSound b plan (opening_play b plan) zone) (sym (opened_is b plan zone lt)) (record {
      whole = whole_opening p;
      pages = no_pages p.pages;
      bases_long = refl;
      chunks = omega arith;
      framed = no_frames p.pages;
      entries_few = omega arith;
      gifts = omega arith;
      visits = nothing (sum_below-zero (slice_index (replicate b.cpus 0)) b.cpus (λ k lt. zero_at b.cpus k));
      carried = λ cpu lt. plain (slice_index (replicate b.cpus 0) cpu) ∙ zero_at b.cpus cpu ∙ sym (nothing_done b plan zone cpu);
    })
  where
    plain : (n : ℕ) → 0 + n ≡ n
    plain n = omega arith

    no_pages : (n : ℕ) → n * 0 + 0 ≡ 0
    no_pages n = omega arith

    no_frames : (n : ℕ) → n * 0 ≤ b.frames
    no_frames n = omega arith

    nothing : {n m : ℕ} → n ≡ 0 → 0 + n ≤ m
    nothing e = omega arith

pub opening_frames : (b : Bundle) (plan : Plan) → sum_below (pages_held b plan (opening_play b plan)) (length plan.zones) ≡ 0
opening_frames b plan =
    sum_below-zero (pages_held b plan (opening_play b plan)) (length plan.zones)
    (λ zone lt. ap (λ (z : ZonePlay). (params_of b plan zone).pages * mapped_count z.state.shared.chunks) (opened_is b plan zone lt) ∙ no_pages (params_of b plan zone).pages)
  where
    no_pages : (n : ℕ) → n * 0 ≡ 0
    no_pages n = omega arith
