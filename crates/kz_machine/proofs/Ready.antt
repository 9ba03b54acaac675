-- A CPU whose next line it is may do it.
use Rattle.std.proofs.Common.{◌≡◌, ◌<◌, ◌≤◌, ◌+◌, ◌-◌, ◌*◌, ◌/◌, ℕ, Bool, true, false, if◌then◌else◌, List, ◌∷◌, ◌++◌, length, take, drop, slice_index_or, None, Some, refl, ap, sym, ◌∙◌, subst, arith}
use Rattle.std.specs.List.{count_by}
use Rattle.std.proofs.Math.Nat.{le-min}
use Rattle.std.proofs.lemmas.Nat.{le-div}
use Rattle.std.proofs.lemmas.List.{drop_more, take-append-drop}
use Rattle.std.proofs.lemmas.List.Elements.{All-get_or}
use Rattle.std.proofs.lemmas.List.Recursion.{is_count_by}
use Rattle.kz_model.specs.declared.bundle.Act.{Act}
use Rattle.kz_model.specs.declared.bundle.Act.TheVariants as act
use Rattle.kz_model.specs.declared.bundle.Bundle.{Bundle}
use Rattle.kz_model.specs.declared.bundle.TraceStep.{TraceStep}
use Rattle.kz_model.specs.declared.record.Plan.{Plan}
use Rattle.kz_model.specs.declared.record.Room.{Room}
use Rattle.kz_model.specs.declared.record.ZoneParams.{ZoneParams}
use Rattle.kz_model.specs.declared.step.Step.{Step}
use Rattle.kz_laws.specs.Amounts.{mapped_count, pages_held, stock_of, lines_done, zone_lines_done, zone_kind_done, zone_allocations_done, zone_gifts_done}
use Rattle.kz_model.specs.Run.Journal.{carried_of}
use Rattle.kz_model.specs.Run.Rooms.{zone_lines, is_allocating, is_giving, zone_kind, zone_allocations, zone_gifts}
use Rattle.kz_model.specs.Run.Journal.{params_of, zone_of_name, addressed, trace_of, steps_among, log_at}
use Rattle.kz_model.specs.Run.Rooms.{lines_on}
use Rattle.kz_laws.specs.Play.{ZonePlay, Play, zone_play, replies_so_far, line_to_play}
use Rattle.kz_laws.specs.PlayedAt.{IsZonePlayed}
use Rattle.kz_model.specs.Zone.Rules.{name_of}
use Rattle.kz_model.specs.Run.Journal.{no_step}
use Rattle.kz_model.specs.Store.Traces.{AreNumbered}
use Rattle.kz_model.specs.Grammar.Valid.{HasShortRead, IsStepWithin, IsValid}
use Rattle.kz_model.specs.Zone.State.{Chunk, Gift, Shared}
use Rattle.kz_laws.proofs.LineKinds.{kind_left, kind_done_few}
use Rattle.kz_laws.proofs.PlayedReplies.{step_within}
use Rattle.kz_model.proofs.TraceRounds.{steps_within}
use Rattle.kz_model.specs.Run.Supply.{pages_left}
use Rattle.kz_supply.specs.Supply.{stock_of as left_of}
use Rattle.kz_supply.specs.Supply.{Supply, room_left, backs_left, grants_left, frames_out}
use Rattle.kz_supply.specs.Thin.{ThinSupply, HasMade}
use Rattle.kz_book.specs.Book.{Book}
use Rattle.kz_book.specs.Visits.{has_name, gives, ReadsFew}
use Rattle.kz_cpu.specs.Cpu.{Cpu, IsTagged, binding_at, recent_at}
use Rattle.kz_machine.specs.Lookups.{cpu_at, book_at}
use Rattle.kz_machine.specs.Machine.{Machine}
use Rattle.kz_machine.specs.Needs.{needed_of, allocations_of, most_entries}
use Rattle.kz_machine.specs.Stands.{IsCpuAt, IsZoneAt, StandsForPlay, IsTurn}
use Rattle.kz_machine.specs.Steps.{parties, IsReady, allocates}
use Rattle.kz_machine.proofs.Frames.{supply_of, in_submap as submap_fits, unmapped_made, granted_made}
use Rattle.kz_machine.proofs.Fit.{params_fit, steps_here}
use Rattle.kz_model.proofs.Sums.{sum_below-one}
use Rattle.kz_machine.proofs.Lines.{entries_are, sum_below-room, sum_below-twice, log_spread}
use Rattle.kz_bundle.proofs.Zoned.{planned_is_valid}

-- ---- a line's step

-- its name is one of the bundle's, and of the zone
pub named : (b : Bundle) (plan : Plan) (line : Act) → AreNumbered (length b.names) (length b.types) line → has_name (addressed b plan line).1 ≡ true →
    (name_of (addressed b plan line).1 < length b.names) × (zone_of_name b plan (name_of (addressed b plan line).1) ≡ (addressed b plan line).0)
named b plan (act.Alloc name of) is has = (is.0, refl)
named b plan (act.AllocZero name of) is has = (is.0, refl)
named b plan (act.Free name None) is has = (is, refl)
named b plan (act.Free name (Some of)) is has = (is.0, refl)
named b plan (act.Give name to) is has = (is, refl)
named b plan (act.Take name) is has = (is, refl)
named b plan (act.Read name off len) is has = (is, refl)
named b plan (act.Write name off bytes) is has = (is, refl)
named b plan (act.Flush of) is has = absurd (cc)
named b plan (act.Trim of) is has = absurd (cc)

reads_few : (b : Bundle) (plan : Plan) (line : Act) → HasShortRead line → ReadsFew (addressed b plan line).1
reads_few b plan (act.Alloc name of) is = tt
reads_few b plan (act.AllocZero name of) is = tt
reads_few b plan (act.Free name None) is = tt
reads_few b plan (act.Free name (Some of)) is = tt
reads_few b plan (act.Give name to) is = tt
reads_few b plan (act.Take name) is = tt
reads_few b plan (act.Read name off len) is = is
reads_few b plan (act.Write name off bytes) is = tt
reads_few b plan (act.Flush of) is = tt
reads_few b plan (act.Trim of) is = tt

allocating_line : (b : Bundle) (plan : Plan) (line : Act) → allocates (addressed b plan line).1 ≡ true → is_allocating line ≡ true
allocating_line b plan (act.Alloc name of) is = refl
allocating_line b plan (act.AllocZero name of) is = refl
allocating_line b plan (act.Free name None) is = absurd (cc)
allocating_line b plan (act.Free name (Some of)) is = absurd (cc)
allocating_line b plan (act.Give name to) is = absurd (cc)
allocating_line b plan (act.Take name) is = absurd (cc)
allocating_line b plan (act.Read name off len) is = absurd (cc)
allocating_line b plan (act.Write name off bytes) is = absurd (cc)
allocating_line b plan (act.Flush of) is = absurd (cc)
allocating_line b plan (act.Trim of) is = absurd (cc)

giving_line : (b : Bundle) (plan : Plan) (line : Act) → gives (addressed b plan line).1 ≡ true → is_giving line ≡ true
giving_line b plan (act.Alloc name of) is = absurd (cc)
giving_line b plan (act.AllocZero name of) is = absurd (cc)
giving_line b plan (act.Free name None) is = absurd (cc)
giving_line b plan (act.Free name (Some of)) is = absurd (cc)
giving_line b plan (act.Give name to) is = refl
giving_line b plan (act.Take name) is = absurd (cc)
giving_line b plan (act.Read name off len) is = absurd (cc)
giving_line b plan (act.Write name off bytes) is = absurd (cc)
giving_line b plan (act.Flush of) is = absurd (cc)
giving_line b plan (act.Trim of) is = absurd (cc)

-- ---- counts that are said twice

mapped_same : (chunks : List Chunk) → mapped_count chunks ≡ count_by (λ chunk. chunk.mapped) chunks
mapped_same chunks = is_count_by mapped_count (λ (chunk : Chunk). chunk.mapped) refl first chunks
  where
    first : (x : Chunk) (xs : List Chunk) → mapped_count (x ∷ xs) ≡ (if x.mapped then 1 + mapped_count xs else mapped_count xs)
    first x xs = elim x.mapped as (λ t. (if t then 1 else 0) + mapped_count xs ≡ (if t then 1 + mapped_count xs else mapped_count xs)) [ true ↦ refl | false ↦ omega arith ]

-- ---- the turn

module _ (b : Bundle) (plan : Plan) (m : Machine) (s : Play) (cpu zone : ℕ) (step : Step) (at : StandsForPlay b plan m s) (turn : IsTurn b plan s cpu zone step) where
  abbrev p : ZoneParams
  p = params_of b plan zone

  abbrev c : Cpu
  c = cpu_at m.cpus cpu

  abbrev book : Book
  book = book_at m.books zone

  abbrev z : ZonePlay
  z = zone_play s zone

  abbrev valid : IsValid b
  valid = planned_is_valid at.planned

  pub is_cpu : cpu < b.cpus
  is_cpu = turn.turn.is_cpu

  zone_is : (addressed b plan (line_to_play b s cpu).act).0 ≡ zone
  zone_is = ap (λ (line : ℕ × Step). line.0) turn.line

  step_is : (addressed b plan (line_to_play b s cpu).act).1 ≡ step
  step_is = ap (λ (line : ℕ × Step). line.1) turn.line

  pub in_zones : zone < length plan.zones
  in_zones = subst (λ n. n < length plan.zones) zone_is turn.turn.in_zones

  lines_left : zone_lines_done b plan s zone < zone_lines b plan zone
  lines_left = subst (λ zone. zone_lines_done b plan s zone < zone_lines b plan zone) zone_is turn.turn.more

  abbrev here : IsCpuAt b plan cpu c
  here = at.cpus cpu is_cpu

  abbrev there : IsZoneAt b plan m.cpus s.log zone book z
  there = at.zones zone in_zones

  abbrev sound : IsZonePlayed b plan s zone z
  sound = turn.sound.each zone in_zones

  within : IsStepWithin (length b.names) (length b.types) b.rounds (line_to_play b s cpu)
  within = All-get_or (IsStepWithin (length b.names) (length b.types) b.rounds) (trace_of b cpu) (length (replies_so_far s cpu)) no_step turn.turn.some (steps_within b valid cpu)

  named_here : has_name step ≡ true → (name_of step < length b.names) × (zone_of_name b plan (name_of step) ≡ zone)
  named_here has =
      let first = subst (λ (step : Step). has_name step ≡ true → (name_of step < length b.names) × (zone_of_name b plan (name_of step) ≡ (addressed b plan (line_to_play b s cpu).act).0)) step_is (named b plan (line_to_play b s cpu).act within.act) has in
      (first.0, first.1 ∙ zone_is)

  pub zone_of_name_is : has_name step ≡ true → zone_of_name b plan (name_of step) ≡ zone
  zone_of_name_is has = (named_here has).1

  -- this CPU has a line left there
  line_left : lines_done b plan s zone cpu < lines_on b plan zone cpu
  line_left =
      let n = length (replies_so_far s cpu) in
      let trace = trace_of b cpu in
      let line = line_to_play b s cpu in
      let all : take n trace ++ line ∷ drop (n + 1) trace ≡ trace = ap (λ (rest : List TraceStep). take n trace ++ rest) (sym (drop_more trace n no_step turn.turn.some)) ∙ take-append-drop n trace in
      subst (λ zone. length (steps_among b plan zone (take n trace)) < length (steps_among b plan zone trace)) zone_is
      (subst (λ lines. length (steps_among b plan (addressed b plan line.act).0 (take n trace)) < length (steps_among b plan (addressed b plan line.act).0 lines)) all (step_within b plan (take n trace) (drop (n + 1) trace) line))

  -- and one of its kind
  kind_here : (kind : Act → Bool) → kind (line_to_play b s cpu).act ≡ true → zone_kind_done b plan kind s zone < zone_kind b plan kind zone
  kind_here kind is = subst (λ zone. zone_kind_done b plan kind s zone < zone_kind b plan kind zone) zone_is (kind_left b plan kind s cpu turn.turn is)

  gift_here : gives step ≡ true → zone_gifts_done b plan s zone < zone_gifts b plan zone
  gift_here is = kind_here is_giving (giving_line b plan (line_to_play b s cpu).act (subst (λ (step : Step). gives step ≡ true) (sym step_is) is))

  allocation_here : allocates step ≡ true → zone_allocations_done b plan s zone < zone_allocations b plan zone
  allocation_here is = kind_here is_allocating (allocating_line b plan (line_to_play b s cpu).act (subst (λ (step : Step). allocates step ≡ true) (sym step_is) is))

  carried_here : carried_of cpu book.visits + length (recent_at c zone) ≡ lines_done b plan s zone cpu
  carried_here =
      let visits : carried_of cpu book.visits ≡ carried_of cpu z.visits = ap (carried_of cpu) there.visits in
      let late = there.late cpu is_cpu in
      let all = sound.carried cpu is_cpu in
      omega arith

  -- the zone as its book has it
  shared_is : z.state.shared ≡ there.history.made.end.shared
  shared_is = there.delayed.shared

  chunks_are : book.zone.chunks ≡ z.state.shared.chunks
  chunks_are = sym (ap (λ (s : Shared). s.chunks) shared_is ∙ there.keeps.shows.chunks)

  gifts_are : book.zone.transit ≡ z.state.shared.transit
  gifts_are = sym (ap (λ (s : Shared). s.transit) shared_is ∙ there.keeps.shows.transit)

  -- the supply

  few_entries : (other : ℕ) → other < length plan.zones → length (log_at other s.log) ≤ 2 * zone_allocations b plan other
  few_entries other lt = let entries = (turn.sound.each other lt).entries in let done = kind_done_few b plan is_allocating s other in omega arith

  entries_room : (more : ℕ) → length (log_at zone s.log) + more ≤ 2 * zone_allocations b plan zone → length s.log + more ≤ most_entries (allocations_of b plan)
  entries_room more fits =
      let n = length plan.zones in
      let spread = log_spread n s.log turn.sound.supplied.of_zones in
      let sums = sum_below-room (λ zone. length (log_at zone s.log)) (λ zone. 2 * zone_allocations b plan zone) n zone more in_zones fits few_entries in
      let twice = sum_below-twice (zone_allocations b plan) n in
      let all = entries_are b plan in
      omega arith

  -- a back of each mapped chunk has room
  backs_room : length s.log + mapped_count z.state.shared.chunks ≤ most_entries (allocations_of b plan)
  backs_room = entries_room (mapped_count z.state.shared.chunks) (let entries = sound.entries in let done = kind_done_few b plan is_allocating s zone in omega arith)

  room_is : room_left m.supply.counted ≡ most_entries (allocations_of b plan) - length s.log
  room_is = ap (λ (q : ThinSupply). room_left q.counted) at.supply

  abbrev q : Supply
  q = (supply_of b plan s).counted

  in_submap : grants_left p.submap p.pages q + length z.state.shared.chunks ≤ b.pages / p.pages
  in_submap = submap_fits b plan s valid at.fit turn.sound at.own_asks zone in_zones

  -- a chunk that may still be granted is one of those that are needed
  chunks_left : allocates step ≡ true → 0 < grants_left p.submap p.pages q → length z.state.shared.chunks < (needed_of b plan zone).chunks
  chunks_left is some =
      let pages = in_submap in
      let lines = allocation_here is in
      let done = sound.chunks in
      let framed = le-div (length z.state.shared.chunks) b.frames p.pages (params_fit b plan zone valid at.fit in_zones).shape.some_pages (omega (arith, sound.framed)) in
      le-min (le-min (omega arith) (omega arith)) (omega arith)

  frames_left : p.pages * mapped_count z.state.shared.chunks ≤ frames_out q
  frames_left =
      let one = sum_below-one (pages_held b plan s) (length plan.zones) zone in_zones in
      let all = turn.sound.frames in
      omega arith

  pub ready_here : IsReady p (parties c book m.supply) step
  ready_here =
      let fit = params_fit b plan zone valid at.fit in_zones in
      let number = here.number in
      let left = line_left in
      let carried = carried_here in
      record {
        on_zone = record {
          zone_there = subst (λ n. zone < n) (sym here.caches) in_zones;
          name = λ has. subst (λ n. name_of step < n) (sym here.names) (named_here has).0;
          tagged = λ has. subst (λ zone. IsTagged zone (binding_at c (name_of step))) (named_here has).1 (here.tags (name_of step) (named_here has).0);
        };
        steps = let most = here.most_steps zone in_zones in omega arith;
        one_of = omega arith;
        params = ap (λ (room : Room). room.params) there.room;
        cache = here.params zone in_zones;
        history = there.history;
        keeps = there.keeps;
        caught = there.caught cpu is_cpu;
        room = subst (λ n. carried_of n book.visits + (length (recent_at c zone) + 1) ≤ slice_index_or book.room.steps n 0) (sym number)
            (subst (λ n. carried_of cpu book.visits + (length (recent_at c zone) + 1) ≤ n) (sym (ap (λ (room : Room). slice_index_or room.steps cpu 0) there.room ∙ steps_here b plan zone cpu is_cpu)) (omega arith));
        gifts = λ is.
            let few = sound.gifts in
            let most = there.most_gifts in
            let left = gift_here is in
            subst (λ (l : List Gift). length l < book.zone.most_gifts) (sym gifts_are) (omega arith);
        reads = subst ReadsFew step_is (reads_few b plan (line_to_play b s cpu).act within.read);
        submap = fit.submap;
        some_pages = fit.shape.some_pages;
        few_pages = fit.shape.most_pages;
        entries = λ is.
            let entries = sound.entries in
            let left = allocation_here is in
            let room = entries_room 1 (omega arith) in
            let log = room_is in omega arith;
        chunks = λ is some.
            let room = chunks_left is (subst (λ (q : ThinSupply). 0 < grants_left p.submap p.pages q.counted) at.supply some) in
            subst (λ (l : List Chunk). length l < book.zone.most_chunks) (sym chunks_are) (subst (λ n. length z.state.shared.chunks < n) (sym there.most_chunks) room);
        framed = λ less.
            subst (λ (q : ThinSupply). HasMade p.pages q) (sym at.supply)
            (unmapped_made b plan s valid at.fit turn.sound at.own_asks zone in_zones (subst (λ (l : List Chunk). mapped_count l < length l) chunks_are less));
        placed = λ is left.
            let there = subst (λ (q : ThinSupply). p.pages ≤ pages_left q.counted.pages (left_of q.counted) p.submap) at.supply left in
            let some : 0 < grants_left p.submap p.pages q = le-div 1 (pages_left b.pages (stock_of b s.log) p.submap) p.pages fit.shape.some_pages (omega arith) in
            subst (λ (q : ThinSupply). HasMade p.pages q) (sym at.supply) (granted_made b plan s valid at.fit turn.sound at.own_asks zone in_zones (chunks_left is some) there);
        backs = λ trims.
            let out = le-div (mapped_count z.state.shared.chunks) (frames_out q) p.pages fit.shape.some_pages (omega (arith, frames_left)) in
            let room = backs_room in
            let enough : mapped_count z.state.shared.chunks ≤ backs_left p.pages q = omega arith in
            subst (λ (q : ThinSupply). count_by (λ (chunk : Chunk). chunk.mapped) book.zone.chunks ≤ backs_left p.pages q.counted) (sym at.supply)
            (subst (λ (l : List Chunk). count_by (λ (chunk : Chunk). chunk.mapped) l ≤ backs_left p.pages q) (sym chunks_are) (subst (λ n. n ≤ backs_left p.pages q) (mapped_same z.state.shared.chunks) enough));
      }
