-- After a CPU's next line the machine stands for the play with that line.
use Rattle.std.proofs.Common.{◌≡◌, ◌≢◌, ◌<◌, ◌≤◌, ◌+◌, ℕ, Bool, true, false, if◌then◌else◌, List, [], ◌∷◌, ◌++◌, length, min, map, slice_index, slice_index_or, slice_set, refl, ap, sym, ◌∙◌, subst, arith, length-append}
use Rattle.std.proofs.lemmas.List.{append-nil, get_or-set_same, get_or-set_other, get_or-map, length-map, length-set, map-set, set-set}
use Rattle.std.proofs.lemmas.List.Elements.{All-append}
use Rattle.kz_model.specs.declared.bundle.Bundle.{Bundle}
use Rattle.kz_model.specs.declared.record.Plan.{Plan}
use Rattle.kz_model.specs.declared.record.Room.{Room}
use Rattle.kz_model.specs.declared.record.Visit.{Visit}
use Rattle.kz_model.specs.declared.record.ZoneParams.{ZoneParams}
use Rattle.kz_model.specs.declared.step.Reply.{Reply}
use Rattle.kz_model.specs.declared.step.Step.{Step}
use Rattle.kz_model.specs.declared.supply.Answer.{Answer}
use Rattle.kz_model.specs.declared.supply.Ask.{Ask}
use Rattle.kz_model.specs.declared.supply.SupplyEntry.{SupplyEntry}
use Rattle.kz_laws.specs.Addresses.{IsForZone}
use Rattle.kz_model.specs.Run.Journal.{params_of, trace_of, answers_at}
use Rattle.kz_model.specs.Zone.Late.{IsDelayed}
use Rattle.kz_model.specs.Zone.Local.{local_answer, with_cpu_part, as_effect}
use Rattle.kz_model.specs.Run.Order.{answered}
use Rattle.kz_laws.specs.Play.{ZonePlay, Play, no_play, zone_play, replies_so_far, zone_after, asked, effect_there, play_after_step}
use Rattle.kz_model.specs.Zone.Rules.{Effect, Part, needs_visit, asks_of, effect_of}
use Rattle.kz_model.specs.Zone.State.{Shared, CpuPart, ZoneState, cpu_part}
use Rattle.kz_model.proofs.Delays.{no_asks, effect_is_local}
use Rattle.kz_laws.proofs.OrderLines.{answers_at-append, entries_elsewhere, new_answers}
use Rattle.kz_laws.proofs.Stocks.{log_here}
use Rattle.kz_laws.proofs.Undelayed.{IsLateNow, mine_or_other, one_more_late, caught_up, both_step}
use Rattle.kz_supply.specs.Exchange.{Exchange, ask_of, answer_of, entries_of}
use Rattle.kz_supply.specs.Thin.{ThinSupply, thin_with_exchanges}
use Rattle.kz_book.specs.Book.{Book, History}
use Rattle.kz_book.specs.Visits.{own_in, visit_of}
use Rattle.kz_cpu.specs.Cpu.{Cpu, recent_at}
use Rattle.kz_cpu.specs.Caught.{IsCaughtUpWith}
use Rattle.kz_model.specs.Store.Replies.{RepliesSoFar}
use Rattle.kz_machine.specs.RecordRoom.{no_replies}
use Rattle.kz_machine.specs.Needs.{needed_rooms, allocations_of, most_entries, frames_needed}
use Rattle.kz_machine.specs.Lookups.{no_cpu, no_book, cpu_at, book_at}
use Rattle.kz_machine.specs.Machine.{Machine, replies_at}
use Rattle.kz_machine.specs.Stands.{IsCpuAt, IsZoneAt, StandsForPlay, IsTurn}
use Rattle.kz_machine.specs.Steps.{Parties, parties, IsStepDone, own_here, needs_here, effect_here, end_with}
use Rattle.kz_machine.proofs.Elsewhere.{cpu_keeps, caught_alike, set_elsewhere, zone_elsewhere}
use Rattle.kz_machine.proofs.OwnAsks.{step_entries_own}
use Rattle.kz_machine.proofs.Ready.{is_cpu, in_zones, zone_of_name_is}

-- the answers of a zone's entries
entries_answers : (zone : ℕ) (exchanges : List Exchange) → map (λ (entry : SupplyEntry). entry.answer) (entries_of zone exchanges) ≡ map answer_of exchanges
entries_answers zone [] = refl
entries_answers zone (e ∷ es) = ap (λ l. e.1 ∷ l) (entries_answers zone es)

module _ (b : Bundle) (plan : Plan) (m : Machine) (s : Play) (cpu zone : ℕ) (step : Step) (at : StandsForPlay b plan m s) (turn : IsTurn b plan s cpu zone step)
    (d : Cpu) (shelf : Book) (supply : ThinSupply) (told : RepliesSoFar) (reply : Reply) (next : History) (exchanges : List Exchange)
    (does : let in-zones = in_zones b plan m s cpu zone step at turn in
    IsStepDone (params_of b plan zone) m.round (parties (cpu_at m.cpus cpu) (book_at m.books zone) m.supply) (parties d shelf supply) step reply (at.zones zone in-zones).history next exchanges)
    (items : told.items ≡ (replies_at m.replies cpu).items ++ reply ∷ []) (room : (replies_at m.replies cpu).room ≤ told.room) where
  abbrev p : ZoneParams
  p = params_of b plan zone

  abbrev c : Cpu
  c = cpu_at m.cpus cpu

  abbrev book : Book
  book = book_at m.books zone

  abbrev old : Parties
  old = parties c book m.supply

  abbrev z : ZonePlay
  z = zone_play s zone

  abbrev t : Play
  t = play_after_step b plan s cpu zone step

  lt : cpu < b.cpus
  lt = is_cpu b plan m s cpu zone step at turn

  abbrev there-in : zone < length plan.zones
  there-in = in_zones b plan m s cpu zone step at turn

  abbrev here : IsCpuAt b plan cpu c
  here = at.cpus cpu lt

  abbrev there : IsZoneAt b plan m.cpus s.log zone book z
  there = at.zones zone there-in

  abbrev j : History
  j = there.history

  abbrev own : CpuPart
  own = cpu_part z.state cpu

  abbrev needs : Bool
  needs = needs_visit p own step

  abbrev asks : List Ask
  asks = asks_of p z.state.shared cpu own step

  abbrev effect : Effect
  effect = effect_there b plan s cpu zone step

  abbrev recent : List Step
  recent = recent_at c zone

  -- ---- the same step, as the book and as the play has it

  cpus_alone : length j.made.end.own ≡ b.cpus
  cpus_alone = subst (λ (room : Room). length j.made.end.own ≡ room.params.cpus) there.room there.keeps.whole.cpus

  within : cpu < length j.made.end.own
  within = subst (λ n. cpu < n) (sym cpus_alone) lt

  own_is : own_here p old j ≡ own
  own_is = ap (λ n. own_in p j n recent) here.number ∙ sym (there.delayed.own cpu within)

  needs_is : needs_here p old j step ≡ needs
  needs_is = ap (λ (own : CpuPart). needs_visit p own step) own_is

  asks_are : map ask_of exchanges ≡ asks
  asks_are =
      does.asks
      ∙ ap (λ n. asks_of p j.made.end.shared n (own_here p old j) step) here.number
      ∙ ap (λ (s : Shared). asks_of p s cpu (own_here p old j) step) (sym there.delayed.shared)
      ∙ ap (λ (own : CpuPart). asks_of p z.state.shared cpu own step) own_is

  entries_are : entries_of zone exchanges ≡ asked b plan s cpu zone step
  entries_are =
      does.answered_by b (ap (λ (s : ThinSupply). s.counted.frames) at.supply) (ap (λ (s : ThinSupply). s.counted.pages) at.supply)
      ∙ ap (λ (log : List SupplyEntry). answered b zone log (map ask_of exchanges)) (ap (λ (s : ThinSupply). s.counted.log) at.supply)
      ∙ ap (λ (asks : List Ask). answered b zone s.log asks) asks_are

  answers_are : map (λ (entry : SupplyEntry). entry.answer) (asked b plan s cpu zone step) ≡ map answer_of exchanges
  answers_are = ap (λ (log : List SupplyEntry). map (λ (entry : SupplyEntry). entry.answer) log) (sym entries_are) ∙ entries_answers zone exchanges

  effect_is : effect_here p old j step exchanges ≡ effect
  effect_is =
      ap (λ n. effect_of p j.made.end.shared n (own_here p old j) step (map answer_of exchanges)) here.number
      ∙ ap (λ (s : Shared). effect_of p s cpu (own_here p old j) step (map answer_of exchanges)) (sym there.delayed.shared)
      ∙ ap (λ (own : CpuPart). effect_of p z.state.shared cpu own step (map answer_of exchanges)) own_is
      ∙ ap (λ (answers : List Answer). effect_of p z.state.shared cpu own step answers) (sym answers_are)

  pub reply_is : reply ≡ effect.reply
  reply_is = does.is_reply ∙ ap (λ (e : Effect). e.reply) effect_is

  -- ---- the log

  log_is : t.log ≡ s.log ++ entries_of zone exchanges
  log_is = ap (λ (log : List SupplyEntry). s.log ++ log) (sym entries_are)

  answers_there : answers_at zone t.log ≡ answers_at zone s.log ++ map answer_of exchanges
  answers_there =
      let new = new_answers b s.log asks in
      answers_at-append zone s.log (asked b plan s cpu zone step)
      ∙ ap (λ (log : List SupplyEntry). answers_at zone s.log ++ map (λ (entry : SupplyEntry). entry.answer) log) (log_here zone asks new)
      ∙ ap (λ (answers : List Answer). answers_at zone s.log ++ answers) answers_are

  answers_away : (other : ℕ) → other ≢ zone → answers_at other t.log ≡ answers_at other s.log
  answers_away other ne =
      answers_at-append other s.log (asked b plan s cpu zone step)
      ∙ ap (λ (answers : List Answer). answers_at other s.log ++ answers) (entries_elsewhere zone other asks (new_answers b s.log asks) ne)
      ∙ append-nil (answers_at other s.log)

  -- ---- the CPUs

  abbrev now : List Cpu
  now = slice_set m.cpus cpu d

  there-cpu : cpu < length m.cpus
  there-cpu = subst (λ n. cpu < n) (sym at.cpus_long) lt

  now_mine : cpu_at now cpu ≡ d
  now_mine = get_or-set_same m.cpus cpu d no_cpu there-cpu

  now_other : (k : ℕ) → k ≢ cpu → cpu_at now k ≡ cpu_at m.cpus k
  now_other k ne = get_or-set_other m.cpus cpu k d no_cpu ne

  cpus_now : (k : ℕ) → k < b.cpus → IsCpuAt b plan k (cpu_at now k)
  cpus_now k in' =
      mine_or_other (λ k. k < b.cpus → IsCpuAt b plan k (cpu_at now k)) cpu k
      (λ in'. subst (λ (d : Cpu). IsCpuAt b plan cpu d) (sym now_mine) (cpu_keeps b plan cpu zone step c d here does.elsewhere (zone_of_name_is b plan m s cpu zone step at turn)))
      (λ ne in'. subst (λ (d : Cpu). IsCpuAt b plan k d) (sym (now_other k ne)) (at.cpus k in')) in'

  -- ---- the step's zone

  abbrev after : ZonePlay
  after = zone_after s.round cpu z needs effect

  late_is : slice_index z.late cpu ≡ length recent
  late_is = there.late cpu lt

  recent_mine : recent_at (cpu_at now cpu) zone ≡ (if needs then [] else recent ++ step ∷ [])
  recent_mine = ap (λ (d : Cpu). recent_at d zone) now_mine ∙ does.recent ∙ ap (λ t. if t then [] else recent ++ step ∷ []) needs_is

  late_now : IsLateNow cpu (if needs then [] else recent ++ step ∷ []) (λ k. recent_at (cpu_at m.cpus k) zone) (λ k. recent_at (cpu_at now k) zone)
  late_now = record { mine = recent_mine; others = λ other ne. ap (λ (d : Cpu). recent_at d zone) (now_other other ne) }

  end_is : next.made.end ≡ (if needs then record { shared = effect.shared; own = slice_set j.made.end.own cpu effect.own } else j.made.end)
  end_is =
      does.end
      ∙ ap (λ t. if t then end_with old j (effect_here p old j step exchanges) else j.made.end) needs_is
      ∙ ap (λ n. if needs then (let st : ZoneState = record { shared = (effect_here p old j step exchanges).shared; own = slice_set j.made.end.own n (effect_here p old j step exchanges).own } in st) else j.made.end) here.number
      ∙ ap (λ (e : Effect). if needs then (let st : ZoneState = record { shared = e.shared; own = slice_set j.made.end.own cpu e.own } in st) else j.made.end) effect_is

  visits_are : shelf.visits ≡ after.visits
  visits_are =
      does.visits
      ∙ ap (λ t. if t then book.visits ++ visit_of m.round c.cpu recent ∷ [] else book.visits) needs_is
      ∙ ap (λ (visits : List Visit). if needs then visits ++ visit_of m.round c.cpu recent ∷ [] else visits) there.visits
      ∙ ap (λ n. if needs then z.visits ++ visit_of n c.cpu recent ∷ [] else z.visits) at.round
      ∙ ap (λ n. if needs then z.visits ++ visit_of s.round n recent ∷ [] else z.visits) here.number
      ∙ ap (λ n. if needs then z.visits ++ (let v : Visit = record { round = s.round; cpu = cpu; count = n + 1; settled = false } in v) ∷ [] else z.visits) (sym late_is)

  -- each other CPU has what it had
  owns_same : (k : ℕ) → k ≢ cpu → cpu_part next.made.end k ≡ cpu_part j.made.end k
  owns_same k ne = ap (λ (state : ZoneState). cpu_part state k) end_is ∙ by_needs needs
    where
      by_needs : (needs : Bool) → cpu_part (if needs then record { shared = effect.shared; own = slice_set j.made.end.own cpu effect.own } else j.made.end) k ≡ cpu_part j.made.end k
      by_needs true = get_or-set_other j.made.end.own cpu k effect.own _ ne
      by_needs false = refl

  delayed_now : IsDelayed p after.state next.made.end (λ k. recent_at (cpu_at now k) zone)
  delayed_now = subst (λ (state : ZoneState). IsDelayed p after.state state (λ k. recent_at (cpu_at now k) zone)) (sym end_is) (by_needs needs refl late_now)
    where
      effect_late : needs ≡ false → effect ≡ as_effect z.state.shared (local_answer p own step)
      effect_late none =
          ap (λ (asks : List Ask). effect_of p z.state.shared cpu own step (map (λ (entry : SupplyEntry). entry.answer) (answered b zone s.log asks))) (no_asks p z.state.shared cpu own step none)
          ∙ effect_is_local p z.state.shared cpu own step none

      by_needs : (t : Bool) → needs ≡ t → IsLateNow cpu (if t then [] else recent ++ step ∷ []) (λ k. recent_at (cpu_at m.cpus k) zone) (λ k. recent_at (cpu_at now k) zone) →
          IsDelayed p (record { shared = effect.shared; own = slice_set z.state.own cpu effect.own }) (if t then record { shared = effect.shared; own = slice_set j.made.end.own cpu effect.own } else j.made.end) (λ k. recent_at (cpu_at now k) zone)
      by_needs true is new =
          let mid = with_cpu_part j.made.end cpu own in
          let part : Part = record { effect = effect; asks = []; left = [] } in
          let long : cpu < length mid.own = subst (λ n. cpu < n) (sym (length-set j.made.end.own cpu own)) within in
          subst (λ (owns : List CpuPart). IsDelayed p (record { shared = effect.shared; own = slice_set z.state.own cpu effect.own }) (record { shared = effect.shared; own = owns }) (λ k. recent_at (cpu_at now k) zone))
          (set-set j.made.end.own cpu own effect.own)
          (both_step p z.state mid (λ k. recent_at (cpu_at now k) zone) cpu part long
          (caught_up p z.state j.made.end (λ k. recent_at (cpu_at m.cpus k) zone) (λ k. recent_at (cpu_at now k) zone) cpu within there.delayed new) new.mine)
      by_needs false none new =
          subst (λ (e : Effect). IsDelayed p (record { shared = e.shared; own = slice_set z.state.own cpu e.own }) j.made.end (λ k. recent_at (cpu_at now k) zone)) (sym (effect_late none))
          (one_more_late p z.state j.made.end (λ k. recent_at (cpu_at m.cpus k) zone) (λ k. recent_at (cpu_at now k) zone) cpu step within there.delayed none new)

  caught_now : (k : ℕ) → k < b.cpus → IsCaughtUpWith (cpu_at now k) zone next
  caught_now k in' =
      mine_or_other (λ k. k < b.cpus → IsCaughtUpWith (cpu_at now k) zone next) cpu k
      (λ in'. subst (λ (d : Cpu). IsCaughtUpWith d zone next) (sym now_mine) does.caught)
      (λ ne in'.
      let number = (at.cpus k in').number in
      let same : cpu_part next.made.end (cpu_at m.cpus k).cpu ≡ cpu_part j.made.end (cpu_at m.cpus k).cpu = ap (cpu_part next.made.end) number ∙ owns_same k ne ∙ sym (ap (cpu_part j.made.end) number) in
      subst (λ (d : Cpu). IsCaughtUpWith d zone next) (sym (now_other k ne)) (caught_alike (cpu_at m.cpus k) zone j next same (there.caught k in'))) in'

  late_after : (k : ℕ) → k < b.cpus → slice_index after.late k ≡ length (recent_at (cpu_at now k) zone)
  late_after k in' =
      mine_or_other (λ k. k < b.cpus → slice_index after.late k ≡ length (recent_at (cpu_at now k) zone)) cpu k
      (λ in'. get_or-set_same z.late cpu (if needs then 0 else slice_index z.late cpu + 1) 0 (subst (λ n. cpu < n) (sym (turn.sound.each zone there-in).cpus) lt)
      ∙ ap (λ n. if needs then 0 else n + 1) late_is ∙ by_needs needs ∙ sym (ap (λ (steps : List Step). length steps) recent_mine))
      (λ ne in'. get_or-set_other z.late cpu k (if needs then 0 else slice_index z.late cpu + 1) 0 ne ∙ there.late k in' ∙ sym (ap (λ (d : Cpu). length (recent_at d zone)) (now_other k ne))) in'
    where
      by_needs : (t : Bool) → (if t then 0 else length recent + 1) ≡ length (if t then [] else recent ++ step ∷ [])
      by_needs true = refl
      by_needs false = sym (length-append recent (step ∷ []))

  zone_now : IsZoneAt b plan now t.log zone shelf after
  zone_now =
      record {
        room = does.room ∙ there.room;
        most_chunks = does.most_chunks ∙ there.most_chunks;
        most_gifts = does.most_gifts ∙ there.most_gifts;
        visits = visits_are;
        history = next;
        keeps = does.keeps;
        answers = does.answers ∙ ap (λ (answers : List Answer). answers ++ map answer_of exchanges) there.answers ∙ sym answers_there;
        delayed = delayed_now;
        caught = caught_now;
        late = late_after;
      }

  zones_now : (other : ℕ) → other < length plan.zones → IsZoneAt b plan now t.log other (book_at (slice_set m.books zone shelf) other) (zone_play t other)
  zones_now other in' =
      mine_or_other (λ other. other < length plan.zones → IsZoneAt b plan now t.log other (book_at (slice_set m.books zone shelf) other) (zone_play t other)) zone other
      (λ in'. subst (λ (z : ZonePlay). IsZoneAt b plan now t.log zone (book_at (slice_set m.books zone shelf) zone) z) (sym (get_or-set_same s.zones zone after no_play (subst (λ n. zone < n) (sym turn.sound.zones) in')))
      (subst (λ (book : Book). IsZoneAt b plan now t.log zone book after) (sym (get_or-set_same m.books zone shelf no_book (subst (λ n. zone < n) (sym at.books_long) in'))) zone_now))
      (λ ne in'. subst (λ (z : ZonePlay). IsZoneAt b plan now t.log other (book_at (slice_set m.books zone shelf) other) z) (sym (get_or-set_other s.zones zone other after no_play ne))
      (subst (λ (book : Book). IsZoneAt b plan now t.log other book (zone_play s other)) (sym (get_or-set_other m.books zone other shelf no_book ne))
      (zone_elsewhere b plan m.cpus now s.log t.log zone other step (book_at m.books other) (zone_play s other) ne (answers_away other ne) (set_elsewhere m.cpus cpu zone step d there-cpu does.elsewhere) (at.zones other in')))) in'

  -- ---- the replies

  abbrev replies : List RepliesSoFar
  replies = slice_set m.replies cpu told

  there-told : cpu < length m.replies
  there-told = subst (λ n. cpu < n) (sym (sym (length-map m.replies (λ (r : RepliesSoFar). r.items)) ∙ ap (λ (l : List (List Reply)). length l) at.replies ∙ turn.sound.cpus)) lt

  replies_mine : (replies_at m.replies cpu).items ≡ replies_so_far s cpu
  replies_mine = sym (get_or-map (λ (r : RepliesSoFar). r.items) m.replies cpu no_replies [] there-told) ∙ ap (λ (l : List (List Reply)). slice_index_or l cpu []) at.replies

  replies_now : map (λ (r : RepliesSoFar). r.items) replies ≡ t.replies
  replies_now =
      map-set (λ (r : RepliesSoFar). r.items) m.replies cpu told
      ∙ ap (λ (l : List (List Reply)). slice_set l cpu told.items) at.replies
      ∙ ap (λ (l : List Reply). slice_set s.replies cpu l) (items ∙ ap (λ (l : List Reply). l ++ reply ∷ []) replies_mine ∙ ap (λ (r : Reply). replies_so_far s cpu ++ r ∷ []) reply_is)

  places_now : (k : ℕ) → k < b.cpus → length (trace_of b k) ≤ (replies_at replies k).room
  places_now k in' =
      mine_or_other (λ k. k < b.cpus → length (trace_of b k) ≤ (replies_at replies k).room) cpu k
      (λ in'. let is : (replies_at replies cpu).room ≡ told.room = ap (λ (r : RepliesSoFar). r.room) (get_or-set_same m.replies cpu told no_replies there-told) in let was = at.places cpu in' in omega arith)
      (λ ne in'. let is : (replies_at replies k).room ≡ (replies_at m.replies k).room = ap (λ (r : RepliesSoFar). r.room) (get_or-set_other m.replies cpu k told no_replies ne) in let was = at.places k in' in omega arith) in'

  -- ---- the machine

  pub step_keeps : StandsForPlay b plan (record m { cpus = now; books = slice_set m.books zone shelf; supply = supply; replies = replies }) t
  step_keeps =
      record {
        planned = at.planned;
        fit = at.fit;
        round = at.round;
        replies = replies_now;
        places = places_now;
        supply = does.supply
            ∙ ap (λ (s : ThinSupply). thin_with_exchanges zone exchanges s) at.supply
            ∙ ap (λ (log : List SupplyEntry). let s : ThinSupply = record { counted = record { frames = b.frames; pages = b.pages; room = most_entries (allocations_of b plan); log = log }; made = min b.frames (frames_needed b.pages (needed_rooms b plan)) } in s) (sym log_is);
        own_asks = All-append (λ (entry : SupplyEntry). IsForZone (params_of b plan entry.zone) entry.ask) s.log (asked b plan s cpu zone step) at.own_asks (step_entries_own (params_of b plan) zone z.state.shared cpu own step (new_answers b s.log asks));
        rooms = at.rooms;
        cpus_long = length-set m.cpus cpu d ∙ at.cpus_long;
        books_long = length-set m.books zone shelf ∙ at.books_long;
        cpus = cpus_now;
        zones = zones_now;
        record_room = at.record_room;
      }
