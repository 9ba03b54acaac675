-- A machine that opens stands for the play that opens.
use Rattle.std.proofs.Common.{◌≡◌, ◌<◌, ℕ, zero, suc, List, [], ◌∷◌, length, map, min, replicate, slice_index_or, Option, None, Some, refl, ap, sym, ◌∙◌, subst, arith}
use Rattle.std.specs.List.{range_with_len}
use Rattle.std.proofs.lemmas.List.{get_or-map, length-map, length-replicate}
use Rattle.std.proofs.lemmas.List.Elements.{All-nil}
use Rattle.std.proofs.lemmas.List.FromFn.{get_or-map-range_with_len, length-map-range_with_len}
use Rattle.kz_model.specs.declared.bundle.Bundle.{Bundle}
use Rattle.kz_model.specs.declared.bundle.TraceStep.{TraceStep}
use Rattle.kz_model.specs.declared.record.Plan.{Plan}
use Rattle.kz_model.specs.declared.record.Room.{Room}
use Rattle.kz_model.specs.declared.record.ZoneParams.{ZoneParams}
use Rattle.kz_model.specs.declared.step.Reply.{Reply}
use Rattle.kz_model.specs.declared.step.Step.{Step}
use Rattle.kz_model.specs.declared.supply.Answer.{Answer}
use Rattle.kz_model.specs.declared.supply.SupplyEntry.{SupplyEntry}
use Rattle.kz_laws.specs.Addresses.{IsForZone}
use Rattle.kz_model.specs.Zone.Alone.{Course, alone}
use Rattle.kz_model.specs.Run.Journal.{params_of, zone_of_name, trace_of}
use Rattle.kz_model.specs.Zone.Late.{NeedNone, part_after, IsDelayed}
use Rattle.kz_model.specs.Types.Planned.{IsPlanned, IsFitPlan}
use Rattle.kz_laws.specs.Play.{ZonePlay, opening_zone_play, zone_play, no_play, opening_play}
use Rattle.kz_model.specs.Zone.State.{CpuPart, ZoneState, no_cpu_part, cpu_part, opening}
use Rattle.kz_laws.proofs.OrderRuns.{zeros}
use Rattle.kz_book.specs.Book.{Book, History}
use Rattle.kz_book.specs.Visits.{own_in}
use Rattle.kz_cpu.specs.declared.binding.Binding.{Binding}
use Rattle.kz_cpu.specs.Cpu.{Cpu, Cache, Has, IsTagged, no_cache, cache_at, recent_at, bound_in, opened_cache, opened_cpu}
use Rattle.kz_cpu.specs.Caught.{IsCaughtUpWith}
use Rattle.kz_model.specs.Store.Replies.{RepliesSoFar}
use Rattle.kz_machine.specs.RecordRoom.{no_replies, HasRecordRoom}
use Rattle.kz_machine.specs.Lookups.{no_cpu, no_room, cpu_at, book_at}
use Rattle.kz_machine.specs.Machine.{Machine, replies_at}
use Rattle.kz_machine.specs.Needs.{needed_of, needed_rooms, allocations_of, most_entries, frames_needed}
use Rattle.kz_machine.specs.Opening.{IsOpened, AreOpened}
use Rattle.kz_machine.specs.Stands.{IsCpuAt, IsZoneAt, StandsForPlay}
use Rattle.kz_machine.proofs.Fit.{room_here, rooms_long, steps_here}
use Rattle.kz_bundle.proofs.Zoned.{planned_is_valid}

-- ---- a CPU

no_binding : (names name : ℕ) → slice_index_or {A = Option Binding} (replicate names None) name None ≡ None
no_binding zero name = refl
no_binding (suc names) zero = refl
no_binding (suc names) (suc name) = no_binding names name

no_own : (cpus cpu : ℕ) → slice_index_or (replicate cpus no_cpu_part) cpu no_cpu_part ≡ no_cpu_part
no_own zero cpu = refl
no_own (suc cpus) zero = refl
no_own (suc cpus) (suc cpu) = no_own cpus cpu

module _ (b : Bundle) (plan : Plan) where
  abbrev opened : ℕ → Cpu
  opened cpu = opened_cpu cpu (needed_rooms b plan) (length b.names)

  abbrev all_opened : List Cpu
  all_opened = map opened (range_with_len 0 b.cpus)

  cpu_is : (cpu : ℕ) → cpu < b.cpus → cpu_at all_opened cpu ≡ opened cpu
  cpu_is cpu lt = get_or-map-range_with_len opened 0 b.cpus cpu cpu no_cpu lt (omega arith)

  cache_is : (cpu zone : ℕ) → zone < length plan.zones → cache_at (opened cpu) zone ≡ opened_cache cpu (needed_of b plan zone)
  cache_is cpu zone lt =
      get_or-map (opened_cache cpu) (needed_rooms b plan) zone no_room no_cache (subst (λ n. zone < n) (sym (rooms_long b plan)) lt)
      ∙ ap (opened_cache cpu) (room_here b plan zone no_room lt)

  opened_at : (cpu : ℕ) → cpu < b.cpus → IsCpuAt b plan cpu (opened cpu)
  opened_at cpu lt =
      record {
        number = refl;
        caches = length-map (needed_rooms b plan) (opened_cache cpu) ∙ rooms_long b plan;
        names = length-replicate {A = Option Binding} (length b.names) None;
        params = λ zone there. ap (λ (c : Cache). c.params) (cache_is cpu zone there);
        most_steps = λ zone there. ap (λ (c : Cache). c.most_steps) (cache_is cpu zone there) ∙ steps_here b plan zone cpu lt;
        tags = λ name there. subst (λ (o : Option Binding). IsTagged (zone_of_name b plan name) o) (sym (no_binding (length b.names) name)) tt;
      }

  -- ---- a zone

  -- what the zone alone makes of nothing
  abbrev nothing_made : ZoneParams → Course
  nothing_made p = record { replies = []; asks = []; before = []; end = opening p; left = [] }

  nothing_is : (p : ZoneParams) (j : History) → j.steps ≡ [] → j.answers ≡ [] → alone p j.steps j.answers ≡ Some j.made → j.made ≡ nothing_made p
  nothing_is p j steps answers is =
      same_some j.made (nothing_made p)
      (sym is ∙ ap (λ (steps : List (ℕ × Step)). alone p steps j.answers) steps ∙ ap (λ (answers : List Answer). alone p [] answers) answers)
    where
      same_some : (c d : Course) → Some c ≡ Some d → c ≡ d
      same_some c d e = cc

  module _ (zone : ℕ) (book : Book) (there : zone < length plan.zones) (is : IsOpened (needed_of b plan zone) book) where
    abbrev p : ZoneParams
    p = params_of b plan zone

    abbrev j : History
    j = is.history

    end_is : j.made.end ≡ opening p
    end_is =
        ap (λ (c : Course). c.end)
        (nothing_is p j is.steps is.answers (subst (λ (room : Room). alone room.params j.steps j.answers ≡ Some j.made) is.room is.keeps.alone))

    none_recent : (cpu : ℕ) → cpu < b.cpus → recent_at (cpu_at all_opened cpu) zone ≡ []
    none_recent cpu lt = ap (λ (c : Cpu). recent_at c zone) (cpu_is cpu lt) ∙ ap (λ (c : Cache). c.recent) (cache_is cpu zone there)

    own_is : (cpu : ℕ) → cpu_part j.made.end cpu ≡ no_cpu_part
    own_is cpu = ap (λ (state : ZoneState). cpu_part state cpu) end_is ∙ no_own b.cpus cpu

    delayed : IsDelayed p (opening p) j.made.end (λ cpu. recent_at (cpu_at all_opened cpu) zone)
    delayed =
        record {
          shared = ap (λ (state : ZoneState). state.shared) (sym end_is);
          cpus = ap (λ (state : ZoneState). length state.own) (sym end_is);
          own = λ cpu lt.
              no_own b.cpus cpu
              ∙ sym (own_is cpu)
              ∙ ap (λ (steps : List Step). part_after p (cpu_part j.made.end cpu) steps) (sym (none_recent cpu (within cpu lt)));
          none = λ cpu lt. subst (λ (steps : List Step). NeedNone p (cpu_part j.made.end cpu) steps) (sym (none_recent cpu (within cpu lt))) tt;
        }
      where
        within : (cpu : ℕ) → cpu < length j.made.end.own → cpu < b.cpus
        within cpu lt = subst (λ n. cpu < n) (ap (λ (state : ZoneState). length state.own) end_is ∙ length-replicate b.cpus no_cpu_part) lt

    caught_opened : (cpu : ℕ) → IsCaughtUpWith (opened cpu) zone j
    caught_opened cpu =
        let cache = cache_is cpu zone there in
        let recent : recent_at (opened cpu) zone ≡ [] = ap (λ (c : Cache). c.recent) cache in
        let q = (cache_at (opened cpu) zone).params in
        let now : own_in q j cpu (recent_at (opened cpu) zone) ≡ no_cpu_part = ap (λ (steps : List Step). part_after q (cpu_part j.made.end cpu) steps) recent ∙ own_is cpu in
        record {
          none = subst (λ (steps : List Step). NeedNone q (cpu_part j.made.end cpu) steps) (sym recent) tt;
          has = subst (λ (own : CpuPart). Has (opened cpu) zone own) (sym now) (record {
            stack = ap (λ (c : Cache). c.pair.blocks) cache;
            names = λ name lt. ap (bound_in zone) (no_binding (length b.names) name);
          });
        }

    zone_opens : IsZoneAt b plan all_opened [] zone book (opening_zone_play p)
    zone_opens =
        record {
          room = is.room;
          most_chunks = is.most_chunks;
          most_gifts = is.most_gifts;
          visits = is.visits;
          history = j;
          keeps = is.keeps;
          answers = is.answers;
          delayed = delayed;
          caught = λ cpu lt. subst (λ (c : Cpu). IsCaughtUpWith c zone j) (sym (cpu_is cpu lt)) (caught_opened cpu);
          late = λ cpu lt. zeros b.cpus cpu ∙ sym (ap (λ (steps : List Step). length steps) (none_recent cpu lt));
        }

  -- ---- the replies

  none_said : (traces : List (List TraceStep)) → map (λ (r : RepliesSoFar). r.items) (map (λ (trace : List TraceStep). record { room = length trace; items = [] }) traces) ≡ replicate (length traces) []
  none_said [] = refl
  none_said (trace ∷ traces) = ap (λ (l : List (List Reply)). [] ∷ l) (none_said traces)

  pub opens_at : (m : Machine) → IsPlanned b plan → IsFitPlan b plan → m.cpus ≡ all_opened → AreOpened (needed_rooms b plan) m.books → m.rooms ≡ needed_rooms b plan →
      m.supply ≡ record { counted = record { frames = b.frames; pages = b.pages; room = most_entries (allocations_of b plan); log = [] }; made = min b.frames (frames_needed b.pages (needed_rooms b plan)) } →
      m.replies ≡ map (λ trace. record { room = length trace; items = [] }) b.traces → m.round ≡ 0 → HasRecordRoom (needed_rooms b plan) b.cpus m.record_room →
      StandsForPlay b plan m (opening_play b plan)
  opens_at m planned fit cpus books rooms supply replies round record_room =
      let traces = (planned_is_valid planned).traces in
      let said : List TraceStep → RepliesSoFar = λ trace. record { room = length trace; items = [] } in
      record {
        planned = planned;
        fit = fit;
        round = round;
        replies = ap (λ (l : List RepliesSoFar). map (λ r. r.items) l) replies ∙ none_said b.traces ∙ ap (λ n. replicate n []) traces;
        places = λ cpu lt.
            let here : replies_at m.replies cpu ≡ said (trace_of b cpu) =
            ap (λ (l : List RepliesSoFar). replies_at l cpu) replies ∙ get_or-map said b.traces cpu [] no_replies (subst (λ n. cpu < n) (sym traces) lt) in
            let same = ap (λ (r : RepliesSoFar). r.room) here in omega arith;
        supply = supply;
        own_asks = All-nil (λ (entry : SupplyEntry). IsForZone (params_of b plan entry.zone) entry.ask);
        rooms = rooms;
        cpus_long = ap (λ (l : List Cpu). length l) cpus ∙ length-map-range_with_len opened 0 b.cpus;
        books_long = books.long ∙ rooms_long b plan;
        cpus = λ cpu lt. subst (λ (c : Cpu). IsCpuAt b plan cpu c) (sym (ap (λ (l : List Cpu). cpu_at l cpu) cpus ∙ cpu_is cpu lt)) (opened_at cpu lt);
        zones = λ zone there.
            let is : zone_play (opening_play b plan) zone ≡ opening_zone_play (params_of b plan zone) =
            get_or-map-range_with_len (λ zone. opening_zone_play (params_of b plan zone)) 0 (length plan.zones) zone zone no_play there (omega arith) in
            let one = subst (λ (room : Room). IsOpened room (book_at m.books zone)) (room_here b plan zone no_room there) (books.each zone (subst (λ n. zone < n) (sym (rooms_long b plan)) there)) in
            subst (λ (z : ZonePlay). IsZoneAt b plan m.cpus [] zone (book_at m.books zone) z) (sym is)
            (subst (λ (l : List Cpu). IsZoneAt b plan l [] zone (book_at m.books zone) (opening_zone_play (params_of b plan zone))) (sym cpus) (zone_opens zone (book_at m.books zone) there one));
        record_room = record_room;
      }
