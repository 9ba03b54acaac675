-- CPUs settle on a zone, one after the other, and on each zone.
use Rattle.std.proofs.Common.{◌≡◌, ◌≢◌, ◌<◌, ◌≤◌, ◌+◌, ◌-◌, ℕ, ◌==◌, nat_lt, true, false, if◌then◌else◌, List, [], ◌∷◌, ◌++◌, length, drop, replicate, slice_index, slice_index_or, slice_set, Option, None, Some, refl, ap, sym, ◌∙◌, subst, arith, append_assoc}
use Rattle.std.specs.List.{filter_map, range_with_len, cons_option}
use Rattle.std.proofs.lemmas.List.{append-nil, drop_all, get_or_default, get_or-set_same, get_or-set_other, get_or_append_left, get_or-append_right, get_or-drop, length-replicate, length-set, set-get_or}
use Rattle.std.proofs.lemmas.List.Elements.{filter_map-append}
use Rattle.kz_model.specs.declared.bundle.Bundle.{Bundle}
use Rattle.kz_model.specs.declared.record.Plan.{Plan}
use Rattle.kz_model.specs.declared.record.Room.{Room}
use Rattle.kz_model.specs.declared.record.Visit.{Visit}
use Rattle.kz_model.specs.declared.record.ZoneParams.{ZoneParams}
use Rattle.kz_model.specs.declared.step.Step.{Step}
use Rattle.kz_model.specs.declared.step.Step.TheVariants.{Flush}
use Rattle.kz_model.specs.declared.supply.SupplyEntry.{SupplyEntry}
use Rattle.kz_model.specs.Run.Journal.{carried_of}
use Rattle.kz_model.specs.Run.Journal.{params_of}
use Rattle.kz_model.specs.Zone.Late.{part_after, IsDelayed}
use Rattle.kz_model.specs.Zone.Local.{with_cpu_part}
use Rattle.kz_laws.specs.Play.{ZonePlay, Play, zone_play, settling, zone_after_settling}
use Rattle.kz_laws.specs.PlayedAt.{IsPlaySound}
use Rattle.kz_model.specs.Run.Rooms.{lines_on}
use Rattle.kz_model.specs.Zone.State.{CpuPart, ZoneState, no_cpu_part, cpu_part}
use Rattle.kz_laws.proofs.OrderRuns.{zeros}
use Rattle.kz_laws.proofs.PlayedAt.{lines_within}
use Rattle.kz_model.proofs.TraceRounds.{range_push}
use Rattle.kz_laws.proofs.Undelayed.{mine_or_other, caught_up}
use Rattle.kz_book.specs.Book.{Book, History, KeepsHistory, HasRoom, params_of as book_params}
use Rattle.kz_book.specs.Visits.{Settles, own_in, settled_of}
use Rattle.kz_cpu.specs.Cpu.{Cpu, IsElsewhere, cache_at, recent_at}
use Rattle.kz_cpu.specs.Caught.{IsCaughtUpWith}
use Rattle.kz_machine.specs.Lookups.{no_cpu, no_book, cpu_at, book_at}
use Rattle.kz_machine.specs.Settling.{settled_below, AreSettledBelow, AreSettled}
use Rattle.kz_machine.specs.Stands.{IsCpuAt, IsZoneAt}
use Rattle.kz_machine.proofs.Elsewhere.{elsewhere_refl, elsewhere_trans, cpu_keeps, caught_alike, set_elsewhere, zone_elsewhere}
use Rattle.kz_machine.proofs.Fit.{steps_here}

-- ---- counts and visits, CPU by CPU

-- the counts when the CPUs below n have settled
late_below : (late : List ℕ) (n k : ℕ) → n ≤ length late → k < n → slice_index (replicate n 0 ++ drop n late) k ≡ 0
late_below late n k le lt = get_or_append_left (replicate n 0) (drop n late) 0 k (subst (λ m. k < m) (sym (length-replicate {A = ℕ} n 0)) lt) ∙ zeros n k

late_from : (late : List ℕ) (n k : ℕ) → n ≤ k → slice_index (replicate n 0 ++ drop n late) k ≡ slice_index late k
late_from late n k le =
    let sum : n + (k - n) ≡ k = omega arith in
    get_or-append_right (replicate n 0) (drop n late) n k 0 (length-replicate {A = ℕ} n 0) le ∙ get_or-drop n late (k - n) 0 ∙ ap (slice_index late) sum

-- one CPU more
settle_more : (round n : ℕ) (late : List ℕ) → filter_map (settling round late) (range_with_len 0 (n + 1)) ≡ filter_map (settling round late) (range_with_len 0 n) ++ cons_option (settling round late n) []
settle_more round n late =
    let at : 0 + n ≡ n = omega arith in
    ap (λ (l : List ℕ). filter_map (settling round late) l) (range_push 0 n)
    ∙ filter_map-append (settling round late) (range_with_len 0 n) ((0 + n) ∷ [])
    ∙ ap (λ k. filter_map (settling round late) (range_with_len 0 n) ++ cons_option (settling round late k) []) at

carried_of-append : (cpu : ℕ) (xs ys : List Visit) → carried_of cpu (xs ++ ys) ≡ carried_of cpu xs + carried_of cpu ys
carried_of-append cpu [] ys = omega arith
carried_of-append cpu (x ∷ xs) ys = omega (arith, carried_of-append cpu xs ys)

-- what a CPU settles is its own
settles_own : (round n cpu : ℕ) (late : List ℕ) → carried_of cpu (cons_option (settling round late n) []) ≡ (if n == cpu then slice_index late n else 0)
settles_own round n cpu late =
    let v : Visit = record { round = round; cpu = n; count = slice_index late n; settled = true } in
    elim (nat_lt 0 (slice_index late n)) as (λ t. nat_lt 0 (slice_index late n) ≡ t → carried_of cpu (cons_option (if t then Some v else None) []) ≡ (if n == cpu then slice_index late n else 0)) [
      | true ↦ λ e. plain (if n == cpu then slice_index late n else 0)
      | false ↦ λ e. let none : slice_index late n ≡ 0 = grind arith in elim (n == cpu) as (λ t. 0 ≡ (if t then slice_index late n else 0)) [ true ↦ sym none | false ↦ refl ]
    ] refl
  where
    plain : (n : ℕ) → n + 0 ≡ n
    plain n = omega arith

-- ---- one CPU's turn

-- A CPU may settle, if it has something to settle.
pub record MaySettle (zone : ℕ) (c : Cpu) (book : Book) : Type 0 where
  pub zone_there : zone < length c.caches
  pub one_of : c.cpu < (book_params book).cpus
  pub same_params : book_params book ≡ (cache_at c zone).params
  pub history : History
  pub keeps : KeepsHistory book history
  pub caught : IsCaughtUpWith c zone history
  pub room : HasRoom book c.cpu (length (recent_at c zone))

-- A CPU has settled, or had nothing to settle.
pub record HasTurned (p : ZoneParams) (zone n : ℕ) (c d : Cpu) (book shelf : Book) (visits : List Visit) (j next : History) : Type 0 where
  pub keeps : KeepsHistory shelf next
  pub caught : IsCaughtUpWith d zone next
  pub answers : next.answers ≡ j.answers
  pub end : next.made.end ≡ with_cpu_part j.made.end n (part_after p (cpu_part j.made.end n) (recent_at c zone))
  pub recent : recent_at d zone ≡ []
  pub is_visits : shelf.visits ≡ book.visits ++ visits
  pub is_shelf : shelf ≡ record book { visits = shelf.visits }
  pub elsewhere : IsElsewhere c d zone Flush

module _ (b : Bundle) (plan : Plan) (log : List SupplyEntry) (round zone : ℕ) (z : ZonePlay) (first : List Cpu) (n : ℕ) (cpus : List Cpu) (book : Book) (at : AreSettledBelow b plan log round zone z first n cpus book) (there : n < length cpus) (item : Cpu) where
  abbrev p : ZoneParams
  p = params_of b plan zone

  -- the CPU whose turn it is
  abbrev c : Cpu
  c = slice_index_or cpus n item

  abbrev here : IsZoneAt b plan cpus log zone book (settled_below round n z)
  here = at.here

  abbrev j : History
  j = here.history

  lt : n < b.cpus
  lt = subst (λ m. n < m) at.long there

  same : cpu_at cpus n ≡ c
  same = get_or_default cpus n no_cpu item there

  each_here : IsCpuAt b plan n c
  each_here = subst (λ (c : Cpu). IsCpuAt b plan n c) same (at.each n lt)

  caught_here : IsCaughtUpWith c zone j
  caught_here = subst (λ (c : Cpu). IsCaughtUpWith c zone j) same (here.caught n lt)

  recent_same : recent_at (cpu_at cpus n) zone ≡ recent_at c zone
  recent_same = ap (λ (c : Cpu). recent_at c zone) same

  few : n ≤ length z.late
  few = let long = at.late_long in let in' = lt in omega arith

  late_is : slice_index z.late n ≡ length (recent_at c zone)
  late_is = sym (late_from z.late n n (omega arith)) ∙ here.late n lt ∙ ap (λ (steps : List Step). length steps) recent_same

  number : c.cpu ≡ n
  number = each_here.number

  params_are : book_params book ≡ p
  params_are = ap (λ (room : Room). room.params) here.room

  pub may_settle : MaySettle zone c book
  may_settle =
      record {
        zone_there = subst (λ n. zone < n) (sym each_here.caches) at.in_zones;
        one_of = subst (λ (q : ZoneParams). c.cpu < q.cpus) (sym params_are) (subst (λ n. n < b.cpus) (sym number) lt);
        same_params = params_are ∙ sym (each_here.params zone at.in_zones);
        history = j;
        keeps = here.keeps;
        caught = caught_here;
        room = subst (λ k. carried_of k book.visits + length (recent_at c zone) ≤ slice_index book.room.steps k) (sym number)
            (subst (λ m. carried_of n book.visits + length (recent_at c zone) ≤ m) (sym (ap (λ (room : Room). slice_index room.steps n) here.room ∙ steps_here b plan zone n lt))
            (subst (λ (c : Cpu). carried_of n book.visits + length (recent_at c zone) ≤ lines_on b plan zone n) same (at.rooms n lt)));
      }

  -- it has nothing to settle
  turned_at_once : nat_lt 0 (length (recent_at c zone)) ≡ false → HasTurned p zone n c c book book (cons_option (settling round z.late n) []) j j
  turned_at_once none =
      let zero_long : length (recent_at c zone) ≡ 0 = grind arith in
      let empty : recent_at c zone ≡ [] = no_items (recent_at c zone) zero_long in
      record {
        keeps = here.keeps;
        caught = caught_here;
        answers = refl;
        end = sym (ap (λ (steps : List Step). with_cpu_part j.made.end n (part_after p (cpu_part j.made.end n) steps)) empty
            ∙ ap (λ (owns : List CpuPart). let st : ZoneState = record { shared = j.made.end.shared; own = owns } in st) (set-get_or j.made.end.own n no_cpu_part));
        recent = empty;
        is_visits = sym (ap (λ (o : Option Visit). book.visits ++ cons_option o []) (ap (λ t. if t then Some (record { round = round; cpu = n; count = slice_index z.late n; settled = true }) else None) (ap (nat_lt 0) late_is ∙ none)) ∙ append-nil book.visits);
        is_shelf = refl;
        elsewhere = elsewhere_refl c zone Flush;
      }
    where
      no_items : (steps : List Step) → length steps ≡ 0 → steps ≡ []
      no_items [] e = refl
      no_items (step ∷ steps) e = absurd (omega arith)

  -- it settles
  turned_by_settling : (d : Cpu) (shelf : Book) → nat_lt 0 (length (recent_at c zone)) ≡ true → shelf ≡ record book { visits = book.visits ++ settled_of round c.cpu (recent_at c zone) ∷ [] } →
      ((j : History) → KeepsHistory book j → IsCaughtUpWith c zone j → (after : History) × KeepsHistory shelf after × Settles (book_params book) c.cpu j after (recent_at c zone) × IsCaughtUpWith d zone after) →
      recent_at d zone ≡ [] → IsElsewhere c d zone Flush →
      (next : History) × HasTurned p zone n c d book shelf (cons_option (settling round z.late n) []) j next
  turned_by_settling d shelf some is settles recent elsewhere =
      let made = settles j here.keeps caught_here in
      let visits : shelf.visits ≡ book.visits ++ settled_of round c.cpu (recent_at c zone) ∷ [] = ap (λ (b : Book). b.visits) is in
      let settled : settling round z.late n ≡ Some (settled_of round c.cpu (recent_at c zone)) =
      ap (λ t. if t then Some (record { round = round; cpu = n; count = slice_index z.late n; settled = true }) else None) (ap (nat_lt 0) late_is ∙ some)
      ∙ ap (λ m. Some (let v : Visit = record { round = round; cpu = n; count = m; settled = true } in v)) late_is
      ∙ ap (λ k. Some (settled_of round k (recent_at c zone))) (sym number) in (
        made.0,
        record {
          keeps = made.1;
          caught = made.3;
          answers = made.2.answers;
          end = made.2.end
              ∙ ap (λ (q : ZoneParams). with_cpu_part j.made.end c.cpu (own_in q j c.cpu (recent_at c zone))) params_are
              ∙ ap (λ k. with_cpu_part j.made.end k (own_in p j k (recent_at c zone))) number;
          recent = recent;
          is_visits = visits ∙ sym (ap (λ (o : Option Visit). book.visits ++ cons_option o []) settled);
          is_shelf = is ∙ ap (λ (l : List Visit). let b : Book = record book { visits = l } in b) (sym visits);
          elsewhere = elsewhere;
        },
      )

  -- then one CPU more has settled
  module _ (d : Cpu) (shelf : Book) (next : History) (turned : HasTurned p zone n c d book shelf (cons_option (settling round z.late n) []) j next) where
    abbrev now : List Cpu
    now = slice_set cpus n d

    now_mine : cpu_at now n ≡ d
    now_mine = get_or-set_same cpus n d no_cpu there

    now_other : (k : ℕ) → k ≢ n → cpu_at now k ≡ cpu_at cpus k
    now_other k ne = get_or-set_other cpus n k d no_cpu ne

    recent_mine : recent_at (cpu_at now n) zone ≡ []
    recent_mine = ap (λ (d : Cpu). recent_at d zone) now_mine ∙ turned.recent

    recent_other : (k : ℕ) → k ≢ n → recent_at (cpu_at now k) zone ≡ recent_at (cpu_at cpus k) zone
    recent_other k ne = ap (λ (d : Cpu). recent_at d zone) (now_other k ne)

    each_now : (k : ℕ) → k < b.cpus → IsCpuAt b plan k (cpu_at now k)
    each_now k in' =
        mine_or_other (λ k. k < b.cpus → IsCpuAt b plan k (cpu_at now k)) n k
        (λ in'. subst (λ (d : Cpu). IsCpuAt b plan n d) (sym now_mine) (cpu_keeps b plan n zone Flush c d each_here turned.elsewhere (λ has. absurd (cc))))
        (λ ne in'. subst (λ (d : Cpu). IsCpuAt b plan k d) (sym (now_other k ne)) (at.each k in')) in'

    cpus_alone : length j.made.end.own ≡ b.cpus
    cpus_alone = subst (λ (room : Room). length j.made.end.own ≡ room.params.cpus) here.room here.keeps.whole.cpus

    within : n < length j.made.end.own
    within = subst (λ m. n < m) (sym cpus_alone) lt

    owns_same : (k : ℕ) → k ≢ n → cpu_part next.made.end k ≡ cpu_part j.made.end k
    owns_same k ne = ap (λ (state : ZoneState). cpu_part state k) turned.end ∙ get_or-set_other j.made.end.own n k (part_after p (cpu_part j.made.end n) (recent_at c zone)) no_cpu_part ne

    delayed_now : IsDelayed p z.state next.made.end (λ k. recent_at (cpu_at now k) zone)
    delayed_now =
        let own : cpu_part z.state n ≡ part_after p (cpu_part j.made.end n) (recent_at c zone) = here.delayed.own n within ∙ ap (λ (steps : List Step). part_after p (cpu_part j.made.end n) steps) recent_same in
        subst (λ (state : ZoneState). IsDelayed p z.state state (λ k. recent_at (cpu_at now k) zone)) (ap (λ (own : CpuPart). with_cpu_part j.made.end n own) own ∙ sym turned.end)
        (caught_up p z.state j.made.end (λ k. recent_at (cpu_at cpus k) zone) (λ k. recent_at (cpu_at now k) zone) n within here.delayed (record { mine = recent_mine; others = recent_other }))

    caught_now : (k : ℕ) → k < b.cpus → IsCaughtUpWith (cpu_at now k) zone next
    caught_now k in' =
        mine_or_other (λ k. k < b.cpus → IsCaughtUpWith (cpu_at now k) zone next) n k
        (λ in'. subst (λ (d : Cpu). IsCaughtUpWith d zone next) (sym now_mine) turned.caught)
        (λ ne in'.
        let is = (at.each k in').number in
        let own : cpu_part next.made.end (cpu_at cpus k).cpu ≡ cpu_part j.made.end (cpu_at cpus k).cpu = ap (cpu_part next.made.end) is ∙ owns_same k ne ∙ sym (ap (cpu_part j.made.end) is) in
        subst (λ (d : Cpu). IsCaughtUpWith d zone next) (sym (now_other k ne)) (caught_alike (cpu_at cpus k) zone j next own (here.caught k in'))) in'

    more : n + 1 ≤ length z.late
    more = let long = at.late_long in let in' = lt in omega arith

    late_now : (k : ℕ) → k < b.cpus → slice_index (settled_below round (n + 1) z).late k ≡ length (recent_at (cpu_at now k) zone)
    late_now k in' =
        mine_or_other (λ k. k < b.cpus → slice_index (settled_below round (n + 1) z).late k ≡ length (recent_at (cpu_at now k) zone)) n k
        (λ in'. late_below z.late (n + 1) n more (omega arith) ∙ sym (ap (λ (steps : List Step). length steps) recent_mine))
        (λ ne in'. same_late k ne ∙ here.late k in' ∙ sym (ap (λ (steps : List Step). length steps) (recent_other k ne))) in'
      where
        same_late : (k : ℕ) → k ≢ n → slice_index (settled_below round (n + 1) z).late k ≡ slice_index (settled_below round n z).late k
        same_late k ne =
            elim (nat_lt k n) as (λ t. nat_lt k n ≡ t → slice_index (settled_below round (n + 1) z).late k ≡ slice_index (settled_below round n z).late k) [
              | true ↦ λ e. let below : k < n = grind arith in late_below z.late (n + 1) k more (omega arith) ∙ sym (late_below z.late n k few below)
              | false ↦ λ e. let above : n ≤ k = grind arith in late_from z.late (n + 1) k (omega arith) ∙ sym (late_from z.late n k above)
            ] refl

    here_now : IsZoneAt b plan now log zone shelf (settled_below round (n + 1) z)
    here_now =
        record {
          room = ap (λ (b : Book). b.room) turned.is_shelf ∙ here.room;
          most_chunks = ap (λ (b : Book). b.zone.most_chunks) turned.is_shelf ∙ here.most_chunks;
          most_gifts = ap (λ (b : Book). b.zone.most_gifts) turned.is_shelf ∙ here.most_gifts;
          visits = turned.is_visits
              ∙ ap (λ (visits : List Visit). visits ++ cons_option (settling round z.late n) []) here.visits
              ∙ append_assoc z.visits (filter_map (settling round z.late) (range_with_len 0 n)) (cons_option (settling round z.late n) [])
              ∙ ap (λ (visits : List Visit). z.visits ++ visits) (sym (settle_more round n z.late));
          history = next;
          keeps = turned.keeps;
          answers = turned.answers ∙ here.answers;
          delayed = delayed_now;
          caught = caught_now;
          late = late_now;
        }

    rooms_now : (k : ℕ) → k < b.cpus → carried_of k shelf.visits + length (recent_at (cpu_at now k) zone) ≤ lines_on b plan zone k
    rooms_now k in' =
        mine_or_other (λ k. k < b.cpus → carried_of k shelf.visits + length (recent_at (cpu_at now k) zone) ≤ lines_on b plan zone k) n k
        (λ in'.
        let all = carried_is n in
        let own : carried_of n (cons_option (settling round z.late n) []) ≡ slice_index z.late n = settles_own round n n z.late ∙ (let is : (n == n) ≡ true = grind arith in ap (λ t. if t then slice_index z.late n else 0) is) in
        let empty = ap (λ (steps : List Step). length steps) recent_mine in
        let before = at.rooms n in' in
        let late = late_is ∙ sym (ap (λ (steps : List Step). length steps) recent_same) in
        omega (arith, all, own, empty, before, late))
        (λ ne in'.
        let all = carried_is k in
        let own : carried_of k (cons_option (settling round z.late n) []) ≡ 0 = settles_own round n k z.late ∙ (let is : (n == k) ≡ false = grind arith in ap (λ t. if t then slice_index z.late n else 0) is) in
        let same = ap (λ (steps : List Step). length steps) (recent_other k ne) in
        let before = at.rooms k in' in
        omega (arith, all, own, same, before)) in'
      where
        carried_is : (k : ℕ) → carried_of k shelf.visits ≡ carried_of k book.visits + carried_of k (cons_option (settling round z.late n) [])
        carried_is k = ap (carried_of k) turned.is_visits ∙ carried_of-append k book.visits (cons_option (settling round z.late n) [])

    one_more_settled : AreSettledBelow b plan log round zone z first (n + 1) now shelf
    one_more_settled =
        record {
          in_zones = at.in_zones;
          late_long = at.late_long;
          long = length-set cpus n d ∙ at.long;
          each = each_now;
          here = here_now;
          rooms = rooms_now;
          elsewhere = λ k. elsewhere_trans (cpu_at first k) (cpu_at cpus k) (cpu_at now k) zone (at.elsewhere k)
              (set_elsewhere cpus n zone Flush d there (subst (λ (c : Cpu). IsElsewhere c d zone Flush) (sym same) turned.elsewhere) k);
        }

  pub one_settled : (d : Cpu) (shelf : Book) → nat_lt 0 (length (recent_at c zone)) ≡ true → shelf ≡ record book { visits = book.visits ++ settled_of round c.cpu (recent_at c zone) ∷ [] } →
      ((j : History) → KeepsHistory book j → IsCaughtUpWith c zone j → (after : History) × KeepsHistory shelf after × Settles (book_params book) c.cpu j after (recent_at c zone) × IsCaughtUpWith d zone after) →
      recent_at d zone ≡ [] → IsElsewhere c d zone Flush → AreSettledBelow b plan log round zone z first (n + 1) (slice_set cpus n d) shelf
  one_settled d shelf some is settles recent elsewhere = let turned = turned_by_settling d shelf some is settles recent elsewhere in one_more_settled d shelf turned.0 turned.1

  pub none_to_settle : nat_lt 0 (length (recent_at c zone)) ≡ false → AreSettledBelow b plan log round zone z first (n + 1) (slice_set cpus n c) book
  none_to_settle none = one_more_settled c book j (turned_at_once none)

-- ---- zone by zone

none_settled : (round : ℕ) (z : ZonePlay) → settled_below round 0 z ≡ z
none_settled round z = ap (λ (visits : List Visit). let y : ZonePlay = record z { visits = visits } in y) (append-nil z.visits)

all_settled : (round cpus : ℕ) (z : ZonePlay) → length z.late ≡ cpus → settled_below round cpus z ≡ zone_after_settling round cpus z
all_settled round cpus z long =
    let none : drop cpus z.late ≡ [] = drop_all cpus z.late (omega arith) in
    ap (λ (late : List ℕ). let y : ZonePlay = record z { visits = z.visits ++ filter_map (settling round z.late) (range_with_len 0 cpus); late = late } in y) (ap (λ (l : List ℕ). replicate cpus 0 ++ l) none ∙ append-nil (replicate cpus 0))

module _ (b : Bundle) (plan : Plan) (s : Play) (n : ℕ) (cpus : List Cpu) (books : List Book) (sound : IsPlaySound b plan s) (at : AreSettled b plan s n cpus books) (lt : n < length books) where
  abbrev next_zone : ZonePlay
  next_zone = zone_play s n

  next-in-zones : n < length plan.zones
  next-in-zones = subst (λ m. n < m) at.books_long lt

  next_here : IsZoneAt b plan cpus s.log n (book_at books n) next_zone
  next_here = at.rest n (omega arith) next-in-zones

  -- no CPU has settled on the next zone
  zone_begins : AreSettledBelow b plan s.log s.round n next_zone cpus 0 cpus (book_at books n)
  zone_begins =
      record {
        in_zones = next-in-zones;
        late_long = (sound.each n next-in-zones).cpus;
        long = at.cpus_long;
        each = at.each;
        here = subst (λ (y : ZonePlay). IsZoneAt b plan cpus s.log n (book_at books n) y) (sym (none_settled s.round next_zone)) next_here;
        rooms = λ cpu in'.
            let visits : carried_of cpu (book_at books n).visits ≡ carried_of cpu next_zone.visits = ap (carried_of cpu) next_here.visits in
            let late = next_here.late cpu in' in
            let all = (sound.each n next-in-zones).carried cpu in' in
            let most = lines_within b plan s n cpu in
            omega arith;
        elsewhere = λ cpu. elsewhere_refl (cpu_at cpus cpu) n Flush;
      }

  -- the same of its book as it is read, and of the round as it is kept
  pub book_begins : (round : ℕ) (item : Book) → s.round ≡ round → AreSettledBelow b plan s.log round n next_zone cpus 0 cpus (slice_index_or books n item)
  book_begins round item same =
      subst (λ round. AreSettledBelow b plan s.log round n next_zone cpus 0 cpus (slice_index_or books n item)) same
      (subst (λ (book : Book). AreSettledBelow b plan s.log s.round n next_zone cpus 0 cpus book) (get_or_default books n no_book item lt) zone_begins)

  -- all have
  pub zone_ends : (now : List Cpu) (shelf : Book) → AreSettledBelow b plan s.log s.round n next_zone cpus b.cpus now shelf → AreSettled b plan s (n + 1) now (slice_set books n shelf)
  zone_ends now shelf is =
      record {
        cpus_long = is.long;
        books_long = length-set books n shelf ∙ at.books_long;
        each = is.each;
        done = λ zone below in'.
            mine_or_other (λ zone. zone < n + 1 → zone < length plan.zones → IsZoneAt b plan now s.log zone (book_at (slice_set books n shelf) zone) (zone_after_settling s.round b.cpus (zone_play s zone))) n zone
            (λ below in'. subst (λ (book : Book). IsZoneAt b plan now s.log n book (zone_after_settling s.round b.cpus next_zone)) (sym (get_or-set_same books n shelf no_book lt))
            (subst (λ (y : ZonePlay). IsZoneAt b plan now s.log n shelf y) (all_settled s.round b.cpus next_zone is.late_long) is.here))
            (λ ne below in'. subst (λ (book : Book). IsZoneAt b plan now s.log zone book (zone_after_settling s.round b.cpus (zone_play s zone))) (sym (get_or-set_other books n zone shelf no_book ne))
            (zone_elsewhere b plan cpus now s.log s.log n zone Flush (book_at books zone) (zone_after_settling s.round b.cpus (zone_play s zone)) ne refl is.elsewhere (at.done zone (omega arith) in')))
            below in';
        rest = λ zone above in'.
            let ne : zone ≢ n = λ same. absurd (omega arith) in
            subst (λ (book : Book). IsZoneAt b plan now s.log zone book (zone_play s zone)) (sym (get_or-set_other books n zone shelf no_book ne))
            (zone_elsewhere b plan cpus now s.log s.log n zone Flush (book_at books zone) (zone_play s zone) ne refl is.elsewhere (at.rest zone (omega arith) in'));
      }
