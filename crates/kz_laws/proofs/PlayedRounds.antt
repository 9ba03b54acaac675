-- A round's end in the run as it goes, beside the run as it is defined.
use Rattle.std.proofs.Common.{◌≡◌, ◌≢◌, ◌<◌, ◌≤◌, ℕ, zero, suc, ◌==◌, ◌+◌, nat_lt, true, false, if◌then◌else◌, List, [], ◌∷◌, ◌++◌, length, take, drop, replicate, slice_index, Option, None, Some, refl, ap, sym, ◌∙◌, subst, arith, append_assoc}
use Rattle.std.specs.List.{fold, filter_map, range_with_len, cons_option}
use Rattle.std.proofs.lemmas.List.{append-nil, get_or-set_same, get_or-set_other, get_or-map, length-set, length-map, length-replicate}
use Rattle.std.proofs.lemmas.List.Elements.{filter_map-append}
use Rattle.kz_model.specs.declared.bundle.Bundle.{Bundle}
use Rattle.kz_model.specs.declared.bundle.OrderLine.TheVariants.{Round}
use Rattle.kz_model.specs.declared.record.Plan.{Plan}
use Rattle.kz_model.specs.declared.record.Visit.{Visit}
use Rattle.kz_model.specs.declared.supply.SupplyEntry.{SupplyEntry}
use Rattle.kz_model.specs.Zone.Alone.{Course}
use Rattle.kz_model.specs.Run.Journal.{lines_of_round, steps_among, carried, answers_at}
use Rattle.kz_model.specs.Run.Order.{Progress, late, with_visit, with_settling, with_round_settled, order_step}
use Rattle.kz_laws.specs.Play.{ZonePlay, Play, no_play, zone_play, settling, zone_after_settling, play_after_round}
use Rattle.kz_laws.proofs.OrderLines.{carried-other, journal_at, seen, IsSized}
use Rattle.kz_laws.proofs.OrderRuns.{zeros, round_keeps}
use Rattle.kz_laws.proofs.Played.{Told, IsBeside, late_count, undelayed_same, AreBeside}

-- ---- who settles on a zone

-- the visit that settles a CPU's late steps on a zone with this journal, if there are some
abbrev pub settles_by : Bundle → Plan → ℕ → List ℕ → ℕ → List Visit → ℕ → Option Visit
settles_by b plan round done zone journal cpu =
    let count = length (drop (carried cpu round journal) (steps_among b plan zone (take (slice_index done cpu) (lines_of_round b cpu round)))) in
    if nat_lt 0 count then Some (record { round = round; cpu = cpu; count = count; settled = true }) else None

abbrev pub settles_at : Bundle → Plan → Progress → ℕ → ℕ → Option Visit
settles_at b plan g zone cpu = settles_by b plan g.round g.done zone (journal_at g zone) cpu

-- nothing but journals differs
pub record IsSame (g h : Progress) : Type 0 where
  pub round : h.round ≡ g.round
  pub log : h.log ≡ g.log
  pub done : h.done ≡ g.done
  pub long : length h.journals ≡ length g.journals

same_all : (f g h : Progress) → IsSame f g → IsSame g h → IsSame f h
same_all f g h one more = record { round = more.round ∙ one.round; log = more.log ∙ one.log; done = more.done ∙ one.done; long = more.long ∙ one.long }

settles_same : (b : Bundle) (plan : Plan) (g h : Progress) (zone cpu : ℕ) → IsSame g h → journal_at h zone ≡ journal_at g zone → settles_at b plan h zone cpu ≡ settles_at b plan g zone cpu
settles_same b plan g h zone cpu same journal =
    ap (λ round. settles_by b plan round h.done zone (journal_at h zone) cpu) same.round
    ∙ ap (λ done. settles_by b plan g.round done zone (journal_at h zone) cpu) same.done
    ∙ ap (λ journal. settles_by b plan g.round g.done zone journal cpu) journal

one_more : (o : Option Visit) (journal : List Visit) (f : ℕ → Option Visit) (cpu : ℕ) → f cpu ≡ o → journal ++ cons_option o [] ≡ journal ++ filter_map f (cpu ∷ [])
one_more o journal f cpu is = ap (λ (o : Option Visit). journal ++ cons_option o []) (sym is)

-- a CPU settles on a zone
record HasOneMore (b : Bundle) (plan : Plan) (g h : Progress) (cpu at : ℕ) : Type 0 where
  same : IsSame g h
  here : journal_at h at ≡ journal_at g at ++ filter_map (settles_at b plan g at) (cpu ∷ [])
  others : (zone : ℕ) → zone ≢ at → journal_at h zone ≡ journal_at g zone

one_settles : (b : Bundle) (plan : Plan) (g : Progress) (cpu at : ℕ) → at < length g.journals → HasOneMore b plan g (with_settling b plan cpu g at) cpu at
one_settles b plan g cpu at lt =
    let count = length (late b plan g cpu at) in
    let v : Visit = record { round = g.round; cpu = cpu; count = count; settled = true } in
    let journal = journal_at g at in
    elim (nat_lt 0 count) as (λ t. nat_lt 0 count ≡ t → HasOneMore b plan g (if t then with_visit at v g else g) cpu at) [
      | true ↦ λ e.
          record {
            same = record { round = refl; log = refl; done = refl; long = length-set g.journals at (journal ++ v ∷ []) };
            here = get_or-set_same g.journals at (journal ++ v ∷ []) [] lt ∙ one_more (Some v) journal (settles_at b plan g at) cpu (ap (λ t. if t then Some v else None) e);
            others = λ zone ne. get_or-set_other g.journals at zone (journal ++ v ∷ []) [] ne;
          }
      | false ↦ λ e.
          record {
            same = record { round = refl; log = refl; done = refl; long = refl };
            here = sym (append-nil journal) ∙ one_more None journal (settles_at b plan g at) cpu (ap (λ t. if t then Some v else None) e);
            others = λ zone ne. refl;
          }
    ] refl

-- a CPU settles on these zones
record HasSettledOn (b : Bundle) (plan : Plan) (g h : Progress) (cpu from n zone : ℕ) : Type 0 where
  same : IsSame g h
  here : from ≤ zone → zone < from + n → journal_at h zone ≡ journal_at g zone ++ filter_map (settles_at b plan g zone) (cpu ∷ [])
  before : zone < from → journal_at h zone ≡ journal_at g zone

zones_settle : (b : Bundle) (plan : Plan) (cpu zone n from : ℕ) (g : Progress) → from + n ≤ length g.journals → HasSettledOn b plan g (fold (with_settling b plan cpu) g (range_with_len from n)) cpu from n zone
zones_settle b plan cpu zone zero from g le = record { same = record { round = refl; log = refl; done = refl; long = refl }; here = λ low high. absurd (omega arith); before = λ lt. refl }
zones_settle b plan cpu zone (suc n) from g le =
    let one = one_settles b plan g cpu from (omega arith) in
    let h = with_settling b plan cpu g from in
    let more = zones_settle b plan cpu zone n (from + 1) h (within (length h.journals) (length g.journals) one.same.long le) in
    record {
      same = same_all g h _ one.same more.same;
      here = λ low high.
          elim (zone == from) as (λ t. (zone == from) ≡ t → journal_at (fold (with_settling b plan cpu) h (range_with_len (from + 1) n)) zone ≡ journal_at g zone ++ filter_map (settles_at b plan g zone) (cpu ∷ [])) [
            | true ↦ λ e.
                let is : zone ≡ from = grind arith in
                more.before (omega arith) ∙ subst (λ zone. journal_at h zone ≡ journal_at g zone ++ filter_map (settles_at b plan g zone) (cpu ∷ [])) (sym is) one.here
            | false ↦ λ e.
                let ne : zone ≢ from = grind arith in
                let there = one.others zone ne in
                more.here (omega arith) (omega arith)
                ∙ ap (λ journal. journal ++ filter_map (settles_at b plan h zone) (cpu ∷ [])) there
                ∙ ap (λ (o : Option Visit). journal_at g zone ++ cons_option o []) (settles_same b plan g h zone cpu one.same there)
          ] refl;
      before = λ lt. more.before (omega arith) ∙ one.others zone (λ is. absurd (omega arith));
    }
  where
    within : (m l : ℕ) → m ≡ l → from + suc n ≤ l → from + 1 + n ≤ m
    within m l is le = omega arith

-- ---- all CPUs settle

-- one that settles carries nothing for another
settling_of_other : (b : Bundle) (plan : Plan) (g : Progress) (zone cpu other : ℕ) → other ≢ cpu → carried other g.round (journal_at g zone ++ filter_map (settles_at b plan g zone) (cpu ∷ [])) ≡ carried other g.round (journal_at g zone)
settling_of_other b plan g zone cpu other ne =
    let count = length (late b plan g cpu zone) in
    let v : Visit = record { round = g.round; cpu = cpu; count = count; settled = true } in
    let journal = journal_at g zone in
    elim (nat_lt 0 count) as (λ t. carried other g.round (journal ++ cons_option (if t then Some v else None) []) ≡ carried other g.round journal) [
      | true ↦ carried-other other g.round journal v ne
      | false ↦ ap (λ journal. carried other g.round journal) (append-nil journal)
    ]

filter_map_same : (f g : ℕ → Option Visit) (n from : ℕ) → ((k : ℕ) → from ≤ k → k < from + n → f k ≡ g k) → filter_map f (range_with_len from n) ≡ filter_map g (range_with_len from n)
filter_map_same f g zero from same = refl
filter_map_same f g (suc n) from same =
    ap (λ (o : Option Visit). cons_option o (filter_map f (range_with_len (from + 1) n))) (same from (omega arith) (omega arith))
    ∙ ap (λ (l : List Visit). cons_option (g from) l) (filter_map_same f g n (from + 1) (λ k low high. same k (omega arith) (omega arith)))

abbrev settled_on_all : Bundle → Plan → Progress → ℕ → Progress
settled_on_all b plan before cpu = fold (with_settling b plan cpu) before (range_with_len 0 (length plan.zones))

pub record HaveSettled (b : Bundle) (plan : Plan) (g h : Progress) (from n zone : ℕ) : Type 0 where
  pub same : IsSame g h
  pub here : journal_at h zone ≡ journal_at g zone ++ filter_map (settles_at b plan g zone) (range_with_len from n)

cpus_settle : (b : Bundle) (plan : Plan) (zone n from : ℕ) (g : Progress) → zone < length plan.zones → length g.journals ≡ length plan.zones → HaveSettled b plan g (fold (settled_on_all b plan) g (range_with_len from n)) from n zone
cpus_settle b plan zone zero from g in-zones long = record { same = record { round = refl; log = refl; done = refl; long = refl }; here = sym (append-nil (journal_at g zone)) }
cpus_settle b plan zone (suc n) from g in-zones long =
    let h = settled_on_all b plan g from in
    let one = zones_settle b plan from zone (length plan.zones) 0 g (all_of (length plan.zones) (length g.journals) long) in
    let more = cpus_settle b plan zone n (from + 1) h in-zones (one.same.long ∙ long) in
    let journal = journal_at g zone in
    let there = one.here (omega arith) (omega arith) in
    let same : (cpu : ℕ) → from + 1 ≤ cpu → cpu < from + 1 + n → settles_at b plan h zone cpu ≡ settles_at b plan g zone cpu =
    λ cpu low high.
    ap (λ round. settles_by b plan round h.done zone (journal_at h zone) cpu) one.same.round
    ∙ ap (λ done. settles_by b plan g.round done zone (journal_at h zone) cpu) one.same.done
    ∙ ap (λ k. let count = length (drop k (steps_among b plan zone (take (slice_index g.done cpu) (lines_of_round b cpu g.round)))) in let o : Option Visit = if nat_lt 0 count then Some (record { round = g.round; cpu = cpu; count = count; settled = true }) else None in o)
    (ap (λ journal. carried cpu g.round journal) there ∙ settling_of_other b plan g zone from cpu (λ is. absurd (omega arith))) in
    record {
      same = same_all g h _ one.same more.same;
      here = more.here
          ∙ ap (λ (l : List Visit). journal_at h zone ++ l) (filter_map_same (settles_at b plan h zone) (settles_at b plan g zone) n (from + 1) same)
          ∙ ap (λ journal. journal ++ filter_map (settles_at b plan g zone) (range_with_len (from + 1) n)) there
          ∙ append_assoc journal (filter_map (settles_at b plan g zone) (from ∷ [])) (filter_map (settles_at b plan g zone) (range_with_len (from + 1) n))
          ∙ ap (λ (l : List Visit). journal ++ l) (sym (filter_map-append (settles_at b plan g zone) (from ∷ []) (range_with_len (from + 1) n)));
    }
  where
    all_of : (n m : ℕ) → m ≡ n → 0 + n ≤ m
    all_of n m is = omega arith

pub round_settles : (b : Bundle) (plan : Plan) (zone : ℕ) (g : Progress) → zone < length plan.zones → length g.journals ≡ length plan.zones → HaveSettled b plan g (with_round_settled b plan g) 0 b.cpus zone
round_settles b plan zone g in-zones long = cpus_settle b plan zone b.cpus 0 g in-zones long

-- with no zone there is nothing to settle
none_settle : (b : Bundle) (plan : Plan) (n from : ℕ) (g : Progress) → length g.journals ≡ length plan.zones → IsSame g (fold (settled_on_all b plan) g (range_with_len from n))
none_settle b plan zero from g long = record { round = refl; log = refl; done = refl; long = refl }
none_settle b plan (suc n) from g long =
    let h = settled_on_all b plan g from in
    let one = zones_settle b plan from 0 (length plan.zones) 0 g (all_of (length plan.zones) (length g.journals) long) in
    same_all g h _ one.same (none_settle b plan n (from + 1) h (one.same.long ∙ long))
  where
    all_of : (n m : ℕ) → m ≡ n → 0 + n ≤ m
    all_of n m is = omega arith

pub round_same : (b : Bundle) (plan : Plan) (g : Progress) → length g.journals ≡ length plan.zones → IsSame g (with_round_settled b plan g)
round_same b plan g long = none_settle b plan b.cpus 0 g long

-- ---- the play settles likewise

pub visits_settled : (b : Bundle) (plan : Plan) (g : Progress) (zone : ℕ) (z : ZonePlay) (told : Told) → zone < length plan.zones → IsSized b plan g → IsBeside b plan g zone z told →
    (zone_after_settling g.round b.cpus z).visits ≡ journal_at (with_round_settled b plan g) zone
visits_settled b plan g zone z told in-zones sized is =
    ap (λ visits. visits ++ filter_map (settling g.round z.late) (range_with_len 0 b.cpus)) is.visits
    ∙ ap (λ (l : List Visit). journal_at g zone ++ l) (filter_map_same (settling g.round z.late) (settles_at b plan g zone) b.cpus 0 (λ cpu low high.
    ap (λ count. let o : Option Visit = if nat_lt 0 count then Some (record { round = g.round; cpu = cpu; count = count; settled = true }) else None in o) (late_count b plan g zone cpu z told is (omega arith))))
    ∙ sym (round_settles b plan zone g in-zones sized.journals).here

zone_round : (b : Bundle) (plan : Plan) (g : Progress) (zone : ℕ) (z : ZonePlay) (told : Told) → zone < length plan.zones → IsSized b plan g → IsBeside b plan g zone z told → IsBeside b plan (order_step b plan g Round) zone (zone_after_settling g.round b.cpus z) told
zone_round b plan g zone z told in-zones sized is =
    let h = order_step b plan g Round in
    let j = (round_keeps b plan g zone told.lines told.places in-zones sized is.in_step).1 in
    let u : j.is.undelayed ≡ is.in_step.is.undelayed = undelayed_same b plan g h zone told.lines told.lines told.places told.places is.in_step j refl (ap (λ (log : List SupplyEntry). answers_at zone log) (round_same b plan g sized.journals).log) in
    record {
      in_step = j;
      state = is.state ∙ sym (ap (λ (c : Course). c.end) u);
      replies = is.replies ∙ sym (ap (λ (c : Course). c.replies) u);
      visits = visits_settled b plan g zone z told in-zones sized is;
      long = length-replicate {A = ℕ} b.cpus 0;
      late = λ cpu lt.
          let none : length (seen b plan h cpu zone) ≡ 0 = ap (λ n. length (steps_among b plan zone (take n (lines_of_round b cpu h.round)))) (zeros b.cpus cpu) in
          nothing (slice_index (replicate b.cpus 0) cpu) (carried cpu h.round (journal_at h zone)) (length (seen b plan h cpu zone)) (zeros b.cpus cpu) (j.done cpu) none;
    }
  where
    nothing : (n k l : ℕ) → n ≡ 0 → k ≤ l → l ≡ 0 → n + k ≡ l
    nothing n k l e le f = omega arith

pub round_beside : (b : Bundle) (plan : Plan) (g : Progress) (s : Play) (told : ℕ → Told) → AreBeside b plan g s told → AreBeside b plan (order_step b plan g Round) (play_after_round b s) told
round_beside b plan g s told beside =
    let same = round_same b plan g beside.sized.journals in
    record {
      sized = record { journals = same.long ∙ beside.sized.journals; done = length-replicate {A = ℕ} b.cpus 0 };
      round = ap (λ n. n + 1) beside.round;
      log = beside.log ∙ sym same.log;
      zones_long = length-map s.zones (zone_after_settling s.round b.cpus) ∙ beside.zones_long;
      cpus_long = beside.cpus_long;
      zones = λ zone lt.
          let there : zone_play (play_after_round b s) zone ≡ zone_after_settling g.round b.cpus (zone_play s zone) =
          get_or-map (zone_after_settling s.round b.cpus) s.zones zone no_play no_play (subst (λ n. zone < n) (sym beside.zones_long) lt)
          ∙ ap (λ round. zone_after_settling round b.cpus (zone_play s zone)) beside.round in
          subst (λ (z : ZonePlay). IsBeside b plan (order_step b plan g Round) zone z (told zone)) (sym there) (zone_round b plan g zone (zone_play s zone) (told zone) lt beside.sized (beside.zones zone lt));
    }
