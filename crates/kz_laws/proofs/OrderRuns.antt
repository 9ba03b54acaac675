-- An order keeps each zone alike to its undelayed lines, and its run is the same.
use Rattle.std.proofs.Common.{◌≡◌, ◌≢◌, ◌<◌, ◌≤◌, ℕ, zero, suc, ◌==◌, ◌+◌, ◌-◌, slice_set, nat_lt, true, false, if◌then◌else◌, List, [], ◌∷◌, ◌++◌, length, take, drop, replicate, slice_index, slice_index_or, Option, None, Some, refl, ap, sym, ◌∙◌, subst, arith, append_assoc, map}
use Rattle.std.specs.List.{fold, range_with_len}
use Rattle.std.specs.Option.{option_map_or, unwrap_or}
use Rattle.std.proofs.Math.Seq.{drop-nil}
use Rattle.std.proofs.lemmas.List.{append-nil, get_or-set_same, get_or-set_other, get_or_past, length-set, length-drop, length-replicate, nil_from_length, take-append-drop, drop_all}
use Rattle.kz_model.specs.declared.bundle.Bundle.{Bundle}
use Rattle.kz_model.specs.declared.bundle.OrderLine.{OrderLine}
use Rattle.kz_model.specs.declared.bundle.OrderLine.TheVariants.{Cpu, Round}
use Rattle.kz_model.specs.declared.step.Step.{Step}
use Rattle.kz_model.specs.declared.record.Plan.{Plan}
use Rattle.kz_model.specs.declared.record.Visit.{Visit}
use Rattle.kz_model.specs.declared.supply.Answer.{Answer}
use Rattle.kz_model.specs.Zone.State.{ZoneState, CpuPart, opening, cpu_part}
use Rattle.kz_model.specs.Zone.Rules.{needs_visit, asks_of}
use Rattle.kz_model.specs.Zone.Alone.{Course, course, alone, all_used}
use Rattle.kz_model.specs.Run.Journal.{params_of, addressed, lines_of_round, steps_among, steps_of, carried, steps_carried, spell_after, answers_at, alone_at}
use Rattle.kz_model.specs.Run.Order.{Progress, opening_progress, late, state_with_late, with_visit, counted, visit_made, next_line, one_step, with_settling, with_round_settled, order_step, order_of, order_run}
use Rattle.kz_model.specs.Zone.Late.{answered_late, answered_by, state_after, by_cpu as steps_by}
use Rattle.kz_model.specs.declared.step.Reply.{Reply}
use Rattle.kz_model.specs.Text.Report.{replies_carried}
use Rattle.kz_model.proofs.LateSteps.{replies_of}
use Rattle.kz_laws.proofs.Printed.{nothing_if, printed_none, printed_settled, printed_same, printed_round}
use Rattle.kz_laws.specs.Undelayed.{next_there, lines_at, places_at, IsNextLine, AreNextLines, IsAlikeAt, IsSameAt}
use Rattle.kz_laws.proofs.Undelayed.{mine_or_other, none_late}
use Rattle.kz_laws.proofs.Alike.{alike_settled}
use Rattle.kz_laws.proofs.OneZone.{caught_up_state, no_steps, alike_none}
use Rattle.kz_laws.proofs.OrderLines.{carried-mine, carried-other, carried-later, spell_after-push, visit_carries, entries, entries_elsewhere, answers_at-append, new_answers, alike_same, journal_at, seen, IsSized, InStep, IsUntouched, late_untouched, in_step_untouched, seen_mine, seen_other, late_there, visit_there}
use Rattle.kz_model.proofs.Addressed.{steps_among-append}
use Rattle.kz_model.proofs.LineCounts.{same_number, other_number}

-- ---- a CPU's line

pub counted_untouched : (b : Bundle) (plan : Plan) (g : Progress) (cpu zone : ℕ) → cpu < length g.done → slice_index g.done cpu < length (lines_of_round b cpu g.round) → steps_among b plan zone (next_line b cpu g ∷ []) ≡ [] →
    IsUntouched b plan g (counted cpu g) zone
counted_untouched b plan g cpu zone lt more none =
    record {
      round = refl;
      journal = refl;
      answers = refl;
      seen = λ other.
          mine_or_other (λ other. seen b plan (counted cpu g) other zone ≡ seen b plan g other zone) cpu other
          (seen_mine b plan g cpu zone lt more ∙ ap (λ (l : List Step). seen b plan g cpu zone ++ l) none ∙ append-nil (seen b plan g cpu zone))
          (λ ne. seen_other b plan g cpu other zone ne);
    }

visit_untouched : (b : Bundle) (plan : Plan) (g : Progress) (cpu zone other : ℕ) (step : Step) (state : ZoneState) → other ≢ zone → cpu < length g.done → slice_index g.done cpu < length (lines_of_round b cpu g.round) →
    steps_among b plan other (next_line b cpu g ∷ []) ≡ [] → IsUntouched b plan g (visit_made b plan cpu g zone step state) other
visit_untouched b plan g cpu zone other step state ne lt more none =
    let asks = asks_of (params_of b plan zone) state.shared cpu (cpu_part state cpu) step in
    record {
      round = refl;
      journal = get_or-set_other g.journals zone other (journal_at g zone ++ record { round = g.round; cpu = cpu; count = length (late b plan g cpu zone) + 1; settled = false } ∷ []) [] ne;
      answers = answers_at-append other g.log (entries zone asks (new_answers b g.log asks))
          ∙ ap (λ (l : List Answer). answers_at other g.log ++ l) (entries_elsewhere zone other asks (new_answers b g.log asks) ne) ∙ append-nil (answers_at other g.log);
      seen = (counted_untouched b plan g cpu other lt more none).seen;
    }

pub one_step_sized : (b : Bundle) (plan : Plan) (g : Progress) (cpu : ℕ) → IsSized b plan g → IsSized b plan (one_step b plan cpu g)
one_step_sized b plan g cpu sized =
    let there = addressed b plan (next_line b cpu g).act in
    let state = state_with_late b plan g cpu there.0 in
    let done : length (counted cpu g).done ≡ b.cpus = length-set g.done cpu (slice_index g.done cpu + 1) ∙ sized.done in
    elim (needs_visit (params_of b plan there.0) (cpu_part state cpu) there.1) as (λ t. IsSized b plan (if t then visit_made b plan cpu g there.0 there.1 state else counted cpu g)) [
      | true ↦ record { journals = length-set g.journals there.0 (journal_at g there.0 ++ record { round = g.round; cpu = cpu; count = length (late b plan g cpu there.0) + 1; settled = false } ∷ []) ∙ sized.journals; done = done }
      | false ↦ record { journals = sized.journals; done = done }
    ]

-- the state in which a line is taken is the undelayed one in what is shared and in what its CPU has
pub line_state : (b : Bundle) (plan : Plan) (g : Progress) (cpu zone : ℕ) (lines : List (ℕ × Step)) (places : List (ℕ × ℕ)) → cpu < b.cpus → (i : InStep b plan g zone lines places) →
    ((state_with_late b plan g cpu zone).shared ≡ i.is.undelayed.end.shared) × (cpu_part (state_with_late b plan g cpu zone) cpu ≡ cpu_part i.is.undelayed.end cpu)
line_state b plan g cpu zone lines places lt i =
    let p = params_of b plan zone in
    let answers = answers_at zone g.log in
    let lates : ℕ → List Step = λ cpu. late b plan g cpu zone in
    let state : state_with_late b plan g cpu zone ≡ state_after p answers (i.is.steps ++ steps_by cpu (lates cpu)) =
    ap (λ (o : Option (List (ℕ × Step))). option_map_or (λ (c : Course). c.end) (course p (opening p) (unwrap_or o [] ++ steps_by cpu (lates cpu)) answers) (opening p)) i.is.spelled in
    let caught = caught_up_state p lines i.is.steps lates answers i.is.undelayed i.is.delayed cpu lt i.is.alike in
    (ap (λ (st : ZoneState). st.shared) state ∙ caught.0, ap (λ (st : ZoneState). cpu_part st cpu) state ∙ caught.1)

pub one_step_keeps : (b : Bundle) (plan : Plan) (g : Progress) (cpu zone : ℕ) (lines : List (ℕ × Step)) (places : List (ℕ × ℕ)) → IsSized b plan g → IsNextLine b plan g (Cpu cpu) → InStep b plan g zone lines places →
    InStep b plan (one_step b plan cpu g) zone (lines ++ next_there b plan zone g cpu) (places ++ map (λ step. (g.round, step.0)) (next_there b plan zone g cpu))
one_step_keeps b plan g cpu zone lines places sized next i =
    let line = next_line b cpu g in
    let there = addressed b plan line.act in
    let in-done : cpu < length g.done = subst (λ n. cpu < n) (sym sized.done) next.0 in
    mine_or_other (λ zone. InStep b plan g zone lines places → InStep b plan (one_step b plan cpu g) zone (lines ++ next_there b plan zone g cpu) (places ++ map (λ step. (g.round, step.0)) (next_there b plan zone g cpu))) there.0 zone
    (λ i.
    let mine : steps_among b plan there.0 (line ∷ []) ≡ there.1 ∷ [] = ap (λ t. if t then there.1 ∷ [] else []) (same_number there.0) in
    let now : next_there b plan there.0 g cpu ≡ (cpu, there.1) ∷ [] = ap (λ t. if t then (cpu, there.1) ∷ [] else []) (same_number there.0) in
    let state = state_with_late b plan g cpu there.0 in
    let is = line_state b plan g cpu there.0 lines places next.0 i in
    subst (λ (l : List (ℕ × Step)). InStep b plan (one_step b plan cpu g) there.0 (lines ++ l) (places ++ map (λ step. (g.round, step.0)) l)) (sym now)
    (elim (needs_visit (params_of b plan there.0) (cpu_part state cpu) there.1) as (λ t. needs_visit (params_of b plan there.0) (cpu_part state cpu) there.1 ≡ t →
    InStep b plan (if t then visit_made b plan cpu g there.0 there.1 state else counted cpu g) there.0 (lines ++ (cpu, there.1) ∷ []) (places ++ (g.round, cpu) ∷ [])) [
      | true ↦ λ e. visit_there b plan g cpu there.0 there.1 state lines places next.0 next.2 sized next.1 mine i is.0 is.1
      | false ↦ λ e. late_there b plan g cpu there.0 there.1 lines places next.0 sized next.1 mine i (subst (λ (own : CpuPart). needs_visit (params_of b plan there.0) own there.1 ≡ false) is.1 e)
    ] refl))
    (λ ne i.
    let none : steps_among b plan zone (line ∷ []) ≡ [] = ap (λ t. if t then there.1 ∷ [] else []) (other_number there.0 zone ne) in
    let now : next_there b plan zone g cpu ≡ [] = ap (λ t. if t then (cpu, there.1) ∷ [] else []) (other_number there.0 zone ne) in
    let state = state_with_late b plan g cpu there.0 in
    subst (λ (l : List (ℕ × Step)). InStep b plan (one_step b plan cpu g) zone (lines ++ l) (places ++ map (λ step. (g.round, step.0)) l)) (sym now)
    (subst (λ (l : List (ℕ × Step)). InStep b plan (one_step b plan cpu g) zone l (places ++ [])) (sym (append-nil lines))
    (subst (λ (l : List (ℕ × ℕ)). InStep b plan (one_step b plan cpu g) zone lines l) (sym (append-nil places))
    (elim (needs_visit (params_of b plan there.0) (cpu_part state cpu) there.1) as (λ t. InStep b plan (if t then visit_made b plan cpu g there.0 there.1 state else counted cpu g) zone lines places) [
      | true ↦ in_step_untouched b plan g (visit_made b plan cpu g there.0 there.1 state) zone lines places (visit_untouched b plan g cpu there.0 zone there.1 state ne in-done next.1 none) i
      | false ↦ in_step_untouched b plan g (counted cpu g) zone lines places (counted_untouched b plan g cpu zone in-done next.1 none) i
    ])))) i

-- ---- settling

-- a CPU's visit that settles its late steps on a zone
abbrev settling : Bundle → Plan → Progress → ℕ → ℕ → Visit
settling b plan g cpu zone = record { round = g.round; cpu = cpu; count = length (late b plan g cpu zone); settled = true }

abbrev after_settling : Bundle → Plan → Progress → ℕ → ℕ → Progress
after_settling b plan g cpu zone = with_visit zone (settling b plan g cpu zone) g

-- what a settling makes of the zone
record HasSettled (b : Bundle) (plan : Plan) (g h : Progress) (cpu zone : ℕ) (lines : List (ℕ × Step)) (places : List (ℕ × ℕ)) : Type 0 where
  in_step : InStep b plan h zone lines places
  mine : late b plan h cpu zone ≡ []
  others : (other : ℕ) → other ≢ cpu → late b plan h other zone ≡ late b plan g other zone

settling_there : (b : Bundle) (plan : Plan) (g : Progress) (cpu zone : ℕ) (lines : List (ℕ × Step)) (places : List (ℕ × ℕ)) → cpu < b.cpus → zone < length plan.zones → IsSized b plan g → InStep b plan g zone lines places →
    HasSettled b plan g (after_settling b plan g cpu zone) cpu zone lines places
settling_there b plan g cpu zone lines places lt in-zones sized i =
    let p = params_of b plan zone in
    let journal = journal_at g zone in
    let lates = late b plan g cpu zone in
    let old = seen b plan g cpu zone in
    let k = carried cpu g.round journal in
    let v = settling b plan g cpu zone in
    let h = after_settling b plan g cpu zone in
    let le : k ≤ length old = i.done cpu in
    let few : length lates ≡ length old - k = length-drop k old in
    let journal_is : journal_at h zone ≡ journal ++ v ∷ [] = get_or-set_same g.journals zone (journal ++ v ∷ []) [] (subst (λ n. zone < n) (sym sized.journals) in-zones) in
    let all = lines_of_round b cpu g.round in
    let to = slice_index g.done cpu in
    let parted : steps_of b plan cpu zone g.round ≡ old ++ steps_among b plan zone (drop to all) =
    ap (λ lines. steps_among b plan zone lines) (sym (take-append-drop to all)) ∙ steps_among-append b plan zone (take to all) (drop to all) in
    let here : steps_carried b plan zone journal v ≡ Some (steps_by cpu lates) = visit_carries b plan zone journal v old (steps_among b plan zone (drop to all)) parted le refl in
    let mine : late b plan h cpu zone ≡ [] =
    ap (λ j. drop (carried cpu g.round j) old) journal_is ∙ ap (λ n. drop n old) (carried-mine cpu g.round journal v refl refl) ∙ drop_all (k + v.count) old (enough k (length old) (length lates) le few) in
    let others : (other : ℕ) → other ≢ cpu → late b plan h other zone ≡ late b plan g other zone =
    λ other ne. ap (λ j. drop (carried other g.round j) (seen b plan g other zone)) journal_is ∙ ap (λ n. drop n (seen b plan g other zone)) (carried-other other g.round journal v ne) in
    let settled = alike_settled p lines i.is.steps (λ cpu. late b plan g cpu zone) (λ cpu. late b plan h cpu zone) (answers_at zone g.log) i.is.undelayed i.is.delayed cpu lt i.is.alike (record { mine = mine; others = others }) in
    record {
      in_step = record {
        is = record {
          steps = i.is.steps ++ steps_by cpu lates;
          undelayed = i.is.undelayed;
          delayed = settled.0;
          spelled = ap (λ j. spell_after b plan zone [] j) journal_is ∙ spell_after-push b plan zone journal [] v i.is.steps (steps_by cpu lates) i.is.spelled here;
          alike = settled.1;
          used = i.is.used;
        };
        done = λ other.
            subst (λ j. carried other g.round j ≤ length (seen b plan g other zone)) (sym journal_is)
            (mine_or_other (λ other. carried other g.round (journal ++ v ∷ []) ≤ length (seen b plan g other zone)) cpu other
            (subst (λ n. n ≤ length old) (sym (carried-mine cpu g.round journal v refl refl)) (all_of k (length old) (length lates) le few))
            (λ ne. subst (λ n. n ≤ length (seen b plan g other zone)) (sym (carried-other other g.round journal v ne)) (i.done other)));
        later = λ other round below. ap (λ j. carried other round j) journal_is ∙ carried-later other round journal v below ∙ i.later other round below;
        printed = printed_settled p places journal (journal_at h zone) g.round (λ cpu. late b plan g cpu zone) (λ cpu. late b plan h cpu zone) i.is.undelayed.replies i.is.delayed.replies settled.0.replies i.is.delayed.end settled.0.end cpu
            i.printed (record { mine = mine; others = others }) settled.3 journal_is settled.2;
      };
      mine = mine;
      others = others;
    }
  where
    enough : (k old few : ℕ) → k ≤ old → few ≡ old - k → old ≤ k + few
    enough k old few le is = omega arith

    all_of : (k old few : ℕ) → k ≤ old → few ≡ old - k → k + few ≤ old
    all_of k old few le is = omega arith

-- a zone at a round's end
record IsEnding (b : Bundle) (plan : Plan) (round zone : ℕ) (lines : List (ℕ × Step)) (places : List (ℕ × ℕ)) (g : Progress) : Type 0 where
  sized : IsSized b plan g
  same : g.round ≡ round
  in_step : InStep b plan g zone lines places

-- CPUs that have no late steps on the zone have none then
abbrev KeepNone : Bundle → Plan → ℕ → Progress → Progress → Type 0
KeepNone b plan zone g h = (cpu : ℕ) → late b plan g cpu zone ≡ [] → late b plan h cpu zone ≡ []

one_settled : (b : Bundle) (plan : Plan) (round zone cpu at : ℕ) (lines : List (ℕ × Step)) (places : List (ℕ × ℕ)) (g : Progress) → cpu < b.cpus → zone < length plan.zones → at < length plan.zones → IsEnding b plan round zone lines places g →
    let h = with_settling b plan cpu g at in IsEnding b plan round zone lines places h × KeepNone b plan zone g h × (zone ≡ at → late b plan h cpu zone ≡ [])
one_settled b plan round zone cpu at lines places g lt in-zones in-at is =
    elim (nat_lt 0 (length (late b plan g cpu at))) as (λ t. nat_lt 0 (length (late b plan g cpu at)) ≡ t →
    let h = if t then after_settling b plan g cpu at else g in IsEnding b plan round zone lines places h × KeepNone b plan zone g h × (zone ≡ at → late b plan h cpu zone ≡ [])) [
      | true ↦ λ e. settled_now
      | false ↦ λ e. (is, λ other none. none, λ same. subst (λ zone. late b plan g cpu zone ≡ []) (sym same) (nil_from_length (late b plan g cpu at) (none_of (length (late b plan g cpu at)) e)))
    ] refl
  where
    none_of : (n : ℕ) → nat_lt 0 n ≡ false → n ≡ 0
    none_of n e = grind arith

    sized : IsSized b plan (after_settling b plan g cpu at)
    sized = record { journals = length-set g.journals at (journal_at g at ++ settling b plan g cpu at ∷ []) ∙ is.sized.journals; done = is.sized.done }

    settled_now : let h = after_settling b plan g cpu at in IsEnding b plan round zone lines places h × KeepNone b plan zone g h × (zone ≡ at → late b plan h cpu zone ≡ [])
    settled_now =
        mine_or_other (λ zone. zone < length plan.zones → InStep b plan g zone lines places → let h = after_settling b plan g cpu at in IsEnding b plan round zone lines places h × KeepNone b plan zone g h × (zone ≡ at → late b plan h cpu zone ≡ [])) at zone
        (λ in-zones i.
        let done = settling_there b plan g cpu at lines places lt in-at is.sized i in (
          record { sized = sized; same = is.same; in_step = done.in_step },
          λ other none. mine_or_other (λ other. late b plan g other at ≡ [] → late b plan (after_settling b plan g cpu at) other at ≡ []) cpu other (λ none. done.mine) (λ ne none. done.others other ne ∙ none) none,
          λ same. done.mine,
        ))
        (λ ne in-zones i.
        let untouched : IsUntouched b plan g (after_settling b plan g cpu at) zone =
        record { round = refl; journal = get_or-set_other g.journals at zone (journal_at g at ++ settling b plan g cpu at ∷ []) [] ne; answers = refl; seen = λ cpu. refl } in (
          record { sized = sized; same = is.same; in_step = in_step_untouched b plan g (after_settling b plan g cpu at) zone lines places untouched i },
          λ other none. late_untouched b plan g (after_settling b plan g cpu at) zone other untouched ∙ none,
          λ same. absurd (ne same),
        )) in-zones is.in_step

-- a CPU settles on these zones
zones_settled : (b : Bundle) (plan : Plan) (round zone cpu : ℕ) (lines : List (ℕ × Step)) (places : List (ℕ × ℕ)) (n from : ℕ) (g : Progress) → cpu < b.cpus → zone < length plan.zones → from + n ≤ length plan.zones → IsEnding b plan round zone lines places g →
    let h = fold (with_settling b plan cpu) g (range_with_len from n) in IsEnding b plan round zone lines places h × KeepNone b plan zone g h × (from ≤ zone → zone < from + n → late b plan h cpu zone ≡ [])
zones_settled b plan round zone cpu lines places zero from g lt in-zones le is = (is, λ other none. none, λ low high. absurd (omega arith))
zones_settled b plan round zone cpu lines places (suc n) from g lt in-zones le is =
    let one = one_settled b plan round zone cpu from lines places g lt in-zones (omega arith) is in
    let more = zones_settled b plan round zone cpu lines places n (from + 1) (with_settling b plan cpu g from) lt in-zones (omega arith) one.0 in (
      more.0,
      λ other none. more.1 other (one.1 other none),
      λ low high.
          elim (zone == from) as (λ t. (zone == from) ≡ t → late b plan (fold (with_settling b plan cpu) (with_settling b plan cpu g from) (range_with_len (from + 1) n)) cpu zone ≡ []) [
            | true ↦ λ e. more.1 cpu (one.2 (grind arith))
            | false ↦ λ e. let ne : zone ≢ from = grind arith in more.2 (omega arith) (omega arith)
          ] refl,
    )

abbrev settled_on_all : Bundle → Plan → Progress → ℕ → Progress
settled_on_all b plan before cpu = fold (with_settling b plan cpu) before (range_with_len 0 (length plan.zones))

-- these CPUs settle on each zone
cpus_settled : (b : Bundle) (plan : Plan) (round zone : ℕ) (lines : List (ℕ × Step)) (places : List (ℕ × ℕ)) (n from : ℕ) (g : Progress) → zone < length plan.zones → from + n ≤ b.cpus → IsEnding b plan round zone lines places g →
    let h = fold (settled_on_all b plan) g (range_with_len from n) in IsEnding b plan round zone lines places h × KeepNone b plan zone g h × ((cpu : ℕ) → from ≤ cpu → cpu < from + n → late b plan h cpu zone ≡ [])
cpus_settled b plan round zone lines places zero from g in-zones le is = (is, λ other none. none, λ cpu low high. absurd (omega arith))
cpus_settled b plan round zone lines places (suc n) from g in-zones le is =
    let one = zones_settled b plan round zone from lines places (length plan.zones) 0 g (omega arith) in-zones (omega arith) is in
    let more = cpus_settled b plan round zone lines places n (from + 1) (settled_on_all b plan g from) in-zones (omega arith) one.0 in (
      more.0,
      λ other none. more.1 other (one.1 other none),
      λ cpu low high.
          elim (cpu == from) as (λ t. (cpu == from) ≡ t → late b plan (fold (settled_on_all b plan) (settled_on_all b plan g from) (range_with_len (from + 1) n)) cpu zone ≡ []) [
            | true ↦ λ e.
                let same : cpu ≡ from = grind arith in
                more.1 cpu (subst (λ cpu. late b plan (settled_on_all b plan g from) cpu zone ≡ []) (sym same) (one.2 (omega arith) (omega arith)))
            | false ↦ λ e. let ne : cpu ≢ from = grind arith in more.2 cpu (omega arith) (omega arith)
          ] refl,
    )

-- a CPU that is none of the bundle's has no late steps
none_past : (b : Bundle) (plan : Plan) (g : Progress) (cpu zone : ℕ) → length g.done ≤ cpu → late b plan g cpu zone ≡ []
none_past b plan g cpu zone le =
    ap (λ n. drop (carried cpu g.round (journal_at g zone)) (steps_among b plan zone (take n (lines_of_round b cpu g.round)))) (get_or_past g.done cpu 0 le)
    ∙ drop-nil (carried cpu g.round (journal_at g zone))

-- at a round's end no CPU has late steps
all_settled : (b : Bundle) (plan : Plan) (zone : ℕ) (lines : List (ℕ × Step)) (places : List (ℕ × ℕ)) (g : Progress) → zone < length plan.zones → IsSized b plan g → InStep b plan g zone lines places →
    IsEnding b plan g.round zone lines places (with_round_settled b plan g) × ((cpu : ℕ) → late b plan (with_round_settled b plan g) cpu zone ≡ [])
all_settled b plan zone lines places g in-zones sized i =
    let all = cpus_settled b plan g.round zone lines places b.cpus 0 g in-zones (omega arith) (record { sized = sized; same = refl; in_step = i }) in (
      all.0,
      λ cpu.
          elim (nat_lt cpu b.cpus) as (λ t. nat_lt cpu b.cpus ≡ t → late b plan (with_round_settled b plan g) cpu zone ≡ []) [
            | true ↦ λ e. let lt : cpu < b.cpus = grind arith in all.2 cpu (omega arith) (omega arith)
            | false ↦ λ e. let past : b.cpus ≤ cpu = grind arith in none_past b plan (with_round_settled b plan g) cpu zone (subst (λ n. n ≤ cpu) (sym all.0.sized.done) past)
          ] refl,
    )

-- ---- a round's end

pub zeros : (n i : ℕ) → slice_index (replicate n 0) i ≡ 0
zeros zero i = refl
zeros (suc n) zero = refl
zeros (suc n) (suc i) = zeros n i

-- before a CPU's first line of a round it has no late steps
none_yet : (b : Bundle) (plan : Plan) (g : Progress) (cpu zone : ℕ) → slice_index g.done cpu ≡ 0 → late b plan g cpu zone ≡ []
none_yet b plan g cpu zone none =
    ap (λ n. drop (carried cpu g.round (journal_at g zone)) (steps_among b plan zone (take n (lines_of_round b cpu g.round)))) none
    ∙ drop-nil (carried cpu g.round (journal_at g zone))

pub round_keeps : (b : Bundle) (plan : Plan) (g : Progress) (zone : ℕ) (lines : List (ℕ × Step)) (places : List (ℕ × ℕ)) → zone < length plan.zones → IsSized b plan g → InStep b plan g zone lines places →
    IsSized b plan (order_step b plan g Round) × InStep b plan (order_step b plan g Round) zone lines places
round_keeps b plan g zone lines places in-zones sized i =
    let p = params_of b plan zone in
    let all = all_settled b plan zone lines places g in-zones sized i in
    let before = with_round_settled b plan g in
    let h = order_step b plan g Round in
    let s = all.0.in_step in
    let now : (cpu : ℕ) → late b plan h cpu zone ≡ late b plan before cpu zone = λ cpu. none_yet b plan h cpu zone (zeros b.cpus cpu) ∙ sym (all.1 cpu) in (
      record { journals = all.0.sized.journals; done = length-replicate {A = ℕ} b.cpus 0 },
      record {
        is = record {
          steps = s.is.steps;
          undelayed = s.is.undelayed;
          delayed = s.is.delayed;
          spelled = s.is.spelled;
          alike = alike_same p lines s.is.steps (λ cpu. late b plan before cpu zone) (λ cpu. late b plan h cpu zone) (answers_at zone before.log) s.is.undelayed s.is.delayed now s.is.alike;
          used = s.is.used;
        };
        done = λ cpu. subst (λ n. n ≤ length (seen b plan h cpu zone)) (sym (s.later cpu (g.round + 1) (subst (λ n. n < g.round + 1) (sym all.0.same) (omega arith)))) (omega arith);
        later = λ cpu round below. s.later cpu round (subst (λ n. n < round) (sym all.0.same) (omega arith));
        printed = printed_round p places (journal_at before zone) before.round (g.round + 1) (λ cpu. late b plan before cpu zone) (λ cpu. late b plan h cpu zone) s.is.undelayed.replies s.is.delayed.replies s.is.delayed.end
            all.1 (λ cpu. none_yet b plan h cpu zone (zeros b.cpus cpu)) s.printed;
      },
    )

-- ---- the whole order

pub no_journal : (n i : ℕ) → slice_index_or {A = List Visit} (replicate n []) i [] ≡ []
no_journal zero i = refl
no_journal (suc n) zero = refl
no_journal (suc n) (suc i) = no_journal n i

pub at_start : (b : Bundle) (plan : Plan) (zone : ℕ) → IsSized b plan (opening_progress b plan) × InStep b plan (opening_progress b plan) zone [] []
at_start b plan zone =
    let p = params_of b plan zone in
    let g = opening_progress b plan in
    let journal : journal_at g zone ≡ [] = no_journal (length plan.zones) zone in (
      record { journals = length-replicate {A = List Visit} (length plan.zones) []; done = length-replicate {A = ℕ} b.cpus 0 },
      record {
        is = record {
          steps = [];
          undelayed = no_steps p [];
          delayed = no_steps p [];
          spelled = ap (λ j. spell_after b plan zone [] j) journal;
          alike = alike_none p (λ cpu. late b plan g cpu zone) [] (λ cpu. none_yet b plan g cpu zone (zeros b.cpus cpu));
          used = refl;
        };
        done = λ cpu. subst (λ j. carried cpu 0 j ≤ length (seen b plan g cpu zone)) (sym journal) (omega arith);
        later = λ cpu round below. ap (λ j. carried cpu round j) journal;
        printed = printed_same p [] [] (journal_at g zone) 0 (λ cpu. []) (λ cpu. late b plan g cpu zone) [] [] (opening p) journal (λ cpu. none_yet b plan g cpu zone (zeros b.cpus cpu)) (printed_none p (opening p));
      },
    )

lines_keep : (b : Bundle) (plan : Plan) (zone : ℕ) (lines : List OrderLine) (g : Progress) (before : List (ℕ × Step)) (places : List (ℕ × ℕ)) → zone < length plan.zones → AreNextLines b plan g lines → IsSized b plan g → InStep b plan g zone before places →
    let h = fold (order_step b plan) g lines in IsSized b plan h × InStep b plan h zone (before ++ lines_at b plan zone g lines) (places ++ places_at b plan zone g lines)
lines_keep b plan zone [] g before places in-zones next sized i =
    (sized, subst (λ (l : List (ℕ × Step)). InStep b plan g zone l (places ++ [])) (sym (append-nil before)) (subst (λ (l : List (ℕ × ℕ)). InStep b plan g zone before l) (sym (append-nil places)) i))
lines_keep b plan zone (Cpu cpu ∷ lines) g before places in-zones next sized i =
    let here = next_there b plan zone g cpu in
    let there = map (λ (step : ℕ × Step). (g.round, step.0)) here in
    let after = order_step b plan g (Cpu cpu) in
    let more = lines_keep b plan zone lines after (before ++ here) (places ++ there) in-zones next.1 (one_step_sized b plan g cpu sized) (one_step_keeps b plan g cpu zone before places sized next.0 i) in (
      more.0,
      subst (λ (l : List (ℕ × Step)). InStep b plan (fold (order_step b plan) after lines) zone l (places ++ (there ++ places_at b plan zone after lines))) (append_assoc before here (lines_at b plan zone after lines))
          (subst (λ (l : List (ℕ × ℕ)). InStep b plan (fold (order_step b plan) after lines) zone ((before ++ here) ++ lines_at b plan zone after lines) l) (append_assoc places there (places_at b plan zone after lines)) more.1),
    )
lines_keep b plan zone (Round ∷ lines) g before places in-zones next sized i =
    let now = round_keeps b plan g zone before places in-zones sized i in lines_keep b plan zone lines (order_step b plan g Round) before places in-zones next.1 now.0 now.1

pub order_is_alike : (b : Bundle) (plan : Plan) (lines : List OrderLine) (zone : ℕ) → zone < length plan.zones → AreNextLines b plan (opening_progress b plan) lines →
    IsAlikeAt b plan (fold (order_step b plan) (opening_progress b plan) lines) zone (lines_at b plan zone (opening_progress b plan) lines)
order_is_alike b plan lines zone in-zones next =
    let start = at_start b plan zone in (lines_keep b plan zone lines (opening_progress b plan) [] [] in-zones next start.0 start.1).1.is

pub used_all : (p : List Answer → Option Course) (answers : List Answer) (c : Course) → p answers ≡ Some c → c.left ≡ [] → option_map_or all_used (p answers) None ≡ Some c
used_all p answers c is none = ap (λ (o : Option Course). option_map_or all_used o None) is ∙ ap (λ (l : List Answer). if length l == 0 then Some c else None) none

pub order_run_is_same : (b : Bundle) (plan : Plan) (zone : ℕ) → zone < length plan.zones → AreNextLines b plan (opening_progress b plan) (order_of b) →
    IsSameAt b plan (order_run b plan) zone (lines_at b plan zone (opening_progress b plan) (order_of b)) (places_at b plan zone (opening_progress b plan) (order_of b))
order_run_is_same b plan zone in-zones next =
    let p = params_of b plan zone in
    let lines = lines_at b plan zone (opening_progress b plan) (order_of b) in
    let places = places_at b plan zone (opening_progress b plan) (order_of b) in
    let start = at_start b plan zone in
    let kept = lines_keep b plan zone (order_of b) (opening_progress b plan) [] [] in-zones next start.0 start.1 in
    let all = all_settled b plan zone lines places (fold (order_step b plan) (opening_progress b plan) (order_of b)) in-zones kept.0 kept.1 in
    let run = order_run b plan in
    let is = all.0.in_step.is in
    let answers = answers_at zone run.log in
    let delayed : alone_at b plan run.journals run.log zone ≡ Some is.delayed =
    ap (λ (o : Option (List (ℕ × Step))). option_map_or (λ steps. alone p steps answers) o None) is.spelled
    ∙ used_all (course p (opening p) is.steps) answers is.delayed is.alike.delayed_is (sym is.alike.left ∙ is.used) in
    record {
      steps = is.steps;
      undelayed = is.undelayed;
      delayed = is.delayed;
      spelled = is.spelled;
      undelayed_is = used_all (course p (opening p) lines) answers is.undelayed is.alike.undelayed_is is.used;
      delayed_is = delayed;
      asks = is.alike.asks;
      end = none_late p is.undelayed.end is.delayed.end (λ cpu. late b plan run cpu zone) is.alike.state (λ cpu lt. all.1 cpu);
      replies = λ cpu lt. is.alike.replies cpu lt ∙ ap (λ (steps : List Step). answered_by cpu is.steps is.delayed.replies ++ answered_late p (cpu_part is.delayed.end cpu) steps) (all.1 cpu) ∙ append-nil (answered_by cpu is.steps is.delayed.replies);
      printed = λ cpu round.
          let read = replies_carried cpu round (journal_at run zone) in
          all.0.in_step.printed.same cpu round
          ∙ ap (λ (l : List Reply). read is.delayed.replies ++ l) (nothing_if (run.round == round) (replies_of p (cpu_part is.delayed.end cpu) (late b plan run cpu zone)) (ap (λ (steps : List Step). replies_of p (cpu_part is.delayed.end cpu) steps) (all.1 cpu)))
          ∙ append-nil (read is.delayed.replies)
          ∙ ap (λ (o : Option Course). read (option_map_or (λ (c : Course). c.replies) o [])) (sym delayed);
    }

-- a line counts for its CPU
pub step_counts : (b : Bundle) (plan : Plan) (g : Progress) (cpu : ℕ) → ((one_step b plan cpu g).done ≡ slice_set g.done cpu (slice_index g.done cpu + 1)) × ((one_step b plan cpu g).round ≡ g.round)
step_counts b plan g cpu =
    let there = addressed b plan (next_line b cpu g).act in
    let state = state_with_late b plan g cpu there.0 in
    elim (needs_visit (params_of b plan there.0) (cpu_part state cpu) there.1) as (λ t.
    let h = if t then visit_made b plan cpu g there.0 there.1 state else counted cpu g in (h.done ≡ slice_set g.done cpu (slice_index g.done cpu + 1)) × (h.round ≡ g.round)) [
      | true ↦ (refl, refl)
      | false ↦ (refl, refl)
    ]
