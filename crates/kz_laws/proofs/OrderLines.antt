-- A line of an order keeps each zone alike to its undelayed lines.
use Rattle.std.proofs.Common.{◌≡◌, ◌≢◌, ◌<◌, ◌≤◌, ℕ, suc, ◌==◌, ◌+◌, ◌-◌, ◌&&◌, nat_le, true, false, if◌then◌else◌, List, [], ◌∷◌, ◌++◌, length, map, take, drop, slice_index, slice_index_or, Option, None, Some, refl, ap, sym, ◌∙◌, subst, arith, append_assoc, length-append, add-zero}
use Rattle.std.specs.List.{zip}
use Rattle.std.specs.Option.{option_map_or}
use Rattle.std.proofs.Math.Seq.{take-append_seam}
use Rattle.std.proofs.lemmas.List.{append-nil, get_or-set_same, get_or-set_other, length-map, length-drop, take_more, take-append-drop, drop-append-le, drop_all, map-append}
use Rattle.std.proofs.lemmas.List.Elements.{filter-append}
use Rattle.kz_model.specs.declared.bundle.Bundle.{Bundle}
use Rattle.kz_model.specs.declared.bundle.Act.TheVariants as act
use Rattle.kz_model.specs.declared.step.Step.{Step}
use Rattle.kz_model.specs.declared.record.Plan.{Plan}
use Rattle.kz_model.specs.declared.record.Visit.{Visit}
use Rattle.kz_model.specs.declared.record.ZoneParams.{ZoneParams}
use Rattle.kz_model.specs.declared.supply.SupplyEntry.{SupplyEntry}
use Rattle.kz_model.specs.declared.supply.Ask.{Ask}
use Rattle.kz_model.specs.declared.supply.Answer.{Answer}
use Rattle.kz_model.specs.Zone.State.{ZoneState, CpuPart, Shared, opening, cpu_part}
use Rattle.kz_model.specs.Zone.Rules.{Stepped, needs_visit, asks_of, part_of, put_back, all_answered, alone_step}
use Rattle.kz_model.proofs.Addressed.{steps_among-append}
use Rattle.kz_model.specs.Zone.Alone.{Course}
use Rattle.kz_model.specs.Run.Supply.{Stock, opening_stock, answer_of, stock_after, answers_from, supply_answers}
use Rattle.kz_model.specs.Run.Journal.{params_of, lines_of_round, steps_among, steps_of, carried, steps_carried, spell_after, log_at, answers_at}
use Rattle.kz_model.specs.Run.Order.{Progress, late, counted, visit_made, next_line}
use Rattle.kz_model.specs.Zone.Late.{AnswersAlike, NeedNone, part_after, answered_late, answered_by, by_cpu as steps_by}
use Rattle.kz_laws.specs.Undelayed.{IsAlikeAt}
use Rattle.kz_model.proofs.Answered.{answered-supply}
use Rattle.kz_model.proofs.MoreAnswers.{with_more, course-more}
use Rattle.kz_laws.proofs.Spelling.{carried-append}
use Rattle.kz_laws.proofs.Undelayed.{IsLateNow, mine_or_other}
use Rattle.kz_model.specs.Zone.Local.{local_answer}
use Rattle.kz_laws.proofs.Printed.{ArePrinted, printed_late, printed_visit, printed_same}
use Rattle.kz_laws.proofs.Alike.{cpu_in, with_line, stepped_alone, alike_late, alike_visited}

-- ---- steps and visits of a zone

pub carried-push : (cpu round : ℕ) (visits : List Visit) (v : Visit) → carried cpu round (visits ++ v ∷ []) ≡ carried cpu round visits + (if (v.cpu == cpu) && (v.round == round) then v.count else 0)
carried-push cpu round visits v = carried-append cpu round visits (v ∷ []) ∙ ap (λ n. carried cpu round visits + n) (add-zero (if (v.cpu == cpu) && (v.round == round) then v.count else 0))

-- a visit of this CPU in this round counts, no other does
pub carried-mine : (cpu round : ℕ) (visits : List Visit) (v : Visit) → v.cpu ≡ cpu → v.round ≡ round → carried cpu round (visits ++ v ∷ []) ≡ carried cpu round visits + v.count
carried-mine cpu round visits v same at =
    let one : (v.cpu == cpu) ≡ true = grind arith in
    let two : (v.round == round) ≡ true = grind arith in
    carried-push cpu round visits v ∙ ap (λ t. carried cpu round visits + (if t && (v.round == round) then v.count else 0)) one ∙ ap (λ t. carried cpu round visits + (if t then v.count else 0)) two

pub carried-other : (cpu round : ℕ) (visits : List Visit) (v : Visit) → cpu ≢ v.cpu → carried cpu round (visits ++ v ∷ []) ≡ carried cpu round visits
carried-other cpu round visits v ne =
    let one : (v.cpu == cpu) ≡ false = grind arith in
    carried-push cpu round visits v ∙ ap (λ t. carried cpu round visits + (if t && (v.round == round) then v.count else 0)) one ∙ add-zero (carried cpu round visits)

pub carried-later : (cpu round : ℕ) (visits : List Visit) (v : Visit) → v.round < round → carried cpu round (visits ++ v ∷ []) ≡ carried cpu round visits
carried-later cpu round visits v lt =
    let one : (v.round == round) ≡ false = grind arith in
    carried-push cpu round visits v ∙ ap (λ t. carried cpu round visits + (if (v.cpu == cpu) && t then v.count else 0)) one
    ∙ ap (λ n. carried cpu round visits + n) (elim (v.cpu == cpu) as (λ t. (if t && false then v.count else 0) ≡ 0) [ true ↦ refl | false ↦ refl ]) ∙ add-zero (carried cpu round visits)

-- one more visit is spelled at the end
pub spell_after-push : (b : Bundle) (plan : Plan) (zone : ℕ) (visits earlier : List Visit) (v : Visit) (steps here : List (ℕ × Step)) →
    spell_after b plan zone earlier visits ≡ Some steps → steps_carried b plan zone (earlier ++ visits) v ≡ Some here → spell_after b plan zone earlier (visits ++ v ∷ []) ≡ Some (steps ++ here)
spell_after-push b plan zone [] earlier v steps here is next =
    let now : steps_carried b plan zone earlier v ≡ Some here = ap (λ visits. steps_carried b plan zone visits v) (sym (append-nil earlier)) ∙ next in
    ap (λ (o : Option (List (ℕ × Step))). option_map_or (λ here. option_map_or (λ rest. Some (here ++ rest)) (spell_after b plan zone (earlier ++ v ∷ []) []) None) o None) now
    ∙ ap (λ (l : List (ℕ × Step)). Some l) (append-nil here)
    ∙ ap (λ (l : List (ℕ × Step)). Some (l ++ here)) (same [] steps is)
  where
    same : (a c : List (ℕ × Step)) → Some a ≡ Some c → a ≡ c
    same a c e = cc
spell_after-push b plan zone (w ∷ visits) earlier v steps here is next =
    elim (steps_carried b plan zone earlier w) as (λ (o : Option (List (ℕ × Step))).
    option_map_or (λ here. option_map_or (λ rest. Some (here ++ rest)) (spell_after b plan zone (earlier ++ w ∷ []) visits) None) o None ≡ Some steps →
    option_map_or (λ here. option_map_or (λ rest. Some (here ++ rest)) (spell_after b plan zone (earlier ++ w ∷ []) (visits ++ v ∷ [])) None) o None ≡ Some (steps ++ here)) [
      | None ↦ λ e. absurd (cc)
      | Some first ↦ λ e.
          by_rest first (spell_after b plan zone (earlier ++ w ∷ []) visits)
          (λ rest f. spell_after-push b plan zone visits (earlier ++ w ∷ []) v rest here f (ap (λ visits. steps_carried b plan zone visits v) (append_assoc earlier (w ∷ []) visits) ∙ next)) e
    ] is
  where
    same : (a c : List (ℕ × Step)) → Some a ≡ Some c → a ≡ c
    same a c e = cc

    by_rest : (first : List (ℕ × Step)) (r : Option (List (ℕ × Step))) →
        ((rest : List (ℕ × Step)) → r ≡ Some rest → spell_after b plan zone (earlier ++ w ∷ []) (visits ++ v ∷ []) ≡ Some (rest ++ here)) →
        option_map_or (λ rest. Some (first ++ rest)) r None ≡ Some steps → option_map_or (λ rest. Some (first ++ rest)) (spell_after b plan zone (earlier ++ w ∷ []) (visits ++ v ∷ [])) None ≡ Some (steps ++ here)
    by_rest first None again e = absurd (cc)
    by_rest first (Some rest) again e =
        ap (λ (o : Option (List (ℕ × Step))). option_map_or (λ rest. Some (first ++ rest)) o None) (again rest refl)
        ∙ ap (λ (l : List (ℕ × Step)). Some l) (sym (append_assoc first rest here))
        ∙ ap (λ (l : List (ℕ × Step)). Some (l ++ here)) (same (first ++ rest) steps e)

within : (n m : ℕ) → n ≤ m → nat_le n m ≡ true
within n m h = grind arith

-- a visit carries what a CPU has done of its steps there and was not carried yet
pub visit_carries : (b : Bundle) (plan : Plan) (zone : ℕ) (journal : List Visit) (v : Visit) (xs ys : List Step) → steps_of b plan v.cpu zone v.round ≡ xs ++ ys → carried v.cpu v.round journal ≤ length xs →
    v.count ≡ length (drop (carried v.cpu v.round journal) xs) → steps_carried b plan zone journal v ≡ Some (steps_by v.cpu (drop (carried v.cpu v.round journal) xs))
visit_carries b plan zone journal v xs ys parted le count =
    let k = carried v.cpu v.round journal in
    let fits : nat_le (k + v.count) (length (xs ++ ys)) ≡ true = within (k + v.count) (length (xs ++ ys)) (omega (arith, count, length-append xs ys, length-drop k xs)) in
    let front : take v.count (drop k (xs ++ ys)) ≡ drop k xs = ap (λ (l : List Step). take v.count l) (drop-append-le k xs ys le) ∙ ap (λ n. take n (drop k xs ++ ys)) count ∙ take-append_seam (drop k xs) ys in
    ap (λ (steps : List Step). if nat_le (k + v.count) (length steps) then Some (steps_by v.cpu (take v.count (drop k steps))) else None) parted
    ∙ ap (λ t. if t then Some (steps_by v.cpu (take v.count (drop k (xs ++ ys)))) else None) fits
    ∙ ap (λ (l : List Step). Some (steps_by v.cpu l)) front

-- ---- the log

abbrev pub entries : ℕ → List Ask → List Answer → List SupplyEntry
entries zone asks answers = map (λ pair. record { zone = zone; ask = pair.0; answer = pair.1 }) (zip asks answers)

same_number : (n : ℕ) → (n == n) ≡ true
same_number n = grind arith

pub entries_there : (zone : ℕ) (asks : List Ask) (answers : List Answer) → length answers ≡ length asks → answers_at zone (entries zone asks answers) ≡ answers
entries_there zone [] [] same = refl
entries_there zone [] (a ∷ answers) same = absurd (omega arith)
entries_there zone (a ∷ asks) [] same = absurd (omega arith)
entries_there zone (ask ∷ asks) (a ∷ answers) same =
    let is = same_number zone in rw is (ap (λ (l : List Answer). a ∷ l) (entries_there zone asks answers (omega arith)))

pub entries_elsewhere : (zone other : ℕ) (asks : List Ask) (answers : List Answer) → other ≢ zone → answers_at other (entries zone asks answers) ≡ []
entries_elsewhere zone other [] answers ne = refl
entries_elsewhere zone other (a ∷ asks) [] ne = refl
entries_elsewhere zone other (ask ∷ asks) (a ∷ answers) ne =
    let is : (zone == other) ≡ false = grind arith in rw is (entries_elsewhere zone other asks answers ne)

pub answers_at-append : (zone : ℕ) (xs ys : List SupplyEntry) → answers_at zone (xs ++ ys) ≡ answers_at zone xs ++ answers_at zone ys
answers_at-append zone xs ys =
    ap (λ (l : List SupplyEntry). map (λ (entry : SupplyEntry). entry.answer) l) (filter-append (λ (entry : SupplyEntry). entry.zone == zone) xs ys)
    ∙ map-append (λ (entry : SupplyEntry). entry.answer) (log_at zone xs) (log_at zone ys)

-- the answers after these asks are the supply's from some stock
answers_after : (pages : ℕ) (stock : Stock) (xs asks : List Ask) → (st : Stock) × (drop (length xs) (answers_from pages stock (xs ++ asks)) ≡ answers_from pages st asks)
answers_after pages stock [] asks = (stock, refl)
answers_after pages stock (x ∷ xs) asks = answers_after pages (stock_after stock x (answer_of pages stock x)) xs asks

length-answers : (pages : ℕ) (stock : Stock) (asks : List Ask) → length (answers_from pages stock asks) ≡ length asks
length-answers pages stock [] = refl
length-answers pages stock (ask ∷ asks) = ap (λ n. suc n) (length-answers pages (stock_after stock ask (answer_of pages stock ask)) asks)

-- the supply's answers to a zone's asks after this log
abbrev pub new_answers : Bundle → List SupplyEntry → List Ask → List Answer
new_answers b log asks = drop (length log) (supply_answers b.frames b.pages (map (λ entry. entry.ask) log ++ asks))

pub record AreNew (asks : List Ask) (answers : List Answer) : Type 0 where
  pub all : all_answered asks answers ≡ true
  pub long : length answers ≡ length asks

pub are_new : (b : Bundle) (log : List SupplyEntry) (asks : List Ask) → AreNew asks (new_answers b log asks)
are_new b log asks =
    let xs = map (λ (entry : SupplyEntry). entry.ask) log in
    let after = answers_after b.pages (opening_stock b.frames) xs asks in
    let is : new_answers b log asks ≡ answers_from b.pages after.0 asks =
    ap (λ n. drop n (supply_answers b.frames b.pages (xs ++ asks))) (sym (length-map log (λ (entry : SupplyEntry). entry.ask))) ∙ after.1 in
    subst (AreNew asks) (sym is) (record { all = answered-supply b.pages after.0 asks; long = length-answers b.pages after.0 asks })

-- ---- with more answers, and with equal late steps

pub alike_more : (p : ZoneParams) (lines made : List (ℕ × Step)) (late : ℕ → List Step) (answers more : List Answer) (u c : Course) → AnswersAlike p lines made late answers u c → AnswersAlike p lines made late (answers ++ more) (with_more more u) (with_more more c)
alike_more p lines made late answers more u c is =
    record {
      undelayed_is = course-more p (opening p) lines answers more u is.undelayed_is;
      delayed_is = course-more p (opening p) made answers more c is.delayed_is;
      left = ap (λ (l : List Answer). l ++ more) is.left;
      asks = is.asks;
      state = is.state;
      replies = is.replies;
    }

pub alike_same : (p : ZoneParams) (lines made : List (ℕ × Step)) (late now : ℕ → List Step) (answers : List Answer) (u c : Course) → ((cpu : ℕ) → now cpu ≡ late cpu) → AnswersAlike p lines made late answers u c → AnswersAlike p lines made now answers u c
alike_same p lines made late now answers u c same is =
    record {
      undelayed_is = is.undelayed_is;
      delayed_is = is.delayed_is;
      left = is.left;
      asks = is.asks;
      state = record {
        shared = is.state.shared;
        cpus = is.state.cpus;
        own = λ cpu lt. is.state.own cpu lt ∙ ap (λ (steps : List Step). part_after p (cpu_part c.end cpu) steps) (sym (same cpu));
        none = λ cpu lt. subst (λ (steps : List Step). NeedNone p (cpu_part c.end cpu) steps) (sym (same cpu)) (is.state.none cpu lt);
      };
      replies = λ cpu lt. is.replies cpu lt ∙ ap (λ (steps : List Step). answered_by cpu made c.replies ++ answered_late p (cpu_part c.end cpu) steps) (sym (same cpu));
    }

-- ---- a zone that is alike, and how much of each CPU's steps it carries

abbrev pub journal_at : Progress → ℕ → List Visit
journal_at g zone = slice_index_or g.journals zone []

-- a CPU's steps on a zone that are done in this round
abbrev pub seen : Bundle → Plan → Progress → ℕ → ℕ → List Step
seen b plan g cpu zone = steps_among b plan zone (take (slice_index g.done cpu) (lines_of_round b cpu g.round))

pub record IsSized (b : Bundle) (plan : Plan) (g : Progress) : Type 0 where
  pub journals : length g.journals ≡ length plan.zones
  pub done : length g.done ≡ b.cpus

pub record InStep (b : Bundle) (plan : Plan) (g : Progress) (zone : ℕ) (lines : List (ℕ × Step)) (places : List (ℕ × ℕ)) : Type 0 where
  pub is : IsAlikeAt b plan g zone lines
  pub done : (cpu : ℕ) → carried cpu g.round (journal_at g zone) ≤ length (seen b plan g cpu zone)
  pub later : (cpu round : ℕ) → g.round < round → carried cpu round (journal_at g zone) ≡ 0
  pub printed : ArePrinted (params_of b plan zone) places (journal_at g zone) g.round (λ cpu. late b plan g cpu zone) is.undelayed.replies is.delayed.replies is.delayed.end

-- a zone that nothing touched
pub record IsUntouched (b : Bundle) (plan : Plan) (g h : Progress) (zone : ℕ) : Type 0 where
  pub round : h.round ≡ g.round
  pub journal : journal_at h zone ≡ journal_at g zone
  pub answers : answers_at zone h.log ≡ answers_at zone g.log
  pub seen : (cpu : ℕ) → steps_among b plan zone (take (slice_index h.done cpu) (lines_of_round b cpu h.round)) ≡ steps_among b plan zone (take (slice_index g.done cpu) (lines_of_round b cpu g.round))

pub late_untouched : (b : Bundle) (plan : Plan) (g h : Progress) (zone cpu : ℕ) → IsUntouched b plan g h zone → late b plan h cpu zone ≡ late b plan g cpu zone
late_untouched b plan g h zone cpu same =
    ap (λ round. drop (carried cpu round (journal_at h zone)) (seen b plan h cpu zone)) same.round
    ∙ ap (λ journal. drop (carried cpu g.round journal) (seen b plan h cpu zone)) same.journal
    ∙ ap (λ (l : List Step). drop (carried cpu g.round (journal_at g zone)) l) (same.seen cpu)

pub in_step_untouched : (b : Bundle) (plan : Plan) (g h : Progress) (zone : ℕ) (lines : List (ℕ × Step)) (places : List (ℕ × ℕ)) → IsUntouched b plan g h zone → InStep b plan g zone lines places → InStep b plan h zone lines places
in_step_untouched b plan g h zone lines places same i =
    let p = params_of b plan zone in
    record {
      is = record {
        steps = i.is.steps;
        undelayed = i.is.undelayed;
        delayed = i.is.delayed;
        spelled = ap (λ journal. spell_after b plan zone [] journal) same.journal ∙ i.is.spelled;
        alike = subst (λ answers. AnswersAlike p lines i.is.steps (λ cpu. late b plan h cpu zone) answers i.is.undelayed i.is.delayed) (sym same.answers)
            (alike_same p lines i.is.steps (λ cpu. late b plan g cpu zone) (λ cpu. late b plan h cpu zone) (answers_at zone g.log) i.is.undelayed i.is.delayed (λ cpu. late_untouched b plan g h zone cpu same) i.is.alike);
        used = i.is.used;
      };
      done = λ cpu.
          let one : carried cpu h.round (journal_at h zone) ≡ carried cpu g.round (journal_at g zone) = ap (λ round. carried cpu round (journal_at h zone)) same.round ∙ ap (λ journal. carried cpu g.round journal) same.journal in
          let two : length (seen b plan h cpu zone) ≡ length (seen b plan g cpu zone) = ap (λ (l : List Step). length l) (same.seen cpu) in
          subst (λ n. n ≤ length (seen b plan h cpu zone)) (sym one) (subst (λ n. carried cpu g.round (journal_at g zone) ≤ n) (sym two) (i.done cpu));
      later = λ cpu round lt. ap (λ journal. carried cpu round journal) same.journal ∙ i.later cpu round (subst (λ n. n < round) same.round lt);
      printed = subst (λ round. ArePrinted p places (journal_at h zone) round (λ cpu. late b plan h cpu zone) i.is.undelayed.replies i.is.delayed.replies i.is.delayed.end) (sym same.round)
          (printed_same p places (journal_at g zone) (journal_at h zone) g.round (λ cpu. late b plan g cpu zone) (λ cpu. late b plan h cpu zone) i.is.undelayed.replies i.is.delayed.replies i.is.delayed.end same.journal (λ cpu. late_untouched b plan g h zone cpu same) i.printed);
    }

-- ---- one more line of a CPU is done

pub seen_mine : (b : Bundle) (plan : Plan) (g : Progress) (cpu zone : ℕ) → cpu < length g.done → slice_index g.done cpu < length (lines_of_round b cpu g.round) →
    seen b plan (counted cpu g) cpu zone ≡ seen b plan g cpu zone ++ steps_among b plan zone (next_line b cpu g ∷ [])
seen_mine b plan g cpu zone lt more =
    let lines = lines_of_round b cpu g.round in
    let n = slice_index g.done cpu in
    ap (λ n. steps_among b plan zone (take n lines)) (get_or-set_same g.done cpu (n + 1) 0 lt)
    ∙ ap (λ lines. steps_among b plan zone lines) (take_more lines n (record { line = 0; round = 0; act = act.Flush 0 }) more)
    ∙ steps_among-append b plan zone (take n lines) (next_line b cpu g ∷ [])

pub seen_other : (b : Bundle) (plan : Plan) (g : Progress) (cpu other zone : ℕ) → other ≢ cpu → seen b plan (counted cpu g) other zone ≡ seen b plan g other zone
seen_other b plan g cpu other zone ne = ap (λ n. steps_among b plan zone (take n (lines_of_round b other g.round))) (get_or-set_other g.done cpu other (slice_index g.done cpu + 1) 0 ne)

-- one more late step
pub late_there : (b : Bundle) (plan : Plan) (g : Progress) (cpu zone : ℕ) (step : Step) (lines : List (ℕ × Step)) (places : List (ℕ × ℕ)) → cpu < b.cpus → IsSized b plan g → slice_index g.done cpu < length (lines_of_round b cpu g.round) →
    steps_among b plan zone (next_line b cpu g ∷ []) ≡ step ∷ [] → (i : InStep b plan g zone lines places) → needs_visit (params_of b plan zone) (cpu_part i.is.undelayed.end cpu) step ≡ false →
    InStep b plan (counted cpu g) zone (lines ++ (cpu, step) ∷ []) (places ++ (g.round, cpu) ∷ [])
late_there b plan g cpu zone step lines places lt sized more mine i none =
    let p = params_of b plan zone in
    let journal = journal_at g zone in
    let in-done : cpu < length g.done = subst (λ n. cpu < n) (sym sized.done) lt in
    let one : seen b plan (counted cpu g) cpu zone ≡ seen b plan g cpu zone ++ step ∷ [] = seen_mine b plan g cpu zone in-done more ∙ ap (λ (l : List Step). seen b plan g cpu zone ++ l) mine in
    let new : IsLateNow cpu (late b plan g cpu zone ++ step ∷ []) (λ cpu. late b plan g cpu zone) (λ other. late b plan (counted cpu g) other zone) =
    record {
      mine = ap (λ (l : List Step). drop (carried cpu g.round journal) l) one ∙ drop-append-le (carried cpu g.round journal) (seen b plan g cpu zone) (step ∷ []) (i.done cpu);
      others = λ other ne. ap (λ (l : List Step). drop (carried other g.round journal) l) (seen_other b plan g cpu other zone ne);
    } in
    record {
      is = record {
        steps = i.is.steps;
        undelayed = with_line i.is.undelayed (stepped_alone p i.is.undelayed.end cpu step i.is.undelayed.left);
        delayed = i.is.delayed;
        spelled = i.is.spelled;
        alike = alike_late p lines i.is.steps (λ cpu. late b plan g cpu zone) (λ other. late b plan (counted cpu g) other zone) (answers_at zone g.log) i.is.undelayed i.is.delayed cpu step lt i.is.alike none new;
        used = i.is.used;
      };
      done = λ other.
          mine_or_other (λ other. carried other g.round journal ≤ length (seen b plan (counted cpu g) other zone)) cpu other
          (subst (λ n. carried cpu g.round journal ≤ n) (sym (ap (λ (l : List Step). length l) one ∙ length-append (seen b plan g cpu zone) (step ∷ []))) (more_of (carried cpu g.round journal) (length (seen b plan g cpu zone)) (i.done cpu)))
          (λ ne. subst (λ n. carried other g.round journal ≤ n) (sym (ap (λ (l : List Step). length l) (seen_other b plan g cpu other zone ne))) (i.done other));
      later = i.later;
      printed = printed_late p places journal g.round (λ cpu. late b plan g cpu zone) (λ other. late b plan (counted cpu g) other zone) i.is.undelayed.replies i.is.delayed.replies i.is.delayed.end cpu step
          (local_answer p (cpu_part i.is.undelayed.end cpu) step).reply i.printed new
          (ap (λ (own : CpuPart). (local_answer p own step).reply) (i.is.alike.state.own cpu (cpu_in p i.is.steps (answers_at zone g.log) i.is.delayed cpu i.is.alike.delayed_is lt)));
    }
  where
    more_of : (m n : ℕ) → m ≤ n → m ≤ n + 1
    more_of m n le = omega arith

-- a visit of this zone
pub visit_there : (b : Bundle) (plan : Plan) (g : Progress) (cpu zone : ℕ) (step : Step) (state : ZoneState) (lines : List (ℕ × Step)) (places : List (ℕ × ℕ)) → cpu < b.cpus → zone < length plan.zones → IsSized b plan g →
    slice_index g.done cpu < length (lines_of_round b cpu g.round) → steps_among b plan zone (next_line b cpu g ∷ []) ≡ step ∷ [] → (i : InStep b plan g zone lines places) →
    state.shared ≡ i.is.undelayed.end.shared → cpu_part state cpu ≡ cpu_part i.is.undelayed.end cpu →
    InStep b plan (visit_made b plan cpu g zone step state) zone (lines ++ (cpu, step) ∷ []) (places ++ (g.round, cpu) ∷ [])
visit_there b plan g cpu zone step state lines places lt in-zones sized more mine i shared own =
    let p = params_of b plan zone in
    let u = i.is.undelayed in
    let journal = journal_at g zone in
    let lates = late b plan g cpu zone in
    let old = seen b plan g cpu zone in
    let now = seen b plan (counted cpu g) cpu zone in
    let k = carried cpu g.round journal in
    let h = visit_made b plan cpu g zone step state in
    let v : Visit = record { round = g.round; cpu = cpu; count = length lates + 1; settled = false } in
    let asks = asks_of p state.shared cpu (cpu_part state cpu) step in
    let new = new_answers b g.log asks in
    let asked = asks_of p u.end.shared cpu (cpu_part u.end cpu) step in
    let answers = answers_at zone g.log in
    let in-done : cpu < length g.done = subst (λ n. cpu < n) (sym sized.done) lt in
    let le : k ≤ length old = i.done cpu in
    let journal_is : journal_at h zone ≡ journal ++ v ∷ [] = get_or-set_same g.journals zone (journal ++ v ∷ []) [] (subst (λ n. zone < n) (sym sized.journals) in-zones) in
    let one : now ≡ old ++ step ∷ [] = seen_mine b plan g cpu zone in-done more ∙ ap (λ (l : List Step). old ++ l) mine in
    let long : length now ≡ length old + 1 = ap (λ (l : List Step). length l) one ∙ length-append old (step ∷ []) in
    let few : length lates ≡ length old - k = length-drop k old in
    let dropped : drop k now ≡ lates ++ step ∷ [] = ap (λ (l : List Step). drop k l) one ∙ drop-append-le k old (step ∷ []) le in
    let all = lines_of_round b cpu g.round in
    let to = slice_index (counted cpu g).done cpu in
    let parted : steps_of b plan cpu zone g.round ≡ now ++ steps_among b plan zone (drop to all) =
    ap (λ lines. steps_among b plan zone lines) (sym (take-append-drop to all)) ∙ steps_among-append b plan zone (take to all) (drop to all) in
    let here : steps_carried b plan zone journal v ≡ Some (steps_by cpu (drop k now)) =
    visit_carries b plan zone journal v now (steps_among b plan zone (drop to all)) parted (fits k (length old) (length now) le long) (sym (ap (λ (l : List Step). length l) dropped ∙ length-append lates (step ∷ []))) in
    let there : steps_by cpu (drop k now) ≡ steps_by cpu lates ++ (cpu, step) ∷ [] = ap (λ (l : List Step). steps_by cpu l) dropped ∙ map-append (λ (step : Step). (cpu, step)) lates (step ∷ []) in
    let fresh = are_new b g.log asks in
    let answers_are : answers_at zone h.log ≡ answers ++ new = answers_at-append zone g.log (entries zone asks new) ∙ ap (λ (l : List Answer). answers ++ l) (entries_there zone asks new fresh.long) in
    let same_asks : asks ≡ asked = ap (λ (s : Shared). asks_of p s cpu (cpu_part state cpu) step) shared ∙ ap (λ (own : CpuPart). asks_of p u.end.shared cpu own step) own in
    let fit : all_answered asked new ≡ true = subst (λ (a : List Ask). all_answered a new ≡ true) same_asks fresh.all in
    let o : Stepped = put_back u.end cpu (part_of p u.end.shared cpu (cpu_part u.end cpu) step new) in
    let next : alone_step p u.end cpu step (u.left ++ new) ≡ Some o = ap (λ (left : List Answer). alone_step p u.end cpu step (left ++ new)) i.is.used ∙ ap (λ t. if t then Some o else None) fit in
    let late_now : IsLateNow cpu [] (λ cpu. late b plan g cpu zone) (λ cpu. late b plan h cpu zone) =
    record {
      mine = ap (λ j. drop (carried cpu g.round j) now) journal_is ∙ ap (λ n. drop n now) (carried-mine cpu g.round journal v refl refl) ∙ drop_all (k + v.count) now (enough k (length old) (length now) (length lates) le long few);
      others = λ other ne. ap (λ j. drop (carried other g.round j) (seen b plan (counted cpu g) other zone)) journal_is
          ∙ ap (λ n. drop n (seen b plan (counted cpu g) other zone)) (carried-other other g.round journal v ne)
          ∙ ap (λ (l : List Step). drop (carried other g.round journal) l) (seen_other b plan g cpu other zone ne);
    } in
    let visited_now = alike_visited p lines i.is.steps (λ cpu. late b plan g cpu zone) (λ cpu. late b plan h cpu zone) (answers ++ new) (with_more new u) (with_more new i.is.delayed) cpu step o lt
    (alike_more p lines i.is.steps (λ cpu. late b plan g cpu zone) answers new u i.is.delayed i.is.alike) next late_now in
    let steps = i.is.steps ++ (steps_by cpu lates ++ (cpu, step) ∷ []) in
    record {
      is = record {
        steps = steps;
        undelayed = with_line (with_more new u) o;
        delayed = visited_now.0;
        spelled = ap (λ j. spell_after b plan zone [] j) journal_is ∙ spell_after-push b plan zone journal [] v i.is.steps (steps_by cpu (drop k now)) i.is.spelled here ∙ ap (λ (l : List (ℕ × Step)). Some (i.is.steps ++ l)) there;
        alike = subst (λ answers. AnswersAlike p (lines ++ (cpu, step) ∷ []) steps (λ cpu. late b plan h cpu zone) answers (with_line (with_more new u) o) visited_now.0) (sym answers_are) visited_now.1;
        used = drop_all (length asked) new (no_more (length new) (length asks) (length asked) fresh.long (ap (λ (a : List Ask). length a) same_asks));
      };
      done = λ other.
          subst (λ j. carried other g.round j ≤ length (seen b plan (counted cpu g) other zone)) (sym journal_is)
          (mine_or_other (λ other. carried other g.round (journal ++ v ∷ []) ≤ length (seen b plan (counted cpu g) other zone)) cpu other
          (subst (λ n. n ≤ length now) (sym (carried-mine cpu g.round journal v refl refl)) (all_of k (length old) (length now) (length lates) le long few))
          (λ ne. subst (λ n. n ≤ length (seen b plan (counted cpu g) other zone)) (sym (carried-other other g.round journal v ne))
          (subst (λ n. carried other g.round journal ≤ n) (sym (ap (λ (l : List Step). length l) (seen_other b plan g cpu other zone ne))) (i.done other))));
      later = λ other round below. ap (λ j. carried other round j) journal_is ∙ carried-later other round journal v below ∙ i.later other round below;
      printed = printed_visit p places journal (journal_at h zone) g.round (λ cpu. late b plan g cpu zone) (λ cpu. late b plan h cpu zone) u.replies i.is.delayed.replies visited_now.0.replies i.is.delayed.end visited_now.0.end cpu o.reply
          i.printed late_now visited_now.3 journal_is visited_now.2;
    }
  where
    fits : (k old now : ℕ) → k ≤ old → now ≡ old + 1 → k ≤ now
    fits k old now le long = omega arith

    enough : (k old now few : ℕ) → k ≤ old → now ≡ old + 1 → few ≡ old - k → now ≤ k + (few + 1)
    enough k old now few le long is = omega arith

    all_of : (k old now few : ℕ) → k ≤ old → now ≡ old + 1 → few ≡ old - k → k + (few + 1) ≤ now
    all_of k old now few le long is = omega arith

    no_more : (n m l : ℕ) → n ≡ m → m ≡ l → n ≤ l
    no_more n m l e f = omega arith
