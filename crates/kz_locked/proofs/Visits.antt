-- A visit to a book, and a settled one, is a stay.
use Rattle.std.proofs.Common.{◌≡◌, ℕ, zero, suc, ◌-◌, ◌<◌, ◌≤◌, ◌==◌, Bool, true, false, List, [], ◌∷◌, ◌++◌, length, map, replicate, Some, refl, ap, sym, ◌∙◌, subst, arith, length-append}
use Rattle.std.specs.List.{flat_map}
use Rattle.std.proofs.lemmas.Grind.{flat_map-append}
use Rattle.std.proofs.lemmas.List.{append-nil, append_cancel_left, map-append, length-set, nil_from_length, get_or-set_same}
use Rattle.kz_model.specs.declared.record.ZoneParams.{ZoneParams}
use Rattle.kz_model.specs.declared.step.Reply.{Reply}
use Rattle.kz_model.specs.declared.step.Step.{Step}
use Rattle.kz_model.specs.declared.supply.Ask.{Ask}
use Rattle.kz_model.specs.declared.supply.Answer.{Answer}
use Rattle.kz_model.specs.Zone.State.{CpuPart, ZoneState, no_cpu_part, opening, cpu_part}
use Rattle.kz_model.specs.Zone.Rules.{needs_visit, asks_of}
use Rattle.kz_model.specs.Zone.Alone.{Course, course, alone, all_used}
use Rattle.kz_model.specs.Zone.Local.{local_answer, with_cpu_part}
use Rattle.kz_model.specs.Zone.Late.{NeedNone, states_late, by_cpu}
use Rattle.kz_model.specs.Run.Runs.{needs_along}
use Rattle.kz_model.proofs.MoreAnswers.{with_more, course-more}
use Rattle.kz_supply.specs.Exchange.{Exchange, ask_of, answer_of, entries_of}
use Rattle.kz_book.specs.Book.{Book, History, KeepsHistory, params_of}
use Rattle.kz_book.specs.Visits.{Extends, Settles, own_in, replies_late}
use Rattle.kz_laws.specs.declared.stays.Stay.{Stay}
use Rattle.kz_laws.specs.Stays.{asks_in, answers_in}
use Rattle.kz_laws.proofs.OrderJournals.{course_split, needs_along-append}
use Rattle.kz_laws.proofs.WholeCourses.{chained, chosen}
use Rattle.kz_locked.specs.Visits.{LeadsTo, stay_of_visit, stay_of_settling}

-- ---- the course of what comes behind

-- a zone alone, as a course with no answer left
record IsUsedUp (p : ZoneParams) (steps : List (ℕ × Step)) (answers : List Answer) (made : Course) : Type 0 where
  is : course p (opening p) steps answers ≡ Some made
  used : made.left ≡ []

used_up : (p : ZoneParams) (steps : List (ℕ × Step)) (answers : List Answer) (made : Course) → alone p steps answers ≡ Some made → IsUsedUp p steps answers made
used_up p steps answers made is =
    let first = chained all_used (course p (opening p) steps answers) made is in
    let used = chosen (length first.0.left == 0) first.0 made first.2 in
    subst (IsUsedUp p steps answers) used.1 (record { is = first.1; used = nil_from_length first.0.left (none (length first.0.left) used.0) })
  where
    none : (n : ℕ) → (n == 0) ≡ true → n ≡ 0
    none n e = grind arith

-- the course from the one history's end to the other's
record IsBehind (p : ZoneParams) (before after : History) (here : List (ℕ × Step)) (new : List Answer) (c : Course) : Type 0 where
  made_is : course p before.made.end here new ≡ Some c
  used : c.left ≡ []
  end : c.end ≡ after.made.end
  replies : before.made.replies ++ c.replies ≡ after.made.replies
  asks : before.made.asks ++ c.asks ≡ after.made.asks
  states : before.made.before ++ c.before ≡ after.made.before

behind : (p : ZoneParams) (before after : History) (here : List (ℕ × Step)) (new : List Answer) → alone p before.steps before.answers ≡ Some before.made → alone p after.steps after.answers ≡ Some after.made →
    after.steps ≡ before.steps ++ here → after.answers ≡ before.answers ++ new → (c : Course) × IsBehind p before after here new c
behind p before after here new first all steps answers =
    let a = used_up p before.steps before.answers before.made first in
    let d = used_up p after.steps after.answers after.made all in
    let more = course-more p (opening p) before.steps before.answers new before.made a.is in
    let whole : course p (opening p) (before.steps ++ here) (before.answers ++ new) ≡ Some after.made =
    ap (λ (l : List (ℕ × Step)). course p (opening p) l (before.answers ++ new)) (sym steps) ∙ ap (λ (l : List Answer). course p (opening p) after.steps l) (sym answers) ∙ d.is in
    let split = course_split p (opening p) before.steps here (before.answers ++ new) (with_more new before.made) after.made more whole in
    let c = split.0 in (
      c,
      record {
        made_is = ap (λ (left : List Answer). course p before.made.end here (left ++ new)) (sym a.used) ∙ split.1;
        used = sym (ap (λ (c : Course). c.left) split.2) ∙ d.used;
        end = sym (ap (λ (c : Course). c.end) split.2);
        replies = sym (ap (λ (c : Course). c.replies) split.2);
        asks = sym (ap (λ (c : Course). c.asks) split.2);
        states = sym (ap (λ (c : Course). c.before) split.2);
      },
    )

-- ---- late steps need no visit

late_needs : (p : ZoneParams) (state : ZoneState) (cpu : ℕ) (recent : List Step) → cpu < length state.own → NeedNone p (cpu_part state cpu) recent →
    needs_along p (by_cpu cpu recent) (states_late p state cpu recent) ≡ replicate (length recent) false
late_needs p state cpu [] lt none = refl
late_needs p state cpu (step ∷ recent) lt none =
    let own = (local_answer p (cpu_part state cpu) step).own in
    let next = with_cpu_part state cpu own in
    let still : cpu < length next.own = subst (λ n. cpu < n) (sym (length-set state.own cpu own)) lt in
    let mine : own ≡ cpu_part next cpu = sym (get_or-set_same state.own cpu own no_cpu_part lt) in
    let rest = late_needs p next cpu recent still (subst (λ (own : CpuPart). NeedNone p own recent) mine none.1) in
    ap (λ t. t ∷ needs_along p (by_cpu cpu recent) (states_late p next cpu recent)) none.0 ∙ ap (λ (l : List Bool). false ∷ l) rest

late_long : (p : ZoneParams) (state : ZoneState) (cpu : ℕ) (recent : List Step) → length (by_cpu cpu recent) ≡ length (states_late p state cpu recent)
late_long p state cpu [] = refl
late_long p state cpu (step ∷ recent) = ap (λ n. suc n) (late_long p (with_cpu_part state cpu (local_answer p (cpu_part state cpu) step).own) cpu recent)

abbrev none : List Ask
none = []

no_asks : (n : ℕ) → flat_map (λ asks. asks) (replicate n none) ≡ []
no_asks zero = refl
no_asks (suc n) = no_asks n

exchange_asks : (zone : ℕ) (exchanges : List Exchange) → asks_in (entries_of zone exchanges) ≡ map ask_of exchanges
exchange_asks zone [] = refl
exchange_asks zone (e ∷ exchanges) = ap (λ (l : List Ask). e.0 ∷ l) (exchange_asks zone exchanges)

exchange_answers : (zone : ℕ) (exchanges : List Exchange) → answers_in (entries_of zone exchanges) ≡ map answer_of exchanges
exchange_answers zone [] = refl
exchange_answers zone (e ∷ exchanges) = ap (λ (l : List Answer). e.1 ∷ l) (exchange_answers zone exchanges)

-- ---- a visit

module _ (old new : Book) (before after : History) (round cpu : ℕ) (recent : List Step) (step : Step) (reply : Reply) (exchanges : List Exchange) where
  abbrev p : ZoneParams
  p = params_of old

  abbrev own : CpuPart
  own = cpu_part before.made.end cpu

  abbrev now : CpuPart
  now = own_in p before cpu recent

  abbrev stay : Stay
  stay = stay_of_visit p round cpu own recent step reply exchanges (cpu_part after.made.end cpu)

  visit_is_stay : params_of new ≡ p → cpu < p.cpus → KeepsHistory old before → KeepsHistory new after → NeedNone p own recent → needs_visit p now step ≡ true → Extends p cpu before after recent step reply exchanges → LeadsTo p before after stay
  visit_is_stay same lt first second none needs extends =
      let here = by_cpu cpu (recent ++ step ∷ []) in
      let all : alone p after.steps after.answers ≡ Some after.made = ap (λ (p : ZoneParams). alone p after.steps after.answers) (sym same) ∙ second.alone in
      let b = behind p before after here (map answer_of exchanges) first.alone all extends.steps extends.answers in
      let c = b.0 in
      let is = b.1 in
      let state = before.made.end in
      let in-own : cpu < length state.own = subst (λ n. cpu < n) (sym first.whole.cpus) lt in
      let mine : cpu_part (with_cpu_part state cpu now) cpu ≡ now = get_or-set_same state.own cpu now no_cpu_part in-own in
      let asks : c.asks ≡ replicate (length recent) [] ++ asks_of p state.shared cpu now step ∷ [] = append_cancel_left before.made.asks c.asks (replicate (length recent) [] ++ asks_of p state.shared cpu now step ∷ []) (is.asks ∙ extends.asked) in
      let states : c.before ≡ states_late p state cpu recent ++ with_cpu_part state cpu now ∷ [] = append_cancel_left before.made.before c.before (states_late p state cpu recent ++ with_cpu_part state cpu now ∷ []) (is.states ∙ extends.states) in
      let needed : needs_along p here c.before ≡ replicate (length recent) false ++ true ∷ [] =
      ap (needs_along p here) states
      ∙ ap (λ (l : List (ℕ × Step)). needs_along p l (states_late p state cpu recent ++ with_cpu_part state cpu now ∷ [])) (map-append (λ (step : Step). (cpu, step)) recent (step ∷ []))
      ∙ needs_along-append p (by_cpu cpu recent) ((cpu, step) ∷ []) (states_late p state cpu recent) (with_cpu_part state cpu now ∷ []) (late_long p state cpu recent)
      ∙ ap (λ (l : List Bool). l ++ needs_visit p (cpu_part (with_cpu_part state cpu now) cpu) step ∷ []) (late_needs p state cpu recent in-own none)
      ∙ ap (λ t. replicate (length recent) false ++ t ∷ []) (ap (λ (own : CpuPart). needs_visit p own step) mine ∙ needs) in
      let long : length (recent ++ step ∷ []) - 1 ≡ length recent = omega (arith, length-append recent (step ∷ [])) in
      record {
        made = c;
        is = record {
          some = omega (arith, length-append recent (step ∷ []));
          made_is = ap (λ (l : List Answer). course p state here l) (exchange_answers p.zone exchanges) ∙ is.made_is;
          used = is.used;
          replied = append_cancel_left before.made.replies c.replies (replies_late p own recent ++ reply ∷ []) (is.replies ∙ extends.replies);
          asked = ap (flat_map (λ asks. asks)) asks ∙ flat_map-append (λ asks. asks) (replicate (length recent) []) (asks_of p state.shared cpu now step ∷ [])
              ∙ ap (λ (l : List Ask). l ++ (asks_of p state.shared cpu now step ++ [])) (no_asks (length recent))
              ∙ append-nil (asks_of p state.shared cpu now step) ∙ sym extends.asks ∙ sym (exchange_asks p.zone exchanges);
          left = ap (λ (state : ZoneState). cpu_part state cpu) is.end;
          needs = needed ∙ sym (ap (λ n. replicate n false ++ true ∷ []) long);
        };
        end = is.end;
      }

-- ---- a settled visit

settling_is_stay : (old new : Book) (before after : History) (round cpu : ℕ) (recent : List Step) → let p = params_of old in
    params_of new ≡ p → cpu < p.cpus → KeepsHistory old before → KeepsHistory new after → 1 ≤ length recent → NeedNone p (cpu_part before.made.end cpu) recent → Settles p cpu before after recent →
    LeadsTo p before after (stay_of_settling p round cpu (cpu_part before.made.end cpu) recent (cpu_part after.made.end cpu))
settling_is_stay old new before after round cpu recent same lt first second some none settles =
    let p = params_of old in
    let all : alone p after.steps after.answers ≡ Some after.made = ap (λ (p : ZoneParams). alone p after.steps after.answers) (sym same) ∙ second.alone in
    let b = behind p before after (by_cpu cpu recent) [] first.alone all settles.steps (settles.answers ∙ sym (append-nil before.answers)) in
    let c = b.0 in
    let is = b.1 in
    let state = before.made.end in
    let in-own : cpu < length state.own = subst (λ n. cpu < n) (sym first.whole.cpus) lt in
    let asks : c.asks ≡ replicate (length recent) [] = append_cancel_left before.made.asks c.asks (replicate (length recent) []) (is.asks ∙ settles.asked) in
    let states : c.before ≡ states_late p state cpu recent = append_cancel_left before.made.before c.before (states_late p state cpu recent) (is.states ∙ settles.states) in
    record {
      made = c;
      is = record {
        some = some;
        made_is = is.made_is;
        used = is.used;
        replied = append_cancel_left before.made.replies c.replies (replies_late p (cpu_part state cpu) recent) (is.replies ∙ settles.replies);
        asked = ap (flat_map (λ asks. asks)) asks ∙ no_asks (length recent);
        left = ap (λ (state : ZoneState). cpu_part state cpu) is.end;
        needs = ap (needs_along p (by_cpu cpu recent)) states ∙ late_needs p state cpu recent in-own none;
      };
      end = is.end;
    }

pub visits_are_stays : (old new : Book) (before after : History) (round cpu : ℕ) (recent : List Step) (step : Step) (reply : Reply) (exchanges : List Exchange) → let p = params_of old in
    params_of new ≡ p → cpu < p.cpus → KeepsHistory old before → KeepsHistory new after → NeedNone p (cpu_part before.made.end cpu) recent → needs_visit p (own_in p before cpu recent) step ≡ true → Extends p cpu before after recent step reply exchanges →
    LeadsTo p before after (stay_of_visit p round cpu (cpu_part before.made.end cpu) recent step reply exchanges (cpu_part after.made.end cpu))
visits_are_stays = visit_is_stay

pub settlings_are_stays : (old new : Book) (before after : History) (round cpu : ℕ) (recent : List Step) → let p = params_of old in
    params_of new ≡ p → cpu < p.cpus → KeepsHistory old before → KeepsHistory new after → 1 ≤ length recent → NeedNone p (cpu_part before.made.end cpu) recent → Settles p cpu before after recent →
    LeadsTo p before after (stay_of_settling p round cpu (cpu_part before.made.end cpu) recent (cpu_part after.made.end cpu))
settlings_are_stays = settling_is_stay
