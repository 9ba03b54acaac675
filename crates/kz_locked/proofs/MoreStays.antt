-- One more stay in a locked zone, and what a CPU's pass knows of it.
use Rattle.std.proofs.Common.{◌≡◌, ℕ, Bool, ◌&&◌, ◌+◌, ◌^◌, ◌<◌, ◌≤◌, ◌==◌, true, false, if◌then◌else◌, List, [], ◌∷◌, ◌++◌, length, sum, take, drop, map, Option, Some, refl, ap, sym, ◌∙◌, subst, arith, append_assoc, length-append, add-zero, zero-add, drop-drop}
use Rattle.std.proofs.Math.Logic.{∥∥₁_elim}
use Rattle.std.proofs.Math.Seq.{take-add}
use Rattle.std.proofs.Props.{props}
use native.Mathlib.Bridge.{le_prop}
use mathlib.Core.HLevel.{×₃_prop}
use Rattle.std.specs.Option.{unwrap_or}
use Rattle.std.specs.List.{filter}
use Rattle.std.proofs.lemmas.Grind.{flat_map-append}
use Rattle.std.proofs.lemmas.List.{append-nil, map-append, length-map, length-drop, take-append-le, drop-append-le, take-append-drop}
use Rattle.std.proofs.lemmas.List.Elements.{filter-append}
use Rattle.kz_model.specs.declared.bundle.Bundle.{Bundle}
use Rattle.kz_model.specs.declared.record.Plan.{Plan}
use Rattle.kz_model.specs.declared.record.Room.{Room}
use Rattle.kz_model.specs.declared.record.Visit.{Visit}
use Rattle.kz_model.specs.declared.record.ZoneParams.{ZoneParams}
use Rattle.kz_model.specs.declared.step.Bound.{Bound}
use Rattle.kz_model.specs.declared.step.Reply.{Reply}
use Rattle.kz_model.specs.declared.step.Step.{Step}
use Rattle.kz_model.specs.declared.supply.Answer.{Answer}
use Rattle.kz_model.specs.declared.supply.SupplyEntry.{SupplyEntry}
use Rattle.kz_model.specs.Run.Journal.{log_at, params_of, steps_of, carried}
use Rattle.kz_model.specs.Zone.Alone.{Course, alone, course}
use Rattle.kz_model.specs.Zone.State.{CpuPart, ZoneState, opening, cpu_part}
use Rattle.kz_model.specs.Zone.Late.{NeedNone}
use Rattle.kz_model.specs.Zone.Rules.{needs_visit}
use Rattle.kz_model.specs.Zone.Whole.{IsWhole, Rises, AreWithin}
use Rattle.kz_supply.specs.Exchange.{Exchange}
use Rattle.kz_supply.specs.Ready.{Ready, NoAnswer}
use Rattle.kz_zone.specs.Room.{IsFitRoom}
use Rattle.kz_zone.specs.Zone.{StandsFor}
use Rattle.kz_book.specs.Book.{Book, History, KeepsHistory}
use Rattle.kz_book.specs.Visits.{Extends, Settles, own_in}
use Rattle.kz_turn.specs.Journal.{entries_of}
use Rattle.kz_turn.specs.Passes.{PassView}
use Rattle.kz_laws.specs.declared.stays.Stay.{Stay}
use Rattle.kz_laws.specs.Stays.{IsStay, AreStays, HaveSteps, visit_in, visits_in, steps_in, entries_in, answers_in, stays_told, part_left, steps_made_by, stays_by}
use Rattle.kz_laws.proofs.Spelling.{carried-append}
use Rattle.kz_laws.proofs.OrderRuns.{used_all}
use Rattle.kz_laws.proofs.StayCourses.{stays_course}
use Rattle.kz_laws.proofs.StayParts.{stays_leave, told as tell}
use Rattle.kz_locked.specs.declared.zone.ZoneStart.{ZoneStart}
use Rattle.kz_locked.specs.Supply.{own_log}
use Rattle.kz_locked.specs.Zone.{SupplyPass, IsLockedZone, GoesOn, HasOneMore, FindsPart, history_told, steps_told, stays_of, stays_since, by_seat, zone_start, HasVisit, HasSettling, IsNewZone, stay_at}
use Rattle.kz_locked.specs.Visits.{LeadsTo, stay_of_visit, stay_of_settling}
use Rattle.kz_locked.proofs.Visits.{visits_are_stays, settlings_are_stays}

-- ---- a stay behind others

are-more : (p : ZoneParams) (state mid : ZoneState) (stays : List Stay) (s : Stay) (made : Course) → AreStays p state stays mid → IsStay p mid s made → AreStays p state (stays ++ s ∷ []) made.end
are-more p state mid [] s made same is = (made, subst (λ (state : ZoneState). IsStay p state s made) (sym same) is, refl)
are-more p state mid (x ∷ stays) s made are is = (are.0, are.1, are-more p are.0.end mid stays s made are.2 is)

have-more : (steps : List Visit → Visit → List Step) (earlier : List Visit) (stays : List Stay) (s : Stay) → HaveSteps steps earlier stays → steps (earlier ++ visits_in stays) (visit_in s) ≡ s.steps → HaveSteps steps earlier (stays ++ s ∷ [])
have-more steps earlier [] s have is = (ap (λ (earlier : List Visit). steps earlier (visit_in s)) (sym (append-nil earlier)) ∙ is, tt)
have-more steps earlier (x ∷ stays) s have is =
    (have.0, have-more steps (earlier ++ visit_in x ∷ []) stays s have.1 (ap (λ (earlier : List Visit). steps earlier (visit_in s)) (append_assoc earlier (visit_in x ∷ []) (visits_in stays)) ∙ is))

pub told_is : (b : Bundle) (plan : Plan) (book : Book) (pages : Ready) (pass : SupplyPass) (kept : IsLockedZone b plan book pages pass) → stays_of b plan book.visits pass ≡ kept.stays
told_is b plan book pages pass kept =
    let p = params_of b plan pass.number in
    let steps = steps_told b plan pass.number in
    ap (λ (visits : List Visit). stays_of b plan visits pass) kept.visits
    ∙ ap (λ (log : List SupplyEntry). stays_told p steps (opening p) [] (visits_in kept.stays) log) kept.entries
    ∙ tell p steps (opening p) kept.end [] kept.stays kept.are kept.steps

-- ---- the history of a locked zone

-- the book keeps the history of these stays
record HasHistory (book : Book) (told : History) (end : ZoneState) : Type 0 where
  history : History
  keeps : KeepsHistory book history
  ends : history.made.end ≡ end
  is_told : told ≡ history

abbrev nothing : ZoneParams → Course
nothing p = record { replies = []; asks = []; before = []; end = opening p; left = [] }

abbrev history_with : ZoneParams → List Stay → List SupplyEntry → Course → History
history_with p stays log made = record { steps = steps_in stays; answers = answers_in log; made = made }

history_of : (b : Bundle) (plan : Plan) (book : Book) (pages : Ready) (pass : SupplyPass) (kept : IsLockedZone b plan book pages pass) → HasHistory book (history_told b plan book.visits pass) kept.end
history_of b plan book pages pass kept =
    let p = params_of b plan pass.number in
    let c = stays_course p (opening p) kept.end kept.stays kept.are in
    let steps = steps_in kept.stays in
    let answers = answers_in (entries_in kept.stays) in
    let is : alone p steps answers ≡ Some c.0 = used_all (course p (opening p) steps) answers c.0 c.1.made_is c.1.used in
    let at : List Stay → List SupplyEntry → History = λ stays log. history_with p stays log (unwrap_or (alone p (steps_in stays) (answers_in log)) (nothing p)) in
    record {
      history = history_with p kept.stays (entries_in kept.stays) c.0;
      is_told = ap (λ (stays : List Stay). at stays (own_log pass)) (told_is b plan book pages pass kept) ∙ ap (λ (log : List SupplyEntry). at kept.stays log) kept.entries
          ∙ ap (λ (made : Option Course). history_with p kept.stays (entries_in kept.stays) (unwrap_or made (nothing p))) is;
      keeps = record {
        alone = ap (λ (p : ZoneParams). alone p steps answers) kept.params ∙ is;
        params = kept.zone_params ∙ sym kept.params;
        shows = subst (λ (end : ZoneState). StandsFor book.zone end.shared) (sym c.1.is_end) kept.shows;
        whole = subst (λ (end : ZoneState). IsWhole book.room.params end) (sym c.1.is_end) (subst (λ (p : ZoneParams). IsWhole p kept.end) (sym kept.params) kept.whole);
      };
      ends = c.1.is_end;
    }

-- ---- one more

module _ (b : Bundle) (plan : Plan) (old new : Book) (idle pages : Ready) (pass : SupplyPass) (s : Stay) (kept : IsLockedZone b plan old idle pass) where
  abbrev p : ZoneParams
  p = params_of b plan pass.number

  abbrev later : SupplyPass
  later = record pass { own = pass.own ++ s.entries }

  more_kept : GoesOn b plan old new pages pass later s → IsLockedZone b plan new pages later
  more_kept on =
      let h = history_of b plan old idle pass kept in
      let last = on.last in
      let here = on.leads in
      let ends : (history_told b plan old.visits pass).made.end ≡ kept.end = ap (λ (j : History). j.made.end) h.is_told ∙ h.ends in
      let is : IsStay p kept.end s here.made = subst (λ (state : ZoneState). IsStay p state s here.made) ends here.is in
      let same : new.room.params ≡ p = ap (λ (room : Room). room.params) on.room ∙ kept.params in
      record {
        zone = kept.zone;
        params = same;
        zone_params = on.keeps.params ∙ same;
        pages_params = on.pages_params;
        room = subst IsFitRoom (sym on.room) kept.room;
        few = on.few;
        idle = on.idle;
        none_wait = on.none_wait;
        stays = kept.stays ++ s ∷ [];
        end = last.made.end;
        are = subst (λ (end : ZoneState). AreStays p (opening p) (kept.stays ++ s ∷ []) end) here.end (are-more p (opening p) kept.end kept.stays s here.made kept.are is);
        steps = have-more (steps_told b plan pass.number) [] kept.stays s kept.steps (ap (λ (visits : List Visit). steps_told b plan pass.number visits (visit_in s)) (sym kept.visits) ∙ on.steps);
        visits = on.visits ∙ ap (λ (visits : List Visit). visits ++ visit_in s ∷ []) kept.visits ∙ sym (map-append visit_in kept.stays (s ∷ []));
        entries = sym (append_assoc (log_at pass.number pass.base.log) pass.own s.entries) ∙ ap (λ (log : List SupplyEntry). log ++ s.entries) kept.entries
            ∙ ap (λ (log : List SupplyEntry). entries_in kept.stays ++ log) (sym (append-nil s.entries)) ∙ sym (flat_map-append (λ (s : Stay). s.entries) kept.stays (s ∷ []));
        shows = on.keeps.shows;
        whole = subst (λ (p : ZoneParams). IsWhole p last.made.end) same on.keeps.whole;
      }

  more : GoesOn b plan old new pages pass later s → HasOneMore b plan old new pages pass later s
  unfolding more_kept
  more on = record {
    kept = ∣ more_kept on ∣₁;
    stays = told_is b plan new pages later (more_kept on) ∙ ap (λ (stays : List Stay). stays ++ s ∷ []) (sym (told_is b plan old idle pass kept));
  }

one_more-prop : (b : Bundle) (plan : Plan) (old new : Book) (pages : Ready) (pass after : SupplyPass) (s : Stay) → IsProp (HasOneMore b plan old new pages pass after s)
one_more-prop b plan old new pages pass after s = hlevel props

pub one_more_stay : (b : Bundle) (plan : Plan) (old new : Book) (idle pages : Ready) (pass after : SupplyPass) (s : Stay) → ∥ IsLockedZone b plan old idle pass ∥₁ → GoesOn b plan old new pages pass after s → HasOneMore b plan old new pages pass after s
one_more_stay b plan old new idle pages pass after s kept on =
    ∥∥₁_elim kept (one_more-prop b plan old new pages pass after s) (λ kept. subst (λ (after : SupplyPass). GoesOn b plan old new pages pass after s → HasOneMore b plan old new pages pass after s) (sym on.pass_is) (more b plan old new idle pages pass s kept) on)

-- ---- what a pass knows

seat_entries : (n : ℕ) (stays : List Stay) → entries_of n (by_seat stays) ≡ stays_by n stays
seat_entries n [] = refl
seat_entries n (s ∷ stays) =
    elim (s.cpu == n) as (λ t. map (λ x. x.1) (if t then (s.cpu, s) ∷ filter (λ x. x.0 == n) (by_seat stays) else filter (λ x. x.0 == n) (by_seat stays)) ≡ (if t then s ∷ stays_by n stays else stays_by n stays)) [
      | true ↦ ap (λ (l : List Stay). s ∷ l) (seat_entries n stays)
      | false ↦ seat_entries n stays
    ]

part_left-append : (own : CpuPart) (xs ys : List Stay) → part_left own (xs ++ ys) ≡ part_left (part_left own xs) ys
part_left-append own [] ys = refl
part_left-append own (x ∷ xs) ys = part_left-append (part_left own (x ∷ [])) xs ys

pub parts_known : (opened : ℕ) (b : Bundle) (plan : Plan) (book : Book) (pages : Ready) (held : SupplyPass) (pass : PassView ZoneStart Stay) → IsLockedZone b plan book pages held →
    zone_start opened b plan book held ≡ pass.base → entries_of pass.number (stays_since opened b plan book.visits held) ≡ pass.own →
    FindsPart b plan book held pass
parts_known opened b plan book pages held pass kept base own =
    let p = params_of b plan held.number in
    let n = pass.number in
    let h = history_of b plan book pages held kept in
    let stays = stays_of b plan book.visits held in
    let first = take opened stays in
    let since = drop opened stays in
    let opens = cpu_part (opening p) n in
    let all : kept.stays ≡ first ++ since = sym (told_is b plan book pages held kept) ∙ sym (take-append-drop opened stays) in
    let mine : stays_by n since ≡ pass.own = sym (seat_entries n since) ∙ own in
    record {
      keeps = subst (KeepsHistory book) (sym h.is_told) h.keeps;
      part = ap (λ (j : History). cpu_part j.made.end n) h.is_told
          ∙ ap (λ (state : ZoneState). cpu_part state n) h.ends
          ∙ stays_leave p (opening p) kept.end n kept.stays kept.are
          ∙ ap (λ (stays : List Stay). part_left opens (stays_by n stays)) all
          ∙ ap (λ (stays : List Stay). part_left opens stays) (filter-append (λ (s : Stay). s.cpu == n) first since)
          ∙ part_left-append opens (stays_by n first) (stays_by n since)
          ∙ ap (λ (own : List Stay). part_left (part_left opens (stays_by n first)) own) mine
          ∙ ap (λ (start : ZoneStart). part_left (part_left (cpu_part (opening (params_of start.bundle start.plan start.zone)) n) (stays_by n start.stays)) pass.own) base;
    }

rises-prop : (low high : ℕ) (numbers : List ℕ) → IsProp (Rises low high numbers)
rises-prop low high [] = hlevel props
rises-prop low high (i ∷ numbers) = ×₃_prop le_prop (hlevel props) (rises-prop (i + 1) high numbers)

within-prop : (p : ZoneParams) (chunks : ℕ) (names : List (ℕ × Bound)) → IsProp (AreWithin p chunks names)
within-prop p chunks [] = hlevel props
within-prop p chunks (entry ∷ names) = ×₃_prop le_prop (hlevel props) (within-prop p chunks names)

-- the same of a zone that is known to be locked and no more
pub part_found : (opened : ℕ) (b : Bundle) (plan : Plan) (book : Book) (pages : Ready) (held : SupplyPass) (pass : PassView ZoneStart Stay) → ∥ IsLockedZone b plan book pages held ∥₁ →
    zone_start opened b plan book held ≡ pass.base → entries_of pass.number (stays_since opened b plan book.visits held) ≡ pass.own → FindsPart b plan book held pass
part_found opened b plan book pages held pass kept base own = ∥∥₁_elim kept (hlevel (rises-prop, within-prop, props)) (λ kept. parts_known opened b plan book pages held pass kept base own)

-- a CPU's own stays carry all its steps
pub carried-own : (cpu round : ℕ) (stays : List Stay) → carried cpu round (visits_in (stays_by cpu stays)) ≡ carried cpu round (visits_in stays)
carried-own cpu round [] = refl
carried-own cpu round (s ∷ stays) =
    let rest = carried cpu round (visits_in (stays_by cpu stays)) in
    let own = carried-own cpu round stays in
    elim (s.cpu == cpu) as (λ t. (s.cpu == cpu) ≡ t → carried cpu round (visits_in (if t then s ∷ stays_by cpu stays else stays_by cpu stays)) ≡ (if t && (s.round == round) then length s.steps else 0) + carried cpu round (visits_in stays)) [
      | true ↦ λ e. ap (λ t. (if t && (s.round == round) then length s.steps else 0) + rest) e ∙ ap (λ n. (if s.round == round then length s.steps else 0) + n) own
      | false ↦ λ e. own ∙ sym (zero-add (carried cpu round (visits_in stays)))
    ] refl

-- ---- the base and the journal

pub locked_long : (b : Bundle) (plan : Plan) (book : Book) (pages : Ready) (pass : SupplyPass) → IsLockedZone b plan book pages pass → length (stays_of b plan book.visits pass) ≡ length book.visits
locked_long b plan book pages pass kept =
    ap (λ (stays : List Stay). length stays) (told_is b plan book pages pass kept) ∙ sym (length-map kept.stays visit_in) ∙ ap (λ (visits : List Visit). length visits) (sym kept.visits)

pub locked_short : (opened : ℕ) (b : Bundle) (plan : Plan) (book : Book) (pages : Ready) (pass : SupplyPass) → IsLockedZone b plan book pages pass → length (stays_since opened b plan book.visits pass) < 2 ^ 62
locked_short opened b plan book pages pass kept =
    let stays = stays_of b plan book.visits pass in
    let long : length (stays_since opened b plan book.visits pass) ≡ length (drop opened stays) = length-map (drop opened stays) (λ (s : Stay). (s.cpu, s)) in
    omega (arith, long, length-drop opened stays, locked_long b plan book pages pass kept, kept.few, kept.room.steps)

pub is_short : (opened : ℕ) (b : Bundle) (plan : Plan) (book : Book) (pages : Ready) (pass : SupplyPass) → ∥ IsLockedZone b plan book pages pass ∥₁ → length (stays_since opened b plan book.visits pass) < 2 ^ 62
is_short opened b plan book pages pass kept = ∥∥₁_elim kept (hlevel props) (locked_short opened b plan book pages pass)

pub same_start : (opened : ℕ) (b : Bundle) (plan : Plan) (old new : Book) (pages : Ready) (pass after : SupplyPass) (s : Stay) → opened ≤ length (stays_of b plan old.visits pass) → GoesOn b plan old new pages pass after s → HasOneMore b plan old new pages pass after s →
    zone_start opened b plan new after ≡ zone_start opened b plan old pass
same_start opened b plan old new pages pass after s le on more =
    let at : SupplyPass → Room → List Stay → ZoneStart = λ pass room stays. record { turn = pass.name; supply = pass.base; zone = pass.number; bundle = b; plan = plan; room = room; stays = stays } in
    let stays = stays_of b plan old.visits pass in
    ap (λ (l : List Stay). at after new.room (take opened l)) more.stays
    ∙ ap (λ (l : List Stay). at after new.room l) (take-append-le opened stays (s ∷ []) le)
    ∙ ap (λ (room : Room). at after room (take opened stays)) on.room
    ∙ ap (λ (pass : SupplyPass). at pass old.room (take opened stays)) on.pass_is

pub one_more_since : (opened : ℕ) (b : Bundle) (plan : Plan) (old new : Book) (pages : Ready) (pass after : SupplyPass) (s : Stay) → opened ≤ length (stays_of b plan old.visits pass) → HasOneMore b plan old new pages pass after s →
    stays_since opened b plan new.visits after ≡ stays_since opened b plan old.visits pass ++ (s.cpu, s) ∷ []
one_more_since opened b plan old new pages pass after s le more =
    let stays = stays_of b plan old.visits pass in
    ap (λ (l : List Stay). by_seat (drop opened l)) more.stays
    ∙ ap by_seat (drop-append-le opened stays (s ∷ []) le)
    ∙ map-append (λ (s : Stay). (s.cpu, s)) (drop opened stays) (s ∷ [])

-- ---- a visit

module _ (b : Bundle) (plan : Plan) (old new : Book) (idle pages : Ready) (pass after : SupplyPass) (round cpu : ℕ) (recent : List Step) (step : Step) (reply : Reply) (exchanges : List Exchange) where
  abbrev before : History
  before = history_told b plan old.visits pass

  abbrev own : CpuPart
  own = cpu_part before.made.end cpu

  abbrev Leads : History → ZoneParams → Type 0
  Leads last q =
      new.room.params ≡ q → cpu < q.cpus → NeedNone q own recent → needs_visit q (own_in q before cpu recent) step ≡ true → Extends q cpu before last recent step reply exchanges →
      LeadsTo q before last (stay_of_visit q round cpu own recent step reply exchanges (cpu_part last.made.end cpu))

  pub visit_goes_on : ∥ IsLockedZone b plan old idle pass ∥₁ → (visit : HasVisit b plan old new pages pass after round cpu recent step reply exchanges) → GoesOn b plan old new pages pass after (stay_at b plan old pass round cpu recent step reply exchanges visit.last)
  visit_goes_on kept visit =
      let known : KeepsHistory old before × (old.room.params ≡ params_of b plan pass.number) = ∥∥₁_elim kept (hlevel (rises-prop, within-prop, props)) (λ kept.
      let h = history_of b plan old idle pass kept in
      (subst (KeepsHistory old) (sym h.is_told) h.keeps, kept.params)) in
      let first = known.0 in
      let same : new.room.params ≡ params_of b plan pass.number = ap (λ (room : Room). room.params) visit.room ∙ known.1 in
      let count : length recent + 1 ≡ length (recent ++ step ∷ []) = sym (length-append recent (step ∷ [])) in
      let at : ℕ → Visit = λ count. record { round = round; cpu = cpu; count = count; settled = false } in
      record {
        pass_is = visit.pass_is;
        pages_params = visit.pages_params;
        idle = visit.idle;
        none_wait = visit.none_wait;
        room = visit.room;
        visits = visit.visits ∙ ap (λ n. old.visits ++ at n ∷ []) count;
        few = visit.few;
        steps = ap (λ n. steps_told b plan pass.number old.visits (at n)) (sym count) ∙ visit.steps;
        last = visit.last;
        keeps = visit.keeps;
        leads = subst (Leads visit.last) known.1 (λ same lt none needs extends. visits_are_stays old new before visit.last round cpu recent step reply exchanges same lt first visit.keeps none needs extends) same visit.one_of visit.none visit.needs visit.extends;
      }

-- ---- a settled visit

module _ (b : Bundle) (plan : Plan) (old new : Book) (pages : Ready) (pass : SupplyPass) (round cpu : ℕ) (recent : List Step) where
  abbrev told : History
  told = history_told b plan old.visits pass

  abbrev part : CpuPart
  part = cpu_part told.made.end cpu

  abbrev LeadsLate : History → ZoneParams → Type 0
  LeadsLate last q =
      new.room.params ≡ q → cpu < q.cpus → NeedNone q part recent → Settles q cpu told last recent →
      LeadsTo q told last (stay_of_settling q round cpu part recent (cpu_part last.made.end cpu))

  pub settling_goes_on : ∥ IsLockedZone b plan old pages pass ∥₁ → (settling : HasSettling b plan old new pass round cpu recent) →
      GoesOn b plan old new pages pass pass (stay_of_settling (params_of b plan pass.number) round cpu part recent (cpu_part settling.last.made.end cpu))
  settling_goes_on kept settling =
      let p = params_of b plan pass.number in
      let known : KeepsHistory old told × (old.room.params ≡ p) × (pages.params ≡ p) × (pages.ready ≡ NoAnswer) × (pages.waiting ≡ []) = ∥∥₁_elim kept (hlevel (rises-prop, within-prop, props)) (λ kept.
      let h = history_of b plan old pages pass kept in
      (subst (KeepsHistory old) (sym h.is_told) h.keeps, kept.params, kept.pages_params, kept.idle, kept.none_wait)) in
      let first = known.0 in
      let same : new.room.params ≡ p = ap (λ (room : Room). room.params) settling.room ∙ known.1 in
      record {
        pass_is = ap (λ (own : List SupplyEntry). record { name = pass.name; number = pass.number; base = pass.base; own = own }) (sym (append-nil pass.own));
        pages_params = known.2;
        idle = known.3;
        none_wait = known.4;
        room = settling.room;
        visits = settling.visits;
        few = settling.few;
        steps = settling.steps;
        last = settling.last;
        keeps = settling.keeps;
        leads = subst (LeadsLate settling.last) known.1 (λ same lt none settles. settlings_are_stays old new told settling.last round cpu recent same lt first settling.keeps settling.some none settles) same settling.one_of settling.none settling.settles;
      }

-- ---- the lines that stays carry

module _ (b : Bundle) (plan : Plan) (zone cpu round : ℕ) where
  abbrev all_steps : List Step
  all_steps = steps_of b plan cpu zone round

  abbrev is_here : Stay → Bool
  is_here s = (s.cpu == cpu) && (s.round == round)

  same_both : (n m k l : ℕ) → ((n == m) && (k == l)) ≡ true → (n ≡ m) × (k ≡ l)
  same_both n m k l e = (grind arith, grind arith)

  carried_after : (earlier : List Visit) (s : Stay) → carried cpu round (earlier ++ visit_in s ∷ []) ≡ carried cpu round earlier + (if is_here s then length s.steps else 0)
  carried_after earlier s = carried-append cpu round earlier (visit_in s ∷ []) ∙ ap (λ n. carried cpu round earlier + n) (add-zero (if is_here s then length s.steps else 0))

  first_from : (earlier : List Visit) (stays : List Stay) → HaveSteps (steps_told b plan zone) earlier stays →
      steps_made_by cpu round stays ≡ take (carried cpu round (visits_in stays)) (drop (carried cpu round earlier) all_steps)
  first_from earlier [] have = refl
  first_from earlier (s ∷ stays) have =
      let from = carried cpu round earlier in
      let later = carried cpu round (visits_in stays) in
      let n = length s.steps in
      let rest = first_from (earlier ++ visit_in s ∷ []) stays have.1 in
      elim (is_here s) as (λ t. is_here s ≡ t → carried cpu round (earlier ++ visit_in s ∷ []) ≡ from + (if t then n else 0) →
      (if t then s.steps else []) ++ steps_made_by cpu round stays ≡ take ((if t then n else 0) + later) (drop from all_steps)) [
        | true ↦ λ here after.
            let same = same_both s.cpu cpu s.round round here in
            let mine : take n (drop from all_steps) ≡ s.steps = ap (λ c. take n (drop (carried c round earlier) (steps_of b plan c zone round))) (sym same.0)
            ∙ ap (λ r. take n (drop (carried s.cpu r earlier) (steps_of b plan s.cpu zone r))) (sym same.1) ∙ have.0 in
            ap (λ (l : List Step). l ++ steps_made_by cpu round stays) (sym mine)
            ∙ ap (λ (l : List Step). take n (drop from all_steps) ++ l) (rest ∙ ap (λ k. take later (drop k all_steps)) after ∙ ap (take later) (sym (drop-drop n from all_steps)))
            ∙ sym (take-add n later (drop from all_steps))
        | false ↦ λ here after. rest ∙ ap (λ k. take later (drop k all_steps)) (after ∙ add-zero from) ∙ ap (λ k. take k (drop from all_steps)) (sym (zero-add later))
      ] refl (carried_after earlier s)

pub first_steps : (b : Bundle) (plan : Plan) (zone cpu round : ℕ) (stays : List Stay) → HaveSteps (steps_told b plan zone) [] stays → steps_made_by cpu round stays ≡ take (carried cpu round (visits_in stays)) (steps_of b plan cpu zone round)
first_steps b plan zone cpu round stays have = first_from b plan zone cpu round [] stays have

-- ---- the first round

pub new_is_locked : (b : Bundle) (plan : Plan) (book : Book) (pages : Ready) (pass : SupplyPass) → IsNewZone b plan book pages pass → IsLockedZone b plan book pages pass
new_is_locked b plan book pages pass new =
    let p = params_of b plan pass.number in
    let j = new.history in
    let is : Some (nothing p) ≡ Some j.made =
    ap (λ (l : List (ℕ × Step)). alone p l []) (sym new.no_steps) ∙ ap (λ (l : List Answer). alone p j.steps l) (sym new.no_answers) ∙ ap (λ (p : ZoneParams). alone p j.steps j.answers) (sym new.params) ∙ new.keeps.alone in
    let made : nothing p ≡ j.made = ap (λ (made : Option Course). unwrap_or made (nothing p)) is in
    let ends : j.made.end ≡ opening p = ap (λ (c : Course). c.end) (sym made) in
    record {
      zone = new.zone;
      params = new.params;
      zone_params = new.keeps.params ∙ new.params;
      pages_params = new.pages_params;
      room = new.room;
      few = subst (λ (visits : List Visit). length visits ≤ sum book.room.steps) (sym new.visits) (omega arith);
      idle = new.idle;
      none_wait = new.none_wait;
      stays = [];
      end = opening p;
      are = refl;
      steps = tt;
      visits = new.visits;
      entries = new.entries;
      shows = subst (λ (end : ZoneState). StandsFor book.zone end.shared) ends new.keeps.shows;
      whole = subst (λ (end : ZoneState). IsWhole p end) ends (subst (λ (p : ZoneParams). IsWhole p j.made.end) new.params new.keeps.whole);
    }
