-- A zone's history with a visit or a settling more.
use Rattle.std.proofs.Common.{◌≡◌, ℕ, ◌+◌, ◌<◌, ◌==◌, true, false, if◌then◌else◌, List, [], ◌∷◌, ◌++◌, length, take, drop, map, replicate, Option, None, Some, refl, ap, sym, ◌∙◌, subst, arith}
use Rattle.std.specs.Option.{option_map_or}
use Rattle.std.proofs.lemmas.List.{append-nil, get_or-set_same, get_or-set_other, length-set, map-append, set-get_or, set-set}
use Rattle.kz_model.specs.declared.record.Room.{Room}
use Rattle.kz_model.specs.declared.record.ZoneParams.{ZoneParams}
use Rattle.kz_model.specs.declared.step.Block.{Block}
use Rattle.kz_model.specs.declared.step.Bound.{Bound}
use Rattle.kz_model.specs.declared.step.Reply.{Reply}
use Rattle.kz_model.specs.declared.step.Step.{Step}
use Rattle.kz_model.specs.declared.supply.Answer.{Answer}
use Rattle.kz_model.specs.declared.supply.Ask.{Ask}
use Rattle.kz_model.specs.Zone.Alone.{Course, course, alone, all_used}
use Rattle.kz_model.specs.Zone.Late.{NeedNone, part_after, states_late, by_cpu}
use Rattle.kz_model.specs.Zone.Local.{local_answer, with_cpu_part}
use Rattle.kz_model.specs.Zone.Rules.{Effect, Part, Stepped, needs_visit, asks_of, all_answered, effect_of, part_of, put_back, alone_step}
use Rattle.kz_model.specs.Zone.Whole.{IsWhole}
use Rattle.kz_model.specs.Zone.Words.{opened}
use Rattle.kz_model.specs.Zone.State.{Shared, CpuPart, ZoneState, nothing_shared, no_cpu_part, opening, cpu_part}
use Rattle.kz_model.proofs.Commuting.{steps_alone}
use Rattle.kz_model.proofs.Courses.{joined, then_course, course-append}
use Rattle.kz_model.proofs.LateSteps.{replies_of, late_course}
use Rattle.kz_model.proofs.MoreAnswers.{course-more}
use Rattle.kz_model.proofs.OneMore.{one_course, course_one_more}
use Rattle.kz_model.proofs.WholeKept.{whole_opening, whole_step}
use Rattle.kz_supply.specs.Exchange.{Exchange, ask_of, answer_of}
use Rattle.kz_zone.specs.Room.{AreFitParams}
use Rattle.kz_supply.specs.Pages.{SupplyView}
use Rattle.kz_zone.specs.Zone.{Zone, StandsFor}
use Rattle.kz_book.specs.Acts.{Scene, IsIn, IsOrderly, HasEffect, HasEffectInEachState, scene}
use Rattle.kz_book.specs.Book.{History, Book, KeepsHistory, params_of}
use Rattle.kz_book.specs.Visits.{IsAtVisit, Extends, Settles, own_in, replies_late, bound_there}

-- ---- courses

-- a zone alone is a course that uses all answers
pub record IsCourse (p : ZoneParams) (steps : List (ℕ × Step)) (answers : List Answer) (made : Course) : Type 0 where
  pub course : course p (opening p) steps answers ≡ Some made
  pub used : made.left ≡ []

course_of : (o : Option Course) (made : Course) → option_map_or all_used o None ≡ Some made → (o ≡ Some made) × (made.left ≡ [])
course_of None made h = absurd (cc)
course_of (Some c) made h = by_left c c.left refl h
  where
    same : (a b : Course) → Some a ≡ Some b → a ≡ b
    same a b e = cc

    by_left : (c : Course) (left : List Answer) → c.left ≡ left → (if length left == 0 then Some c else None) ≡ Some made → (Some c ≡ Some made) × (made.left ≡ [])
    by_left c [] e f = (f, ap (λ (d : Course). d.left) (sym (same c made f)) ∙ e)
    by_left c (a ∷ left) e f = let some : (length (a ∷ left) == 0) ≡ false = grind arith in absurd (let g : None ≡ Some made = ap (λ b. if b then Some c else None) (sym some) ∙ f in cc)

pub is_course : (p : ZoneParams) (steps : List (ℕ × Step)) (answers : List Answer) (made : Course) → alone p steps answers ≡ Some made → IsCourse p steps answers made
is_course p steps answers made h = let both = course_of (course p (opening p) steps answers) made h in record { course = both.0; used = both.1 }

pub is_alone : (p : ZoneParams) (steps : List (ℕ × Step)) (answers : List Answer) (made : Course) → IsCourse p steps answers made → alone p steps answers ≡ Some made
is_alone p steps answers made h =
    ap (λ (o : Option Course). option_map_or all_used o None) h.course ∙ ap (λ (left : List Answer). if length left == 0 then Some made else None) h.used

-- a course goes on with more steps and the answers to them
pub course_on : (p : ZoneParams) (steps more : List (ℕ × Step)) (answers given : List Answer) (made next : Course) → IsCourse p steps answers made → course p made.end more given ≡ Some next → next.left ≡ [] →
    IsCourse p (steps ++ more) (answers ++ given) (joined made next)
course_on p steps more answers given made next h goes used = record {
  course =
      course-append p (opening p) steps more (answers ++ given)
      ∙ ap (λ (o : Option Course). then_course o (λ mid left. course p mid more left)) (course-more p (opening p) steps answers given made h.course)
      ∙ ap (λ (left : List Answer). option_map_or (λ (b : Course). Some (joined made b)) (course p made.end more (left ++ given)) None) h.used
      ∙ ap (λ (o : Option Course). option_map_or (λ (b : Course). Some (joined made b)) o None) goes;
  used = used;
}

-- ---- late steps

pub replies_same : (p : ZoneParams) (own : CpuPart) (steps : List Step) → replies_of p own steps ≡ replies_late p own steps
replies_same p own [] = refl
replies_same p own (step ∷ steps) = ap (λ (rest : List Reply). (local_answer p own step).reply ∷ rest) (replies_same p (local_answer p own step).own steps)

-- a CPU's part that is put into the state
pub own_put : (state : ZoneState) (cpu : ℕ) (own : CpuPart) → cpu < length state.own → cpu_part (with_cpu_part state cpu own) cpu ≡ own
own_put state cpu own lt = get_or-set_same state.own cpu own no_cpu_part lt

with_cpu_part-twice : (state : ZoneState) (cpu : ℕ) (first last : CpuPart) → with_cpu_part (with_cpu_part state cpu first) cpu last ≡ with_cpu_part state cpu last
with_cpu_part-twice state cpu first last = ap (λ (owns : List CpuPart). record { shared = state.shared; own = owns }) (set-set state.own cpu first last)

-- the zone stays in order
pub whole_late : (p : ZoneParams) (state : ZoneState) (cpu : ℕ) (steps : List Step) → 0 < p.count → 0 < p.magazine → cpu < p.cpus → IsWhole p state → NeedNone p (cpu_part state cpu) steps →
    IsWhole p (with_cpu_part state cpu (part_after p (cpu_part state cpu) steps))
whole_late p state cpu [] some some_magazine lt whole none =
    subst (λ (st : ZoneState). IsWhole p st) (sym (ap (λ (owns : List CpuPart). record { shared = state.shared; own = owns }) (set-get_or state.own cpu no_cpu_part))) whole
whole_late p state cpu (step ∷ steps) some some_magazine lt whole none =
    let own = (local_answer p (cpu_part state cpu) step).own in
    let next = with_cpu_part state cpu own in
    let mine : cpu_part next cpu ≡ own = own_put state cpu own (omega (arith, whole.cpus)) in
    let stepped : Stepped = record { reply = (local_answer p (cpu_part state cpu) step).reply; state = next; asks = []; left = [] } in
    let now : IsWhole p next = whole_step p state cpu step [] stepped some some_magazine lt whole (steps_alone p state cpu step [] none.0) in
    let last = whole_late p next cpu steps some some_magazine lt now (subst (λ (o : CpuPart). NeedNone p o steps) (sym mine) none.1) in
    subst (λ (st : ZoneState). IsWhole p st) (ap (λ (o : CpuPart). with_cpu_part next cpu (part_after p o steps)) mine ∙ with_cpu_part-twice state cpu own (part_after p own steps)) last

-- ---- a visit's step

-- what the step did, by the zone's parameters
record IsDone (p : ZoneParams) (after : Scene) (cpu : ℕ) (step : Step) (s : Shared) (own : CpuPart) (reply : Reply) (exchanges : List Exchange) : Type 0 where
  asks : map ask_of exchanges ≡ asks_of p s cpu own step
  fit : all_answered (map ask_of exchanges) (map answer_of exchanges) ≡ true
  is_reply : reply ≡ (effect_of p s cpu own step (map answer_of exchanges)).reply
  shows : StandsFor after.zone (effect_of p s cpu own step (map answer_of exchanges)).shared
  stack : after.stack ≡ (effect_of p s cpu own step (map answer_of exchanges)).own.stack
  bound : after.bound ≡ bound_there (effect_of p s cpu own step (map answer_of exchanges)).own step

is_done : (p : ZoneParams) (before after : Scene) (cpu : ℕ) (step : Step) (s : Shared) (own : CpuPart) (reply : Reply) (exchanges : List Exchange) → before.zone.params ≡ p → HasEffect before after cpu step s own reply exchanges → IsDone p after cpu step s own reply exchanges
is_done p before after cpu step s own reply exchanges same d =
    subst (λ (q : ZoneParams). IsDone q after cpu step s own reply exchanges) same
    (record { asks = d.asks; fit = d.fit; is_reply = d.is_reply; shows = d.shows; stack = d.stack; bound = d.bound })

all_taken : (exchanges : List Exchange) → take (length (map ask_of exchanges)) (map answer_of exchanges) ≡ map answer_of exchanges
all_taken [] = refl
all_taken (e ∷ exchanges) = ap (λ (answers : List Answer). answer_of e ∷ answers) (all_taken exchanges)

none_dropped : (exchanges : List Exchange) → drop (length (map ask_of exchanges)) (map answer_of exchanges) ≡ []
none_dropped [] = refl
none_dropped (e ∷ exchanges) = none_dropped exchanges

-- the step alone, in a state with this part of the CPU
abbrev stepped_by : ZoneState → ℕ → Effect → List Exchange → Stepped
stepped_by state cpu e exchanges = put_back state cpu (record { effect = e; asks = map ask_of exchanges; left = [] })

step_done : (p : ZoneParams) (state : ZoneState) (after : Scene) (cpu : ℕ) (step : Step) (own : CpuPart) (reply : Reply) (exchanges : List Exchange) → cpu_part state cpu ≡ own → IsDone p after cpu step state.shared own reply exchanges →
    alone_step p state cpu step (map answer_of exchanges) ≡ Some (stepped_by state cpu (effect_of p state.shared cpu own step (map answer_of exchanges)) exchanges)
step_done p state after cpu step own reply exchanges mine d =
    let answers = map answer_of exchanges in
    let effect : List Answer → Effect = λ given. effect_of p state.shared cpu own step given in
    let F : Part → Option Stepped = λ part. if all_answered part.asks answers then Some (put_back state cpu part) else None in
    let G : List Ask → Part = λ asks. record { effect = effect (take (length asks) answers); asks = asks; left = drop (length asks) answers } in
    ap (λ (o : CpuPart). F (part_of p state.shared cpu o step answers)) mine
    ∙ ap (λ (asks : List Ask). F (G asks)) (sym d.asks)
    ∙ ap (λ b. if b then Some (put_back state cpu (G (map ask_of exchanges))) else None) d.fit
    ∙ ap (λ (given : List Answer). Some (put_back state cpu (record { effect = effect given; asks = map ask_of exchanges; left = drop (length (map ask_of exchanges)) answers }))) (all_taken exchanges)
    ∙ ap (λ (left : List Answer). Some (put_back state cpu (record { effect = effect answers; asks = map ask_of exchanges; left = left }))) (none_dropped exchanges)

-- ---- a history with a visit more

pub extends : {Base : Type 0} (book new : Book) (j : History) (cpu : ℕ) (recent : List Step) (stack left : List Block) (bound now : Option Bound) (step : Step) (reply : Reply) (first last : SupplyView Base) (a : HasEffectInEachState (scene book.zone stack bound) (scene new.zone left now) cpu step reply first last) →
    new.room ≡ book.room → new.zone.params ≡ book.zone.params → 0 < (params_of book).count → 0 < (params_of book).magazine → cpu < (params_of book).cpus → KeepsHistory book j → IsAtVisit (params_of book) (cpu_part j.made.end cpu) recent stack bound step →
    (after : History) × KeepsHistory new after × Extends (params_of book) cpu j after recent step reply a.exchanges × (left ≡ (cpu_part after.made.end cpu).stack) × (now ≡ bound_there (cpu_part after.made.end cpu) step)
extends book new j cpu recent stack left bound now step reply first last a room same some some_magazine lt k at =
    let p = params_of book in
    let s = j.made.end.shared in
    let own = own_in p j cpu recent in
    let within : cpu < length j.made.end.own = omega (arith, k.whole.cpus) in
    let answers = map answer_of a.exchanges in
    let e = effect_of p s cpu own step answers in
    let state = with_cpu_part j.made.end cpu own in
    let mine : cpu_part state cpu ≡ own = own_put j.made.end cpu own within in
    let here : IsIn (scene book.zone stack bound) step s own = record { shows = k.shows; stack = at.is_stack; bound = at.is_bound; needs = subst (λ (q : ZoneParams). needs_visit q own step ≡ true) (sym k.params) at.needs } in
    let d = is_done p (scene book.zone stack bound) (scene new.zone left now) cpu step s own reply a.exchanges k.params (a.does s own here) in
    let o = stepped_by state cpu e a.exchanges in
    let late = late_course p j.made.end cpu recent [] within at.none in
    let by_step = step_done p state (scene new.zone left now) cpu step own reply a.exchanges mine d in
    let goes = course_one_more p j.made.end (by_cpu cpu recent) cpu step [] answers late.0 o late.1 late.2.left (subst (λ (st : ZoneState). alone_step p st cpu step answers ≡ Some o) (sym late.2.end) by_step) in
    let visit = joined late.0 (one_course late.0.end o) in
    let all : IsCourse p (j.steps ++ by_cpu cpu (recent ++ step ∷ [])) (j.answers ++ answers) (joined j.made visit) =
    subst (λ (steps : List (ℕ × Step)). IsCourse p (j.steps ++ steps) (j.answers ++ answers) (joined j.made visit)) (sym (map-append (λ (st : Step). (cpu, st)) recent (step ∷ [])))
    (course_on p j.steps (by_cpu cpu recent ++ (cpu, step) ∷ []) j.answers answers j.made visit (is_course p j.steps j.answers j.made k.alone) goes refl) in
    let whole : IsWhole p o.state = whole_step p state cpu step answers o some some_magazine lt (whole_late p j.made.end cpu recent some some_magazine lt k.whole at.none) by_step in
    let ends : cpu_part o.state cpu ≡ e.own = get_or-set_same state.own cpu e.own no_cpu_part (subst (λ n. cpu < n) (sym (length-set j.made.end.own cpu own)) within) in
    let params : params_of new ≡ p = ap (λ (r : Room). r.params) room in (
      record { steps = j.steps ++ by_cpu cpu (recent ++ step ∷ []); answers = j.answers ++ answers; made = joined j.made visit },
      record {
        alone = subst (λ (q : ZoneParams). alone q (j.steps ++ by_cpu cpu (recent ++ step ∷ [])) (j.answers ++ answers) ≡ Some (joined j.made visit)) (sym params) (is_alone p _ _ (joined j.made visit) all);
        params = same ∙ k.params ∙ sym params;
        shows = d.shows;
        whole = subst (λ (q : ZoneParams). IsWhole q o.state) (sym params) whole;
      },
      record {
        steps = refl;
        answers = refl;
        asks = d.asks;
        fit = d.fit;
        is_reply = d.is_reply;
        end = ap (λ (owns : List CpuPart). record { shared = e.shared; own = owns }) (set-set j.made.end.own cpu own e.own);
        others = λ other ne. get_or-set_other state.own cpu other e.own no_cpu_part ne ∙ get_or-set_other j.made.end.own cpu other own no_cpu_part ne;
        asked = ap (λ (rest : List (List Ask)). j.made.asks ++ (rest ++ map ask_of a.exchanges ∷ [])) late.2.asks
            ∙ ap (λ (asks : List Ask). j.made.asks ++ (replicate (length recent) [] ++ asks ∷ [])) d.asks;
        states = ap (λ (rest : List ZoneState). j.made.before ++ (rest ++ late.0.end ∷ [])) late.2.states
            ∙ ap (λ (st : ZoneState). j.made.before ++ (states_late p j.made.end cpu recent ++ st ∷ [])) late.2.end;
        replies = ap (λ (rest : List Reply). j.made.replies ++ (rest ++ e.reply ∷ [])) (late.2.replies ∙ replies_same p (cpu_part j.made.end cpu) recent) ∙ ap (λ (r : Reply). j.made.replies ++ (replies_late p (cpu_part j.made.end cpu) recent ++ r ∷ [])) (sym d.is_reply);
      },
      d.stack ∙ ap (λ (mine : CpuPart). mine.stack) (sym ends),
      d.bound ∙ ap (λ (mine : CpuPart). bound_there mine step) (sym ends),
    )

-- the zone's state after the recent steps is in order
pub orderly : (book : Book) (j : History) (cpu : ℕ) (recent : List Step) (stack : List Block) (bound : Option Bound) (step : Step) → AreFitParams (params_of book) → cpu < (params_of book).cpus → KeepsHistory book j → IsAtVisit (params_of book) (cpu_part j.made.end cpu) recent stack bound step →
    IsOrderly (scene book.zone stack bound) cpu step
orderly book j cpu recent stack bound step fit lt k at =
    let p = params_of book in
    let own = own_in p j cpu recent in
    let within : cpu < length j.made.end.own = omega (arith, k.whole.cpus) in
    let state = with_cpu_part j.made.end cpu own in
    let mine : cpu_part state cpu ≡ own = own_put j.made.end cpu own within in
    let there : IsIn (scene book.zone stack bound) step j.made.end.shared own = record { shows = k.shows; stack = at.is_stack; bound = at.is_bound; needs = subst (λ (q : ZoneParams). needs_visit q own step ≡ true) (sym k.params) at.needs } in
    record {
      fit = subst (λ (q : ZoneParams). AreFitParams q) (sym k.params) fit;
      state = state;
      whole = subst (λ (q : ZoneParams). IsWhole q state) (sym k.params) (whole_late p j.made.end cpu recent fit.shape.some_count fit.some_magazine lt k.whole at.none);
      one_of = subst (λ n. cpu < n) (sym (length-set j.made.end.own cpu own)) within;
      at = subst (λ (o : CpuPart). IsIn (scene book.zone stack bound) step j.made.end.shared o) (sym mine) there;
    }

-- ---- a history with a settling more

pub settles : (book new : Book) (j : History) (cpu : ℕ) (recent : List Step) → new.room ≡ book.room → new.zone ≡ book.zone → 0 < (params_of book).count → 0 < (params_of book).magazine → cpu < (params_of book).cpus → KeepsHistory book j → NeedNone (params_of book) (cpu_part j.made.end cpu) recent →
    (after : History) × KeepsHistory new after × Settles (params_of book) cpu j after recent
settles book new j cpu recent room same some some_magazine lt k none =
    let p = params_of book in
    let own = own_in p j cpu recent in
    let within : cpu < length j.made.end.own = omega (arith, k.whole.cpus) in
    let late = late_course p j.made.end cpu recent [] within none in
    let all : IsCourse p (j.steps ++ by_cpu cpu recent) (j.answers ++ []) (joined j.made late.0) = course_on p j.steps (by_cpu cpu recent) j.answers [] j.made late.0 (is_course p j.steps j.answers j.made k.alone) late.1 late.2.left in
    let once : alone p (j.steps ++ by_cpu cpu recent) j.answers ≡ Some (joined j.made late.0) =
    subst (λ (answers : List Answer). alone p (j.steps ++ by_cpu cpu recent) answers ≡ Some (joined j.made late.0)) (append-nil j.answers) (is_alone p _ _ (joined j.made late.0) all) in
    let params : params_of new ≡ p = ap (λ (r : Room). r.params) room in (
      record { steps = j.steps ++ by_cpu cpu recent; answers = j.answers; made = joined j.made late.0 },
      record {
        alone = subst (λ (q : ZoneParams). alone q (j.steps ++ by_cpu cpu recent) j.answers ≡ Some (joined j.made late.0)) (sym params) once;
        params = ap (λ (z : Zone). z.params) same ∙ k.params ∙ sym params;
        shows = subst (λ (st : ZoneState). StandsFor new.zone st.shared) (sym late.2.end) (subst (λ (z : Zone). StandsFor z j.made.end.shared) (sym same) k.shows);
        whole = subst (λ (q : ZoneParams). IsWhole q late.0.end) (sym params) (subst (λ (st : ZoneState). IsWhole p st) (sym late.2.end) (whole_late p j.made.end cpu recent some some_magazine lt k.whole none));
      },
      record {
        steps = refl;
        answers = refl;
        end = late.2.end;
        others = λ other ne. ap (λ (st : ZoneState). cpu_part st other) late.2.end ∙ get_or-set_other j.made.end.own cpu other own no_cpu_part ne;
        asked = ap (λ (rest : List (List Ask)). j.made.asks ++ rest) late.2.asks;
        states = ap (λ (rest : List ZoneState). j.made.before ++ rest) late.2.states;
        replies = ap (λ (rest : List Reply). j.made.replies ++ rest) (late.2.replies ∙ replies_same p (cpu_part j.made.end cpu) recent);
      },
    )

-- ---- the first history

-- the zone as it opens
abbrev pub opened_zone : Room → Zone
opened_zone room =
    record {
      params = room.params;
      most_chunks = room.chunks;
      most_gifts = room.transit;
      chunks = [];
      bases = [];
      depot = [];
      transit = [];
      words = opened room.params.seed (2 + room.params.zone);
    }

pub opens : (book : Book) → book.zone ≡ opened_zone book.room → (j : History) × KeepsHistory book j × (j.steps ≡ []) × (j.answers ≡ [])
opens book is =
    let p = params_of book in
    let shows : StandsFor (opened_zone book.room) nothing_shared = record { chunks = refl; depot = refl; transit = refl; words = refl } in (
      record { steps = []; answers = []; made = record { replies = []; asks = []; before = []; end = opening p; left = [] } },
      record {
        alone = refl;
        params = ap (λ (z : Zone). z.params) is;
        shows = subst (λ (z : Zone). StandsFor z nothing_shared) (sym is) shows;
        whole = whole_opening p;
      },
      refl,
      refl,
    )
