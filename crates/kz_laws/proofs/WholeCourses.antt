-- Along a course from a whole state the zone is whole, and it has as many new chunks as its answers have pages.
use Rattle.std.proofs.Common.{◌≡◌, ℕ, suc, ◌+◌, ◌<◌, ◌≤◌, ◌==◌, ◌&&◌, Bool, true, false, if◌then◌else◌, List, [], ◌∷◌, length, take, drop, slice_set, Option, Some, None, refl, ap, sym, subst, ◌∙◌, arith, length-append}
use Rattle.std.specs.List.{AllByRecursion, filter_map}
use Rattle.std.specs.Option.{option_map_or}
use Rattle.std.proofs.lemmas.Option.{none-some, same_Some}
use Rattle.std.proofs.lemmas.List.{get_or-set_same, length-set, take-append-drop}
use Rattle.std.proofs.lemmas.List.Elements.{All-get_or, All-weaker, filter_map-append}
use Rattle.kz_model.specs.declared.record.ZoneParams.{ZoneParams}
use Rattle.kz_model.specs.declared.step.Bound.{Bound}
use Rattle.kz_model.specs.declared.step.Step.{Step}
use Rattle.kz_model.specs.declared.supply.Ask.{Ask}
use Rattle.kz_model.specs.declared.supply.Answer.{Answer}
use Rattle.kz_model.specs.Zone.State.{CpuPart, ZoneState, no_cpu_part, opening, cpu_part}
use Rattle.kz_model.specs.Zone.Rules.{Part, Stepped, fits, all_answered, part_of, put_back, alone_step}
use Rattle.kz_model.specs.Zone.Alone.{Course, course, alone, all_used, with_first}
use Rattle.kz_model.specs.Run.Journal.{page_of}
use Rattle.kz_model.specs.Zone.Whole.{AreWithin, IsCpuPart, IsWhole}
use Rattle.kz_laws.specs.Isolation.{AreBlocksWithin, HoldsAlong}
use Rattle.kz_laws.specs.PlayedAt.{IsReplyWithin}
use Rattle.kz_laws.proofs.Amounts.{effect_amounts}
use Rattle.kz_laws.proofs.Blocks.{within_more, reply_within}
use Rattle.kz_laws.proofs.InOrder.{in_order}
use Rattle.kz_model.proofs.WholeKept.{whole_opening, whole_step}

-- these steps are of so many CPUs
abbrev pub AreByCpus : ℕ → List (ℕ × Step) → Type 0
AreByCpus cpus steps = AllByRecursion (λ step. step.0 < cpus) steps

-- what an option that is something was made of
pub chained : {A B : Type 0} (f : A → Option B) (o : Option A) (y : B) → option_map_or f o None ≡ Some y →
    (x : A) × (o ≡ Some x) × (f x ≡ Some y)
chained f None y is = absurd (none-some y is)
chained f (Some x) y is = (x, refl, is)

pub chosen : {A : Type 0} (test : Bool) (x y : A) → (if test then Some x else None) ≡ Some y → (test ≡ true) × (x ≡ y)
chosen true x y is = (refl, same_Some x y is)
chosen false x y is = absurd (none-some y is)

-- ---- the answers to asks

both : (a b : Bool) → (a && b) ≡ true → (a ≡ true) × (b ≡ true)
both true b e = (refl, e)
both false b e = absurd (cc)

-- the asks are answered by the first answers alone
pub first_answers : (asks : List Ask) (answers : List Answer) → all_answered asks answers ≡ true →
    (all_answered asks (take (length asks) answers) ≡ true) × (length (take (length asks) answers) ≡ length asks)
first_answers [] answers all = (refl, refl)
first_answers (ask ∷ asks) [] all = absurd (cc)
first_answers (ask ∷ asks) (answer ∷ answers) all =
    let here = both (fits ask answer) (all_answered asks answers) all in
    let more = first_answers asks answers here.1 in
    (ap (λ b. b && all_answered asks (take (length asks) answers)) here.0 ∙ more.0, ap (λ n. suc n) more.1)

pub pages_split : (n : ℕ) (answers : List Answer) →
    length (filter_map page_of (take n answers)) + length (filter_map page_of (drop n answers))
    ≡ length (filter_map page_of answers)
pages_split n answers =
    sym (length-append (filter_map page_of (take n answers)) (filter_map page_of (drop n answers)))
    ∙ ap (λ (l : List ℕ). length l) (sym (filter_map-append page_of (take n answers) (drop n answers)))
    ∙ ap (λ (l : List Answer). length (filter_map page_of l)) (take-append-drop n answers)

-- ---- a step

-- how many chunks a zone has
abbrev pub chunk_count : ZoneState → ℕ
chunk_count state = length state.shared.chunks

abbrev page_count : List Answer → ℕ
page_count answers = length (filter_map page_of answers)

record IsWholeAfter (p : ZoneParams) (state : ZoneState) (answers : List Answer) (o : Stepped) : Type 0 where
  whole : IsWhole p o.state
  chunks : chunk_count o.state + page_count o.left ≡ chunk_count state + page_count answers
  grows : chunk_count state ≤ chunk_count o.state
  reply : IsReplyWithin (chunk_count o.state) o.reply

-- a step from a whole state
whole_after : (p : ZoneParams) (state : ZoneState) (cpu : ℕ) (step : Step) (answers : List Answer) (o : Stepped) →
    0 < p.count → 0 < p.magazine → cpu < p.cpus → IsWhole p state →
    alone_step p state cpu step answers ≡ Some o → IsWholeAfter p state answers o
whole_after p state cpu step answers o some some_magazine lt whole made =
    let own = cpu_part state cpu in
    let part = part_of p state.shared cpu own step answers in
    let is = chosen (all_answered part.asks answers) (put_back state cpu part) o made in
    let given = take (length part.asks) answers in
    let first = first_answers part.asks answers is.0 in
    let amounts = effect_amounts p 0 state.shared cpu own step given first.0 first.1 in
    let again : IsWhole p (put_back state cpu part).state =
    subst (λ (o : Stepped). IsWhole p o.state) (sym is.1)
    (whole_step p state cpu step answers o some some_magazine lt whole made) in
    let in-own : cpu < length state.own = subst (λ n. cpu < n) (sym whole.cpus) lt in
    subst (IsWholeAfter p state answers) is.1 (record {
      whole = again;
      chunks =
          counts (chunk_count state) (length part.effect.shared.chunks)
          (page_count given) (page_count part.left) (page_count answers)
          amounts.chunks (pages_split (length part.asks) answers);
      grows = omega (arith, amounts.chunks);
      reply = reply_within p state.shared cpu own step given (names_within part again in-own);
    })
  where
    counts : (n after here later all : ℕ) → after ≡ n + here → here + later ≡ all → after + later ≡ n + all
    counts n after here later all a b = omega arith

    names_within : (part : Part) → IsWhole p (put_back state cpu part).state → cpu < length state.own →
        AreWithin p (length part.effect.shared.chunks) part.effect.own.names
    names_within part again in-own =
        let owns = slice_set state.own cpu part.effect.own in
        let long : cpu < length owns = subst (λ n. cpu < n) (sym (length-set state.own cpu part.effect.own)) in-own in
        let mine = All-get_or (IsCpuPart p (length part.effect.shared.chunks)) owns cpu no_cpu_part long again.own in
        subst (λ (own : CpuPart). AreWithin p (length part.effect.shared.chunks) own.names)
        (get_or-set_same state.own cpu part.effect.own no_cpu_part in-own) mine.names

-- ---- a course

-- a whole state, with no more chunks than that
pub record IsWholeBelow (p : ZoneParams) (chunks : ℕ) (state : ZoneState) : Type 0 where
  pub whole : IsWhole p state
  pub few : chunk_count state ≤ chunks

pub record IsCourseWhole (p : ZoneParams) (state : ZoneState) (answers : List Answer) (c : Course) : Type 0 where
  pub before : AllByRecursion (IsWholeBelow p (chunk_count c.end)) c.before
  pub end : IsWhole p c.end
  pub chunks : chunk_count c.end + page_count c.left ≡ chunk_count state + page_count answers
  pub grows : chunk_count state ≤ chunk_count c.end
  pub replies : AllByRecursion (IsReplyWithin (chunk_count c.end)) c.replies

course_whole : (p : ZoneParams) (state : ZoneState) (steps : List (ℕ × Step)) (answers : List Answer) (c : Course) →
    0 < p.count → 0 < p.magazine → AreByCpus p.cpus steps → IsWhole p state →
    course p state steps answers ≡ Some c → IsCourseWhole p state answers c
course_whole p state [] answers c some some_magazine cpus whole is =
    let none : Course = record { replies = []; asks = []; before = []; end = state; left = answers } in
    subst (IsCourseWhole p state answers) (same_Some none c is)
    (record { before = tt; end = whole; chunks = refl; grows = omega arith; replies = tt })
course_whole p state (step ∷ steps) answers c some some_magazine cpus whole is =
    let more = λ (stepped : Stepped). option_map_or (λ (rest : Course). Some (with_first state stepped rest))
    (course p stepped.state steps stepped.left) None in
    let first = chained more (alone_step p state step.0 step.1 answers) c is in
    let o = first.0 in
    let onto = λ (rest : Course). Some (with_first state o rest) in
    let second = chained onto (course p o.state steps o.left) c first.2 in
    let here = whole_after p state step.0 step.1 answers o some some_magazine cpus.0 whole first.1 in
    let rest = course_whole p o.state steps o.left second.0 some some_magazine cpus.1 here.whole second.1 in
    subst (IsCourseWhole p state answers) (same_Some (with_first state o second.0) c second.2) (record {
      before = (record { whole = whole; few = omega (arith, here.grows, rest.grows) }, rest.before);
      end = rest.end;
      chunks = rest.chunks ∙ here.chunks;
      grows = omega (arith, here.grows, rest.grows);
      replies = (
        within_more (chunk_count o.state) (chunk_count second.0.end) o.reply rest.grows here.reply,
        rest.replies,
      );
    })

-- A zone alone is whole all along, and has a chunk for each page of its answers.
pub record IsAloneWhole (p : ZoneParams) (answers : List Answer) (c : Course) : Type 0 where
  pub course : IsCourseWhole p (opening p) answers c
  pub chunks : page_count answers ≡ chunk_count c.end

pub alone_whole : (p : ZoneParams) (steps : List (ℕ × Step)) (answers : List Answer) (c : Course) →
    0 < p.count → 0 < p.magazine → AreByCpus p.cpus steps → alone p steps answers ≡ Some c → IsAloneWhole p answers c
alone_whole p steps answers c some some_magazine cpus is =
    let first = chained all_used (course p (opening p) steps answers) c is in
    let used = chosen (length first.0.left == 0) first.0 c first.2 in
    let whole = course_whole p (opening p) steps answers first.0 some some_magazine cpus (whole_opening p) first.1 in
    subst (IsAloneWhole p answers) used.1
    (record {
      course = whole;
      chunks =
          all_pages (chunk_count first.0.end) first.0.left (page_count answers)
          (none_left (length first.0.left) used.0) whole.chunks;
    })
  where
    none_left : (n : ℕ) → (n == 0) ≡ true → n ≡ 0
    none_left n e = grind arith

    all_pages : (n : ℕ) (left : List Answer) (pages : ℕ) → length left ≡ 0 → n + page_count left ≡ 0 + pages → pages ≡ n
    all_pages n [] pages none all = omega arith
    all_pages n (a ∷ left) pages none all = absurd (omega arith)

-- ---- what is said of each state

pub all_weaker : {A : Type 0} (P Q : A → Type 0) → ((x : A) → P x → Q x) →
    (xs : List A) → AllByRecursion P xs → AllByRecursion Q xs
all_weaker P Q f [] h = tt
all_weaker P Q f (x ∷ xs) h = (f x h.0, all_weaker P Q f xs h.1)

-- what holds of whole states holds all along
pub whole_along : (p : ZoneParams) (answers : List Answer) (c : Course) (P : ZoneState → Type 0) →
    ((state : ZoneState) → IsWholeBelow p (chunk_count c.end) state → P state) →
    IsAloneWhole p answers c → HoldsAlong P c
whole_along p answers c P f is = (
  all_weaker (IsWholeBelow p (chunk_count c.end)) P f c.before is.course.before,
  f c.end (record { whole = is.course.end; few = omega arith }),
)

names_below : (p : ZoneParams) (n m : ℕ) (own : CpuPart) → n ≤ m → AreWithin p n own.names → AreWithin p m own.names
names_below p n m own le = below own.names
  where
    below : (names : List (ℕ × Bound)) → AreWithin p n names → AreWithin p m names
    below [] h = tt
    below (entry ∷ names) h = (omega (arith, h.0), h.1, below names h.2)

-- the blocks of a whole zone are elements of the chunks that it has, so also of more
pub blocks_within : (p : ZoneParams) (chunks : ℕ) (state : ZoneState) → IsWhole p state →
    chunk_count state ≤ chunks → AreBlocksWithin p chunks state
blocks_within p chunks state whole le =
    let order = in_order p state whole in
    record {
      standing = λ block some. let there = order.within block some in (omega (arith, there.0), there.1);
      bound =
          All-weaker (λ (own : CpuPart). AreWithin p (chunk_count state) own.names)
          (λ (own : CpuPart). AreWithin p chunks own.names)
          (λ own. names_below p (chunk_count state) chunks own le) state.own order.names;
    }
