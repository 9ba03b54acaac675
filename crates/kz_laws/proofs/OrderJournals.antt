-- A zone's journal in the run of an order is that of a run: one more visit keeps it so.
use Rattle.std.proofs.Common.{◌≡◌, ◌≢◌, ◌<◌, ◌≤◌, ℕ, suc, ◌==◌, ◌+◌, ◌-◌, Bool, false, List, [], ◌∷◌, ◌++◌, length, take, drop, map, replicate, slice_index_or, Option, None, Some, IsTrue, refl, ap, sym, ◌∙◌, subst, arith, append_assoc}
use Rattle.std.specs.List.{All, flat_map, filter, zip}
use Rattle.std.specs.List.Sorted.{IsNonDecreasingBy}
use Rattle.std.specs.Option.{option_map_or}
use Rattle.std.proofs.lemmas.Grind.{flat_map-append}
use Rattle.std.proofs.lemmas.List.{append-nil, map-append, length-drop, length-map, take_all, drop_all, take-append-le, drop-append-le}
use Rattle.std.proofs.lemmas.List.Elements.{All-nil, All-head, All-tail, All-push, All-weaker, filter-append}
use Rattle.std.proofs.lemmas.List.Sorted.{IsNonDecreasingBy-push}
use Rattle.kz_model.specs.declared.bundle.Bundle.{Bundle}
use Rattle.kz_model.specs.declared.step.Step.{Step}
use Rattle.kz_model.specs.declared.record.Plan.{Plan}
use Rattle.kz_model.specs.declared.record.Visit.{Visit}
use Rattle.kz_model.specs.declared.record.ZoneParams.{ZoneParams}
use Rattle.kz_model.specs.declared.supply.SupplyEntry.{SupplyEntry}
use Rattle.kz_model.specs.declared.supply.Ask.{Ask}
use Rattle.kz_model.specs.declared.supply.Answer.{Answer}
use Rattle.kz_model.specs.Zone.State.{ZoneState, cpu_part}
use Rattle.kz_model.specs.Zone.Rules.{Stepped, needs_visit, alone_step}
use Rattle.kz_model.specs.Zone.Alone.{Course, course, with_first}
use Rattle.kz_model.specs.Run.Journal.{params_of, log_at, asks_at}
use Rattle.kz_model.specs.Run.Runs.{needs_along, needs_within, Carries, SettlesLast, ask_rounds, rounds_at}
use Rattle.kz_model.proofs.Courses.{joined, then_course, course-append}
use Rattle.kz_model.proofs.MoreAnswers.{with_more}
use Rattle.kz_laws.proofs.OrderLines.{entries}
use Rattle.kz_model.proofs.LineCounts.{same_number}
use Rattle.kz_laws.proofs.Played.{same_course}
use Rattle.kz_laws.proofs.Printed.{total}

abbrev pub all_asks : List (List Ask) → List Ask
all_asks asks = flat_map (λ asks. asks) asks

-- ---- courses in parts

pub record HasLengths (steps : List (ℕ × Step)) (c : Course) : Type 0 where
  pub asks : length c.asks ≡ length steps
  pub before : length c.before ≡ length steps
  pub replies : length c.replies ≡ length steps

pub course_lengths : (p : ZoneParams) (state : ZoneState) (steps : List (ℕ × Step)) (answers : List Answer) (c : Course) → course p state steps answers ≡ Some c → HasLengths steps c
course_lengths p state [] answers c made = subst (HasLengths []) (same_course _ c made) (record { asks = refl; before = refl; replies = refl })
course_lengths p state (step ∷ steps) answers c made = by_step (alone_step p state step.0 step.1 answers) (λ o rest is. course_lengths p o.state steps o.left rest is) made
  where
    by_rest : (o : Stepped) (r : Option Course) → ((rest : Course) → r ≡ Some rest → HasLengths steps rest) → option_map_or (λ rest. Some (with_first state o rest)) r None ≡ Some c → HasLengths (step ∷ steps) c
    by_rest o None again e = absurd (cc)
    by_rest o (Some rest) again e =
        let is = again rest refl in
        subst (HasLengths (step ∷ steps)) (same_course _ c e) (record { asks = ap (λ n. suc n) is.asks; before = ap (λ n. suc n) is.before; replies = ap (λ n. suc n) is.replies })

    by_step : (o : Option Stepped) → ((o : Stepped) (rest : Course) → course p o.state steps o.left ≡ Some rest → HasLengths steps rest) → option_map_or (λ stepped. option_map_or (λ rest. Some (with_first state stepped rest)) (course p stepped.state steps stepped.left) None) o None ≡ Some c → HasLengths (step ∷ steps) c
    by_step None again e = absurd (cc)
    by_step (Some o) again e = by_rest o (course p o.state steps o.left) (again o) e

-- what comes behind a course
pub course_split : (p : ZoneParams) (state : ZoneState) (xs ys : List (ℕ × Step)) (answers : List Answer) (a d : Course) → course p state xs answers ≡ Some a → course p state (xs ++ ys) answers ≡ Some d →
    (w : Course) × (course p a.end ys a.left ≡ Some w) × (d ≡ joined a w)
course_split p state xs ys answers a d first all =
    by_rest (course p a.end ys a.left)
    (sym (course-append p state xs ys answers ∙ ap (λ (r : Option Course). then_course r (λ mid left. course p mid ys left)) first) ∙ all)
  where
    by_rest : (r : Option Course) → option_map_or (λ w. Some (joined a w)) r None ≡ Some d → (w : Course) × (r ≡ Some w) × (d ≡ joined a w)
    by_rest None e = absurd (cc)
    by_rest (Some w) e = (w, refl, sym (same_course (joined a w) d e))

-- ---- lists

pub zip-append : {A B : Type 0} (xs ys : List A) (rs qs : List B) → length xs ≡ length rs → zip (xs ++ ys) (rs ++ qs) ≡ zip xs rs ++ zip ys qs
zip-append [] ys [] qs same = refl
zip-append [] ys (r ∷ rs) qs same = absurd (omega arith)
zip-append (x ∷ xs) ys [] qs same = absurd (omega arith)
zip-append {A} {B} (x ∷ xs) ys (r ∷ rs) qs same = ap (λ (l : List (A × B)). (x, r) ∷ l) (zip-append xs ys rs qs (omega arith))

pub needs_along-append : (p : ZoneParams) (xs ys : List (ℕ × Step)) (before more : List ZoneState) → length xs ≡ length before → needs_along p (xs ++ ys) (before ++ more) ≡ needs_along p xs before ++ needs_along p ys more
needs_along-append p xs ys before more same =
    let need : (ℕ × Step) × ZoneState → Bool = λ pair. needs_visit p (cpu_part pair.1 pair.0.0) pair.0.1 in
    ap (map need) (zip-append xs ys before more same) ∙ map-append need (zip xs before) (zip ys more)

length-zip : {A B : Type 0} (xs : List A) (ys : List B) → length xs ≡ length ys → length (zip xs ys) ≡ length xs
length-zip [] ys same = refl
length-zip (x ∷ xs) [] same = absurd (omega arith)
length-zip (x ∷ xs) (y ∷ ys) same = ap (λ n. suc n) (length-zip xs ys (omega arith))

pub length-needs_along : (p : ZoneParams) (steps : List (ℕ × Step)) (before : List ZoneState) → length steps ≡ length before → length (needs_along p steps before) ≡ length steps
length-needs_along p steps before same = length-map (zip steps before) (λ (pair : (ℕ × Step) × ZoneState). needs_visit p (cpu_part pair.1 pair.0.0) pair.0.1) ∙ length-zip steps before same

carries-push : (journal : List Visit) (v : Visit) (needs more : List Bool) → Carries journal needs → length needs ≡ total journal → 1 ≤ v.count → length more ≡ v.count → more ≡ needs_within v → Carries (journal ++ v ∷ []) (needs ++ more)
carries-push [] v needs more is long some count same =
    subst (λ (needs : List Bool). Carries (v ∷ []) (needs ++ more)) (sym is)
    (some, take_all v.count more (le count) ∙ same, drop_all v.count more (le count))
  where
    le : {n m : ℕ} → n ≡ m → n ≤ m
    le e = omega arith
carries-push (w ∷ journal) v needs more is long some count same =
    let within : w.count ≤ length needs = omega arith in (
      is.0,
      take-append-le w.count needs more within ∙ is.1,
      subst (λ (rest : List Bool). Carries (journal ++ v ∷ []) rest) (sym (drop-append-le w.count needs more within))
          (carries-push journal v (drop w.count needs) more is.2 (omega (arith, length-drop w.count needs)) some count same),
    )

settles-push : (journal : List Visit) (v : Visit) → SettlesLast journal → All (λ w. IsTrue w.settled → v.round ≡ w.round → IsTrue v.settled × (v.cpu ≢ w.cpu)) journal → SettlesLast (journal ++ v ∷ [])
settles-push [] v is fits = (λ settled. All-nil (λ (x : Visit). x.round ≡ v.round → IsTrue x.settled × (x.cpu ≢ v.cpu)), tt)
settles-push (w ∷ journal) v is fits =
    let Fits : Visit → Type 0 = λ w. IsTrue w.settled → v.round ≡ w.round → IsTrue v.settled × (v.cpu ≢ w.cpu) in (
      λ settled. All-push (λ (x : Visit). x.round ≡ w.round → IsTrue x.settled × (x.cpu ≢ w.cpu)) journal v (is.0 settled) (All-head Fits w journal fits settled),
      settles-push journal v is.1 (All-tail Fits w journal fits),
    )

ask_rounds-push : (journal : List Visit) (v : Visit) (asks more : List (List Ask)) → length asks ≡ total journal → ask_rounds (journal ++ v ∷ []) (asks ++ more) ≡ ask_rounds journal asks ++ replicate (length (all_asks (take v.count more))) v.round
ask_rounds-push [] v [] more long = append-nil (replicate (length (all_asks (take v.count more))) v.round)
ask_rounds-push [] v (a ∷ asks) more long = absurd (omega arith)
ask_rounds-push (w ∷ journal) v asks more long =
    let within : w.count ≤ length asks = omega arith in
    let first = replicate (length (all_asks (take w.count asks))) w.round in
    ap (λ (l : List (List Ask)). replicate (length (all_asks l)) w.round ++ ask_rounds (journal ++ v ∷ []) (drop w.count (asks ++ more))) (take-append-le w.count asks more within)
    ∙ ap (λ (l : List (List Ask)). first ++ ask_rounds (journal ++ v ∷ []) l) (drop-append-le w.count asks more within)
    ∙ ap (λ (l : List ℕ). first ++ l) (ask_rounds-push journal v (drop w.count asks) more (omega (arith, length-drop w.count asks)))
    ∙ sym (append_assoc first (ask_rounds journal (drop w.count asks)) (replicate (length (all_asks (take v.count more))) v.round))

-- ---- rounds of the log's entries

pub rounds_at-append : (zone : ℕ) (xs ys : List (SupplyEntry × ℕ)) → rounds_at zone (xs ++ ys) ≡ rounds_at zone xs ++ rounds_at zone ys
rounds_at-append zone xs ys =
    let there : SupplyEntry × ℕ → Bool = λ pair. pair.0.zone == zone in
    ap (map (λ (pair : SupplyEntry × ℕ). pair.1)) (filter-append there xs ys) ∙ map-append (λ (pair : SupplyEntry × ℕ). pair.1) (filter there xs) (filter there ys)

pub timed_here : (zone round : ℕ) (asks : List Ask) (answers : List Answer) → length answers ≡ length asks → rounds_at zone (zip (entries zone asks answers) (replicate (length asks) round)) ≡ replicate (length asks) round
timed_here zone round [] answers same = refl
timed_here zone round (ask ∷ asks) [] same = absurd (omega arith)
timed_here zone round (ask ∷ asks) (a ∷ answers) same = let is = same_number zone in rw is (ap (λ (l : List ℕ). round ∷ l) (timed_here zone round asks answers (omega arith)))

pub timed_elsewhere : (zone other round : ℕ) (asks : List Ask) (answers : List Answer) → (zone == other) ≡ false → rounds_at other (zip (entries zone asks answers) (replicate (length asks) round)) ≡ []
timed_elsewhere zone other round [] answers ne = refl
timed_elsewhere zone other round (ask ∷ asks) [] ne = refl
timed_elsewhere zone other round (ask ∷ asks) (a ∷ answers) ne = rw ne (timed_elsewhere zone other round asks answers ne)

-- the entries with their rounds, and more that were made in this round
pub timed_more : (zone round : ℕ) (log more : List SupplyEntry) (rounds : List ℕ) → length rounds ≡ length log → rounds_at zone (zip (log ++ more) (rounds ++ replicate (length more) round)) ≡ rounds_at zone (zip log rounds) ++ rounds_at zone (zip more (replicate (length more) round))
timed_more zone round log more rounds long = ap (rounds_at zone) (zip-append log more rounds (replicate (length more) round) (sym long)) ∙ rounds_at-append zone (zip log rounds) (zip more (replicate (length more) round))

-- ---- a zone's journal so far

pub record IsJournal (b : Bundle) (plan : Plan) (zone : ℕ) (journal : List Visit) (log : List SupplyEntry) (round : ℕ) (rounds : List ℕ) (n : ℕ) (steps : List (ℕ × Step)) (c : Course) : Type 0 where
  pub in_rounds : IsNonDecreasingBy (λ v. v.round) journal
  pub within : All (λ v. (v.round ≤ round) × (v.cpu < b.cpus)) journal
  pub carries : Carries journal (needs_along (params_of b plan zone) steps c.before)
  pub settles : SettlesLast journal
  -- in this round the CPUs below one have settled
  pub settled : All (λ v. v.round ≡ round → IsTrue v.settled → v.cpu < n) journal
  pub asked : all_asks c.asks ≡ asks_at zone log
  pub timed : rounds_at zone (zip log rounds) ≡ ask_rounds journal c.asks

-- one more visit of this round
pub journal_push : (b : Bundle) (plan : Plan) (zone : ℕ) (journal : List Visit) (log more : List SupplyEntry) (round : ℕ) (rounds : List ℕ) (n m : ℕ) (steps : List (ℕ × Step)) (c w : Course) (v : Visit) (here : List (ℕ × Step)) (asks : List Ask) (new : List Answer) →
    IsJournal b plan zone journal log round rounds n steps c → length steps ≡ total journal → HasLengths steps c → HasLengths here w → length rounds ≡ length log →
    v.round ≡ round → v.cpu < b.cpus → v.count ≡ length here → 1 ≤ v.count → needs_along (params_of b plan zone) here w.before ≡ needs_within v → all_asks w.asks ≡ asks →
    n ≤ m → ((w : Visit) → w.cpu < n → IsTrue v.settled × (v.cpu ≢ w.cpu)) → (IsTrue v.settled → v.cpu < m) →
    asks_at zone more ≡ asks → rounds_at zone (zip more (replicate (length more) round)) ≡ replicate (length asks) round →
    IsJournal b plan zone (journal ++ v ∷ []) (log ++ more) round (rounds ++ replicate (length more) round) m (steps ++ here) (joined (with_more new c) w)
journal_push b plan zone journal log more round rounds n m steps c w v here asks new is long lengths lengths_here timed_long at lt count some needs made le allowed mine there times =
    let p = params_of b plan zone in
    record {
      in_rounds = IsNonDecreasingBy-push (λ (v : Visit). v.round) journal v is.in_rounds (λ d any. omega (arith, (is.within (length journal - 1) d (last any)).0, at));
      within = All-push (λ (v : Visit). (v.round ≤ round) × (v.cpu < b.cpus)) journal v is.within (omega (arith, at), lt);
      carries = subst (λ (needs : List Bool). Carries (journal ++ v ∷ []) needs) (sym (needs_along-append p steps here c.before w.before (sym lengths.before)))
          (carries-push journal v (needs_along p steps c.before) (needs_along p here w.before) is.carries (length-needs_along p steps c.before (sym lengths.before) ∙ long) some
          (length-needs_along p here w.before (sym lengths_here.before) ∙ sym count) needs);
      settles = settles-push journal v is.settles (λ k d within settled same. allowed (slice_index_or journal k d) (is.settled k d within (sym same ∙ at) settled));
      settled = All-push (λ (v : Visit). v.round ≡ round → IsTrue v.settled → v.cpu < m) journal v (λ k d within same settled. lower (slice_index_or journal k d).cpu (is.settled k d within same settled)) (λ same settled. mine settled);
      asked = flat_map-append (λ (asks : List Ask). asks) c.asks w.asks
          ∙ ap (λ (l : List Ask). l ++ all_asks w.asks) is.asked
          ∙ ap (λ (l : List Ask). asks_at zone log ++ l) (made ∙ sym there)
          ∙ sym (ap (λ (l : List SupplyEntry). map (λ (entry : SupplyEntry). entry.ask) l) (filter-append (λ (entry : SupplyEntry). entry.zone == zone) log more) ∙ map-append (λ (entry : SupplyEntry). entry.ask) (log_at zone log) (log_at zone more));
      timed = timed_more zone round log more rounds timed_long
          ∙ ap (λ (l : List ℕ). l ++ rounds_at zone (zip more (replicate (length more) round))) is.timed
          ∙ ap (λ (l : List ℕ). ask_rounds journal c.asks ++ l) (times ∙ ap (λ (l : List Ask). replicate (length l) round) (sym made ∙ ap all_asks (sym (take_all v.count w.asks (few lengths_here.asks count)))) ∙ ap (λ round. replicate (length (all_asks (take v.count w.asks))) round) (sym at))
          ∙ sym (ask_rounds-push journal v c.asks w.asks (lengths.asks ∙ long));
    }
  where
    last : 0 < length journal → length journal - 1 < length journal
    last some = omega arith

    lower : (k : ℕ) → k < n → k < m
    lower k lt = omega arith

    few : {k l : ℕ} → k ≡ l → v.count ≡ l → k ≤ v.count
    few e f = omega arith

-- with entries of other zones
pub journal_away : (b : Bundle) (plan : Plan) (zone : ℕ) (journal : List Visit) (log more : List SupplyEntry) (round : ℕ) (rounds : List ℕ) (n : ℕ) (steps : List (ℕ × Step)) (c : Course) → IsJournal b plan zone journal log round rounds n steps c →
    length rounds ≡ length log → log_at zone more ≡ [] → rounds_at zone (zip more (replicate (length more) round)) ≡ [] → IsJournal b plan zone journal (log ++ more) round (rounds ++ replicate (length more) round) n steps c
journal_away b plan zone journal log more round rounds n steps c is long none times =
    record {
      in_rounds = is.in_rounds;
      within = is.within;
      carries = is.carries;
      settles = is.settles;
      settled = is.settled;
      asked = is.asked ∙ sym (ap (λ (l : List SupplyEntry). map (λ (entry : SupplyEntry). entry.ask) l) (filter-append (λ (entry : SupplyEntry). entry.zone == zone) log more ∙ ap (λ (l : List SupplyEntry). log_at zone log ++ l) none ∙ append-nil (log_at zone log)));
      timed = timed_more zone round log more rounds long ∙ ap (λ (l : List ℕ). rounds_at zone (zip log rounds) ++ l) times ∙ append-nil (rounds_at zone (zip log rounds)) ∙ is.timed;
    }

-- a new round: none has settled in it
pub journal_round : (b : Bundle) (plan : Plan) (zone : ℕ) (journal : List Visit) (log : List SupplyEntry) (round : ℕ) (rounds : List ℕ) (n : ℕ) (steps : List (ℕ × Step)) (c : Course) → IsJournal b plan zone journal log round rounds n steps c →
    IsJournal b plan zone journal log (round + 1) rounds 0 steps c
journal_round b plan zone journal log round rounds n steps c is =
    record {
      in_rounds = is.in_rounds;
      within = All-weaker (λ (v : Visit). (v.round ≤ round) × (v.cpu < b.cpus)) (λ (v : Visit). (v.round ≤ round + 1) × (v.cpu < b.cpus)) (λ v h. (omega (arith, h.0), h.1)) journal is.within;
      carries = is.carries;
      settles = is.settles;
      settled = λ k d lt same settled. absurd (omega (arith, same, (is.within k d lt).0));
      asked = is.asked;
      timed = is.timed;
    }
