-- The pages of Base answers decide nothing, and numbering by first appearance is a renaming.
use Rattle.std.proofs.Common.{◌≡◌, ℕ, ◌+◌, ◌==◌, true, false, if◌then◌else◌, List, [], ◌∷◌, length, take, drop, map, slice_set, Option, None, Some, refl, ap, sym, ◌∙◌, arith}
use Rattle.std.specs.Option.{option_map_or}
use Rattle.std.proofs.lemmas.List.{take-map, drop-map, length-map}
use Rattle.kz_model.specs.declared.step.Step.{Step}
use Rattle.kz_model.specs.declared.step.Reply.{Reply}
use Rattle.kz_model.specs.declared.record.ZoneParams.{ZoneParams}
use Rattle.kz_model.specs.declared.supply.Ask.{Ask}
use Rattle.kz_model.specs.declared.supply.Ask.TheVariants.{Chunk as AskChunk, Frames, Back}
use Rattle.kz_model.specs.declared.supply.Answer.{Answer}
use Rattle.kz_model.specs.declared.supply.Answer.TheVariants.{Base, Given, NoSpace, NoFrames, Taken}
use Rattle.kz_model.specs.Zone.State.{Chunk, Shared, CpuPart, ZoneState, opening, cpu_part}
use Rattle.kz_model.specs.Zone.Rules.{Effect, Stepped, refusal, else_refused, denied_by, unchanged, action, asks_of, all_answered, fits, effect_of, alone_step}
use Rattle.kz_model.specs.Zone.Alone.{Course, course, with_first, all_used, alone}
use Rattle.kz_laws.specs.Renaming.{IsRenaming, renamed, renamed_course}
use Rattle.kz_laws.specs.Agreement.{AreAlike, chunks_of, without_page, number_in, first_names, numbered, numbered_course}
use Rattle.kz_laws.proofs.Renamed.{alone-renamed}

-- ---- numbers

pub is_renaming : (names : List ℕ) → IsRenaming (number_in names)
is_renaming [] m n = refl
is_renaming (first ∷ names) m n =
    elim (m == first) as (λ a. (m == first) ≡ a → ((if a then 0 else 1 + number_in names m) == (if n == first then 0 else 1 + number_in names n)) ≡ (m == n)) [
      | true ↦ λ e.
          elim (n == first) as (λ b. (n == first) ≡ b → (0 == (if b then 0 else 1 + number_in names n)) ≡ (m == n)) [
            | true ↦ λ f. both m n first e f
            | false ↦ λ f. one m n first (number_in names n) e f
          ] refl
      | false ↦ λ e.
          elim (n == first) as (λ b. (n == first) ≡ b → ((1 + number_in names m) == (if b then 0 else 1 + number_in names n)) ≡ (m == n)) [
            | true ↦ λ f. other m n first (number_in names m) e f
            | false ↦ λ f. more (number_in names m) (number_in names n) ∙ is_renaming names m n
          ] refl
    ] refl
  where
    both : (m n k : ℕ) → (m == k) ≡ true → (n == k) ≡ true → (0 == 0) ≡ (m == n)
    both m n k e f = grind arith

    one : (m n k i : ℕ) → (m == k) ≡ true → (n == k) ≡ false → (0 == 1 + i) ≡ (m == n)
    one m n k i e f = grind arith

    other : (m n k i : ℕ) → (m == k) ≡ false → (n == k) ≡ true → (1 + i == 0) ≡ (m == n)
    other m n k i e f = grind arith

    more : (i j : ℕ) → (1 + i == 1 + j) ≡ (i == j)
    more i j = grind arith

-- ---- pages

fits-page : (ask : Ask) (answer : Answer) → fits ask (without_page answer) ≡ fits ask answer
fits-page (AskChunk submap pages) (Base page) = refl
fits-page (Frames pages) (Base page) = refl
fits-page (Back pages) (Base page) = refl
fits-page ask Given = refl
fits-page ask (NoSpace left) = refl
fits-page ask (NoFrames free) = refl
fits-page ask Taken = refl

answered-page : (asks : List Ask) (answers : List Answer) → all_answered asks (map without_page answers) ≡ all_answered asks answers
answered-page [] answers = refl
answered-page (ask ∷ asks) [] = refl
answered-page (ask ∷ asks) (answer ∷ answers) = rw (fits-page ask answer, answered-page asks answers) refl

denied-page : (answers : List Answer) → denied_by (map without_page answers) ≡ denied_by answers
denied-page [] = refl
denied-page (Base page ∷ answers) = refl
denied-page (Given ∷ answers) = refl
denied-page (NoSpace left ∷ answers) = refl
denied-page (NoFrames free ∷ answers) = refl
denied-page (Taken ∷ answers) = refl

effect-page : (p : ZoneParams) (s : Shared) (cpu : ℕ) (own : CpuPart) (step : Step) (n : ℕ) (answers : List Answer) → effect_of p s cpu own step (take n (map without_page answers)) ≡ effect_of p s cpu own step (take n answers)
effect-page p s cpu own step n answers =
    ap (λ (answers : List Answer). effect_of p s cpu own step answers) (take-map without_page n answers)
    ∙ ap (λ (o : Option Reply). option_map_or (λ reply. unchanged reply s own) (else_refused (refusal p s cpu own step) o) (action p s cpu own step)) (denied-page (take n answers))

abbrev paged : Stepped → Stepped
paged o = record o { left = map without_page o.left }

step-page : (p : ZoneParams) (state : ZoneState) (cpu : ℕ) (step : Step) (answers : List Answer) →
    alone_step p state cpu step (map without_page answers) ≡ option_map_or (λ (o : Stepped). Some (paged o)) (alone_step p state cpu step answers) None
step-page p state cpu step answers =
    let asks = asks_of p state.shared cpu (cpu_part state cpu) step in
    ap (λ b. if b then Some (made asks (effect_of p state.shared cpu (cpu_part state cpu) step (take (length asks) (map without_page answers))) (drop (length asks) (map without_page answers))) else None) (answered-page asks answers)
    ∙ ap (λ (e : Effect). if all_answered asks answers then Some (made asks e (drop (length asks) (map without_page answers))) else None) (effect-page p state.shared cpu (cpu_part state cpu) step (length asks) answers)
    ∙ ap (λ (left : List Answer). if all_answered asks answers then Some (made asks (effect_of p state.shared cpu (cpu_part state cpu) step (take (length asks) answers)) left) else None) (drop-map without_page (length asks) answers)
    ∙ elim (all_answered asks answers) as (λ b. (if b then Some (made asks (effect_of p state.shared cpu (cpu_part state cpu) step (take (length asks) answers)) (map without_page (drop (length asks) answers))) else None)
    ≡ option_map_or (λ (o : Stepped). Some (paged o)) (if b then Some (made asks (effect_of p state.shared cpu (cpu_part state cpu) step (take (length asks) answers)) (drop (length asks) answers)) else None) None) [ true ↦ refl | false ↦ refl ]
  where
    made : List Ask → Effect → List Answer → Stepped
    made asks e left = record { reply = e.reply; state = record { shared = e.shared; own = slice_set state.own cpu e.own }; asks = asks; left = left }

abbrev paged_course : Course → Course
paged_course c = record c { left = map without_page c.left }

rest_paged : (state : ZoneState) (o : Stepped) (r : Option Course) →
    option_map_or (λ rest. Some (with_first state (paged o) rest)) (option_map_or (λ (c : Course). Some (paged_course c)) r None) None
    ≡ option_map_or (λ (c : Course). Some (paged_course c)) (option_map_or (λ rest. Some (with_first state o rest)) r None) None
rest_paged state o None = refl
rest_paged state o (Some c) = refl

course-page : (p : ZoneParams) (state : ZoneState) (steps : List (ℕ × Step)) (answers : List Answer) →
    course p state steps (map without_page answers) ≡ option_map_or (λ (c : Course). Some (paged_course c)) (course p state steps answers) None
course-page p state [] answers = refl
course-page p state (step ∷ steps) answers =
    ap (λ (o : Option Stepped). option_map_or (λ stepped. option_map_or (λ rest. Some (with_first state stepped rest)) (course p stepped.state steps stepped.left) None) o None) (step-page p state step.0 step.1 answers)
    ∙ elim (alone_step p state step.0 step.1 answers) as (λ (o : Option Stepped).
    option_map_or (λ stepped. option_map_or (λ rest. Some (with_first state stepped rest)) (course p stepped.state steps stepped.left) None) (option_map_or (λ (o : Stepped). Some (paged o)) o None) None
    ≡ option_map_or (λ (c : Course). Some (paged_course c)) (option_map_or (λ stepped. option_map_or (λ rest. Some (with_first state stepped rest)) (course p stepped.state steps stepped.left) None) o None) None) [
      | None ↦ refl
      | Some o ↦
          ap (λ (r : Option Course). option_map_or (λ rest. Some (with_first state (paged o) rest)) r None) (course-page p o.state steps o.left)
          ∙ rest_paged state o (course p o.state steps o.left)
    ]

pub alone-page : (p : ZoneParams) (steps : List (ℕ × Step)) (answers : List Answer) →
    alone p steps (map without_page answers) ≡ option_map_or (λ (c : Course). Some (paged_course c)) (alone p steps answers) None
alone-page p steps answers =
    ap (λ (o : Option Course). option_map_or all_used o None) (course-page p (opening p) steps answers)
    ∙ elim (course p (opening p) steps answers) as (λ (o : Option Course). option_map_or all_used (option_map_or (λ (c : Course). Some (paged_course c)) o None) None ≡ option_map_or (λ (c : Course). Some (paged_course c)) (option_map_or all_used o None) None) [
      | None ↦ refl
      | Some c ↦
          ap (λ n. if n == 0 then Some (paged_course c) else None) (length-map c.left without_page)
          ∙ elim (length c.left == 0) as (λ b. (if b then Some (paged_course c) else None) ≡ option_map_or (λ (c : Course). Some (paged_course c)) (if b then Some c else None) None) [ true ↦ refl | false ↦ refl ]
    ]

-- ---- the zone alone over what runs agree on

pub alone-own : (p : ZoneParams) (steps : List (ℕ × Step)) (answers : List Answer) →
    alone p (numbered steps) (map without_page answers) ≡ option_map_or (λ (c : Course). Some (numbered_course steps c)) (alone p steps answers) None
alone-own p steps answers =
    alone-page p (numbered steps) answers
    ∙ ap (λ (o : Option Course). option_map_or (λ (c : Course). Some (paged_course c)) o None) (alone-renamed (number_in (first_names steps)) (is_renaming (first_names steps)) p steps answers)
    ∙ elim (alone p steps answers) as (λ (o : Option Course). option_map_or (λ (c : Course). Some (paged_course c)) (option_map_or (λ (c : Course). Some (renamed_course (number_in (first_names steps)) c)) o None) None ≡ option_map_or (λ (c : Course). Some (numbered_course steps c)) o None) [ None ↦ refl | Some c ↦ refl ]

chunks-renamed : (f : ℕ → ℕ) (states : List ZoneState) → map chunks_of (map (renamed f) states) ≡ map chunks_of states
chunks-renamed f [] = refl
chunks-renamed f (state ∷ states) = ap (λ (rest : List (List Chunk)). chunks_of state ∷ rest) (chunks-renamed f states)

-- Two runs that agree at a zone answer equally there.
pub alike_where_agreed : (p : ZoneParams) (steps others : List (ℕ × Step)) (answers given : List Answer) (c d : Course) → numbered steps ≡ numbered others → map without_page answers ≡ map without_page given →
    alone p steps answers ≡ Some c → alone p others given ≡ Some d → AreAlike c d
alike_where_agreed p steps others answers given c d same_steps same_answers first second =
    let one : alone p (numbered steps) (map without_page answers) ≡ Some (numbered_course steps c) = alone-own p steps answers ∙ ap (λ (o : Option Course). option_map_or (λ (c : Course). Some (numbered_course steps c)) o None) first in
    let two : alone p (numbered others) (map without_page given) ≡ Some (numbered_course others d) = alone-own p others given ∙ ap (λ (o : Option Course). option_map_or (λ (c : Course). Some (numbered_course others c)) o None) second in
    let joined : Some (numbered_course steps c) ≡ Some (numbered_course others d) = sym one ∙ ap (λ (xs : List (ℕ × Step)). alone p xs (map without_page answers)) same_steps ∙ ap (λ (xs : List Answer). alone p (numbered others) xs) same_answers ∙ two in
    alike (inner (numbered_course steps c) (numbered_course others d) joined)
  where
    inner : (a b : Course) → Some a ≡ Some b → a ≡ b
    inner a b e = cc

    alike : numbered_course steps c ≡ numbered_course others d → AreAlike c d
    alike e =
        record {
          replies = ap (λ (c : Course). c.replies) e;
          asks = ap (λ (c : Course). c.asks) e;
          before = sym (chunks-renamed (number_in (first_names steps)) c.before) ∙ ap (λ (c : Course). map chunks_of c.before) e ∙ chunks-renamed (number_in (first_names others)) d.before;
          end = ap (λ (c : Course). chunks_of c.end) e;
        }
