-- Where no answer is a refusal, the steps decide the answers.
use Rattle.std.proofs.Common.{◌≡◌, ℕ, zero, suc, ◌==◌, ◌&&◌, Bool, true, false, if◌then◌else◌, List, [], ◌∷◌, ◌++◌, length, take, drop, map, slice_set, Option, None, Some, refl, ap, sym, ◌∙◌, subst, arith, append_assoc}
use Rattle.std.specs.List.{flat_map}
use Rattle.std.specs.Option.{option_map_or}
use Rattle.std.proofs.lemmas.List.{map-append, append-nil}
use Rattle.kz_model.specs.declared.step.Step.{Step}
use Rattle.kz_model.specs.declared.step.Reply.{Reply}
use Rattle.kz_model.specs.declared.record.ZoneParams.{ZoneParams}
use Rattle.kz_model.specs.declared.supply.Ask.{Ask}
use Rattle.kz_model.specs.declared.supply.Ask.TheVariants.{Chunk as AskChunk, Frames, Back}
use Rattle.kz_model.specs.declared.supply.Answer.{Answer}
use Rattle.kz_model.specs.declared.supply.Answer.TheVariants.{Base, Given, NoSpace, NoFrames, Taken}
use Rattle.kz_model.specs.Zone.State.{ZoneState, opening, cpu_part}
use Rattle.kz_model.specs.Zone.Rules.{Stepped, refusal, else_refused, denied_by, unchanged, action, asks_of, all_answered, fits, effect_of, alone_step}
use Rattle.kz_model.specs.Zone.Alone.{Course, course, with_first, all_used, alone}
use Rattle.kz_laws.proofs.Agreeing.{alone-own}
use Rattle.kz_laws.specs.Agreement.{numbered, numbered_course, without_page, is_granted, AreGranted}

-- the answer that grants an ask, without a page
abbrev pub granting : Ask → Answer
granting (AskChunk submap pages) = Base 0
granting (Frames pages) = Given
granting (Back pages) = Taken

granted_answer : (ask : Ask) (answer : Answer) → fits ask answer ≡ true → is_granted answer ≡ true → without_page answer ≡ granting ask
granted_answer (AskChunk submap pages) (Base page) f g = refl
granted_answer (AskChunk submap pages) Given f g = absurd (cc)
granted_answer (AskChunk submap pages) (NoSpace left) f g = absurd (cc)
granted_answer (AskChunk submap pages) (NoFrames free) f g = absurd (cc)
granted_answer (AskChunk submap pages) Taken f g = absurd (cc)
granted_answer (Frames pages) (Base page) f g = absurd (cc)
granted_answer (Frames pages) Given f g = refl
granted_answer (Frames pages) (NoSpace left) f g = absurd (cc)
granted_answer (Frames pages) (NoFrames free) f g = absurd (cc)
granted_answer (Frames pages) Taken f g = absurd (cc)
granted_answer (Back pages) (Base page) f g = absurd (cc)
granted_answer (Back pages) Given f g = absurd (cc)
granted_answer (Back pages) (NoSpace left) f g = absurd (cc)
granted_answer (Back pages) (NoFrames free) f g = absurd (cc)
granted_answer (Back pages) Taken f g = refl

both : (a b : Bool) → (a && b) ≡ true → (a ≡ true) × (b ≡ true)
both true b e = (refl, e)
both false b e = absurd (cc)

-- the answers are those that grant the asks, and what is left
granted_front : (asks : List Ask) (answers : List Answer) → all_answered asks answers ≡ true → AreGranted answers → map without_page answers ≡ map granting asks ++ map without_page (drop (length asks) answers)
granted_front [] answers h g = refl
granted_front (ask ∷ asks) [] h g = absurd (cc)
granted_front (ask ∷ asks) (answer ∷ answers) h g =
    let two = both (fits ask answer) (all_answered asks answers) h in
    ap (λ (first : Answer). first ∷ map without_page answers) (granted_answer ask answer two.0 g.0)
    ∙ ap (λ (rest : List Answer). granting ask ∷ rest) (granted_front asks answers two.1 g.1)

granted_drop : (n : ℕ) (answers : List Answer) → AreGranted answers → AreGranted (drop n answers)
granted_drop zero answers g = g
granted_drop (suc n) [] g = tt
granted_drop (suc n) (answer ∷ answers) g = granted_drop n answers g.1

none_denied : (n : ℕ) (answers : List Answer) → AreGranted answers → denied_by (take n answers) ≡ None
none_denied zero answers g = refl
none_denied (suc n) [] g = refl
none_denied (suc n) (Base page ∷ answers) g = refl
none_denied (suc n) (Given ∷ answers) g = refl
none_denied (suc n) (NoSpace left ∷ answers) g = absurd (let f : false ≡ true = g.0 in cc)
none_denied (suc n) (NoFrames free ∷ answers) g = absurd (let f : false ≡ true = g.0 in cc)
none_denied (suc n) (Taken ∷ answers) g = refl

-- a step whose asks are granted
abbrev pub state_after : ZoneParams → ZoneState → ℕ → Step → ZoneState
state_after p state cpu step =
    let e = effect_of p state.shared cpu (cpu_part state cpu) step [] in
    record { shared = e.shared; own = slice_set state.own cpu e.own }

pub record IsGranted (p : ZoneParams) (state : ZoneState) (cpu : ℕ) (step : Step) (answers : List Answer) (o : Stepped) : Type 0 where
  pub asks : o.asks ≡ asks_of p state.shared cpu (cpu_part state cpu) step
  pub after : o.state ≡ state_after p state cpu step
  pub front : map without_page answers ≡ map granting o.asks ++ map without_page o.left
  pub left : AreGranted o.left

granted_step : (p : ZoneParams) (state : ZoneState) (cpu : ℕ) (step : Step) (answers : List Answer) (o : Stepped) → AreGranted answers → alone_step p state cpu step answers ≡ Some o → IsGranted p state cpu step answers o
granted_step p state cpu step answers o g made =
    let asks = asks_of p state.shared cpu (cpu_part state cpu) step in
    let e = effect_of p state.shared cpu (cpu_part state cpu) step (take (length asks) answers) in
    elim (all_answered asks answers) as (λ b. all_answered asks answers ≡ b → (if b then Some (record { reply = e.reply; state = record { shared = e.shared; own = slice_set state.own cpu e.own }; asks = asks; left = drop (length asks) answers }) else None) ≡ Some o → IsGranted p state cpu step answers o) [
      | true ↦ λ all f. moved (record { reply = e.reply; state = record { shared = e.shared; own = slice_set state.own cpu e.own }; asks = asks; left = drop (length asks) answers }) f
          (record {
            asks = refl;
            after = ap (λ (r : Option Reply). let e = option_map_or (λ reply. unchanged reply state.shared (cpu_part state cpu)) (else_refused (refusal p state.shared cpu (cpu_part state cpu) step) r) (action p state.shared cpu (cpu_part state cpu) step) in record { shared = e.shared; own = slice_set state.own cpu e.own }) (none_denied (length asks) answers g);
            front = granted_front asks answers all g;
            left = granted_drop (length asks) answers g;
          })
      | false ↦ λ all f. absurd (cc)
    ] refl made
  where
    moved : (a : Stepped) → Some a ≡ Some o → IsGranted p state cpu step answers a → IsGranted p state cpu step answers o
    moved a f is = let same : a ≡ o = cc in subst (λ (o : Stepped). IsGranted p state cpu step answers o) same is

abbrev all_asks : Course → List Ask
all_asks c = flat_map (λ (asks : List Ask). asks) c.asks

-- what the course of granted steps asks, decided by the steps alone
abbrev pub asks_along : ZoneParams → ZoneState → List (ℕ × Step) → List Ask
asks_along p state [] = []
asks_along p state (step ∷ steps) = asks_of p state.shared step.0 (cpu_part state step.0) step.1 ++ asks_along p (state_after p state step.0 step.1) steps

pub granted_course : (p : ZoneParams) (state : ZoneState) (steps : List (ℕ × Step)) (answers : List Answer) (c : Course) → AreGranted answers → course p state steps answers ≡ Some c →
    map without_page answers ≡ map granting (asks_along p state steps) ++ map without_page c.left
granted_course p state [] answers c g made = let same : answers ≡ c.left = left_of _ c made in ap (λ (xs : List Answer). map without_page xs) same
  where
    left_of : (a c : Course) → Some a ≡ Some c → a.left ≡ c.left
    left_of a c e = let same : a ≡ c = cc in ap (λ (c : Course). c.left) same
granted_course p state (step ∷ steps) answers c g made =
    elim (alone_step p state step.0 step.1 answers) as (λ (o : Option Stepped). alone_step p state step.0 step.1 answers ≡ o → option_map_or (λ stepped. option_map_or (λ rest. Some (with_first state stepped rest)) (course p stepped.state steps stepped.left) None) o None ≡ Some c →
    map without_page answers ≡ map granting (asks_of p state.shared step.0 (cpu_part state step.0) step.1 ++ asks_along p (state_after p state step.0 step.1) steps) ++ map without_page c.left) [
      | None ↦ λ e f. absurd (cc)
      | Some o ↦ λ e f. by_rest (λ s xs r. granted_course p s steps xs r) o (granted_step p state step.0 step.1 answers o g e) f
    ] refl made
  where
    left_of : (a : Course) → Some a ≡ Some c → a.left ≡ c.left
    left_of a e = let same : a ≡ c = cc in ap (λ (c : Course). c.left) same

    by_rest : ((s : ZoneState) (xs : List Answer) (r : Course) → AreGranted xs → course p s steps xs ≡ Some r → map without_page xs ≡ map granting (asks_along p s steps) ++ map without_page r.left) →
        (o : Stepped) → IsGranted p state step.0 step.1 answers o → option_map_or (λ rest. Some (with_first state o rest)) (course p o.state steps o.left) None ≡ Some c →
        map without_page answers ≡ map granting (asks_of p state.shared step.0 (cpu_part state step.0) step.1 ++ asks_along p (state_after p state step.0 step.1) steps) ++ map without_page c.left
    by_rest again o is f =
        elim (course p o.state steps o.left) as (λ (r : Option Course). course p o.state steps o.left ≡ r → option_map_or (λ rest. Some (with_first state o rest)) r None ≡ Some c →
        map without_page answers ≡ map granting (asks_of p state.shared step.0 (cpu_part state step.0) step.1 ++ asks_along p (state_after p state step.0 step.1) steps) ++ map without_page c.left) [
          | None ↦ λ e h. absurd (cc)
          | Some rest ↦ λ e h.
              let more = again o.state o.left rest is.left e in
              let asks = asks_of p state.shared step.0 (cpu_part state step.0) step.1 in
              is.front
              ∙ ap (λ (xs : List Answer). map granting o.asks ++ xs) more
              ∙ ap (λ (xs : List Ask). map granting xs ++ (map granting (asks_along p o.state steps) ++ map without_page rest.left)) is.asks
              ∙ ap (λ (s : ZoneState). map granting asks ++ (map granting (asks_along p s steps) ++ map without_page rest.left)) is.after
              ∙ ap (λ (xs : List Answer). map granting asks ++ (map granting (asks_along p (state_after p state step.0 step.1) steps) ++ map without_page xs)) (left_of (with_first state o rest) h)
              ∙ sym (append_assoc (map granting asks) (map granting (asks_along p (state_after p state step.0 step.1) steps)) (map without_page c.left))
              ∙ ap (λ (xs : List Answer). xs ++ map without_page c.left) (sym (map-append granting asks (asks_along p (state_after p state step.0 step.1) steps)))
        ] refl f

-- Where no answer is a refusal, the parameters and steps decide the answers, but for the pages.
pub granted_alone : (p : ZoneParams) (steps : List (ℕ × Step)) (answers : List Answer) (c : Course) → AreGranted answers → alone p steps answers ≡ Some c → map without_page answers ≡ map granting (asks_along p (opening p) steps)
granted_alone p steps answers c g made =
    elim (course p (opening p) steps answers) as (λ (o : Option Course). course p (opening p) steps answers ≡ o → option_map_or all_used o None ≡ Some c → map without_page answers ≡ map granting (asks_along p (opening p) steps)) [
      | None ↦ λ e f. absurd (cc)
      | Some d ↦ λ e f. granted_course p (opening p) steps answers d g e ∙ none_left d f
    ] refl made
  where
    none : (xs : List Answer) → (length xs == 0) ≡ true → xs ≡ []
    none [] e = refl
    none (x ∷ xs) e = let n : (length (x ∷ xs) == 0) ≡ false = grind arith in absurd (cc)

    none_left : (d : Course) → all_used d ≡ Some c → map granting (asks_along p (opening p) steps) ++ map without_page d.left ≡ map granting (asks_along p (opening p) steps)
    none_left d f =
        elim (length d.left == 0) as (λ b. (length d.left == 0) ≡ b → (if b then Some d else None) ≡ Some c → map granting (asks_along p (opening p) steps) ++ map without_page d.left ≡ map granting (asks_along p (opening p) steps)) [
          | true ↦ λ e h. ap (λ (xs : List Answer). map granting (asks_along p (opening p) steps) ++ map without_page xs) (none d.left e) ∙ append-nil (map granting (asks_along p (opening p) steps))
          | false ↦ λ e h. absurd (cc)
        ] refl f

pub same_answers : (p : ZoneParams) (steps : List (ℕ × Step)) (answers given : List Answer) (c d : Course) → AreGranted answers → AreGranted given →
    alone p steps answers ≡ Some c → alone p steps given ≡ Some d → map without_page answers ≡ map without_page given
same_answers p steps answers given c d ga gb first second = granted_alone p steps answers c ga first ∙ sym (granted_alone p steps given d gb second)

-- The same where the steps are equal but for the numbers of names.
granted-page : (answers : List Answer) → AreGranted answers → AreGranted (map without_page answers)
granted-page [] g = tt
granted-page (Base page ∷ answers) g = (refl, granted-page answers g.1)
granted-page (Given ∷ answers) g = (refl, granted-page answers g.1)
granted-page (NoSpace left ∷ answers) g = absurd (let f : false ≡ true = g.0 in cc)
granted-page (NoFrames free ∷ answers) g = absurd (let f : false ≡ true = g.0 in cc)
granted-page (Taken ∷ answers) g = (refl, granted-page answers g.1)

page-page : (answers : List Answer) → map without_page (map without_page answers) ≡ map without_page answers
page-page [] = refl
page-page (Base page ∷ answers) = ap (λ (xs : List Answer). Base 0 ∷ xs) (page-page answers)
page-page (Given ∷ answers) = ap (λ (xs : List Answer). Given ∷ xs) (page-page answers)
page-page (NoSpace left ∷ answers) = ap (λ (xs : List Answer). NoSpace left ∷ xs) (page-page answers)
page-page (NoFrames free ∷ answers) = ap (λ (xs : List Answer). NoFrames free ∷ xs) (page-page answers)
page-page (Taken ∷ answers) = ap (λ (xs : List Answer). Taken ∷ xs) (page-page answers)

pub agreed_where_granted : (p : ZoneParams) (steps others : List (ℕ × Step)) (answers given : List Answer) (c d : Course) → numbered steps ≡ numbered others → AreGranted answers → AreGranted given →
    alone p steps answers ≡ Some c → alone p others given ≡ Some d → map without_page answers ≡ map without_page given
agreed_where_granted p steps others answers given c d same ga gb first second =
    let one : alone p (numbered steps) (map without_page answers) ≡ Some (numbered_course steps c) = alone-own p steps answers ∙ ap (λ (o : Option Course). option_map_or (λ (c : Course). Some (numbered_course steps c)) o None) first in
    let two : alone p (numbered steps) (map without_page given) ≡ Some (numbered_course others d) = ap (λ (xs : List (ℕ × Step)). alone p xs (map without_page given)) same ∙ alone-own p others given ∙ ap (λ (o : Option Course). option_map_or (λ (c : Course). Some (numbered_course others c)) o None) second in
    sym (page-page answers) ∙ same_answers p (numbered steps) (map without_page answers) (map without_page given) (numbered_course steps c) (numbered_course others d) (granted-page answers ga) (granted-page given gb) one two ∙ page-page given
