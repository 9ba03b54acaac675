-- How many steps of a trace are of each round.
use Rattle.std.proofs.Common.{◌≡◌, ℕ, zero, suc, ◌+◌, ◌<◌, ◌≤◌, ◌==◌, Bool, true, false, if◌then◌else◌, List, [], ◌∷◌, ◌++◌, length, map, take, replicate, slice_index, slice_index_or, slice_set, refl, ap, sym, ◌∙◌, arith, subst}
use Rattle.std.specs.List.{All}
use Rattle.std.specs.Prelude.{Result, Ok, Err, IfOk}
use Rattle.std.proofs.lemmas.List.Elements.{All-append}
use Rattle.std.proofs.lemmas.List.{take_more, get_or-set_same, get_or-set_other, length-set, map-append, length-map}
use Rattle.kz_model.specs.declared.bundle.TraceStep.{TraceStep}
use Rattle.kz_model.specs.Grammar.Stages.{steps_in, left_in}
use Rattle.kz_model.specs.Run.Journal.{no_step}
use Rattle.kz_bundle.specs.declared.form.parts.Part.{Part}
use Rattle.kz_bundle.specs.Parts.{line_meant, section_meant}
use Rattle.kz_bundle.specs.Rounds.{AreTables, column}

-- how many of these steps are of a round
abbrev pub rounds_among : ℕ → List TraceStep → ℕ
rounds_among round [] = 0
rounds_among round (step ∷ steps) = (if step.round == round then 1 else 0) + rounds_among round steps

pub steps_in-meant : (names words : List (List ℕ)) (round : ℕ) (steps : List TraceStep) → steps_in round (map (line_meant names words) steps) ≡ rounds_among round steps
steps_in-meant names words round [] = refl
steps_in-meant names words round (step ∷ steps) = ap (λ n. (if step.round == round then 1 else 0) + n) (steps_in-meant names words round steps)

rounds_among-push : (round : ℕ) (steps : List TraceStep) (step : TraceStep) → rounds_among round (steps ++ step ∷ []) ≡ rounds_among round steps + (if step.round == round then 1 else 0)
rounds_among-push round [] step = omega arith
rounds_among-push round (first ∷ steps) step = omega (arith, rounds_among-push round steps step)

rounds_among-more : (round i : ℕ) (steps : List TraceStep) → i < length steps →
    rounds_among round (take (i + 1) steps) ≡ rounds_among round (take i steps) + (if (slice_index_or steps i no_step).round == round then 1 else 0)
rounds_among-more round i steps lt =
    ap (rounds_among round) (take_more steps i no_step lt) ∙ rounds_among-push round (take i steps) (slice_index_or steps i no_step)

-- the counts of these steps, so many of them, for so many rounds
pub record IsCounted (counts : List ℕ) (steps : List TraceStep) (count rounds : ℕ) : Type 0 where
  pub lengths : length counts ≡ rounds
  pub each : (round : ℕ) → round < rounds → slice_index counts round ≡ rounds_among round steps
  pub few : (round : ℕ) → slice_index counts round ≤ count

none_at : (n k : ℕ) → slice_index (replicate n 0) k ≡ 0
none_at zero k = refl
none_at (suc n) zero = refl
none_at (suc n) (suc k) = none_at n k

pub none_counted : (counts : List ℕ) (rounds : ℕ) → counts ≡ replicate rounds 0 → length counts ≡ rounds → IsCounted counts [] 0 rounds
none_counted counts rounds e same = record {
  lengths = same;
  each = λ round lt. ap (λ (counts : List ℕ). slice_index counts round) e ∙ none_at rounds round;
  few = λ round. omega (arith, ap (λ (counts : List ℕ). slice_index counts round) e, none_at rounds round);
}

if_same : (b : Bool) (m n : ℕ) → (m ≡ n → b ≡ true) → (if b then 1 else 0) ≤ 1
if_same true m n h = omega arith
if_same false m n h = omega arith

pub one_counted : (counts more : List ℕ) (steps : List TraceStep) (i r rounds : ℕ) → i < length steps → IsCounted counts (take i steps) i rounds →
    r ≡ (slice_index_or steps i no_step).round → r < rounds → more ≡ slice_set counts r (slice_index counts r + 1) → IsCounted more (take (i + 1) steps) (i + 1) rounds
one_counted counts more steps i r rounds lt h is within set = record {
  lengths = ap (λ (counts : List ℕ). length counts) set ∙ length-set counts r (slice_index counts r + 1) ∙ h.lengths;
  each = λ round there. ap (λ (counts : List ℕ). slice_index counts round) set ∙ counted round there (r == round) refl;
  few = λ round. few round (r == round) refl;
}
  where
    there_is : r < length counts
    there_is = omega (arith, within, h.lengths)

    after : (round : ℕ) (b : Bool) → (r == round) ≡ b → rounds_among round (take (i + 1) steps) ≡ rounds_among round (take i steps) + (if b then 1 else 0)
    after round b e = rounds_among-more round i steps lt ∙ ap (λ (r : ℕ). rounds_among round (take i steps) + (if r == round then 1 else 0)) (sym is) ∙ ap (λ (b : Bool). rounds_among round (take i steps) + (if b then 1 else 0)) e

    counted : (round : ℕ) → round < rounds → (b : Bool) → (r == round) ≡ b → slice_index (slice_set counts r (slice_index counts r + 1)) round ≡ rounds_among round (take (i + 1) steps)
    counted round there true e =
        let same : r ≡ round = grind arith in
        let P : ℕ → Type 0 = λ round. slice_index (slice_set counts r (slice_index counts r + 1)) round ≡ slice_index counts round + 1 in
        subst P same (get_or-set_same counts r (slice_index counts r + 1) 0 there_is) ∙ ap (λ n. n + 1) (h.each round there) ∙ sym (after round true e)
    counted round there false e =
        let other : round ≡ r → ⊥ = λ same. grind arith in
        get_or-set_other counts r round (slice_index counts r + 1) 0 other ∙ h.each round there ∙ sym (after round false e ∙ omega arith)

    few : (round : ℕ) (b : Bool) → (r == round) ≡ b → slice_index more round ≤ i + 1
    few round true e =
        let same : r ≡ round = grind arith in
        let P : ℕ → Type 0 = λ round. slice_index (slice_set counts r (slice_index counts r + 1)) round ≡ slice_index counts round + 1 in
        omega (arith, ap (λ (counts : List ℕ). slice_index counts round) set, subst P same (get_or-set_same counts r (slice_index counts r + 1) 0 there_is), h.few round)
    few round false e =
        let other : round ≡ r → ⊥ = λ same. grind arith in
        omega (arith, ap (λ (counts : List ℕ). slice_index counts round) set, get_or-set_other counts r round (slice_index counts r + 1) 0 other, h.few round)

pub column-more : (tables : List (List ℕ)) (round i : ℕ) (d : List ℕ) → i < length tables →
    column (take (i + 1) tables) round ≡ column (take i tables) round ++ slice_index (slice_index_or tables i d) round ∷ []
column-more tables round i d lt =
    ap (λ (tables : List (List ℕ)). column tables round) (take_more tables i d lt) ∙ map-append (λ table. slice_index table round) (take i tables) (slice_index_or tables i d ∷ [])

pub round_within : (steps : List TraceStep) (rounds i r : ℕ) → All (λ (step : TraceStep). step.round < rounds) steps → i < length steps → r ≡ (slice_index_or steps i no_step).round → r < rounds
round_within steps rounds i r all lt is = omega (arith, is, all i no_step lt)

-- ---- the tables of sections

pub more_tables : (names words : List (List ℕ)) (tables more : List (List ℕ)) (sections : List Part) (section : Part) (table : List ℕ) (i rounds : ℕ) →
    AreTables tables (map (section_meant names words) (take i sections)) rounds → i < length sections → section ≡ slice_index_or sections i section →
    length table ≡ rounds → ((round : ℕ) → round < rounds → slice_index table round ≡ steps_in round (map (line_meant names words) section.steps)) → more ≡ tables ++ table ∷ [] →
    AreTables more (map (section_meant names words) (take (i + 1) sections)) rounds
more_tables names words tables more sections section table i rounds h lt is long counts pushed = record {
  lengths = subst (λ tables. All (λ table. length table ≡ rounds) tables) (sym pushed) (All-append (λ table. length table ≡ rounds) tables (table ∷ []) h.lengths (only table long));
  columns = λ round there.
      ap (λ (sections : List Part). left_in round (map (section_meant names words) sections)) taken
      ∙ left_in-push round (take i sections)
      ∙ ap (λ before. before ++ steps_in round (map (line_meant names words) section.steps) ∷ []) (h.columns round there)
      ∙ ap (λ n. column tables round ++ n ∷ []) (sym (counts round there))
      ∙ sym (map-append (λ table. slice_index table round) tables (table ∷ []))
      ∙ ap (λ (tables : List (List ℕ)). column tables round) (sym pushed);
}
  where
    taken : take (i + 1) sections ≡ take i sections ++ section ∷ []
    taken = take_more sections i section lt ∙ ap (λ (last : Part). take i sections ++ last ∷ []) (sym is)

    only : (table : List ℕ) → length table ≡ rounds → All (λ table. length table ≡ rounds) (table ∷ [])
    only table long zero d lt = long
    only table long (suc k) d lt = absurd (omega (arith, lt))

    left_in-push : (round : ℕ) (before : List Part) → left_in round (map (section_meant names words) (before ++ section ∷ [])) ≡ left_in round (map (section_meant names words) before) ++ steps_in round (map (line_meant names words) section.steps) ∷ []
    left_in-push round before =
        ap (left_in round) (map-append (section_meant names words) before (section ∷ []))
        ∙ map-append (λ section. steps_in round section.steps) (map (section_meant names words) before) (section_meant names words section ∷ [])

pub if_ok : {A E : Type 0} (r : Result A E) (P Q : A → Type 0) → ((a : A) → P a → Q a) → IfOk r P → IfOk r Q
if_ok (Ok a) P Q f p = f a p
if_ok (Err e) P Q f p = tt

pub tables_length : (names words : List (List ℕ)) (tables : List (List ℕ)) (sections : List Part) (rounds : ℕ) → 1 ≤ rounds → AreTables tables (map (section_meant names words) sections) rounds → length tables ≡ length sections
tables_length names words tables sections rounds some h =
    sym (length-map tables (λ table. slice_index table 0))
    ∙ ap (λ (xs : List ℕ). length xs) (sym (h.columns 0 (omega (arith, some))))
    ∙ length-map (map (section_meant names words) sections) (λ section. steps_in 0 section.steps)
    ∙ length-map sections (section_meant names words)

pub if_ok_both : {A E : Type 0} (result : Result A E) (P Q R : A → Type 0) → ((a : A) → P a → Q a → R a) → IfOk result P → IfOk result Q → IfOk result R
if_ok_both (Ok a) P Q R both p q = both a p q
if_ok_both (Err e) P Q R both p q = tt
