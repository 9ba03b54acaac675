-- The sections of a made bundle: their rounds, and their lines.
use Rattle.std.proofs.Common.{◌≡◌, ◌≢◌, ℕ, zero, suc, ◌+◌, ◌*◌, ◌<◌, ◌≤◌, ◌==◌, Bool, true, false, List, [], ◌∷◌, ◌++◌, length, map, get_or, replicate, All, Some, refl, ap, sym, ◌∙◌, arith, subst, length-append}
use Rattle.std.proofs.lemmas.List.{length-map, length-replicate, map-append}
use Rattle.std.proofs.lemmas.List.Elements.{All-nil, All-cons, All-head, All-tail, All-append}
use Rattle.kz_model.specs.Grammar.Steps.{NamedStep, Alloc}
use Rattle.kz_model.specs.Grammar.Form.{StepLine, Section}
use Rattle.kz_model.specs.Grammar.Stages.{CpuLine, of_cpu, lines_from, steps_in, binds}
use Rattle.kz_model.specs.Text.Made.{names_count, drawn_count, later_count, name_text, type_of_made, names_allocated, first_round, rounds_drawn, steps_drawn}
use Rattle.kz_make.proofs.Counts.{names_are, drawn_are}
use Rattle.kz_make.proofs.Counts.{later_are as later_counted}
use Rattle.kz_make.proofs.Leading.{numbered, section_of, steps_of}
use Rattle.kz_make.proofs.Sectioned.{rounds_lines, steps-section_of, breaks-section_of, steps_in-append, steps_in-same, steps_in-other, steps_in-later, steps_in-rounds, HasRounds}
use Rattle.kz_make.proofs.NamedStepsMade.{IsStepOf, first_are, later_are, length-steps_drawn, length-first_round}
use Rattle.kz_make.proofs.Rowed.{IsLineOfMade, IsBoundIn, bound_left, bound_right}

-- ---- rounds

pub length-rounds_drawn : (number cpu j more : ℕ) → length (rounds_drawn number cpu j more) ≡ more
length-rounds_drawn number cpu j zero = refl
length-rounds_drawn number cpu j (suc more) = ap suc (length-rounds_drawn number cpu (j + 15000) more)

lengths-rounds_drawn : (number cpu j more : ℕ) → map (λ (round : List NamedStep). length round) (rounds_drawn number cpu j more) ≡ replicate more drawn_count
lengths-rounds_drawn number cpu j zero = refl
lengths-rounds_drawn number cpu j (suc more) =
    ap (λ n. n ∷ map (λ (round : List NamedStep). length round) (rounds_drawn number cpu (j + 15000) more)) (length-steps_drawn number cpu j drawn_count)
    ∙ ap (λ (counts : List ℕ). drawn_count ∷ counts) (lengths-rounds_drawn number cpu (j + 15000) more)

steps-rounds_drawn : (number cpu j more : ℕ) → steps_of (rounds_drawn number cpu j more) ≡ more * drawn_count
steps-rounds_drawn number cpu j zero = omega arith
steps-rounds_drawn number cpu j (suc more) = omega (arith, length-steps_drawn number cpu j drawn_count, steps-rounds_drawn number cpu (j + 15000) more)

-- a CPU has 20,250 steps
pub steps_of_cpu : (number cpu j : ℕ) → length (first_round number cpu j) + steps_of (rounds_drawn number cpu (j + 15000) later_count) ≡ 20250
steps_of_cpu number cpu j =
    let later = steps-rounds_drawn number cpu (j + 15000) later_count ∙ ap (λ n. n * drawn_count) later_counted in
    omega (arith, later, length-first_round number cpu j, names_are, drawn_are)

-- a CPU's section, whose `cpu` line has this number
abbrev pub ruled : ℕ → ℕ → ℕ → ℕ → Section
ruled number cpu j line = section_of line (first_round number cpu j) (rounds_drawn number cpu (j + 15000) later_count)

pub has_rounds : (number cpu j line : ℕ) → HasRounds (names_count + drawn_count) (replicate later_count drawn_count) (ruled number cpu j line)
has_rounds number cpu j line = record {
  breaks = breaks-section_of line first later ∙ length-rounds_drawn number cpu (j + 15000) later_count ∙ sym (length-replicate later_count drawn_count);
  steps = λ r. ap (steps_in r) (steps-section_of line first later) ∙ steps_in-append r (numbered (line + 1) 0 first) (rounds_lines (line + 1 + length first) 1 later) ∙ by_round r;
}
  where
    first : List NamedStep
    first = first_round number cpu j

    later : List (List NamedStep)
    later = rounds_drawn number cpu (j + 15000) later_count

    by_round : (r : ℕ) → steps_in r (numbered (line + 1) 0 first) + steps_in r (rounds_lines (line + 1 + length first) 1 later) ≡ get_or ((names_count + drawn_count) ∷ replicate later_count drawn_count) r 0
    by_round zero = omega (arith, steps_in-same 0 (line + 1) first, steps_in-later 0 1 (line + 1 + length first) later (omega arith), length-first_round number cpu j)
    by_round (suc i) =
        let other : 0 ≢ suc i = omega arith in
        let one : suc i ≡ 1 + i = omega arith in
        let counts = ap (λ r. steps_in r (rounds_lines (line + 1 + length first) 1 later)) one ∙ steps_in-rounds i 1 (line + 1 + length first) later ∙ ap (λ (counts : List ℕ). get_or counts i 0) (lengths-rounds_drawn number cpu (j + 15000) later_count) in
        omega (arith, steps_in-other (suc i) 0 (line + 1) first other, counts)

-- ---- lines

abbrev IsSaidOf : ℕ → StepLine → Type 0
IsSaidOf cpu line = IsStepOf cpu line.said

all_numbered : (cpu line round : ℕ) (saids : List NamedStep) → All (IsStepOf cpu) saids → All (IsSaidOf cpu) (numbered line round saids)
all_numbered cpu line round [] all = All-nil (IsSaidOf cpu)
all_numbered cpu line round (said ∷ saids) all =
    All-cons (IsSaidOf cpu) (record { line = line; round = round; said = said }) (numbered (line + 1) round saids) (All-head (IsStepOf cpu) said saids all) (all_numbered cpu (line + 1) round saids (All-tail (IsStepOf cpu) said saids all))

all_rounds : (cpu line at : ℕ) (rounds : List (List NamedStep)) → All (All (IsStepOf cpu)) rounds → All (IsSaidOf cpu) (rounds_lines line at rounds)
all_rounds cpu line at [] all = All-nil (IsSaidOf cpu)
all_rounds cpu line at (round ∷ rounds) all =
    All-append (IsSaidOf cpu) (numbered (line + 1) at round) (rounds_lines (line + 1 + length round) (at + 1) rounds) (all_numbered cpu (line + 1) at round (All-head (All (IsStepOf cpu)) round rounds all))
    (all_rounds cpu (line + 1 + length round) (at + 1) rounds (All-tail (All (IsStepOf cpu)) round rounds all))

all_of_cpu : (cpu : ℕ) (lines : List StepLine) → cpu < 4 → All (IsSaidOf cpu) lines → All IsLineOfMade (of_cpu cpu lines)
all_of_cpu cpu [] few all = All-nil IsLineOfMade
all_of_cpu cpu (line ∷ lines) few all =
    All-cons IsLineOfMade (cpu, line) (of_cpu cpu lines) (record { few = few; step = All-head (IsSaidOf cpu) line lines all }) (all_of_cpu cpu lines few (All-tail (IsSaidOf cpu) line lines all))

pub lines_are : (number cpu j line : ℕ) → cpu < 4 → All IsLineOfMade (of_cpu cpu (ruled number cpu j line).steps)
lines_are number cpu j line few =
    let first = first_round number cpu j in
    let later = rounds_drawn number cpu (j + 15000) later_count in
    all_of_cpu cpu (ruled number cpu j line).steps few
    (subst (All (IsSaidOf cpu)) (sym (steps-section_of line first later))
    (All-append (IsSaidOf cpu) (numbered (line + 1) 0 first) (rounds_lines (line + 1 + length first) 1 later) (all_numbered cpu (line + 1) 0 first (first_are cpu few number j))
    (all_rounds cpu (line + 1 + length first) 1 later (later_are cpu few number (j + 15000) later_count))))

length-numbered : (line round : ℕ) (saids : List NamedStep) → length (numbered line round saids) ≡ length saids
length-numbered line round [] = refl
length-numbered line round (said ∷ saids) = ap suc (length-numbered (line + 1) round saids)

length-rounds_lines : (line at : ℕ) (rounds : List (List NamedStep)) → length (rounds_lines line at rounds) ≡ steps_of rounds
length-rounds_lines line at [] = refl
length-rounds_lines line at (round ∷ rounds) =
    omega (arith, length-append (numbered (line + 1) at round) (rounds_lines (line + 1 + length round) (at + 1) rounds), length-numbered (line + 1) at round, length-rounds_lines (line + 1 + length round) (at + 1) rounds)

pub lines_count : (number cpu j line : ℕ) → length (of_cpu cpu (ruled number cpu j line).steps) ≡ 20250
lines_count number cpu j line =
    let first = first_round number cpu j in
    let later = rounds_drawn number cpu (j + 15000) later_count in
    length-map (ruled number cpu j line).steps (λ (l : StepLine). (cpu, l)) ∙ ap length (steps-section_of line first later)
    ∙ omega (arith, length-append (numbered (line + 1) 0 first) (rounds_lines (line + 1 + length first) 1 later), length-numbered (line + 1) 0 first, length-rounds_lines (line + 1 + length first) 1 later, steps_of_cpu number cpu j)

-- ---- each name is bound

bound_among : (cpu line from count k : ℕ) (rest : List NamedStep) → from ≤ k → k < from + count → IsBoundIn (name_text cpu k) (of_cpu cpu (numbered line 0 (names_allocated cpu from count ++ rest)))
bound_among cpu line from zero k rest above below = absurd (omega (arith, above, below))
bound_among cpu line from (suc count) k rest above below = by_place (from == k) refl (λ after. bound_among cpu (line + 1) (from + 1) count k rest after (omega (arith, below)))
  where
    here : CpuLine
    here = (cpu, record { line = line; round = 0; said = Alloc (name_text cpu from) (type_of_made cpu from) })

    others : List CpuLine
    others = of_cpu cpu (numbered (line + 1) 0 (names_allocated cpu (from + 1) count ++ rest))

    same : (from == k) ≡ true → from ≡ k
    same e = grind arith

    on : (from == k) ≡ false → from + 1 ≤ k
    on e = let other : from ≢ k = grind arith in omega arith

    by_place : (b : Bool) → (from == k) ≡ b → (from + 1 ≤ k → IsBoundIn (name_text cpu k) others) → IsBoundIn (name_text cpu k) (here ∷ others)
    by_place true e more = record { before = []; line = here; after = others; of = type_of_made cpu from; parts = refl; binds_it = ap (λ n. Some (name_text cpu n, type_of_made cpu from)) (same e) }
    by_place false e more = bound_right (name_text cpu k) (here ∷ []) others (more (on e))

pub name_bound : (number cpu j line k : ℕ) → k < 250 → IsBoundIn (name_text cpu k) (of_cpu cpu (ruled number cpu j line).steps)
name_bound number cpu j line k few =
    let first = first_round number cpu j in
    let later = rounds_drawn number cpu (j + 15000) later_count in
    let front = bound_among cpu (line + 1) 0 names_count k (steps_drawn number cpu j drawn_count) (omega arith) (omega (arith, names_are)) in
    subst (λ (steps : List StepLine). IsBoundIn (name_text cpu k) (of_cpu cpu steps)) (sym (steps-section_of line first later))
    (subst (IsBoundIn (name_text cpu k)) (sym (map-append (λ (l : StepLine). (cpu, l)) (numbered (line + 1) 0 first) (rounds_lines (line + 1 + length first) 1 later)))
    (bound_left (name_text cpu k) (of_cpu cpu (numbered (line + 1) 0 first)) (of_cpu cpu (rounds_lines (line + 1 + length first) 1 later)) front))
