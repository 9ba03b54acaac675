-- What a section of rounds has.
use Rattle.std.proofs.Common.{◌≡◌, ◌≢◌, ℕ, zero, suc, ◌+◌, ◌<◌, ◌==◌, true, false, List, [], ◌∷◌, ◌++◌, length, map, get_or, refl, ap, sym, ◌∙◌, arith, if◌then◌else◌, append_assoc, append-nil}
use Rattle.kz_model.specs.Grammar.Steps.{NamedStep}
use Rattle.kz_model.specs.Grammar.Form.{StepLine, Section, new_section}
use Rattle.kz_model.specs.Grammar.Stages.{steps_in}
use Rattle.kz_make.proofs.Leading.{numbered, with_saids, with_break, with_rounds, section_of}

pub breaks-with_rounds : (section : Section) (line : ℕ) (rounds : List (List NamedStep)) → (with_rounds section line rounds).breaks ≡ section.breaks + length rounds
breaks-with_rounds section line [] = omega arith
breaks-with_rounds section line (round ∷ rounds) = let rest = breaks-with_rounds (with_saids (with_break section) (line + 1) round) (line + 1 + length round) rounds in omega arith

-- the step lines of rounds from this one on, each behind a `--` line
abbrev pub rounds_lines : ℕ → ℕ → List (List NamedStep) → List StepLine
rounds_lines line at [] = []
rounds_lines line at (round ∷ rounds) = numbered (line + 1) at round ++ rounds_lines (line + 1 + length round) (at + 1) rounds

pub steps-with_rounds : (section : Section) (line : ℕ) (rounds : List (List NamedStep)) → (with_rounds section line rounds).steps ≡ section.steps ++ rounds_lines line (section.breaks + 1) rounds
steps-with_rounds section line [] = sym (append-nil section.steps)
steps-with_rounds section line (round ∷ rounds) =
    steps-with_rounds (with_saids (with_break section) (line + 1) round) (line + 1 + length round) rounds
    ∙ append_assoc section.steps (numbered (line + 1) (section.breaks + 1) round) (rounds_lines (line + 1 + length round) (section.breaks + 1 + 1) rounds)

pub steps-section_of : (line : ℕ) (first : List NamedStep) (later : List (List NamedStep)) → (section_of line first later).steps ≡ numbered (line + 1) 0 first ++ rounds_lines (line + 1 + length first) 1 later
steps-section_of line first later = steps-with_rounds (with_saids (new_section line) (line + 1) first) (line + 1 + length first) later

pub breaks-section_of : (line : ℕ) (first : List NamedStep) (later : List (List NamedStep)) → (section_of line first later).breaks ≡ length later
breaks-section_of line first later = let all = breaks-with_rounds (with_saids (new_section line) (line + 1) first) (line + 1 + length first) later in omega arith

-- ---- how many steps there are of a round

pub steps_in-append : (r : ℕ) (xs ys : List StepLine) → steps_in r (xs ++ ys) ≡ steps_in r xs + steps_in r ys
steps_in-append r [] ys = omega arith
steps_in-append r (x ∷ xs) ys = let rest = steps_in-append r xs ys in omega arith

pub steps_in-same : (r line : ℕ) (saids : List NamedStep) → steps_in r (numbered line r saids) ≡ length saids
steps_in-same r line [] = refl
steps_in-same r line (said ∷ saids) = let rest = steps_in-same r (line + 1) saids in let one : (r == r) ≡ true = grind arith in rw one (omega arith)

pub steps_in-other : (r at line : ℕ) (saids : List NamedStep) → at ≢ r → steps_in r (numbered line at saids) ≡ 0
steps_in-other r at line [] h = refl
steps_in-other r at line (said ∷ saids) h = let rest = steps_in-other r at (line + 1) saids h in let one : (at == r) ≡ false = grind arith in rw one (omega arith)

pub steps_in-later : (r at line : ℕ) (rounds : List (List NamedStep)) → r < at → steps_in r (rounds_lines line at rounds) ≡ 0
steps_in-later r at line [] h = refl
steps_in-later r at line (round ∷ rounds) h =
    let not_here : at ≢ r = omega arith in
    let here = steps_in-other r at (line + 1) round not_here in
    let rest = steps_in-later r (at + 1) (line + 1 + length round) rounds (omega arith) in
    omega (arith, steps_in-append r (numbered (line + 1) at round) (rounds_lines (line + 1 + length round) (at + 1) rounds))

pub steps_in-rounds : (i at line : ℕ) (rounds : List (List NamedStep)) → steps_in (at + i) (rounds_lines line at rounds) ≡ get_or (map (λ (round : List NamedStep). length round) rounds) i 0
steps_in-rounds i at line [] = refl
steps_in-rounds zero at line (round ∷ rounds) =
    let rest = steps_in-later at (at + 1) (line + 1 + length round) rounds (omega arith) in
    let here = steps_in-same at (line + 1) round in
    let same : at + 0 ≡ at = omega arith in
    ap (λ r. steps_in r (rounds_lines line at (round ∷ rounds))) same ∙ omega (arith, steps_in-append at (numbered (line + 1) at round) (rounds_lines (line + 1 + length round) (at + 1) rounds))
steps_in-rounds (suc i) at line (round ∷ rounds) =
    let not_here : at ≢ at + suc i = omega arith in
    let here = steps_in-other (at + suc i) at (line + 1) round not_here in
    let next : at + suc i ≡ at + 1 + i = omega arith in
    let rest = ap (λ r. steps_in r (rounds_lines (line + 1 + length round) (at + 1) rounds)) next ∙ steps_in-rounds i (at + 1) (line + 1 + length round) rounds in
    omega (arith, steps_in-append (at + suc i) (numbered (line + 1) at round) (rounds_lines (line + 1 + length round) (at + 1) rounds))

-- a section's rounds have so many steps
pub record HasRounds (first : ℕ) (later : List ℕ) (section : Section) : Type 0 where
  pub breaks : section.breaks ≡ length later
  pub steps : (r : ℕ) → steps_in r section.steps ≡ get_or (first ∷ later) r 0
