-- Rounds of sections, and what an order says of them, in its own words.
use Rattle.std.specs.Prelude.{◌≡◌, ◌≢◌, ◌<◌, ◌≤◌, ◌+◌, ◌⊎◌, ◌==◌, ℕ, zero, suc, if◌then◌else◌, List, [], ◌∷◌, ◌++◌, length, slice_index_or, Contains}
use Rattle.kz_model.specs.declared.bundle.OrderLine.{OrderLine}
use Rattle.kz_model.specs.declared.bundle.OrderLine.TheVariants as turn
use Rattle.kz_model.specs.Grammar.Form.{Section, new_section}
use Rattle.kz_model.specs.Grammar.Stages.{steps_in}

-- ---- rounds

-- any two CPUs have equally many `--` lines
abbrev pub HaveEquallyManyBreaks : List Section → Type 0
HaveEquallyManyBreaks sections =
    (one other : Section) → Contains sections one → Contains sections other → one.breaks ≡ other.breaks

-- The section whose `cpu` line has this number has another number of `--` lines than the first, and those between
-- have as many as the first.
pub record IsRoundsFault (sections : List Section) (number : ℕ) : Type 0 where
  pub first : Section
  pub between : List Section
  pub section : Section
  pub after : List Section
  pub parts : sections ≡ first ∷ between ++ section ∷ after
  pub numbered : section.line ≡ number
  pub broken : section.breaks ≢ first.breaks
  pub fine : HaveEquallyManyBreaks (first ∷ between)

-- ---- an order

-- how many step lines of a round a CPU has
abbrev pub steps_of : List Section → ℕ → ℕ → ℕ
steps_of sections cpu round = steps_in round (slice_index_or sections cpu (new_section 0)).steps

-- how many `--` lines an order has
abbrev pub breaks_in : List OrderLine → ℕ
breaks_in [] = 0
breaks_in (turn.Cpu cpu ∷ lines) = breaks_in lines
breaks_in (turn.Round ∷ lines) = suc (breaks_in lines)

-- how often an order names a CPU in a round; round 0 goes up to the first `--` line
abbrev pub turns_in : List OrderLine → ℕ → ℕ → ℕ
turns_in [] cpu round = 0
turns_in (turn.Cpu other ∷ lines) cpu zero = (if other == cpu then 1 else 0) + turns_in lines cpu zero
turns_in (turn.Cpu other ∷ lines) cpu (suc round) = turns_in lines cpu (suc round)
turns_in (turn.Round ∷ lines) cpu zero = 0
turns_in (turn.Round ∷ lines) cpu (suc round) = turns_in lines cpu round

-- It has all rounds up to the last, and names each CPU as often in each as the CPU has steps in it.
pub record IsWholeOrder (sections : List Section) (last : ℕ) (lines : List OrderLine) : Type 0 where
  pub rounds : breaks_in lines ≡ last
  pub turns : (cpu round : ℕ) → round ≤ last → turns_in lines cpu round ≡ steps_of sections cpu round

-- Lines with which an order may begin: each CPU has had its turns in the rounds that are over, and no more than those
-- in the newest.
pub record IsOrderSoFar (sections : List Section) (last : ℕ) (before : List OrderLine) : Type 0 where
  pub rounds : breaks_in before ≤ last
  pub over : (cpu round : ℕ) → round < breaks_in before → turns_in before cpu round ≡ steps_of sections cpu round
  pub newest : (cpu : ℕ) → turns_in before cpu (breaks_in before) ≤ steps_of sections cpu (breaks_in before)

-- a CPU has had fewer turns in the newest round than it has steps in it
abbrev pub HasStepLeft : List Section → List OrderLine → Type 0
HasStepLeft sections before =
    (cpu : ℕ) × (turns_in before cpu (breaks_in before) < steps_of sections cpu (breaks_in before))

-- how the next line, after those before, breaks the order; where no line of it is left this is the line `end`
abbrev pub BreaksOrder : List Section → ℕ → List OrderLine → List OrderLine → Type 0
BreaksOrder sections last before [] = HasStepLeft sections before ⊎ (breaks_in before ≢ last)
BreaksOrder sections last before (turn.Cpu cpu ∷ after) =
    turns_in before cpu (breaks_in before) ≡ steps_of sections cpu (breaks_in before)
BreaksOrder sections last before (turn.Round ∷ after) = HasStepLeft sections before ⊎ (breaks_in before ≡ last)

-- The line of this number breaks the order, and those before it do not; the line `order` has the number before the
-- first.
pub record IsOrderFault (sections : List Section) (last : ℕ) (lines : List OrderLine) (at number : ℕ) : Type 0 where
  pub before : List OrderLine
  pub rest : List OrderLine
  pub parts : lines ≡ before ++ rest
  pub numbered : number ≡ at + 1 + length before
  pub broken : BreaksOrder sections last before rest
  pub first : IsOrderSoFar sections last before
