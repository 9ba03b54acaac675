-- The steps that each CPU has in each round, in tables.
use Rattle.std.specs.Prelude.{◌≡◌, ℕ, ◌<◌, ◌^◌, List, length, map, slice_index, All}
use Rattle.kz_model.specs.Grammar.Form.{Section}
use Rattle.kz_model.specs.Grammar.Stages.{left_in}
use Rattle.kz_bundle.specs.declared.form.parts.Part.{Part}

-- what the tables have for a round
abbrev pub column : List (List ℕ) → ℕ → List ℕ
column tables round = map (λ table. slice_index table round) tables

-- each table has so many rounds, and their columns are the steps that the CPUs have in them
pub record AreTables (tables : List (List ℕ)) (sections : List Section) (rounds : ℕ) : Type 0 where
  pub lengths : All (λ table. length table ≡ rounds) tables
  pub columns : (round : ℕ) → round < rounds → left_in round sections ≡ column tables round

-- its steps are of these rounds, and few
pub record IsCountable (rounds : ℕ) (part : Part) : Type 0 where
  pub within : All (λ step. step.round < rounds) part.steps
  pub few : length part.steps < 2 ^ 32
