-- What a bundle says of names, by their numbers.
use Rattle.std.specs.Prelude.{◌≡◌, ◌<◌, ◌⊎◌, ℕ, List, [], length, slice_index_or, Contains}
use Rattle.kz_model.specs.declared.bundle.Act.TheVariants as act
use Rattle.kz_model.specs.declared.bundle.TraceStep.{TraceStep}
use Rattle.kz_model.specs.declared.bundle.NameRow.{NameRow}
use Rattle.kz_model.specs.declared.bundle.Bundle.{Bundle}
use Rattle.kz_model.specs.Grammar.Spelling.{Spells, names_in}
use Rattle.kz_grammar.specs.Names.{AreDifferent}

-- the steps of a CPU's trace
abbrev pub trace_at : Bundle → ℕ → List TraceStep
trace_at b cpu = slice_index_or b.traces cpu []

-- a name by its number
abbrev pub name_at : Bundle → ℕ → NameRow
name_at b name = slice_index_or b.names name (record { name = []; of = 0 })

-- an `a` or `z` step of this name with this type
abbrev pub IsAllocation : TraceStep → ℕ → ℕ → Type 0
IsAllocation step name of = (step.act ≡ act.Alloc name of) ⊎ (step.act ≡ act.AllocZero name of)

-- a step of this CPU allocates the name, with the name's type
pub record IsAllocatedOn (b : Bundle) (name cpu : ℕ) : Type 0 where
  pub step : TraceStep
  pub there : Contains (trace_at b cpu) step
  pub allocates : IsAllocation step name (name_at b name).of

-- Names have different texts, and each has its `a` and `z` steps on one CPU, one or more, with its own type.
pub record HasSoundNameRows (b : Bundle) : Type 0 where
  pub different : AreDifferent (names_in b)
  pub within : (cpu name of : ℕ) (step : TraceStep) → Contains (trace_at b cpu) step → IsAllocation step name of →
      name < length b.names
  pub one_type : (cpu name of : ℕ) (step : TraceStep) → Contains (trace_at b cpu) step → IsAllocation step name of →
      of ≡ (name_at b name).of
  pub one_cpu : (cpu other name of type : ℕ) (one two : TraceStep) →
      Contains (trace_at b cpu) one → IsAllocation one name of →
      Contains (trace_at b other) two → IsAllocation two name type → cpu ≡ other
  pub allocated : (name : ℕ) → name < length b.names → (cpu : ℕ) × IsAllocatedOn b name cpu

-- what is spelled has such names
abbrev pub SpelledNameRowsAreSound : Type 0
SpelledNameRowsAreSound = (bytes : List ℕ) (b : Bundle) → Spells bytes b → HasSoundNameRows b
