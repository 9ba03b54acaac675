-- A zone as plain data.
use Rattle.std.specs.Prelude.{ℕ, Bool, false, List, [], ◌∷◌, Option, None, Some, ◌==◌, if◌then◌else◌, replicate, slice_index_or}
use Rattle.kz_model.specs.declared.step.Block.{Block}
use Rattle.kz_model.specs.declared.step.Bound.{Bound}
use Rattle.kz_model.specs.declared.record.ZoneParams.{ZoneParams}

-- a chunk: whether it is mapped, its idle elements, rising, and its bytes; an unmapped chunk has neither
pub record Chunk : Type 0 where
  pub mapped : Bool
  pub idle : List ℕ
  pub bytes : List ℕ

-- a block in transit: the CPU that it is for, and its name there
pub record Gift : Type 0 where
  pub to : ℕ
  pub name : ℕ
  pub block : Block

-- what no one CPU has: the chunks by ordinal, the depot's lists and the transit, the oldest first, and how many words
-- were drawn
pub record Shared : Type 0 where
  pub chunks : List Chunk
  pub depot : List (List Block)
  pub transit : List Gift
  pub drawn : ℕ

-- what one CPU has: its stack, the oldest first, and its names with what each is bound to
pub record CpuPart : Type 0 where
  pub stack : List Block
  pub names : List (ℕ × Bound)

pub record ZoneState : Type 0 where
  pub shared : Shared
  pub own : List CpuPart

abbrev pub no_chunk : Chunk
no_chunk = record { mapped = false; idle = []; bytes = [] }

abbrev pub nothing_shared : Shared
nothing_shared = record { chunks = []; depot = []; transit = []; drawn = 0 }

abbrev pub no_cpu_part : CpuPart
no_cpu_part = record { stack = []; names = [] }

-- the state in which a zone opens
abbrev pub opening : ZoneParams → ZoneState
opening p = record { shared = nothing_shared; own = replicate p.cpus no_cpu_part }

-- what a CPU has
abbrev pub cpu_part : ZoneState → ℕ → CpuPart
cpu_part state cpu = slice_index_or state.own cpu no_cpu_part

-- a chunk by its ordinal
abbrev pub chunk_at : List Chunk → ℕ → Chunk
chunk_at chunks ordinal = slice_index_or chunks ordinal no_chunk

-- what a name is bound to
abbrev pub bound_of : ℕ → List (ℕ × Bound) → Option Bound
bound_of name [] = None
bound_of name (entry ∷ names) = if name == entry.0 then Some entry.1 else bound_of name names

-- the names after this one is bound, anew or for the first time
abbrev pub bind : ℕ → Bound → List (ℕ × Bound) → List (ℕ × Bound)
bind name bound [] = (name, bound) ∷ []
bind name bound (entry ∷ names) =
    if name == entry.0 then (name, bound) ∷ names else entry ∷ bind name bound names
