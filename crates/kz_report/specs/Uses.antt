-- How many of a type's blocks were given and how many were freed.
use Rattle.std.specs.Prelude.{ℕ, zero, suc, ◌+◌, ◌-◌, ◌≤◌, List, [], ◌∷◌, ◌++◌, slice_index_or, slice_set, Option, None, Some, All, codes, decimal}
use Rattle.kz_model.specs.declared.bundle.Bundle.{Bundle}
use Rattle.kz_model.specs.declared.bundle.TraceStep.{TraceStep}
use Rattle.kz_model.specs.declared.bundle.Act.{Act}
use Rattle.kz_model.specs.declared.step.Reply.{Reply}
use Rattle.kz_model.specs.Run.Journal.{trace_of}
use Rattle.kz_model.specs.Text.Report.{type_given, type_freed}
use Rattle.kz_report.specs.declared.uses.Uses.{Uses}

abbrev pub no_uses : Uses
no_uses = record { allocs = 0; frees = 0 }

abbrev pub one_given : Uses → Uses
one_given uses = record { allocs = uses.allocs + 1; frees = uses.frees }

abbrev pub one_freed : Uses → Uses
one_freed uses = record { allocs = uses.allocs; frees = uses.frees + 1 }

-- the numbers by type after this type's are changed
abbrev pub changed_at : (Uses → Uses) → Option ℕ → List Uses → List Uses
changed_at change None uses = uses
changed_at change (Some of) uses = slice_set uses of (change (slice_index_or uses of no_uses))

-- the numbers by type after one line more
abbrev pub counted : Bundle → Act → Reply → List Uses → List Uses
counted b act reply uses =
    changed_at one_freed (type_freed b act reply) (changed_at one_given (type_given b act reply) uses)

-- the numbers by type after these lines
abbrev pub counted_all : Bundle → List TraceStep → List Reply → List Uses → List Uses
counted_all b [] replies uses = uses
counted_all b (line ∷ lines) [] uses = uses
counted_all b (line ∷ lines) (reply ∷ replies) uses = counted_all b lines replies (counted b line.act reply uses)

-- the numbers by type after the lines of so many CPUs from this one on
abbrev pub counted_cpus : Bundle → List (List Reply) → ℕ → ℕ → List Uses → List Uses
counted_cpus b replies cpu zero uses = uses
counted_cpus b replies cpu (suc more) uses =
    counted_cpus b replies (cpu + 1) more (counted_all b (trace_of b cpu) (slice_index_or replies cpu []) uses)

-- no number is above this one
abbrev pub AreFew : ℕ → List Uses → Type 0
AreFew most uses = All (λ u. (u.allocs ≤ most) × (u.frees ≤ most)) uses

abbrev pub use_text : List ℕ → Uses → List ℕ
use_text name uses =
    codes "use " ++ name ++ codes " allocs " ++ decimal uses.allocs ++ codes " frees " ++ decimal uses.frees ++ codes " live " ++ decimal (uses.allocs - uses.frees)
