-- Steps of a trace that are kept short: the bytes of a write stand beside them.
use Rattle.std.specs.Prelude.{ℕ, ◌<◌, List, [], Some, None, slice_index, slice_index_or}
use Rattle.kz_model.specs.declared.bundle.Act.{Act}
use Rattle.kz_model.specs.declared.bundle.Act.TheVariants as act
use Rattle.kz_model.specs.declared.bundle.TraceStep.{TraceStep}
use Rattle.kz_model.specs.declared.store.short.ShortAct.{ShortAct}
use Rattle.kz_model.specs.declared.store.short.ShortAct.TheVariants as short
use Rattle.kz_model.specs.declared.store.short.ShortStep.{ShortStep}

-- a short act as it is meant, with these bytes of writes
abbrev pub act_meant : List (List ℕ) → ShortAct → Act
act_meant pieces (short.Alloc name of) = act.Alloc name of
act_meant pieces (short.AllocZero name of) = act.AllocZero name of
act_meant pieces (short.Free name of) = act.Free name of
act_meant pieces (short.Give name to) = act.Give name to
act_meant pieces (short.Take name) = act.Take name
act_meant pieces (short.Read name off len) = act.Read name off len
act_meant pieces (short.Write name off piece) = act.Write name off (slice_index_or pieces piece [])
act_meant pieces (short.Flush of) = act.Flush of
act_meant pieces (short.Trim of) = act.Trim of

abbrev pub step_meant : List (List ℕ) → ShortStep → TraceStep
step_meant pieces step = record { line = step.line; round = step.round; act = act_meant pieces step.act }

-- its bytes are among the first of these
abbrev pub HasItsBytes : ℕ → ShortAct → Type 0
HasItsBytes pieces (short.Write name off piece) = piece < pieces
HasItsBytes pieces other = Unit {0}

-- an act with other numbers for its names and types
abbrev pub renumbered : List ℕ → List ℕ → Act → Act
renumbered names types (act.Alloc name of) = act.Alloc (slice_index names name) (slice_index types of)
renumbered names types (act.AllocZero name of) = act.AllocZero (slice_index names name) (slice_index types of)
renumbered names types (act.Free name None) = act.Free (slice_index names name) None
renumbered names types (act.Free name (Some of)) = act.Free (slice_index names name) (Some (slice_index types of))
renumbered names types (act.Give name to) = act.Give (slice_index names name) to
renumbered names types (act.Take name) = act.Take (slice_index names name)
renumbered names types (act.Read name off len) = act.Read (slice_index names name) off len
renumbered names types (act.Write name off bytes) = act.Write (slice_index names name) off bytes
renumbered names types (act.Flush of) = act.Flush (slice_index types of)
renumbered names types (act.Trim of) = act.Trim (slice_index types of)

abbrev pub renumbered_step : List ℕ → List ℕ → TraceStep → TraceStep
renumbered_step names types step =
    record { line = step.line; round = step.round; act = renumbered names types step.act }

-- its names and types have such numbers
abbrev pub AreNumbered : ℕ → ℕ → Act → Type 0
AreNumbered names types (act.Alloc name of) = (name < names) × (of < types)
AreNumbered names types (act.AllocZero name of) = (name < names) × (of < types)
AreNumbered names types (act.Free name None) = name < names
AreNumbered names types (act.Free name (Some of)) = (name < names) × (of < types)
AreNumbered names types (act.Give name to) = name < names
AreNumbered names types (act.Take name) = name < names
AreNumbered names types (act.Read name off len) = name < names
AreNumbered names types (act.Write name off bytes) = name < names
AreNumbered names types (act.Flush of) = of < types
AreNumbered names types (act.Trim of) = of < types

-- the same of an act that is kept short
abbrev pub renumbered_short : List ℕ → List ℕ → ShortAct → ShortAct
renumbered_short names types (short.Alloc name of) = short.Alloc (slice_index names name) (slice_index types of)
renumbered_short names types (short.AllocZero name of) = short.AllocZero (slice_index names name) (slice_index types of)
renumbered_short names types (short.Free name None) = short.Free (slice_index names name) None
renumbered_short names types (short.Free name (Some of)) =
    short.Free (slice_index names name) (Some (slice_index types of))
renumbered_short names types (short.Give name to) = short.Give (slice_index names name) to
renumbered_short names types (short.Take name) = short.Take (slice_index names name)
renumbered_short names types (short.Read name off len) = short.Read (slice_index names name) off len
renumbered_short names types (short.Write name off piece) = short.Write (slice_index names name) off piece
renumbered_short names types (short.Flush of) = short.Flush (slice_index types of)
renumbered_short names types (short.Trim of) = short.Trim (slice_index types of)

abbrev pub renumbered_kept : List ℕ → List ℕ → ShortStep → ShortStep
renumbered_kept names types step =
    record { line = step.line; round = step.round; act = renumbered_short names types step.act }
