-- Other numbers for the names of a zone.
use Rattle.std.specs.Prelude.{◌≡◌, ℕ, ◌==◌, List, map}
use Rattle.kz_model.specs.declared.step.Bound.{Bound}
use Rattle.kz_model.specs.declared.step.Step.{Step}
use Rattle.kz_model.specs.declared.step.Step.TheVariants.{Alloc, AllocZero, Free, Give, Take, Read, Write, Flush, Trim}
use Rattle.kz_model.specs.Zone.State.{Gift, Shared, CpuPart, ZoneState}
use Rattle.kz_model.specs.Zone.Rules.{Effect, Stepped}
use Rattle.kz_model.specs.Zone.Alone.{Course}

-- different names stay different
abbrev pub IsRenaming : (ℕ → ℕ) → Type 0
IsRenaming f = (m n : ℕ) → (f m == f n) ≡ (m == n)

abbrev pub renamed_step : (ℕ → ℕ) → Step → Step
renamed_step f (Alloc name) = Alloc (f name)
renamed_step f (AllocZero name) = AllocZero (f name)
renamed_step f (Free name asked) = Free (f name) asked
renamed_step f (Give name to) = Give (f name) to
renamed_step f (Take name) = Take (f name)
renamed_step f (Read name off len) = Read (f name) off len
renamed_step f (Write name off bytes) = Write (f name) off bytes
renamed_step f Flush = Flush
renamed_step f Trim = Trim

abbrev pub renamed_entry : (ℕ → ℕ) → ℕ × Bound → ℕ × Bound
renamed_entry f entry = (f entry.0, entry.1)

abbrev pub renamed_names : (ℕ → ℕ) → List (ℕ × Bound) → List (ℕ × Bound)
renamed_names f names = map (renamed_entry f) names

abbrev pub renamed_part : (ℕ → ℕ) → CpuPart → CpuPart
renamed_part f own = record own { names = renamed_names f own.names }

abbrev pub renamed_gift : (ℕ → ℕ) → Gift → Gift
renamed_gift f gift = record gift { name = f gift.name }

abbrev pub renamed_shared : (ℕ → ℕ) → Shared → Shared
renamed_shared f s = record s { transit = map (renamed_gift f) s.transit }

abbrev pub renamed : (ℕ → ℕ) → ZoneState → ZoneState
renamed f state = record { shared = renamed_shared f state.shared; own = map (renamed_part f) state.own }

abbrev pub renamed_effect : (ℕ → ℕ) → Effect → Effect
renamed_effect f e = record { reply = e.reply; shared = renamed_shared f e.shared; own = renamed_part f e.own }

abbrev pub renamed_after : (ℕ → ℕ) → Stepped → Stepped
renamed_after f o = record o { state = renamed f o.state }

abbrev pub renamed_steps : (ℕ → ℕ) → List (ℕ × Step) → List (ℕ × Step)
renamed_steps f steps = map (λ step. (step.0, renamed_step f step.1)) steps

-- the same replies, asks and answers left, and the states under these names
abbrev pub renamed_course : (ℕ → ℕ) → Course → Course
renamed_course f c = record c { before = map (renamed f) c.before; end = renamed f c.end }
