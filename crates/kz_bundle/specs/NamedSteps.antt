-- What a line says, as the definitions have it.
use Rattle.std.specs.Prelude.{Option, Some, None, IsTrue}
use Rattle.kz_model.specs.declared.grammar.Mark.{Mark}
use Rattle.kz_model.specs.Grammar.Tokens.{is_name}
use Rattle.kz_model.specs.Grammar.Steps as step
use Rattle.kz_bundle.specs.declared.form.steps.NamedStep.{NamedStep}
use Rattle.kz_bundle.specs.declared.form.steps.NamedStep.TheVariants.{Alloc, AllocZero, Free, FreeAs, Give, Take, Read, Write, Flush, Trim}

-- what is found, as something else
abbrev pub found_as : {A B : Type 0} → (A → B) → Option (A × Mark) → Option (B × Mark)
found_as f None = None
found_as f (Some found) = Some (f found.0, found.1)

abbrev pub named_step_as : NamedStep → step.NamedStep
named_step_as (Alloc name of) = step.Alloc name.now of.now
named_step_as (AllocZero name of) = step.AllocZero name.now of.now
named_step_as (Free name) = step.Free name.now
named_step_as (FreeAs name of) = step.FreeAs name.now of.now
named_step_as (Give name to) = step.Give name.now to
named_step_as (Take name) = step.Take name.now
named_step_as (Read name off len) = step.Read name.now off len
named_step_as (Write name off bytes) = step.Write name.now off bytes
named_step_as (Flush of) = step.Flush of.now
named_step_as (Trim of) = step.Trim of.now

-- its name is one
abbrev pub IsNamed : NamedStep → Type 0
IsNamed (Alloc name of) = IsTrue (is_name name.now)
IsNamed (AllocZero name of) = IsTrue (is_name name.now)
IsNamed (Free name) = IsTrue (is_name name.now)
IsNamed (FreeAs name of) = IsTrue (is_name name.now)
IsNamed (Give name to) = IsTrue (is_name name.now)
IsNamed (Take name) = IsTrue (is_name name.now)
IsNamed (Read name off len) = IsTrue (is_name name.now)
IsNamed (Write name off bytes) = IsTrue (is_name name.now)
IsNamed (Flush of) = Unit {0}
IsNamed (Trim of) = Unit {0}
