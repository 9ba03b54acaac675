-- A step leaves each name but its own.
use Rattle.std.proofs.Common.{◌≡◌, ◌≢◌, ℕ, ◌==◌, true, false, if◌then◌else◌, List, Option, None, Some, refl, ap, ◌∙◌, arith}
use Rattle.std.specs.Option.{option_map_or}
use Rattle.kz_model.specs.declared.record.ZoneParams.{ZoneParams}
use Rattle.kz_model.specs.declared.step.Bound.{Bound}
use Rattle.kz_model.specs.declared.step.Reply.{Reply}
use Rattle.kz_model.specs.declared.step.Step.{Step}
use Rattle.kz_model.specs.declared.step.Step.TheVariants.{Alloc, AllocZero, Free, Give, Take, Read, Write, Flush, Trim}
use Rattle.kz_model.specs.declared.supply.Answer.{Answer}
use Rattle.kz_model.specs.Zone.Local.{kept, local_action, local_answer}
use Rattle.kz_model.specs.Zone.Rules.{name_of, refused_here, bound_at, refusal, else_refused, denied_by, unchanged, action, effect_of}
use Rattle.kz_model.specs.Zone.State.{Shared, CpuPart, bound_of, bind}
use Rattle.kz_model.proofs.Names.{bound_of-bind}
use Rattle.kz_book.specs.Visits.{has_name}

-- the names are bound alike, but for the step's
pub record OnlyNames (step : Step) (old new : CpuPart) : Type 0 where
  pub others : (name : ℕ) → (has_name step ≡ true → name ≢ name_of step) → bound_of name new.names ≡ bound_of name old.names

none_bound : (step : Step) (own : CpuPart) → OnlyNames step own own
none_bound step own = record { others = λ name ne. refl }

bound_other : (name other : ℕ) (bound : Bound) (names : List (ℕ × Bound)) → other ≢ name → bound_of other (bind name bound names) ≡ bound_of other names
bound_other name other bound names ne =
    let differs : (other == name) ≡ false = grind arith in
    bound_of-bind other name bound names ∙ ap (λ b. if b then Some bound else bound_of other names) differs

pub only_local : (p : ZoneParams) (own : CpuPart) (step : Step) → OnlyNames step own (local_answer p own step).own
only_local p own step =
    elim (refused_here p (bound_at own step) step) as (λ (o : Option Reply). OnlyNames step own (option_map_or (λ reply. kept reply own) o (local_action own step)).own) [
      | Some r ↦ none_bound step own
      | None ↦ by_kind step
    ]
  where
    by_kind : (step : Step) → OnlyNames step own (local_action own step).own
    by_kind (Alloc name) = record { others = λ other ne. bound_other name other _ own.names (ne refl) }
    by_kind (AllocZero name) = none_bound (AllocZero name) own
    by_kind (Free name asked) = record { others = λ other ne. bound_other name other _ own.names (ne refl) }
    by_kind (Give name to) = none_bound (Give name to) own
    by_kind (Take name) = none_bound (Take name) own
    by_kind (Read name off len) = none_bound (Read name off len) own
    by_kind (Write name off bytes) = none_bound (Write name off bytes) own
    by_kind Flush = none_bound Flush own
    by_kind Trim = none_bound Trim own

pub only_effect : (p : ZoneParams) (s : Shared) (cpu : ℕ) (own : CpuPart) (step : Step) (answers : List Answer) → OnlyNames step own (effect_of p s cpu own step answers).own
only_effect p s cpu own step answers =
    elim (else_refused (refusal p s cpu own step) (denied_by answers)) as (λ (o : Option Reply). OnlyNames step own (option_map_or (λ reply. unchanged reply s own) o (action p s cpu own step)).own) [
      | Some r ↦ none_bound step own
      | None ↦ by_kind step
    ]
  where
    by_kind : (step : Step) → OnlyNames step own (action p s cpu own step).own
    by_kind (Alloc name) = record { others = λ other ne. bound_other name other _ own.names (ne refl) }
    by_kind (AllocZero name) = record { others = λ other ne. bound_other name other _ own.names (ne refl) }
    by_kind (Free name asked) = record { others = λ other ne. bound_other name other _ own.names (ne refl) }
    by_kind (Give name to) = record { others = λ other ne. bound_other name other _ own.names (ne refl) }
    by_kind (Take name) = record { others = λ other ne. bound_other name other _ own.names (ne refl) }
    by_kind (Read name off len) = none_bound (Read name off len) own
    by_kind (Write name off bytes) = none_bound (Write name off bytes) own
    by_kind Flush = record { others = λ other ne. refl }
    by_kind Trim = none_bound Trim own
