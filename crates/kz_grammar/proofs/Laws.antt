-- The later stages by their outcomes, and all of them.
use Rattle.std.proofs.Common.{◌≡◌, ◌⊎◌, inl, inr, ℕ, ◌+◌, List, [], length, Option, Some, None, Result, Ok, Err, slice_index, refl, ap, sym, ◌∙◌, subst, arith}
use Rattle.std.specs.Option.{IfSome}
use Rattle.kz_model.specs.declared.bundle.Bundle.{Bundle}
use Rattle.kz_model.specs.declared.bundle.OrderLine.{OrderLine}
use Rattle.kz_model.specs.declared.grammar.Cause.TheVariants as cause
use Rattle.kz_model.specs.declared.grammar.Refusal.{Refusal}
use Rattle.kz_model.specs.Grammar.Form.{Draft, form_of}
use Rattle.kz_model.specs.Grammar.Stages.{else_fault, fault_if, fault_of_layouts, type_names, step_lines, sections_of, types_fault, names_fault, left_in, rounds_of, order_fault, rounds_fault, later_fault, bundle_of, unless, after_form}
use Rattle.std.proofs.lemmas.Bool.{le-ltb}
use Rattle.kz_model.specs.Types.Plan.{classes_in_use}
use Rattle.kz_grammar.specs.Rounds.{HaveEquallyManyBreaks, IsRoundsFault, IsWholeOrder, IsOrderFault}
use Rattle.kz_grammar.specs.Declarations.{HasSoundTypes}
use Rattle.kz_grammar.specs.NameLaws.{HasSoundNames, HasSoundRounds, BreaksRoundsAt, IsLaterFault, SpelledIsSound, TypeFaultsAreTrue, NameFaultsAreTrue, RoundFaultsAreTrue, SoundHasNoFault, FirstFaultsAreTrue}
use Rattle.kz_grammar.proofs.NameScan.{Outcome, none_yet, scan}
use Rattle.kz_grammar.proofs.RoundScan.{RoundsOutcome, rounds_outcome}
use Rattle.kz_grammar.proofs.TypeScan.{StageSays, stage_says}
use Rattle.kz_grammar.proofs.SoundNames.{no_fault}
use Rattle.kz_grammar.proofs.Turned.{equally_many, whole_order}
use Rattle.kz_grammar.proofs.OrderScan.{IsLeft, left_is, OrderOutcome, scan as order_scan}

names_outcome : (d : Draft) → Outcome (type_names d) (step_lines d) (names_fault d)
names_outcome d = scan (type_names d) (step_lines d) [] [] (step_lines d) refl (none_yet (type_names d) (step_lines d))

pub name_faults_are_true : (d : Draft) → NameFaultsAreTrue d
name_faults_are_true d = record {
  none = λ e. subst (Outcome (type_names d) (step_lines d)) e (names_outcome d);
  some = λ refusal e. subst (Outcome (type_names d) (step_lines d)) e (names_outcome d);
}

-- ---- rounds

-- nothing of the order is said yet
none_said : (d : Draft) → IsLeft (sections_of d) d.section.breaks 0 (left_in 0 (sections_of d)) []
none_said d = record { newest = refl; within = omega arith; over = λ cpu r lt. absurd (omega (arith, lt)); some = λ cpu. none_first (left_in 0 (sections_of d)) cpu ∙ left_is 0 (sections_of d) cpu }
  where
    none_first : (left : List ℕ) (cpu : ℕ) → 0 + slice_index left cpu ≡ slice_index left cpu
    none_first left cpu = omega arith

abbrev OrderSays : Draft → Option (List OrderLine) → Option Refusal → Type 0
OrderSays d order None = IfSome order (IsWholeOrder (sections_of d) d.section.breaks)
OrderSays d order (Some refusal) = (refusal.cause ≡ cause.BadOrder) × ((turns : List OrderLine) × (order ≡ Some turns) × IsOrderFault (sections_of d) d.section.breaks turns d.order_at refusal.line)

order_says : (d : Draft) (order : Option (List OrderLine)) → OrderSays d order (order_fault d order)
order_says d None = tt
order_says d (Some turns) =
    by_outcome (order_fault d (Some turns)) (order_scan (sections_of d) d.section.breaks turns d.order_at 0 (left_in 0 (sections_of d)) [] turns (d.order_at + 1) refl (omega arith) (none_said d))
  where
    by_outcome : (o : Option Refusal) → OrderOutcome (sections_of d) d.section.breaks turns d.order_at o → OrderSays d (Some turns) o
    by_outcome None whole = whole
    by_outcome (Some refusal) fault = (fault.0, (turns, refl, fault.1))

abbrev RoundsSay : Draft → Option Refusal → Type 0
RoundsSay d None = HasSoundRounds d
RoundsSay d (Some refusal) = BreaksRoundsAt d refusal.line refusal.cause

rounds_say : (d : Draft) → RoundsSay d (rounds_fault d)
rounds_say d = by_rounds (rounds_of (sections_of d)) (rounds_outcome (sections_of d)) (order_fault d d.order) (order_says d d.order)
  where
    differ : (refusal : Refusal) → refusal.cause ≡ cause.RoundsDiffer → IsRoundsFault (sections_of d) refusal.line → BreaksRoundsAt d refusal.line refusal.cause
    differ refusal is fault = subst (BreaksRoundsAt d refusal.line) (sym is) fault

    by_order : HaveEquallyManyBreaks (sections_of d) → (b : Option Refusal) → OrderSays d d.order b → RoundsSay d b
    by_order same None whole = record { rounds = same; order = whole }
    by_order same (Some refusal) fault = subst (BreaksRoundsAt d refusal.line) (sym fault.0) (same, fault.1)

    by_rounds : (a : Option Refusal) → RoundsOutcome (sections_of d) a → (b : Option Refusal) → OrderSays d d.order b → RoundsSay d (else_fault a b)
    by_rounds None same b says = by_order same b says
    by_rounds (Some refusal) fault b says = differ refusal fault.0 fault.1

pub round_faults_are_true : (d : Draft) → RoundFaultsAreTrue d
round_faults_are_true d = record { none = λ e. subst (RoundsSay d) e (rounds_say d); some = λ refusal e. subst (RoundsSay d) e (rounds_say d) }

pub type_faults_are_true : (d : Draft) → TypeFaultsAreTrue d
type_faults_are_true d = record { none = λ e. subst (StageSays d) e (stage_says d); some = λ refusal e. subst (StageSays d) e (stage_says d) }

-- ---- all stages

abbrev LaterSays : Draft → Option Refusal → Type 0
LaterSays d None = HasSoundTypes d × HasSoundNames d × HasSoundRounds d
LaterSays d (Some refusal) = IsLaterFault d refusal.line refusal.cause

later_says : (d : Draft) → LaterSays d (later_fault d)
later_says d = by_types (types_fault d) (stage_says d)
  where
    by_rounds : (o : Option Refusal) → RoundsSay d o → HasSoundTypes d → HasSoundNames d → LaterSays d o
    by_rounds None rounds types names = (types, names, rounds)
    by_rounds (Some refusal) fault types names = inr (inr (types, names, fault))

    by_names : (o : Option Refusal) → Outcome (type_names d) (step_lines d) o → HasSoundTypes d → LaterSays d (else_fault o (rounds_fault d))
    by_names None names types = by_rounds (rounds_fault d) (rounds_say d) types names
    by_names (Some refusal) fault types = inr (inl (types, fault))

    by_types : (o : Option Refusal) → StageSays d o → LaterSays d (else_fault o (else_fault (names_fault d) (rounds_fault d)))
    by_types None types = by_names (names_fault d) (names_outcome d) types
    by_types (Some refusal) fault = inl fault

pub spelled_is_sound : SpelledIsSound
spelled_is_sound bytes b spells = subst (LaterSays spells.said) spells.faultless (later_says spells.said)

abbrev refused_bundle : Refusal → Result Bundle Refusal
refused_bundle refusal = Err refusal

pub first_faults_are_true : FirstFaultsAreTrue
first_faults_are_true bytes refusal e = by_form (form_of bytes) refl e
  where
    not_ok : (b : Bundle) → Ok b ≡ Err refusal → ⊥
    not_ok b e = cc

    same : (other : Refusal) → refused_bundle other ≡ Err refusal → other ≡ refusal
    same other e = cc

    by_fault : (d : Draft) → form_of bytes ≡ Ok d → (o : Option Refusal) → LaterSays d o → unless d o ≡ Err refusal → (form_of bytes ≡ Err refusal) ⊎ ((d : Draft) × (form_of bytes ≡ Ok d) × IsLaterFault d refusal.line refusal.cause)
    by_fault d form None sound e = absurd (not_ok (bundle_of d) e)
    by_fault d form (Some other) fault e = inr (d, form, subst (λ (r : Refusal). IsLaterFault d r.line r.cause) (same other e) fault)

    by_form : (o : Result Draft Refusal) → form_of bytes ≡ o → after_form o ≡ Err refusal → (form_of bytes ≡ Err refusal) ⊎ ((d : Draft) × (form_of bytes ≡ Ok d) × IsLaterFault d refusal.line refusal.cause)
    by_form (Err other) form e = inl (form ∙ ap (λ (r : Refusal). Err r) (same other e))
    by_form (Ok d) form e = by_fault d form (later_fault d) (later_says d) e

-- ---- what is sound has no fault

sound_types : (d : Draft) → HasSoundTypes d → types_fault d ≡ None
sound_types d sound =
    ap (fault_of_layouts d.header.budget) sound.laid_out
    ∙ ap (λ b. fault_if b 6 (cause.BudgetShort (length (classes_in_use sound.layouts)))) (le-ltb d.header.budget (length (classes_in_use sound.layouts)) sound.enough)

sound_names : (d : Draft) → HasSoundNames d → names_fault d ≡ None
sound_names d sound = by_outcome (names_fault d) (names_outcome d)
  where
    by_outcome : (o : Option Refusal) → Outcome (type_names d) (step_lines d) o → o ≡ None
    by_outcome None names = refl
    by_outcome (Some refusal) fault = absurd (no_fault (type_names d) (step_lines d) refusal.line refusal.cause sound fault)

sound_order : (d : Draft) (order : Option (List OrderLine)) → IfSome order (IsWholeOrder (sections_of d) d.section.breaks) → order_fault d order ≡ None
sound_order d None whole = refl
sound_order d (Some turns) whole = by_outcome (order_fault d (Some turns)) (order_says d (Some turns))
  where
    same : (other : List OrderLine) → Some turns ≡ Some other → turns ≡ other
    same other e = cc

    by_outcome : (o : Option Refusal) → OrderSays d (Some turns) o → o ≡ None
    by_outcome None is = refl
    by_outcome (Some refusal) fault =
        absurd (whole_order (sections_of d) d.section.breaks fault.1.0 d.order_at refusal.line (subst (IsWholeOrder (sections_of d) d.section.breaks) (same fault.1.0 fault.1.1) whole) fault.1.2)

sound_rounds : (d : Draft) → HasSoundRounds d → rounds_fault d ≡ None
sound_rounds d sound = by_outcome (rounds_of (sections_of d)) (rounds_outcome (sections_of d))
  where
    by_outcome : (o : Option Refusal) → RoundsOutcome (sections_of d) o → else_fault o (order_fault d d.order) ≡ None
    by_outcome None same = sound_order d d.order sound.order
    by_outcome (Some refusal) fault = absurd (equally_many (sections_of d) refusal.line sound.rounds fault.1)

pub sound_has_no_fault : SoundHasNoFault
sound_has_no_fault d = (
  λ e. subst (LaterSays d) e (later_says d),
  λ sound. ap (λ (o : Option Refusal). else_fault o (else_fault (names_fault d) (rounds_fault d))) (sound_types d sound.0)
      ∙ ap (λ (o : Option Refusal). else_fault o (rounds_fault d)) (sound_names d sound.1) ∙ sound_rounds d sound.2,
)
