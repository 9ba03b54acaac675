-- What holds of the types, the names, the rounds and the order of what is spelled, and what a fault there says.
use Rattle.std.specs.Prelude.{◌≡◌, ◌↔◌, ◌⊎◌, ℕ, List, Some, None, Ok, Err}
use Rattle.std.specs.Option.{IfSome}
use Rattle.kz_model.specs.declared.bundle.Bundle.{Bundle}
use Rattle.kz_model.specs.declared.bundle.OrderLine.{OrderLine}
use Rattle.kz_model.specs.declared.grammar.Cause.{Cause}
use Rattle.kz_model.specs.declared.grammar.Cause.TheVariants as cause
use Rattle.kz_model.specs.declared.grammar.Refusal.{Refusal}
use Rattle.kz_model.specs.Grammar.Form.{Draft, form_of}
use Rattle.kz_model.specs.Grammar.Stages.{type_names, step_lines, sections_of, types_fault, names_fault, rounds_fault, later_fault}
use Rattle.kz_model.specs.Grammar.Spelling.{Spells, IsFirstFault}
use Rattle.kz_grammar.specs.Declarations.{HasSoundTypes, BreaksTypesAt}
use Rattle.kz_grammar.specs.Names.{AreNamed, IsNameFault}
use Rattle.kz_grammar.specs.Rounds.{HaveEquallyManyBreaks, IsRoundsFault, IsWholeOrder, IsOrderFault}

-- all sentences of names
abbrev pub HasSoundNames : Draft → Type 0
HasSoundNames d = AreNamed (type_names d) (step_lines d) (step_lines d)

-- all sections have equally many rounds, and an order names each CPU as often as it has steps
pub record HasSoundRounds (d : Draft) : Type 0 where
  pub rounds : HaveEquallyManyBreaks (sections_of d)
  pub order : IfSome d.order (IsWholeOrder (sections_of d) d.section.breaks)

-- the sentence of names that is broken at this line
abbrev pub BreaksNamesAt : Draft → ℕ → Cause → Type 0
BreaksNamesAt d line cause = IsNameFault (type_names d) (step_lines d) line cause

-- what is broken at this line of rounds, or of the order where all sections have equally many
abbrev pub BreaksRoundsAt : Draft → ℕ → Cause → Type 0
BreaksRoundsAt d line cause.RoundsDiffer = IsRoundsFault (sections_of d) line
BreaksRoundsAt d line cause.BadOrder = HaveEquallyManyBreaks (sections_of d) ×
    ((turns : List OrderLine) × (d.order ≡ Some turns)
    × IsOrderFault (sections_of d) d.section.breaks turns d.order_at line)
BreaksRoundsAt d line other = ⊥

-- What a fault of the later stages says: of types; of names, where no type has a fault; or of rounds and the order,
-- where neither has one.
abbrev pub IsLaterFault : Draft → ℕ → Cause → Type 0
IsLaterFault d line cause =
    BreaksTypesAt d line cause
    ⊎ ((HasSoundTypes d × BreaksNamesAt d line cause)
    ⊎ (HasSoundTypes d × HasSoundNames d × BreaksRoundsAt d line cause))

-- ---- laws

-- what is spelled breaks no sentence
abbrev pub SpelledIsSound : Type 0
SpelledIsSound = (bytes : List ℕ) (b : Bundle) (spells : Spells bytes b) →
    HasSoundTypes spells.said × HasSoundNames spells.said × HasSoundRounds spells.said

-- Each stage has no fault only where no sentence of it is broken, and a fault only at the first line that breaks one.
pub record TypeFaultsAreTrue (d : Draft) : Type 0 where
  pub none : types_fault d ≡ None → HasSoundTypes d
  pub some : (refusal : Refusal) → types_fault d ≡ Some refusal → BreaksTypesAt d refusal.line refusal.cause

pub record NameFaultsAreTrue (d : Draft) : Type 0 where
  pub none : names_fault d ≡ None → HasSoundNames d
  pub some : (refusal : Refusal) → names_fault d ≡ Some refusal → BreaksNamesAt d refusal.line refusal.cause

pub record RoundFaultsAreTrue (d : Draft) : Type 0 where
  pub none : rounds_fault d ≡ None → HasSoundRounds d
  pub some : (refusal : Refusal) → rounds_fault d ≡ Some refusal → BreaksRoundsAt d refusal.line refusal.cause

-- the stages after the form have no fault exactly where no sentence is broken
abbrev pub SoundHasNoFault : Type 0
SoundHasNoFault =
    (d : Draft) → (later_fault d ≡ None) ↔ (HasSoundTypes d × HasSoundNames d × HasSoundRounds d)

-- The first fault of a text is one of its form, or what it says breaks a sentence at that line.
abbrev pub FirstFaultsAreTrue : Type 0
FirstFaultsAreTrue = (bytes : List ℕ) (refusal : Refusal) → IsFirstFault bytes refusal →
    (form_of bytes ≡ Err refusal)
    ⊎ ((d : Draft) × (form_of bytes ≡ Ok d) × IsLaterFault d refusal.line refusal.cause)
