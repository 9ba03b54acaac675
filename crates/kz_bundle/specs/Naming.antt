-- The stage of names, line by line.
use Rattle.std.specs.Prelude.{◌≡◌, ℕ, ◌<◌, ◌==◌, true, false, not, List, length, Option, None, Some, slice_index_or}
use Rattle.std.specs.Option.{option_map_or}
use Rattle.kz_model.specs.declared.grammar.Cause.{Cause}
use Rattle.kz_model.specs.declared.grammar.Cause.TheVariants as cause
use Rattle.kz_model.specs.declared.grammar.Refusal.{Refusal}
use Rattle.kz_model.specs.Grammar.Steps.{NamedStep}
use Rattle.kz_model.specs.Grammar.Spelling.{text_at}
use Rattle.kz_model.specs.Grammar.Stages.{Row, has, place_of, row_of, is_there, fault_if, type_in, name_in, gives_to}

-- a cause, at this line
abbrev pub at_line : ℕ → Option Cause → Option Refusal
at_line line None = None
at_line line (Some cause) = Some (record { line = line; cause = cause })

-- for each text of a table its place among declared names, where it is there
abbrev pub MatchesDeclared : List (List ℕ) → List ℕ → Option ℕ → Type 0
MatchesDeclared types word None = has word types ≡ false
MatchesDeclared types word (Some place) = (has word types ≡ true) × (place ≡ place_of word types)

pub record AreDeclared (types words : List (List ℕ)) (places : List (Option ℕ)) : Type 0 where
  pub lengths : length places ≡ length words
  pub each : (word : ℕ) → word < length words →
      MatchesDeclared types (text_at words word) (slice_index_or places word None)

-- ---- the four tests of a line

abbrev pub type_fault : List (List ℕ) → ℕ → NamedStep → Option Refusal
type_fault types line said = option_map_or (λ of. fault_if (not (has of types)) line cause.UnknownType)
    (type_in said) None

abbrev pub unknown_fault : List Row → ℕ → NamedStep → Option Refusal
unknown_fault all line said =
    option_map_or (λ name. fault_if (not (is_there (row_of name all))) line cause.UnknownName) (name_in said) None

abbrev pub self_fault : ℕ → ℕ → NamedStep → Option Refusal
self_fault cpu line said = option_map_or (λ to. fault_if (to == cpu) line cause.GiveToSelf) (gives_to said) None
