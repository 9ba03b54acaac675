-- Faults of names, line by line.
use Rattle.std.proofs.Common.{◌≡◌, ℕ, ◌<◌, ◌==◌, not, Bool, false, List, length, Option, Some, None, ap, sym, ◌∙◌, arith, subst}
use Rattle.std.specs.Prelude.{slice_index_or}
use Rattle.std.specs.Option.{option_map_or}
use Rattle.std.specs.Str.{bytes_eq}
use Rattle.kz_model.specs.declared.grammar.Cause.TheVariants as cause
use Rattle.kz_model.specs.declared.grammar.Counted.TheVariants as counted
use Rattle.kz_model.specs.declared.grammar.Refusal.{Refusal}
use Rattle.kz_model.specs.Grammar.Steps.{NamedStep}
use Rattle.kz_model.specs.Grammar.Spelling.{text_at}
use Rattle.kz_model.specs.Grammar.Stages.{Row, has, row_of, fault_if, else_fault, type_in, bound_fault}
use Rattle.kz_bundle.specs.declared.stages.entry.Entry.{Entry}
use Rattle.kz_bundle.specs.Parts.{AreOnce}
use Rattle.kz_bundle.specs.Naming.{AreDeclared, MatchesDeclared, type_fault}
use Rattle.kz_bundle.proofs.EntryRows.{others_differ}

pub unknown_type : (types words : List (List ℕ)) (declared : List (Option ℕ)) (word line : ℕ) (said : NamedStep) → AreDeclared types words declared → word < length declared →
    slice_index_or declared word None ≡ None → Some (text_at words word) ≡ type_in said → type_fault types line said ≡ Some (record { line = line; cause = cause.UnknownType })
unknown_type types words declared word line said h there none is =
    let not_there : has (text_at words word) types ≡ false = subst (MatchesDeclared types (text_at words word)) none (h.each word (omega (arith, there, h.lengths))) in
    ap (λ (o : Option (List ℕ)). option_map_or (λ of. fault_if (not (has of types)) line cause.UnknownType) o None) (sym is)
    ∙ ap (λ (b : Bool). fault_if (not b) line cause.UnknownType) not_there

pub two_types : (names words : List (List ℕ)) (rows : List Row) (entry before : Entry) (line : ℕ) → AreOnce words → entry.of < length words → before.of < length words →
    row_of (text_at names entry.name) rows ≡ Some (record { name = text_at names entry.name; of = text_at words before.of; cpu = before.cpu }) → (before.of ≡ entry.of → ⊥) →
    bound_fault rows line entry.cpu (Some (text_at names entry.name, text_at words entry.of)) ≡ Some (record { line = line; cause = cause.NameOfTwoTypes })
two_types names words rows entry before line once there also is other =
    let differ : bytes_eq (text_at words before.of) (text_at words entry.of) ≡ false = others_differ words before.of entry.of once also there other in
    let F : Option Row → Option Refusal = λ o. option_map_or (λ row. else_fault (fault_if (not (bytes_eq row.of (text_at words entry.of))) line cause.NameOfTwoTypes) (fault_if (not (row.cpu == entry.cpu)) line cause.NameOfTwoCpus)) o
    (fault_if (length rows == 100000) line (cause.TooMany counted.Names)) in
    ap F is ∙ ap (λ (b : Bool). else_fault (fault_if (not b) line cause.NameOfTwoTypes) (fault_if (not (before.cpu == entry.cpu)) line cause.NameOfTwoCpus)) differ
