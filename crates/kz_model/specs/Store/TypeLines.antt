-- Declarations of types that are kept as their lines.
use Rattle.std.specs.Prelude.{◌≡◌, ℕ, List, [], Some}
use Rattle.std.specs.Option.{option_map_or}
use Rattle.kz_model.specs.declared.bundle.TypeDecl.{TypeDecl}
use Rattle.kz_model.specs.declared.grammar.Mark.TheVariants.{Fine}
use Rattle.kz_model.specs.Grammar.Tokens.{tokens_of}
use Rattle.kz_model.specs.Grammar.TypeLine.{type_line}

abbrev pub no_decl : TypeDecl
no_decl = record { name = []; fields = [] }

-- the declaration of a type line
abbrev pub decl_of : List ℕ → TypeDecl
decl_of line = option_map_or (λ found. found.0) (type_line (tokens_of line)) no_decl

-- the line declares this type, and its numbers are in their ranges
abbrev pub IsTypeLine : List ℕ → TypeDecl → Type 0
IsTypeLine line decl = type_line (tokens_of line) ≡ Some (decl, Fine)

-- the line declares a type of this name
pub record IsNamedLine (line name : List ℕ) : Type 0 where
  pub is : IsTypeLine line (decl_of line)
  pub named : name ≡ (decl_of line).name
