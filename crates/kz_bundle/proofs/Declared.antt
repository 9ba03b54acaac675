-- Declarations of types that a text spells are in range, and what their lines declare is sound.
use Rattle.std.proofs.Common.{ℕ, zero, suc, ◌≤◌, List, length, All}
use Rattle.std.proofs.lemmas.List.Elements.{All-weaker}
use Rattle.kz_model.specs.declared.bundle.Kind.{Kind, Union', Row_of-Field, end_of-Field, more_of-Field}
use Rattle.kz_model.specs.declared.bundle.Kind.TheVariants.{Ptr, Auth, U8, U16, U32, U64, Bytes, Struct}
use Rattle.kz_model.specs.declared.bundle.Field.{Field}
use Rattle.kz_model.specs.declared.bundle.TypeDecl.{TypeDecl}
use Rattle.kz_model.specs.Store.TypeLines.{IsTypeLine}
use Rattle.kz_model.specs.Types.Layouts.{IsSoundKind, AreSound, IsSoundField, AreInRange}
use Rattle.kz_model.specs.Grammar.Spelling.{IsKind, AreFields, IsField, IsDeclared}
use Rattle.kz_bundle.proofs.TypeTexts.{type_says}

-- what a type line declares has names that are names, and numbers in their ranges
pub type_line-IsDeclared : (line : List ℕ) (decl : TypeDecl) → IsTypeLine line decl → IsDeclared decl
type_line-IsDeclared line decl is = (type_says line decl is).1

mutual
  sound_kind : (deep : ℕ) (kind : Kind) → IsKind deep kind → IsSoundKind deep kind
  sound_kind deep Ptr is = tt
  sound_kind deep Auth is = tt
  sound_kind deep U8 is = tt
  sound_kind deep U16 is = tt
  sound_kind deep U32 is = tt
  sound_kind deep U64 is = tt
  sound_kind deep (Bytes size) is = is
  sound_kind deep (Struct of) is = tt
  sound_kind zero (Union' shape row) is = is
  sound_kind (suc deep) (Union' shape row) is = sound_row deep row is

  sound_row : {m : _} (deep : ℕ) (row : Row_of-Field m) → AreFields deep row → AreSound deep row
  sound_row deep end_of-Field are = tt
  sound_row deep (more_of-Field kind name count rest) are = (sound_kind deep kind are.0.0, are.0.2, sound_row deep rest are.1)

sound_field : (deep : ℕ) (f : Field) → IsField deep f → IsSoundField deep f
sound_field deep f is = record { kind = sound_kind deep f.kind is.0; count = is.2 }

-- and its fields are sound
pub line_sound : (line : List ℕ) (decl : TypeDecl) → IsTypeLine line decl → All (IsSoundField 8) decl.fields
line_sound line decl is = All-weaker (IsField 8) (IsSoundField 8) (sound_field 8) decl.fields (type_line-IsDeclared line decl is).1

-- so few declarations are in the range of the layouts
pub declared-AreInRange : (types : List TypeDecl) → length types ≤ 1024 → All IsDeclared types → AreInRange types
declared-AreInRange types few are =
    record {
      few = few;
      sound = All-weaker IsDeclared (λ decl. All (IsSoundField 8) decl.fields) (λ decl is. All-weaker (IsField 8) (IsSoundField 8) (sound_field 8) decl.fields is.1) types are;
    }
