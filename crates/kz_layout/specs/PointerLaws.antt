-- Which fields hold a pointer, and that a type of data alone has none. A pointer is plain or authenticated.
use Rattle.std.specs.Prelude.{◌≡◌, ℕ, ◌≤◌, ◌||◌, Bool, true, false, not, List, Option, Some, None, Ok, slice_get}
use Rattle.std.specs.List.{list_any}
use Rattle.kz_model.specs.declared.bundle.Kind.{Kind, Union', Row_of-Field, end_of-Field, more_of-Field}
use Rattle.kz_model.specs.declared.bundle.Kind.TheVariants.{Ptr, Auth, U8, U16, U32, U64, Bytes, Struct}
use Rattle.kz_model.specs.declared.bundle.Field.{Field}
use Rattle.kz_model.specs.declared.bundle.TypeDecl.{TypeDecl}
use Rattle.kz_model.specs.declared.record.Layout.{Layout}
use Rattle.kz_model.specs.Types.Cover.{is_data_only}
use Rattle.kz_model.specs.Types.Layouts.{Text, place_of, layouts_of, names_of, AreInRange}

abbrev pub layout_holds_pointer : Option Layout → Bool
layout_holds_pointer (Some layout) = not (is_data_only layout)
layout_holds_pointer None = false

-- whether the type that is declared at this place has a letter of a pointer
abbrev pub declared_holds_pointer : List Layout → Option ℕ → Bool
declared_holds_pointer layouts (Some place) = layout_holds_pointer (slice_get layouts place)
declared_holds_pointer layouts None = false

abbrev mutual
  -- whether a kind is a pointer or holds one, where types of these names have these layouts
  pub holds_pointer : List Text → List Layout → Kind → Bool
  holds_pointer names layouts Ptr = true
  holds_pointer names layouts Auth = true
  holds_pointer names layouts U8 = false
  holds_pointer names layouts U16 = false
  holds_pointer names layouts U32 = false
  holds_pointer names layouts U64 = false
  holds_pointer names layouts (Bytes n) = false
  holds_pointer names layouts (Struct name) = declared_holds_pointer layouts (place_of name names)
  holds_pointer names layouts (Union' shape row) = row_holds_pointer names layouts row

  pub row_holds_pointer : {m : _} → List Text → List Layout → Row_of-Field m → Bool
  row_holds_pointer names layouts end_of-Field = false
  row_holds_pointer names layouts (more_of-Field kind name count rest) =
      holds_pointer names layouts kind || row_holds_pointer names layouts rest

abbrev pub fields_hold_pointer : List Text → List Layout → List Field → Bool
fields_hold_pointer names layouts fields = list_any (λ f. holds_pointer names layouts f.kind) fields

-- A layout has a byte, and its letters are of data alone exactly where none of its fields holds a pointer.
pub record IsToldBy (names : List Text) (layouts : List Layout) (fields : List Field) (layout : Layout) : Type 0 where
  pub some : 1 ≤ layout.size
  pub only : is_data_only layout ≡ not (fields_hold_pointer names layouts fields)

abbrev pub DataHoldsNoPointer : Type 0
DataHoldsNoPointer =
    (types : List TypeDecl) (layouts : List Layout) → AreInRange types → layouts_of types ≡ Ok layouts →
    (at : ℕ) (decl : TypeDecl) → slice_get types at ≡ Some decl →
    (layout : Layout) × (slice_get layouts at ≡ Some layout) × IsToldBy (names_of types) layouts decl.fields layout
