-- What holds of the places of fields, in each layout that declarations have.
use Rattle.std.specs.Prelude.{◌≡◌, ℕ, ◌+◌, ◌%◌, ◌≤◌, ◌<◌, IsTrue, List, length, Some, Ok, slice_get, All}
use Rattle.kz_model.specs.declared.bundle.Kind.{Kind, Union', Row_of-Field, end_of-Field, more_of-Field}
use Rattle.kz_model.specs.declared.bundle.Field.{Field}
use Rattle.kz_model.specs.declared.bundle.TypeDecl.{TypeDecl}
use Rattle.kz_model.specs.declared.record.Layout.{Layout}
use Rattle.kz_model.specs.Types.Layouts.{Text, layouts_of, names_of}
use Rattle.kz_layout.specs.Granules.{is_align}
use Rattle.kz_layout.specs.FieldPlaces.{Extent, FieldPlace, item_at, end_of, extent_over, layout_extent, union_places, struct_places}

-- The alignment is 1, 2, 4 or 8, and the size is a multiple of it, of at most 8192 bytes.
pub record IsFitExtent (whole : Extent) : Type 0 where
  pub aligned : IsTrue (is_align whole.align)
  pub multiple : whole.size % whole.align ≡ 0
  pub small : whole.size ≤ 8192

-- A field within some braces: each of its items, the first one too, is at a multiple of its alignment, and the last one
-- ends within the braces. Where the braces stand at a multiple of their own alignment, as in other braces, each item
-- still is at a multiple of its alignment.
pub record IsPlacedIn (whole : Extent) (f : FieldPlace) : Type 0 where
  pub aligned : (k : ℕ) → item_at f k % f.item.align ≡ 0
  pub inside : end_of f ≤ whole.size
  pub nested : (start k : ℕ) → start % whole.align ≡ 0 → (start + item_at f k) % f.item.align ≡ 0

-- each field ends before any later one begins, so no byte is in two of them
abbrev pub AreApart : List FieldPlace → Type 0
AreApart fields =
    (i j : ℕ) (f g : FieldPlace) → i < j → slice_get fields i ≡ Some f → slice_get fields j ≡ Some g →
    end_of f ≤ g.offset

-- the fields of some braces
pub record ArePlaced (fields : List FieldPlace) : Type 0 where
  pub fit : IsFitExtent (extent_over fields)
  pub each : All (IsPlacedIn (extent_over fields)) fields

abbrev mutual
  -- the fields of each union in a kind, unions in unions too
  pub AreUnionsPlaced : List Text → List Layout → Kind → Type 0
  AreUnionsPlaced names layouts (Union' shape row) =
      ArePlaced (union_places names layouts row) × AreRowUnionsPlaced names layouts row
  AreUnionsPlaced names layouts other = Unit {0}

  pub AreRowUnionsPlaced : {m : _} → List Text → List Layout → Row_of-Field m → Type 0
  AreRowUnionsPlaced names layouts end_of-Field = Unit {0}
  AreRowUnionsPlaced names layouts (more_of-Field kind name count rest) =
      AreUnionsPlaced names layouts kind × AreRowUnionsPlaced names layouts rest

-- the layout is that of the fields at their places
pub record IsLayoutOf (names : List Text) (layouts : List Layout) (fields : List Field) (layout : Layout) : Type 0 where
  pub whole : layout_extent layout ≡ extent_over (struct_places names layouts fields)
  pub placed : ArePlaced (struct_places names layouts fields)
  pub apart : AreApart (struct_places names layouts fields)
  pub unions : All (λ f. AreUnionsPlaced names layouts f.kind) fields

-- Each declaration has a layout at its own place, and its fields are in it.
abbrev pub FieldsArePlaced : Type 0
FieldsArePlaced =
    (types : List TypeDecl) (layouts : List Layout) → layouts_of types ≡ Ok layouts →
    (length layouts ≡ length types)
    × ((at : ℕ) (decl : TypeDecl) → slice_get types at ≡ Some decl →
    (layout : Layout) × (slice_get layouts at ≡ Some layout) × IsLayoutOf (names_of types) layouts decl.fields layout)
