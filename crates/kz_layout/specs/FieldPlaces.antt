-- Where the fields of a declared type are: the place of each field of a struct in its order, and of each field of a
-- union, as one works them out by hand, with no cover of bytes.
use Rattle.std.specs.Prelude.{ℕ, ◌+◌, ◌*◌, max, List, [], ◌∷◌, Option, Some, None, slice_get}
use Rattle.kz_model.specs.declared.bundle.Kind.{Kind, Union', Row_of-Field, end_of-Field, more_of-Field}
use Rattle.kz_model.specs.declared.bundle.Kind.TheVariants.{Ptr, Auth, U8, U16, U32, U64, Bytes, Struct}
use Rattle.kz_model.specs.declared.bundle.Field.{Field}
use Rattle.kz_model.specs.declared.record.Layout.{Layout}
use Rattle.kz_model.specs.Types.Cover.{round_up}
use Rattle.kz_model.specs.Types.Layouts.{Text, place_of}

-- a size and an alignment
pub record Extent : Type 0 where
  pub size : ℕ
  pub align : ℕ

abbrev pub extent : ℕ → ℕ → Extent
extent size align = record { size = size; align = align }

-- a field: where it begins, how many items it has, and the extent of each
pub record FieldPlace : Type 0 where
  pub offset : ℕ
  pub count : ℕ
  pub item : Extent

abbrev pub field_place : ℕ → ℕ → Extent → FieldPlace
field_place offset count item = record { offset = offset; count = count; item = item }

-- where item k of a field begins
abbrev pub item_at : FieldPlace → ℕ → ℕ
item_at f k = f.offset + k * f.item.size

-- the byte behind a field's last item
abbrev pub end_of : FieldPlace → ℕ
end_of f = item_at f f.count

abbrev pub greatest_end : List FieldPlace → ℕ
greatest_end [] = 0
greatest_end (f ∷ fields) = max (end_of f) (greatest_end fields)

abbrev pub greatest_align : List FieldPlace → ℕ
greatest_align [] = 1
greatest_align (f ∷ fields) = max f.item.align (greatest_align fields)

-- The extent of some braces: the greatest alignment of their fields, and the least multiple of it that all of them end
-- within.
abbrev pub extent_over : List FieldPlace → Extent
extent_over fields = extent (round_up (greatest_end fields) (greatest_align fields)) (greatest_align fields)

abbrev pub layout_extent : Layout → Extent
layout_extent layout = extent layout.size layout.align

-- a type that isn't there takes no byte
abbrev pub found_extent : Option Layout → Extent
found_extent (Some layout) = layout_extent layout
found_extent None = extent 0 1

-- the extent of the type that is declared at this place
abbrev pub declared_extent : List Layout → Option ℕ → Extent
declared_extent layouts (Some place) = found_extent (slice_get layouts place)
declared_extent layouts None = extent 0 1

abbrev mutual
  -- The extent of a kind, where types of these names have these layouts. A union's is that over its fields.
  pub kind_extent : List Text → List Layout → Kind → Extent
  kind_extent names layouts Ptr = extent 8 8
  kind_extent names layouts Auth = extent 8 8
  kind_extent names layouts U8 = extent 1 1
  kind_extent names layouts U16 = extent 2 2
  kind_extent names layouts U32 = extent 4 4
  kind_extent names layouts U64 = extent 8 8
  kind_extent names layouts (Bytes n) = extent n 1
  kind_extent names layouts (Struct name) = declared_extent layouts (place_of name names)
  kind_extent names layouts (Union' shape row) = extent_over (union_places names layouts row)

  -- All fields of a union begin where the union does.
  pub union_places : {m : _} → List Text → List Layout → Row_of-Field m → List FieldPlace
  union_places names layouts end_of-Field = []
  union_places names layouts (more_of-Field kind name count rest) =
      field_place 0 count (kind_extent names layouts kind) ∷ union_places names layouts rest

-- a field behind others that end here, at the next multiple of its alignment
abbrev pub next_place : ℕ → ℕ → Extent → FieldPlace
next_place end count item = field_place (round_up end item.align) count item

-- the fields of a struct from this byte on, one after the other
abbrev pub places_from : List Text → List Layout → ℕ → List Field → List FieldPlace
places_from names layouts end [] = []
places_from names layouts end (f ∷ fields) =
    next_place end f.count (kind_extent names layouts f.kind)
    ∷ places_from names layouts (end_of (next_place end f.count (kind_extent names layouts f.kind))) fields

-- the fields of a struct
abbrev pub struct_places : List Text → List Layout → List Field → List FieldPlace
struct_places names layouts fields = places_from names layouts 0 fields
