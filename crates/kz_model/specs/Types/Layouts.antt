-- The layouts of declarations of types, or their first fault.
use Rattle.std.specs.Prelude.{ℕ, zero, suc, ◌+◌, ◌*◌, ◌≤◌, ◌==◌, Bool, true, false, nat_lt, if◌then◌else◌, List, [], ◌∷◌, ◌++◌, length, map, Option, Some, None, Result, Ok, Err, nat_eq, slice_get, All}
use Rattle.std.specs.List.{list_any, position_from}
use Rattle.std.specs.Cmp.Lexicographic.{pointwise}
use Rattle.kz_model.specs.declared.bundle.Kind.{Kind, Union', Row_of-Field, end_of-Field, more_of-Field}
use Rattle.kz_model.specs.declared.bundle.Kind.TheVariants.{Ptr, Auth, U8, U16, U32, U64, Bytes, Struct}
use Rattle.kz_model.specs.declared.bundle.Field.{Field}
use Rattle.kz_model.specs.declared.bundle.TypeDecl.{TypeDecl}
use Rattle.kz_model.specs.declared.record.Layout.{Layout}
use Rattle.kz_model.specs.declared.layout.LayoutCause.{LayoutCause}
use Rattle.kz_model.specs.declared.layout.LayoutCause.TheVariants.{SameName, UnknownType, ForwardUse, Empty, TooLarge}
use Rattle.kz_model.specs.declared.layout.LayoutFault.{LayoutFault}
use Rattle.kz_model.specs.Types.Cover.{Covered, plain, nothing_covered, placed, rounded, round_up, layout_of, pointer, «data», authenticated}

-- a name, as its bytes
abbrev pub Text : Type 0
Text = List ℕ

abbrev pub is : Text → Text → Bool
is name other = pointwise nat_eq name other

abbrev pub has : Text → List Text → Bool
has name names = list_any (is name) names

-- the names of all declarations, and the covers of those before the one that is looked at
pub record Types : Type 0 where
  pub names : List Text
  pub earlier : List Covered

-- the fields of some braces so far: their names, and what they cover
pub record Inside : Type 0 where
  pub names : List Text
  pub body : Covered

abbrev pub no_fields : Inside
no_fields = record { names = []; body = nothing_covered }

abbrev pub then_do : {A B E : Type 0} → Result A E → (A → Result B E) → Result B E
then_do (Ok a) f = f a
then_do (Err e) f = Err e

-- the place of the first declaration with this name
abbrev pub place_of : Text → List Text → Option ℕ
place_of name names = position_from (is name) 0 names

-- a type that is declared, here or later
abbrev pub earlier_one : Option Covered → Result Covered LayoutCause
earlier_one (Some m) = Ok m
earlier_one None = Err ForwardUse

abbrev pub declared_one : List Covered → Option ℕ → Result Covered LayoutCause
declared_one earlier None = Err UnknownType
declared_one earlier (Some place) = earlier_one (slice_get earlier place)

-- Braces hold a field. Their size is rounded up to their alignment.
abbrev pub whole : Inside → Result Covered LayoutCause
whole inside = if length inside.names == 0 then Err Empty else Ok (rounded inside.body)

-- what a kind covers by itself; `inner` are a union's fields
abbrev pub own_cover : Types → Inside → Kind → Result Covered LayoutCause
own_cover types inner Ptr = Ok (plain 8 8 pointer)
own_cover types inner Auth = Ok (plain 8 8 authenticated)
own_cover types inner U8 = Ok (plain 1 1 «data»)
own_cover types inner U16 = Ok (plain 2 2 «data»)
own_cover types inner U32 = Ok (plain 4 4 «data»)
own_cover types inner U64 = Ok (plain 8 8 «data»)
own_cover types inner (Bytes n) = Ok (plain n 1 «data»)
own_cover types inner (Struct name) = declared_one types.earlier (place_of name types.names)
own_cover types inner (Union' shape row) = whole inner

-- In a union each field stands at 0, else at the next multiple of its alignment.
abbrev pub offset_of : Bool → Covered → Covered → ℕ
offset_of true body m = 0
offset_of false body m = round_up body.size m.align

abbrev pub placed_at : ℕ → Covered → ℕ → Covered → Result Covered LayoutCause
placed_at offset body count m =
    if nat_lt 8192 (offset + count * m.size) then Err (TooLarge (offset + count * m.size))
    else Ok (placed offset body count m)

-- what the fields cover with one more, unless it ends above 8192
abbrev pub with_cover : Bool → Covered → ℕ → Covered → Result Covered LayoutCause
with_cover in_union body count m = placed_at (offset_of in_union body m) body count m

abbrev pub named : List Text → Text → Covered → Result Inside LayoutCause
named names name body = Ok (record { names = names ++ name ∷ []; body = body })

-- one more field, the fields of its union being known
abbrev pub one_field : Types → Bool → Inside → Kind → Text → ℕ → Inside → Result Inside LayoutCause
one_field types in_union so_far kind name count inner =
    if has name so_far.names then Err SameName
    else then_do (then_do (own_cover types inner kind) (with_cover in_union so_far.body count))
    (named so_far.names name)

abbrev mutual
  -- a union's fields are tested before the union itself
  pub inner_of : Types → Kind → Result Inside LayoutCause
  inner_of types (Union' shape row) = row_of types no_fields row
  inner_of types other = Ok no_fields

  pub row_of : {m : _} → Types → Inside → Row_of-Field m → Result Inside LayoutCause
  row_of types so_far end_of-Field = Ok so_far
  row_of types so_far (more_of-Field kind name count rest) =
      then_do (then_do (inner_of types kind) (one_field types true so_far kind name count))
      (λ more. row_of types more rest)

-- the fields after some others
abbrev pub fields_from : Types → Bool → Inside → List Field → Result Inside LayoutCause
fields_from types in_union so_far [] = Ok so_far
fields_from types in_union so_far (f ∷ fields) =
    then_do (then_do (inner_of types f.kind) (one_field types in_union so_far f.kind f.name f.count))
    (λ more. fields_from types in_union more fields)

-- the first declaration of a name at this place is an earlier one
abbrev pub is_earlier : ℕ → Option ℕ → Bool
is_earlier at None = false
is_earlier at (Some place) = nat_lt place at

-- the type at the place after the earlier ones
abbrev pub type_cover : Types → TypeDecl → Result Covered LayoutCause
type_cover types decl =
    if is_earlier (length types.earlier) (place_of decl.name types.names) then Err SameName
    else then_do (fields_from types false no_fields decl.fields) whole

abbrev pub found_at : {A : Type 0} → ℕ → Result A LayoutCause → Result A LayoutFault
found_at at (Ok a) = Ok a
found_at at (Err cause) = Err (record { at = at; cause = cause })

abbrev pub with_earlier : Types → Covered → Types
with_earlier types m = record types { earlier = types.earlier ++ m ∷ [] }

-- what the declarations from this one on cover, with the earlier ones, or the first fault with its place
abbrev pub types_from : Types → List TypeDecl → Result (List Covered) LayoutFault
types_from types [] = Ok types.earlier
types_from types (decl ∷ decls) =
    then_do (found_at (length types.earlier) (type_cover types decl)) (λ m. types_from (with_earlier types m) decls)

abbrev pub names_of : List TypeDecl → List Text
names_of decls = map (λ decl. decl.name) decls

abbrev pub all_layouts : List Covered → Result (List Layout) LayoutFault
all_layouts covers = Ok (map layout_of covers)

-- the layouts of these declarations, or the first fault
abbrev pub layouts_of : List TypeDecl → Result (List Layout) LayoutFault
layouts_of decls = then_do (types_from (record { names = names_of decls; earlier = [] }) decls) all_layouts

-- A count is from 1 to 8192.
abbrev pub IsCount : ℕ → Type 0
IsCount n = (1 ≤ n) × (n ≤ 8192)

abbrev mutual
  -- each count is in its range, and no more than this many unions stand in one another
  pub IsSoundKind : ℕ → Kind → Type 0
  IsSoundKind deep (Bytes n) = IsCount n
  IsSoundKind zero (Union' shape row) = ⊥
  IsSoundKind (suc deep) (Union' shape row) = AreSound deep row
  IsSoundKind deep other = Unit {0}

  pub AreSound : {m : _} → ℕ → Row_of-Field m → Type 0
  AreSound deep end_of-Field = Unit {0}
  AreSound deep (more_of-Field kind name count rest) = IsSoundKind deep kind × IsCount count × AreSound deep rest

pub record IsSoundField (deep : ℕ) (f : Field) : Type 0 where
  pub kind : IsSoundKind deep f.kind
  pub count : IsCount f.count

-- At most 1024 types, each number of bytes and each count from 1 to 8192, and at most eight unions in one another.
pub record AreInRange (types : List TypeDecl) : Type 0 where
  pub few : length types ≤ 1024
  pub sound : All (λ decl. All (IsSoundField 8) decl.fields) types
