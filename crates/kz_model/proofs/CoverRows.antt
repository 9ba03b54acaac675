-- Layouts and first faults of some declarations, computed from the definitions.
use Rattle.std.proofs.Common.{◌≡◌, ℕ, true, false, List, [], ◌∷◌, codes, refl, ap, ◌∙◌, Result, Ok, Err}
use Rattle.kz_model.specs.declared.bundle.Kind.{Kind}
use Rattle.kz_model.specs.declared.bundle.Kind.TheVariants.{Ptr, Auth, U8, U64, Bytes, Struct, Union}
use Rattle.kz_model.specs.declared.bundle.Field.{Field}
use Rattle.kz_model.specs.declared.bundle.TypeDecl.{TypeDecl}
use Rattle.kz_model.specs.declared.record.Layout.{Layout}
use Rattle.kz_model.specs.declared.layout.LayoutCause.{LayoutCause}
use Rattle.kz_model.specs.declared.layout.LayoutCause.TheVariants.{SameName, UnknownType, ForwardUse, Empty, TooLarge}
use Rattle.kz_model.specs.declared.layout.LayoutFault.{LayoutFault}
use Rattle.kz_model.specs.Types.Cover.{is_data_only}
use Rattle.kz_model.specs.Types.Layouts.{Types, Inside, no_fields, fields_from, one_field, then_do, layouts_of, whole, found_at, types_from, all_layouts, with_earlier}
use Rattle.kz_model.proofs.Unions.{inner_of-union}

abbrev field : Kind → List ℕ → Field
field kind name = record { kind = kind; name = name; count = 1 }

abbrev type_of : List ℕ → List Field → TypeDecl
type_of name fields = record { name = name; fields = fields }

abbrev layout : ℕ → ℕ → List ℕ → Layout
layout size align letters = record { size = size; align = align; letters = letters }

abbrev fault : ℕ → LayoutCause → LayoutFault
fault at cause = record { at = at; cause = cause }

pub padded_pointer : layouts_of (type_of (codes "t") (field U8 (codes "a") ∷ field Ptr (codes "p") ∷ []) ∷ []) ≡ Ok (layout 16 8 (codes "21") ∷ [])
padded_pointer = refl

pub nine_bytes : layouts_of (type_of (codes "d") (field (Bytes 9) (codes "b") ∷ []) ∷ []) ≡ Ok (layout 9 1 (codes "22") ∷ [])
nine_bytes = refl

pub nine_bytes_are_data : is_data_only (layout 9 1 (codes "22")) ≡ true
nine_bytes_are_data = refl

pub authenticated_and_bytes : layouts_of (type_of (codes "k") (field Auth (codes "f") ∷ record { kind = U8; name = codes "c"; count = 3 } ∷ []) ∷ []) ≡
    Ok (layout 16 8 (codes "82") ∷ [])
authenticated_and_bytes = refl

pub authenticated_is_no_data : is_data_only (layout 16 8 (codes "82")) ≡ false
authenticated_is_no_data = refl

pub too_large : layouts_of (type_of (codes "e") (field (Bytes 8192) (codes "a") ∷ field U8 (codes "b") ∷ []) ∷ []) ≡ Err (fault 0 (TooLarge 8193))
too_large = refl

pub a_struct_inside : layouts_of (type_of (codes "s") (field Ptr (codes "p") ∷ field U8 (codes "a") ∷ []) ∷
    type_of (codes "t") (field U8 (codes "a") ∷ record { kind = Struct (codes "s"); name = codes "b"; count = 2 } ∷ []) ∷ []) ≡
    Ok (layout 16 8 (codes "12") ∷ layout 40 8 (codes "21212") ∷ [])
a_struct_inside = refl

pub a_name_twice : layouts_of (type_of (codes "s") (field U8 (codes "a") ∷ []) ∷ type_of (codes "s") [] ∷ []) ≡ Err (fault 1 SameName)
a_name_twice = refl

pub a_field_twice : layouts_of (type_of (codes "s") (field U8 (codes "a") ∷ field (Struct (codes "x")) (codes "a") ∷ []) ∷ []) ≡ Err (fault 0 SameName)
a_field_twice = refl

pub unknown : layouts_of (type_of (codes "s") (field (Struct (codes "x")) (codes "a") ∷ []) ∷ []) ≡ Err (fault 0 UnknownType)
unknown = refl

pub forward : layouts_of (type_of (codes "s") (field (Struct (codes "x")) (codes "a") ∷ []) ∷ type_of (codes "x") [] ∷ []) ≡ Err (fault 0 ForwardUse)
forward = refl

-- a type isn't declared before itself
pub of_itself : layouts_of (type_of (codes "s") (field (Struct (codes "s")) (codes "a") ∷ []) ∷ []) ≡ Err (fault 0 ForwardUse)
of_itself = refl

pub without_fields : layouts_of (type_of (codes "s") (field U8 (codes "a") ∷ []) ∷ type_of (codes "x") [] ∷ []) ≡ Err (fault 1 Empty)
without_fields = refl

-- a type of one field, which is a union
abbrev of_union : List Field → List TypeDecl
of_union fields = type_of (codes "u") (field (Union fields) (codes "v") ∷ []) ∷ []

abbrev types : Types
types = record { names = codes "u" ∷ []; earlier = [] }

-- the layouts, once the union's own fields are known
abbrev known : List Field → Result Inside LayoutCause → Result (List Layout) LayoutFault
known fields first =
    then_do (then_do (found_at 0 (then_do (then_do (then_do first (one_field types false no_fields (Union fields) (codes "v") 1)) (λ more. fields_from types false more [])) whole))
    (λ m. types_from (with_earlier types m) [])) all_layouts

opened : (fields : List Field) → layouts_of (of_union fields) ≡ known fields (fields_from types true no_fields fields)
opened fields = ap (known fields) (inner_of-union types fields)

pub a_union : layouts_of (of_union (field Ptr (codes "p") ∷ field U64 (codes "n") ∷ [])) ≡ Ok (layout 8 8 (codes "3") ∷ [])
a_union = opened _ ∙ refl

pub an_empty_union : layouts_of (of_union []) ≡ Err (fault 0 Empty)
an_empty_union = opened _ ∙ refl

-- the size of a union is rounded up
pub a_rounded_union : layouts_of (of_union (field (Bytes 9) (codes "a") ∷ field Ptr (codes "b") ∷ [])) ≡ Ok (layout 16 8 (codes "32") ∷ [])
a_rounded_union = opened _ ∙ refl

pub a_large_union : layouts_of (of_union (field (Bytes 8185) (codes "a") ∷ record { kind = Ptr; name = codes "b"; count = 1025 } ∷ [])) ≡ Err (fault 0 (TooLarge 8200))
a_large_union = opened _ ∙ refl
