-- The layouts of declarations are those of their fields at their places.
use Rattle.std.proofs.Common.{◌≡◌, List, [], length, map, refl, sym, ap, ◌∙◌, subst, arith, Ok}
use Rattle.std.proofs.lemmas.List.{length-map}
use Rattle.kz_model.specs.declared.bundle.TypeDecl.{TypeDecl}
use Rattle.kz_model.specs.Types.Cover.{Covered, layout_of}
use Rattle.kz_model.specs.Types.Layouts.{Types, Text, no_fields, type_cover, names_of}
use Rattle.kz_layout.specs.Shown.{types_at}
use Rattle.kz_layout.specs.FieldPlaces.{struct_places}
use Rattle.kz_layout.specs.FieldLaws.{IsLayoutOf, FieldsArePlaced}
use Rattle.kz_layout.proofs.Walks.{as_many}
use Rattle.kz_layout.proofs.PlacedFields.{IsEven, rising_apart}
use Rattle.kz_layout.proofs.FieldWalks.{cover_extent, fields_are, over_all}
use Rattle.kz_layout.proofs.TypeWalks.{AreAmong, EachFits, layout_at, type_ok, each_type}

abbrev IsSoundDecl : TypeDecl → Type 0
IsSoundDecl decl = Unit {0}

abbrev IsEvenCover : Covered → Type 0
IsEvenCover m = IsEven (cover_extent m)

abbrev IsLayoutAmong : List Text → List Covered → TypeDecl → Covered → Type 0
IsLayoutAmong names covers decl m = IsLayoutOf names (map layout_of covers) decl.fields (layout_of m)

one_type : (types : Types) (decl : TypeDecl) (covers : List Covered) (m : Covered) → IsSoundDecl decl → EachFits IsEvenCover types.earlier →
    AreAmong types.earlier covers → type_cover types decl ≡ Ok m → IsLayoutAmong types.names covers decl m × IsEvenCover m
one_type types decl covers m sound even stay is =
    let layouts = map layout_of covers in
    let fields = type_ok types decl m is in
    let are = fields_are types layouts (λ place n there. (layout_at covers place n (stay place n there), even place n there))
    decl.fields 0 no_fields fields.0 refl (omega arith) fields.1 in
    let over = over_all (struct_places types.names layouts decl.fields) fields.0 m are.grows fields.2 in (
      record { whole = over.extent; placed = over.placed; apart = rising_apart 0 (struct_places types.names layouts decl.fields) are.rises; unions = are.unions },
      subst IsEven (sym over.extent) (record { aligned = over.placed.fit.aligned; multiple = over.placed.fit.multiple }),
    )

pub fields_are_placed : FieldsArePlaced
fields_are_placed = λ types layouts is.
    let all = each_type IsSoundDecl IsEvenCover IsLayoutAmong one_type types layouts (λ at decl there. tt) is in
    let long : length all.0 ≡ length types = omega (arith, as_many (types_at (names_of types) []) types all.0 all.1) in (
      ap length (sym all.2) ∙ length-map all.0 layout_of ∙ long,
      λ at decl there.
          let one = all.3 at decl there in
          (layout_of one.0, one.1, subst (λ ls. IsLayoutOf (names_of types) ls decl.fields (layout_of one.0)) all.2 one.2),
    )
