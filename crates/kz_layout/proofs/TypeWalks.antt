-- What holds of each declaration's cover, where it follows from what holds of the covers of earlier ones.
use Rattle.std.proofs.Common.{◌≡◌, ◌⊎◌, inl, inr, ℕ, zero, suc, ◌+◌, false, List, [], ◌∷◌, ◌++◌, length, map, refl, sym, ap, ◌∙◌, subst, arith, Some, Result, Ok, Err, slice_get, option_map}
use Rattle.std.proofs.lemmas.List.{length-append}
use Rattle.std.proofs.lemmas.Option.{slice_get-map}
use Rattle.kz_model.specs.declared.bundle.TypeDecl.{TypeDecl}
use Rattle.kz_model.specs.declared.record.Layout.{Layout}
use Rattle.kz_model.specs.declared.layout.LayoutCause.{LayoutCause}
use Rattle.kz_model.specs.declared.layout.LayoutCause.TheVariants.{SameName}
use Rattle.kz_model.specs.Types.Cover.{Covered, layout_of}
use Rattle.kz_model.specs.Types.Layouts.{Inside, no_fields, then_do, fields_from, whole, place_of, is_earlier, Types, Text, type_cover, found_at, with_earlier, types_from, names_of, all_layouts, layouts_of}
use Rattle.kz_layout.specs.Shown.{types_at}
use Rattle.kz_layout.proofs.FieldWalks.{then_do_ok, else_ok}

-- ---- lists

module _ {X : Type 0} where
  get_front : (xs ys : List X) (i : ℕ) (x : X) → slice_get xs i ≡ Some x → slice_get (xs ++ ys) i ≡ Some x
  get_front [] ys i x is = cc
  get_front (y ∷ xs) ys zero x is = is
  get_front (y ∷ xs) ys (suc i) x is = get_front xs ys i x is

  get_last : (xs : List X) (x : X) → slice_get (xs ++ x ∷ []) (length xs) ≡ Some x
  get_last [] x = refl
  get_last (y ∷ xs) x = get_last xs x

  front_or_last : (xs : List X) (x y : X) (i : ℕ) → slice_get (xs ++ x ∷ []) i ≡ Some y → (slice_get xs i ≡ Some y) ⊎ (x ≡ y)
  front_or_last [] x y zero is = inr (cc)
  front_or_last [] x y (suc i) is = cc
  front_or_last (z ∷ xs) x y zero is = inl is
  front_or_last (z ∷ xs) x y (suc i) is = front_or_last xs x y i is

-- ---- declarations

-- the fields of a declaration, as a whole
pub type_ok : (types : Types) (decl : TypeDecl) (m : Covered) → type_cover types decl ≡ Ok m →
    (inside : Inside) × (fields_from types false no_fields decl.fields ≡ Ok inside) × (whole inside ≡ Ok m)
type_ok types decl m is =
    let new = else_ok (is_earlier (length types.earlier) (place_of decl.name types.names)) SameName (then_do (fields_from types false no_fields decl.fields) whole) m is in
    then_do_ok (fields_from types false no_fields decl.fields) whole m new.1

found_ok : (at : ℕ) (first : Result Covered LayoutCause) (m : Covered) → found_at at first ≡ Ok m → first ≡ Ok m
found_ok at (Ok n) m is = let same : n ≡ m = cc in ap (λ x. Ok x) same
found_ok at (Err cause) m is = cc

-- the first of some declarations, and the rest
first_ok : (types : Types) (decl : TypeDecl) (decls : List TypeDecl) (covers : List Covered) → types_from types (decl ∷ decls) ≡ Ok covers →
    (m : Covered) × (type_cover types decl ≡ Ok m) × (types_from (with_earlier types m) decls ≡ Ok covers)
first_ok types decl decls covers is =
    let first = then_do_ok (found_at (length types.earlier) (type_cover types decl)) (λ m. types_from (with_earlier types m) decls) covers is in
    (first.0, found_ok (length types.earlier) (type_cover types decl) first.0 first.1, first.2)

-- an earlier cover is among all covers at its place
abbrev pub AreAmong : List Covered → List Covered → Type 0
AreAmong earlier covers = (place : ℕ) (m : Covered) → slice_get earlier place ≡ Some m → slice_get covers place ≡ Some m

earlier_stay : (types : Types) (decls : List TypeDecl) (covers : List Covered) → types_from types decls ≡ Ok covers → AreAmong types.earlier covers
earlier_stay types [] covers is place m there = let same : types.earlier ≡ covers = cc in ap (λ ms. slice_get ms place) (sym same) ∙ there
earlier_stay types (decl ∷ decls) covers is place m there =
    let first = first_ok types decl decls covers is in
    earlier_stay (with_earlier types first.0) decls covers first.2 place m (get_front types.earlier (first.0 ∷ []) place m there)

pub layout_at : (covers : List Covered) (place : ℕ) (m : Covered) → slice_get covers place ≡ Some m → slice_get (map layout_of covers) place ≡ Some (layout_of m)
layout_at covers place m there = slice_get-map layout_of covers place ∙ ap (option_map layout_of) there

-- each cover at its place
abbrev pub EachFits : (Covered → Type 0) → List Covered → Type 0
EachFits Fits covers = (place : ℕ) (m : Covered) → slice_get covers place ≡ Some m → Fits m

-- Each declaration is sound, each cover is to fit, and each declaration with its cover is to be as wanted.
module _ (IsSound : TypeDecl → Type 0) (Fits : Covered → Type 0) (IsWanted : List Text → List Covered → TypeDecl → Covered → Type 0)
    (one : (types : Types) (decl : TypeDecl) (covers : List Covered) (m : Covered) → IsSound decl → EachFits Fits types.earlier →
    AreAmong types.earlier covers → type_cover types decl ≡ Ok m → IsWanted types.names covers decl m × Fits m) where
  one_more_fits : (covers : List Covered) (m : Covered) → EachFits Fits covers → Fits m → EachFits Fits (covers ++ m ∷ [])
  one_more_fits covers m fit last = λ place n there. elim (front_or_last covers m n place there) [
    | inl before ↦ fit place n before
    | inr same ↦ subst Fits same last
  ]

  none_fits : EachFits Fits []
  none_fits place m there = cc

  each_from : (types : Types) (decls : List TypeDecl) (covers : List Covered) → ((at : ℕ) (decl : TypeDecl) → slice_get decls at ≡ Some decl → IsSound decl) →
      types_from types decls ≡ Ok covers → EachFits Fits types.earlier → (at : ℕ) (decl : TypeDecl) → slice_get decls at ≡ Some decl →
      (m : Covered) × (slice_get covers (length types.earlier + at) ≡ Some m) × IsWanted types.names covers decl m
  each_from types [] covers sound is fit at decl there = cc
  each_from types (d ∷ decls) covers sound is fit zero decl there =
      let first = first_ok types d decls covers is in
      let first_is = one types d covers first.0 (sound 0 d refl) fit (earlier_stay types (d ∷ decls) covers is) first.1 in
      let same : d ≡ decl = cc in
      let place : length types.earlier ≡ length types.earlier + 0 = omega arith in (
        first.0,
        ap (λ i. slice_get covers i) (sym place)
            ∙ earlier_stay (with_earlier types first.0) decls covers first.2 (length types.earlier) first.0 (get_last types.earlier first.0),
        subst (λ (x : TypeDecl). IsWanted types.names covers x first.0) same first_is.0,
      )
  each_from types (d ∷ decls) covers sound is fit (suc at) decl there =
      let first = first_ok types d decls covers is in
      let first_is = one types d covers first.0 (sound 0 d refl) fit (earlier_stay types (d ∷ decls) covers is) first.1 in
      let later = each_from (with_earlier types first.0) decls covers (λ i x inside. sound (suc i) x inside) first.2
      (one_more_fits types.earlier first.0 fit first_is.1) at decl there in
      let place : length (types.earlier ++ first.0 ∷ []) + at ≡ length types.earlier + suc at = omega (arith, length-append types.earlier (first.0 ∷ [])) in
      (later.0, ap (λ i. slice_get covers i) (sym place) ∙ later.1, later.2)

  -- all declarations
  pub each_type : (types : List TypeDecl) (layouts : List Layout) → ((at : ℕ) (decl : TypeDecl) → slice_get types at ≡ Some decl → IsSound decl) →
      layouts_of types ≡ Ok layouts →
      (covers : List Covered) × (types_from (types_at (names_of types) []) types ≡ Ok covers) × (map layout_of covers ≡ layouts)
      × ((at : ℕ) (decl : TypeDecl) → slice_get types at ≡ Some decl →
      (m : Covered) × (slice_get layouts at ≡ Some (layout_of m)) × IsWanted (names_of types) covers decl m)
  each_type types layouts sound is =
      let first = types_at (names_of types) [] in
      let parts = then_do_ok (types_from first types) all_layouts layouts is in
      let last = parts.2 in
      let same : map layout_of parts.0 ≡ layouts = cc in (
        parts.0,
        parts.1,
        same,
        λ at decl there.
            let wanted = each_from first types parts.0 sound parts.1 none_fits at decl there in
            let place : 0 + at ≡ at = omega arith in
            (wanted.0, ap (λ ls. slice_get ls at) (sym same) ∙ layout_at parts.0 at wanted.0 (ap (λ i. slice_get parts.0 i) (sym place) ∙ wanted.1), wanted.2),
      )
