-- One field more of some braces, one declaration more, and all that a layouter was given.
use Rattle.std.proofs.Common.{◌≡◌, ℕ, ◌+◌, Bool, true, false, if◌then◌else◌, List, [], ◌∷◌, ◌++◌, length, map, Result, Ok, Err, sym, ap, ◌∙◌, arith, ◌≤◌, subst, refl}
use Rattle.std.proofs.lemmas.List.{length-append}
use Rattle.std.proofs.lemmas.Bool.{ne_eqb}
use Rattle.kz_model.specs.declared.bundle.Field.{Field}
use Rattle.kz_model.specs.declared.bundle.TypeDecl.{TypeDecl}
use Rattle.kz_model.specs.declared.layout.LayoutCause.{LayoutCause}
use Rattle.kz_model.specs.declared.layout.LayoutCause.TheVariants.{SameName}
use Rattle.kz_model.specs.declared.layout.LayoutFault.{LayoutFault}
use Rattle.kz_model.specs.Types.Cover.{Covered}
use Rattle.kz_layout.specs.Shown.{ShowsInside, types_at, with_own}
use Rattle.kz_layout.specs.Granules.{Granules, no_granules, AllStand, Stands, layout_by_codes}
use Rattle.kz_layout.specs.Laid.{Laid, HasLaidOut}
use Rattle.kz_layout.proofs.Bodies.{all_stand_more, layouts_stand, stands_nothing}
use Rattle.kz_model.specs.Types.Layouts.{Types, Inside, Text, inner_of, fields_from, one_field, own_cover, named, has, then_do, no_fields, whole, place_of, is_earlier, type_cover, types_from, found_at, with_earlier, names_of, all_layouts, layouts_of}

module _ (types : Types) (in_union : Bool) (names : List Text) (body : Covered) (f : Field) (rest : List Field) where
  abbrev so_far : Inside
  so_far = record { names = names; body = body }

  -- the fields, once the first one's union is known
  abbrev after : Result Inside LayoutCause → Result Inside LayoutCause
  after first = then_do (then_do first (one_field types in_union so_far f.kind f.name f.count)) (λ more. fields_from types in_union more rest)

  -- and whether its name is new
  abbrev next : Inside → Bool → Result Inside LayoutCause
  next inside seen =
      then_do (if seen then Err SameName else then_do (with_own in_union body f.count (own_cover types inside f.kind)) (named names f.name))
      (λ more. fields_from types in_union more rest)

  -- and where it is placed
  abbrev with_body : Result Covered LayoutCause → Result Inside LayoutCause
  with_body placed = then_do (then_do placed (named names f.name)) (λ more. fields_from types in_union more rest)

  pub same_name : (inside : Inside) → inner_of types f.kind ≡ Ok inside → has f.name names ≡ true → fields_from types in_union so_far (f ∷ rest) ≡ Err SameName
  same_name inside inner seen = ap after inner ∙ ap (next inside) seen

  pub one_fault : (inside : Inside) (cause : LayoutCause) → inner_of types f.kind ≡ Ok inside → has f.name names ≡ false →
      with_own in_union body f.count (own_cover types inside f.kind) ≡ Err cause → fields_from types in_union so_far (f ∷ rest) ≡ Err cause
  one_fault inside cause inner seen placed = ap after inner ∙ ap (next inside) seen ∙ ap with_body placed

  pub goes_on : (inside : Inside) (more : Covered) → inner_of types f.kind ≡ Ok inside → has f.name names ≡ false →
      with_own in_union body f.count (own_cover types inside f.kind) ≡ Ok more →
      fields_from types in_union so_far (f ∷ rest) ≡ fields_from types in_union (record { names = names ++ f.name ∷ []; body = more }) rest
  goes_on inside more inner seen placed = ap after inner ∙ ap (next inside) seen ∙ ap with_body placed

-- fields that have a byte show fields
pub shows_more : (fields : Granules) (names : List Text) (name : Text) (m : Covered) → Stands fields m → 1 ≤ fields.size →
    ShowsInside fields (record { names = names ++ name ∷ []; body = m })
shows_more fields names name m stands some = record {
  stands = stands;
  empty = ne_eqb (length (names ++ name ∷ [])) 0 (λ none. omega (arith, none, length-append names (name ∷ []))) ∙ sym (ne_eqb fields.size 0 (λ none. omega (arith, none)));
}

pub shows_none : (fields : Granules) → fields ≡ no_granules → ShowsInside fields no_fields
shows_none fields none = subst (λ f. ShowsInside f no_fields) (sym none) (record { stands = stands_nothing; empty = refl })

module _ (types : Types) (decl : TypeDecl) where
  pub same_type : is_earlier (length types.earlier) (place_of decl.name types.names) ≡ true → type_cover types decl ≡ Err SameName
  same_type taken = ap (λ b. if b then Err SameName else then_do (fields_from types false no_fields decl.fields) whole) taken

  pub new_type : is_earlier (length types.earlier) (place_of decl.name types.names) ≡ false →
      type_cover types decl ≡ then_do (fields_from types false no_fields decl.fields) whole
  new_type new = ap (λ b. if b then Err SameName else then_do (fields_from types false no_fields decl.fields) whole) new

module _ (types : Types) (decl : TypeDecl) (decls : List TypeDecl) where
  -- the declarations, once what the first covers is known
  abbrev once : Result Covered LayoutCause → Result (List Covered) LayoutFault
  once first = then_do (found_at (length types.earlier) first) (λ m. types_from (with_earlier types m) decls)

  type_fault : (cause : LayoutCause) → type_cover types decl ≡ Err cause →
      types_from types (decl ∷ decls) ≡ Err (record { at = length types.earlier; cause = cause })
  type_fault cause first = ap once first

  type_goes_on : (m : Covered) → type_cover types decl ≡ Ok m → types_from types (decl ∷ decls) ≡ types_from (with_earlier types m) decls
  type_goes_on m first = ap once first

-- ---- a layouter

-- the declarations behind those that were laid out
laid_on_one : (at : ℕ) (first : Result Covered LayoutCause) (rest more : Covered → Result (List Covered) LayoutFault) (covers : List Covered) (given : Result (List Covered) LayoutFault) →
    ((m : Covered) → rest m ≡ Ok covers → more m ≡ given) → then_do (found_at at first) rest ≡ Ok covers → then_do (found_at at first) more ≡ given
laid_on_one at (Ok m) rest more covers given step laid = step m laid
laid_on_one at (Err cause) rest more covers given step laid = cc

laid_on : (types : Types) (decls rest : List TypeDecl) (covers : List Covered) → types_from types decls ≡ Ok covers →
    types_from types (decls ++ rest) ≡ types_from (types_at types.names covers) rest
laid_on types [] rest covers laid = let same : types.earlier ≡ covers = cc in ap (λ earlier. types_from (types_at types.names earlier) rest) same
laid_on types (decl ∷ decls) rest covers laid =
    laid_on_one (length types.earlier) (type_cover types decl) (λ m. types_from (with_earlier types m) decls) (λ m. types_from (with_earlier types m) (decls ++ rest)) covers
    (types_from (types_at types.names covers) rest) (λ m. laid_on (with_earlier types m) decls rest covers) laid

as_many_one : (at : ℕ) (first : Result Covered LayoutCause) (rest : Covered → Result (List Covered) LayoutFault) (covers : List Covered) (P : Type 0) →
    ((m : Covered) → rest m ≡ Ok covers → P) → then_do (found_at at first) rest ≡ Ok covers → P
as_many_one at (Ok m) rest covers P step laid = step m laid
as_many_one at (Err cause) rest covers P step laid = cc

pub as_many : (types : Types) (decls : List TypeDecl) (covers : List Covered) → types_from types decls ≡ Ok covers → length covers ≡ length types.earlier + length decls
as_many types [] covers laid = let same : types.earlier ≡ covers = cc in omega (arith, ap length same)
as_many types (decl ∷ decls) covers laid =
    as_many_one (length types.earlier) (type_cover types decl) (λ m. types_from (with_earlier types m) decls) covers (length covers ≡ length types.earlier + length (decl ∷ decls))
    (λ m more. omega (arith, as_many (with_earlier types m) decls covers more, length-append types.earlier (m ∷ []))) laid

-- one declaration more
pub one_more_laid : (laid : Laid) (decls : List TypeDecl) (decl : TypeDecl) (body : Granules) → HasLaidOut laid decls →
    ((covers : List Covered) → AllStand laid.bodies covers → (m : Covered) × (type_cover (types_at laid.names covers) decl ≡ Ok m) × Stands body m) →
    HasLaidOut (record { names = laid.names; bodies = laid.bodies ++ body ∷ [] }) (decls ++ decl ∷ [])
one_more_laid laid decls decl body has one =
    let last = one has.covers has.stand in
    record {
      covers = has.covers ++ last.0 ∷ [];
      given = laid_on (types_at laid.names []) decls (decl ∷ []) has.covers has.given ∙ type_goes_on (types_at laid.names has.covers) decl [] last.0 last.1;
      stand = all_stand_more laid.bodies has.covers body last.0 has.stand last.2;
    }

-- or the first fault, whichever declarations follow
pub first_fault : (laid : Laid) (decls more : List TypeDecl) (decl : TypeDecl) (cause : LayoutCause) → HasLaidOut laid decls →
    names_of (decls ++ decl ∷ more) ≡ laid.names →
    ((covers : List Covered) → AllStand laid.bodies covers → type_cover (types_at laid.names covers) decl ≡ Err cause) →
    layouts_of (decls ++ decl ∷ more) ≡ Err (record { at = length decls; cause = cause })
first_fault laid decls more decl cause has named fault =
    let all = decls ++ decl ∷ more in
    let place : length has.covers ≡ length decls = omega (arith, as_many (types_at laid.names []) decls has.covers has.given) in
    ap (λ names. then_do (types_from (types_at names []) all) all_layouts) named
    ∙ ap (λ covers. then_do covers all_layouts) (laid_on (types_at laid.names []) decls (decl ∷ more) has.covers has.given
    ∙ type_fault (types_at laid.names has.covers) decl more cause (fault has.covers has.stand))
    ∙ ap (λ n. Err (record { at = n; cause = cause })) place

-- all declarations
pub all_laid : (laid : Laid) (decls : List TypeDecl) → HasLaidOut laid decls → names_of decls ≡ laid.names → layouts_of decls ≡ Ok (map layout_by_codes laid.bodies)
all_laid laid decls has named =
    ap (λ names. then_do (types_from (types_at names []) decls) all_layouts) named ∙ ap (λ covers. then_do covers all_layouts) has.given
    ∙ ap (λ layouts. Ok layouts) (sym (layouts_stand laid.bodies has.covers has.stand))
