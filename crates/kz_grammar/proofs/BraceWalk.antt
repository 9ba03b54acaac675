-- Braces field by field: all of a declaration's are sound, or some break a sentence.
use Rattle.std.proofs.Common.{◌≡◌, ◌≢◌, ⊎_elim, ℕ, zero, suc, ◌+◌, ◌*◌, ◌<◌, ◌≤◌, ◌==◌, Bool, true, false, nat_lt, if◌then◌else◌, List, [], ◌∷◌, ◌++◌, length, slice_get, slice_index_or, Option, Some, None, Result, Ok, Err, refl, ap, sym, ◌∙◌, subst, arith, length-append}
use Rattle.std.specs.Prelude.{All, Contains}
use Rattle.std.proofs.lemmas.Bool.{ltb-true}
use Rattle.std.proofs.lemmas.List.{append_assoc, append-nil, map-append, get_or_append_left}
use Rattle.std.proofs.lemmas.List.Elements.{All-nil, All-push, Contains-append_left, Contains-append_right, Contains-append_cases, Contains-get_or}
use Rattle.std.proofs.lemmas.List.Quantifiers.{all_pairs_push}
use Rattle.std.proofs.lemmas.Option.{slice_get_within, slice_get_cases}
use Rattle.kz_model.specs.declared.bundle.Kind.{Kind, Union', Row_of-Field, end_of-Field, more_of-Field, items-the_row-Field}
use Rattle.kz_model.specs.declared.bundle.Kind.TheVariants.{Ptr, Auth, U8, U16, U32, U64, Bytes, Struct}
use Rattle.kz_model.specs.declared.bundle.Field.{Field}
use Rattle.kz_model.specs.declared.layout.LayoutCause.{LayoutCause}
use Rattle.kz_model.specs.declared.layout.LayoutCause.TheVariants.{SameName, Empty, TooLarge}
use Rattle.kz_model.specs.Types.Cover.{Covered, rounded, placed}
use Rattle.kz_model.specs.Types.Layouts.{Text, has, Types, Inside, no_fields, then_do, place_of, earlier_one, declared_one, own_cover, offset_of, with_cover, named, one_field, inner_of, row_of, fields_from}
use Rattle.kz_model.specs.Grammar.Stages.{cause_of}
use Rattle.kz_grammar.specs.Names.{AreDifferent}
use Rattle.kz_grammar.specs.Declarations.{braces_in, braces_in_row, braces_in_fields, field_names, IsOfKnown, AreSoundBraces, HasNameTwice, BreaksBraces, HasBroken}
use Rattle.kz_grammar.proofs.Members.{contains_first, contains_later, contains_cases, contains_none, is_named, is_not_named}
use Rattle.kz_grammar.proofs.FoundTypes.{place_says, PlaceSays}

-- what is said of a result, behind one of which something is said
pub by_says : {A B E : Type 0} (S : Result A E → Type 0) (R : Result B E → Type 0) (o : Result A E) (f : A → Result B E) → S o →
    ((a : A) → S (Ok a) → R (f a)) → ((e : E) → S (Err e) → R (Err e)) → R (then_do o f)
by_says S R (Ok a) f says good bad = good a says
by_says S R (Err e) f says good bad = bad e says

pub by_choice : {A : Type 0} (R : A → Type 0) (b : Bool) (x y : A) → (b ≡ true → R x) → (b ≡ false → R y) → R (if b then x else y)
by_choice R true x y f g = f refl
by_choice R false x y f g = g refl

-- ---- one place of a name in a list

-- a name that is there has a place
place_in : (names : List Text) (name : Text) → Contains names name → (k : ℕ) × (k < length names) × (slice_index_or names k [] ≡ name)
place_in names name there = (there.0, there.1, other_default names there.0 name [] there.1 ∙ there.2)
  where
    other_default : (xs : List Text) (k : ℕ) (d e : Text) → k < length xs → slice_index_or xs k e ≡ slice_index_or xs k d
    other_default [] k d e lt = absurd (omega (arith, lt))
    other_default (x ∷ xs) zero d e lt = refl
    other_default (x ∷ xs) (suc k) d e lt = other_default xs k d e (omega (arith, lt))

-- one field more has a name that stands before it
twice : (done : List Field) (f : Field) (rest : List Field) → Contains (field_names done) f.name → HasNameTwice (done ++ f ∷ rest)
twice done f rest there =
    let at = place_in (field_names done) f.name there in
    record {
      one = at.0;
      other = length (field_names done);
      before = at.1;
      within = omega (arith, ap (λ (xs : List Text). length xs) parts, length-append (field_names done) (f.name ∷ field_names rest));
      same = ap (λ xs. slice_index_or xs at.0 []) parts ∙ get_or_append_left (field_names done) (f.name ∷ field_names rest) [] at.0 at.1 ∙ at.2
          ∙ sym (ap (λ xs. slice_index_or xs (length (field_names done)) []) parts ∙ seam (field_names done) f.name (field_names rest));
    }
  where
    parts : field_names (done ++ f ∷ rest) ≡ field_names done ++ f.name ∷ field_names rest
    parts = map-append (λ (f : Field). f.name) done (f ∷ rest)

    seam : (xs : List Text) (x : Text) (ys : List Text) → slice_index_or (xs ++ x ∷ ys) (length xs) [] ≡ x
    seam [] x ys = refl
    seam (y ∷ xs) x ys = seam xs x ys

-- ---- whether there is a field

pub no_name : (inner : Inside) (fields : List Field) → inner.names ≡ field_names fields → (length inner.names == 0) ≡ true → fields ≡ []
no_name inner [] names e = refl
no_name inner (f ∷ fields) names e = absurd (more (length inner.names) (length (field_names fields)) (ap (λ (xs : List Text). length xs) names) e)
  where
    more : (n m : ℕ) → n ≡ suc m → (n == 0) ≡ true → ⊥
    more n m e f = grind arith

pub some_names : (inner : Inside) (fields : List Field) → inner.names ≡ field_names fields → (length inner.names == 0) ≡ false → fields ≢ []
some_names inner fields names e none = none_of (length inner.names) (ap (λ (xs : List Text). length xs) (names ∙ ap field_names none)) e
  where
    none_of : (n : ℕ) → n ≡ 0 → (n == 0) ≡ false → ⊥
    none_of n e f = grind arith

-- ---- the walk

module _ (types : Types) (earlier others : List Text) (all : types.names ≡ earlier ++ others) (long : length types.earlier ≡ length earlier) where
  abbrev pub Fault : (List Field → Type 0) → LayoutCause → Type 0
  Fault Are cause = HasBroken types.names earlier (cause_of cause) Are

  -- the fields so far, by their names
  pub record AreDone (fields : List Field) (inside : Inside) : Type 0 where
    pub names : inside.names ≡ field_names fields
    pub different : AreDifferent (field_names fields)
    pub known : All (λ f. IsOfKnown earlier f.kind) fields

  pub none_done : AreDone [] no_fields
  none_done = record { names = refl; different = λ i j d lt le. absurd (omega (arith, le)); known = All-nil (λ (f : Field). IsOfKnown earlier f.kind) }

  -- all of these braces are sound
  abbrev pub AreSound : List (List Field) → Type 0
  AreSound braces = (fields : List Field) → Contains braces fields → AreSoundBraces earlier fields

  -- those of a union's own fields, but for whether there are any, and of all unions in it
  abbrev IsInner : Kind → Inside → Type 0
  IsInner (Union' shape row) inner = AreDone (items-the_row-Field _ row) inner × AreSound (braces_in_row row)
  IsInner other inner = Unit {0}

  -- ---- one kind

  -- a struct's type
  abbrev TypeSays : List Field → Text → Result Covered LayoutCause → Type 0
  TypeSays fields name (Ok m) = Contains earlier name
  TypeSays fields name (Err cause) = BreaksBraces types.names earlier (cause_of cause) fields

  type_says : (fields : List Field) (f : Field) (name : Text) → Contains fields f → f.kind ≡ Struct name → TypeSays fields name (declared_one types.earlier (place_of name types.names))
  type_says fields f name there is =
      by_place (place_of name types.names) (subst (λ (names : List Text). PlaceSays name earlier others 0 (place_of name names)) (sym all) (place_says name earlier others 0))
    where
      by_cover : (place : ℕ) (o : Option Covered) → slice_get types.earlier place ≡ o → PlaceSays name earlier others 0 (Some place) → TypeSays fields name (earlier_one o)
      by_cover place None e says =
          let past : 0 + length earlier ≤ place = ⊎_elim (λ within. absurd (none (slice_get types.earlier place) within.0 e within.2)) (λ past. omega (arith, past.0, long)) (slice_get_cases types.earlier place).1 in
          let told = says.1.behind past in
          record { field = f; name = name; there = there; struct = is; says = (subst (λ (names : List Text). Contains names name) (sym all) told.0, told.1) }
        where
          none : (o : Option Covered) (m : Covered) → o ≡ None → o ≡ Some m → ⊥
          none o m e g = cc
      by_cover place (Some m) e says = says.1.before (omega (arith, slice_get_within types.earlier place m e, long))

      by_place : (o : Option ℕ) → PlaceSays name earlier others 0 o → TypeSays fields name (declared_one types.earlier o)
      by_place None says = record { field = f; name = name; there = there; struct = is; says = λ known. says (subst (λ (names : List Text). Contains names name) all known) }
      by_place (Some place) says = by_cover place (slice_get types.earlier place) refl says

  -- a field's own cover: of known types, and its braces, if it is a union, hold a field
  abbrev OwnSays : (List Field → Type 0) → Kind → Result Covered LayoutCause → Type 0
  OwnSays Are kind (Ok m) = IsOfKnown earlier kind × AreSound (braces_in kind)
  OwnSays Are kind (Err cause) = Fault Are cause

  own_says : (Are : List Field → Type 0) (fields : List Field) (f : Field) (inner : Inside) → Are fields → Contains fields f →
      ((braces : List Field) → Contains (braces_in f.kind) braces → Are braces) → IsInner f.kind inner → OwnSays Are f.kind (own_cover types inner f.kind)
  own_says Are fields f inner here there inside is = by_kind f.kind refl inside is
    where
      sound_none : AreSound []
      sound_none braces none = contains_none braces none

      by_kind : (kind : Kind) → f.kind ≡ kind → ((braces : List Field) → Contains (braces_in kind) braces → Are braces) → IsInner kind inner → OwnSays Are kind (own_cover types inner kind)
      by_kind Ptr e inside is = (tt, sound_none)
      by_kind Auth e inside is = (tt, sound_none)
      by_kind U8 e inside is = (tt, sound_none)
      by_kind U16 e inside is = (tt, sound_none)
      by_kind U32 e inside is = (tt, sound_none)
      by_kind U64 e inside is = (tt, sound_none)
      by_kind (Bytes n) e inside is = (tt, sound_none)
      by_kind (Struct name) e inside is = by_type (declared_one types.earlier (place_of name types.names)) (type_says fields f name there e)
        where
          by_type : (o : Result Covered LayoutCause) → TypeSays fields name o → OwnSays Are (Struct name) o
          by_type (Ok m) says = (says, sound_none)
          by_type (Err cause) says = record { fields = fields; there = here; broken = says }
      by_kind (Union' shape row) e inside is =
          by_choice (OwnSays Are (Union' shape row)) (length inner.names == 0) (Err Empty) (Ok (rounded inner.body))
          (λ none. record { fields = items-the_row-Field _ row; there = inside (items-the_row-Field _ row) (contains_first (items-the_row-Field _ row) (braces_in_row row)); broken = no_name inner (items-the_row-Field _ row) is.0.names none })
          (λ some. (
            tt,
            λ braces within. ⊎_elim
                (λ (own : items-the_row-Field _ row ≡ braces). subst (AreSoundBraces earlier) own (record { some = some_names inner (items-the_row-Field _ row) is.0.names some; different = is.0.different; known = is.0.known }))
                (λ later. is.1 braces later)
                (contains_cases (items-the_row-Field _ row) (braces_in_row row) braces within),
          ))

  -- ---- one field

  abbrev FieldSays : (List Field → Type 0) → List Field → Field → Result Inside LayoutCause → Type 0
  FieldSays Are done f (Ok inside) = AreDone (done ++ f ∷ []) inside × AreSound (braces_in f.kind)
  FieldSays Are done f (Err cause) = Fault Are cause

  field_says : (Are : List Field → Type 0) (in_union : Bool) (done : List Field) (f : Field) (rest : List Field) (so_far inner : Inside) → Are (done ++ f ∷ rest) →
      ((braces : List Field) → Contains (braces_in f.kind) braces → Are braces) → AreDone done so_far → IsInner f.kind inner →
      FieldSays Are done f (one_field types in_union so_far f.kind f.name f.count inner)
  field_says Are in_union done f rest so_far inner here inside are is =
      by_choice (FieldSays Are done f) (has f.name so_far.names) (Err SameName) (then_do (then_do (own_cover types inner f.kind) (with_cover in_union so_far.body f.count)) (named so_far.names f.name))
      (λ same. record { fields = done ++ f ∷ rest; there = here; broken = twice done f rest (subst (λ (names : List Text). Contains names f.name) are.names (is_named f.name so_far.names same)) })
      (λ new. by_says CoverSays (FieldSays Are done f) (then_do (own_cover types inner f.kind) (with_cover in_union so_far.body f.count)) (named so_far.names f.name)
      (by_says (OwnSays Are f.kind) CoverSays (own_cover types inner f.kind) (with_cover in_union so_far.body f.count) (own_says Are (done ++ f ∷ rest) f inner here (contains_middle done f rest) inside is)
      (λ m says. fits m says) (λ cause fault. fault))
      (λ m says. (
        record {
          names = ap (λ (names : List Text). names ++ f.name ∷ []) are.names ∙ sym (map-append (λ (f : Field). f.name) done (f ∷ []));
          different = subst AreDifferent (sym (map-append (λ (f : Field). f.name) done (f ∷ [])))
              (all_pairs_push (λ one other. one ≢ other) (field_names done) f.name are.different
              (λ k d lt same. is_not_named f.name so_far.names new (subst (λ (names : List Text). Contains names f.name) (sym are.names) (subst (Contains (field_names done)) same (Contains-get_or (field_names done) k d lt)))));
          known = All-push (λ (f : Field). IsOfKnown earlier f.kind) done f are.known says.0;
        },
        says.1,
      ))
      (λ cause fault. fault))
    where
      CoverSays : Result Covered LayoutCause → Type 0
      CoverSays = OwnSays Are f.kind

      contains_middle : (done : List Field) (f : Field) (rest : List Field) → Contains (done ++ f ∷ rest) f
      contains_middle done f rest = Contains-append_right done (f ∷ rest) f (contains_first f rest)

      fits : (m : Covered) → OwnSays Are f.kind (Ok m) → CoverSays (with_cover in_union so_far.body f.count m)
      fits m says =
          let offset = offset_of in_union so_far.body m in
          by_choice CoverSays (nat_lt 8192 (offset + f.count * m.size)) (Err (TooLarge (offset + f.count * m.size))) (Ok (placed offset so_far.body f.count m))
          (λ large. record { fields = done ++ f ∷ rest; there = here; broken = ltb-true 8192 (offset + f.count * m.size) large })
          (λ fine. says)

  -- ---- all fields

  abbrev pub RowSays : (List Field → Type 0) → List Field → List (List Field) → Result Inside LayoutCause → Type 0
  RowSays Are whole_fields nested (Ok inside) = AreDone whole_fields inside × AreSound nested
  RowSays Are whole_fields nested (Err cause) = Fault Are cause

  abbrev InnerSays : (List Field → Type 0) → Kind → Result Inside LayoutCause → Type 0
  InnerSays Are kind (Ok inner) = IsInner kind inner
  InnerSays Are kind (Err cause) = Fault Are cause

  -- the braces of one field, and those of the others
  both_sound : (one others : List (List Field)) → AreSound one → AreSound others → AreSound (one ++ others)
  both_sound one others first later braces there = ⊎_elim (λ here. first braces here) (λ behind. later braces behind) (Contains-append_cases one others braces there)

  mutual
    inner_says : (Are : List Field → Type 0) (kind : Kind) → ((braces : List Field) → Contains (braces_in kind) braces → Are braces) → InnerSays Are kind (inner_of types kind)
    inner_says Are (Union' shape row) inside =
        by_row (row_of types no_fields row)
        (row_says Are (items-the_row-Field _ row) [] no_fields row refl (inside (items-the_row-Field _ row) (contains_first (items-the_row-Field _ row) (braces_in_row row)))
        (λ braces there. inside braces (contains_later (items-the_row-Field _ row) (braces_in_row row) braces there)) none_done)
      where
        by_row : (o : Result Inside LayoutCause) → RowSays Are (items-the_row-Field _ row) (braces_in_row row) o → InnerSays Are (Union' shape row) o
        by_row (Ok inner) says = says
        by_row (Err cause) fault = fault
    inner_says Are Ptr inside = tt
    inner_says Are Auth inside = tt
    inner_says Are U8 inside = tt
    inner_says Are U16 inside = tt
    inner_says Are U32 inside = tt
    inner_says Are U64 inside = tt
    inner_says Are (Bytes n) inside = tt
    inner_says Are (Struct name) inside = tt

    row_says : {m : _} (Are : List Field → Type 0) (whole_fields done : List Field) (so_far : Inside) (row : Row_of-Field m) → whole_fields ≡ done ++ items-the_row-Field m row → Are whole_fields →
        ((braces : List Field) → Contains (braces_in_row row) braces → Are braces) → AreDone done so_far → RowSays Are whole_fields (braces_in_row row) (row_of types so_far row)
    row_says Are whole_fields done so_far end_of-Field parts here inside are =
        (subst (λ (fields : List Field). AreDone fields so_far) (sym (parts ∙ append-nil done)) are, λ braces none. contains_none braces none)
    row_says Are whole_fields done so_far (more_of-Field kind name count rest) parts here inside are =
        let f : Field = record { kind = kind; name = name; count = count } in
        by_says (FieldSays Are done f) (RowSays Are whole_fields (braces_in kind ++ braces_in_row rest)) (then_do (inner_of types kind) (one_field types true so_far kind name count)) (λ more. row_of types more rest)
        (by_says (InnerSays Are kind) (FieldSays Are done f) (inner_of types kind) (one_field types true so_far kind name count)
        (inner_says Are kind (λ braces there. inside braces (Contains-append_left (braces_in kind) (braces_in_row rest) braces there)))
        (λ inner is. field_says Are true done f (items-the_row-Field _ rest) so_far inner (subst Are parts here) (λ braces there. inside braces (Contains-append_left (braces_in kind) (braces_in_row rest) braces there)) are is)
        (λ cause fault. fault))
        (λ more says. by_rest more says.1 (row_says Are whole_fields (done ++ f ∷ []) more rest (parts ∙ sym (append_assoc done (f ∷ []) (items-the_row-Field _ rest))) here
        (λ braces there. inside braces (Contains-append_right (braces_in kind) (braces_in_row rest) braces there)) says.0))
        (λ cause fault. fault)
      where
        by_rest : (more : Inside) → AreSound (braces_in kind) → RowSays Are whole_fields (braces_in_row rest) (row_of types more rest) → RowSays Are whole_fields (braces_in kind ++ braces_in_row rest) (row_of types more rest)
        by_rest more sound says = by_result (row_of types more rest) says
          where
            by_result : (o : Result Inside LayoutCause) → RowSays Are whole_fields (braces_in_row rest) o → RowSays Are whole_fields (braces_in kind ++ braces_in_row rest) o
            by_result (Ok inside) says = (says.0, both_sound (braces_in kind) (braces_in_row rest) sound says.1)
            by_result (Err cause) fault = fault

  pub fields_say : (Are : List Field → Type 0) (whole_fields done : List Field) (so_far : Inside) (fields : List Field) → whole_fields ≡ done ++ fields → Are whole_fields →
      ((braces : List Field) → Contains (braces_in_fields fields) braces → Are braces) → AreDone done so_far → RowSays Are whole_fields (braces_in_fields fields) (fields_from types false so_far fields)
  fields_say Are whole_fields done so_far [] parts here inside are =
      (subst (λ (fields : List Field). AreDone fields so_far) (sym (parts ∙ append-nil done)) are, λ braces none. contains_none braces none)
  fields_say Are whole_fields done so_far (f ∷ fields) parts here inside are =
      by_says (FieldSays Are done f) (RowSays Are whole_fields (braces_in f.kind ++ braces_in_fields fields)) (then_do (inner_of types f.kind) (one_field types false so_far f.kind f.name f.count)) (λ more. fields_from types false more fields)
      (by_says (InnerSays Are f.kind) (FieldSays Are done f) (inner_of types f.kind) (one_field types false so_far f.kind f.name f.count)
      (inner_says Are f.kind (λ braces there. inside braces (Contains-append_left (braces_in f.kind) (braces_in_fields fields) braces there)))
      (λ inner is. field_says Are false done f fields so_far inner (subst Are parts here) (λ braces there. inside braces (Contains-append_left (braces_in f.kind) (braces_in_fields fields) braces there)) are is)
      (λ cause fault. fault))
      (λ more says. by_result says.1 (fields_from types false more fields) (fields_say Are whole_fields (done ++ f ∷ []) more fields (parts ∙ sym (append_assoc done (f ∷ []) fields)) here
      (λ braces there. inside braces (Contains-append_right (braces_in f.kind) (braces_in_fields fields) braces there)) says.0))
      (λ cause fault. fault)
    where
      by_result : AreSound (braces_in f.kind) → (o : Result Inside LayoutCause) → RowSays Are whole_fields (braces_in_fields fields) o → RowSays Are whole_fields (braces_in f.kind ++ braces_in_fields fields) o
      by_result sound (Ok inside) says = (says.0, both_sound (braces_in f.kind) (braces_in_fields fields) sound says.1)
      by_result sound (Err cause) fault = fault
