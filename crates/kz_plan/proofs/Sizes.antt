-- The layouts of declarations have at most 8192 bytes.
use Rattle.std.proofs.Common.{◌≡◌, ℕ, zero, suc, ◌+◌, ◌-◌, ◌*◌, ◌/◌, ◌≤◌, ◌<◌, ◌==◌, nat_lt, Bool, true, false, cond, List, [], ◌∷◌, length, max, Option, Some, None, Result, Ok, Err, All, IfOk, refl, ap, sym, ◌∙◌, arith, inl, inr}
use Rattle.std.proofs.Math.Nat.{div-lt_iff_lt-mul, mul-le-mul_left, mul_comm}
use Rattle.std.proofs.lemmas.Bool.{cases_lt}
use Rattle.std.proofs.lemmas.Bool.Decides.{nat_tests}
use Rattle.std.proofs.lemmas.List.Elements.{All-map, All-push}
use Rattle.std.proofs.lemmas.Result.{IfOk-weaker}
use Rattle.std.specs.List.{slice_get}
use Rattle.kz_model.specs.declared.bundle.Kind.{Kind, Union', Row_of-Field, end_of-Field, more_of-Field}
use Rattle.kz_model.specs.declared.bundle.Kind.TheVariants.{Ptr, Auth, U8, U16, U32, U64, Bytes, Struct}
use Rattle.kz_model.specs.declared.bundle.Field.{Field}
use Rattle.kz_model.specs.declared.bundle.TypeDecl.{TypeDecl}
use Rattle.kz_model.specs.declared.layout.LayoutCause.{LayoutCause}
use Rattle.kz_model.specs.Types.Cover.{Covered, layout_of, placed, rounded, round_up}
use Rattle.kz_model.specs.Types.Layouts.{Types, Inside, Text, no_fields, then_do, place_of, declared_one, earlier_one, whole, own_cover, offset_of, placed_at, with_cover, named, has, one_field, inner_of, row_of, fields_from, is_earlier, type_cover, found_at, with_earlier, types_from, all_layouts, layouts_of, names_of}

-- the alignment divides 8192
record IsAligned (m : Covered) : Type 0 where
  times : ℕ
  divides : times * m.align ≡ 8192

-- and the size is at most that
record IsSmall (m : Covered) : Type 0 where
  size : m.size ≤ 8192
  aligned : IsAligned m

abbrev IsSmallInside : Inside → Type 0
IsSmallInside inside = IsSmall inside.body

then_if : {A B E : Type 0} (P : A → Type 0) (Q : B → Type 0) (r : Result A E) (f : A → Result B E) → IfOk r P → ((a : A) → P a → IfOk (f a) Q) → IfOk (then_do r f) Q
then_if P Q (Ok a) f first rest = rest a first
then_if P Q (Err e) f first rest = tt

-- ---- bodies

some-align : (times align : ℕ) → times * align ≡ 8192 → 0 < align
some-align times zero divides = absurd (omega (arith, divides, mul_comm times zero))
some-align times (suc align) divides = omega arith

round-small : (n align times : ℕ) → times * align ≡ 8192 → n ≤ 8192 → round_up n align ≤ 8192
round-small n align times divides small =
    let some : 0 < align = some-align times align divides in
    let wide : (times + 1) * align ≡ 8192 + align = omega (arith, divides) in
    let few : (n + align - 1) / align < times + 1 = (div-lt_iff_lt-mul some).1 (omega arith) in
    let at_most : align * ((n + align - 1) / align) ≤ align * times = mul-le-mul_left align (omega arith) in
    omega (arith, mul_comm align ((n + align - 1) / align), mul_comm align times)

rounded-small : (m : Covered) → IsSmall m → IsSmall (rounded m)
rounded-small m is = record {
  size = round-small m.size m.align is.aligned.times is.aligned.divides is.size;
  aligned = record { times = is.aligned.times; divides = is.aligned.divides };
}

whole-small : (inside : Inside) → IsSmallInside inside → IfOk (whole inside) IsSmall
whole-small inside is =
    elim (length inside.names == 0) as (λ b. IfOk (cond b (Err LayoutCause.Empty) (Ok (rounded inside.body))) IsSmall) [
      | true ↦ tt
      | false ↦ rounded-small inside.body is
    ]

no_fields-small : IsSmallInside no_fields
no_fields-small = record { size = omega arith; aligned = record { times = 8192; divides = refl } }

placed-aligned : (offset count : ℕ) (body m : Covered) → IsAligned body → IsAligned m → IsAligned (placed offset body count m)
placed-aligned offset count body m one other =
    elim (cases_lt body.align m.align) [
      | inl less ↦ let same : m.align ≡ max body.align m.align = omega arith in
          record { times = other.times; divides = ap (λ n. other.times * n) (sym same) ∙ other.divides }
      | inr more ↦ let same : body.align ≡ max body.align m.align = omega arith in
          record { times = one.times; divides = ap (λ n. one.times * n) (sym same) ∙ one.divides }
    ]

placed-small : (in_union : Bool) (body : Covered) (count : ℕ) (m : Covered) → IsSmall body → IsAligned m → IfOk (with_cover in_union body count m) IsSmall
placed-small in_union body count m is aligned = at (offset_of in_union body m)
  where
    at : (offset : ℕ) → IfOk (placed_at offset body count m) IsSmall
    at offset =
        elim (nat_lt 8192 (offset + count * m.size)) as (λ b. nat_lt 8192 (offset + count * m.size) ≡ b →
        IfOk (cond b (Err (LayoutCause.TooLarge (offset + count * m.size))) (Ok (placed offset body count m))) IsSmall) [
          | true ↦ λ e. tt
          | false ↦ λ e.
              let low : offset + count * m.size ≤ 8192 = grind (arith, nat_tests) in
              record { size = omega (arith, is.size); aligned = placed-aligned offset count body m is.aligned aligned }
        ] refl

-- ---- fields

-- the earlier types have such alignments
abbrev AreAligned : Types → Type 0
AreAligned types = All IsAligned types.earlier

earlier-aligned : (earlier : List Covered) (place : ℕ) → All IsAligned earlier → IfOk (earlier_one (slice_get earlier place)) IsAligned
earlier-aligned [] place all = tt
earlier-aligned (m ∷ earlier) zero all = all 0 m (omega arith)
earlier-aligned (m ∷ earlier) (suc place) all = earlier-aligned earlier place (λ k d inside. all (suc k) d (omega arith))

declared-aligned : (earlier : List Covered) (place : Option ℕ) → All IsAligned earlier → IfOk (declared_one earlier place) IsAligned
declared-aligned earlier None all = tt
declared-aligned earlier (Some place) all = earlier-aligned earlier place all

own-aligned : (types : Types) (inner : Inside) (kind : Kind) → AreAligned types → IsSmallInside inner → IfOk (own_cover types inner kind) IsAligned
own-aligned types inner Ptr all is = record { times = 1024; divides = refl }
own-aligned types inner Auth all is = record { times = 1024; divides = refl }
own-aligned types inner U8 all is = record { times = 8192; divides = refl }
own-aligned types inner U16 all is = record { times = 4096; divides = refl }
own-aligned types inner U32 all is = record { times = 2048; divides = refl }
own-aligned types inner U64 all is = record { times = 1024; divides = refl }
own-aligned types inner (Bytes n) all is = record { times = 8192; divides = refl }
own-aligned types inner (Struct name) all is = declared-aligned types.earlier (place_of name types.names) all
own-aligned types inner (Union' shape row) all is = IfOk-weaker (whole inner) IsSmall IsAligned (λ m small. small.aligned) (whole-small inner is)

field-small : (types : Types) (in_union : Bool) (so_far : Inside) (kind : Kind) (name : Text) (count : ℕ) (inner : Inside) → AreAligned types → IsSmallInside so_far → IsSmallInside inner →
    IfOk (one_field types in_union so_far kind name count inner) IsSmallInside
field-small types in_union so_far kind name count inner all is is_inner =
    elim (has name so_far.names) as (λ b. IfOk (cond b (Err LayoutCause.SameName)
    (then_do (then_do (own_cover types inner kind) (with_cover in_union so_far.body count)) (named so_far.names name))) IsSmallInside) [
      | true ↦ tt
      | false ↦ then_if IsSmall IsSmallInside (then_do (own_cover types inner kind) (with_cover in_union so_far.body count)) (named so_far.names name)
          (then_if IsAligned IsSmall (own_cover types inner kind) (with_cover in_union so_far.body count) (own-aligned types inner kind all is_inner)
          (λ m aligned. placed-small in_union so_far.body count m is aligned))
          (λ body small. small)
    ]

mutual
  inner-small : (types : Types) (kind : Kind) → AreAligned types → IfOk (inner_of types kind) IsSmallInside
  inner-small types Ptr all = no_fields-small
  inner-small types Auth all = no_fields-small
  inner-small types U8 all = no_fields-small
  inner-small types U16 all = no_fields-small
  inner-small types U32 all = no_fields-small
  inner-small types U64 all = no_fields-small
  inner-small types (Bytes n) all = no_fields-small
  inner-small types (Struct name) all = no_fields-small
  inner-small types (Union' shape row) all = row-small types no_fields row all no_fields-small

  row-small : {m : _} (types : Types) (so_far : Inside) (row : Row_of-Field m) → AreAligned types → IsSmallInside so_far → IfOk (row_of types so_far row) IsSmallInside
  row-small types so_far end_of-Field all is = is
  row-small types so_far (more_of-Field kind name count rest) all is =
      then_if IsSmallInside IsSmallInside (then_do (inner_of types kind) (one_field types true so_far kind name count)) (λ more. row_of types more rest)
      (then_if IsSmallInside IsSmallInside (inner_of types kind) (one_field types true so_far kind name count) (inner-small types kind all)
      (λ inner small. field-small types true so_far kind name count inner all is small))
      (λ more small. row-small types more rest all small)

fields-small : (types : Types) (so_far : Inside) (fields : List Field) → AreAligned types → IsSmallInside so_far → IfOk (fields_from types false so_far fields) IsSmallInside
fields-small types so_far [] all is = is
fields-small types so_far (f ∷ fields) all is =
    then_if IsSmallInside IsSmallInside (then_do (inner_of types f.kind) (one_field types false so_far f.kind f.name f.count)) (λ more. fields_from types false more fields)
    (then_if IsSmallInside IsSmallInside (inner_of types f.kind) (one_field types false so_far f.kind f.name f.count) (inner-small types f.kind all)
    (λ inner small. field-small types false so_far f.kind f.name f.count inner all is small))
    (λ more small. fields-small types more fields all small)

-- ---- declarations

type-small : (types : Types) (decl : TypeDecl) → AreAligned types → IfOk (type_cover types decl) IsSmall
type-small types decl all =
    elim (is_earlier (length types.earlier) (place_of decl.name types.names)) as (λ b. IfOk (cond b (Err LayoutCause.SameName) (then_do (fields_from types false no_fields decl.fields) whole)) IsSmall) [
      | true ↦ tt
      | false ↦ then_if IsSmallInside IsSmall (fields_from types false no_fields decl.fields) whole (fields-small types no_fields decl.fields all no_fields-small) whole-small
    ]

found-small : (at : ℕ) (r : Result Covered LayoutCause) → IfOk r IsSmall → IfOk (found_at at r) IsSmall
found-small at (Ok m) is = is
found-small at (Err cause) is = tt

types-small : (types : Types) (decls : List TypeDecl) → All IsSmall types.earlier → IfOk (types_from types decls) (All IsSmall)
types-small types [] all = all
types-small types (decl ∷ decls) all =
    then_if IsSmall (All IsSmall) (found_at (length types.earlier) (type_cover types decl)) (λ m. types_from (with_earlier types m) decls)
    (found-small (length types.earlier) (type_cover types decl) (type-small types decl (λ k d inside. (all k d inside).aligned)))
    (λ m is. types-small (with_earlier types m) decls (All-push IsSmall types.earlier m all is))

-- each layout has at most 8192 bytes
pub layouts-small : (decls : List TypeDecl) → IfOk (layouts_of decls) (All (λ layout. layout.size ≤ 8192))
layouts-small decls =
    then_if (All IsSmall) (All (λ layout. layout.size ≤ 8192)) (types_from (record { names = names_of decls; earlier = [] }) decls) all_layouts
    (types-small (record { names = names_of decls; earlier = [] }) decls (λ k d inside. absurd (omega arith)))
    (λ covers all. All-map (λ layout. layout.size ≤ 8192) layout_of covers (λ k d inside. (all k d inside).size))
