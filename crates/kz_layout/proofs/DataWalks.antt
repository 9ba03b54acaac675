-- What the fields of some braces cover is data alone exactly where none of them holds a pointer.
use Rattle.std.proofs.Common.{◌≡◌, ◌⊎◌, inl, inr, ℕ, zero, suc, ◌+◌, ◌*◌, ◌≤◌, ◌==◌, ◌&&◌, ◌||◌, Bool, true, false, not, List, [], ◌∷◌, length, map, replicate, max, refl, sym, ap, ◌∙◌, subst, arith, Option, Some, Ok, slice_get, All}
use Rattle.std.proofs.Math.Bool.{or_assoc, or-false, not-not}
use Rattle.std.proofs.Math.Nat.{mul-le-mul}
use Rattle.std.proofs.lemmas.List.{length-replicate}
use Rattle.std.proofs.lemmas.List.Elements.{All-head, All-tail, All-get_or}
use Rattle.std.proofs.lemmas.Option.{get_or_from_slice_get, slice_get_within}
use Rattle.kz_model.specs.declared.bundle.Kind.{Kind, Union', Row_of-Field, end_of-Field, more_of-Field}
use Rattle.kz_model.specs.declared.bundle.Kind.TheVariants.{Ptr, Auth, U8, U16, U32, U64, Bytes, Struct}
use Rattle.kz_model.specs.declared.bundle.Field.{Field}
use Rattle.kz_model.specs.declared.bundle.TypeDecl.{TypeDecl}
use Rattle.kz_model.specs.declared.record.Layout.{Layout}
use Rattle.kz_model.specs.declared.layout.LayoutCause.TheVariants.{Empty}
use Rattle.kz_model.specs.Types.Cover.{Covered, over, pointer, «data», authenticated, plain, placed, rounded, round_up, at_offset, layout_of}
use Rattle.kz_model.specs.Types.Layouts.{Types, Text, Inside, no_fields, then_do, place_of, declared_one, whole, own_cover, offset_of, one_field, inner_of, row_of, fields_from, type_cover, names_of, IsSoundKind, AreSound, IsSoundField}
use Rattle.kz_layout.specs.PointerLaws.{declared_holds_pointer, layout_holds_pointer, holds_pointer, row_holds_pointer, fields_hold_pointer, IsToldBy, DataHoldsNoPointer}
use Rattle.kz_layout.proofs.Overs.{length-over, length-at_offset, le-round_up}
use Rattle.kz_layout.proofs.DataCovers.{all_data, all_data-bytes, all_data-placed, all_data-rounded, layout_is_data}
use Rattle.kz_layout.proofs.FieldWalks.{then_do_ok, else_ok, IsOneMore, one_field_ok, ok_plain, whole_ok, declared_ok}
use Rattle.kz_layout.proofs.TypeWalks.{AreAmong, EachFits, layout_at, type_ok, each_type}

-- a cover of its size, whose bytes are of data alone exactly where this is false
record IsTold (m : Covered) (holds : Bool) : Type 0 where
  pub long : length m.cover ≡ m.size
  pub aligned : 1 ≤ m.align
  pub only : all_data m.cover ≡ not holds

-- a kind's cover, or a type's, has a byte too
record IsSomeTold (m : Covered) (holds : Bool) : Type 0 where
  pub some : 1 ≤ m.size
  pub told : IsTold m holds

-- fields have a byte where there is one of them
record IsToldInside (inside : Inside) (holds : Bool) : Type 0 where
  pub some : (length inside.names ≡ 0) ⊎ (1 ≤ inside.body.size)
  pub told : IsTold inside.body holds

no_fields-told : IsToldInside no_fields false
no_fields-told = record { some = inl refl; told = record { long = refl; aligned = omega arith; only = refl } }

either : (a b : Bool) → (not a && not b) ≡ not (a || b)
either true b = refl
either false b = refl

-- one more field
more_told : (offset count : ℕ) (so_far more : Inside) (m : Covered) (a b : Bool) → 1 ≤ count → IsTold so_far.body a → IsSomeTold m b →
    IsOneMore offset count so_far.body m more.body → IsToldInside more (a || b)
more_told offset count so_far more m a b counted told one_told one =
    let before = so_far.body in
    let copies = mul-le-mul {n₁ = 1} {m₁ = 1} {n₂ = count} {m₂ = m.size} counted one_told.some in
    let some : 1 ≤ max before.size (offset + count * m.size) = omega arith in
    let end : offset + count * length m.cover ≡ offset + count * m.size = ap (λ k. offset + count * k) one_told.told.long in
    let long : length (over before.cover (at_offset offset count m.cover)) ≡ max before.size (offset + count * m.size) =
    omega (arith, length-over before.cover (at_offset offset count m.cover), length-at_offset offset count m.cover, end, told.long) in
    let now : IsTold (placed offset before count m) (a || b) =
    record {
      long = long;
      aligned = omega (arith, told.aligned);
      only = all_data-placed offset count before m counted ∙ ap (λ t. t && all_data m.cover) told.only
          ∙ ap (λ t. not a && t) one_told.told.only ∙ either a b;
    } in
    record { some = inr (subst (λ (n : Covered). 1 ≤ n.size) (sym one.is) some); told = subst (λ n. IsTold n (a || b)) (sym one.is) now }

-- whole braces
whole_told : (inside : Inside) (m : Covered) (holds : Bool) → IsToldInside inside holds → whole inside ≡ Ok m → IsSomeTold m holds
whole_told inside m holds told is =
    let body = inside.body in
    let parts = else_ok (length inside.names == 0) Empty (Ok (rounded body)) m is in
    let some = has_byte parts.0 told.some in
    let higher = le-round_up body.size body.align told.told.aligned in
    let all : IsSomeTold (rounded body) holds =
    record {
      some = omega arith;
      told = record {
        long = omega (arith, length-over body.cover (replicate (round_up body.size body.align) 0), length-replicate {A = ℕ} (round_up body.size body.align) 0, told.told.long, higher);
        aligned = told.told.aligned;
        only = all_data-rounded body ∙ told.told.only;
      };
    } in
    subst (λ n. IsSomeTold n holds) (whole_ok inside m is) all
  where
    has_byte : (length inside.names == 0) ≡ false → (length inside.names ≡ 0) ⊎ (1 ≤ inside.body.size) → 1 ≤ inside.body.size
    has_byte named (inl none) = let same = ap (λ n. n == 0) none in cc
    has_byte named (inr some) = some

plain_told : (size align code : ℕ) (m : Covered) (holds : Bool) → 1 ≤ size → 1 ≤ align → all_data (replicate size code) ≡ not holds →
    ok_plain size align code ≡ Ok m → IsSomeTold m holds
plain_told size align code m holds some aligned only is =
    let same : plain size align code ≡ m = cc in
    subst (λ n. IsSomeTold n holds) same (record { some = some; told = record { long = length-replicate size code; aligned = aligned; only = only } })

-- a type's cover, whatever it holds
abbrev IsTypeTold : Covered → Type 0
IsTypeTold m = IsSomeTold m (not (all_data m.cover))

module _ (types : Types) (layouts : List Layout)
    (known : (place : ℕ) (m : Covered) → slice_get types.earlier place ≡ Some m → (slice_get layouts place ≡ Some (layout_of m)) × IsTypeTold m) where
  declared_told : (place : Option ℕ) (m : Covered) → declared_one types.earlier place ≡ Ok m → IsSomeTold m (declared_holds_pointer layouts place)
  declared_told place m is =
      let found = declared_ok types.earlier place m is in
      let there = known found.0 m found.2 in
      let letters : not (all_data m.cover) ≡ layout_holds_pointer (Some (layout_of m)) = ap not (sym (layout_is_data m there.1.told.long)) in
      let pointer : not (all_data m.cover) ≡ declared_holds_pointer layouts place =
      letters ∙ sym (ap (declared_holds_pointer layouts) found.1 ∙ ap layout_holds_pointer there.0) in
      subst (IsSomeTold m) pointer there.1

  mutual
    own_told : (deep : ℕ) (kind : Kind) (inner : Inside) (m : Covered) → IsSoundKind deep kind → inner_of types kind ≡ Ok inner → own_cover types inner kind ≡ Ok m →
        IsSomeTold m (holds_pointer types.names layouts kind)
    own_told deep Ptr inner m sound inside is = plain_told 8 8 pointer m true (omega arith) (omega arith) refl is
    own_told deep Auth inner m sound inside is = plain_told 8 8 authenticated m true (omega arith) (omega arith) refl is
    own_told deep U8 inner m sound inside is = plain_told 1 1 «data» m false (omega arith) (omega arith) refl is
    own_told deep U16 inner m sound inside is = plain_told 2 2 «data» m false (omega arith) (omega arith) refl is
    own_told deep U32 inner m sound inside is = plain_told 4 4 «data» m false (omega arith) (omega arith) refl is
    own_told deep U64 inner m sound inside is = plain_told 8 8 «data» m false (omega arith) (omega arith) refl is
    own_told deep (Bytes n) inner m sound inside is = plain_told n 1 «data» m false sound.0 (omega arith) (all_data-bytes n) is
    own_told deep (Struct name) inner m sound inside is = declared_told (place_of name types.names) m is
    own_told zero (Union' shape row) inner m sound inside is = absurd sound
    own_told (suc deep) (Union' shape row) inner m sound inside is =
        whole_told inner m (row_holds_pointer types.names layouts row) (row_told deep row no_fields inner false sound no_fields-told inside) is

    row_told : {m : _} (deep : ℕ) (row : Row_of-Field m) (so_far after : Inside) (a : Bool) → AreSound deep row → IsToldInside so_far a →
        row_of types so_far row ≡ Ok after → IsToldInside after (a || row_holds_pointer types.names layouts row)
    row_told deep end_of-Field so_far after a sound told is = let same : so_far ≡ after = cc in subst (λ i. IsToldInside i (a || false)) same (subst (IsToldInside so_far) (sym (or-false a)) told)
    row_told deep (more_of-Field kind name count rest) so_far after a sound told is =
        let first = then_do_ok (then_do (inner_of types kind) (one_field types true so_far kind name count)) (λ more. row_of types more rest) after is in
        let inner = then_do_ok (inner_of types kind) (one_field types true so_far kind name count) first.0 first.1 in
        let one = one_field_ok types true so_far kind name count inner.0 first.0 inner.2 in
        let own = own_told deep kind inner.0 one.0 sound.0 inner.1 one.1 in
        let b = holds_pointer types.names layouts kind in
        let more = more_told 0 count so_far first.0 one.0 a b sound.1.0 told.told own one.2 in
        subst (IsToldInside after) (or_assoc a b (row_holds_pointer types.names layouts rest))
        (row_told deep rest first.0 after (a || b) sound.2 more first.2)

  fields_told : (fields : List Field) (so_far after : Inside) (a : Bool) → All (IsSoundField 8) fields → IsToldInside so_far a →
      fields_from types false so_far fields ≡ Ok after → IsToldInside after (a || fields_hold_pointer types.names layouts fields)
  fields_told [] so_far after a sound told is = let same : so_far ≡ after = cc in subst (λ i. IsToldInside i (a || false)) same (subst (IsToldInside so_far) (sym (or-false a)) told)
  fields_told (f ∷ fields) so_far after a sound told is =
      let first = then_do_ok (then_do (inner_of types f.kind) (one_field types false so_far f.kind f.name f.count)) (λ more. fields_from types false more fields) after is in
      let inner = then_do_ok (inner_of types f.kind) (one_field types false so_far f.kind f.name f.count) first.0 first.1 in
      let one = one_field_ok types false so_far f.kind f.name f.count inner.0 first.0 inner.2 in
      let head : IsSoundField 8 f = All-head (IsSoundField 8) f fields sound in
      let own = own_told 8 f.kind inner.0 one.0 head.kind inner.1 one.1 in
      let b = holds_pointer types.names layouts f.kind in
      let more = more_told (offset_of false so_far.body one.0) f.count so_far first.0 one.0 a b head.count.0 told.told own one.2 in
      subst (IsToldInside after) (or_assoc a b (fields_hold_pointer types.names layouts fields))
      (fields_told fields first.0 after (a || b) (All-tail (IsSoundField 8) f fields sound) more first.2)

-- ---- all types

abbrev HasSoundFields : TypeDecl → Type 0
HasSoundFields decl = All (IsSoundField 8) decl.fields

abbrev IsToldAmong : List Text → List Covered → TypeDecl → Covered → Type 0
IsToldAmong names covers decl m = IsToldBy names (map layout_of covers) decl.fields (layout_of m)

type_told : (types : Types) (decl : TypeDecl) (covers : List Covered) (m : Covered) → HasSoundFields decl → EachFits IsTypeTold types.earlier →
    AreAmong types.earlier covers → type_cover types decl ≡ Ok m → IsToldAmong types.names covers decl m × IsTypeTold m
type_told types decl covers m sound fit stay is =
    let layouts = map layout_of covers in
    let fields = type_ok types decl m is in
    let inside = fields_told types layouts (λ place n there. (layout_at covers place n (stay place n there), fit place n there))
    decl.fields no_fields fields.0 false sound no_fields-told fields.1 in
    let all = whole_told fields.0 m (fields_hold_pointer types.names layouts decl.fields) inside fields.2 in (
      record { some = all.some; only = layout_is_data m all.told.long ∙ all.told.only },
      record { some = all.some; told = record { long = all.told.long; aligned = all.told.aligned; only = sym (not-not (all_data m.cover)) } },
    )

-- a declaration among those that are in range
sound_at : (types : List TypeDecl) → All HasSoundFields types → (at : ℕ) (decl : TypeDecl) → slice_get types at ≡ Some decl → HasSoundFields decl
sound_at types sound at decl there =
    subst HasSoundFields (get_or_from_slice_get types at decl decl there) (All-get_or HasSoundFields types at decl (slice_get_within types at decl there) sound)

pub data_holds_no_pointer : DataHoldsNoPointer
data_holds_no_pointer = λ types layouts range is at decl there.
    let all = each_type HasSoundFields IsTypeTold IsToldAmong type_told types layouts (sound_at types range.sound) is in
    let one = all.3 at decl there in
    (layout_of one.0, one.1, subst (λ ls. IsToldBy (names_of types) ls decl.fields (layout_of one.0)) all.2 one.2)
