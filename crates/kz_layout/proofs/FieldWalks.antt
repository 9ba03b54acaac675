-- What the fields of some braces cover ends and is aligned as their places are.
use Rattle.std.proofs.Common.{◌≡◌, ℕ, ◌+◌, ◌*◌, ◌%◌, ◌≤◌, ◌==◌, nat_lt, Bool, true, false, if◌then◌else◌, List, [], ◌∷◌, length, max, refl, sym, ap, ◌∙◌, subst, arith, Option, Some, None, Result, Ok, Err, slice_get, All, inl, inr}
use Rattle.std.proofs.lemmas.Bool.{cases_lt, lt-ltb}
use Rattle.std.proofs.lemmas.List.Elements.{All-nil, All-cons}
use Rattle.kz_model.specs.declared.bundle.Kind.{Kind, Union', Row_of-Field, end_of-Field, more_of-Field}
use Rattle.kz_model.specs.declared.bundle.Kind.TheVariants.{Ptr, Auth, U8, U16, U32, U64, Bytes, Struct}
use Rattle.kz_model.specs.declared.bundle.Field.{Field}
use Rattle.kz_model.specs.declared.record.Layout.{Layout}
use Rattle.kz_model.specs.declared.layout.LayoutCause.{LayoutCause}
use Rattle.kz_model.specs.declared.layout.LayoutCause.TheVariants.{SameName, Empty, TooLarge}
use Rattle.kz_model.specs.Types.Cover.{Covered, plain, placed, rounded, round_up, layout_of}
use Rattle.kz_model.specs.Types.Layouts.{Types, Inside, Text, no_fields, then_do, has, named, place_of, earlier_one, declared_one, whole, own_cover, offset_of, placed_at, with_cover, one_field, inner_of, row_of, fields_from}
use Rattle.kz_layout.specs.FieldPlaces.{Extent, FieldPlace, extent, field_place, next_place, end_of, greatest_end, greatest_align, extent_over, found_extent, declared_extent, kind_extent, union_places, places_from}
use Rattle.kz_layout.specs.FieldLaws.{ArePlaced, AreUnionsPlaced, AreRowUnionsPlaced}
use Rattle.kz_layout.proofs.Overs.{le-round_up}
use Rattle.kz_layout.proofs.Bodies.{positive}
use Rattle.kz_layout.proofs.PlacedFields.{IsEven, IsEvenPlace, Rises, round_up_even, greatest_align-is, all_placed}

-- ---- what went well, part by part

pub then_do_ok : {A B E : Type 0} (first : Result A E) (next : A → Result B E) (b : B) → then_do first next ≡ Ok b →
    (a : A) × (first ≡ Ok a) × (next a ≡ Ok b)
then_do_ok (Ok a) next b is = (a, refl, is)
then_do_ok (Err e) next b is = cc

pub else_ok : {A E : Type 0} (test : Bool) (e : E) (other : Result A E) (a : A) → (if test then Err e else other) ≡ Ok a → (test ≡ false) × (other ≡ Ok a)
else_ok true e other a is = cc
else_ok false e other a is = (refl, is)

pub whole_ok : (inside : Inside) (m : Covered) → whole inside ≡ Ok m → rounded inside.body ≡ m
whole_ok inside m is =
    let parts = else_ok (length inside.names == 0) Empty (Ok (rounded inside.body)) m is in
    let same = parts.1 in cc

-- a field that was placed at this offset
pub record IsOneMore (offset count : ℕ) (before m after : Covered) : Type 0 where
  pub fits : offset + count * m.size ≤ 8192
  pub is : after ≡ placed offset before count m

within : (n : ℕ) → nat_lt 8192 n ≡ false → n ≤ 8192
within n is = elim (cases_lt 8192 n) [
  | inl lt ↦ let above = lt-ltb 8192 n lt in cc
  | inr le ↦ le
]

placed_ok : (offset count : ℕ) (before m after : Covered) → placed_at offset before count m ≡ Ok after → IsOneMore offset count before m after
placed_ok offset count before m after is =
    let parts = else_ok (nat_lt 8192 (offset + count * m.size)) (TooLarge (offset + count * m.size)) (Ok (placed offset before count m)) after is in
    let same = parts.1 in
    record { fits = within (offset + count * m.size) parts.0; is = cc }

pub one_field_ok : (types : Types) (in_union : Bool) (so_far : Inside) (kind : Kind) (name : Text) (count : ℕ) (inner more : Inside) →
    one_field types in_union so_far kind name count inner ≡ Ok more →
    (m : Covered) × (own_cover types inner kind ≡ Ok m) × IsOneMore (offset_of in_union so_far.body m) count so_far.body m more.body
one_field_ok types in_union so_far kind name count inner more is =
    let new = else_ok (has name so_far.names) SameName (then_do (then_do (own_cover types inner kind) (with_cover in_union so_far.body count)) (named so_far.names name)) more is in
    let body = then_do_ok (then_do (own_cover types inner kind) (with_cover in_union so_far.body count)) (named so_far.names name) more new.1 in
    let own = then_do_ok (own_cover types inner kind) (with_cover in_union so_far.body count) body.0 body.1 in
    let last = body.2 in
    let same : body.0 ≡ more.body = cc in (
      own.0,
      own.1,
      subst (λ after. IsOneMore (offset_of in_union so_far.body own.0) count so_far.body own.0 after) same
          (placed_ok (offset_of in_union so_far.body own.0) count so_far.body own.0 body.0 own.2),
    )

earlier_one_ok : (found : Option Covered) (m : Covered) → earlier_one found ≡ Ok m → found ≡ Some m
earlier_one_ok (Some n) m is = let same : n ≡ m = cc in ap (λ x. Some x) same
earlier_one_ok None m is = cc

pub declared_ok : (earlier : List Covered) (place : Option ℕ) (m : Covered) → declared_one earlier place ≡ Ok m →
    (at : ℕ) × (place ≡ Some at) × (slice_get earlier at ≡ Some m)
declared_ok earlier None m is = cc
declared_ok earlier (Some at) m is = (at, refl, earlier_one_ok (slice_get earlier at) m is)

-- ---- sizes and alignments of covers

abbrev pub cover_extent : Covered → Extent
cover_extent m = extent m.size m.align

-- a cover has grown over fields at these places
pub record GrowsOver (fields : List FieldPlace) (before after : Covered) : Type 0 where
  pub size : after.size ≡ max before.size (greatest_end fields)
  pub align : after.align ≡ max before.align (greatest_align fields)
  pub even : All IsEvenPlace fields
  pub few : greatest_end fields ≤ 8192

grows_none : (before after : Covered) → 1 ≤ before.align → before ≡ after → GrowsOver [] before after
grows_none before after some same = record {
  size = ap (λ m. m.size) (sym same) ∙ omega arith;
  align = ap (λ m. m.align) (sym same) ∙ omega arith;
  even = All-nil IsEvenPlace;
  few = omega arith;
}

grows_one : (fields : List FieldPlace) (offset count : ℕ) (e : Extent) (before m more after : Covered) → cover_extent m ≡ e → IsEven e → offset % e.align ≡ 0 →
    IsOneMore offset count before m more → GrowsOver fields more after → GrowsOver (field_place offset count e ∷ fields) before after
grows_one fields offset count e before m more after same even at one rest =
    let long : m.size ≡ e.size = ap (λ x. x.size) same in
    let wide : m.align ≡ e.align = ap (λ x. x.align) same in
    let end : offset + count * m.size ≡ offset + count * e.size = ap (λ n. offset + count * n) long in
    let size : more.size ≡ max before.size (offset + count * m.size) = ap (λ x. x.size) one.is in
    let align : more.align ≡ max before.align m.align = ap (λ x. x.align) one.is in
    record {
      size = omega (arith, rest.size, size, end);
      align = omega (arith, rest.align, align, wide);
      even = All-cons IsEvenPlace (field_place offset count e) fields (record { item = even; begins = at }) rest.even;
      few = omega (arith, rest.few, one.fits, end);
    }

more_aligned : (offset count : ℕ) (before m more : Covered) → 1 ≤ before.align → IsOneMore offset count before m more → 1 ≤ more.align
more_aligned offset count before m more some one = let align : more.align ≡ max before.align m.align = ap (λ x. x.align) one.is in omega arith

-- braces over fields that grew from nothing
pub record IsOver (fields : List FieldPlace) (m : Covered) : Type 0 where
  pub extent : cover_extent m ≡ extent_over fields
  pub placed : ArePlaced fields

pub over_all : (fields : List FieldPlace) (inside : Inside) (m : Covered) → GrowsOver fields no_fields.body inside.body → whole inside ≡ Ok m → IsOver fields m
over_all fields inside m grows is =
    let some = positive (greatest_align fields) (greatest_align-is fields grows.even) in
    let size : inside.body.size ≡ greatest_end fields = omega (arith, grows.size) in
    let align : inside.body.align ≡ greatest_align fields = omega (arith, grows.align) in
    record {
      extent = ap cover_extent (sym (whole_ok inside m is)) ∙ ap (λ n. extent (round_up n inside.body.align) inside.body.align) size
          ∙ ap (λ a. extent (round_up (greatest_end fields) a) a) align;
      placed = all_placed fields grows.few grows.even;
    }

-- ---- kinds

abbrev pub ok_plain : ℕ → ℕ → ℕ → Result Covered LayoutCause
ok_plain size align code = Ok (plain size align code)

is_plain : (size align code : ℕ) (m : Covered) → ok_plain size align code ≡ Ok m → cover_extent m ≡ extent size align
is_plain size align code m is = let same : m ≡ plain size align code = cc in ap cover_extent same

module _ (types : Types) (layouts : List Layout)
    (known : (place : ℕ) (m : Covered) → slice_get types.earlier place ≡ Some m → (slice_get layouts place ≡ Some (layout_of m)) × IsEven (cover_extent m)) where
  -- a kind's cover has the kind's extent
  pub record IsOwn (kind : Kind) (m : Covered) : Type 0 where
    pub extent : cover_extent m ≡ kind_extent types.names layouts kind
    pub even : IsEven (kind_extent types.names layouts kind)
    pub unions : AreUnionsPlaced types.names layouts kind

  -- fields of a union cover what is at their places
  pub record IsRow {m : _} (row : Row_of-Field m) (before after : Covered) : Type 0 where
    pub grows : GrowsOver (union_places types.names layouts row) before after
    pub unions : AreRowUnionsPlaced types.names layouts row

  is_declared : (place : Option ℕ) (m : Covered) → declared_one types.earlier place ≡ Ok m → (cover_extent m ≡ declared_extent layouts place) × IsEven (cover_extent m)
  is_declared place m is =
      let found = declared_ok types.earlier place m is in
      let there = known found.0 m found.2 in
      (sym (ap (declared_extent layouts) found.1 ∙ ap found_extent there.0), there.1)

  mutual
    own_is : (kind : Kind) (inner : Inside) (m : Covered) → inner_of types kind ≡ Ok inner → own_cover types inner kind ≡ Ok m → IsOwn kind m
    own_is Ptr inner m inside is = record { extent = is_plain 8 8 _ m is; even = record { aligned = refl; multiple = refl }; unions = tt }
    own_is Auth inner m inside is = record { extent = is_plain 8 8 _ m is; even = record { aligned = refl; multiple = refl }; unions = tt }
    own_is U8 inner m inside is = record { extent = is_plain 1 1 _ m is; even = record { aligned = refl; multiple = refl }; unions = tt }
    own_is U16 inner m inside is = record { extent = is_plain 2 2 _ m is; even = record { aligned = refl; multiple = refl }; unions = tt }
    own_is U32 inner m inside is = record { extent = is_plain 4 4 _ m is; even = record { aligned = refl; multiple = refl }; unions = tt }
    own_is U64 inner m inside is = record { extent = is_plain 8 8 _ m is; even = record { aligned = refl; multiple = refl }; unions = tt }
    own_is (Bytes n) inner m inside is = record { extent = is_plain n 1 _ m is; even = record { aligned = refl; multiple = omega arith }; unions = tt }
    own_is (Struct name) inner m inside is =
        let there = is_declared (place_of name types.names) m is in
        record { extent = there.0; even = subst IsEven there.0 there.1; unions = tt }
    own_is (Union' shape row) inner m inside is =
        let rows = row_is row no_fields inner (omega arith) inside in
        let over = over_all (union_places types.names layouts row) inner m rows.grows is in
        record {
          extent = over.extent;
          even = record { aligned = over.placed.fit.aligned; multiple = over.placed.fit.multiple };
          unions = (over.placed, rows.unions);
        }

    row_is : {m : _} (row : Row_of-Field m) (so_far after : Inside) → 1 ≤ so_far.body.align → row_of types so_far row ≡ Ok after → IsRow row so_far.body after.body
    row_is end_of-Field so_far after some is = let same : so_far ≡ after = cc in record { grows = grows_none so_far.body after.body some (ap (λ i. i.body) same); unions = tt }
    row_is (more_of-Field kind name count rest) so_far after some is =
        let first = then_do_ok (then_do (inner_of types kind) (one_field types true so_far kind name count)) (λ more. row_of types more rest) after is in
        let inner = then_do_ok (inner_of types kind) (one_field types true so_far kind name count) first.0 first.1 in
        let one = one_field_ok types true so_far kind name count inner.0 first.0 inner.2 in
        let own = own_is kind inner.0 one.0 inner.1 one.1 in
        let more = row_is rest first.0 after (more_aligned 0 count so_far.body one.0 first.0.body some one.2) first.2 in
        record {
          grows = grows_one (union_places types.names layouts rest) 0 count (kind_extent types.names layouts kind) so_far.body one.0 first.0.body after.body
              own.extent own.even (omega (arith, positive (kind_extent types.names layouts kind).align own.even.aligned)) one.2 more.grows;
          unions = (own.unions, more.unions);
        }

  -- ---- a struct

  pub record AreFieldsOver (fields : List Field) (end : ℕ) (before after : Covered) : Type 0 where
    pub grows : GrowsOver (places_from types.names layouts end fields) before after
    pub rises : Rises end (places_from types.names layouts end fields)
    pub unions : All (λ f. AreUnionsPlaced types.names layouts f.kind) fields

  pub fields_are : (fields : List Field) (end : ℕ) (so_far after : Inside) → end ≡ so_far.body.size → 1 ≤ so_far.body.align →
      fields_from types false so_far fields ≡ Ok after → AreFieldsOver fields end so_far.body after.body
  fields_are [] end so_far after at some is =
      let same : so_far ≡ after = cc in
      record { grows = grows_none so_far.body after.body some (ap (λ i. i.body) same); rises = tt; unions = All-nil (λ f. AreUnionsPlaced types.names layouts f.kind) }
  fields_are (f ∷ fields) end so_far after at some is =
      let first = then_do_ok (then_do (inner_of types f.kind) (one_field types false so_far f.kind f.name f.count)) (λ more. fields_from types false more fields) after is in
      let inner = then_do_ok (inner_of types f.kind) (one_field types false so_far f.kind f.name f.count) first.0 first.1 in
      let one = one_field_ok types false so_far f.kind f.name f.count inner.0 first.0 inner.2 in
      let own = own_is f.kind inner.0 one.0 inner.1 one.1 in
      let e = kind_extent types.names layouts f.kind in
      let long : one.0.size ≡ e.size = ap (λ x. x.size) own.extent in
      let offset : round_up so_far.body.size one.0.align ≡ round_up end e.align =
      ap (λ n. round_up n one.0.align) (sym at) ∙ ap (λ a. round_up end a) (ap (λ x. x.align) own.extent) in
      let placed : IsOneMore (round_up end e.align) f.count so_far.body one.0 first.0.body =
      subst (λ o. IsOneMore o f.count so_far.body one.0 first.0.body) offset one.2 in
      let higher = le-round_up end e.align (positive e.align own.even.aligned) in
      let size : first.0.body.size ≡ max so_far.body.size (round_up end e.align + f.count * one.0.size) = ap (λ x. x.size) placed.is in
      let same_end : round_up end e.align + f.count * one.0.size ≡ round_up end e.align + f.count * e.size = ap (λ n. round_up end e.align + f.count * n) long in
      let next : end_of (next_place end f.count e) ≡ first.0.body.size = omega arith in
      let more = fields_are fields (end_of (next_place end f.count e)) first.0 after next
      (more_aligned (round_up end e.align) f.count so_far.body one.0 first.0.body some placed) first.2 in
      record {
        grows = grows_one (places_from types.names layouts (end_of (next_place end f.count e)) fields) (round_up end e.align) f.count e so_far.body one.0 first.0.body after.body
            own.extent own.even (round_up_even end e.align) placed more.grows;
        rises = (higher, more.rises);
        unions = All-cons (λ f. AreUnionsPlaced types.names layouts f.kind) f fields own.unions more.unions;
      }
