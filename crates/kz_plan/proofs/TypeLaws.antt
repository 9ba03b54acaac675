-- The laws on the zones of a bundle's types.
use Rattle.std.proofs.Common.{◌≡◌, ℕ, ◌<◌, ◌≤◌, All, None, Some, unwrap_or, [], inl, inr, is_none, length, map, slice_index, refl, ap, sym, ◌∙◌, subst, arith}
use Rattle.std.proofs.Math.ListN.{get_or}
use Rattle.std.proofs.lemmas.Bool.{cases_lt}
use Rattle.std.proofs.lemmas.Result.{IfOk-at_ok}
use Rattle.std.proofs.lemmas.List.{get_or-map}
use Rattle.std.proofs.lemmas.List.Kept.{AllPairs-from_increasing}
use Rattle.kz_model.specs.declared.bundle.Bundle.{Bundle}
use Rattle.kz_model.specs.declared.record.Layout.{Layout}
use Rattle.kz_model.specs.declared.record.Plan.{Plan}
use Rattle.kz_model.specs.Grammar.Valid.{layouts_in, plan_in, IsValid}
use Rattle.kz_model.specs.Run.Journal.{zone_of_type, zone_row}
use Rattle.kz_model.specs.Text.Report.{no_layout}
use Rattle.kz_model.specs.Types.Class.{class_of, kalloc_sizes}
use Rattle.kz_model.specs.Types.Plan.{class_at, data_classes, deals_of, general_count, shape_at, zone_among}
use Rattle.kz_class.specs.ClassLaws.{IsLeastNotBelow}
use Rattle.kz_class.proofs.Classes.{class_is_least, none_above_last, table_from_test}
use Rattle.kz_plan.specs.ZoneLaws.{layout_at, row_of_type, ClassesAreLeast, ElementsHoldTypes, EqualSignaturesShare, DataOfOneClassShares, SharersHaveOneClass, SharersAreOfOneKind}
use Rattle.kz_plan.proofs.Fit.{layouts-many, valid-there, valid-zones}
use Rattle.kz_plan.proofs.Plans.{class_at-below}
use Rattle.kz_plan.proofs.Sizes.{layouts-small}
use Rattle.kz_plan.proofs.TypeZones.{IsZoneFor, data_zone-same, zone-for, zone-same}

-- ---- classes

-- two classes have two sizes
class-by_size : (one other : ℕ) → one < 32 → other < 32 → slice_index kalloc_sizes one ≡ slice_index kalloc_sizes other → one ≡ other
class-by_size one other one_below other_below same =
    elim (cases_lt one other) [
      | inl less ↦ absurd (omega (arith, same, rising one other 0 less other_below))
      | inr at_least ↦ elim (cases_lt other one) [
        | inl less ↦ absurd (omega (arith, same, rising other one 0 less one_below))
        | inr at_most ↦ omega arith
      ]
    ]
  where
    rising : (i j : ℕ) (d : ℕ) → i < j → j < 32 → get_or kalloc_sizes i d < get_or kalloc_sizes j d
    rising = AllPairs-from_increasing kalloc_sizes (table_from_test kalloc_sizes refl).rising

-- a class has elements of its size
shape-element : (class : ℕ) → (shape_at class).element ≡ slice_index kalloc_sizes class
unfolding shape_at
shape-element class = refl

-- the class of a layout that isn't too great is the least that isn't below it
class-least : (layout : Layout) → layout.size ≤ 8192 → IsLeastNotBelow kalloc_sizes layout.size (class_at layout)
unfolding class_at
class-least layout small =
    elim (class_of kalloc_sizes layout.size) as (λ o. class_of kalloc_sizes layout.size ≡ o → IsLeastNotBelow kalloc_sizes layout.size (unwrap_or o 0)) [
      | None ↦ λ e. absurd (omega (arith, (none_above_last kalloc_sizes layout.size (omega arith) (table_from_test kalloc_sizes refl).rising).0 e))
      | Some class ↦ λ e. (class_is_least kalloc_sizes layout.size class).0 e
    ] refl

-- two classes have two chunks
class-by_shape : (one other : ℕ) → one < 32 → other < 32 → shape_at one ≡ shape_at other → one ≡ other
class-by_shape one other one_below other_below same =
    class-by_size one other one_below other_below (sym (shape-element one) ∙ ap (λ shape. shape.element) same ∙ shape-element other)

-- ---- the zone of a type

module _ (b : Bundle) (is : IsValid b) where
  abbrev zone_for : Layout → ℕ
  zone_for = zone_among (deals_of (layouts_in b) b.budget b.seed) (general_count (layouts_in b) b.budget) (data_classes (layouts_in b))

  zone-at : (of : ℕ) → of < length b.types → zone_of_type (plan_in b) of ≡ zone_for (layout_at b of)
  zone-at of inside = get_or-map zone_for (layouts_in b) of no_layout 0 (omega (arith, layouts-many b is))

  row-at : (of : ℕ) → of < length b.types → IsZoneFor (layout_at b of) (row_of_type (plan_in b) of)
  row-at of inside =
      subst (λ zone. IsZoneFor (layout_at b of) (zone_row (plan_in b) zone)) (sym (zone-at of inside))
      (zone-for b.seed (map zone_for (layouts_in b)) (deals_of (layouts_in b) b.budget b.seed) (general_count (layouts_in b) b.budget) (data_classes (layouts_in b)) (layout_at b of) (zone_row (record { zones = []; of_type = [] }) 0)
      (valid-zones b is).in_row (valid-there b is of no_layout (omega (arith, layouts-many b is))))

pub zone-of-type : (b : Bundle) (plan : Plan) (of : ℕ) → IsValid b → plan ≡ plan_in b → of < length b.types → IsZoneFor (layout_at b of) (row_of_type plan of)
zone-of-type b plan of is planned inside = subst (λ (plan : Plan). IsZoneFor (layout_at b of) (row_of_type plan of)) (sym planned) (row-at b is of inside)

-- ---- the class of a type

pub classes_are_least : ClassesAreLeast
classes_are_least b plan of is planned inside =
    class-least (layout_at b of) (IfOk-at_ok (All (λ layout. layout.size ≤ 8192)) is.laid_out (layouts-small b.types) of no_layout (omega (arith, layouts-many b is)))

pub elements_hold_types : ElementsHoldTypes
elements_hold_types b plan of is planned inside =
    let element : (row_of_type plan of).shape.element ≡ slice_index kalloc_sizes (class_at (layout_at b of)) =
    ap (λ shape. shape.element) (zone-of-type b plan of is planned inside).shape ∙ shape-element (class_at (layout_at b of)) in
    omega (arith, element, (classes_are_least b plan of is planned inside).not_below)

-- ---- types that share a zone

pub equal_signatures_share : EqualSignaturesShare
equal_signatures_share b plan one other is planned one_inside other_inside class letters =
    subst (λ (plan : Plan). zone_of_type plan one ≡ zone_of_type plan other) (sym planned)
    (zone-at b is one one_inside
    ∙ zone-same (deals_of (layouts_in b) b.budget b.seed) (general_count (layouts_in b) b.budget) (data_classes (layouts_in b)) (layout_at b one) (layout_at b other) class letters
    ∙ sym (zone-at b is other other_inside))

pub data_of_one_class_shares : DataOfOneClassShares
data_of_one_class_shares b plan one other is planned one_inside other_inside class one_data other_data =
    subst (λ (plan : Plan). zone_of_type plan one ≡ zone_of_type plan other) (sym planned)
    (zone-at b is one one_inside
    ∙ data_zone-same (deals_of (layouts_in b) b.budget b.seed) (general_count (layouts_in b) b.budget) (data_classes (layouts_in b)) (layout_at b one) (layout_at b other) class one_data other_data
    ∙ sym (zone-at b is other other_inside))

pub sharers_have_one_class : SharersHaveOneClass
sharers_have_one_class b plan one other is planned one_inside other_inside same =
    class-by_shape (class_at (layout_at b one)) (class_at (layout_at b other)) (class_at-below (layout_at b one)) (class_at-below (layout_at b other))
    (sym (zone-of-type b plan one is planned one_inside).shape ∙ ap (λ zone. (zone_row plan zone).shape) same ∙ (zone-of-type b plan other is planned other_inside).shape)

pub sharers_are_of_one_kind : SharersAreOfOneKind
sharers_are_of_one_kind b plan one other is planned one_inside other_inside same =
    sym (zone-of-type b plan one is planned one_inside).bucket ∙ ap (λ zone. is_none (zone_row plan zone).bucket) same ∙ (zone-of-type b plan other is planned other_inside).bucket
