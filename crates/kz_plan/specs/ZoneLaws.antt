-- Laws on the zones of a bundle's types.
use Rattle.std.specs.Prelude.{◌≡◌, ℕ, ◌<◌, ◌≤◌, ◌==◌, true, is_none, length, slice_index_or}
use Rattle.kz_model.specs.declared.bundle.Bundle.{Bundle}
use Rattle.kz_model.specs.declared.record.Layout.{Layout}
use Rattle.kz_model.specs.declared.record.Plan.{Plan}
use Rattle.kz_model.specs.declared.record.ZoneRow.{ZoneRow}
use Rattle.kz_model.specs.Grammar.Valid.{layouts_in, plan_in, IsValid}
use Rattle.kz_model.specs.Run.Journal.{zone_of_type, zone_row}
use Rattle.kz_model.specs.Text.Report.{no_layout}
use Rattle.kz_model.specs.Types.Class.{kalloc_sizes}
use Rattle.kz_model.specs.Types.Cover.{is_data_only}
use Rattle.kz_model.specs.Types.Plan.{class_at, shape_at}
use Rattle.kz_class.specs.ClassLaws.{IsLeastNotBelow}

-- the layout of a type
abbrev pub layout_at : Bundle → ℕ → Layout
layout_at b of = slice_index_or (layouts_in b) of no_layout

-- the row of a type's zone
abbrev pub row_of_type : Plan → ℕ → ZoneRow
row_of_type plan of = zone_row plan (zone_of_type plan of)

-- a type's zone has the chunk of the type's class
abbrev pub ZonesHaveTheClass : Type 0
ZonesHaveTheClass =
    (b : Bundle) (plan : Plan) (of : ℕ) → IsValid b → plan ≡ plan_in b → of < length b.types →
    (row_of_type plan of).shape ≡ shape_at (class_at (layout_at b of))

-- that class is the least of the allocator's that isn't below the type's size
abbrev pub ClassesAreLeast : Type 0
ClassesAreLeast =
    (b : Bundle) (plan : Plan) (of : ℕ) → IsValid b → plan ≡ plan_in b → of < length b.types →
    IsLeastNotBelow kalloc_sizes (layout_at b of).size (class_at (layout_at b of))

-- an element of a type's zone is at least as long as the type
abbrev pub ElementsHoldTypes : Type 0
ElementsHoldTypes =
    (b : Bundle) (plan : Plan) (of : ℕ) → IsValid b → plan ≡ plan_in b → of < length b.types →
    (layout_at b of).size ≤ (row_of_type plan of).shape.element

-- a type's zone is a data zone, which is no bucket of its class, exactly where the type is data-only
abbrev pub DataZonesAreForData : Type 0
DataZonesAreForData =
    (b : Bundle) (plan : Plan) (of : ℕ) → IsValid b → plan ≡ plan_in b → of < length b.types →
    is_none (row_of_type plan of).bucket ≡ is_data_only (layout_at b of)

-- and it is in the submap for data exactly there
abbrev pub DataHasItsSubmap : Type 0
DataHasItsSubmap =
    (b : Bundle) (plan : Plan) (of : ℕ) → IsValid b → plan ≡ plan_in b → of < length b.types →
    ((row_of_type plan of).submap == 4) ≡ is_data_only (layout_at b of)

-- types of one class with equal signatures share a zone
abbrev pub EqualSignaturesShare : Type 0
EqualSignaturesShare =
    (b : Bundle) (plan : Plan) (one other : ℕ) → IsValid b → plan ≡ plan_in b → one < length b.types → other < length b.types →
    class_at (layout_at b one) ≡ class_at (layout_at b other) →
    (layout_at b one).letters ≡ (layout_at b other).letters →
    zone_of_type plan one ≡ zone_of_type plan other

-- data-only types of one class share a zone
abbrev pub DataOfOneClassShares : Type 0
DataOfOneClassShares =
    (b : Bundle) (plan : Plan) (one other : ℕ) → IsValid b → plan ≡ plan_in b → one < length b.types → other < length b.types →
    class_at (layout_at b one) ≡ class_at (layout_at b other) →
    is_data_only (layout_at b one) ≡ true → is_data_only (layout_at b other) ≡ true →
    zone_of_type plan one ≡ zone_of_type plan other

-- types that share a zone are of one class
abbrev pub SharersHaveOneClass : Type 0
SharersHaveOneClass =
    (b : Bundle) (plan : Plan) (one other : ℕ) → IsValid b → plan ≡ plan_in b → one < length b.types → other < length b.types →
    zone_of_type plan one ≡ zone_of_type plan other →
    class_at (layout_at b one) ≡ class_at (layout_at b other)

-- and both of them are data-only, or neither is
abbrev pub SharersAreOfOneKind : Type 0
SharersAreOfOneKind =
    (b : Bundle) (plan : Plan) (one other : ℕ) → IsValid b → plan ≡ plan_in b → one < length b.types → other < length b.types →
    zone_of_type plan one ≡ zone_of_type plan other →
    is_data_only (layout_at b one) ≡ is_data_only (layout_at b other)
