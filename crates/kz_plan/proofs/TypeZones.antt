-- The row of a type's zone.
use Rattle.std.proofs.Common.{◌≡◌, ℕ, ◌+◌, ◌-◌, ◌%◌, ◌<◌, ◌≤◌, ◌==◌, true, false, cond, List, [], ◌∷◌, ◌++◌, length, map, Some, None, IsSome, unwrap_or, refl, ap, sym, ◌∙◌, subst, is_none, arith, lit<, zero-add}
use Rattle.std.proofs.Math.ListN.{get_or, get_or-append}
use Rattle.std.proofs.Math.Nat.{mod-lt}
use Rattle.std.proofs.lemmas.Bool.Decides.{nat_tests}
use Rattle.std.proofs.lemmas.List.{get_or-append-add, get_or-append_right, get_or-map}
use Rattle.std.proofs.lemmas.List.FromFn.{get_or-enumerate_from, get_or-map-range_with_len, length-enumerate_from, length-map-range_with_len}
use Rattle.std.proofs.lemmas.List.Quantifiers.{position-Some}
use Rattle.std.specs.Prelude.{◌||◌}
use Rattle.std.specs.List.{enumerate_from, find, flat_map, list_all, position}
use Rattle.std.specs.Option.{IsSomeAnd, option_map_or, is_some}
use Rattle.kz_model.specs.declared.bundle.Seed.{Seed}
use Rattle.kz_model.specs.declared.record.Layout.{Layout}
use Rattle.kz_model.specs.declared.record.ZoneRow.{ZoneRow}
use Rattle.kz_model.specs.Types.Cover.{is_data_only}
use Rattle.kz_model.specs.Types.Layouts.{place_of}
use Rattle.kz_model.specs.Types.Plan.{Deal, bucket_of, bucket_row, bucket_rows, class_at, data_row, data_zone, general_zone, rows_among, shape_at, zone_among}
use Rattle.kz_model.specs.Zone.Words.{word}
use Rattle.kz_plan.specs.Homes.{AreInRow, HasBucket, HasDataZone, HasZone}
use Rattle.kz_plan.proofs.Presence.{same-number, zone-inside}
use Rattle.kz_plan.proofs.ZoneRows.{general-many}

-- the row of a zone for a type
pub record IsZoneFor (layout : Layout) (row : ZoneRow) : Type 0 where
  pub shape : row.shape ≡ shape_at (class_at layout)
  pub bucket : is_none row.bucket ≡ is_data_only layout
  pub submap : (row.submap == 4) ≡ is_data_only layout

-- ---- buckets

-- the zones of deals in a row are not before the first
general_zone-from : (first last : ℕ) (deals : List Deal) (layout : Layout) → AreInRow first last deals → HasBucket deals layout → first ≤ general_zone deals layout
general_zone-from first last [] layout row there = absurd there
general_zone-from first last (deal ∷ deals) layout row there =
    elim (deal.class == class_at layout) as (λ b.
    IsSomeAnd (cond b (Some deal) (find (λ deal. deal.class == class_at layout) deals)) (λ deal. IsSome (place_of layout.letters deal.order)) →
    first ≤ option_map_or (λ deal. deal.first + bucket_of deal layout.letters) (cond b (Some deal) (find (λ deal. deal.class == class_at layout) deals)) 0) [
      | true ↦ λ h. omega (arith, row.0)
      | false ↦ λ h. omega (arith, general_zone-from (first + deal.zones) last deals layout row.2 h)
    ] there

low-submap : (submap : ℕ) → submap < 4 → (submap == 4) ≡ false
low-submap submap low = grind (arith, nat_tests)

-- each row of a deal is for the types of its class that aren't data-only
bucket_row-for : (seed : Seed) (of_type : List ℕ) (deal : Deal) (bucket : ℕ) (layout : Layout) → deal.class ≡ class_at layout → is_data_only layout ≡ false → IsZoneFor layout (bucket_row seed of_type deal bucket)
bucket_row-for seed of_type deal bucket layout same other = record {
  shape = ap shape_at same;
  bucket = sym other;
  submap = low-submap (word seed 1 (deal.first + bucket) % 4) (mod-lt (word seed 1 (deal.first + bucket)) (lit< tt)) ∙ sym other;
}

bucket-for : (seed : Seed) (of_type : List ℕ) (first last k : ℕ) (deals : List Deal) (layout : Layout) (d : ZoneRow) → AreInRow first last deals → HasBucket deals layout → is_data_only layout ≡ false →
    general_zone deals layout ≡ first + k → IsZoneFor layout (get_or (flat_map (bucket_rows seed of_type) deals) k d)
bucket-for seed of_type first last k [] layout d row there other at = absurd there
bucket-for seed of_type first last k (deal ∷ deals) layout d row there other at =
    elim (deal.class == class_at layout) as (λ b. (deal.class == class_at layout) ≡ b →
    IsSomeAnd (cond b (Some deal) (find (λ deal. deal.class == class_at layout) deals)) (λ deal. IsSome (place_of layout.letters deal.order)) →
    option_map_or (λ deal. deal.first + bucket_of deal layout.letters) (cond b (Some deal) (find (λ deal. deal.class == class_at layout) deals)) 0 ≡ first + k →
    IsZoneFor layout (get_or (bucket_rows seed of_type deal ++ flat_map (bucket_rows seed of_type) deals) k d)) [
      | true ↦ λ e h at.
          let low : bucket_of deal layout.letters < deal.zones = mod-lt (unwrap_or (place_of layout.letters deal.order) 0) row.1 in
          let inside : k < deal.zones = omega (arith, row.0) in
          let here : get_or (bucket_rows seed of_type deal ++ flat_map (bucket_rows seed of_type) deals) k d ≡ bucket_row seed of_type deal k =
          get_or-append (bucket_rows seed of_type deal) (flat_map (bucket_rows seed of_type) deals) d k (omega (arith, many))
          ∙ get_or-map-range_with_len (bucket_row seed of_type deal) 0 deal.zones k k d inside (zero-add k) in
          subst (IsZoneFor layout) (sym here) (bucket_row-for seed of_type deal k layout (same-number deal.class (class_at layout) e) other)
      | false ↦ λ e h at.
          let after : first + deal.zones ≤ general_zone deals layout = general_zone-from (first + deal.zones) last deals layout row.2 h in
          let here : get_or (bucket_rows seed of_type deal ++ flat_map (bucket_rows seed of_type) deals) k d ≡ get_or (flat_map (bucket_rows seed of_type) deals) (k - deal.zones) d =
          get_or-append_right (bucket_rows seed of_type deal) (flat_map (bucket_rows seed of_type) deals) deal.zones k d many (omega arith) in
          subst (IsZoneFor layout) (sym here) (bucket-for seed of_type (first + deal.zones) last (k - deal.zones) deals layout d row.2 h other (omega arith))
    ] refl there at
  where
    many : length (bucket_rows seed of_type deal) ≡ deal.zones
    many = length-map-range_with_len (bucket_row seed of_type deal) 0 deal.zones

-- ---- data zones

data-for : (of_type : List ℕ) (general : ℕ) (classes : List ℕ) (layout : Layout) (d : ZoneRow) → HasDataZone classes layout → is_data_only layout ≡ true →
    IsZoneFor layout (get_or (map (data_row of_type) (enumerate_from general classes)) (unwrap_or (position (λ other. class_at layout == other) classes) 0) d)
data-for of_type general classes layout d there only =
    elim (position (λ other. class_at layout == other) classes) as (λ o. position (λ other. class_at layout == other) classes ≡ o → is_some o ≡ true →
    IsZoneFor layout (get_or (map (data_row of_type) (enumerate_from general classes)) (unwrap_or o 0) d)) [
      | None ↦ λ e some. absurd cc
      | Some place ↦ λ e some.
          let found = position-Some (λ other. class_at layout == other) classes place 0 e in
          let here : get_or (map (data_row of_type) (enumerate_from general classes)) place d ≡ data_row of_type (general + place, get_or classes place 0) =
          get_or-map (data_row of_type) (enumerate_from general classes) place (0, 0) d (omega (arith, found.0, length-enumerate_from general classes))
          ∙ ap (data_row of_type) (get_or-enumerate_from general classes place (0, 0) found.0) in
          let same : class_at layout ≡ get_or classes place 0 = same-number (class_at layout) (get_or classes place 0) found.1 in
          subst (IsZoneFor layout) (sym here) (record { shape = ap shape_at (sym same); bucket = sym only; submap = sym only })
    ] refl there

-- ---- rows

-- the row of a type's zone is for the type
pub zone-for : (seed : Seed) (of_type : List ℕ) (deals : List Deal) (general : ℕ) (classes : List ℕ) (layout : Layout) (d : ZoneRow) → AreInRow 0 general deals → HasZone deals classes layout →
    IsZoneFor layout (get_or (rows_among seed of_type deals general classes) (zone_among deals general classes layout) d)
zone-for seed of_type deals general classes layout d row there =
    elim (is_data_only layout) as (λ b. is_data_only layout ≡ b → IsZoneFor layout (get_or (buckets ++ data_rows) (cond b (data_zone general classes (class_at layout)) (general_zone deals layout)) d)) [
      | true ↦ λ only.
          let at : length buckets + unwrap_or (position (λ other. class_at layout == other) classes) 0 ≡ data_zone general classes (class_at layout) = omega (arith, many) in
          subst (λ zone. IsZoneFor layout (get_or (buckets ++ data_rows) zone d)) at
          (subst (IsZoneFor layout) (sym (get_or-append-add buckets data_rows (unwrap_or (position (λ other. class_at layout == other) classes) 0) d))
          (data-for of_type general classes layout d (there.in_data only) only))
      | false ↦ λ other.
          let inside : general_zone deals layout < length buckets = omega (arith, many, zone-inside 0 general deals layout row (there.in_bucket other)) in
          subst (IsZoneFor layout) (sym (get_or-append buckets data_rows d (general_zone deals layout) inside))
          (bucket-for seed of_type 0 general (general_zone deals layout) deals layout d row (there.in_bucket other) other (omega arith))
    ] refl
  where
    buckets : List ZoneRow
    buckets = flat_map (bucket_rows seed of_type) deals

    data_rows : List ZoneRow
    data_rows = map (data_row of_type) (enumerate_from general classes)

    many : length buckets ≡ general
    many = omega (arith, general-many seed of_type 0 general deals row)

-- ---- like types

-- the zone of a type is that of its class and letters
abbrev zone_of_letters : List Deal → ℕ → List ℕ → ℕ → List ℕ → ℕ
zone_of_letters deals general classes class letters =
    cond (list_all (λ letter. (letter == 48) || (letter == 50)) letters) (data_zone general classes class)
    (option_map_or (λ deal. deal.first + bucket_of deal letters) (find (λ deal. deal.class == class) deals) 0)

pub zone-same : (deals : List Deal) (general : ℕ) (classes : List ℕ) (one other : Layout) → class_at one ≡ class_at other → one.letters ≡ other.letters → zone_among deals general classes one ≡ zone_among deals general classes other
zone-same deals general classes one other same_class same_letters =
    ap (λ class. zone_of_letters deals general classes class one.letters) same_class
    ∙ ap (zone_of_letters deals general classes (class_at other)) same_letters

-- the zone of a data-only type is of its class
pub data_zone-same : (deals : List Deal) (general : ℕ) (classes : List ℕ) (one other : Layout) → class_at one ≡ class_at other → is_data_only one ≡ true → is_data_only other ≡ true →
    zone_among deals general classes one ≡ zone_among deals general classes other
data_zone-same deals general classes one other same only both = in_data one only ∙ ap (data_zone general classes) same ∙ sym (in_data other both)
  where
    in_data : (layout : Layout) → is_data_only layout ≡ true → zone_among deals general classes layout ≡ data_zone general classes (class_at layout)
    in_data layout only = ap (λ b. cond b (data_zone general classes (class_at layout)) (general_zone deals layout)) only
