-- The zones of types, and the rows of zones, one after another.
use Rattle.std.proofs.Common.{◌≡◌, ℕ, suc, ◌+◌, ◌-◌, ◌%◌, ◌<◌, ◌≤◌, ◌==◌, true, false, List, [], ◌∷◌, ◌++◌, length, map, take, drop, slice_index, slice_set, None, Some, refl, ap, sym, ◌∙◌, subst, inl, inr, arith, add-one}
use Rattle.std.proofs.Math.ListN.{get_or}
use Rattle.std.proofs.lemmas.Bool.{cases_eq}
use Rattle.std.proofs.lemmas.Bool.Decides.{nat_tests}
use Rattle.std.proofs.lemmas.List.{append_assoc, get_or_default, get_or-set_same, get_or-set_other, length-append, length-set, length-take-le}
use Rattle.std.proofs.lemmas.List.FromFn.{length-map-range_with_len}
use Rattle.std.proofs.lemmas.List.Sums.{count_by_more_yes, count_by_more_no, count_by-le-length}
use Rattle.std.specs.List.{enumerate_from, flat_map, range_with_len}
use Rattle.kz_model.specs.declared.bundle.Seed.{Seed}
use Rattle.kz_model.specs.declared.record.Geometry.{Geometry}
use Rattle.kz_model.specs.declared.record.ZoneRow.{ZoneRow}
use Rattle.kz_model.specs.Types.Plan.{Deal, types_in, bucket_row, bucket_rows, data_row, shape_at}
use Rattle.kz_model.specs.Zone.Words.{words_after, word, rest_of}
use Rattle.kz_plan.specs.Homes.{AreCounts, AreInRow}
use Rattle.kz_plan.proofs.Deals.{from_place}
use Rattle.kz_plan.proofs.Written.{pushed}

-- ---- counts

-- a count of some types is at most how many there are
pub counts-small : (counts : List ℕ) (zones zone i value : ℕ) (of_type : List ℕ) → AreCounts counts zones (take i of_type) → zone < zones → i < length of_type → value ≡ get_or counts zone value → value ≤ i
counts-small counts zones zone i value of_type are inside within at =
    let same : get_or counts zone value ≡ slice_index counts zone = get_or_default counts zone value 0 (omega (arith, are.all)) in
    omega (arith, are.each zone inside, count_by-le-length (λ other. other == zone) (take i of_type), length-take-le i of_type (omega arith))

-- one type more
pub counts-more : (counts : List ℕ) (zones i value : ℕ) (of_type : List ℕ) → AreCounts counts zones (take i of_type) → i < length of_type → slice_index of_type i < zones →
    value ≡ get_or counts (slice_index of_type i) value → AreCounts (slice_set counts (slice_index of_type i) (value + 1)) zones (take (i + 1) of_type)
counts-more counts zones i value of_type are within inside at = record { all = length-set counts here (value + 1) ∙ are.all; each = each }
  where
    here : ℕ
    here = slice_index of_type i

    each : (zone : ℕ) → zone < zones → slice_index (slice_set counts here (value + 1)) zone ≡ types_in (take (i + 1) of_type) zone
    each zone low = elim (cases_eq zone here) [
      | inl same ↦
          let test : (slice_index of_type i == zone) ≡ true = grind (arith, nat_tests) in
          let now : value ≡ slice_index counts here = at ∙ get_or_default counts here value 0 (omega (arith, are.all)) in
          ap (slice_index (slice_set counts here (value + 1))) same ∙ get_or-set_same counts here (value + 1) 0 (omega (arith, are.all))
          ∙ ap (λ n. n + 1) (now ∙ ap (slice_index counts) (sym same) ∙ are.each zone low)
          ∙ sym (count_by_more_yes (λ other. other == zone) of_type i 0 within test)
      | inr apart ↦
          let test : (slice_index of_type i == zone) ≡ false = grind (arith, nat_tests) in
          get_or-set_other counts here zone (value + 1) 0 apart ∙ are.each zone low
          ∙ sym (count_by_more_no (λ other. other == zone) of_type i 0 within test)
    ]

-- the same counts, of as many zones as there are
pub counts-whole : (counts types : List ℕ) (zones : ℕ) (of_type : List ℕ) → types ≡ counts → AreCounts counts zones of_type → AreCounts types (length types) of_type
counts-whole counts types zones of_type same are =
    let many : length types ≡ zones = ap length same ∙ are.all in
    record { all = refl; each = λ zone inside. ap (λ ts. slice_index ts zone) same ∙ are.each zone (omega arith) }

-- ---- rows

-- the row of a bucket, before those that follow it
pub bucket_rows-next : (seed : Seed) (of_type types : List ℕ) (deal : Deal) (bucket : ℕ) (row : ZoneRow) → bucket < deal.zones → AreCounts types (length types) of_type → deal.first + bucket < length types →
    row ≡ record { bucket = Some bucket; submap = word seed 1 (deal.first + bucket) % 4; shape = shape_at deal.class; types = slice_index types (deal.first + bucket) } →
    map (bucket_row seed of_type deal) (range_with_len bucket (deal.zones - bucket)) ≡ row ∷ map (bucket_row seed of_type deal) (range_with_len (bucket + 1) (deal.zones - (bucket + 1)))
bucket_rows-next seed of_type types deal bucket row inside are within is =
    let left : deal.zones - bucket ≡ suc (deal.zones - (bucket + 1)) = omega arith in
    let rest = map (bucket_row seed of_type deal) (range_with_len (bucket + 1) (deal.zones - (bucket + 1))) in
    let with_types : ℕ → ZoneRow = λ types. record { bucket = Some bucket; submap = word seed 1 (deal.first + bucket) % 4; shape = shape_at deal.class; types = types } in
    ap (λ n. map (bucket_row seed of_type deal) (range_with_len bucket n)) left
    ∙ ap (λ types. with_types types ∷ rest) (sym (are.each (deal.first + bucket) within))
    ∙ ap (λ r. r ∷ rest) (sym is)

-- the row of a data zone, before those that follow it
pub data_rows-next : (of_type types classes : List ℕ) (zone i class : ℕ) (row : ZoneRow) → i < length classes → AreCounts types (length types) of_type → zone < length types → class ≡ slice_index classes i →
    row ≡ record { bucket = None; submap = 4; shape = shape_at class; types = slice_index types zone } →
    map (data_row of_type) (enumerate_from zone (drop i classes)) ≡ row ∷ map (data_row of_type) (enumerate_from (zone + 1) (drop (i + 1) classes))
data_rows-next of_type types classes zone i class row inside are within at is =
    let rest = map (data_row of_type) (enumerate_from (zone + 1) (drop (i + 1) classes)) in
    let with_types : ℕ → ℕ → ZoneRow = λ class types. record { bucket = None; submap = 4; shape = shape_at class; types = types } in
    ap (λ cs. map (data_row of_type) (enumerate_from zone cs)) (from_place classes i 0 inside)
    ∙ ap (λ types. with_types (slice_index classes i) types ∷ rest) (sym (are.each zone within))
    ∙ ap (λ c. with_types c (slice_index types zone) ∷ rest) (sym at)
    ∙ ap (λ r. r ∷ rest) (sym is)

-- after one word more
pub words-more : (seed : Seed) (stream drawn : ℕ) → rest_of (words_after seed stream drawn) ≡ words_after seed stream (drawn + 1)
words-more seed stream drawn = rw add-one refl

-- ---- deals in a row

pub in_row-order : (first last : ℕ) (deals : List Deal) → AreInRow first last deals → first ≤ last
in_row-order first last [] same = omega arith
in_row-order first last (deal ∷ deals) row = omega (arith, in_row-order (first + deal.zones) last deals row.2)

-- the deal at this place has its zones next, before the last
pub in_row-next : (first last i : ℕ) (deals : List Deal) (deal : Deal) → AreInRow first last (drop i deals) → i < length deals → deal ≡ get_or deals i deal →
    (deal.first ≡ first) × (0 < deal.zones) × AreInRow (first + deal.zones) last (drop (i + 1) deals)
in_row-next first last i deals deal row inside at =
    subst (λ (d : Deal). (d.first ≡ first) × (0 < d.zones) × AreInRow (first + d.zones) last (drop (i + 1) deals)) (sym at) (subst (AreInRow first last) (from_place deals i deal inside) row)

-- the rows of deals in a row are as many as their zones
pub general-many : (seed : Seed) (of_type : List ℕ) (first last : ℕ) (deals : List Deal) → AreInRow first last deals → first + length (flat_map (bucket_rows seed of_type) deals) ≡ last
general-many seed of_type first last [] row = omega arith
general-many seed of_type first last (deal ∷ deals) row =
    omega (
      arith,
      row.0,
      general-many seed of_type (first + deal.zones) last deals row.2,
      length-append (bucket_rows seed of_type deal) (flat_map (bucket_rows seed of_type) deals),
      length-map-range_with_len (bucket_row seed of_type deal) 0 deal.zones,
    )

-- ---- one row pushed

pub longer : {A : Type 0} (items new : List A) (x : A) → new ≡ items ++ x ∷ [] → length new ≡ length items + 1
longer items new x is = ap length is ∙ length-append items (x ∷ [])

-- the next data zone
pub data_zone-pushed : (items new all : List ZoneRow) (types classes of_type : List ℕ) (i at class : ℕ) (shape : Geometry) → i < length classes → length items < length types → at ≡ length items →
    class ≡ slice_index classes i → shape ≡ shape_at class → new ≡ items ++ record { bucket = None; submap = 4; shape = shape; types = slice_index types at } ∷ [] → AreCounts types (length types) of_type →
    items ++ map (data_row of_type) (enumerate_from (length items) (drop i classes)) ≡ all →
    new ++ map (data_row of_type) (enumerate_from (length new) (drop (i + 1) classes)) ≡ all
data_zone-pushed items new all types classes of_type i at class shape inside within here of its is are whole =
    let row : ZoneRow = record { bucket = None; submap = 4; shape = shape; types = slice_index types at } in
    let rest : ℕ → List ZoneRow = λ n. map (data_row of_type) (enumerate_from n (drop (i + 1) classes)) in
    let with : Geometry → ℕ → ZoneRow = λ shape at. record { bucket = None; submap = 4; shape = shape; types = slice_index types at } in
    let same : row ≡ record { bucket = None; submap = 4; shape = shape_at class; types = slice_index types (length items) } = ap (λ s. with s at) its ∙ ap (with (shape_at class)) here in
    pushed items new (rest (length new)) all row is
    (ap (λ n. items ++ row ∷ rest n) (longer items new row is)
    ∙ ap (λ rows. items ++ rows) (sym (data_rows-next of_type types classes (length items) i class row inside are within of same))
    ∙ whole)

-- the next bucket of a deal
pub bucket-pushed : (seed : Seed) (items new all : List ZoneRow) (types of_type : List ℕ) (deal : Deal) (bucket at drawn : ℕ) (shape : Geometry) → bucket < deal.zones →
    length items ≡ deal.first + bucket → length items < length types → at ≡ length items → drawn ≡ word seed 1 (deal.first + bucket) → shape ≡ shape_at deal.class →
    new ≡ items ++ record { bucket = Some bucket; submap = drawn % 4; shape = shape; types = slice_index types at } ∷ [] → AreCounts types (length types) of_type →
    items ++ map (bucket_row seed of_type deal) (range_with_len bucket (deal.zones - bucket)) ≡ all →
    new ++ map (bucket_row seed of_type deal) (range_with_len (bucket + 1) (deal.zones - (bucket + 1))) ≡ all
bucket-pushed seed items new all types of_type deal bucket at drawn shape inside many within here first its is are whole =
    let with : ℕ → Geometry → ℕ → ZoneRow = λ drawn shape at. record { bucket = Some bucket; submap = drawn % 4; shape = shape; types = slice_index types at } in
    let same : with drawn shape at ≡ with (word seed 1 (deal.first + bucket)) (shape_at deal.class) (deal.first + bucket) =
    ap (λ w. with w shape at) first ∙ ap (λ s. with (word seed 1 (deal.first + bucket)) s at) its
    ∙ ap (with (word seed 1 (deal.first + bucket)) (shape_at deal.class)) (here ∙ many) in
    pushed items new (map (bucket_row seed of_type deal) (range_with_len (bucket + 1) (deal.zones - (bucket + 1)))) all (with drawn shape at) is
    (ap (λ rows. items ++ rows) (sym (bucket_rows-next seed of_type types deal bucket (with drawn shape at) inside are (omega arith) same)) ∙ whole)

-- the zones of the next deal
pub deal-pushed : (seed : Seed) (of_type : List ℕ) (items new all : List ZoneRow) (deals : List Deal) (deal : Deal) (i : ℕ) → i < length deals → deal ≡ get_or deals i deal → new ≡ items ++ bucket_rows seed of_type deal →
    items ++ flat_map (bucket_rows seed of_type) (drop i deals) ≡ all → new ++ flat_map (bucket_rows seed of_type) (drop (i + 1) deals) ≡ all
deal-pushed seed of_type items new all deals deal i inside at is whole =
    let rest = flat_map (bucket_rows seed of_type) (drop (i + 1) deals) in
    ap (λ rows. rows ++ rest) is ∙ append_assoc items (bucket_rows seed of_type deal) rest
    ∙ ap (λ (d : Deal). items ++ (bucket_rows seed of_type d ++ rest)) at
    ∙ ap (λ ds. items ++ flat_map (bucket_rows seed of_type) ds) (sym (from_place deals i deal inside))
    ∙ whole

-- so many zones more
pub length-bucket_rows : (seed : Seed) (of_type : List ℕ) (items new : List ZoneRow) (deal : Deal) → new ≡ items ++ bucket_rows seed of_type deal → length new ≡ length items + deal.zones
length-bucket_rows seed of_type items new deal is =
    ap length is ∙ length-append items (bucket_rows seed of_type deal) ∙ ap (λ n. length items + n) (length-map-range_with_len (bucket_row seed of_type deal) 0 deal.zones)
