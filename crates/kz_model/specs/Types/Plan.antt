-- The plan: which zones there are, and which types each has.
use Rattle.std.specs.Prelude.{ℕ, zero, suc, ◌+◌, ◌-◌, ◌%◌, Bool, ◌&&◌, not, ◌==◌, if◌then◌else◌, List, [], ◌∷◌, ◌++◌, length, map, fold, sum, count_by, slice_index, unwrap_or, None, Some}
use Rattle.std.specs.BTreeSet.{insert_key}
use Rattle.std.specs.Cmp.Lexicographic.{slice_cmp}
use Rattle.std.specs.List.{enumerate_from, filter, find, flat_map, list_any, position, range_with_len, swap}
use Rattle.std.specs.Option.{option_map_or}
use Rattle.std.specs.Ordering.{nat_cmp}
use Rattle.kz_model.specs.declared.bundle.Seed.{Seed}
use Rattle.kz_model.specs.declared.record.Geometry.{Geometry}
use Rattle.kz_model.specs.declared.record.Layout.{Layout}
use Rattle.kz_model.specs.declared.record.Plan.{Plan}
use Rattle.kz_model.specs.declared.record.ZoneRow.{ZoneRow}
use Rattle.kz_model.specs.Types.Class.{class_of, geometry_of, kalloc_sizes}
use Rattle.kz_model.specs.Types.Cover.{is_data_only}
use Rattle.kz_model.specs.Types.Layouts.{place_of}
use Rattle.kz_model.specs.Types.Share.{share}
use Rattle.kz_model.specs.Zone.Words.{word}

-- a signature: the letters of a type, as bytes
abbrev pub Signature : Type 0
Signature = List ℕ

-- ---- classes and signatures

-- all classes, rising
unfoldable pub all_classes : List ℕ
all_classes = range_with_len 0 (length kalloc_sizes)

-- the class of a layout
unfoldable pub class_at : Layout → ℕ
class_at layout = unwrap_or (class_of kalloc_sizes layout.size) 0

-- the chunk of a class
unfoldable pub shape_at : ℕ → Geometry
shape_at class = geometry_of (slice_index kalloc_sizes class)

-- a type of this class that isn't data-only
abbrev pub is_general : ℕ → Layout → Bool
is_general class layout = (class_at layout == class) && not (is_data_only layout)

-- a type of this class that is data-only
abbrev pub is_data : ℕ → Layout → Bool
is_data class layout = (class_at layout == class) && is_data_only layout

-- the classes with a type that isn't data-only, rising
abbrev pub classes_in_use : List Layout → List ℕ
classes_in_use layouts = filter (λ class. list_any (is_general class) layouts) all_classes

-- the classes with a type that is data-only, rising
abbrev pub data_classes : List Layout → List ℕ
data_classes layouts = filter (λ class. list_any (is_data class) layouts) all_classes

-- signatures that rise by their bytes, with one more at its place, unless it is among them
abbrev pub with_signature : List Signature → Signature → List Signature
with_signature signatures signature = insert_key (slice_cmp nat_cmp) signatures signature

-- the distinct signatures of a class's types that aren't data-only, rising by their bytes
abbrev pub signatures : List Layout → ℕ → List Signature
signatures layouts class = fold with_signature [] (map (λ layout. layout.letters) (filter (is_general class) layouts))

-- how many zones each class in use has
abbrev pub parts_of : List Layout → ℕ → List ℕ
parts_of layouts budget = share (map (λ class. length (signatures layouts class)) (classes_in_use layouts)) budget

-- ---- the deal

-- From place i down to 1: a word of stream 0 is drawn, and the place is swapped with the place `word mod (place + 1)`.
abbrev pub swapped_from : {A : Type 0} → Seed → ℕ → ℕ → List A → List A
swapped_from seed drawn zero xs = xs
swapped_from seed drawn (suc i) xs = swapped_from seed (drawn + 1) i (swap xs (suc i) (word seed 0 drawn % (suc i + 1)))

-- a list that is swapped from its last place down, after so many words
abbrev pub shuffled : {A : Type 0} → Seed → ℕ → List A → List A
shuffled seed drawn xs = swapped_from seed drawn (length xs - 1) xs

-- a class in use, with its signatures in the order in which they are dealt
pub record Group : Type 0 where
  pub class : ℕ
  pub order : List Signature

-- these classes, after so many words of stream 0
abbrev pub groups_from : List Layout → Seed → ℕ → List ℕ → List Group
groups_from layouts seed drawn [] = []
groups_from layouts seed drawn (class ∷ classes) =
    record { class = class; order = shuffled seed drawn (signatures layouts class) }
    ∷ groups_from layouts seed (drawn + (length (signatures layouts class) - 1)) classes

abbrev pub groups_of : List Layout → Seed → List Group
groups_of layouts seed = groups_from layouts seed 0 (classes_in_use layouts)

-- a class in use, with the number of its first zone and its number of zones
pub record Deal : Type 0 where
  pub class : ℕ
  pub first : ℕ
  pub zones : ℕ
  pub order : List Signature

-- these classes with these numbers of zones, after so many zones
abbrev pub deals_from : ℕ → List Group → List ℕ → List Deal
deals_from first (group ∷ groups) (part ∷ parts) =
    record { class = group.class; first = first; zones = part; order = group.order }
    ∷ deals_from (first + part) groups parts
deals_from first groups parts = []

abbrev pub deals_of : List Layout → ℕ → Seed → List Deal
deals_of layouts budget seed = deals_from 0 (groups_of layouts seed) (parts_of layouts budget)

-- the signature at place i goes to bucket `i mod zones`
abbrev pub bucket_of : Deal → Signature → ℕ
bucket_of deal signature = unwrap_or (place_of signature deal.order) 0 % deal.zones

-- ---- the zones of types

-- how many zones the classes in use have
abbrev pub general_count : List Layout → ℕ → ℕ
general_count layouts budget = sum (parts_of layouts budget)

-- the zone of a type among the zones of its class
abbrev pub general_zone : List Deal → Layout → ℕ
general_zone deals layout =
    option_map_or (λ deal. deal.first + bucket_of deal layout.letters)
    (find (λ deal. deal.class == class_at layout) deals) 0

-- the data zone of a class; the data zones follow so many others
abbrev pub data_zone : ℕ → List ℕ → ℕ → ℕ
data_zone general classes class = general + unwrap_or (position (λ other. class == other) classes) 0

-- the zone of a type
abbrev pub zone_among : List Deal → ℕ → List ℕ → Layout → ℕ
zone_among deals general classes layout =
    if is_data_only layout then data_zone general classes (class_at layout) else general_zone deals layout

-- ---- the zones

-- how many types are in a zone
abbrev pub types_in : List ℕ → ℕ → ℕ
types_in of_type zone = count_by (λ other. other == zone) of_type

-- the zone of a bucket; zone z is in the submap `word z of stream 1 mod 4`
abbrev pub bucket_row : Seed → List ℕ → Deal → ℕ → ZoneRow
bucket_row seed of_type deal bucket =
    record {
      bucket = Some bucket;
      submap = word seed 1 (deal.first + bucket) % 4;
      shape = shape_at deal.class;
      types = types_in of_type (deal.first + bucket);
    }

abbrev pub bucket_rows : Seed → List ℕ → Deal → List ZoneRow
bucket_rows seed of_type deal = map (bucket_row seed of_type deal) (range_with_len 0 deal.zones)

-- the data zone of a class, with its number; submap 4 is for data
abbrev pub data_row : List ℕ → ℕ × ℕ → ZoneRow
data_row of_type numbered =
    record { bucket = None; submap = 4; shape = shape_at numbered.1; types = types_in of_type numbered.0 }

-- the zones of the classes in use, then the data zones
abbrev pub rows_among : Seed → List ℕ → List Deal → ℕ → List ℕ → List ZoneRow
rows_among seed of_type deals general classes =
    flat_map (bucket_rows seed of_type) deals ++ map (data_row of_type) (enumerate_from general classes)

-- the plan of types whose classes are dealt so
abbrev pub plan_of_deals : Seed → List Layout → List Deal → ℕ → List ℕ → Plan
plan_of_deals seed layouts deals general classes =
    let of_type = map (zone_among deals general classes) layouts in
    record { zones = rows_among seed of_type deals general classes; of_type = of_type }

-- the plan of types with these layouts
abbrev pub plan_of : List Layout → ℕ → Seed → Plan
plan_of layouts budget seed =
    plan_of_deals seed layouts (deals_of layouts budget seed) (general_count layouts budget) (data_classes layouts)
