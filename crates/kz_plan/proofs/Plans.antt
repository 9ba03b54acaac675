-- The parts of a plan, and that they make the definition's.
use Rattle.std.proofs.Common.{◌≡◌, ℕ, zero, suc, ◌+◌, ◌-◌, ◌<◌, ◌≤◌, ◌==◌, ◌&&◌, ◌||◌, not, nat_lt, nat_le, Bool, true, false, cond, List, [], ◌∷◌, length, map, sum, All, None, Some, is_some, unwrap_or, refl, ap, sym, ◌∙◌, subst, arith, slice_index, lit<}
use Rattle.std.proofs.Math.ListN.{get_or}
use Rattle.std.proofs.lemmas.Slice.Eq.{bytes_eq-Decides}
use Rattle.std.proofs.lemmas.Bool.Decides.{nat_tests}
use Rattle.std.proofs.lemmas.List.{get_or_default, length-map}
use Rattle.std.proofs.lemmas.List.Elements.{All-cons, All-filter, All-map}
use Rattle.std.proofs.lemmas.List.FromFn.{length-range_with_len}
use Rattle.std.proofs.lemmas.List.Sums.{length-filter, count_by-le-length, sum_by-le}
use Rattle.std.proofs.lemmas.Map.Keys.{IsDistinct-IsPermutation}
use Rattle.std.proofs.lemmas.List.Quantifiers.{position-Some}
use Rattle.std.specs.List.{filter, list_any, position, position_or_len, range_with_len}
use Rattle.std.specs.Str.{bytes_eq}
use Rattle.kz_model.specs.declared.bundle.Seed.{Seed}
use Rattle.kz_model.specs.declared.record.Layout.{Layout}
use Rattle.kz_model.specs.declared.record.Plan.{Plan}
use Rattle.kz_model.specs.declared.record.ZoneRow.{ZoneRow}
use Rattle.kz_model.specs.Types.Class.{kalloc_sizes}
use Rattle.kz_model.specs.Types.Cover.{is_data_only}
use Rattle.kz_model.specs.Types.Layouts.{is}
use Rattle.kz_model.specs.Types.Share.{share}
use Rattle.kz_plan.specs.ShareLaws.{AreWithin}
use Rattle.kz_model.specs.Types.Plan.{Signature, Group, Deal, all_classes, class_at, classes_in_use, data_classes, is_general, is_data, signatures, shuffled, groups_from, groups_of, deals_from, deals_of, parts_of, general_zone, data_zone, zone_among, rows_among, plan_of_deals, plan_of}
use Rattle.kz_plan.specs.Shown.{AreDistinct}
use Rattle.kz_plan.specs.Homes.{HasBucket, HasDataZone, HasZone, AreInRow, AreZones}
use Rattle.kz_plan.specs.Parts.{counts_of, AreGroups, AreParts}
use Rattle.kz_plan.proofs.Order.{signatures-distinct, signatures-few, signatures-some, has-signatures}
use Rattle.kz_plan.proofs.Places.{same_flipped}
use Rattle.kz_plan.proofs.Presence.{place-there, any-filtered, bucket-there, deals-in_row, zone-inside}
use Rattle.kz_plan.proofs.Shuffles.{shuffled-permuted, length-shuffled}

-- ---- lists

all-pass : (p : ℕ → Bool) (xs : List ℕ) → All (λ x. p x ≡ true) (filter p xs)
all-pass p [] = λ k d inside. absurd (omega arith)
all-pass p (x ∷ xs) =
    elim (p x) as (λ b. p x ≡ b → All (λ x. p x ≡ true) (cond b (x ∷ filter p xs) (filter p xs))) [
      | true ↦ λ e. All-cons (λ x. p x ≡ true) x (filter p xs) e (all-pass p xs)
      | false ↦ λ e. all-pass p xs
    ] refl

any-at : (p : Layout → Bool) (layouts : List Layout) (k : ℕ) (d : Layout) → k < length layouts → p (get_or layouts k d) ≡ true → list_any p layouts ≡ true
any-at p [] k d inside passes = absurd (omega arith)
any-at p (l ∷ layouts) zero d inside passes = ap (λ b. b || list_any p layouts) passes
any-at p (l ∷ layouts) (suc k) d inside passes = ap (λ b. p l || b) (any-at p layouts k d (omega arith) passes) ∙ or_true (p l)
  where
    or_true : (a : Bool) → (a || true) ≡ true
    or_true true = refl
    or_true false = refl

-- ---- classes

few-of-all : (p : ℕ → Bool) → length (filter p all_classes) ≤ 32
unfolding all_classes
few-of-all p = few (range_with_len 0 32) (length-range_with_len 0 32)
  where
    few : (xs : List ℕ) → length xs ≡ 32 → length (filter p xs) ≤ 32
    few xs many = omega (arith, length-filter p xs, count_by-le-length p xs)

pub data_classes-few : (layouts : List Layout) → length (data_classes layouts) ≤ 32
data_classes-few layouts = few-of-all (λ class. list_any (is_data class) layouts)

classes-below : (a n : ℕ) → All (λ class. class < a + n) (range_with_len a n)
classes-below a zero = λ k d inside. absurd (omega arith)
classes-below a (suc n) =
    let e : a + 1 + n ≡ a + suc n = omega arith in
    All-cons (λ class. class < a + suc n) a (range_with_len (a + 1) n) (omega arith) (subst (λ m. All (λ class. class < m) (range_with_len (a + 1) n)) e (classes-below (a + 1) n))

all_classes-below : All (λ class. class < 32) all_classes
unfolding all_classes
all_classes-below = classes-below 0 32

pub data_classes-below : (layouts : List Layout) → All (λ class. class < 32) (data_classes layouts)
data_classes-below layouts = All-filter (λ class. list_any (is_data class) layouts) (λ class. class < 32) all_classes all_classes-below

pub classes_in_use-below : (layouts : List Layout) → All (λ class. class < 32) (classes_in_use layouts)
classes_in_use-below layouts = All-filter (λ class. list_any (is_general class) layouts) (λ class. class < 32) all_classes all_classes-below

among-all : (p : ℕ → Bool) (class : ℕ) → class < 32 → p class ≡ true → list_any (λ o. class == o) (filter p all_classes) ≡ true
unfolding all_classes
among-all p class inside passes = any-filtered p 0 32 class (omega arith) (omega arith) passes

place-below : (place n : ℕ) → 0 < n → unwrap_or (cond (nat_lt place n) (Some place) None) 0 < n
place-below place n some =
    elim (nat_lt place n) as (λ b. nat_lt place n ≡ b → unwrap_or (cond b (Some place) None) 0 < n) [
      | true ↦ λ e. grind (arith, nat_tests)
      | false ↦ λ e. some
    ] refl

pub class_at-below : (layout : Layout) → class_at layout < 32
unfolding class_at
class_at-below layout = place-below (position_or_len (λ element. nat_le layout.size element) kalloc_sizes) 32 (lit< tt)

-- ---- groups

shuffled-distinct : (seed : Seed) (drawn : ℕ) (all : List Signature) → AreDistinct all → AreDistinct (shuffled seed drawn all)
shuffled-distinct seed drawn all distinct = IsDistinct-IsPermutation bytes_eq same_flipped all (shuffled seed drawn all) (shuffled-permuted seed drawn all) distinct

all-groups : (P : List Signature → Type 0) (layouts : List Layout) (seed : Seed) → ((drawn class : ℕ) → list_any (is_general class) layouts ≡ true → P (shuffled seed drawn (signatures layouts class))) →
    (drawn : ℕ) (classes : List ℕ) → All (λ class. list_any (is_general class) layouts ≡ true) classes → All (λ group. P group.order) (groups_from layouts seed drawn classes)
all-groups P layouts seed each drawn [] used = λ k d inside. absurd (omega arith)
all-groups P layouts seed each drawn (class ∷ classes) used =
    All-cons (λ group. P group.order) (record { class = class; order = shuffled seed drawn (signatures layouts class) }) (groups_from layouts seed (drawn + (length (signatures layouts class) - 1)) classes)
    (each drawn class (used 0 0 (omega arith)))
    (all-groups P layouts seed each (drawn + (length (signatures layouts class) - 1)) classes (λ k d inside. used (suc k) d (omega arith)))

-- the counts of the groups are those of the classes
counts-from : (layouts : List Layout) (seed : Seed) (drawn : ℕ) (classes : List ℕ) → map (λ group. length group.order) (groups_from layouts seed drawn classes) ≡ map (λ class. length (signatures layouts class)) classes
counts-from layouts seed drawn [] = refl
counts-from layouts seed drawn (class ∷ classes) =
    ap (λ n. n ∷ map (λ group. length group.order) (groups_from layouts seed (drawn + (length (signatures layouts class) - 1)) classes)) (length-shuffled seed drawn (signatures layouts class))
    ∙ ap (λ ns. length (signatures layouts class) ∷ ns) (counts-from layouts seed (drawn + (length (signatures layouts class) - 1)) classes)

length-groups : (layouts : List Layout) (seed : Seed) (drawn : ℕ) (classes : List ℕ) → length (groups_from layouts seed drawn classes) ≡ length classes
length-groups layouts seed drawn [] = refl
length-groups layouts seed drawn (class ∷ classes) =
    let rest : length (groups_from layouts seed (drawn + (length (signatures layouts class) - 1)) classes) ≡ length classes = length-groups layouts seed (drawn + (length (signatures layouts class) - 1)) classes in
    omega (arith, rest)

pub groups_of-length : (layouts : List Layout) (seed : Seed) → length (groups_of layouts seed) ≡ length (classes_in_use layouts)
groups_of-length layouts seed = length-groups layouts seed 0 (classes_in_use layouts)

pub groups_of-are : (layouts : List Layout) (seed : Seed) → length layouts ≤ 1024 → AreGroups (groups_of layouts seed)
groups_of-are layouts seed small =
    let used : All (λ class. list_any (is_general class) layouts ≡ true) (classes_in_use layouts) = all-pass (λ class. list_any (is_general class) layouts) all_classes in
    record {
      few = omega (arith, groups_of-length layouts seed, few-of-all (λ class. list_any (is_general class) layouts));
      counted = all-groups (λ order. (1 ≤ length order) × (length order ≤ 1024)) layouts seed
          (λ drawn class used.
          (omega (arith, length-shuffled seed drawn (signatures layouts class), signatures-some layouts class used), omega (arith, length-shuffled seed drawn (signatures layouts class), signatures-few layouts class)))
          0 (classes_in_use layouts) used;
      distinct = all-groups AreDistinct layouts seed (λ drawn class used. shuffled-distinct seed drawn (signatures layouts class) (signatures-distinct layouts class)) 0 (classes_in_use layouts) used;
    }

pub parts-of : (layouts : List Layout) (budget : ℕ) (seed : Seed) (groups : List Group) (parts : List ℕ) → groups ≡ groups_of layouts seed → parts ≡ share (counts_of groups) budget → parts ≡ parts_of layouts budget
parts-of layouts budget seed groups parts same is =
    is ∙ ap (λ counts. share counts budget) (ap counts_of same ∙ counts-from layouts seed 0 (classes_in_use layouts))

pub parts-are : (groups : List Group) (parts : List ℕ) (budget : ℕ) → AreGroups groups → AreWithin (counts_of groups) parts budget → AreParts groups parts
parts-are groups parts budget are within =
    let many : length parts ≡ length groups = within.same_length ∙ length-map groups (λ group. length group.order) in
    record {
      together = many;
      some = λ k d inside. subst (λ n. 0 < n) (get_or_default parts k 0 d inside) (omega (arith, within.at_least k (omega (arith, within.same_length))));
      small = omega (
        arith,
        sum_by-le (λ (x : ℕ). x) 1024 parts (λ k d inside. subst (λ n. n ≤ 1024) (get_or_default parts k 0 d inside)
            (omega (arith, within.at_most k (omega (arith, within.same_length)), count-small k (omega (arith, within.same_length))))),
        many,
        are.few,
      );
    }
  where
    count-small : (k : ℕ) → k < length (counts_of groups) → slice_index (counts_of groups) k ≤ 1024
    count-small k inside = All-map (λ n. n ≤ 1024) (λ group. length group.order) groups (λ i d low. (are.counted i d low).1) k 0 inside

-- ---- each type has a zone

pub deals-row : (groups : List Group) (parts : List ℕ) → AreParts groups parts → AreInRow 0 (sum parts) (deals_from 0 groups parts)
deals-row groups parts are =
    let e : 0 + sum parts ≡ sum parts = omega arith in subst (λ last. AreInRow 0 last (deals_from 0 groups parts)) e (deals-in_row 0 groups parts are.together are.some)

general-there : (layouts : List Layout) (seed : Seed) (parts : List ℕ) (layout : Layout) → length parts ≡ length (groups_of layouts seed) → list_any (is_general (class_at layout)) layouts ≡ true →
    list_any (λ other. is_general (class_at layout) other && is layout.letters other.letters) layouts ≡ true → HasBucket (deals_from 0 (groups_of layouts seed) parts) layout
general-there layouts seed parts layout together used letters =
    bucket-there layouts seed 0 0 (class_at layout) (classes_in_use layouts) parts layout.letters (together ∙ groups_of-length layouts seed)
    (among-all (λ class. list_any (is_general class) layouts) (class_at layout) (class_at-below layout) used)
    (has-signatures layout.letters layouts (class_at layout) ∙ letters)

same-class : (class : ℕ) → (class == class) ≡ true
same-class class = grind (arith, nat_tests)

same-letters : (letters : Signature) → is letters letters ≡ true
same-letters letters = (bytes_eq-Decides letters letters).1 refl

pub zones-there : (layouts : List Layout) (seed : Seed) (parts : List ℕ) → length parts ≡ length (groups_of layouts seed) →
    All (HasZone (deals_from 0 (groups_of layouts seed) parts) (data_classes layouts)) layouts
zones-there layouts seed parts together k d inside = record { in_data = in_data; in_bucket = in_bucket }
  where
    in_data : is_data_only (get_or layouts k d) ≡ true → HasDataZone (data_classes layouts) (get_or layouts k d)
    in_data only =
        place-there (λ other. class_at (get_or layouts k d) == other) (data_classes layouts)
        (among-all (λ class. list_any (is_data class) layouts) (class_at (get_or layouts k d)) (class_at-below (get_or layouts k d))
        (any-at (is_data (class_at (get_or layouts k d))) layouts k d inside (ap (λ b. b && is_data_only (get_or layouts k d)) (same-class (class_at (get_or layouts k d))) ∙ only)))

    in_bucket : is_data_only (get_or layouts k d) ≡ false → HasBucket (deals_from 0 (groups_of layouts seed) parts) (get_or layouts k d)
    in_bucket other =
        let general : is_general (class_at (get_or layouts k d)) (get_or layouts k d) ≡ true =
        ap (λ b. b && not (is_data_only (get_or layouts k d))) (same-class (class_at (get_or layouts k d))) ∙ ap not other in
        general-there layouts seed parts (get_or layouts k d) together
        (any-at (is_general (class_at (get_or layouts k d))) layouts k d inside general)
        (any-at (λ o. is_general (class_at (get_or layouts k d)) o && is (get_or layouts k d).letters o.letters) layouts k d inside
        (ap (λ b. b && is (get_or layouts k d).letters (get_or layouts k d).letters) general ∙ same-letters (get_or layouts k d).letters))

-- ---- each zone is one of them

data-inside : (general : ℕ) (classes : List ℕ) (layout : Layout) → HasDataZone classes layout → data_zone general classes (class_at layout) < general + length classes
data-inside general classes layout there =
    elim (position (λ other. class_at layout == other) classes) as (λ o. position (λ other. class_at layout == other) classes ≡ o → is_some o ≡ true → general + unwrap_or o 0 < general + length classes) [
      | None ↦ λ e some. absurd cc
      | Some place ↦ λ e some. let found = position-Some (λ other. class_at layout == other) classes place 0 e in omega (arith, found.0)
    ] refl there

pub zones-inside : (layouts : List Layout) (deals : List Deal) (general : ℕ) (classes : List ℕ) → AreInRow 0 general deals → All (HasZone deals classes) layouts →
    All (λ zone. zone < general + length classes) (map (zone_among deals general classes) layouts)
zones-inside layouts deals general classes row there =
    All-map (λ zone. zone < general + length classes) (zone_among deals general classes) layouts (λ k d low. one (get_or layouts k d) (there k d low))
  where
    one : (layout : Layout) → HasZone deals classes layout → zone_among deals general classes layout < general + length classes
    one layout has_zone =
        elim (is_data_only layout) as (λ b. is_data_only layout ≡ b → cond b (data_zone general classes (class_at layout)) (general_zone deals layout) < general + length classes) [
          | true ↦ λ e. data-inside general classes layout (has_zone.in_data e)
          | false ↦ λ e. omega (arith, zone-inside 0 general deals layout row (has_zone.in_bucket e))
        ] refl

-- ---- the whole

pub plan-is : (layouts : List Layout) (budget : ℕ) (seed : Seed) (parts : List ℕ) (plan : Plan) (deals : List Deal) (general : ℕ) →
    parts ≡ parts_of layouts budget → deals ≡ deals_from 0 (groups_of layouts seed) parts → general ≡ sum parts → plan ≡ plan_of_deals seed layouts deals general (data_classes layouts) →
    plan ≡ plan_of layouts budget seed
plan-is layouts budget seed parts plan deals general parts-are deals-are count is =
    is ∙ ap (λ ds. plan_of_deals seed layouts ds general (data_classes layouts)) (deals-are ∙ ap (deals_from 0 (groups_of layouts seed)) parts-are)
    ∙ ap (λ n. plan_of_deals seed layouts (deals_of layouts budget seed) n (data_classes layouts)) (count ∙ ap sum parts-are)

pub counts-are : (groups : List Group) (counts : List ℕ) → AreGroups groups → counts ≡ counts_of groups → All (λ count. (1 ≤ count) × (count ≤ 1024)) counts
counts-are groups counts are same =
    subst (λ ns. All (λ count. (1 ≤ count) × (count ≤ 1024)) ns) (sym same) (All-map (λ count. (1 ≤ count) × (count ≤ 1024)) (λ group. length group.order) groups are.counted)

-- the zones of the parts of a plan
pub zones-are : (layouts : List Layout) (groups : List Group) (parts : List ℕ) (deals : List Deal) (general : ℕ) → AreParts groups parts → deals ≡ deals_from 0 groups parts → general ≡ sum parts → AreZones deals general (data_classes layouts)
zones-are layouts groups parts deals general are dealt count = record {
  in_row = subst (λ (ds : List Deal). AreInRow 0 general ds) (sym dealt) (subst (λ n. AreInRow 0 n (deals_from 0 groups parts)) (sym count) (deals-row groups parts are));
  small = omega (arith, are.small);
  few = data_classes-few layouts;
  below = data_classes-below layouts;
}

pub types-there : (layouts : List Layout) (seed : Seed) (groups : List Group) (parts : List ℕ) (deals : List Deal) → groups ≡ groups_of layouts seed → AreParts groups parts → deals ≡ deals_from 0 groups parts →
    All (HasZone deals (data_classes layouts)) layouts
types-there layouts seed groups parts deals grouped are dealt =
    let given : deals ≡ deals_from 0 (groups_of layouts seed) parts = dealt ∙ ap (λ gs. deals_from 0 gs parts) grouped in
    subst (λ (ds : List Deal). All (HasZone ds (data_classes layouts)) layouts) (sym given) (zones-there layouts seed parts (are.together ∙ ap length grouped))

pub zones-below : (layouts : List Layout) (deals : List Deal) (general : ℕ) (classes of_type : List ℕ) → AreZones deals general classes → All (HasZone deals classes) layouts → of_type ≡ map (zone_among deals general classes) layouts →
    All (λ zone. zone < general + length classes) of_type
zones-below layouts deals general classes of_type are there is =
    subst (λ (ts : List ℕ). All (λ zone. zone < general + length classes) ts) (sym is) (zones-inside layouts deals general classes are.in_row there)

-- the deals of the same groups and parts
pub dealt-same : (shown deals : List Deal) (gs groups : List Group) (ps parts : List ℕ) → shown ≡ deals → deals ≡ deals_from 0 gs ps → gs ≡ groups → ps ≡ parts → shown ≡ deals_from 0 groups parts
dealt-same shown deals gs groups ps parts same dealt same_groups same_parts =
    same ∙ dealt ∙ ap (λ gs. deals_from 0 gs ps) same_groups ∙ ap (deals_from 0 groups) same_parts

-- the zones of the types, with the same data classes
pub types-same : (layouts : List Layout) (deals : List Deal) (general : ℕ) (shown of_type given classes : List ℕ) → shown ≡ of_type → of_type ≡ map (zone_among deals general given) layouts → given ≡ classes →
    shown ≡ map (zone_among deals general classes) layouts
types-same layouts deals general shown of_type given classes same is same_classes = same ∙ is ∙ ap (λ cs. map (zone_among deals general cs) layouts) same_classes

-- the plan of these rows
pub rows-plan : (seed : Seed) (layouts : List Layout) (deals : List Deal) (general : ℕ) (zones : List ZoneRow) (shown of_type given classes : List ℕ) → zones ≡ rows_among seed shown deals general given →
    shown ≡ map (zone_among deals general classes) layouts → of_type ≡ map (zone_among deals general classes) layouts → given ≡ classes →
    record { zones = zones; of_type = of_type } ≡ plan_of_deals seed layouts deals general classes
rows-plan seed layouts deals general zones shown of_type given classes rows shown-is is same =
    let plan : List ZoneRow → List ℕ → Plan = λ zones of_type. record { zones = zones; of_type = of_type } in
    let types = map (zone_among deals general classes) layouts in
    ap (λ zs. plan zs of_type) (rows ∙ ap (λ ts. rows_among seed ts deals general given) shown-is ∙ ap (rows_among seed types deals general) same)
    ∙ ap (plan (rows_among seed types deals general classes)) is
