-- The plan of a valid bundle is fit.
use Rattle.std.proofs.Common.{◌≡◌, ℕ, suc, ◌+◌, ◌-◌, ◌%◌, ◌<◌, ◌≤◌, List, [], ◌∷◌, length, map, slice_index, All, refl, sym, ◌∙◌, subst, arith, lit<}
use Rattle.std.proofs.Math.ListN.{get_or}
use Rattle.std.proofs.Math.Nat.{mod-lt}
use Rattle.std.proofs.lemmas.List.{length-append, length-map}
use Rattle.std.proofs.lemmas.List.Elements.{All-append, All-cons, All-map}
use Rattle.std.proofs.lemmas.List.FromFn.{length-enumerate_from}
use Rattle.std.specs.List.{enumerate_from, flat_map, range_with_len}
use Rattle.kz_model.specs.declared.bundle.Bundle.{Bundle}
use Rattle.kz_model.specs.declared.bundle.Seed.{Seed}
use Rattle.kz_model.specs.declared.record.Layout.{Layout}
use Rattle.kz_model.specs.Types.Class.{kalloc_sizes, IsFitGeometry}
use Rattle.kz_model.specs.Types.Plan.{Group, Deal, shape_at, shuffled, signatures, classes_in_use, data_classes, groups_from, groups_of, deals_from, deals_of, parts_of, general_count, zone_among, bucket_row, bucket_rows, data_row, rows_among}
use Rattle.kz_model.specs.Types.Planned.{IsFitRow, IsFitPlan, PlansAreFit}
use Rattle.kz_model.specs.Types.Share.{share}
use Rattle.kz_plan.specs.ShareLaws.{AreWithin}
use Rattle.kz_model.specs.Grammar.Valid.{layouts_in, plan_in, IsValid}
use Rattle.kz_model.specs.Zone.Words.{word}
use Rattle.kz_class.proofs.Classes.{classes_fit, table_from_test}
use Rattle.kz_model.proofs.LaidOut.{layouts_of-length}
use Rattle.kz_plan.proofs.ZoneRows.{general-many}
use Rattle.kz_plan.proofs.SharesExist.{shares_are_within}
use Rattle.kz_plan.specs.Homes.{AreInRow, AreZones, HasZone}
use Rattle.kz_plan.specs.Parts.{counts_of, AreParts}
use Rattle.kz_plan.proofs.Plans.{classes_in_use-below, data_classes-below, data_classes-few, groups_of-are, groups_of-length, counts-are, parts-of, parts-are, zones-are, types-there, zones-below}

-- ---- rows

pub class_fit : (class : ℕ) → class < 32 → IsFitGeometry (shape_at class)
unfolding shape_at
class_fit class below = classes_fit (slice_index kalloc_sizes class) ((table_from_test kalloc_sizes refl).classes class 0 below)

buckets-fit : (seed : Seed) (of_type : List ℕ) (deal : Deal) → deal.class < 32 → All IsFitRow (bucket_rows seed of_type deal)
buckets-fit seed of_type deal below =
    All-map IsFitRow (bucket_row seed of_type deal) (range_with_len 0 deal.zones) (λ k d inside.
    let low : word seed 1 (deal.first + get_or (range_with_len 0 deal.zones) k d) % 4 < 4 = mod-lt (word seed 1 (deal.first + get_or (range_with_len 0 deal.zones) k d)) (lit< tt) in
    record { shape = class_fit deal.class below; submap = omega arith })

general-fit : (seed : Seed) (of_type : List ℕ) (deals : List Deal) → All (λ deal. deal.class < 32) deals → All IsFitRow (flat_map (bucket_rows seed of_type) deals)
general-fit seed of_type [] below = λ k d inside. absurd (omega arith)
general-fit seed of_type (deal ∷ deals) below =
    All-append IsFitRow (bucket_rows seed of_type deal) (flat_map (bucket_rows seed of_type) deals) (buckets-fit seed of_type deal (below 0 deal (omega arith)))
    (general-fit seed of_type deals (λ k d inside. below (suc k) d (omega arith)))

data-fit : (of_type : List ℕ) (zone : ℕ) (classes : List ℕ) → All (λ class. class < 32) classes → All IsFitRow (map (data_row of_type) (enumerate_from zone classes))
data-fit of_type zone [] below = λ k d inside. absurd (omega arith)
data-fit of_type zone (class ∷ classes) below =
    All-cons IsFitRow (data_row of_type (zone, class)) (map (data_row of_type) (enumerate_from (zone + 1) classes))
    (record { shape = class_fit class (below 0 0 (omega arith)); submap = omega arith })
    (data-fit of_type (zone + 1) classes (λ k d inside. below (suc k) d (omega arith)))

deals-below : (layouts : List Layout) (seed : Seed) (drawn first : ℕ) (classes parts : List ℕ) → All (λ class. class < 32) classes → All (λ deal. deal.class < 32) (deals_from first (groups_from layouts seed drawn classes) parts)
deals-below layouts seed drawn first [] parts below = λ k d inside. absurd (omega arith)
deals-below layouts seed drawn first (class ∷ classes) [] below = λ k d inside. absurd (omega arith)
deals-below layouts seed drawn first (class ∷ classes) (part ∷ parts) below =
    let rest = groups_from layouts seed (drawn + (length (signatures layouts class) - 1)) classes in
    All-cons (λ deal. deal.class < 32) (record { class = class; first = first; zones = part; order = shuffled seed drawn (signatures layouts class) }) (deals_from (first + part) rest parts)
    (below 0 0 (omega arith))
    (deals-below layouts seed (drawn + (length (signatures layouts class) - 1)) (first + part) classes parts (λ k d inside. below (suc k) d (omega arith)))

rows-many : (seed : Seed) (of_type : List ℕ) (deals : List Deal) (general : ℕ) (classes : List ℕ) → AreInRow 0 general deals → length (rows_among seed of_type deals general classes) ≡ general + length classes
rows-many seed of_type deals general classes row =
    omega (
      arith,
      general-many seed of_type 0 general deals row,
      length-append (flat_map (bucket_rows seed of_type) deals) (map (data_row of_type) (enumerate_from general classes)),
      length-map (enumerate_from general classes) (data_row of_type),
      length-enumerate_from general classes,
    )

-- ---- parts

module _ (layouts : List Layout) (budget : ℕ) (seed : Seed) (few : length layouts ≤ 1024) (enough : length (classes_in_use layouts) ≤ budget) where
  abbrev groups : List Group
  groups = groups_of layouts seed

  same : share (counts_of groups) budget ≡ parts_of layouts budget
  same = parts-of layouts budget seed groups (share (counts_of groups) budget) refl refl

  within : AreWithin (counts_of groups) (parts_of layouts budget) budget
  within =
      subst (λ parts. AreWithin (counts_of groups) parts budget) same
      (shares_are_within (counts_of groups) budget (λ k d inside. (counts-are groups (counts_of groups) (groups_of-are layouts seed few) refl k d inside).0)
      (omega (arith, groups_of-length layouts seed, length-map groups (λ group. length group.order))))

  parts : AreParts groups (parts_of layouts budget)
  parts = parts-are groups (parts_of layouts budget) budget (groups_of-are layouts seed few) within

  pub plan-zones : AreZones (deals_of layouts budget seed) (general_count layouts budget) (data_classes layouts)
  plan-zones = zones-are layouts groups (parts_of layouts budget) (deals_of layouts budget seed) (general_count layouts budget) parts refl refl

  pub plan-there : All (HasZone (deals_of layouts budget seed) (data_classes layouts)) layouts
  plan-there = types-there layouts seed groups (parts_of layouts budget) (deals_of layouts budget seed) refl parts refl

  pub plan-few : general_count layouts budget ≤ budget
  plan-few = within.within

-- ---- the plan

module _ (b : Bundle) (is : IsValid b) where
  abbrev layouts : List Layout
  layouts = layouts_in b

  abbrev deals : List Deal
  deals = deals_of layouts b.budget b.seed

  abbrev general : ℕ
  general = general_count layouts b.budget

  abbrev of_type : List ℕ
  of_type = map (zone_among deals general (data_classes layouts)) layouts

  pub layouts-many : length layouts ≡ length b.types
  layouts-many = layouts_of-length b.types layouts is.laid_out

  few : length layouts ≤ 1024
  few = omega (arith, layouts-many, is.types.few)

  pub valid-zones : AreZones deals general (data_classes layouts)
  valid-zones = plan-zones layouts b.budget b.seed few is.enough

  pub valid-there : All (HasZone deals (data_classes layouts)) layouts
  valid-there = plan-there layouts b.budget b.seed few is.enough

  rows : length (plan_in b).zones ≡ general + length (data_classes layouts)
  rows = rows-many b.seed of_type deals general (data_classes layouts) valid-zones.in_row

  typed : length of_type ≡ length b.types
  typed = length-map layouts (zone_among deals general (data_classes layouts)) ∙ layouts-many

  below : All (λ zone. zone < general + length (data_classes layouts)) of_type
  below = zones-below layouts deals general (data_classes layouts) of_type valid-zones valid-there refl

  pub plan-fit : IsFitPlan b (plan_in b)
  plan-fit = record {
    types = typed;
    zones = λ of inside. omega (arith, rows, below of 0 (omega (arith, typed)));
    rows =
        All-append IsFitRow (flat_map (bucket_rows b.seed of_type) deals) (map (data_row of_type) (enumerate_from general (data_classes layouts)))
        (general-fit b.seed of_type deals (deals-below layouts b.seed 0 0 (classes_in_use layouts) (parts_of layouts b.budget) (classes_in_use-below layouts)))
        (data-fit of_type general (data_classes layouts) (data_classes-below layouts));
    few = omega (arith, rows, plan-few layouts b.budget b.seed few is.enough, is.budget, data_classes-few layouts);
  }

pub plans_are_fit : PlansAreFit
plans_are_fit b plan valid is_plan = subst (IsFitPlan b) (sym is_plan) (plan-fit b valid)
