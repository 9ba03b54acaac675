-- That a type has a zone.
use Rattle.std.specs.Prelude.{◌≡◌, ℕ, ◌+◌, ◌*◌, ◌<◌, ◌≤◌, ◌==◌, true, false, List, [], ◌∷◌, length, slice_index, All, IsSome}
use Rattle.std.specs.List.{find, position}
use Rattle.std.specs.Option.{IsSomeAnd}
use Rattle.kz_model.specs.declared.record.Layout.{Layout}
use Rattle.kz_model.specs.Types.Cover.{is_data_only}
use Rattle.kz_model.specs.Types.Layouts.{place_of}
use Rattle.kz_model.specs.Types.Plan.{Deal, class_at, types_in}

-- the type's class is dealt, and its signature is among those of its class
abbrev pub HasBucket : List Deal → Layout → Type 0
HasBucket deals layout =
    IsSomeAnd (find (λ deal. deal.class == class_at layout) deals) (λ deal. IsSome (place_of layout.letters deal.order))

-- the type's class has a data zone
abbrev pub HasDataZone : List ℕ → Layout → Type 0
HasDataZone classes layout = IsSome (position (λ other. class_at layout == other) classes)

-- the type is of one kind or the other
pub record HasZone (deals : List Deal) (classes : List ℕ) (layout : Layout) : Type 0 where
  pub in_data : is_data_only layout ≡ true → HasDataZone classes layout
  pub in_bucket : is_data_only layout ≡ false → HasBucket deals layout

-- for each zone below this number, how many types are in it
pub record AreCounts (counts : List ℕ) (zones : ℕ) (of_type : List ℕ) : Type 0 where
  pub all : length counts ≡ zones
  pub each : (zone : ℕ) → zone < zones → slice_index counts zone ≡ types_in of_type zone

-- the zones of these deals, at least one for each, are numbered on from one number up to another
abbrev pub AreInRow : ℕ → ℕ → List Deal → Type 0
AreInRow first last [] = first ≡ last
AreInRow first last (deal ∷ deals) = (deal.first ≡ first) × (0 < deal.zones) × AreInRow (first + deal.zones) last deals

-- the deals of the classes in use have so many zones, and the data zones of these classes follow
pub record AreZones (deals : List Deal) (general : ℕ) (classes : List ℕ) : Type 0 where
  pub in_row : AreInRow 0 general deals
  pub small : general ≤ 32 * 1024
  pub few : length classes ≤ 32
  pub below : All (λ class. class < 32) classes
