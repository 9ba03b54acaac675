-- The zone of a type, by what a look-up found.
use Rattle.std.proofs.Common.{◌≡◌, ℕ, ◌+◌, ◌==◌, List, Option, None, Some, IsSome, unwrap_or, refl, ap, sym, ◌∙◌, subst, Bor}
use Rattle.std.specs.List.{find, position}
use Rattle.std.specs.Option.{IsSomeAnd, option_map, option_map_or}
use Rattle.kz_model.specs.declared.record.Layout.{Layout}
use Rattle.kz_model.specs.Types.Layouts.{place_of}
use Rattle.kz_model.specs.Types.Plan.{Deal, class_at, bucket_of, general_zone, data_zone}
use Rattle.kz_plan.specs.Homes.{HasBucket, HasDataZone}

abbrev deal_at : List Deal → ℕ → Option Deal
deal_at deals class = find (λ deal. deal.class == class) deals

-- what was found is the deal of the layout's class
abbrev Finds : Option (Bor Deal) → List Deal → Layout → Type 0
Finds found deals layout = option_map (λ (r : Bor Deal). r.now) found ≡ deal_at deals (class_at layout)

pub Finds-class : (found : Option (Bor Deal)) (deals : List Deal) (layout : Layout) (class : ℕ) → option_map (λ (r : Bor Deal). r.now) found ≡ find (λ deal. deal.class == class) deals → class ≡ class_at layout → Finds found deals layout
Finds-class found deals layout class is same = is ∙ ap (deal_at deals) same

abbrev HasPlace : Layout → Option Deal → Type 0
HasPlace layout found = IsSomeAnd found (λ deal. IsSome (place_of layout.letters deal.order))

pub found_some : (found : Option (Bor Deal)) (deals : List Deal) (layout : Layout) → Finds found deals layout → HasBucket deals layout → IsSome found
found_some None deals layout is there = absurd (subst (HasPlace layout) (sym is) there)
found_some (Some r) deals layout is there = refl

pub found_place : (found : Option (Bor Deal)) (r : Bor Deal) (deals : List Deal) (layout : Layout) (letters : List ℕ) → Finds found deals layout → found ≡ Some r → letters ≡ layout.letters → HasBucket deals layout →
    IsSome (place_of letters r.now.order)
found_place found r deals layout letters is some same there =
    subst (λ (l : List ℕ). IsSome (place_of l r.now.order)) (sym same)
    (subst (HasPlace layout) (sym is ∙ ap (option_map (λ (r : Bor Deal). r.now)) some) there)

pub found_zone : (found : Option (Bor Deal)) (r : Bor Deal) (deals : List Deal) (layout : Layout) (letters : List ℕ) → Finds found deals layout → found ≡ Some r → letters ≡ layout.letters →
    r.now.first + bucket_of r.now letters ≡ general_zone deals layout
found_zone found r deals layout letters is some same =
    ap (λ l. r.now.first + bucket_of r.now l) same
    ∙ ap (λ o. option_map_or (λ deal. deal.first + bucket_of deal layout.letters) o 0) (sym (ap (option_map (λ (r : Bor Deal). r.now)) some) ∙ is)

-- the place of a class
abbrev Places : Option ℕ → List ℕ → ℕ → Type 0
Places found classes class = found ≡ position (λ other. class == other) classes

pub data_some : (found : Option ℕ) (classes : List ℕ) (layout : Layout) (class : ℕ) → Places found classes class → class ≡ class_at layout → HasDataZone classes layout → IsSome found
data_some found classes layout class is same there =
    let at : found ≡ position (λ other. class_at layout == other) classes = is ∙ ap (λ class. position (λ other. class == other) classes) same in
    subst (λ o. IsSome o) (sym at) there

pub data_place : (found : Option ℕ) (place general : ℕ) (classes : List ℕ) (layout : Layout) (class : ℕ) → Places found classes class → class ≡ class_at layout → found ≡ Some place →
    general + place ≡ data_zone general classes (class_at layout)
data_place found place general classes layout class is same some =
    ap (λ o. general + unwrap_or o 0) (sym some ∙ is ∙ ap (λ class. position (λ other. class == other) classes) same)
