-- Worked plans, computed from the definition.
use Rattle.std.proofs.Common.{◌≡◌, ℕ, List, [], ◌∷◌, None, Some, codes, refl}
use Rattle.kz_model.specs.declared.bundle.Seed.TheVariants.{Plain}
use Rattle.kz_model.specs.declared.record.Geometry.{Geometry}
use Rattle.kz_model.specs.declared.record.Layout.{Layout}
use Rattle.kz_model.specs.declared.record.ZoneRow.{ZoneRow}
use Rattle.kz_model.specs.Types.Plan.{all_classes, class_at, shape_at, classes_in_use, signatures, shuffled, plan_of}

abbrev layout : ℕ → List ℕ → Layout
layout size letters = record { size = size; align = 8; letters = letters }

-- the chunk of class 16
abbrev small : Geometry
small = record { element = 16; count = 256; pages = 1 }

abbrev bucket : ℕ → ℕ → ZoneRow
bucket number types = record { bucket = Some number; submap = 0; shape = small; types = types }

abbrev three_types : List Layout
three_types = layout 16 (codes "11") ∷ layout 16 (codes "12") ∷ layout 16 (codes "21") ∷ []

-- signatures rise by their bytes, each once
pub signatures_rise :
    signatures (layout 16 (codes "21") ∷ layout 16 (codes "11") ∷ layout 16 (codes "22") ∷ layout 16 (codes "21") ∷ layout 24 (codes "111") ∷ []) 0
    ≡ codes "11" ∷ codes "21" ∷ []
unfolding class_at
signatures_rise = refl

-- with words of 0 each place is swapped with the first
pub plain_shuffle : shuffled {A = ℕ} Plain 0 (1 ∷ 2 ∷ 3 ∷ []) ≡ 2 ∷ 3 ∷ 1 ∷ []
plain_shuffle = refl

pub three_in_two_zones : plan_of three_types 2 Plain ≡ record { zones = bucket 0 2 ∷ bucket 1 1 ∷ []; of_type = 0 ∷ 0 ∷ 1 ∷ [] }
unfolding all_classes class_at shape_at
three_in_two_zones = refl

pub one_general_type : plan_of (layout 16 (codes "12") ∷ []) 2 Plain ≡ record { zones = bucket 0 1 ∷ []; of_type = 0 ∷ [] }
unfolding all_classes class_at shape_at
one_general_type = refl

pub one_data_type : plan_of (layout 16 (codes "22") ∷ []) 2 Plain
    ≡ record { zones = record { bucket = None; submap = 4; shape = small; types = 1 } ∷ []; of_type = 0 ∷ [] }
unfolding all_classes class_at shape_at
one_data_type = refl

-- data zones follow the others, whatever their classes
pub data_zone_last : plan_of (layout 16 (codes "22") ∷ layout 16 (codes "12") ∷ []) 2 Plain
    ≡ record { zones = bucket 0 1 ∷ record { bucket = None; submap = 4; shape = small; types = 1 } ∷ []; of_type = 1 ∷ 0 ∷ [] }
unfolding all_classes class_at shape_at
data_zone_last = refl

-- two classes are in use, so a budget of 1 is short
pub two_classes_in_use : classes_in_use (layout 16 (codes "12") ∷ layout 24 (codes "111") ∷ []) ≡ 0 ∷ 1 ∷ []
unfolding all_classes class_at
two_classes_in_use = refl
