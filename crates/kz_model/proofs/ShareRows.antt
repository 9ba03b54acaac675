-- Worked rows of the division, computed from its definition.
use Rattle.std.proofs.Common.{◌≡◌, ℕ, [], ◌∷◌, true, nat_lt, length, refl}
use Rattle.kz_model.specs.Types.Share.{share}

pub greater_count_first : share (5 ∷ 1 ∷ []) 3 ≡ 2 ∷ 1 ∷ []
greater_count_first = refl

pub rest_unused : share (5 ∷ 1 ∷ []) 10 ≡ 5 ∷ 1 ∷ []
rest_unused = refl

pub later_class_first : share (2 ∷ 5 ∷ []) 4 ≡ 1 ∷ 3 ∷ []
later_class_first = refl

pub tie_to_the_smaller : share (4 ∷ 4 ∷ []) 3 ≡ 2 ∷ 1 ∷ []
tie_to_the_smaller = refl

pub three_classes : share (4 ∷ 2 ∷ 2 ∷ []) 5 ≡ 3 ∷ 1 ∷ 1 ∷ []
three_classes = refl

pub short_of_two_classes : nat_lt 1 (length {A = ℕ} (1 ∷ 1 ∷ [])) ≡ true
short_of_two_classes = refl
