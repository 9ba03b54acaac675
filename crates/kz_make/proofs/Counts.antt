-- How many there are of each.
use Rattle.std.proofs.Common.{◌≡◌, ℕ, refl}
use Rattle.kz_model.specs.Text.Made.{types_count, names_count, drawn_count, later_count}

pub types_are : types_count ≡ 40
unfolding types_count
types_are = refl

pub names_are : names_count ≡ 250
unfolding names_count
names_are = refl

pub drawn_are : drawn_count ≡ 5000
unfolding drawn_count
drawn_are = refl

pub later_are : later_count ≡ 3
unfolding later_count
later_are = refl
