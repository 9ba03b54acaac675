-- Tables of names, against lists of names.
use Rattle.std.specs.Prelude.{◌≡◌, ℕ, List}
use Rattle.std.specs.Borrow.{Bor}
use Rattle.std.specs.BTreeMap as tree
use Rattle.std.specs.BTreeMap.{BTreeMap}
use Rattle.std.specs.BTreeSet as sorted
use Rattle.std.specs.BTreeSet.{BTreeSet}
use Rattle.std.specs.Cmp.Lexicographic.{slice_cmp}
use Rattle.std.specs.Ordering.{nat_cmp}
use Rattle.kz_model.specs.Types.Layouts.{Text, place_of, has}

-- the map has the first place of each name
abbrev pub ArePlaces : BTreeMap (Bor (List ℕ)) ℕ → List Text → Type 0
ArePlaces places names = (name : Text) → tree.get_by (λ k. slice_cmp nat_cmp name k.now) places ≡ place_of name names

-- the set has these names
abbrev pub AreNames : BTreeSet (Bor (List ℕ)) → List Text → Type 0
AreNames seen names = (name : Text) → sorted.contains_by (λ k. slice_cmp nat_cmp name k.now) seen ≡ has name names
