-- What the parts of a plan keep.
use Rattle.std.specs.Prelude.{◌≡◌, ℕ, ◌*◌, ◌<◌, ◌≤◌, List, length, map, sum, All}
use Rattle.kz_model.specs.Types.Plan.{Group}
use Rattle.kz_plan.specs.Shown.{AreDistinct}

-- how many signatures each class in use has
abbrev pub counts_of : List Group → List ℕ
counts_of groups = map (λ group. length group.order) groups

-- the groups of the classes that are in use
pub record AreGroups (groups : List Group) : Type 0 where
  pub few : length groups ≤ 32
  pub counted : All (λ group. (1 ≤ length group.order) × (length group.order ≤ 1024)) groups
  pub distinct : All (λ group. AreDistinct group.order) groups

-- their numbers of zones
pub record AreParts (groups : List Group) (parts : List ℕ) : Type 0 where
  pub together : length parts ≡ length groups
  pub some : All (λ part. 0 < part) parts
  pub small : sum parts ≤ 32 * 1024
