-- The classes, and the class of a layout.
use Rattle.std.proofs.Common.{◌≡◌, ℕ, suc, ◌+◌, ◌-◌, ◌<◌, ◌≤◌, List, [], ◌∷◌, Option, Some, unwrap_or, refl, ap, sym, ◌∙◌, arith}
use Rattle.std.specs.List.{range_with_len}
use Rattle.std.proofs.lemmas.Iterator.{YieldsList, YieldsList-from_range}
use Rattle.std.proofs.iter.Yields.{nat_range_steps}
use Rattle.std.specs.declared.ops.Range.{Range}
use Rattle.kz_model.specs.declared.record.Layout.{Layout}
use Rattle.kz_model.specs.declared.record.Geometry.{Geometry}
use Rattle.kz_model.specs.Types.Class.{class_of, geometry_of, kalloc_sizes}
use Rattle.kz_model.specs.Types.Plan.{all_classes, class_at, shape_at}
use Rattle.std.specs.Prelude.{slice_index}

-- a range over all classes gives them
pub all_classes-from_range : {s : Range ℕ} → s ≡ record { start = 0; end = 32 } → YieldsList nat_range_steps (λ x. x) s all_classes
unfolding all_classes
all_classes-from_range e = YieldsList-from_range 0 32 32 e refl

-- the class that a table of these sizes gives
pub class_at-found : (sizes : List ℕ) (layout : Layout) (o : Option ℕ) (class : ℕ) → sizes ≡ kalloc_sizes → o ≡ class_of sizes layout.size → o ≡ Some class →
    class ≡ class_at layout
unfolding class_at
class_at-found sizes layout o class table found is =
    ap (λ (o : Option ℕ). unwrap_or o 0) (sym is ∙ found ∙ ap (λ sizes. class_of sizes layout.size) table)

pub shape_at-found : (sizes : List ℕ) (class : ℕ) (shape : Geometry) → sizes ≡ kalloc_sizes → shape ≡ geometry_of (slice_index sizes class) → shape ≡ shape_at class
unfolding shape_at
shape_at-found sizes class shape table is = is ∙ ap (λ sizes. geometry_of (slice_index sizes class)) table

-- the classes from one on
unfoldable pub classes_from : ℕ → List ℕ
classes_from class = range_with_len class (32 - class)

pub classes_from-all : classes_from 0 ≡ all_classes
unfolding classes_from all_classes
classes_from-all = refl

pub classes_from-next : (class : ℕ) → class < 32 → classes_from class ≡ class ∷ classes_from (class + 1)
unfolding classes_from
classes_from-next class inside = let e : 32 - class ≡ suc (32 - (class + 1)) = omega arith in ap (range_with_len class) e

pub classes_from-end : (class : ℕ) → 32 ≤ class → classes_from class ≡ []
unfolding classes_from
classes_from-end class over = let e : 32 - class ≡ 0 = omega arith in ap (range_with_len class) e
