use Rattle.std.proofs.Common.{◌≡◌, ◌-◌, ◌<◌, ◌↔◌, ℕ, List, None, Some, IsNone, slice_index, subst, sym, arith}
use Rattle.kz_model.specs.Types.Class.{class_of}
use Rattle.kz_class.proofs.Points.{some_at, none_at, none_clause}
use Rattle.kz_class.proofs.table.ClassTable.class_of.Goals as goal

pub returns-then-class-clause-class : goal.returns-then-class-clause-class
returns-then-class-clause-class g c =
    let P : List ℕ → Type 0 = λ sizes. Some c.count_below-class.result ≡ class_of sizes c.args.size in
    subst P c.self.view_is (sym (some_at _ c.args.size c.count_below-class.result (omega arith) c.count_below-class.ensures.point))

pub returns-then-class-clause-none : goal.returns-then-class-clause-none
returns-then-class-clause-none g c =
    let P : List ℕ → Type 0 = λ sizes. IsNone (Some c.count_below-class.result) ↔ (slice_index sizes (g.row.N - 1) < c.args.size) in
    subst P c.self.view_is (none_clause _ c.args.size g.row.N _ c.self.told c.self.invariant (some_at _ c.args.size c.count_below-class.result (omega arith) c.count_below-class.ensures.point))

pub returns-else-class-clause-class : goal.returns-else-class-clause-class
returns-else-class-clause-class g c =
    let P : List ℕ → Type 0 = λ sizes. None ≡ class_of sizes c.args.size in
    subst P c.self.view_is (sym (none_at _ c.args.size c.count_below-class.result (omega arith) c.count_below-class.ensures.point))

pub returns-else-class-clause-none : goal.returns-else-class-clause-none
returns-else-class-clause-none g c =
    let P : List ℕ → Type 0 = λ sizes. IsNone {T = ℕ} None ↔ (slice_index sizes (g.row.N - 1) < c.args.size) in
    subst P c.self.view_is (none_clause _ c.args.size g.row.N _ c.self.told c.self.invariant (none_at _ c.args.size c.count_below-class.result (omega arith) c.count_below-class.ensures.point))
