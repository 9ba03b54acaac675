use Rattle.std.proofs.Common.{◌≤◌, sym, subst}
use Rattle.kz_layout.specs.Granules.{Stands}
use Rattle.kz_layout.specs.contracts.body.Fields.{the_view}
use Rattle.kz_layout.proofs.Bodies.{stands_rounded, rounded_is_body}
use Rattle.kz_layout.proofs.body.Fields.rounded.Goals as goal

pub invariant_of-result : goal.invariant_of-result
invariant_of-result c =
    let some = subst (λ b. 1 ≤ b.size) (sym c.self.view_is) c.requires in
    rounded_is_body c.round_up.result c.self.inside.align c.self.inside.size c.self.inside.codes.items c.self.invariant some c.round_up.ensures

pub returns : goal.returns
returns c = λ before stands.
    stands_rounded (the_view c.self.inside) before c.round_up.result (subst (λ b. Stands b before) (sym c.self.view_is) stands) c.self.invariant.aligned c.round_up.ensures
