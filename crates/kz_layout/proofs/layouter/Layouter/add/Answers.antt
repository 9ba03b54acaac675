use Rattle.std.proofs.Common.{rules, ◌≡◌, ◌∷◌, ◌++◌, [], List, sym, ap, ◌∙◌, subst}
use Rattle.std.proofs.lemmas.Result.{err_from_is_err_and}
use Rattle.kz_layout.specs.Granules.{AllStand, Granules}
use Rattle.kz_layout.specs.Laid.{Laid, HasLaidOut}
use Rattle.kz_layout.proofs.Walks.{one_more_laid, first_fault}
use Rattle.kz_layout.proofs.layouter.Layouter.add.Goals as goal

pub returns-in_err-body-clause-fault : goal.returns-in_err-body-clause-fault
returns-in_err-body-clause-fault c =
    let p = err_from_is_err_and c.from_residual.result c.from_residual.ensures.1 in
    let laid : Laid = record { names = c.self.inside.names; bodies = c.self.inside.bodies.items } in
    rw (p.1, p.2) (λ other decls more has named.
    first_fault laid decls more c.args.decl.now c.in_err-body.field-0.0 (subst (λ l. HasLaidOut l decls) (sym c.self.view_is) has) (named ∙ ap (λ l. l.names) (sym c.self.view_is))
    (λ covers all. c.in_err-body.ensures covers (subst (λ bodies. AllStand bodies covers) (sym c.as_slice.ensures.value) all) other))

pub returns-clause-ok : goal.returns-clause-ok
returns-clause-ok c = λ decls has.
    let laid : Laid = record { names = c.self.inside.names; bodies = c.self.inside.bodies.items } in
    let pushed : c.push.new.self.items ≡ laid.bodies ++ c.in_ok-body.body ∷ [] = search rules in
    let more = one_more_laid laid decls c.args.decl.now c.in_ok-body.body (subst (λ l. HasLaidOut l decls) (sym c.self.view_is) has)
    (λ covers all. c.in_ok-body.ensures covers (subst (λ bodies. AllStand bodies covers) (sym c.as_slice.ensures.value) all)) in
    subst (λ (bodies : List Granules). HasLaidOut (record { names = laid.names; bodies = bodies }) (decls ++ c.args.decl.now ∷ [])) (sym pushed) more
