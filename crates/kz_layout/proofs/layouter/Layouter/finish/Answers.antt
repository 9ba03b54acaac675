use Rattle.std.proofs.Common.{Ok, map, sym, ap, ◌∙◌, subst}
use Rattle.std.proofs.lemmas.Result.{IfOk-weaker}
use Rattle.kz_layout.specs.Granules.{layout_by_codes}
use Rattle.kz_layout.specs.Laid.{Laid, HasLaidOut}
use Rattle.kz_layout.proofs.Walks.{all_laid}
use Rattle.kz_layout.proofs.layouter.Layouter.finish.Goals as goal

pub returns-clause-ok : goal.returns-clause-ok
returns-clause-ok c =
    let laid : Laid = record { names = c.self.inside.names; bodies = c.self.inside.bodies.items } in
    IfOk-weaker c.layouts_of_all.result _ _
    (λ all items decls has named.
    all_laid laid decls (subst (λ l. HasLaidOut l decls) (sym c.self.view_is) has) (named ∙ ap (λ l. l.names) (sym c.self.view_is))
    ∙ ap (λ layouts. Ok layouts) (sym (items ∙ ap (map layout_by_codes) c.as_slice.ensures.value)))
    c.layouts_of_all.ensures.items
