use Rattle.std.proofs.Common.{List, [], ◌∷◌, ◌++◌, ℕ, ap, ap₂, ◌∙◌}
use Rattle.kz_model.specs.declared.bundle.NameRow.{NameRow}
use Rattle.kz_model.specs.Store.NameTable.{rows_meant}
use Rattle.kz_model.proofs.NameTable.{rows-push}
use Rattle.kz_model.proofs.store.named.NameRows.push.Goals as goal

pub returns-clause-ok : goal.returns-clause-ok
returns-clause-ok c =
    let i = c.self.inside in
    let row = c.args.row in
    ap₂ rows_meant (c.push_reserved.ensures.items ∙ ap (λ (l : List (List ℕ)). l ++ row.name ∷ []) c.in_ok-reserve.ensures.items) (c.push_reserved-2.ensures.items ∙ ap (λ (l : List ℕ). l ++ row.of ∷ []) c.in_ok-reserve-2.ensures.items)
    ∙ rows-push i.names.items i.types.items row c.self.invariant
    ∙ ap (λ (l : List NameRow). l ++ row ∷ []) c.self.view_is
