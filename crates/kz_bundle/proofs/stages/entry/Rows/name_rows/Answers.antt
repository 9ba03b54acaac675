use Rattle.std.proofs.Common.{◌≤◌, length, map, ap, sym, ◌∙◌, subst}
use Rattle.std.specs.List.{All}
use Rattle.kz_model.specs.Grammar.Tokens.{texts}
use Rattle.kz_bundle.specs.Rows.{Rows, ArePlacesOf, numbered_row, name_row}
use Rattle.kz_model.proofs.Shorts.{all_unmap}
use Rattle.kz_bundle.proofs.Columns.{if_ok}
use Rattle.kz_bundle.proofs.EntryRows.{rows_are}
use Rattle.kz_bundle.proofs.stages.entry.Rows.name_rows.Goals as goal

pub rows_of-requires-clause-short : goal.rows_of-requires-clause-short
rows_of-requires-clause-short c =
    let P : Rows → Type 0 = λ rows. All (λ name. length name ≤ 32) rows.names in
    all_unmap (λ name. name.now) (λ name. length name ≤ 32) c.self.inside.names.now (subst P (sym c.self.view_is) c.requires.short)

pub returns : goal.returns
returns c =
    let names = texts c.self.inside.names.now in
    let words = texts c.self.inside.words.now in
    let entries = c.self.inside.entries.items in
    if_ok c.rows_of.result _ _
    (λ rows is declared are.
    let P : Rows → Type 0 = λ rows. ArePlacesOf declared rows.words c.args.types.now in
    is
    ∙ ap (map (numbered_row names c.args.types.now)) c.deref.ensures.value
    ∙ rows_are names words declared c.args.types.now entries c.self.invariant.1.of_words (subst P (sym c.self.view_is) are)
    ∙ ap (λ (rows : Rows). map (name_row declared) rows.rows) c.self.view_is)
    c.rows_of.ensures
