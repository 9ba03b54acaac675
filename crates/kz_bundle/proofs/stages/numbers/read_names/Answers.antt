use Rattle.std.proofs.Common.{◌≡◌, map, ap, sym, ◌∙◌, subst}
use Rattle.kz_model.specs.Types.Layouts.{names_of}
use Rattle.kz_model.specs.Grammar.Tokens.{texts}
use Rattle.kz_bundle.specs.Naming.{AreDeclared}
use Rattle.kz_bundle.specs.Rows.{Rows, ArePlacesOf, name_row}
use Rattle.kz_bundle.specs.Numbers.{rows_in}
use Rattle.kz_model.specs.Grammar.Stages.{row_names}
use Rattle.kz_bundle.proofs.NameStage.{types_numbered, rows_told}
use Rattle.kz_bundle.proofs.stages.numbers.read_names.Goals as goal

pub returns-clause-numbers : goal.returns-clause-numbers
returns-clause-numbers c =
    let parts = c.args.parts.now in
    let types = names_of parts.types in
    let rows : c.in_ok-all.all ≡ rows_in parts = rows_told parts c.as_slice-2.result.now c.as_slice-3.result.now c.as_slice-4.result.now c.in_ok-all.all c.as_slice-2.ensures.value c.as_slice-3.ensures.value c.as_slice-4.ensures.value c.in_ok-all.ensures in
    let typed : ArePlacesOf types (texts parts.words.items) c.in_ok-types-in-None.types.items =
    types_numbered parts.types (texts parts.words.items) c.in_ok-declared.declared.items c.as_slice-in-None.result.now c.in_ok-types-in-None.types.items c.len.result
    (subst (λ words. AreDeclared types (texts words) c.in_ok-declared.declared.items) c.as_slice.ensures.value c.in_ok-declared.ensures)
    c.in_ok-types-in-None.ensures c.as_slice-in-None.ensures.value c.len.ensures in
    let seen : ArePlacesOf types c.in_ok-all.all.words c.as_slice-in-None-2.result.now =
    subst (λ (all : Rows). ArePlacesOf types all.words c.as_slice-in-None-2.result.now) (sym rows)
    (subst (ArePlacesOf types (texts parts.words.items)) (sym c.as_slice-in-None-2.ensures.value) typed) in
    record {
      rows = c.in_ok-rows-in-None.ensures types seen ∙ ap (λ (all : Rows). map (name_row types) all.rows) rows;
      names = subst (λ (all : Rows). ArePlacesOf (row_names all.rows) all.names c.in_ok-names-in-None.names.items) rows c.in_ok-names-in-None.ensures;
      types = typed;
    }
