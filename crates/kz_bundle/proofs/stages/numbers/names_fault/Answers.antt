use Rattle.kz_bundle.proofs.Columns.{if_ok}
use Rattle.kz_bundle.proofs.NameStage.{names_told}
use Rattle.kz_bundle.proofs.stages.numbers.names_fault.Goals as goal

pub returns : goal.returns
returns c =
    let parts = c.args.parts.now in
    if_ok c.sections_fault.result _ _
    (λ fault told.
    names_told parts c.args.declared.now c.args.all.now c.in_ok-rows.rows c.as_slice.result.now c.as_slice-2.result.now c.as_slice-3.result.now fault c.requires.parts c.requires.declared c.requires.all
    c.in_ok-rows.ensures c.as_slice.ensures.value c.as_slice-2.ensures.value c.as_slice-3.ensures.value told)
    c.sections_fault.ensures
