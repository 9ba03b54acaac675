use Rattle.std.proofs.Common.{◌+◌, ◌-◌, slice_index_or, ap, ◌∙◌, arith}
use Rattle.kz_model.specs.declared.bundle.Bundle.{Bundle}
use Rattle.kz_bundle.proofs.Renumbered.{built, is_built}
use Rattle.kz_bundle.specs.declared.form.parts.Part.{Part}
use Rattle.kz_bundle.proofs.read.bundle_of.Goals as goal

pub returns : goal.returns
returns c =
    let parts = c.args.parts in
    let numbers = c.args.numbers in
    let F : Part → Bundle = λ (part : Part). built parts numbers.rows (part.breaks + 1) c.from_vec.result in
    ap F c.index.ensures
    ∙ ap (built parts numbers.rows ((slice_index_or parts.sections.items (c.len-last.result - 1) c.index.result.now).breaks + 1)) c.from_vec.ensures
    ∙ is_built parts numbers c.as_slice.result.now c.as_slice-2.result.now c.in_ok-traces.traces.items (c.len-last.result - 1) c.index.result.now c.requires.parts c.requires.numbers
    (omega (arith, c.len-last.ensures, parts.sections.ok)) c.as_slice.ensures.value c.as_slice-2.ensures.value c.in_ok-traces.ensures
