-- What is read is what is spelled, and it is valid.
use Rattle.std.proofs.Common.{◌≡◌, ap, sym, ◌∙◌, None, Ok}
use Rattle.kz_model.specs.Grammar.Stages.{after_form, unless, later_fault, bundle_of}
use Rattle.kz_model.specs.Grammar.Spelling.{IsSpelled, Spells}
use Rattle.kz_model.specs.Types.Layouts.{layouts_of}
use Rattle.kz_model.specs.Grammar.Valid.{IsValid, layouts_in, ok_or_none}
use Rattle.kz_bundle.specs.Parts.{draft_of}
use Rattle.kz_bundle.proofs.Columns.{if_ok_both}
use Rattle.kz_bundle.proofs.Walking.{spelling_is_reading}
use Rattle.kz_bundle.proofs.Validity.{own_text_spells, reading_is_valid}
use Rattle.kz_bundle.proofs.read.read_with_layouts.Goals as goal

pub returns-clause-spells : goal.returns-clause-spells
returns-clause-spells c =
    let d = draft_of c.in_ok-parts.parts in
    if_ok_both c.judge.result (λ _. later_fault d ≡ None) (λ found. found.0 ≡ bundle_of d) (λ found. Spells c.args.bytes.now found.0)
    (λ found none is. (spelling_is_reading c.args.bytes.now found.0).0 (ap after_form c.in_ok-parts.ensures.form ∙ ap (unless d) none ∙ ap Ok (sym is)))
    c.judge.ensures.faultless c.judge.ensures.bundle

pub returns-clause-spelled : goal.returns-clause-spelled
returns-clause-spelled c =
    let d = draft_of c.in_ok-parts.parts in
    if_ok_both c.judge.result (λ _. later_fault d ≡ None) (λ found. found.0 ≡ bundle_of d) (λ found. IsSpelled found.0)
    (λ found none is. own_text_spells c.args.bytes.now found.0 ((spelling_is_reading c.args.bytes.now found.0).0 (ap after_form c.in_ok-parts.ensures.form ∙ ap (unless d) none ∙ ap Ok (sym is))))
    c.judge.ensures.faultless c.judge.ensures.bundle

pub returns-clause-valid : goal.returns-clause-valid
returns-clause-valid c =
    let d = draft_of c.in_ok-parts.parts in
    if_ok_both c.judge.result (λ _. later_fault d ≡ None) (λ found. found.0 ≡ bundle_of d) (λ found. IsValid found.0)
    (λ found none is. reading_is_valid c.args.bytes.now found.0 (ap after_form c.in_ok-parts.ensures.form ∙ ap (unless d) none ∙ ap Ok (sym is)))
    c.judge.ensures.faultless c.judge.ensures.bundle

pub returns-clause-layouts : goal.returns-clause-layouts
returns-clause-layouts c =
    let d = draft_of c.in_ok-parts.parts in
    if_ok_both c.judge.result (λ found. found.0 ≡ bundle_of d) (λ found. layouts_of d.types ≡ Ok found.1.items) (λ found. found.1.items ≡ layouts_in found.0)
    (λ found is laid. ap ok_or_none (sym laid) ∙ ap layouts_in (sym is))
    c.judge.ensures.bundle c.judge.ensures.layouts
