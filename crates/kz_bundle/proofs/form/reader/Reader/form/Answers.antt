use Rattle.std.proofs.Common.{ap, sym, refl, ◌∙◌}
use Rattle.kz_model.specs.declared.grammar.Place.{Place}
use Rattle.kz_model.specs.Grammar.Tokens.{tokens_of}
use Rattle.kz_model.specs.Grammar.Form.{line_at}
use Rattle.kz_bundle.specs.Reading.{so_far}
use Rattle.kz_bundle.proofs.Forms.{same_order}
use Rattle.kz_bundle.proofs.form.reader.Reader.form.Goals as goal

pub returns-in-Steps-clause-given : goal.returns-in-Steps-clause-given
returns-in-Steps-clause-given c = absurd (c.requires.place c.in-Steps.is)

pub returns-in-Order-clause-given : goal.returns-in-Order-clause-given
returns-in-Order-clause-given c =
    let d = so_far c.args.self.now in
    let all = tokens_of c.args.text.now in
    c.line_of_order.ensures.given d refl ∙ same_order d c.tokens_of-in-Order.result all c.tokens_of-in-Order.ensures ∙ ap (λ (p : Place). line_at p d all) (sym c.in-Order.is)
