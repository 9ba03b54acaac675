use Rattle.std.proofs.Common.{◌≡◌, false, codes, sym, ◌∙◌}
use Rattle.kz_model.specs.Grammar.Tokens.{tokens_of}
use Rattle.kz_model.specs.Grammar.Form.{is_head}
use Rattle.kz_bundle.proofs.Forms.{same_cpu, first_word, no_type}
use Rattle.kz_bundle.proofs.form.reader.line_of_types.Goals as goal

pub returns-then-not-is-clause-given : goal.returns-then-not-is-clause-given
returns-then-not-is-clause-given c =
    let words = tokens_of c.args.text.now in
    let other : is_head (codes "type") words ≡ false = first_word c.args.text.now c.cut.result.0.now (codes "type") c.cut.result.1 c.cut.ensures.words ∙ sym c.is.ensures ∙ c.if-not-is.true in
    c.cpu_line.ensures.given ∙ same_cpu 0 c.tokens_of.result words c.tokens_of.ensures ∙ sym (no_type words other)
