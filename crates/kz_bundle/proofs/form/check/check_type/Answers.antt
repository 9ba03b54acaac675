use Rattle.std.proofs.Common.{◌≡◌, Some, ◌∙◌, rules}
use Rattle.kz_model.specs.Grammar.Tokens.{tokens_of}
use Rattle.kz_bundle.specs.Walks.{checked_line}
use Rattle.kz_bundle.proofs.Outlines.{checked_is}
use Rattle.kz_bundle.proofs.form.check.check_type.Goals as goal

pub returns : goal.returns
returns c =
    let told : Some (c.name_of.result, c.in_ok-mark.mark) ≡ checked_line (tokens_of c.args.line.now) = search rules in
    told ∙ checked_is (tokens_of c.args.line.now)

pub returns-in_err-mark : goal.returns-in_err-mark
returns-in_err-mark c =
    let told : c.from_residual-in_err-mark.result ≡ checked_line (tokens_of c.args.line.now) = search rules in
    told ∙ checked_is (tokens_of c.args.line.now)
