use Rattle.std.proofs.Common.{◌≡◌, Option, Some, None, ◌∙◌, rules}
use Rattle.kz_model.specs.declared.bundle.TypeDecl.{TypeDecl}
use Rattle.kz_model.specs.Grammar.Tokens.{tokens_of}
use Rattle.kz_bundle.specs.Walks.{declared_line}
use Rattle.kz_bundle.proofs.Outlines.{declared_is}
use Rattle.kz_bundle.proofs.form.body.read_type.Goals as goal

pub returns-in-None : goal.returns-in-None
returns-in-None c =
    let told : ◌≡◌ {A = Option TypeDecl} None (declared_line (tokens_of c.args.line.now)) = search rules in
    told ∙ declared_is (tokens_of c.args.line.now)

pub returns-in-Some-2 : goal.returns-in-Some-2
returns-in-Some-2 c =
    let told : Some (record { name = c.name_of.result; fields = c.in-Some-2.fields }) ≡ declared_line (tokens_of c.args.line.now) = search rules in
    told ∙ declared_is (tokens_of c.args.line.now)
