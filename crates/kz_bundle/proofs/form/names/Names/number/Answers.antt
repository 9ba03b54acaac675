use Rattle.std.proofs.Common.{◌≡◌, Some, ap, sym, ◌∙◌}
use Rattle.kz_bundle.specs.Table.{number_of}
use Rattle.kz_bundle.proofs.Keys.{are_bytes}
use Rattle.kz_bundle.proofs.Table.{number_within, number_text}
use Rattle.kz_bundle.proofs.form.names.Names.number.Goals as goal

told : (c : goal.In-Some) → number_of c.args.text.now c.args.self.now ≡ Some c.in-Some.number
told c =
    ap (λ table. number_of c.args.text.now table) (sym c.self.view_is) ∙ sym (c.self.invariant.0 c.args.text.now (are_bytes c.args.text.now c.type_inv.text)) ∙ sym c.get.ensures ∙ c.in-Some.is

pub returns-in-Some-clause-within : goal.returns-in-Some-clause-within
returns-in-Some-clause-within c = number_within c.args.text.now c.args.self.now c.in-Some.number (told c)

pub returns-in-Some-clause-text : goal.returns-in-Some-clause-text
returns-in-Some-clause-text c = number_text c.args.text.now c.args.self.now c.in-Some.number (told c)
