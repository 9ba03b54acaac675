use Rattle.kz_grammar.proofs.Judgements.{one_form}
use Rattle.kz_grammar.proofs.forms.a_line_has_one_form.Goals as goal

pub returns : goal.returns
returns c = one_form
