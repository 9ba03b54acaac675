use Rattle.kz_grammar.proofs.TextForms.{forms_are_texts}
use Rattle.kz_grammar.proofs.forms.forms_are_texts.Goals as goal

pub returns : goal.returns
returns c = forms_are_texts
