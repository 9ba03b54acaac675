use Rattle.kz_grammar.proofs.Causes.{bad_line_forms, bad_number_forms, out_of_range_forms}
use Rattle.kz_grammar.proofs.forms.texts_are_judged_by_lines.Goals as goal

pub returns-clause-bad : goal.returns-clause-bad
returns-clause-bad c = bad_line_forms

pub returns-clause-numbers : goal.returns-clause-numbers
returns-clause-numbers c = bad_number_forms

pub returns-clause-ranges : goal.returns-clause-ranges
returns-clause-ranges c = out_of_range_forms
