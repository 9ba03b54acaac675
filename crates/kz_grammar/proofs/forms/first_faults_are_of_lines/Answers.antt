use Rattle.kz_grammar.proofs.Causes.{first_bad_line, first_bad_number, first_out_of_range}
use Rattle.kz_grammar.proofs.forms.first_faults_are_of_lines.Goals as goal

pub returns-clause-bad : goal.returns-clause-bad
returns-clause-bad c = first_bad_line

pub returns-clause-numbers : goal.returns-clause-numbers
returns-clause-numbers c = first_bad_number

pub returns-clause-ranges : goal.returns-clause-ranges
returns-clause-ranges c = first_out_of_range
