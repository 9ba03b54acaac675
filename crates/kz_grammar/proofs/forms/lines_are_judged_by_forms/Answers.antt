use Rattle.kz_grammar.proofs.Judgements.{bad_lines, bad_numbers, out_of_ranges, fine_lines, fine_lines_say}
use Rattle.kz_grammar.proofs.forms.lines_are_judged_by_forms.Goals as goal

pub returns-clause-bad : goal.returns-clause-bad
returns-clause-bad c = bad_lines

pub returns-clause-numbers : goal.returns-clause-numbers
returns-clause-numbers c = bad_numbers

pub returns-clause-ranges : goal.returns-clause-ranges
returns-clause-ranges c = out_of_ranges

pub returns-clause-fine : goal.returns-clause-fine
returns-clause-fine c = fine_lines

pub returns-clause-says : goal.returns-clause-says
returns-clause-says c = fine_lines_say
