use Rattle.kz_grammar.proofs.LinesStand.{step_lines_stand}
use Rattle.kz_grammar.proofs.LinesSaid.{type_lines_stand, no_step_line_is_missing, sections_stand}
use Rattle.kz_grammar.proofs.names.lines_stand_in_the_text.Goals as goal

pub returns-clause-steps : goal.returns-clause-steps
returns-clause-steps c = step_lines_stand

pub returns-clause-all : goal.returns-clause-all
returns-clause-all c = no_step_line_is_missing

pub returns-clause-sections : goal.returns-clause-sections
returns-clause-sections c = sections_stand

pub returns-clause-types : goal.returns-clause-types
returns-clause-types c = type_lines_stand
