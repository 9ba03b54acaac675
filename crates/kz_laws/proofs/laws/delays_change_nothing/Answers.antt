use Rattle.kz_laws.proofs.Delayed.{course-with}
use Rattle.kz_laws.proofs.LastVisits.{last_visit_decides}
use Rattle.kz_model.proofs.Commuting.{steps_alone, leaves_others, keeps_others, commutes}
use Rattle.kz_laws.proofs.laws.delays_change_nothing.Goals as goal

pub returns-clause-alone : goal.returns-clause-alone
returns-clause-alone c = steps_alone

pub returns-clause-others : goal.returns-clause-others
returns-clause-others c = leaves_others

pub returns-clause-keeps : goal.returns-clause-keeps
returns-clause-keeps c = keeps_others

pub returns-clause-commutes : goal.returns-clause-commutes
returns-clause-commutes c = commutes

pub returns-clause-go_on : goal.returns-clause-go_on
returns-clause-go_on c = course-with

pub returns-clause-last : goal.returns-clause-last
returns-clause-last c = last_visit_decides
