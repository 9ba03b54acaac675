use Rattle.kz_laws.proofs.OneZone.{alike_by_lines, alike_when_settled}
use Rattle.kz_laws.proofs.OrderRuns.{order_is_alike, order_run_is_same}
use Rattle.kz_laws.proofs.laws.delayed_runs_answer_alike.Goals as goal

pub returns-clause-lines : goal.returns-clause-lines
returns-clause-lines c = alike_by_lines

pub returns-clause-settled : goal.returns-clause-settled
returns-clause-settled c = alike_when_settled

pub returns-clause-order : goal.returns-clause-order
returns-clause-order c = order_is_alike

pub returns-clause-run : goal.returns-clause-run
returns-clause-run c = order_run_is_same
