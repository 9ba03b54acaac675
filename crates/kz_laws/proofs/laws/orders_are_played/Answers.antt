use Rattle.kz_laws.proofs.InTurn.{order_in_turn, order_is_next}
use Rattle.kz_laws.proofs.PlayedRuns.{ordered_runs_are_played}
use Rattle.kz_laws.proofs.Prefixes.{plays_are_sound, turns_have_lines, stock_answers, runs_end_sound}
use Rattle.kz_model.proofs.LineCounts.{lines_are_few}
use Rattle.kz_laws.proofs.laws.orders_are_played.Goals as goal

pub returns-clause-turns : goal.returns-clause-turns
returns-clause-turns c = order_in_turn

pub returns-clause-next : goal.returns-clause-next
returns-clause-next c = order_is_next

pub returns-clause-run : goal.returns-clause-run
returns-clause-run c = ordered_runs_are_played

pub returns-clause-sound : goal.returns-clause-sound
returns-clause-sound c = plays_are_sound

pub returns-clause-lines : goal.returns-clause-lines
returns-clause-lines c = turns_have_lines

pub returns-clause-few : goal.returns-clause-few
returns-clause-few c = lines_are_few

pub returns-clause-stock : goal.returns-clause-stock
returns-clause-stock c = stock_answers

pub returns-clause-end : goal.returns-clause-end
returns-clause-end c = runs_end_sound
