-- The record of the order's run is a run, and its report is that of the order.
use Rattle.kz_machine.proofs.Apart.{record_is_run}
use Rattle.kz_top.proofs.Runs.{replayed}
use Rattle.kz_top.proofs.answer.report_of.Goals as goal

pub text_with-requires-clause-run : goal.text_with-requires-clause-run
text_with-requires-clause-run c = record_is_run c.args.bundle.now c.args.plan.now c.in_ok-made.made c.requires.planned c.in_ok-made.ensures.order

pub returns : goal.returns
returns c = replayed c.text_with.result (λ text. text.items) c.args.bundle.now c.args.plan.now c.in_ok-made.made c.requires.planned c.in_ok-made.ensures.order c.text_with.ensures
