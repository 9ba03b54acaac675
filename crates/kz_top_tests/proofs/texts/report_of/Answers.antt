-- The record of the order's run is a run.
use Rattle.kz_machine.proofs.Apart.{record_is_run}
use Rattle.kz_top_tests.proofs.texts.report_of.Goals as goal

pub text-requires-clause-run : goal.text-requires-clause-run
text-requires-clause-run c = record_is_run c.args.bundle.now c.args.plan.now c.in_ok-made.made c.requires c.in_ok-made.ensures.order
