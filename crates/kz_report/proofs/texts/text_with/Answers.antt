use Rattle.kz_report.proofs.Writable.{are_text}
use Rattle.kz_bundle.proofs.Zoned.{planned_is_valid}
use Rattle.kz_report.proofs.texts.text_with.Goals as goal

pub report_of-requires-clause-text : goal.report_of-requires-clause-text
report_of-requires-clause-text c = are_text c.args.bundle.now c.args.plan.now c.args.layouts.now c.requires.planned c.requires.layouts

-- its plan is fit by the law
pub report_of-requires-clause-record : goal.report_of-requires-clause-record
report_of-requires-clause-record c = record {
  planned = c.requires.planned;
  run = c.requires.run;
  answered = c.requires.answered;
  fit = c.plans_are_fit.ensures c.args.bundle.now c.args.plan.now (planned_is_valid c.requires.planned) c.requires.planned.is_plan;
}
