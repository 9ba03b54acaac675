use Rattle.kz_report.proofs.Writable.{are_text}
use Rattle.kz_report.proofs.texts.plan_text_with.Goals as goal

pub write_plan_lines-requires : goal.write_plan_lines-requires
write_plan_lines-requires c = are_text c.args.bundle.now c.args.plan.now c.args.layouts.now c.requires.planned c.requires.layouts
