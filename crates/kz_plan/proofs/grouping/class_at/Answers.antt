use Rattle.kz_plan.proofs.Classes.{class_at-found}
use Rattle.kz_plan.proofs.grouping.class_at.Goals as goal

pub returns-clause-class : goal.returns-clause-class
returns-clause-class c = class_at-found c.kalloc_classes.result c.args.layout.now c.class_of.result c.unwrap.result c.kalloc_classes.ensures c.class_of.ensures.class c.unwrap.ensures
