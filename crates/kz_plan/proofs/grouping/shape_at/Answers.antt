use Rattle.kz_plan.proofs.Classes.{shape_at-found}
use Rattle.kz_plan.proofs.grouping.shape_at.Goals as goal

pub returns : goal.returns
returns c = shape_at-found c.kalloc_classes.result c.args.class c.geometry.result c.kalloc_classes.ensures c.geometry.ensures.shape
