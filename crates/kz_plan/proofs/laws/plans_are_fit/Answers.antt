use Rattle.kz_plan.proofs.Fit.{plans_are_fit}
use Rattle.kz_plan.proofs.laws.plans_are_fit.Goals as goal

pub returns : goal.returns
returns c = plans_are_fit
