use Rattle.kz_laws.proofs.Isolated.{runs_are_isolated}
use Rattle.kz_laws.proofs.laws.runs_keep_zones_apart.Goals as goal

pub returns : goal.returns
returns c = runs_are_isolated
