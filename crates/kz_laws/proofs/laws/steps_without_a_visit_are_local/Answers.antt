use Rattle.kz_model.proofs.Delays.{no_asks, effect_is_local}
use Rattle.kz_laws.proofs.laws.steps_without_a_visit_are_local.Goals as goal

pub returns-clause-asks : goal.returns-clause-asks
returns-clause-asks c = no_asks

pub returns-clause-effect : goal.returns-clause-effect
returns-clause-effect c = effect_is_local
