use Rattle.kz_locked.proofs.MoreStays.{visit_goes_on}
use Rattle.kz_locked.proofs.laws.visits_go_on.Goals as goal

pub returns : goal.returns
returns c = visit_goes_on
