use Rattle.kz_locked.proofs.Visits.{visits_are_stays as law}
use Rattle.kz_locked.proofs.laws.visits_are_stays.Goals as goal

pub returns : goal.returns
returns c = law
