use Rattle.kz_locked.proofs.Visits.{settlings_are_stays as law}
use Rattle.kz_locked.proofs.laws.settlings_are_stays.Goals as goal

pub returns : goal.returns
returns c = law
