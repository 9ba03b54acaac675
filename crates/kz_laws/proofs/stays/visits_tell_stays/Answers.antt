use Rattle.kz_laws.proofs.StayParts.{told}
use Rattle.kz_laws.proofs.stays.visits_tell_stays.Goals as goal

pub returns : goal.returns
returns c = told
