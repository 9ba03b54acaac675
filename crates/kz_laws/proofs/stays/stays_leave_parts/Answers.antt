use Rattle.kz_laws.proofs.StayParts.{stays_leave}
use Rattle.kz_laws.proofs.stays.stays_leave_parts.Goals as goal

pub returns : goal.returns
returns c = stays_leave
