use Rattle.kz_laws.proofs.StayAmounts.{holds_within}
use Rattle.kz_laws.proofs.stays.stays_hold_within.Goals as goal

pub returns : goal.returns
returns c = holds_within
