use Rattle.kz_locked.proofs.MoreStays.{first_steps}
use Rattle.kz_locked.proofs.laws.stays_carry_first_steps.Goals as goal

pub returns : goal.returns
returns c = first_steps
