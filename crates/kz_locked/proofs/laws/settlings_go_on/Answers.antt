use Rattle.kz_locked.proofs.MoreStays.{settling_goes_on}
use Rattle.kz_locked.proofs.laws.settlings_go_on.Goals as goal

pub returns : goal.returns
returns c = settling_goes_on
