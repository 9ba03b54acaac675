use Rattle.kz_locked.proofs.MoreStays.{one_more_stay}
use Rattle.kz_locked.proofs.laws.one_more_stay_is_kept.Goals as goal

pub returns : goal.returns
returns c = one_more_stay
