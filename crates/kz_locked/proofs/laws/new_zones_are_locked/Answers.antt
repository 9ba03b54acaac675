use Rattle.kz_locked.proofs.MoreStays.{new_is_locked}
use Rattle.kz_locked.proofs.laws.new_zones_are_locked.Goals as goal

pub returns : goal.returns
returns c = new_is_locked
