use Rattle.kz_locked.proofs.MoreStays.{part_found}
use Rattle.kz_locked.proofs.laws.passes_know_parts.Goals as goal

pub returns : goal.returns
returns c = part_found
