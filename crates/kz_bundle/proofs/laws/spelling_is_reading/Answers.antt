use Rattle.kz_bundle.proofs.Walking.{spelling_is_reading}
use Rattle.kz_bundle.proofs.laws.spelling_is_reading.Goals as goal

pub returns : goal.returns
returns c = spelling_is_reading
