use Rattle.kz_bundle.proofs.Validity.{reading_is_valid}
use Rattle.kz_bundle.proofs.laws.what_is_read_is_valid.Goals as goal

pub returns : goal.returns
returns c = reading_is_valid
