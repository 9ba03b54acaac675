use Rattle.kz_bundle.proofs.OneText.{one_text}
use Rattle.kz_bundle.proofs.laws.a_bundle_has_one_text.Goals as goal

pub returns : goal.returns
returns c = one_text
