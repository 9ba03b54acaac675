use Rattle.kz_make.proofs.Spelled.{made_spells}
use Rattle.kz_make.proofs.laws.made_bundles_spell.Goals as goal

pub returns : goal.returns
returns c = made_spells
