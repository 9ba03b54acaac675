use Rattle.kz_layout.proofs.FieldTypes.{fields_are_placed}
use Rattle.kz_layout.proofs.laws.fields_are_placed.Goals as goal

pub returns : goal.returns
returns c = fields_are_placed
