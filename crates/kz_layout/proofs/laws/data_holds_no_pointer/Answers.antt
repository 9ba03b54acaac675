use Rattle.kz_layout.proofs.DataWalks.{data_holds_no_pointer}
use Rattle.kz_layout.proofs.laws.data_holds_no_pointer.Goals as goal

pub returns : goal.returns
returns c = data_holds_no_pointer
