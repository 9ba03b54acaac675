use Rattle.std.proofs.Common.{refl, lit<}
use Rattle.kz_class.proofs.Classes.{table_from_test}
use Rattle.kz_class.proofs.table.kalloc_classes.Goals as goal

pub new-requires : goal.new-requires
new-requires c = (lit< tt, (lit< tt, table_from_test _ refl))
