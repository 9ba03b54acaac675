use Rattle.std.proofs.Common.{sym}
use Rattle.kz_report.proofs.Lookups.{none_there}
use Rattle.kz_report.proofs.addresses.zone_of_type.Goals as goal

pub returns-in-None : goal.returns-in-None
returns-in-None c = sym (none_there c.args.plan.now.of_type c.args.of 0 (sym c.in-None.ensures.value))
