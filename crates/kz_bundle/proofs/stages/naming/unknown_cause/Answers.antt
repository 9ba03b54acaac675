use Rattle.std.proofs.Common.{length}
use Rattle.kz_bundle.proofs.stages.naming.unknown_cause.Goals as goal

pub get-requires : goal.get-requires
get-requires c = c.in-Some.ensures.within (length c.args.all.now.names) c.requires.0 c.requires.1
