use Rattle.std.proofs.Common.{length}
use Rattle.kz_bundle.proofs.stages.naming.entry_cause.Goals as goal

pub bound_cause-requires-clause-name : goal.bound_cause-requires-clause-name
bound_cause-requires-clause-name c = (c.in-Some.ensures.within (length c.args.rows.now.names) (length c.args.rows.now.words) c.requires.within).0

pub bound_cause-requires-clause-word : goal.bound_cause-requires-clause-word
bound_cause-requires-clause-word c = (c.in-Some.ensures.within (length c.args.rows.now.names) (length c.args.rows.now.words) c.requires.within).1
