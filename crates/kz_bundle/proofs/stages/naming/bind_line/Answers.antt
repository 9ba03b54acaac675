use Rattle.std.proofs.Common.{length}
use Rattle.kz_bundle.proofs.stages.naming.bind_line.Goals as goal

pub bind-requires-clause-name : goal.bind-requires-clause-name
bind-requires-clause-name c = (c.in-Some.ensures.within (length c.args.rows.now.names) (length c.args.rows.now.words) c.requires).0

pub bind-requires-clause-word : goal.bind-requires-clause-word
bind-requires-clause-word c = (c.in-Some.ensures.within (length c.args.rows.now.names) (length c.args.rows.now.words) c.requires).1
