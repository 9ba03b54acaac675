use Rattle.kz_bundle.proofs.Named.{two_types}
use Rattle.kz_bundle.proofs.stages.naming.bound_cause.Goals as goal

pub returns-then-before-entry : goal.returns-then-before-entry
returns-then-before-entry c = λ line.
    two_types c.args.rows.now.names c.args.rows.now.words c.args.rows.now.rows c.args.entry c.in-Some.before line c.requires.once c.requires.word c.in-Some.ensures.1 c.in-Some.ensures.0 c.if-before-entry.true
