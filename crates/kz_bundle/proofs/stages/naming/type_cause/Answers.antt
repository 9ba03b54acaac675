use Rattle.std.proofs.Common.{length, ◌<◌}
use Rattle.kz_bundle.proofs.Named.{unknown_type}
use Rattle.kz_bundle.proofs.stages.naming.type_cause.Goals as goal

pub bounds : goal.bounds
bounds c = c.in-Some.ensures.within c.requires.0 (length c.args.declared.now) c.requires.1

pub returns-in-None-declared : goal.returns-in-None-declared
returns-in-None-declared c = λ types names words line h.
    let there : c.in-Some.word < length c.args.declared.now = c.in-Some.ensures.within c.requires.0 (length c.args.declared.now) c.requires.1 in
    unknown_type types words c.args.declared.now c.in-Some.word line _ h there c.in-None-declared.is (c.in-Some.ensures.told names words)
