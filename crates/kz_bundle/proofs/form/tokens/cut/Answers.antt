use Rattle.std.proofs.Common.{◌+◌}
use Rattle.std.proofs.lemmas.List.{take_rest}
use Rattle.kz_bundle.proofs.Cut.{cut_none, cut_at}
use Rattle.kz_bundle.proofs.form.tokens.cut.Goals as goal

pub returns-in-None-clause-words : goal.returns-in-None-clause-words
returns-in-None-clause-words c = cut_none c.args.text.now c.in-None.ensures.none

pub returns-in-Some-clause-words : goal.returns-in-Some-clause-words
returns-in-Some-clause-words c = cut_at c.args.text.now _ c.in-Some.at c.in-Some.ensures.some (take_rest c.args.text.now (c.in-Some.at + 1))
