use Rattle.std.proofs.Common.{◌+◌}
use Rattle.std.proofs.lemmas.List.{take_rest}
use Rattle.kz_bundle.proofs.Labels.{none_there, first_there}
use Rattle.kz_bundle.proofs.form.label.at_bracket.Goals as goal

pub returns-in-None : goal.returns-in-None
returns-in-None c = none_there c.args.word.now c.in-None.ensures.none

pub returns-in-Some : goal.returns-in-Some
returns-in-Some c = first_there c.args.word.now _ c.in-Some.at c.in-Some.ensures.some (take_rest c.args.word.now (c.in-Some.at + 1))
