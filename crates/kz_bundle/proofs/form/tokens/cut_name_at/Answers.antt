use Rattle.std.proofs.Common.{◌+◌, sym, ◌∙◌}
use Rattle.std.proofs.lemmas.List.{take_rest}
use Rattle.kz_bundle.proofs.NameCuts.{no_name_at, no_name_first, cut_behind_names}
use Rattle.kz_bundle.proofs.form.tokens.cut_name_at.Goals as goal

pub returns-then-text-at-ne32-clause-none : goal.returns-then-text-at-ne32-clause-none
returns-then-text-at-ne32-clause-none c = no_name_at c.args.text.now c.args.at c.requires.within c.if-text-at-ne32.true c.requires.other c.requires.before

pub returns-then-may_be_name-clause-words : goal.returns-then-may_be_name-clause-words
returns-then-may_be_name-clause-words c =
    cut_behind_names c.args.text.now _ c.args.at c.requires.within c.if-text-at-ne32.false c.requires.before (take_rest c.args.text.now (c.args.at + 1))

pub returns-else-may_be_name-clause-none : goal.returns-else-may_be_name-clause-none
returns-else-may_be_name-clause-none c =
    no_name_first _ _ _ (cut_behind_names c.args.text.now _ c.args.at c.requires.within c.if-text-at-ne32.false c.requires.before (take_rest c.args.text.now (c.args.at + 1)))
    (sym c.may_be_name.ensures ∙ c.if-may_be_name.false)
