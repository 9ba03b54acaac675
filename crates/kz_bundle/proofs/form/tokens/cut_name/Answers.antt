use Rattle.std.proofs.Common.{sym, ◌∙◌}
use Rattle.kz_bundle.proofs.Cut.{cut_none}
use Rattle.kz_bundle.proofs.NameCuts.{names_have_no_space, no_name_first}
use Rattle.kz_bundle.proofs.form.tokens.cut_name.Goals as goal

pub returns-then-may_be_name-clause-words : goal.returns-then-may_be_name-clause-words
returns-then-may_be_name-clause-words c = cut_none c.args.text.now (names_have_no_space _ c.in-None.ensures.none)

pub returns-else-may_be_name-clause-none : goal.returns-else-may_be_name-clause-none
returns-else-may_be_name-clause-none c =
    no_name_first _ _ _ (cut_none c.args.text.now (names_have_no_space _ c.in-None.ensures.none)) (sym c.may_be_name.ensures ∙ c.if-may_be_name.false)
