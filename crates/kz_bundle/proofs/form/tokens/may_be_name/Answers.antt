use Rattle.std.proofs.Common.{nat_le, length, ap, sym, ◌∙◌}
use Rattle.std.proofs.lemmas.List.{take_rest}
use Rattle.kz_bundle.proofs.NameCuts.{name_by_first}
use Rattle.kz_bundle.proofs.form.tokens.may_be_name.Goals as goal

pub returns-then-is_small : goal.returns-then-is_small
returns-then-is_small c =
    let word = c.args.word.now in
    ap (λ rest. nat_le (length rest) 31) (take_rest word 1) ∙ name_by_first word c.requires c.in-len1-up.len_at_least (sym c.is_small.ensures ∙ c.if-is_small.true)
