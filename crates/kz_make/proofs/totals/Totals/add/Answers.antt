use Rattle.std.proofs.Common.{Bool, if◌then◌else◌, ap, ◌∙◌}
use Rattle.kz_make.proofs.TotalsOfReplies.{totals_more}
use Rattle.kz_make.proofs.totals.Totals.add.Goals as goal

pub returns-clause-more : goal.returns-clause-more
returns-clause-more c =
    let one = λ (b : Bool). if b then 1 else 0 in
    λ replies are.
    totals_more replies c.args.reply.now c.args.self.now _ _ _ are (c.one_if.ensures ∙ ap one c.is_block.ensures) (c.one_if-2.ensures ∙ ap one c.is_refusal.ensures) (c.from.ensures ∙ c.trimmed_pages.ensures)
