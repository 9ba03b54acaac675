use Rattle.std.proofs.Common.{◌^◌, length, ap, ◌∙◌, arith}
use Rattle.kz_make.proofs.TotalsOfReplies.{few_replies}
use Rattle.kz_make.proofs.summary.totals_of.Goals as goal

pub add_replies-requires-clause-few : goal.add_replies-requires-clause-few
add_replies-requires-clause-few c =
    let l = c.loop-replies in
    omega (arith, few_replies c.args.all.now l.replies-index l.totals.steps (2 ^ 32) c.replies-item.result (omega arith) l.invariant.are.steps c.requires, ap length c.replies-item.is)
