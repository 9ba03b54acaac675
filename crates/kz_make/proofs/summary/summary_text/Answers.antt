use Rattle.std.proofs.Common.{ap, subst}
use Rattle.kz_make.specs.Totals.{replies_in, AreTotals}
use Rattle.kz_make.proofs.TotalsOfReplies.{summary_written}
use Rattle.kz_make.proofs.summary.summary_text.Goals as goal

pub returns : goal.returns
returns c =
    summary_written c.args.number c.args.bytes (replies_in c.args.made.now.replies) c.totals_of-totals.result _ _ _ _ _ _ _ _ (subst (AreTotals c.totals_of-totals.result) (ap replies_in c.as_slice.ensures) c.totals_of-totals.ensures) c.new-out.ensures.items c.in_ok-write_line.ensures c.in_ok-write_line-2.ensures
    c.in_ok-write_line-3.ensures c.in_ok-write_line-4.ensures c.in_ok-write_line-5.ensures c.in_ok-write_line-6.ensures c.in_ok-extend_from_slice.ensures.items
