-- The replies of the record are those of the run of the order, and few.
use Rattle.kz_top.proofs.Few.{few_replies}
use Rattle.kz_top.proofs.Runs.{summarized}
use Rattle.kz_top.proofs.answer.summary_of.Goals as goal

pub summary_text-requires : goal.summary_text-requires
summary_text-requires c = few_replies c.args.bundle.now c.args.plan.now c.in_ok-made.made c.requires c.in_ok-made.ensures.order

pub returns : goal.returns
returns c = summarized c.summary_text.result (λ text. text.items) c.args.number c.args.bytes c.args.bundle.now c.args.plan.now c.in_ok-made.made c.requires c.in_ok-made.ensures.order c.summary_text.ensures
