use Rattle.std.proofs.Common.{◌+◌, slice_index_or, arith, refl, sym, ◌∙◌}
use Rattle.kz_model.specs.Run.Journal.{no_step}
use Rattle.kz_report.proofs.Tally.{fewer, count_past, counted_on, few_on}
use Rattle.kz_report.proofs.uses.count_trace.Goals as goal

pub count_line-requires-clause-few : goal.count_line-requires-clause-few
count_line-requires-clause-few c = fewer (15000000 + c.loop-at.at) 16000000 c.loop-at.uses.items (omega (arith, c.requires.lines)) c.loop-at.invariant.few

pub loop-at-preserved : goal.loop-at-preserved
loop-at-preserved c =
    let step = slice_index_or c.args.trace.now c.loop-at.at no_step in
    record {
      left =
          counted_on c.args.bundle.now c.args.trace.now c.args.replies.now c.loop-at.at step c.reply.result c.loop-at.uses.items c.count_line.new.uses.items _
          (omega arith) (omega arith) refl c.reply.ensures c.loop-at.invariant.left c.count_line.ensures;
      few = few_on c.args.bundle.now step.act c.reply.result (15000000 + c.loop-at.at) (15000000 + (c.loop-at.at + 1)) c.loop-at.uses.items c.count_line.new.uses.items (omega arith) c.loop-at.invariant.few c.count_line.ensures;
    }

pub returns : goal.returns
returns c = sym (count_past c.args.bundle.now c.args.trace.now c.args.replies.now c.loop-at.at c.loop-at.uses.items (omega arith)) ∙ c.loop-at.invariant.left
