use Rattle.std.proofs.Common.{slice_index_or, refl}
use Rattle.kz_model.specs.Run.Journal.{no_step}
use Rattle.kz_report.proofs.LineTexts.{place_on}
use Rattle.kz_report.proofs.rounds.write_lines.Goals as goal

pub loop-at-preserved : goal.loop-at-preserved
loop-at-preserved c =
    place_on c.args.given.now.bundle.now c.args.given.now.plan.now c.args.given.now.pages.now c.args.trace.now c.args.replies.now c.loop-at.at c.args.end (slice_index_or c.args.trace.now c.loop-at.at no_step) c.reply.result c.loop-at.out.items c.write_reply.new.out.items _
    c.loop-at-test.true c.requires.end c.requires.replies refl c.reply.ensures c.loop-at.invariant c.in_ok-write_reply.ensures
