use Rattle.std.proofs.Common.{◌+◌, nat_lt, refl}
use Rattle.kz_report.proofs.LineTexts.{round_on}
use Rattle.kz_report.proofs.rounds.write_rounds.Goals as goal

pub loop-round-preserved : goal.loop-round-preserved
loop-round-preserved c = record {
  within = c.end_of_round-end.ensures.within;
  left =
      round_on c.args.given.now.bundle.now c.args.given.now.plan.now c.args.given.now.pages.now c.args.trace.now c.args.replies.now c.loop-round.round c.args.given.now.bundle.now.rounds c.loop-round.from c.end_of_round-end.result (nat_lt (c.loop-round.round + 1) c.args.given.now.bundle.now.rounds)
      (c.loop-round.out.items) (c.write_lines.new.out.items) (c.write_break.new.out.items) _
      c.loop-round-test.true c.end_of_round-end.ensures.end refl c.loop-round.invariant.left c.in_ok-write_lines.ensures c.in_ok-write_break.ensures;
}
