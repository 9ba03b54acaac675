use Rattle.std.proofs.Common.{arith}
use Rattle.kz_report.proofs.LineTexts.{front_here, front_past}
use Rattle.kz_report.proofs.rounds.end_of_round.Goals as goal

pub loop-at-preserved : goal.loop-at-preserved
loop-at-preserved c = grind (arith, front_here c.args.round c.loop-at.at c.args.trace.now (omega arith), c.loop-at.invariant)

pub returns-then-round-clause-end : goal.returns-then-round-clause-end
returns-then-round-clause-end c = grind (arith, front_here c.args.round c.loop-at.at c.args.trace.now (omega arith), c.loop-at.invariant)

pub returns-clause-end : goal.returns-clause-end
returns-clause-end c = omega (arith, front_past c.args.round c.loop-at.at c.args.trace.now (omega arith), c.loop-at.invariant)
