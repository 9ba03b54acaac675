-- The words are no command's.
use Rattle.kz_top.proofs.Outcomes.{reads_or_makes, work_unasked}
use Rattle.kz_top.proofs.call.work.Goals as goal

pub returns-in-None-clause-done : goal.returns-in-None-clause-done
returns-in-None-clause-done g c = work_unasked _ _ _ _ _ _ _ c.in-None.ensures

pub returns-in-Some-Plan-clause-done : goal.returns-in-Some-Plan-clause-done
returns-in-Some-Plan-clause-done g c = c.work_on_input.ensures.done c.args.words.now (rw c.in-Some-Plan.field-0-is at c.in-Some-Plan.ensures)

pub returns-in-Some-Replay-clause-done : goal.returns-in-Some-Replay-clause-done
returns-in-Some-Replay-clause-done g c = c.work_on_input-in-Some-Replay.ensures.done c.args.words.now (rw c.in-Some-Replay.field-0-is at c.in-Some-Replay.ensures)

pub returns-in-Some-Make-clause-done : goal.returns-in-Some-Make-clause-done
returns-in-Some-Make-clause-done g c =
    c.work_on_made.ensures.done c.args.words.now (g.S.Source.rest c.args.input.now) (g.S.Source.faults c.args.input.now) (g.S.Source.is_sure c.args.input.now)
    (rw c.in-Some-Make.field-0-is at c.in-Some-Make.ensures)

pub returns-in-None-clause-read : goal.returns-in-None-clause-read
returns-in-None-clause-read g c command asks reads = absurd (c.in-None.ensures command asks)

pub returns-in-Some-Plan-clause-read : goal.returns-in-Some-Plan-clause-read
returns-in-Some-Plan-clause-read g c command asks reads = c.work_on_input.ensures.read

pub returns-in-Some-Replay-clause-read : goal.returns-in-Some-Replay-clause-read
returns-in-Some-Replay-clause-read g c command asks reads = c.work_on_input-in-Some-Replay.ensures.read

pub returns-in-Some-Make-clause-read : goal.returns-in-Some-Make-clause-read
returns-in-Some-Make-clause-read g c command asks reads =
    absurd (reads_or_makes c.args.words.now command c.in-Some-Make.number asks reads (rw c.in-Some-Make.field-0-is at c.in-Some-Make.ensures))
