use Rattle.std.proofs.Common.{◌≡◌, ◌+◌, drop}
use Rattle.kz_report.specs.Lines.{count_in_front}
use Rattle.kz_report.proofs.rounds.end_of_round.Given as goal

-- the lines so far are of the round
abbrev pub invariant-loop-at : goal.invariant-loop-at
invariant-loop-at l = l.at + count_in_front l.round (drop l.at l.trace) ≡ l.from + count_in_front l.round (drop l.from l.trace)
