use Rattle.std.proofs.Common.{◌≡◌, ◌≤◌, ◌++◌, ◌-◌, length, drop}
use Rattle.kz_model.specs.Text.Lines.{text_of_lines}
use Rattle.kz_report.specs.Lines.{rounds_left}
use Rattle.kz_report.proofs.rounds.write_rounds.Given as goal

-- what is written so far, followed by the rounds that are left, is the whole
abbrev pub invariant-loop-round : goal.invariant-loop-round
invariant-loop-round l = record {
  within : l.from ≤ length l.trace;
  left :
      l.out.items ++ text_of_lines (rounds_left l.given.bundle.now l.given.plan.now l.given.pages.now l.round (l.given.bundle.now.rounds - l.round) (drop l.from l.trace) (drop l.from l.replies))
      ≡ l.fn.out.items ++ text_of_lines (rounds_left l.given.bundle.now l.given.plan.now l.given.pages.now 0 l.given.bundle.now.rounds l.trace l.replies);
}
