use Rattle.std.proofs.Common.{◌≡◌, ◌++◌, ◌-◌, map, take, drop}
use Rattle.kz_model.specs.Text.Lines.{text_of_lines}
use Rattle.kz_report.specs.Lines.{answered_line, said}
use Rattle.kz_report.proofs.rounds.write_lines.Given as goal

-- what is written so far, followed by what is left, is the whole
abbrev pub invariant-loop-at : goal.invariant-loop-at
invariant-loop-at l =
    l.out.items ++ text_of_lines (map (answered_line l.given.plan.now l.given.pages.now) (said l.given.bundle.now l.given.plan.now (take (l.end - l.at) (drop l.at l.trace)) (drop l.at l.replies)))
    ≡ l.fn.out.items ++ text_of_lines (map (answered_line l.given.plan.now l.given.pages.now) (said l.given.bundle.now l.given.plan.now (take (l.end - l.from) (drop l.from l.trace)) (drop l.from l.replies)))
