use Rattle.std.proofs.Common.{◌≡◌, ◌++◌, None, drop}
use Rattle.kz_report.specs.Lines.{visits_after}
use Rattle.kz_report.proofs.zones.write_visits.Given as goal

-- what is written so far, followed by the visits that are left, is the whole
abbrev pub invariant-loop-visit : goal.invariant-loop-visit
invariant-loop-visit l = l.out.items ++ visits_after l.zone l.begun (drop l.visit-index l.visits) ≡ l.fn.out.items ++ visits_after l.zone None l.visits
