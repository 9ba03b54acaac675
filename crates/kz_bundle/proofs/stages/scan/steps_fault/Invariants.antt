use Rattle.kz_bundle.proofs.Scanning.{IsScanned}
use Rattle.kz_bundle.proofs.stages.scan.steps_fault.Given as goal

abbrev pub invariant-loop-at : goal.invariant-loop-at
invariant-loop-at l = IsScanned l.declared l.all.rows l.fn.rows l.rows l.cpu l.steps l.at
