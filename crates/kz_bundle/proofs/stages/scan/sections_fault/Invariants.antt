use Rattle.kz_bundle.proofs.Scanning.{AreScanned}
use Rattle.kz_bundle.proofs.stages.scan.sections_fault.Given as goal

abbrev pub invariant-loop-cpu : goal.invariant-loop-cpu
invariant-loop-cpu l = AreScanned l.declared l.all.rows l.fn.rows l.rows l.sections l.cpu
