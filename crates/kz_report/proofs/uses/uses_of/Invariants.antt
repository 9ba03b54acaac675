use Rattle.std.proofs.Common.{◌≡◌, ◌*◌, ◌-◌, length, replicate}
use Rattle.kz_report.specs.Uses.{no_uses, counted_cpus, AreFew}
use Rattle.kz_report.proofs.uses.uses_of.Given as goal

-- the numbers so far, with the CPUs that are left, give the whole
abbrev pub invariant-loop-cpu : goal.invariant-loop-cpu
invariant-loop-cpu l = record {
  left : counted_cpus l.bundle l.made.replies l.cpu (l.bundle.cpus - l.cpu) l.uses.items ≡ counted_cpus l.bundle l.made.replies 0 l.bundle.cpus (replicate (length l.bundle.types) no_uses);
  few : AreFew (l.cpu * 1000000) l.uses.items;
}
