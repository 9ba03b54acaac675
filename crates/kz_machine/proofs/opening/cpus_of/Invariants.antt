use Rattle.std.proofs.Common.{◌≡◌, map}
use Rattle.std.specs.List.{range_with_len}
use Rattle.kz_cpu.specs.Cpu.{opened_cpu}
use Rattle.kz_machine.proofs.opening.cpus_of.Given as goal

abbrev pub invariant-loop-cpu : goal.invariant-loop-cpu
invariant-loop-cpu l = l.made.items ≡ map (λ cpu. opened_cpu cpu l.rooms l.names) (range_with_len 0 l.cpu)
