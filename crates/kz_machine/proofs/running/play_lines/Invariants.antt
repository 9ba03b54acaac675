use Rattle.std.proofs.Common.{ℕ, ◌-◌, List, ◌++◌, length, replicate}
use Rattle.kz_model.specs.declared.bundle.OrderLine.{OrderLine}
use Rattle.kz_model.specs.declared.bundle.OrderLine.TheVariants.{Cpu}
use Rattle.kz_model.specs.Run.Journal.{trace_of}
use Rattle.kz_machine.specs.Left.{IsLeft, IsRest}
use Rattle.kz_machine.specs.Machine.{replies_at}
use Rattle.kz_machine.proofs.running.play_lines.Given as goal

abbrev pub invariant-loop-machine : goal.invariant-loop-machine
invariant-loop-machine l =
    (n : ℕ) (rest : List OrderLine) → IsLeft l.bundle l.plan l.initial.machine (replicate n (Cpu l.cpu) ++ rest) → IsRest l.bundle l.cpu l.round rest → (k : ℕ) × IsLeft l.bundle l.plan l.machine (replicate k (Cpu l.cpu) ++ rest)

abbrev pub decreases-loop-machine : goal.decreases-loop-machine
decreases-loop-machine l = length (trace_of l.bundle l.cpu) - length (replies_at l.machine.replies l.cpu).items
