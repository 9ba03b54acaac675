use Rattle.std.proofs.Common.{◌≡◌, [], map, take, length}
use Rattle.kz_machine.proofs.opening.replies_of.Given as goal

abbrev pub invariant-loop-trace : goal.invariant-loop-trace
invariant-loop-trace l = l.replies.items ≡ map (λ trace. record { room = length trace; items = [] }) (take l.trace-index l.traces)
