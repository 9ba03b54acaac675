use Rattle.std.proofs.Common.{◌≡◌, ◌≤◌, ◌++◌, map, vec_len, vec_capacity}
use Rattle.kz_machine.proofs.record_room.replies_of.Given as goal

abbrev pub invariant-loop-of_cpu : goal.invariant-loop-of_cpu
invariant-loop-of_cpu l =
    (l.into.items ≡ map (λ r. r.items) l.yielded) × (l.yielded ++ l.of_cpu-iterator.rest.items ≡ l.fn.replies.items) × (vec_len l.fn.replies ≤ vec_capacity l.into)
