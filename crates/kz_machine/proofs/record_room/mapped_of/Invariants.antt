use Rattle.std.proofs.Common.{◌≡◌, ◌≤◌, ◌++◌, map, take, length, vec_capacity}
use Rattle.kz_machine.proofs.record_room.mapped_of.Given as goal

abbrev pub invariant-loop-mark_room : goal.invariant-loop-mark_room
invariant-loop-mark_room l =
    (l.into.items ≡ map (λ book. map (λ chunk. chunk.mapped) book.zone.chunks) (take (length l.yielded) l.books)) × (l.yielded ++ l.mark_room-iterator.rest.items ≡ l.fn.mark_rooms.items) × (length l.books ≤ vec_capacity l.into)
