use Rattle.std.proofs.Common.{◌≡◌, ◌≤◌, map, take, vec_capacity}
use Rattle.kz_machine.proofs.record_room.marks_of.Given as goal

abbrev pub invariant-loop-chunk : goal.invariant-loop-chunk
invariant-loop-chunk l = (l.into.items ≡ map (λ chunk. chunk.mapped) (take l.chunk l.book.zone.chunks)) × (l.book.zone.most_chunks ≤ vec_capacity l.into)
