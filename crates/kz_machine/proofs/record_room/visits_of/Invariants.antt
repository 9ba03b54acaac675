use Rattle.std.proofs.Common.{◌≡◌, ◌≤◌, ◌++◌, map, length, vec_capacity}
use Rattle.kz_machine.proofs.record_room.visits_of.Given as goal

abbrev pub invariant-loop-book : goal.invariant-loop-book
invariant-loop-book l =
    (l.into.items ≡ map (λ book. book.visits) l.yielded) × (l.yielded ++ l.book-iterator.rest.items ≡ l.fn.books.items) × (length l.fn.books.items ≤ vec_capacity l.into)
