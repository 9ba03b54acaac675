use Rattle.std.proofs.Common.{take}
use Rattle.kz_machine.specs.Opening.{AreOpened}
use Rattle.kz_machine.proofs.opening.books_of.Given as goal

abbrev pub invariant-loop-room : goal.invariant-loop-room
invariant-loop-room l = AreOpened (take l.room-index l.rooms) l.books.items
