-- What a machine opens with.
use Rattle.std.specs.Prelude.{◌≡◌, ℕ, ◌<◌, List, [], length}
use Rattle.kz_model.specs.declared.record.Room.{Room}
use Rattle.kz_book.specs.Book.{Book, History, KeepsHistory}
use Rattle.kz_machine.specs.Lookups.{room_at, book_at}

-- the book of a zone that no CPU has visited
pub record IsOpened (opens : Room) (book : Book) : Type 0 where
  pub room : book.room ≡ opens
  pub visits : book.visits ≡ []
  pub chunks : book.zone.chunks ≡ []
  pub most_chunks : book.zone.most_chunks ≡ opens.chunks
  pub most_gifts : book.zone.most_gifts ≡ opens.transit
  pub history : History
  pub keeps : KeepsHistory book history
  pub steps : history.steps ≡ []
  pub answers : history.answers ≡ []

-- a book for each room
pub record AreOpened (rooms : List Room) (books : List Book) : Type 0 where
  pub long : length books ≡ length rooms
  pub each : (zone : ℕ) → zone < length rooms → IsOpened (room_at rooms zone) (book_at books zone)
