-- Room for the record of a run, as contracts see it.
use Rattle.std.specs.Prelude.{ℕ, ◌≡◌, ◌<◌, ◌≤◌, List, [], length, slice_index_or}
use Rattle.kz_model.specs.declared.record.Room.{Room}
use Rattle.kz_model.specs.Store.Replies.{RepliesSoFar}
use Rattle.kz_book.specs.Book.{Book}
use Rattle.kz_machine.specs.Lookups.{room_at, book_at}

abbrev pub no_replies : RepliesSoFar
no_replies = record { room = 0; items = [] }

-- for how many of a zone's chunks there is room
pub record MarkRoom : Type 0 where
  pub chunks : ℕ

abbrev pub no_mark_room : MarkRoom
no_mark_room = record { chunks = 0 }

abbrev pub mark_room_at : List MarkRoom → ℕ → MarkRoom
mark_room_at mark_rooms zone = slice_index_or mark_rooms zone no_mark_room

-- for the replies of how many CPUs, for the visits and the chunks of how many zones, and for how many chunks of each
-- zone there is room
pub record RecordRoom : Type 0 where
  pub cpus : ℕ
  pub visits : ℕ
  pub mapped : ℕ
  pub mark_rooms : List MarkRoom

-- there is room for the record of a run of so many CPUs, whose zones have these rooms
pub record HasRecordRoom (rooms : List Room) (cpus : ℕ) (record_room : RecordRoom) : Type 0 where
  pub replies : cpus ≤ record_room.cpus
  pub visits : length rooms ≤ record_room.visits
  pub mapped : length rooms ≤ record_room.mapped
  pub mark_rooms_long : length record_room.mark_rooms ≡ length rooms
  pub mark_rooms : (zone : ℕ) → zone < length rooms →
      (room_at rooms zone).chunks ≤ (mark_room_at record_room.mark_rooms zone).chunks

-- the chunks of each of these books have room
pub record HasRoomFor (books : List Book) (mark_rooms : List MarkRoom) : Type 0 where
  pub long : length mark_rooms ≡ length books
  pub chunks : (zone : ℕ) → zone < length books →
      (book_at books zone).zone.most_chunks ≤ (mark_room_at mark_rooms zone).chunks
