-- Rooms, books and CPUs by their place.
use Rattle.std.specs.Prelude.{ℕ, List, [], None, slice_index_or}
use Rattle.kz_model.specs.declared.record.Room.{Room}
use Rattle.kz_zone.specs.Zone.{Zone}
use Rattle.kz_book.specs.Book.{Book}
use Rattle.kz_cpu.specs.Cpu.{Cpu, no_params}

abbrev pub no_cpu : Cpu
no_cpu = record { cpu = 0; caches = []; bindings = [] }

abbrev pub no_room : Room
no_room = record { params = no_params; chunks = 0; transit = 0; steps = [] }

abbrev pub no_zone : Zone
no_zone = record {
  params = no_params;
  most_chunks = 0;
  most_gifts = 0;
  chunks = [];
  bases = [];
  depot = [];
  transit =
      [];
  words = None;
}

abbrev pub no_book : Book
no_book = record { room = no_room; zone = no_zone; visits = [] }

abbrev pub room_at : List Room → ℕ → Room
room_at rooms zone = slice_index_or rooms zone no_room

abbrev pub cpu_at : List Cpu → ℕ → Cpu
cpu_at cpus cpu = slice_index_or cpus cpu no_cpu

abbrev pub book_at : List Book → ℕ → Book
book_at books zone = slice_index_or books zone no_book
