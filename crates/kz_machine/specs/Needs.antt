-- What a run can use of its zones' rooms, and of the frames.
use Rattle.std.specs.Prelude.{ℕ, ◌+◌, ◌*◌, ◌/◌, min, List, length, map, sum}
use Rattle.std.specs.List.{range_with_len}
use Rattle.kz_model.specs.declared.bundle.Bundle.{Bundle}
use Rattle.kz_model.specs.declared.record.Plan.{Plan}
use Rattle.kz_model.specs.declared.record.Room.{Room}
use Rattle.kz_model.specs.Run.Rooms.{zone_allocations, zone_gifts}
use Rattle.kz_model.specs.Run.Rooms.{room_of}

-- A zone comes to no more chunks than lines on it allocate, as each brings one at most, and to no more than fit into
-- the frames, as a new one comes only while all others are mapped. One more has room, since it is asked for before the
-- frames are known to be short.
abbrev pub chunks_needed : ℕ → ℕ → Room → ℕ
chunks_needed frames allocations room = min (min room.chunks allocations) (frames / room.params.pages + 1)

-- room for so many chunks, and for a gift of each line that gives a block away
abbrev pub needed : ℕ → ℕ → ℕ → Room → Room
needed frames allocations gifts room =
    record { params = room.params; chunks = chunks_needed frames allocations room; transit = gifts; steps = room.steps }

-- of a zone's room
abbrev pub needed_of : Bundle → Plan → ℕ → Room
needed_of b plan zone = needed b.frames (zone_allocations b plan zone) (zone_gifts b plan zone) (room_of b plan zone)

abbrev pub needed_rooms : Bundle → Plan → List Room
needed_rooms b plan = map (needed_of b plan) (range_with_len 0 (length plan.zones))

-- by zone, how many lines on it allocate
abbrev pub allocations_of : Bundle → Plan → List ℕ
allocations_of b plan = map (zone_allocations b plan) (range_with_len 0 (length plan.zones))

-- How many entries a log may have where so many lines allocate: an ask for each, and a back of what it brought.
abbrev pub most_entries : List ℕ → ℕ
most_entries allocations = 2 * sum allocations

-- the frames of all chunks that these rooms have
abbrev pub frames_in : List Room → ℕ
frames_in rooms = sum (map (λ room. room.params.pages * room.chunks) rooms)

-- No more frames are out at once than those of all chunks, and than five submaps of so many pages have pages for.
abbrev pub frames_needed : ℕ → List Room → ℕ
frames_needed pages rooms = min (5 * pages) (frames_in rooms)
