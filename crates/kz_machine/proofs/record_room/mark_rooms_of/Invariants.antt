use Rattle.std.proofs.Common.{◌≡◌, map, take}
use Rattle.kz_machine.proofs.record_room.mark_rooms_of.Given as goal

abbrev pub invariant-loop-room : goal.invariant-loop-room
invariant-loop-room l = l.mark_rooms.items ≡ map (λ room. record { chunks = room.chunks }) (take l.room-index l.rooms)
