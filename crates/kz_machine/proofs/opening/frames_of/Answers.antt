use Rattle.std.proofs.Common.{◌≡◌, ◌<◌, ◌*◌, ℕ, length, take, ap, ◌∙◌, arith}
use Rattle.std.proofs.lemmas.List.{get_or_default}
use Rattle.std.proofs.lemmas.List.Sums.{sum-map, sum_by_more_le}
use Rattle.kz_model.specs.declared.record.Room.{Room}
use Rattle.kz_machine.specs.Lookups.{no_room, room_at}
use Rattle.kz_machine.proofs.opening.frames_of.Goals as goal

abbrev frames_of_one : Room → ℕ
frames_of_one room = room.params.pages * room.chunks

pub overflow_mul-frames : goal.overflow_mul-frames
overflow_mul-frames c =
    let rooms = c.args.rooms.now in
    let k = c.loop-room.room-index in
    let lt : k < length rooms = omega arith in
    let one : frames_of_one c.room-item.result ≡ frames_of_one (room_at rooms k) = ap frames_of_one (c.room-item.is ∙ get_or_default rooms k c.room-item.result no_room lt) in
    omega (arith, one, sum_by_more_le frames_of_one rooms k no_room lt, sum-map frames_of_one rooms, c.requires.few)

pub overflow_add-frames : goal.overflow_add-frames
overflow_add-frames c =
    let rooms = c.args.rooms.now in
    let k = c.loop-room.room-index in
    let lt : k < length rooms = omega arith in
    let one : frames_of_one c.room-item.result ≡ frames_of_one (room_at rooms k) = ap frames_of_one (c.room-item.is ∙ get_or_default rooms k c.room-item.result no_room lt) in
    omega (arith, one, c.loop-room.invariant, sum_by_more_le frames_of_one rooms k no_room lt, sum-map frames_of_one rooms, sum-map frames_of_one (take k rooms), c.requires.few)
