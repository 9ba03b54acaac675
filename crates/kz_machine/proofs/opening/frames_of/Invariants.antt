use Rattle.std.proofs.Common.{◌≡◌, take}
use Rattle.kz_machine.specs.Needs.{frames_in}
use Rattle.kz_machine.proofs.opening.frames_of.Given as goal

abbrev pub invariant-loop-room : goal.invariant-loop-room
invariant-loop-room l = l.frames ≡ frames_in (take l.room-index l.rooms)
