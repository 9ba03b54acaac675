use Rattle.std.proofs.Common.{◌≡◌, map, take}
use Rattle.kz_cpu.specs.Cpu.{opened_cache}
use Rattle.kz_cpu.proofs.cpu.caches_of.Given as goal

-- the caches of the rooms so far
abbrev pub invariant-loop-room : goal.invariant-loop-room
invariant-loop-room l = l.caches.items ≡ map (opened_cache l.cpu) (take l.room-index l.rooms)
