use Rattle.std.proofs.Common.{◌≡◌, take}
use Rattle.kz_model.proofs.text.ShortBytes.of.Given as goal

-- the bytes so far
abbrev pub invariant-loop-byte : goal.invariant-loop-byte
invariant-loop-byte l = l.array.items ≡ take l.byte-index l.bytes
