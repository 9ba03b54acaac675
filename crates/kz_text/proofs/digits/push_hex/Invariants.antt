use Rattle.std.proofs.Common.{◌≡◌, ◌++◌, take}
use Rattle.kz_model.specs.Text.Lines.{hex_bytes}
use Rattle.kz_text.proofs.digits.push_hex.Given as goal

-- the bytes so far are written
abbrev pub invariant-loop-byte : goal.invariant-loop-byte
invariant-loop-byte l = l.out.items ≡ l.fn.out.items ++ hex_bytes (take l.byte-index l.bytes)
