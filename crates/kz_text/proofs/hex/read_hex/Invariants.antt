use Rattle.std.proofs.Common.{◌≡◌}
use Rattle.std.proofs.Math.Seq.{paste}
use Rattle.kz_model.specs.Grammar.Tokens.{bytes_of_hex}
use Rattle.kz_text.proofs.hex.read_hex.Given as goal

-- the bytes so far stand over the front
abbrev pub invariant-loop-place : goal.invariant-loop-place
invariant-loop-place l = l.into ≡ paste l.fn.into 0 (bytes_of_hex l.text) l.place
