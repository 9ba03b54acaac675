use Rattle.std.proofs.Common.{ℕ, ◌<◌, ◌≤◌, length, take, eqb, sym, subst, w8, arith}
use Rattle.std.proofs.lemmas.Simd.{bitmask_splat, length-chunk}
use Rattle.kz_text.specs.Lines.{EndsAt}
use Rattle.kz_text.proofs.Marked.{lowest, ends_lowest}
use Rattle.kz_text.proofs.lines.end_of_line.Goals as goal

pub returns-then-ends-ne0-clause-some : goal.returns-then-ends-ne0-clause-some
returns-then-ends-ne0-clause-some c =
    let bytes = c.args.bytes.now in
    let room : 32 ≤ length bytes = c.if-bytes-ge-WIDE.true in
    let mask = bitmask_splat w8 eqb (take 32 bytes) 32 10 (length-chunk 0 32 bytes room) (omega arith) in
    let P : ℕ → Type 0 = λ mask. 0 < mask → EndsAt bytes (lowest mask) in
    subst P (sym mask) (ends_lowest bytes room) (omega (arith, c.if-ends-ne0.true))
