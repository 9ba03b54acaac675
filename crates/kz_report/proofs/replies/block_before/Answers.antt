use Rattle.std.proofs.Common.{ℕ, ◌<◌, ◌≤◌, ◌^◌, length, decimal, arith}
use Rattle.std.proofs.lemmas.Fmt.{length-decimal-le}
use Rattle.kz_report.proofs.replies.block_before.Goals as goal

short : (n : ℕ) → n < 2 ^ 32 → length (decimal n) ≤ 10
short n fits = length-decimal-le 10 n (omega arith) (omega arith) (omega arith)

pub write_digits-at-requires : goal.write_digits-at-requires
write_digits-at-requires c = (
  omega (arith, short c.from.result (omega (arith, c.from.ensures)), c.bytes_before-at.ensures.start, c.hexadecimal_before-at.ensures.few),
  omega (arith, c.bytes_before-at.ensures.start, c.bytes_before-at.ensures.length, c.hexadecimal_before-at.ensures.start, c.hexadecimal_before-at.ensures.length, c.told-line),
)

pub bytes_before-at-requires-2-clause-room : goal.bytes_before-at-requires-2-clause-room
bytes_before-at-requires-2-clause-room c =
    omega (arith, short c.from.result (omega (arith, c.from.ensures)), c.write_digits-at.ensures.start, c.bytes_before-at.ensures.start, c.hexadecimal_before-at.ensures.few)

pub write_digits-at-requires-2 : goal.write_digits-at-requires-2
write_digits-at-requires-2 c = (
  omega (arith, short c.from.result (omega (arith, c.from.ensures)), short c.from-2.result (omega (arith, c.from-2.ensures)), c.bytes_before-at-2.ensures.start, c.write_digits-at.ensures.start, c.bytes_before-at.ensures.start, c.hexadecimal_before-at.ensures.few),
  omega (arith, c.bytes_before-at-2.ensures.start, c.bytes_before-at-2.ensures.length, c.write_digits-at.ensures.start, c.write_digits-at.auto.buf, c.bytes_before-at.ensures.start, c.bytes_before-at.ensures.length, c.hexadecimal_before-at.ensures.start, c.hexadecimal_before-at.ensures.length, c.told-line),
)

pub bytes_before-requires-clause-room : goal.bytes_before-requires-clause-room
bytes_before-requires-clause-room c =
    omega (arith, short c.from.result (omega (arith, c.from.ensures)), short c.from-2.result (omega (arith, c.from-2.ensures)), c.write_digits-at-2.ensures.start, c.bytes_before-at-2.ensures.start, c.write_digits-at.ensures.start, c.bytes_before-at.ensures.start, c.hexadecimal_before-at.ensures.few)
