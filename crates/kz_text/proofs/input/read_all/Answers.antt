use Rattle.std.proofs.Common.{ℕ, ◌+◌, ◌<◌, ◌≤◌, List, ◌++◌, length, Option, Some, None, IfSome, arith, refl, ap, length-append, length-take}
use Rattle.std.specs.Io.KnownBytes.{Consumes, Keeps}
use Rattle.std.proofs.KnownBytes.{Consumes-kept, Consumes-trans}
use Rattle.kz_text.specs.Streams.{ConsumesBetween}
use Rattle.kz_text.proofs.input.read_all.Goals as goal

-- after a failing read
kept : (old mid new : Option (List ℕ)) (bytes : List ℕ) (limit : ℕ) → length bytes < limit + 1 → Consumes old mid bytes → Keeps mid new → ConsumesBetween old new 0 limit
kept old mid new bytes limit few before now =
    record { bytes = bytes; least_read = omega arith; most_read = omega arith; front = Consumes-kept old mid new bytes before now }

-- after one piece more than there was memory for
one_piece_more : (old mid new : Option (List ℕ)) (bytes piece : List ℕ) (most : ℕ) → length bytes + length piece ≤ most → Consumes old mid bytes → Consumes mid new piece → ConsumesBetween old new 0 most
one_piece_more old mid new bytes piece most few before now =
    record {
      bytes = bytes ++ piece;
      least_read = omega arith;
      most_read = omega (arith, length-append bytes piece);
      front = Consumes-trans old mid new bytes piece before now;
    }

-- a source of which so many bytes were read had so many
had_many : (old new : Option (List ℕ)) (bytes : List ℕ) (limit : ℕ) → limit < length bytes → Consumes old new bytes → IfSome old (λ rest. limit < length rest)
had_many None new bytes limit many read = tt
had_many (Some rest) None bytes limit many read = absurd read
had_many (Some rest) (Some left) bytes limit many read = omega (arith, length-append bytes left, ap length read)

pub returns-in-Err-clause-err : goal.returns-in-Err-clause-err
returns-in-Err-clause-err g c =
    let h = c.loop-piece.invariant in
    kept _ _ _ c.loop-piece.bytes.items c.args.limit (omega arith) h.so_far c.in-Err.ensures.bytes

pub returns-then-is_err-clause-err : goal.returns-then-is_err-clause-err
returns-then-is_err-clause-err g c =
    let h = c.loop-piece.invariant in
    one_piece_more _ _ _ c.loop-piece.bytes.items _ (c.args.limit + 1) (omega (arith, length-take c.in-Ok.count c.read.new.into, c.in-Ok.ensures.bound, c.read.auto.into, length-take c.min-want.result c.loop-piece.piece)) h.so_far c.in-Ok.ensures.bytes.0

pub returns-clause-err : goal.returns-clause-err
returns-clause-err g c =
    let h = c.loop-piece.invariant in
    (refl, record { bytes = c.loop-piece.bytes.items; least_read = omega arith; most_read = omega arith; front = h.so_far })

pub returns-clause-too_long : goal.returns-clause-too_long
returns-clause-too_long g c =
    let h = c.loop-piece.invariant in
    λ _. had_many _ _ c.loop-piece.bytes.items c.args.limit (omega arith) h.so_far
