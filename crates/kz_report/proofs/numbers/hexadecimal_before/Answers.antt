use Rattle.std.proofs.Common.{◌≡◌, ◌+◌, ◌-◌, ◌^◌, ◌<◌, refl, ◌∙◌, arith, length-set}
use Rattle.kz_report.proofs.Hexadecimal.{all_digits, one_less, digit_on, digit_last}
use Rattle.kz_report.proofs.numbers.hexadecimal_before.Goals as goal

pub loop-left-init : goal.loop-left-init
loop-left-init c =
    let end = c.args.end in
    let places : end + 16 - end ≡ 16 = omega arith in
    let small : c.args.number < 16 ^ 16 = let fits = c.ranges.number.fits in omega arith in
    record {
      within = omega arith;
      room = omega arith;
      fits = rw places small;
      long = refl;
      written = all_digits (end + 64 - end) c.args.number _ (omega arith);
    }

pub loop-left-preserved : goal.loop-left-preserved
loop-left-preserved c =
    let l = c.loop-left in
    let end = c.args.end in
    let less = one_less l.left (l.at + 16 - end) c.loop-left-test.true l.invariant.fits in
    let back : l.at - 1 + 16 - end ≡ l.at + 16 - end - 1 = omega (arith, less.0) in
    record {
      within = omega (arith, l.invariant.within);
      room = omega (arith, less.0);
      fits = rw back less.1;
      long = length-set l.text (l.at - 1) c.glyph.result ∙ l.invariant.long;
      written =
          digit_on (l.at + 64 - end) (l.at - 1 + 64 - end) l.left l.at c.glyph.result l.text _ c.loop-left-test.true (omega (arith, less.0)) (omega (arith, l.invariant.within, l.invariant.long, c.requires.end)) (omega (arith, less.0))
          c.glyph.ensures l.invariant.written;
    }

pub returns-clause-written : goal.returns-clause-written
returns-clause-written c =
    let l = c.loop-left in
    let end = c.args.end in
    digit_last (l.at + 64 - end) (l.at - 1 + 64 - end) l.left l.at c.glyph-2.result l.text _ c.loop-left-test.false (omega (arith, l.invariant.room, c.requires.room)) (omega (arith, l.invariant.within, l.invariant.long, c.requires.end))
    (omega (arith, l.invariant.room, c.requires.room)) c.glyph-2.ensures l.invariant.written
