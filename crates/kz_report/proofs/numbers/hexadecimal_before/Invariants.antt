use Rattle.std.proofs.Common.{◌≡◌, ◌+◌, ◌-◌, ◌^◌, ◌<◌, ◌≤◌, ◌++◌, false, length, drop}
use Rattle.std.specs.Fmt.{digits, digits_onto}
use Rattle.kz_report.proofs.numbers.hexadecimal_before.Given as goal

-- the digits that are left, before those so far, are the number's
abbrev pub invariant-loop-left : goal.invariant-loop-left
invariant-loop-left l = record {
  within : l.at ≤ l.end;
  room : l.end < l.at + 16;
  fits : l.left < 16 ^ (l.at + 16 - l.end);
  long : length l.text ≡ length l.fn.text;
  written : digits_onto (l.at + 64 - l.end) 16 false l.left (drop l.at l.text) ≡ digits 16 false l.number ++ drop l.end l.fn.text;
}

abbrev pub decreases-loop-left : goal.decreases-loop-left
decreases-loop-left l = l.left
