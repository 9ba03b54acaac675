use Rattle.std.proofs.Common.{◌≡◌}
use Rattle.std.specs.List.{range_with_len}
use Rattle.kz_turn_tests.proofs.tally.work.Given as goal

abbrev pub invariant-loop-count : goal.invariant-loop-count
invariant-loop-count g l = record {
  name : l.pass.name ≡ l.fn.pass.name;
  number : l.pass.number ≡ l.fn.pass.number;
  base : l.pass.base ≡ l.fn.pass.base;
  own : l.pass.own ≡ range_with_len 0 l.count;
}
