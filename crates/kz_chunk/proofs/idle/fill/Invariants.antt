use Rattle.std.proofs.Common.{◌≡◌, length}
use Rattle.std.specs.List.{range_with_len}
use Rattle.kz_chunk.proofs.idle.fill.Given as goal

abbrev pub invariant-loop-element : goal.invariant-loop-element
invariant-loop-element l = record {
  items : l.idle.items ≡ range_with_len 0 l.element;
  many : length l.idle.items ≡ l.element;
}
