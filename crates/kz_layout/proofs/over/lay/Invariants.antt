use Rattle.std.proofs.Common.{◌≡◌, ◌+◌, ◌*◌, ◌≤◌, length}
use Rattle.kz_model.specs.Types.Cover.{over, at_offset}
use Rattle.kz_layout.proofs.over.lay.Given as goal

-- the copies so far lie over the codes, and the next one begins inside them or at their end
abbrev pub invariant-loop : goal.invariant-loop
invariant-loop l = record {
  laid : l.codes.items ≡ over l.fn.codes.items (at_offset l.first l.counter l.part);
  begins : l.from ≡ l.first + l.counter * length l.part;
  within : l.from ≤ length l.codes.items;
}
