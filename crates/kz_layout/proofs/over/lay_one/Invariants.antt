use Rattle.std.proofs.Common.{◌≡◌, ◌+◌, ◌≤◌, ◌++◌, length, replicate, take}
use Rattle.kz_model.specs.Types.Cover.{over}
use Rattle.kz_layout.proofs.over.lay_one.Given as goal

-- the granules so far lie over the codes, and the next one falls inside them or at their end
abbrev pub invariant-loop-i : goal.invariant-loop-i
invariant-loop-i l = record {
  laid : l.codes.items ≡ over l.initial.codes.items (replicate l.from 0 ++ take l.i l.part);
  within : l.from + l.i ≤ length l.codes.items;
}
