use Rattle.std.proofs.Common.{◌≡◌, ◌+◌, ◌-◌, ◌*◌, ◌≤◌, ◌++◌, length}
use Rattle.kz_zone.specs.Picks.{picked}
use Rattle.kz_zone.proofs.pick.pick_onto.Given as goal

-- the picks so far and those that are left are all picks
abbrev pub invariant-loop-turn : goal.invariant-loop-turn
invariant-loop-turn l =
    let left = picked l.chunks.params.count (l.picks - l._turn) l.chunks.chunks l.words in
    let all = picked l.fn.chunks.params.count l.picks l.fn.chunks.chunks l.fn.words in
    record {
      blocks : record l.into { blocks = l.into.blocks ++ left.blocks } ≡ record l.fn.into { blocks = l.fn.into.blocks ++ all.blocks };
      room : length l.into.blocks + (l.picks - l._turn) ≤ 2 * l.into.magazine;
      chunks : record l.chunks { chunks = left.chunks } ≡ record l.fn.chunks { chunks = all.chunks };
      words : left.words ≡ all.words;
    }
