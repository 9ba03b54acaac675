use Rattle.std.proofs.Common.{◌≡◌, ◌-◌, ◌≤◌, ◌++◌, take, drop, vec_len, vec_capacity}
use Rattle.kz_cpu.proofs.cache.learn.Given as goal

-- what was learned so far
abbrev pub invariant-loop-chunk : goal.invariant-loop-chunk
invariant-loop-chunk l = record {
  items : l.bases.items ≡ l.initial.bases.items ++ take (l.chunk - l.known) (drop l.known (take l.most_chunks l.book.zone.bases));
  count : vec_len l.bases ≡ l.chunk;
  few : vec_len l.bases ≤ l.most_chunks;
  room : l.most_chunks ≤ vec_capacity l.bases;
}
