-- One wholly idle chunk after another is unmapped.
use Rattle.std.proofs.Common.{◌≡◌, ℕ, ◌+◌, ◌<◌, ◌≤◌, ◌==◌, ◌&&◌, Bool, true, false, cond, if◌then◌else◌, List, [], ◌∷◌, length, map, slice_set, None, Some, refl, ap, sym, ◌∙◌, arith}
use Rattle.std.specs.List.{position, count_by}
use Rattle.std.proofs.Math.Seq.{map-set_same}
use Rattle.std.proofs.lemmas.List.Elements.{All-from_get_or}
use Rattle.std.proofs.lemmas.List.Quantifiers.{position-Some}
use Rattle.std.proofs.lemmas.List.Folds.{map_fixed}
use Rattle.std.proofs.lemmas.List.Sums.{sum_by-set, sum_by-le, sum_by-le-sum_by}
use Rattle.kz_model.specs.declared.step.Block.{Block}
use Rattle.kz_model.specs.declared.record.ZoneParams.{ZoneParams}
use Rattle.kz_model.specs.Zone.State.{Chunk, no_chunk, chunk_at}
use Rattle.kz_model.specs.Zone.Pick.{is_whole}
use Rattle.kz_model.specs.Zone.Rules.{with_number, with_idle, all_idle, count_whole}
use Rattle.kz_model.proofs.Counts.{count_by-map}
use Rattle.kz_zone.specs.Chunks.{Chunks}
use Rattle.kz_zone.specs.Unmapping.{unmapped_chunks}
use Rattle.kz_zone.proofs.Places.{none_at}

-- a wholly idle chunk
pub whole_at : (count : ℕ) (chunks : List Chunk) (k : ℕ) → Some k ≡ position (is_whole count) chunks → (k < length chunks) × (is_whole count (chunk_at chunks k) ≡ true)
whole_at count chunks k e = let at = position-Some (is_whole count) chunks k no_chunk (sym e) in (at.0, at.1)

-- ---- one is unmapped

-- the chunks with one unmapped: one less is wholly idle, and what a trim leaves is the same
pub record OneLess (now next : Chunks) : Type 0 where
  pub params : next.params ≡ now.params
  pub zone : now.params ≡ next.params
  pub count : count_whole next.params next.chunks + 1 ≡ count_whole now.params now.chunks
  pub same : record next { chunks = unmapped_chunks next.params.count next.chunks } ≡ record now { chunks = unmapped_chunks now.params.count now.chunks }

pub one_less : (now next : Chunks) (k : ℕ) → Some k ≡ position (is_whole now.params.count) now.chunks → next ≡ record now { chunks = slice_set now.chunks k no_chunk } → OneLess now next
one_less now next k e made =
    let count = now.params.count in
    let at = whole_at count now.chunks k e in
    let unmapping : Chunk → Chunk = λ chunk. if is_whole count chunk then no_chunk else chunk in
    let size = sum_by-set (λ (c : Chunk). cond (is_whole count c) 1 0) now.chunks k no_chunk no_chunk at.0 in
    let left = map-set_same unmapping now.chunks k no_chunk no_chunk (sym (ap (λ b. if b then no_chunk else chunk_at now.chunks k) at.1)) in
    record {
      params = ap (λ (c : Chunks). c.params) made;
      zone = sym (ap (λ (c : Chunks). c.params) made);
      count = omega (arith, ap (λ (c : Chunks). count_whole c.params c.chunks) made, size, ap (λ b. cond {A = ℕ} b 1 0) at.1);
      same = ap (λ (c : Chunks). record c { chunks = unmapped_chunks c.params.count c.chunks }) made ∙ ap (λ xs. record now { chunks = xs }) left;
    }

-- ---- none is left

pub none_whole : (now : Chunks) → position (is_whole now.params.count) now.chunks ≡ None → record now { chunks = unmapped_chunks now.params.count now.chunks } ≡ now
none_whole now e =
    let count = now.params.count in
    let unmapping : Chunk → Chunk = λ chunk. if is_whole count chunk then no_chunk else chunk in
    ap (λ xs. record now { chunks = xs })
    (map_fixed unmapping now.chunks (All-from_get_or (λ (c : Chunk). unmapping c ≡ c) now.chunks no_chunk (λ i lt. ap (λ b. if b then no_chunk else chunk_at now.chunks i) (none_at (is_whole count) now.chunks i e lt))))

pub no_more : (now : Chunks) → position (is_whole now.params.count) now.chunks ≡ None → count_whole now.params now.chunks ≡ 0
no_more now e =
    let test = is_whole now.params.count in
    omega (arith, sum_by-le (λ (c : Chunk). cond (test c) 1 0) 0 now.chunks (All-from_get_or (λ (c : Chunk). cond {A = ℕ} (test c) 1 0 ≤ 0) now.chunks no_chunk (λ i lt. none (test (chunk_at now.chunks i)) (none_at test now.chunks i e lt))))
  where
    none : (b : Bool) → b ≡ false → cond {A = ℕ} b 1 0 ≤ 0
    none true e = absurd (cc)
    none false e = omega arith

-- ---- room for what is given back

-- a chunk is mapped after blocks became idle exactly where it was before
mapped-all_idle : (blocks : List Block) (chunks : List Chunk) → map (λ (c : Chunk). c.mapped) (all_idle blocks chunks) ≡ map (λ (c : Chunk). c.mapped) chunks
mapped-all_idle [] chunks = refl
mapped-all_idle (block ∷ blocks) chunks =
    let chunk = chunk_at chunks block.chunk in
    mapped-all_idle blocks (with_idle block chunks) ∙ map-set_same (λ (c : Chunk). c.mapped) chunks block.chunk (record chunk { idle = with_number block.index chunk.idle }) no_chunk refl

-- no more chunks are wholly idle then than are mapped
whole_mapped : (p : ZoneParams) (blocks : List Block) (chunks : List Chunk) → count_whole p (all_idle blocks chunks) ≤ count_by (λ chunk. chunk.mapped) chunks
whole_mapped p blocks chunks =
    omega (
      arith,
      sum_by-le-sum_by (λ (c : Chunk). cond (is_whole p.count c) 1 0) (λ (c : Chunk). cond c.mapped 1 0) (all_idle blocks chunks) (λ c. few c.mapped (length c.idle == p.count)),
      count_by-map (λ b. b) (λ (c : Chunk). c.mapped) (all_idle blocks chunks),
      count_by-map (λ b. b) (λ (c : Chunk). c.mapped) chunks,
      ap (count_by (λ b. b)) (mapped-all_idle blocks chunks),
    )
  where
    few : (m w : Bool) → cond {A = ℕ} (m && w) 1 0 ≤ cond m 1 0
    few true true = omega arith
    few true false = omega arith
    few false w = omega arith

pub few_backs : (before now : Chunks) (blocks : List Block) (n : ℕ) → now ≡ record before { chunks = all_idle blocks before.chunks } → count_by (λ chunk. chunk.mapped) before.chunks ≤ n → count_whole now.params now.chunks ≤ n
few_backs before now blocks n is room = omega (arith, room, whole_mapped before.params blocks before.chunks, ap (λ (c : Chunks). count_whole c.params c.chunks) is)
