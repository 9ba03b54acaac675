-- Blocks become idle one after another, in any order.
use Rattle.std.proofs.Common.{◌≡◌, ℕ, zero, suc, ◌+◌, ◌<◌, ◌≤◌, ◌==◌, ◌&&◌, Bool, true, false, cond, nat_lt, if◌then◌else◌, List, [], ◌∷◌, ◌++◌, take, slice_set, refl, ap, sym, ◌∙◌, subst, arith}
use Rattle.kz_model.specs.declared.step.Block.{Block}
use Rattle.kz_model.specs.declared.record.ZoneParams.{ZoneParams}
use Rattle.kz_model.specs.Zone.State.{Chunk, Shared, chunk_at}
use Rattle.kz_model.specs.Zone.Rules.{with_number, with_idle, all_idle}
use Rattle.kz_model.specs.Zone.Whole.{is_block, one_if, times, times_idle, AreAway}
use Rattle.kz_model.proofs.Counting.{same_block, times_idle-with_number, times-append, times-cut, times-flat}
use Rattle.kz_model.proofs.Standing.{chunk-set, mapped_within}
use Rattle.kz_zone.specs.Depot.{row_of}
use Rattle.kz_zone.specs.Chunks.{Chunks}
use Rattle.kz_zone.specs.Out.{AreOut}

-- ---- in any order

both : (i j : ℕ) (xs : List ℕ) → cond (nat_lt i j) (i ∷ j ∷ xs) (j ∷ i ∷ xs) ≡ cond (nat_lt j i) (j ∷ i ∷ xs) (i ∷ j ∷ xs)
both i j xs =
    elim (nat_lt i j) as (λ b. nat_lt i j ≡ b → cond b (i ∷ j ∷ xs) (j ∷ i ∷ xs) ≡ cond (nat_lt j i) (j ∷ i ∷ xs) (i ∷ j ∷ xs)) [
      | true ↦ λ e. let other : nat_lt j i ≡ false = grind arith in rw other refl
      | false ↦ λ e.
          elim (nat_lt j i) as (λ b. nat_lt j i ≡ b → j ∷ i ∷ xs ≡ cond b (j ∷ i ∷ xs) (i ∷ j ∷ xs)) [
            | true ↦ λ f. refl
            | false ↦ λ f. let same : i ≡ j = grind arith in λ k. sym same k ∷ same k ∷ xs
          ] refl
    ] refl

with_number_comm : (i j : ℕ) (xs : List ℕ) → with_number i (with_number j xs) ≡ with_number j (with_number i xs)
with_number_comm i j [] = both i j []
with_number_comm i j (x ∷ xs) =
    elim (nat_lt j x) as (λ b. nat_lt j x ≡ b → with_number i (cond b (j ∷ x ∷ xs) (x ∷ with_number j xs)) ≡ with_number j (with_number i (x ∷ xs))) [
      | true ↦ λ e.
          elim (nat_lt i x) as (λ b. nat_lt i x ≡ b → cond (nat_lt i j) (i ∷ j ∷ x ∷ xs) (j ∷ cond b (i ∷ x ∷ xs) (x ∷ with_number i xs)) ≡ with_number j (cond b (i ∷ x ∷ xs) (x ∷ with_number i xs))) [
            | true ↦ λ f. rw e (both i j (x ∷ xs))
            | false ↦ λ f. let more : nat_lt i j ≡ false = grind arith in rw (more, e) refl
          ] refl
      | false ↦ λ e.
          elim (nat_lt i x) as (λ b. nat_lt i x ≡ b → cond b (i ∷ x ∷ with_number j xs) (x ∷ with_number i (with_number j xs)) ≡ with_number j (cond b (i ∷ x ∷ xs) (x ∷ with_number i xs))) [
            | true ↦ λ f. let more : nat_lt j i ≡ false = grind arith in rw (more, e) refl
            | false ↦ λ f. rw e (ap (λ (ys : List ℕ). x ∷ ys) (with_number_comm i j xs))
          ] refl
    ] refl

-- an element of the chunk with this ordinal becomes idle
abbrev idle_at : ℕ → ℕ → List Chunk → List Chunk
idle_at k i chunks = slice_set chunks k (record (chunk_at chunks k) { idle = with_number i (chunk_at chunks k).idle })

idle_at_comm : (k i m j : ℕ) (chunks : List Chunk) → idle_at k i (idle_at m j chunks) ≡ idle_at m j (idle_at k i chunks)
idle_at_comm k i m j [] = refl
idle_at_comm zero i zero j (c ∷ chunks) = ap (λ xs. record c { idle = xs } ∷ chunks) (with_number_comm i j c.idle)
idle_at_comm zero i (suc m) j (c ∷ chunks) = refl
idle_at_comm (suc k) i zero j (c ∷ chunks) = refl
idle_at_comm (suc k) i (suc m) j (c ∷ chunks) = ap (λ (cs : List Chunk). c ∷ cs) (idle_at_comm k i m j chunks)

-- the last of blocks may become idle first
pub all_idle-push : (blocks : List Block) (block : Block) (chunks : List Chunk) → all_idle (blocks ++ block ∷ []) chunks ≡ all_idle blocks (with_idle block chunks)
all_idle-push [] block chunks = refl
all_idle-push (b ∷ blocks) block chunks =
    all_idle-push blocks block (with_idle b chunks) ∙ ap (all_idle blocks) (idle_at_comm block.chunk block.index b.chunk b.index chunks)

-- ---- blocks that are out

-- one block that is out
pub record IsOut (p : ZoneParams) (chunks : List Chunk) (block : Block) : Type 0 where
  pub mapped : (chunk_at chunks block.chunk).mapped ≡ true
  pub within : block.index < p.count
  pub out : times_idle block.index (chunk_at chunks block.chunk).idle ≡ 0

pub is_out : (p : ZoneParams) (chunks : List Chunk) (block : Block) (all rest : List Block) → times block all ≡ one_if (is_block block block) + times block rest → AreOut p chunks all → IsOut p chunks block
is_out p chunks block all rest one h =
    let f = by_tests (chunk_at chunks block.chunk).mapped (nat_lt block.index p.count) (times block all) (times_idle block.index (chunk_at chunks block.chunk).idle) (omega (arith, one, ap one_if (same_block block))) (h block) in
    record { mapped = f.0; within = below block.index p.count f.1; out = f.2 }
  where
    below : (a b : ℕ) → nat_lt a b ≡ true → a < b
    below a b h = grind arith

    by_tests : (m l : Bool) (n i : ℕ) → 1 ≤ n → n + i ≤ one_if (m && l) → (m ≡ true) × (l ≡ true) × (i ≡ 0)
    by_tests true true n i some h = (refl, refl, omega arith)
    by_tests true false n i some h = absurd (omega arith)
    by_tests false l n i some h = absurd (omega arith)

-- the others, once one is idle
pub others_out : (p : ZoneParams) (chunks : List Chunk) (block : Block) (all rest : List Block) → ((b : Block) → times b all ≡ one_if (is_block b block) + times b rest) → AreOut p chunks all → AreOut p (with_idle block chunks) rest
others_out p chunks block all rest one h b =
    let out : IsOut p chunks block = is_out p chunks block all rest (one block) h in
    let chunk = chunk_at chunks block.chunk in
    let c : Chunk = record chunk { idle = with_number block.index chunk.idle } in
    subst (λ (d : Chunk). times b rest + times_idle b.index d.idle ≤ one_if (d.mapped && nat_lt b.index p.count)) (sym (chunk-set chunks block.chunk b.chunk c (mapped_within chunks block.chunk out.mapped)))
    (elim (b.chunk == block.chunk) as (λ t. (b.chunk == block.chunk) ≡ t → times b rest + times_idle b.index (if t then c else chunk_at chunks b.chunk).idle ≤ one_if ((if t then c else chunk_at chunks b.chunk).mapped && nat_lt b.index p.count)) [
      | true ↦ λ e.
          let same : chunk_at chunks b.chunk ≡ chunk = (let k : b.chunk ≡ block.chunk = grind arith in ap (chunk_at chunks) k) in
          omega (
            arith,
            h b,
            one b,
            ap (λ t. one_if (t && (b.index == block.index))) e,
            times_idle-with_number b.index block.index chunk.idle,
            ap (λ (d : Chunk). times_idle b.index d.idle) same,
            ap (λ (d : Chunk). one_if (d.mapped && nat_lt b.index p.count)) same,
          )
      | false ↦ λ e. omega (arith, h b, one b)
    ] refl)

times_end : (block last : Block) (rest : List Block) → times block (rest ++ last ∷ []) ≡ one_if (is_block block last) + times block rest
times_end block last rest = omega (arith, times-append block rest (last ∷ []))

-- ---- blocks that are away from a zone are out

pub out_of_stack : (p : ZoneParams) (s : Shared) (blocks : List Block) → AreAway p s blocks → AreOut p s.chunks blocks
out_of_stack p s blocks h b = omega (arith, h b)

pub out_of_front : (p : ZoneParams) (s : Shared) (n : ℕ) (blocks : List Block) → AreAway p s blocks → AreOut p s.chunks (take n blocks)
out_of_front p s n blocks h b = omega (arith, h b, times-cut b n blocks)

pub out_of_depot : (p : ZoneParams) (s : Shared) → AreAway p s [] → AreOut p s.chunks (row_of s.depot)
out_of_depot p s h b = omega (arith, h b, times-flat b s.depot)

-- ---- a step of a loop

-- the block to put back, and what is left after it
pub record Puts (now next : Chunks) (block : Block) (blocks rest : List Block) : Type 0 where
  pub same : record next { chunks = all_idle rest next.chunks } ≡ record now { chunks = all_idle blocks now.chunks }
  pub out : AreOut next.params next.chunks rest

-- the first of the blocks
pub puts_first : (now next : Chunks) (block : Block) (blocks rest : List Block) → blocks ≡ block ∷ rest → next ≡ record now { chunks = with_idle block now.chunks } → AreOut now.params now.chunks blocks → Puts now next block blocks rest
puts_first now next block blocks rest is made h =
    record {
      same = ap (λ (c : Chunks). record c { chunks = all_idle rest c.chunks }) made ∙ ap (λ bs. record now { chunks = all_idle bs now.chunks }) (sym is);
      out = subst (λ (c : Chunks). AreOut c.params c.chunks rest) (sym made) (others_out now.params now.chunks block (block ∷ rest) rest (λ b. refl) (subst (AreOut now.params now.chunks) is h));
    }

-- the last of the blocks
pub puts_last : (now next : Chunks) (block : Block) (blocks rest : List Block) → blocks ≡ rest ++ block ∷ [] → next ≡ record now { chunks = with_idle block now.chunks } → AreOut now.params now.chunks blocks → Puts now next block blocks rest
puts_last now next block blocks rest is made h =
    record {
      same = ap (λ (c : Chunks). record c { chunks = all_idle rest c.chunks }) made ∙ ap (λ xs. record now { chunks = xs }) (sym (all_idle-push rest block now.chunks)) ∙ ap (λ bs. record now { chunks = all_idle bs now.chunks }) (sym is);
      out = subst (λ (c : Chunks). AreOut c.params c.chunks rest) (sym made) (others_out now.params now.chunks block (rest ++ block ∷ []) rest (λ b. times_end b block rest) (subst (AreOut now.params now.chunks) is h));
    }

pub last_out : (now : Chunks) (block : Block) (blocks rest : List Block) → blocks ≡ rest ++ block ∷ [] → AreOut now.params now.chunks blocks → IsOut now.params now.chunks block
last_out now block blocks rest is h = is_out now.params now.chunks block (rest ++ block ∷ []) rest (times_end block block rest) (subst (AreOut now.params now.chunks) is h)
