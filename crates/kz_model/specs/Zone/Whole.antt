-- Each element of a zone is in one place.
use Rattle.std.specs.Prelude.{◌≡◌, ℕ, ◌+◌, ◌*◌, ◌<◌, ◌≤◌, Bool, true, false, ◌&&◌, nat_lt, ◌==◌, if◌then◌else◌, List, [], ◌∷◌, length}
use Rattle.std.specs.List.{All}
use Rattle.kz_model.specs.declared.step.Block.{Block}
use Rattle.kz_model.specs.declared.step.Bound.{Bound}
use Rattle.kz_model.specs.declared.record.ZoneParams.{ZoneParams}
use Rattle.kz_model.specs.Zone.State.{Chunk, Gift, Shared, CpuPart, ZoneState, no_chunk, chunk_at}

abbrev pub is_block : Block → Block → Bool
is_block a b = (a.chunk == b.chunk) && (a.index == b.index)

abbrev pub one_if : Bool → ℕ
one_if test = if test then 1 else 0

-- how often a block is in a list
abbrev pub times : Block → List Block → ℕ
times block [] = 0
times block (other ∷ blocks) = one_if (is_block block other) + times block blocks

-- how often a block is in lists
abbrev pub times_in_lists : Block → List (List Block) → ℕ
times_in_lists block [] = 0
times_in_lists block (blocks ∷ lists) = times block blocks + times_in_lists block lists

-- how often an element is idle
abbrev pub times_idle : ℕ → List ℕ → ℕ
times_idle i [] = 0
times_idle i (j ∷ idle) = one_if (i == j) + times_idle i idle

-- how often a block is held under a name of a CPU
abbrev pub times_held : Block → List (ℕ × Bound) → ℕ
times_held block [] = 0
times_held block (entry ∷ names) =
    one_if (entry.1.held && is_block block entry.1.block) + times_held block names

-- how often a block is in transit
abbrev pub times_given : Block → List Gift → ℕ
times_given block [] = 0
times_given block (gift ∷ transit) = one_if (is_block block gift.block) + times_given block transit

-- in how many places a CPU has a block
abbrev pub times_in_part : Block → CpuPart → ℕ
times_in_part block own = times block own.stack + times_held block own.names

-- in how many places CPUs have a block
abbrev pub times_in_parts : Block → List CpuPart → ℕ
times_in_parts block [] = 0
times_in_parts block (own ∷ owns) = times_in_part block own + times_in_parts block owns

-- in how many places a block is that no one CPU has: idle, in the depot, in transit
abbrev pub times_shared : Block → Shared → ℕ
times_shared block s =
    times_idle block.index (chunk_at s.chunks block.chunk).idle + times_in_lists block s.depot
    + times_given block s.transit

-- in how many places a block is
abbrev pub places : ZoneState → Block → ℕ
places state block = times_shared block state.shared + times_in_parts block state.own

-- in how many places a block has to be: an element of a mapped chunk in one, all else in none
abbrev pub due : ZoneParams → List Chunk → Block → ℕ
due p chunks block = one_if ((chunk_at chunks block.chunk).mapped && nat_lt block.index p.count)

-- rising numbers from low on, below high
abbrev pub Rises : ℕ → ℕ → List ℕ → Type 0
Rises low high [] = Unit {0}
Rises low high (i ∷ numbers) = (low ≤ i) × (i < high) × Rises (i + 1) high numbers

-- a chunk and its bytes
pub record IsChunk (p : ZoneParams) (chunk : Chunk) : Type 0 where
  pub rises : Rises 0 p.count chunk.idle
  pub unmapped : chunk.mapped ≡ false → chunk ≡ no_chunk
  pub bytes : chunk.mapped ≡ true → length chunk.bytes ≡ p.count * p.element

-- the names of a CPU are bound to blocks that the zone has
abbrev pub AreWithin : ZoneParams → ℕ → List (ℕ × Bound) → Type 0
AreWithin p chunks [] = Unit {0}
AreWithin p chunks (entry ∷ names) =
    (entry.1.block.chunk < chunks) × (entry.1.block.index < p.count) × AreWithin p chunks names

-- what a CPU has
pub record IsCpuPart (p : ZoneParams) (chunks : ℕ) (own : CpuPart) : Type 0 where
  pub stack : length own.stack ≤ 2 * p.magazine
  pub names : AreWithin p chunks own.names

-- these blocks are elements of mapped chunks that stand nowhere among what is shared, and each stands once
abbrev pub AreAway : ZoneParams → Shared → List Block → Type 0
AreAway p s blocks = (block : Block) → times block blocks + times_shared block s ≤ due p s.chunks block

-- Each element is in the places that are due to it. So a list of blocks has only elements of mapped chunks, each once.
pub record IsWhole (p : ZoneParams) (state : ZoneState) : Type 0 where
  pub chunks : (ordinal : ℕ) → IsChunk p (chunk_at state.shared.chunks ordinal)
  pub places : (block : Block) → places state block ≡ due p state.shared.chunks block
  pub depot : length state.shared.depot ≤ p.depot
  pub lists : All (λ blocks. length blocks ≡ p.magazine) state.shared.depot
  pub cpus : length state.own ≡ p.cpus
  pub own : All (IsCpuPart p (length state.shared.chunks)) state.own

-- how often a block is live: held or in transit
abbrev pub times_held_by : Block → List CpuPart → ℕ
times_held_by block [] = 0
times_held_by block (own ∷ owns) = times_held block own.names + times_held_by block owns

abbrev pub times_live : Block → ZoneState → ℕ
times_live block state = times_held_by block state.own + times_given block state.shared.transit

-- ---- the same in words

-- A zone in order, said bullet by bullet.
pub record IsInOrder (p : ZoneParams) (state : ZoneState) : Type 0 where
  -- an idle list rises, below count
  pub idle : (ordinal : ℕ) → Rises 0 p.count (chunk_at state.shared.chunks ordinal).idle
  -- an unmapped chunk has no idle element and no bytes, a mapped one the bytes of its elements
  pub unmapped_idle : (ordinal : ℕ) → (chunk_at state.shared.chunks ordinal).mapped ≡ false →
      (chunk_at state.shared.chunks ordinal).idle ≡ []
  pub unmapped_bytes : (ordinal : ℕ) → (chunk_at state.shared.chunks ordinal).mapped ≡ false →
      (chunk_at state.shared.chunks ordinal).bytes ≡ []
  pub mapped_bytes : (ordinal : ℕ) → (chunk_at state.shared.chunks ordinal).mapped ≡ true →
      length (chunk_at state.shared.chunks ordinal).bytes ≡ p.count * p.element
  -- each element of a mapped chunk stands in exactly one place and once, and none of an unmapped chunk in any
  pub once : (block : Block) → (chunk_at state.shared.chunks block.chunk).mapped ≡ true → block.index < p.count →
      places state block ≡ 1
  pub none : (block : Block) → (chunk_at state.shared.chunks block.chunk).mapped ≡ false → places state block ≡ 0
  -- a block that stands anywhere, or is bound to a name, is one that the zone has
  pub within : (block : Block) → 0 < places state block → (block.chunk < length state.shared.chunks) ×
      (block.index < p.count)
  pub names : All (λ own. AreWithin p (length state.shared.chunks) own.names) state.own
  -- there is one stack for each CPU, of at most two magazines
  pub cpus : length state.own ≡ p.cpus
  pub stacks : All (λ own. length own.stack ≤ 2 * p.magazine) state.own
  -- the depot has at most its number of lists, each of one magazine
  pub depot : length state.shared.depot ≤ p.depot
  pub lists : All (λ blocks. length blocks ≡ p.magazine) state.shared.depot
