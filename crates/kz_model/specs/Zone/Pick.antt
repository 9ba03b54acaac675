-- Which element a zone hands out, and how it grows.
use Rattle.std.specs.Prelude.{ℕ, zero, suc, ◌++◌, ◌+◌, ◌-◌, ◌*◌, ◌%◌, Bool, true, ◌&&◌, not, nat_lt, ◌==◌, if◌then◌else◌, List, [], ◌∷◌, length, replicate, slice_set, Option, None, Some, is_some}
use Rattle.std.specs.List.{filter, list_any, position, range_with_len}
use Rattle.std.specs.Option.{option_map_or}
use Rattle.kz_model.specs.declared.step.Block.{Block}
use Rattle.kz_model.specs.declared.record.ZoneParams.{ZoneParams}
use Rattle.kz_model.specs.declared.supply.Ask.{Ask}
use Rattle.kz_model.specs.declared.supply.Ask.TheVariants.{Chunk as AskChunk, Frames}
use Rattle.kz_model.specs.Zone.Words.{word}
use Rattle.kz_model.specs.Zone.State.{Chunk, Shared, chunk_at}

-- the first of two choices, if there is one, else the second
abbrev pub first_of_two : Option ℕ → Option ℕ → Option ℕ
first_of_two None other = other
first_of_two (Some place) other = Some place

-- some elements are idle, and not all
abbrev pub is_part : ℕ → Chunk → Bool
is_part count chunk = chunk.mapped && nat_lt 0 (length chunk.idle) && nat_lt (length chunk.idle) count

-- all elements are idle
abbrev pub is_whole : ℕ → Chunk → Bool
is_whole count chunk = chunk.mapped && (length chunk.idle == count)

-- the chunk to pick from: the first that is idle in part, else the first that is wholly idle
abbrev pub chunk_to_pick : ℕ → List Chunk → Option ℕ
chunk_to_pick count chunks = first_of_two (position (is_part count) chunks) (position (is_whole count) chunks)

-- how far element i stands at or after the element start, cyclically
abbrev pub distance : ℕ → ℕ → ℕ → ℕ
distance count start i = (i + count - start) % count

-- of this element and the others, the one at the least distance
abbrev pub nearest : ℕ → ℕ → ℕ → List ℕ → ℕ
nearest count start i [] = i
nearest count start i (j ∷ others) =
    nearest count start (if nat_lt (distance count start j) (distance count start i) then j else i) others

-- the idle element at the least distance
abbrev pub element_to_pick : ℕ → ℕ → List ℕ → ℕ
element_to_pick count start [] = 0
element_to_pick count start (i ∷ idle) = nearest count start i idle

-- the chunk with this element no longer idle
abbrev pub without_idle : ℕ → Chunk → Chunk
without_idle i chunk = record chunk { idle = filter (λ j. not (j == i)) chunk.idle }

-- the block that is picked from this chunk
abbrev pub block_picked : ZoneParams → Shared → ℕ → Block
block_picked p s ordinal =
    record {
      chunk = ordinal;
      index =
          element_to_pick p.count (word p.seed (2 + p.zone) s.drawn % p.count) (chunk_at s.chunks ordinal).idle;
    }

-- what is left after this block is picked
abbrev pub after_pick : Shared → Block → Shared
after_pick s block =
    record s {
      chunks = slice_set s.chunks block.chunk (without_idle block.index (chunk_at s.chunks block.chunk));
      drawn = s.drawn + 1;
    }

-- a pick: the block, and what is left; none where no element is idle
abbrev pub pick : ZoneParams → Shared → Option (Block × Shared)
pick p s =
    option_map_or (λ ordinal. Some (block_picked p s ordinal, after_pick s (block_picked p s ordinal)))
    (chunk_to_pick p.count s.chunks) None

-- up to so many picks, in the order picked, ending early where no element is idle
abbrev pub picks : ZoneParams → ℕ → Shared → List Block × Shared
picks p zero s = ([], s)
picks p (suc n) s =
    option_map_or (λ picked. let rest = picks p n picked.1 in (picked.0 ∷ rest.0, rest.1)) (pick p s) ([], s)

-- a chunk that is mapped, new or again
abbrev pub fresh_chunk : ZoneParams → Chunk
fresh_chunk p = record { mapped = true; idle = range_with_len 0 p.count; bytes = replicate (p.count * p.element) 0 }

-- the first unmapped chunk
abbrev pub unmapped_place : List Chunk → Option ℕ
unmapped_place chunks = position (λ chunk. not chunk.mapped) chunks

-- what the zone asks for to grow
abbrev pub ask_to_grow : ZoneParams → Shared → Ask
ask_to_grow p s =
    if is_some (unmapped_place s.chunks) then Frames p.pages else AskChunk p.submap p.pages

-- the chunks after the zone has grown
abbrev pub grown : ZoneParams → Shared → Shared
grown p s =
    record s {
      chunks = option_map_or (λ ordinal. slice_set s.chunks ordinal (fresh_chunk p)) (unmapped_place s.chunks)
          (s.chunks ++ fresh_chunk p ∷ []);
    }

-- some element is idle
abbrev pub has_idle : Shared → Bool
has_idle s = list_any (λ chunk. nat_lt 0 (length chunk.idle)) s.chunks
