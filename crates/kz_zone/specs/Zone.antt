-- A zone as contracts see it, and the shared state that it stands for.
use Rattle.std.specs.Prelude.{◌≡◌, ℕ, ◌+◌, ◌<◌, ◌≤◌, nat_lt, ◌==◌, if◌then◌else◌, List, length, Option, is_some, All}
use Rattle.rand_pcg.specs.Lcg.{Lcg}
use Rattle.kz_model.specs.declared.step.Block.{Block}
use Rattle.kz_model.specs.declared.record.ZoneParams.{ZoneParams}
use Rattle.kz_model.specs.Zone.Words.{words_after}
use Rattle.kz_model.specs.Zone.State.{Chunk, Gift, Shared, chunk_at}
use Rattle.kz_model.specs.Zone.Pick.{unmapped_place}
use Rattle.kz_model.specs.Zone.Rules.{must_grow}
use Rattle.kz_model.specs.Zone.Whole.{IsChunk}
use Rattle.kz_queue.specs.declared.place.Place.{Place}
use Rattle.kz_queue.specs.declared.place.Place.TheVariants.{Part, Whole, Out, Gone}
use Rattle.kz_supply.specs.declared.pages.Want.{Want}
use Rattle.kz_supply.specs.declared.pages.Want.TheVariants as want
use Rattle.kz_zone.specs.Room.{AreFitParams}

-- a zone by its parameters, for how many chunks and gifts it has room, its chunks with their first pages, depot and
-- transit, and the words that it has not drawn yet
pub record Zone : Type 0 where
  pub params : ZoneParams
  pub most_chunks : ℕ
  pub most_gifts : ℕ
  pub chunks : List Chunk
  pub bases : List ℕ
  pub depot : List (List Block)
  pub transit : List Gift
  pub words : Option Lcg

-- The zone stands for this state: it has the same, and its words are those of its stream after the state's draws.
pub record StandsFor (z : Zone) (s : Shared) : Type 0 where
  pub chunks : s.chunks ≡ z.chunks
  pub depot : s.depot ≡ z.depot
  pub transit : s.transit ≡ z.transit
  pub words : z.words ≡ words_after z.params.seed (2 + z.params.zone) s.drawn

-- the zone's state as if nothing was drawn, for what does not read the draws
abbrev pub shared_of : Zone → Shared
shared_of z = record { chunks = z.chunks; depot = z.depot; transit = z.transit; drawn = 0 }

-- what a call leaves as it is
pub record IsSame (old new : Zone) : Type 0 where
  pub params : new.params ≡ old.params
  pub most_chunks : new.most_chunks ≡ old.most_chunks
  pub most_gifts : new.most_gifts ≡ old.most_gifts

-- what a call that neither grows nor trims leaves too
pub record IsSettled (old new : Zone) : Type 0 where
  pub same : IsSame old new
  pub count : length new.chunks ≡ length old.chunks
  pub bases : new.bases ≡ old.bases

-- where a chunk stands
abbrev pub place_of : ℕ → Chunk → Place
place_of count chunk =
    if chunk.mapped then (if length chunk.idle == count then Whole else if nat_lt 0 (length chunk.idle) then Part
    else Out) else Gone

-- the grant that filling an empty stack will ask for
abbrev pub want_of : Zone → Want
want_of z =
    if must_grow (shared_of z) then (if is_some (unmapped_place z.chunks) then want.Frames else want.Chunk)
    else want.Nothing

-- a block that the zone has
pub record IsBlock (z : Zone) (block : Block) : Type 0 where
  pub chunk : block.chunk < length z.chunks
  pub index : block.index < z.params.count

-- What each zone keeps.
pub record IsSoundZone (z : Zone) : Type 0 where
  pub fit : AreFitParams z.params
  pub chunks : (ordinal : ℕ) → IsChunk z.params (chunk_at z.chunks ordinal)
  pub few : length z.chunks ≤ z.most_chunks
  pub bases : length z.bases ≡ length z.chunks
  pub depot : length z.depot ≤ z.params.depot
  pub lists : All (λ blocks. length blocks ≡ z.params.magazine) z.depot
  pub gifts : length z.transit ≤ z.most_gifts
