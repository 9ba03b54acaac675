-- What the chunks of a zone grow by, and what they ask for.
use Rattle.std.specs.Prelude.{◌≡◌, if◌then◌else◌, List, [], ◌∷◌}
use Rattle.std.specs.Option.{is_some}
use Rattle.kz_model.specs.declared.record.ZoneParams.{ZoneParams}
use Rattle.kz_model.specs.declared.supply.Ask.{Ask}
use Rattle.kz_model.specs.Zone.State.{Chunk, Shared, nothing_shared}
use Rattle.kz_model.specs.Zone.Pick.{ask_to_grow, grown, has_idle, unmapped_place}
use Rattle.kz_supply.specs.declared.pages.Want.{Want}
use Rattle.kz_supply.specs.declared.pages.Want.TheVariants as want
use Rattle.kz_zone.specs.Chunks.{Chunks}

-- a state with these chunks and nothing else, for what reads the chunks alone
abbrev pub with_chunks : List Chunk → Shared
with_chunks chunks = record nothing_shared { chunks = chunks }

-- the chunks after the zone has grown
abbrev pub grown_chunks : ZoneParams → List Chunk → List Chunk
grown_chunks p chunks = (grown p (with_chunks chunks)).chunks

-- the chunks from which a stack is filled: they grow where no element is idle
abbrev pub readied_chunks : ZoneParams → List Chunk → List Chunk
readied_chunks p chunks = if has_idle (with_chunks chunks) then chunks else grown_chunks p chunks

-- what is asked for that
abbrev pub asks_for : ZoneParams → List Chunk → List Ask
asks_for p chunks = if has_idle (with_chunks chunks) then [] else ask_to_grow p (with_chunks chunks) ∷ []

-- the grant that is wanted for it
abbrev pub growth_want : List Chunk → Want
growth_want chunks = if is_some (unmapped_place chunks) then want.Frames else want.Chunk

abbrev pub want_for : List Chunk → Want
want_for chunks = if has_idle (with_chunks chunks) then want.Nothing else growth_want chunks

-- what growing leaves as it is
pub record Stays (old new : Chunks) : Type 0 where
  pub params : new.params ≡ old.params
  pub most : new.most ≡ old.most
