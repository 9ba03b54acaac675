-- What a zone may ask of the supply, and what it makes of the answer.
use Rattle.std.specs.Prelude.{◌≡◌, ℕ, ◌<◌, ◌≤◌, Bool, true, if◌then◌else◌, List, [], ◌∷◌, ◌++◌, length, map, Option, None, Some, Result, Ok, Err, IsTrue, replicate}
use Rattle.std.specs.List.{filter_map}
use Rattle.kz_model.specs.declared.step.Reply.{Reply}
use Rattle.kz_model.specs.declared.supply.Ask.{Ask}
use Rattle.kz_model.specs.declared.supply.Ask.TheVariants.{Back}
use Rattle.kz_model.specs.declared.supply.Answer.TheVariants.{Taken}
use Rattle.kz_model.specs.declared.record.ZoneParams.{ZoneParams}
use Rattle.kz_model.specs.Zone.Pick.{ask_to_grow}
use Rattle.kz_model.specs.Zone.State.{Shared}
use Rattle.kz_model.specs.Zone.Rules.{must_grow, all_answered, denied_by, before_unmapping, count_whole}
use Rattle.kz_model.specs.Run.Journal.{page_of}
use Rattle.kz_supply.specs.declared.pages.Denied.{Denied}
use Rattle.kz_supply.specs.declared.pages.Want.{Want}
use Rattle.kz_supply.specs.declared.pages.Want.TheVariants as want
use Rattle.kz_supply.specs.Exchange.{Exchange, ask_of, answer_of, denied_reply}
use Rattle.kz_supply.specs.Pages.{SupplyView, IsUsed}
use Rattle.kz_zone.specs.Chunks.{Chunks}
use Rattle.kz_zone.specs.Zone.{Zone}

-- the wanted ask can be answered
abbrev pub CanAnswer : Want → Bool → Bool → Type 0
CanAnswer want.Nothing can_chunk can_frames = Unit {0}
CanAnswer want.Chunk can_chunk can_frames = IsTrue can_chunk
CanAnswer want.Frames can_chunk can_frames = IsTrue can_frames

-- where a chunk is wanted and may be granted, there is room for one more
abbrev pub HasPlace : Want → ℕ → ℕ → ℕ → Type 0
HasPlace want.Nothing grants chunks most = Unit {0}
HasPlace want.Chunk grants chunks most = 0 < grants → chunks < most
HasPlace want.Frames grants chunks most = Unit {0}

-- a zone's chunks
abbrev pub chunks_of : Zone → Chunks
chunks_of z = record { params = z.params; most = z.most_chunks; chunks = z.chunks; bases = z.bases }

-- The supply as it is seen can serve this zone: what is wanted can be answered, a chunk that may then be granted has
-- room, and there is room for so many backs.
pub record CanServe {Base : Type 0} (view : SupplyView Base) (chunks : Chunks) (want : Want)
    (most_backs : ℕ) : Type 0 where
  pub params : view.params ≡ chunks.params
  pub answers : CanAnswer want view.can_chunk view.can_frames
  pub place : HasPlace want view.grants (length chunks.chunks) chunks.most
  pub room : most_backs ≤ view.backs

-- the one ask of a zone that has to grow
abbrev pub growth_asks : ZoneParams → Shared → List Ask
growth_asks p s = if must_grow s then ask_to_grow p s ∷ [] else []

abbrev pub denied_of : Result (Unit {0}) Denied → Option Reply
denied_of (Ok u) = None
denied_of (Err denied) = Some (denied_reply denied)

-- These asks were made, and the answer was a refusal exactly where the result is. The first pages of what was granted
-- stand behind the others.
pub record HasAsked {Base : Type 0} (asks : List Ask) (old new : Chunks) (result : Result (Unit {0}) Denied)
    (before after : SupplyView Base) : Type 0 where
  pub exchanges : List Exchange
  pub used : IsUsed before after exchanges (length old.chunks) (length new.chunks)
  pub are : map ask_of exchanges ≡ asks
  pub fit : all_answered (map ask_of exchanges) (map answer_of exchanges) ≡ true
  pub denied : denied_by (map answer_of exchanges) ≡ denied_of result
  pub bases : new.bases ≡ old.bases ++ filter_map page_of (map answer_of exchanges)

-- the exchanges of a trim: one back for each chunk that is wholly idle
abbrev pub trim_exchanges : ZoneParams → Shared → List Exchange
trim_exchanges p s = replicate (count_whole p (before_unmapping s)) (Back p.pages, Taken)
