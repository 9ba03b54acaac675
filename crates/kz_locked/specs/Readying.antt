-- What is made ready before a visit, and what is handed to the supply after it.
use Rattle.std.specs.Prelude.{◌≡◌, ℕ, ◌+◌, ◌*◌, ◌≤◌, List, length, replicate, Result, IfOk}
use Rattle.std.specs.Option.{option_to_list}
use Rattle.kz_model.specs.declared.supply.Ask.TheVariants.{Back}
use Rattle.kz_model.specs.declared.supply.Answer.TheVariants.{Taken}
use Rattle.kz_model.specs.declared.supply.SupplyEntry.{SupplyEntry}
use Rattle.kz_supply.specs.declared.pages.Denied.{Denied}
use Rattle.kz_supply.specs.declared.pages.Grant.{Grant}
use Rattle.kz_supply.specs.declared.pages.Want.{Want}
use Rattle.kz_supply.specs.declared.pages.Want.TheVariants as want
use Rattle.kz_supply.specs.Exchange.{Exchange}
use Rattle.kz_supply.specs.Ready.{Ready, ReadyAnswer, NoAnswer, ForChunk, ForFrames, exchange_ready}
use Rattle.kz_locked.specs.declared.supply.Share.{Share}
use Rattle.kz_locked.specs.declared.supply.SupplyStart.{SupplyStart}
use Rattle.kz_locked.specs.Shares.{frames_held}

-- the answer that is ready with its ask, or nothing
abbrev pub exchanges_ready : Ready → List Exchange
exchanges_ready r = option_to_list (exchange_ready r.params r.ready)

-- The answer to what is wanted was made ready, and nothing else changed.
abbrev pub IsReadyFor : Want → Ready → Ready → Type 0
IsReadyFor want.Nothing old new = new ≡ old
IsReadyFor want.Chunk old new = (answer : Result Grant Denied) × (new ≡ record old { ready = ForChunk answer })
IsReadyFor want.Frames old new = (answer : Result (List (List ℕ)) Denied) × (new ≡ record old { ready = ForFrames answer })

-- Where so many pages are granted to a zone with these entries, it has no more frames out than there are, and a chunk
-- lies in its submap.
abbrev pub IsWithinSupply : SupplyStart → List SupplyEntry → ℕ → ReadyAnswer → Type 0
IsWithinSupply start own pages NoAnswer = Unit {0}
IsWithinSupply start own pages (ForChunk answer) =
    IfOk answer (λ grant. (frames_held own + pages ≤ start.frames) × (grant.page + pages ≤ start.pages))
IsWithinSupply start own pages (ForFrames answer) = IfOk answer (λ frames. frames_held own + pages ≤ start.frames)

-- so many give-backs of a zone, of so many pages each
abbrev pub backs_of : ℕ → ℕ → ℕ → List SupplyEntry
backs_of zone pages count = replicate count (record { zone = zone; ask = Back pages; answer = Taken })

-- so many more give-backs of the zone, of so many pages each
pub record MayGiveBackAll (share : Share) (own : List SupplyEntry) (pages count : ℕ) : Type 0 where
  pub entries : length own + count ≤ share.entries
  pub frames : pages * count ≤ frames_held own
