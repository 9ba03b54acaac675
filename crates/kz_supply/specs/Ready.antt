-- Answers that were got before they are asked for.
use Rattle.std.specs.Prelude.{◌≡◌, ℕ, ◌+◌, ◌<◌, ◌≤◌, Bool, true, false, not, List, length, All, Option, Some, None, Result, Ok, Err}
use Rattle.std.specs.List.{filter, find, list_any}
use Rattle.std.specs.Option.{option_or}
use Rattle.std.specs.Result.{ForOk}
use Rattle.kz_model.specs.declared.record.ZoneParams.{ZoneParams}
use Rattle.kz_model.specs.declared.supply.Ask.{Ask}
use Rattle.kz_model.specs.declared.supply.Ask.TheVariants.{Back}
use Rattle.kz_frame.specs.Frames.{zero_frames}
use Rattle.kz_supply.specs.declared.pages.Denied.{Denied}
use Rattle.kz_supply.specs.declared.pages.Grant.{Grant}
use Rattle.kz_supply.specs.declared.pages.Denied.TheVariants.{NoFrames}
use Rattle.kz_supply.specs.declared.ready.Readied.{Readied}
use Rattle.kz_supply.specs.declared.ready.ReadyBase.{ReadyBase}
use Rattle.kz_supply.specs.declared.ready.Readied.TheVariants as readied
use Rattle.kz_supply.specs.Exchange.{Exchange, ask_for_chunk, ask_for_frames, chunk_answer, frames_answer}

-- the answer that is ready, with the ask that it is for
pub data ReadyAnswer : Type 0 where
  NoAnswer : ReadyAnswer
  ForChunk : Result Grant Denied → ReadyAnswer
  ForFrames : Result (List (List ℕ)) Denied → ReadyAnswer

abbrev pub ready_of : Readied → ReadyAnswer
ready_of readied.Nothing = NoAnswer
ready_of (readied.Chunk answer) = ForChunk answer
ready_of (readied.Frames answer) = ForFrames answer

-- the zone's parameters, for how many chunks there is room, the answer that is ready, the exchanges since the start,
-- how many of the packs given back were handed out, and the packs left to hand out, the oldest first
pub record Ready : Type 0 where
  pub params : ZoneParams
  pub chunks : ℕ
  pub ready : ReadyAnswer
  pub exchanges : List Exchange
  pub handed : ℕ
  pub waiting : List (List (List ℕ))

abbrev pub is_back : Ask → Bool
is_back (Back pages) = true
is_back ask = false

-- an exchange whose ask is no back
abbrev pub is_grant : Exchange → Bool
is_grant e = not (is_back e.0)

abbrev pub backs_in : List Exchange → ℕ
backs_in exchanges = length (filter (λ e. is_back e.0) exchanges)

-- an ask that is no back was made
abbrev pub has_asked : List Exchange → Bool
has_asked exchanges = list_any is_grant exchanges

abbrev pub is_chunk_ready : ReadyAnswer → Bool
is_chunk_ready (ForChunk answer) = true
is_chunk_ready NoAnswer = false
is_chunk_ready (ForFrames answer) = false

abbrev pub is_frames_ready : ReadyAnswer → Bool
is_frames_ready (ForFrames answer) = true
is_frames_ready NoAnswer = false
is_frames_ready (ForChunk answer) = false

-- how many answers are ready
abbrev pub answers_ready : ReadyAnswer → ℕ
answers_ready NoAnswer = 0
answers_ready (ForChunk answer) = 1
answers_ready (ForFrames answer) = 1

-- how many chunks the ready answer grants
abbrev pub grants_ready : ReadyAnswer → ℕ
grants_ready (ForChunk (Ok grant)) = 1
grants_ready (ForChunk (Err refused)) = 0
grants_ready NoAnswer = 0
grants_ready (ForFrames answer) = 0

-- the ready answer with the ask that it is for
abbrev pub exchange_ready : ZoneParams → ReadyAnswer → Option Exchange
exchange_ready p NoAnswer = None
exchange_ready p (ForChunk answer) = Some (ask_for_chunk p, chunk_answer answer)
exchange_ready p (ForFrames answer) = Some (ask_for_frames p, frames_answer answer)

-- the exchange whose answer was got before: the one that is ready, else the one that was asked for since the start
abbrev pub got : Ready → Option Exchange
got r = option_or (exchange_ready r.params r.ready) (find is_grant r.exchanges)

abbrev pub base_of : Ready → ReadyBase
base_of r = record { chunks = r.chunks; handed = r.handed; got = got r }

-- the ready answer can be given to a zone of chunks of so many pages
abbrev pub FitsReady : ℕ → ReadyAnswer → Type 0
FitsReady pages NoAnswer = Unit {0}
FitsReady pages (ForChunk answer) = ForOk answer (λ grant. grant.frames ≡ zero_frames pages)
FitsReady pages (ForFrames (Ok frames)) = frames ≡ zero_frames pages
FitsReady pages (ForFrames (Err refused)) = (free : ℕ) × (refused ≡ NoFrames free)

-- One answer at most is got before. There is room for the backs, and those that were not handed out wait, each of the
-- pages of a chunk.
pub record IsGot (params : ZoneParams) (chunks : ℕ) (ready : ReadyAnswer) (exchanges : List Exchange)
    (waiting : List (List (List ℕ))) (most_exchanges most_packs : ℕ) : Type 0 where
  pub once : length exchanges + answers_ready ready ≤ backs_in exchanges + 1
  pub backs : backs_in exchanges ≤ chunks
  pub left : length waiting ≤ backs_in exchanges
  pub packs : All (λ pack. length pack ≡ params.pages) waiting
  pub fits : FitsReady params.pages ready
  pub room : chunks < most_exchanges
  pub places : chunks ≤ most_packs
