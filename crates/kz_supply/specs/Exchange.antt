-- A zone's asks of the supply, each with its answer.
use Rattle.std.specs.Prelude.{ℕ, List, map, Result, Ok, Err}
use Rattle.kz_model.specs.declared.record.ZoneParams.{ZoneParams}
use Rattle.kz_model.specs.declared.step.Reply.{Reply}
use Rattle.kz_model.specs.declared.step.Reply.TheVariants as reply
use Rattle.kz_model.specs.declared.supply.Ask.{Ask}
use Rattle.kz_model.specs.declared.supply.Ask.TheVariants.{Chunk, Frames}
use Rattle.kz_model.specs.declared.supply.Answer.{Answer}
use Rattle.kz_model.specs.declared.supply.Answer.TheVariants as answer
use Rattle.kz_model.specs.declared.supply.SupplyEntry.{SupplyEntry}
use Rattle.kz_model.specs.Run.Journal.{log_at}
use Rattle.kz_supply.specs.declared.pages.Denied.{Denied}
use Rattle.kz_supply.specs.declared.pages.Denied.TheVariants as denied
use Rattle.kz_supply.specs.declared.pages.Grant.{Grant}

-- an ask with its answer
abbrev pub Exchange : Type 0
Exchange = Ask × Answer

abbrev pub ask_of : Exchange → Ask
ask_of exchange = exchange.0

abbrev pub answer_of : Exchange → Answer
answer_of exchange = exchange.1

-- what a zone asks for a new chunk, and for the frames of one that it has
abbrev pub ask_for_chunk : ZoneParams → Ask
ask_for_chunk p = Chunk p.submap p.pages

abbrev pub ask_for_frames : ZoneParams → Ask
ask_for_frames p = Frames p.pages

-- a refusal as an answer, and as a reply
abbrev pub denial : Denied → Answer
denial (denied.NoSpace left) = answer.NoSpace left
denial (denied.NoFrames free) = answer.NoFrames free

abbrev pub denied_reply : Denied → Reply
denied_reply (denied.NoSpace left) = reply.NoSpace left
denied_reply (denied.NoFrames free) = reply.NoFrames free

-- what a call gives, as an answer
abbrev pub chunk_answer : Result Grant Denied → Answer
chunk_answer (Ok grant) = answer.Base grant.page
chunk_answer (Err refused) = denial refused

abbrev pub frames_answer : Result (List (List ℕ)) Denied → Answer
frames_answer (Ok frames) = answer.Given
frames_answer (Err refused) = denial refused

-- a zone's entries of a log, as exchanges
abbrev pub exchange : SupplyEntry → Exchange
exchange entry = (entry.ask, entry.answer)

abbrev pub exchanges_at : ℕ → List SupplyEntry → List Exchange
exchanges_at zone log = map exchange (log_at zone log)

-- exchanges as a zone's entries
abbrev pub entries_of : ℕ → List Exchange → List SupplyEntry
entries_of zone exchanges = map (λ e. record { zone = zone; ask = e.0; answer = e.1 }) exchanges
