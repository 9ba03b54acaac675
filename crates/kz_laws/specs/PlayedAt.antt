-- What holds of a play after each line of its order.
use Rattle.std.specs.Prelude.{◌≡◌, ℕ, ◌+◌, ◌*◌, ◌<◌, ◌≤◌, List, [], length, map, slice_index, slice_index_or, Some}
use Rattle.std.specs.List.{All, fold}
use Rattle.kz_model.specs.declared.bundle.Bundle.{Bundle}
use Rattle.kz_model.specs.declared.bundle.OrderLine.{OrderLine}
use Rattle.kz_model.specs.declared.step.Step.{Step}
use Rattle.kz_model.specs.declared.step.Reply.{Reply}
use Rattle.kz_model.specs.declared.step.Reply.TheVariants as reply
use Rattle.kz_model.specs.declared.record.Plan.{Plan}
use Rattle.kz_model.specs.declared.supply.SupplyEntry.{SupplyEntry}
use Rattle.kz_model.specs.Zone.State.{opening}
use Rattle.kz_model.specs.Zone.Alone.{Course, course}
use Rattle.kz_laws.specs.Amounts.{mapped_count, pages_held, stock_of, lines_done, zone_lines_done, zone_allocations_done, zone_gifts_done}
use Rattle.kz_model.specs.Run.Journal.{carried_of}
use Rattle.kz_model.specs.Run.Rooms.{sum_below, zone_lines}
use Rattle.kz_model.specs.Run.Supply.{granted_in, returned_in}
use Rattle.kz_model.specs.Run.Journal.{params_of, addressed, trace_of, spell, log_at, answers_at}
use Rattle.kz_model.specs.Zone.Late.{IsDelayed}
use Rattle.kz_model.specs.Run.Order.{Progress, opening_progress, late, order_step}
use Rattle.kz_laws.specs.Play.{ZonePlay, Play, zone_play, replies_so_far, line_to_play}
use Rattle.kz_model.specs.Run.Journal.{bases}
use Rattle.kz_model.specs.Run.Supply.{supply_answers}
use Rattle.kz_model.specs.Run.Journal.{no_step}
use Rattle.kz_model.specs.Zone.Whole.{IsWhole}

-- the order's run after these lines
abbrev pub order_so_far : Bundle → Plan → List OrderLine → Progress
order_so_far b plan lines = fold (order_step b plan) (opening_progress b plan) lines

-- A zone beside its journal: with the answers of the log, its visits end where the zone is, but for the late steps, and
-- none of these needs a visit.
pub record IsBehind (b : Bundle) (plan : Plan) (lines : List OrderLine) (s : Play) (zone : ℕ)
    (z : ZonePlay) : Type 0 where
  pub steps : List (ℕ × Step)
  pub made : Course
  pub spelled : spell b plan (map (λ z. z.visits) s.zones) zone ≡ Some steps
  pub made_is : course (params_of b plan zone) (opening (params_of b plan zone)) steps (answers_at zone s.log)
      ≡ Some made
  pub used : made.left ≡ []
  pub state : IsDelayed (params_of b plan zone) z.state made.end
      (λ cpu. late b plan (order_so_far b plan lines) cpu zone)
  pub counted : (cpu : ℕ) → cpu < b.cpus → slice_index z.late cpu
      ≡ length (late b plan (order_so_far b plan lines) cpu zone)

-- A zone is whole, and its amounts keep to the lines that are done on it.
pub record IsZonePlayed (b : Bundle) (plan : Plan) (s : Play) (zone : ℕ) (z : ZonePlay) : Type 0 where
  pub cpus : length z.late ≡ b.cpus
  pub own : length z.state.own ≡ b.cpus
  pub whole : IsWhole (params_of b plan zone) z.state
  -- its mapped chunks have the pages that it was granted and did not give back
  pub pages : (params_of b plan zone).pages * mapped_count z.state.shared.chunks + returned_in (log_at zone s.log)
      ≡ granted_in (log_at zone s.log)
  -- each chunk has its first page in the log
  pub bases : length (bases zone s.log) ≡ length z.state.shared.chunks
  -- only a line that allocates brings a chunk
  pub chunks : length z.state.shared.chunks ≤ zone_allocations_done b plan s zone
  -- it has a new chunk only while all its chunks are mapped, so never more than the frames can fill
  pub framed : (params_of b plan zone).pages * length z.state.shared.chunks ≤ b.frames
  pub entries : length (log_at zone s.log)
      + mapped_count z.state.shared.chunks ≤ 2 * zone_allocations_done b plan s zone
  pub gifts : length z.state.shared.transit ≤ zone_gifts_done b plan s zone
  -- each visit, and each step that is late, is for a line of its own
  pub visits : length z.visits + sum_below (slice_index z.late) b.cpus ≤ zone_lines_done b plan s zone
  pub carried : (cpu : ℕ) → cpu < b.cpus → carried_of cpu z.visits + slice_index z.late cpu
      ≡ lines_done b plan s zone cpu
  pub lines : zone_lines_done b plan s zone ≤ zone_lines b plan zone

-- The stock after a log of the supply's answers: what it answers next.
pub record IsSupplied (b : Bundle) (plan : Plan) (log : List SupplyEntry) : Type 0 where
  pub of_zones : All (λ entry. entry.zone < length plan.zones) log
  pub answers : map (λ entry. entry.answer) log ≡ supply_answers b.frames b.pages (map (λ entry. entry.ask) log)
  pub cursors : length (stock_of b log).cursors ≡ 5
  pub within : All (λ cursor. cursor ≤ b.pages) (stock_of b log).cursors

-- no block, or one of so many chunks
abbrev pub IsReplyWithin : ℕ → Reply → Type 0
IsReplyWithin chunks (reply.Block block) = block.chunk < chunks
IsReplyWithin chunks other = Unit {0}

-- how many chunks a zone has
abbrev pub chunks_there : Play → ℕ → ℕ
chunks_there s zone = length (zone_play s zone).state.shared.chunks

-- the zone of a CPU's line by its place in the trace
abbrev pub zone_of_line : Bundle → Plan → ℕ → ℕ → ℕ
zone_of_line b plan cpu k = (addressed b plan (slice_index_or (trace_of b cpu) k no_step).act).0

-- A play's zones are sound, and each frame is free or in a mapped chunk.
pub record IsPlaySound (b : Bundle) (plan : Plan) (s : Play) : Type 0 where
  pub zones : length s.zones ≡ length plan.zones
  pub cpus : length s.replies ≡ b.cpus
  pub each : (zone : ℕ) → zone < length plan.zones → IsZonePlayed b plan s zone (zone_play s zone)
  pub supplied : IsSupplied b plan s.log
  pub frames : (stock_of b s.log).free + sum_below (pages_held b plan s) (length plan.zones) ≡ b.frames
  -- a block that was handed out is of a chunk of its zone
  pub blocks : (cpu k : ℕ) → cpu < b.cpus → k < length (replies_so_far s cpu) →
      IsReplyWithin (chunks_there s (zone_of_line b plan cpu k)) (slice_index_or (replies_so_far s cpu) k reply.Done)

-- The play after these lines of the order.
pub record IsPlayedAt (b : Bundle) (plan : Plan) (lines : List OrderLine) (s : Play) : Type 0 where
  pub round : s.round < b.rounds
  pub sound : IsPlaySound b plan s
  pub behind : (zone : ℕ) → zone < length plan.zones → IsBehind b plan lines s zone (zone_play s zone)

-- A CPU that has the next turn has a line left in the round, on a zone of the plan.
pub record HasTurn (b : Bundle) (plan : Plan) (s : Play) (cpu : ℕ) : Type 0 where
  pub is_cpu : cpu < b.cpus
  pub some : length (replies_so_far s cpu) < length (trace_of b cpu)
  pub in_round : (line_to_play b s cpu).round ≡ s.round
  pub in_zones : (addressed b plan (line_to_play b s cpu).act).0 < length plan.zones
  pub more : let zone = (addressed b plan (line_to_play b s cpu).act).0 in
      zone_lines_done b plan s zone < zone_lines b plan zone
