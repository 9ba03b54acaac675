-- What a machine stands for in the run of a bundle's order.
use Rattle.std.specs.Prelude.{◌≡◌, ℕ, ◌<◌, ◌≤◌, List, length, map, min, slice_index}
use Rattle.std.specs.List.{All}
use Rattle.kz_model.specs.declared.bundle.Bundle.{Bundle}
use Rattle.kz_model.specs.declared.record.Plan.{Plan}
use Rattle.kz_model.specs.declared.step.Step.{Step}
use Rattle.kz_model.specs.declared.supply.SupplyEntry.{SupplyEntry}
use Rattle.kz_laws.specs.Addresses.{IsForZone}
use Rattle.kz_model.specs.Run.Journal.{params_of, zone_of_name, trace_of, addressed, answers_at}
use Rattle.kz_model.specs.Zone.Late.{IsDelayed}
use Rattle.kz_model.specs.Types.Planned.{IsPlanned, IsFitPlan}
use Rattle.kz_laws.specs.Play.{ZonePlay, Play, zone_play, line_to_play}
use Rattle.kz_laws.specs.PlayedAt.{IsPlaySound, HasTurn}
use Rattle.kz_model.specs.Run.Rooms.{lines_on}
use Rattle.kz_book.specs.Book.{Book, History, KeepsHistory}
use Rattle.kz_cpu.specs.Cpu.{Cpu, IsTagged, cache_at, recent_at, binding_at}
use Rattle.kz_cpu.specs.Caught.{IsCaughtUpWith}
use Rattle.kz_machine.specs.RecordRoom.{HasRecordRoom}
use Rattle.kz_machine.specs.Lookups.{cpu_at, book_at}
use Rattle.kz_machine.specs.Machine.{Machine, replies_at}
use Rattle.kz_machine.specs.Needs.{needed_of, needed_rooms, allocations_of, most_entries, frames_needed}

-- A CPU has what it needs for each zone and each name; a name that is bound was bound on its own zone.
pub record IsCpuAt (b : Bundle) (plan : Plan) (cpu : ℕ) (c : Cpu) : Type 0 where
  pub number : c.cpu ≡ cpu
  pub caches : length c.caches ≡ length plan.zones
  pub names : length c.bindings ≡ length b.names
  pub params : (zone : ℕ) → zone < length plan.zones → (cache_at c zone).params ≡ params_of b plan zone
  pub most_steps : (zone : ℕ) → zone < length plan.zones → (cache_at c zone).most_steps ≡ lines_on b plan zone cpu
  pub tags : (name : ℕ) → name < length b.names → IsTagged (zone_of_name b plan name) (binding_at c name)

-- The book of a zone has its visits. It keeps a history with the answers of the log, and the zone is where this ends,
-- but for the steps that each CPU has done there since.
pub record IsZoneAt (b : Bundle) (plan : Plan) (cpus : List Cpu) (log : List SupplyEntry) (zone : ℕ) (book : Book)
    (z : ZonePlay) : Type 0 where
  pub room : book.room ≡ needed_of b plan zone
  pub most_chunks : book.zone.most_chunks ≡ (needed_of b plan zone).chunks
  pub most_gifts : book.zone.most_gifts ≡ (needed_of b plan zone).transit
  pub visits : book.visits ≡ z.visits
  pub history : History
  pub keeps : KeepsHistory book history
  pub answers : history.answers ≡ answers_at zone log
  pub delayed : IsDelayed (params_of b plan zone) z.state history.made.end (λ cpu. recent_at (cpu_at cpus cpu) zone)
  pub caught : (cpu : ℕ) → cpu < b.cpus → IsCaughtUpWith (cpu_at cpus cpu) zone history
  pub late : (cpu : ℕ) → cpu < b.cpus → slice_index z.late cpu ≡ length (recent_at (cpu_at cpus cpu) zone)

-- The machine stands for this play of the bundle: each zone's book, with the steps that the CPUs have done since, is
-- the play's zone.
pub record StandsForPlay (b : Bundle) (plan : Plan) (m : Machine) (s : Play) : Type 0 where
  pub planned : IsPlanned b plan
  pub fit : IsFitPlan b plan
  pub round : m.round ≡ s.round
  pub replies : map (λ r. r.items) m.replies ≡ s.replies
  pub places : (cpu : ℕ) → cpu < b.cpus → length (trace_of b cpu) ≤ (replies_at m.replies cpu).room
  pub supply : m.supply ≡ record {
    counted =
        record { frames = b.frames; pages = b.pages; room = most_entries (allocations_of b plan); log = s.log };
    made =
        min b.frames (frames_needed b.pages (needed_rooms b plan));
  }
  pub own_asks : All (λ entry. IsForZone (params_of b plan entry.zone) entry.ask) s.log
  pub rooms : m.rooms ≡ needed_rooms b plan
  pub cpus_long : length m.cpus ≡ b.cpus
  pub books_long : length m.books ≡ length plan.zones
  pub cpus : (cpu : ℕ) → cpu < b.cpus → IsCpuAt b plan cpu (cpu_at m.cpus cpu)
  pub zones : (zone : ℕ) → zone < length plan.zones →
      IsZoneAt b plan m.cpus s.log zone (book_at m.books zone) (zone_play s zone)
  pub record_room : HasRecordRoom (needed_rooms b plan) b.cpus m.record_room

-- The CPU may do this step on this zone: it is its next line.
pub record IsTurn (b : Bundle) (plan : Plan) (s : Play) (cpu zone : ℕ) (step : Step) : Type 0 where
  pub sound : IsPlaySound b plan s
  pub turn : HasTurn b plan s cpu
  pub line : addressed b plan (line_to_play b s cpu).act ≡ (zone, step)

-- The round may end.
pub record IsRoundsEnd (b : Bundle) (plan : Plan) (s : Play) : Type 0 where
  pub sound : IsPlaySound b plan s
  pub within : s.round < b.rounds
