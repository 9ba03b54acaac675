-- CPUs that settle at a round's end, one after the other.
use Rattle.std.specs.Prelude.{◌≡◌, ℕ, ◌+◌, ◌<◌, ◌≤◌, List, ◌++◌, length, drop, replicate}
use Rattle.std.specs.List.{filter_map, range_with_len}
use Rattle.kz_model.specs.Run.Journal.{carried_of}
use Rattle.kz_model.specs.declared.bundle.Bundle.{Bundle}
use Rattle.kz_model.specs.declared.record.Plan.{Plan}
use Rattle.kz_model.specs.declared.step.Step.TheVariants.{Flush}
use Rattle.kz_model.specs.declared.supply.SupplyEntry.{SupplyEntry}
use Rattle.kz_laws.specs.Play.{ZonePlay, Play, zone_play, settling, zone_after_settling}
use Rattle.kz_model.specs.Run.Rooms.{lines_on}
use Rattle.kz_book.specs.Book.{Book}
use Rattle.kz_cpu.specs.Cpu.{Cpu, IsElsewhere, recent_at}
use Rattle.kz_machine.specs.Lookups.{cpu_at, book_at}
use Rattle.kz_machine.specs.Stands.{IsCpuAt, IsZoneAt}

-- a zone when the CPUs below this one have settled
abbrev pub settled_below : ℕ → ℕ → ZonePlay → ZonePlay
settled_below round n z =
    record z {
      visits = z.visits ++ filter_map (settling round z.late) (range_with_len 0 n);
      late = replicate n 0
          ++ drop n z.late;
    }

-- The CPUs below this one have settled on a zone, and each has room in its journal for what it has done there since.
pub record AreSettledBelow (b : Bundle) (plan : Plan) (log : List SupplyEntry) (round zone : ℕ) (z : ZonePlay)
    (old : List Cpu) (n : ℕ) (cpus : List Cpu) (book : Book) : Type 0 where
  pub in_zones : zone < length plan.zones
  pub late_long : length z.late ≡ b.cpus
  pub long : length cpus ≡ b.cpus
  pub each : (cpu : ℕ) → cpu < b.cpus → IsCpuAt b plan cpu (cpu_at cpus cpu)
  pub here : IsZoneAt b plan cpus log zone book (settled_below round n z)
  pub rooms : (cpu : ℕ) → cpu < b.cpus → carried_of cpu book.visits
      + length (recent_at (cpu_at cpus cpu) zone) ≤ lines_on b plan zone cpu
  pub elsewhere : (cpu : ℕ) → IsElsewhere (cpu_at old cpu) (cpu_at cpus cpu) zone Flush

-- The CPUs have settled on the zones below this one.
pub record AreSettled (b : Bundle) (plan : Plan) (s : Play) (n : ℕ) (cpus : List Cpu) (books : List Book) : Type 0 where
  pub cpus_long : length cpus ≡ b.cpus
  pub books_long : length books ≡ length plan.zones
  pub each : (cpu : ℕ) → cpu < b.cpus → IsCpuAt b plan cpu (cpu_at cpus cpu)
  pub done : (zone : ℕ) → zone < n → zone < length plan.zones →
      IsZoneAt b plan cpus s.log zone (book_at books zone) (zone_after_settling s.round b.cpus (zone_play s zone))
  pub rest : (zone : ℕ) → n ≤ zone → zone < length plan.zones →
      IsZoneAt b plan cpus s.log zone (book_at books zone) (zone_play s zone)
