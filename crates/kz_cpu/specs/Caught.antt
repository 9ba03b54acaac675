-- A CPU beside a zone's history.
use Rattle.std.specs.Prelude.{ℕ}
use Rattle.kz_model.specs.Zone.State.{CpuPart, cpu_part}
use Rattle.kz_model.specs.Zone.Late.{NeedNone}
use Rattle.kz_book.specs.Book.{History}
use Rattle.kz_book.specs.Visits.{own_now}
use Rattle.kz_cpu.specs.Cpu.{Cpu, Has, cache_at, recent_at}

-- None of the CPU's recent steps needed a visit, from this part at its last visit, and the CPU has what they leave of it.
pub record IsCaughtUp (c : Cpu) (zone : ℕ) (own : CpuPart) : Type 0 where
  pub none : NeedNone (cache_at c zone).params own (recent_at c zone)
  pub has : Has c zone (own_now (cache_at c zone).params own (recent_at c zone))

-- The history has the CPU's steps up to its recent ones.
abbrev pub IsCaughtUpWith : Cpu → ℕ → History → Type 0
IsCaughtUpWith c zone j = IsCaughtUp c zone (cpu_part j.made.end c.cpu)
