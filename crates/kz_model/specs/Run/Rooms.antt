-- The rooms of a bundle's zones.
use Rattle.std.specs.Prelude.{ℕ, zero, suc, ◌+◌, ◌/◌, Bool, true, false, List, length, map, sum}
use Rattle.std.specs.List.{filter, range_with_len}
use Rattle.kz_model.specs.declared.bundle.Bundle.{Bundle}
use Rattle.kz_model.specs.declared.bundle.Act.{Act}
use Rattle.kz_model.specs.declared.bundle.Act.TheVariants as act
use Rattle.kz_model.specs.declared.bundle.TraceStep.{TraceStep}
use Rattle.kz_model.specs.declared.record.Plan.{Plan}
use Rattle.kz_model.specs.declared.record.Room.{Room}
use Rattle.kz_model.specs.Run.Journal.{params_of, trace_of, steps_among}

-- how many of these lines are addressed to a zone
abbrev pub lines_among : Bundle → Plan → ℕ → List TraceStep → ℕ
lines_among b plan zone lines = length (steps_among b plan zone lines)

-- how many of a CPU's lines
abbrev pub lines_on : Bundle → Plan → ℕ → ℕ → ℕ
lines_on b plan zone cpu = lines_among b plan zone (trace_of b cpu)

-- by CPU
abbrev pub steps_on : Bundle → Plan → ℕ → List ℕ
steps_on b plan zone = map (lines_on b plan zone) (range_with_len 0 b.cpus)

-- a zone's room: its chunks fill a submap at most, and each line on it may give a block
abbrev pub room_of : Bundle → Plan → ℕ → Room
room_of b plan zone =
    record {
      params = params_of b plan zone;
      chunks = b.pages / (params_of b plan zone).pages;
      transit = sum (steps_on b plan zone);
      steps = steps_on b plan zone;
    }

abbrev pub rooms_of : Bundle → Plan → List Room
rooms_of b plan = map (room_of b plan) (range_with_len 0 (length plan.zones))

-- ---- lines of all CPUs

-- the sum over the numbers below this one
abbrev pub sum_below : (ℕ → ℕ) → ℕ → ℕ
sum_below f zero = 0
sum_below f (suc n) = sum_below f n + f n

-- how many lines of all CPUs on a zone there are
abbrev pub zone_lines : Bundle → Plan → ℕ → ℕ
zone_lines b plan zone = sum_below (lines_on b plan zone) b.cpus

-- ---- lines of a kind

-- a line that may bring a new chunk, and one that gives a block away
abbrev pub is_allocating : Act → Bool
is_allocating (act.Alloc name of) = true
is_allocating (act.AllocZero name of) = true
is_allocating line = false

abbrev pub is_giving : Act → Bool
is_giving (act.Give name to) = true
is_giving line = false

abbrev pub of_kind : (Act → Bool) → List TraceStep → List TraceStep
of_kind kind lines = filter (λ line. kind line.act) lines

-- how many of these lines are on a zone and of a kind
abbrev pub kind_among : Bundle → Plan → (Act → Bool) → ℕ → List TraceStep → ℕ
kind_among b plan kind zone lines = lines_among b plan zone (of_kind kind lines)

-- those of a CPU's lines
abbrev pub kind_there : Bundle → Plan → (Act → Bool) → ℕ → ℕ → ℕ
kind_there b plan kind zone cpu = kind_among b plan kind zone (trace_of b cpu)

-- those of all CPUs
abbrev pub zone_kind : Bundle → Plan → (Act → Bool) → ℕ → ℕ
zone_kind b plan kind zone = sum_below (kind_there b plan kind zone) b.cpus

-- those that may bring a new chunk
abbrev pub zone_allocations : Bundle → Plan → ℕ → ℕ
zone_allocations b plan zone = zone_kind b plan is_allocating zone

-- those that give a block away
abbrev pub zone_gifts : Bundle → Plan → ℕ → ℕ
zone_gifts b plan zone = zone_kind b plan is_giving zone
