-- The lines of CPUs on zones.
use Rattle.std.specs.Prelude.{◌≡◌, ℕ, ◌+◌, ◌<◌, ◌==◌, nat_lt, if◌then◌else◌, List, [], length, map, replicate, take, slice_index, slice_set}
use Rattle.std.specs.List.{range_with_len}
use Rattle.kz_model.specs.declared.bundle.Bundle.{Bundle}
use Rattle.kz_model.specs.declared.bundle.TraceStep.{TraceStep}
use Rattle.kz_model.specs.declared.record.Plan.{Plan}
use Rattle.kz_model.specs.declared.step.Step.{Step}
use Rattle.kz_model.specs.declared.step.Step.TheVariants.{Alloc, AllocZero, Give}
use Rattle.kz_model.specs.Run.Rooms.{sum_below, is_allocating, is_giving, kind_among, zone_allocations, zone_gifts}
use Rattle.kz_model.specs.Run.Journal.{trace_of, type_of_name}
use Rattle.kz_model.specs.Run.Rooms.{lines_among, room_of}
use Rattle.kz_bundle.specs.declared.planned.counts.ZoneLines.{ZoneLines}
use Rattle.kz_bundle.specs.declared.planned.rooms.ZoneLoad.{ZoneLoad}

-- the plan has a zone for each type and each name
pub record AreZoned (b : Bundle) (plan : Plan) : Type 0 where
  pub types : length plan.of_type ≡ length b.types
  pub names : (name : ℕ) → name < length b.names → type_of_name b name < length plan.of_type

-- ---- what is counted

-- by CPU, its lines: all of the CPUs before this one, and so many of this one's
abbrev pub lines_before : Bundle → ℕ → ℕ → ℕ → List TraceStep
lines_before b cpu at other =
    if nat_lt other cpu then trace_of b other else if other == cpu then take at (trace_of b other) else []

-- how many of these lines of the CPUs are on a zone
abbrev pub counted_on : Bundle → Plan → (ℕ → List TraceStep) → ℕ → ZoneLines
counted_on b plan lines zone =
    record {
      by_cpu = map (λ cpu. lines_among b plan zone (lines cpu)) (range_with_len 0 b.cpus);
      allocating = sum_below (λ cpu. kind_among b plan is_allocating zone (lines cpu)) b.cpus;
      giving = sum_below (λ cpu. kind_among b plan is_giving zone (lines cpu)) b.cpus;
    }

-- those of each zone
abbrev pub counted : Bundle → Plan → (ℕ → List TraceStep) → List ZoneLines
counted b plan lines = map (counted_on b plan lines) (range_with_len 0 (length plan.zones))

-- ---- one line more

-- how many lines allocate, and how many give a block away, of one that does this step
abbrev pub allocations_in : Step → ℕ
allocations_in (Alloc name) = 1
allocations_in (AllocZero name) = 1
allocations_in step = 0

abbrev pub gifts_in : Step → ℕ
gifts_in (Give name to) = 1
gifts_in step = 0

abbrev pub no_lines : ℕ → ZoneLines
no_lines cpus = record { by_cpu = replicate cpus 0; allocating = 0; giving = 0 }

-- the counts of a zone with one line more, of this CPU and with this step
abbrev pub one_more : ℕ → Step → ZoneLines → ZoneLines
one_more cpu step lines =
    record {
      by_cpu = slice_set lines.by_cpu cpu (slice_index lines.by_cpu cpu + 1);
      allocating = lines.allocating + allocations_in step;
      giving = lines.giving + gifts_in step;
    }

-- ---- rooms

-- a zone's room, with how many lines on it allocate and how many give a block away
abbrev pub load_of : Bundle → Plan → ℕ → ZoneLoad
load_of b plan zone =
    record {
      room = room_of b plan zone;
      allocating = zone_allocations b plan zone;
      giving = zone_gifts b plan zone;
    }

abbrev pub loads_of : Bundle → Plan → List ZoneLoad
loads_of b plan = map (load_of b plan) (range_with_len 0 (length plan.zones))
