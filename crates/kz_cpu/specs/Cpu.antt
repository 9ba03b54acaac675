-- A CPU as contracts see it, and what it has of a zone.
use Rattle.std.specs.Prelude.{◌≡◌, ◌≢◌, ℕ, ◌<◌, true, ◌==◌, if◌then◌else◌, List, [], ◌++◌, length, map, take, drop, replicate, Option, None, Some, slice_index_or}
use Rattle.kz_model.specs.declared.bundle.Seed.TheVariants.{Plain}
use Rattle.kz_model.specs.declared.record.Room.{Room}
use Rattle.kz_model.specs.declared.record.ZoneParams.{ZoneParams}
use Rattle.kz_model.specs.declared.step.Bound.{Bound}
use Rattle.kz_model.specs.declared.step.Step.{Step}
use Rattle.kz_model.specs.Zone.State.{CpuPart, bound_of}
use Rattle.kz_model.specs.Zone.Rules.{name_of}
use Rattle.kz_zone.specs.Pair.{Pair}
use Rattle.kz_book.specs.Visits.{has_name}
use Rattle.kz_cpu.specs.declared.binding.Binding.{Binding}

-- what it keeps of one zone: the zone's parameters, for how many steps and chunks there is room, its stack, its steps
-- since its last visit, and the first pages of the chunks that it knows
pub record Cache : Type 0 where
  pub params : ZoneParams
  pub most_steps : ℕ
  pub most_chunks : ℕ
  pub pair : Pair
  pub recent : List Step
  pub bases : List ℕ

-- its number, what it keeps of each zone, and its names with what each is bound to
pub record Cpu : Type 0 where
  pub cpu : ℕ
  pub caches : List Cache
  pub bindings : List (Option Binding)

abbrev pub no_params : ZoneParams
no_params = record {
  zone = 0;
  element = 0;
  count = 0;
  pages = 0;
  cpus = 0;
  magazine = 0;
  depot = 0;
  seed =
      Plain;
  submap = 0;
}

abbrev pub no_cache : Cache
no_cache = record {
  params = no_params;
  most_steps = 0;
  most_chunks = 0;
  pair =
      record { magazine = 0; blocks = [] };
  recent = [];
  bases = [];
}

abbrev pub cache_at : Cpu → ℕ → Cache
cache_at c zone = slice_index_or c.caches zone no_cache

abbrev pub recent_at : Cpu → ℕ → List Step
recent_at c zone = (cache_at c zone).recent

abbrev pub binding_at : Cpu → ℕ → Option Binding
binding_at c name = slice_index_or c.bindings name None

-- what a zone's room opens
abbrev pub opened_cache : ℕ → Room → Cache
opened_cache cpu room =
    record {
      params = room.params;
      most_steps = slice_index_or room.steps cpu 0;
      most_chunks = room.chunks;
      pair =
          record { magazine = room.params.magazine; blocks = [] };
      recent = [];
      bases = [];
    }

abbrev pub opened_cpu : ℕ → List Room → ℕ → Cpu
opened_cpu cpu rooms names =
    record { cpu = cpu; caches = map (opened_cache cpu) rooms; bindings = replicate names None }

-- ---- what it has of a zone

-- a binding that was made by a step on this zone
abbrev pub bound_in : ℕ → Option Binding → Option Bound
bound_in zone None = None
bound_in zone (Some binding) = if binding.zone == zone then Some binding.bound else None

-- The CPU has this stack and these names of the zone.
pub record Has (c : Cpu) (zone : ℕ) (own : CpuPart) : Type 0 where
  pub stack : (cache_at c zone).pair.blocks ≡ own.stack
  pub names : (name : ℕ) → name < length c.bindings → bound_in zone (binding_at c name) ≡ bound_of name own.names

-- a name that is bound was bound by a step on this zone
abbrev pub IsTagged : ℕ → Option Binding → Type 0
IsTagged zone None = Unit {0}
IsTagged zone (Some binding) = binding.zone ≡ zone

-- the step's name, if it has one, is a name of the CPU, and bound on this zone if it is bound
pub record IsOnZone (c : Cpu) (zone : ℕ) (step : Step) : Type 0 where
  pub zone_there : zone < length c.caches
  pub name : has_name step ≡ true → name_of step < length c.bindings
  pub tagged : has_name step ≡ true → IsTagged zone (binding_at c (name_of step))

-- What a step on a zone leaves as it is.
pub record IsElsewhere (old new : Cpu) (zone : ℕ) (step : Step) : Type 0 where
  pub cpu : new.cpu ≡ old.cpu
  pub names : length new.bindings ≡ length old.bindings
  pub caches : length new.caches ≡ length old.caches
  pub params : (cache_at new zone).params ≡ (cache_at old zone).params
  pub most_steps : (cache_at new zone).most_steps ≡ (cache_at old zone).most_steps
  pub magazine : (cache_at new zone).pair.magazine ≡ (cache_at old zone).pair.magazine
  pub others : (other : ℕ) → other ≢ zone → cache_at new other ≡ cache_at old other
  pub has : (other : ℕ) (own : CpuPart) → other ≢ zone → Has old other own → Has new other own
  pub tags : (name other : ℕ) → (has_name step ≡ true → name ≡ name_of step → other ≡ zone) →
      IsTagged other (binding_at old name) → IsTagged other (binding_at new name)

-- ---- what a visit tells it

-- It learns the first pages of the chunks that it did not know, as far as it has room.
pub record Learns (old new : Cache) (pages : List ℕ) : Type 0 where
  pub most_chunks : new.most_chunks ≡ old.most_chunks
  pub bases : new.bases ≡ old.bases ++ drop (length old.bases) (take old.most_chunks pages)

-- what it knows of the chunks stays
pub record KnowsSame (old new : Cache) : Type 0 where
  pub most_chunks : new.most_chunks ≡ old.most_chunks
  pub bases : new.bases ≡ old.bases
