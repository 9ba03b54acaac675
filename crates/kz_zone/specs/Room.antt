-- Which rooms are fit for a zone.
use Rattle.std.specs.Prelude.{◌≡◌, ◌^◌, ◌<◌, ◌≤◌, length, sum}
use Rattle.kz_model.specs.declared.record.ZoneParams.{ZoneParams}
use Rattle.kz_model.specs.declared.record.Room.{Room}
use Rattle.kz_model.specs.Types.Class.{IsFitGeometry}

-- a zone's parameters
pub record AreFitParams (p : ZoneParams) : Type 0 where
  pub shape : IsFitGeometry (record { element = p.element; count = p.count; pages = p.pages })
  pub zone : p.zone < 160
  pub some_cpus : 0 < p.cpus
  pub most_cpus : p.cpus ≤ 17
  pub some_magazine : 0 < p.magazine
  pub most_magazine : p.magazine ≤ 32
  pub depot : p.depot ≤ 16
  pub submap : p.submap < 5

-- a room has fit parameters, and one number of steps for each CPU
pub record IsFitRoom (room : Room) : Type 0 where
  pub params : AreFitParams room.params
  pub chunks : room.chunks ≤ 4096
  pub cpus : length room.steps ≡ room.params.cpus
  pub steps : sum room.steps ≤ 2 ^ 30
