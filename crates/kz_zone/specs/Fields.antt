-- What the fields of a zone keep.
use Rattle.std.specs.Prelude.{◌≡◌, ◌≤◌, length}
use Rattle.std.specs.List.{All}
use Rattle.kz_model.specs.declared.record.ZoneParams.{ZoneParams}
use Rattle.kz_zone.specs.Depot.{Depot}

-- the depot of a zone: it has at most as many lists as there can be, each of a magazine's size
pub record IsDepotOf (p : ZoneParams) (depot : Depot) : Type 0 where
  pub magazine : depot.magazine ≡ p.magazine
  pub room : depot.room ≡ p.depot
  pub few : length depot.lists ≤ p.depot
  pub lists : All (λ blocks. length blocks ≡ p.magazine) depot.lists
