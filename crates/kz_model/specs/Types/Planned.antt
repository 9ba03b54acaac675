-- What holds of the plan of a bundle.
use Rattle.std.specs.Prelude.{◌≡◌, ◌<◌, ◌≤◌, ℕ, length}
use Rattle.std.specs.List.{All}
use Rattle.kz_model.specs.declared.bundle.Bundle.{Bundle}
use Rattle.kz_model.specs.declared.record.Plan.{Plan}
use Rattle.kz_model.specs.declared.record.ZoneRow.{ZoneRow}
use Rattle.kz_model.specs.Types.Class.{IsFitGeometry}
use Rattle.kz_model.specs.Run.Journal.{zone_of_type}
use Rattle.kz_model.specs.Grammar.Spelling.{IsSpelled}
use Rattle.kz_model.specs.Grammar.Valid.{IsValid, plan_in}

-- ---- what a plan has for a bundle

-- the plan has a zone for each type
abbrev pub HasZones : Bundle → Plan → Type 0
HasZones b plan = (of : ℕ) → of < length b.types → zone_of_type plan of < length plan.zones

-- each zone's chunks have elements
abbrev pub HasElements : Plan → Type 0
HasElements plan = All (λ row. 0 < row.shape.count) plan.zones

-- ---- a fit plan

-- a zone's shape is fit, and its submap is one of the five
pub record IsFitRow (row : ZoneRow) : Type 0 where
  pub shape : IsFitGeometry row.shape
  pub submap : row.submap < 5

-- Each type has a zone, and the zones are fit.
pub record IsFitPlan (b : Bundle) (plan : Plan) : Type 0 where
  pub types : length plan.of_type ≡ length b.types
  pub zones : HasZones b plan
  pub rows : All IsFitRow plan.zones
  pub few : length plan.zones ≤ 160

-- A text spells the bundle, and the plan is the bundle's.
pub record IsPlanned (b : Bundle) (plan : Plan) : Type 0 where
  pub spelled : IsSpelled b
  pub is_plan : plan ≡ plan_in b

-- the plan of a valid bundle is fit
abbrev pub PlansAreFit : Type 0
PlansAreFit = (b : Bundle) (plan : Plan) → IsValid b → plan ≡ plan_in b → IsFitPlan b plan
