use Rattle.std.proofs.Common.{◌≡◌, map, take}
use Rattle.kz_model.specs.Types.Plan.{zone_among}
use Rattle.kz_plan.proofs.zones.zones_of_types.Given as goal

-- the zones of the types so far
abbrev pub invariant-loop-layout : goal.invariant-loop-layout
invariant-loop-layout l = l.of_type.items ≡ map (zone_among l.deals l.general l.data_classes) (take l.layout-index l.layouts)
