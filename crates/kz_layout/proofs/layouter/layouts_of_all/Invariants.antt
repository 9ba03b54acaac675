use Rattle.std.proofs.Common.{◌≡◌, All, map, take}
use Rattle.kz_layout.specs.Granules.{layout_by_codes}
use Rattle.kz_layout.specs.Laid.{IsSize}
use Rattle.kz_layout.proofs.layouter.layouts_of_all.Given as goal

-- the layouts so far
abbrev pub invariant-loop-body : goal.invariant-loop-body
invariant-loop-body l = record {
  items : l.layouts.items ≡ map layout_by_codes (take l.body-index l.bodies);
  sizes : All IsSize l.layouts.items;
}
