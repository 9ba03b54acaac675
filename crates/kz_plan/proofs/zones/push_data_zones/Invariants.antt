use Rattle.std.proofs.Common.{◌≡◌, ℕ, ◌+◌, ◌++◌, List, length, map, drop}
use Rattle.std.specs.List.{enumerate_from}
use Rattle.kz_model.specs.Types.Plan.{data_row}
use Rattle.kz_plan.specs.Homes.{AreCounts}
use Rattle.kz_plan.proofs.zones.push_data_zones.Given as goal

-- the zones so far, with those of the classes that are left, are all
abbrev pub invariant-loop-class : goal.invariant-loop-class
invariant-loop-class l = record {
  many : length l.zones.items ≡ length l.initial.zones.items + l.class-index;
  rows :
      (of_type : List ℕ) → AreCounts l.types (length l.types) of_type →
      l.zones.items ++ map (data_row of_type) (enumerate_from (length l.zones.items) (drop l.class-index l.classes))
      ≡ l.initial.zones.items ++ map (data_row of_type) (enumerate_from (length l.initial.zones.items) l.classes);
}
