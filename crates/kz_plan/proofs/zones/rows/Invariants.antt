use Rattle.std.proofs.Common.{◌≡◌, ◌++◌, length, drop}
use Rattle.std.specs.List.{flat_map}
use Rattle.kz_model.specs.Types.Plan.{bucket_rows}
use Rattle.kz_model.specs.Zone.Words.{words_after}
use Rattle.kz_plan.specs.Homes.{AreInRow}
use Rattle.kz_plan.proofs.zones.rows.Given as goal

-- the zones so far, with those of the deals that are left, are all
abbrev pub invariant-loop-deal : goal.invariant-loop-deal
invariant-loop-deal l = record {
  in_row : AreInRow (length l.zones.items) l.fn.general (drop l.deal-index l.deals);
  words : l.words ≡ words_after l.fn.seed 1 (length l.zones.items);
  rows : l.zones.items ++ flat_map (bucket_rows l.fn.seed l.fn.of_type) (drop l.deal-index l.deals) ≡ flat_map (bucket_rows l.fn.seed l.fn.of_type) l.deals;
}
