use Rattle.std.proofs.Common.{◌≡◌, ℕ, ◌+◌, ◌-◌, ◌++◌, List, length, map}
use Rattle.std.specs.List.{range_with_len}
use Rattle.kz_model.specs.declared.bundle.Seed.{Seed}
use Rattle.kz_model.specs.Types.Plan.{bucket_row, bucket_rows}
use Rattle.kz_model.specs.Zone.Words.{words_after}
use Rattle.kz_plan.specs.Homes.{AreCounts}
use Rattle.kz_plan.proofs.zones.push_buckets.Given as goal

-- the zones so far, with those of the buckets that are left, are all
abbrev pub invariant-loop-bucket : goal.invariant-loop-bucket
invariant-loop-bucket l = record {
  many : length l.zones.items ≡ l.deal.first + l.bucket;
  words : (seed : Seed) → l.initial.words ≡ words_after seed 1 l.deal.first → l.words ≡ words_after seed 1 (l.deal.first + l.bucket);
  rows :
      (seed : Seed) (of_type : List ℕ) → l.initial.words ≡ words_after seed 1 l.deal.first → AreCounts l.types (length l.types) of_type →
      l.zones.items ++ map (bucket_row seed of_type l.deal) (range_with_len l.bucket (l.deal.zones - l.bucket))
      ≡ l.initial.zones.items ++ bucket_rows seed of_type l.deal;
}
