use Rattle.std.proofs.Common.{◌≡◌, ℕ, ◌+◌, ◌-◌, ◌<◌, length}
use Rattle.kz_model.specs.declared.bundle.Seed.{Seed}
use Rattle.kz_model.specs.Types.Plan.{shuffled, swapped_from}
use Rattle.kz_model.specs.Zone.Words.{words_after}
use Rattle.kz_plan.proofs.dealing.shuffle.Given as goal

-- the swaps that are left, with the words from here on, make the whole
abbrev pub invariant-loop-last : goal.invariant-loop-last
invariant-loop-last l = record {
  some : 0 < length l.initial.order → 0 < l.last;
  order : (seed : Seed) (drawn : ℕ) → l.initial.words ≡ words_after seed 0 drawn → swapped_from seed (drawn + (length l.initial.order - l.last)) (l.last - 1) l.order ≡ shuffled seed drawn l.initial.order;
  words : (seed : Seed) (drawn : ℕ) → l.initial.words ≡ words_after seed 0 drawn → l.words ≡ words_after seed 0 (drawn + (length l.initial.order - l.last));
}
