use Rattle.std.proofs.Common.{◌≡◌, ◌≢◌, ℕ, ◌<◌}
use Rattle.std.specs.Prelude.{slice_index_or}
use Rattle.kz_turn.specs.Passes.{PassView}
use Rattle.kz_turn.proofs.turn.take_zeroth.Given as goal

abbrev pub invariant-loop-place : goal.invariant-loop-place
invariant-loop-place g l = record {
  same : l.passes.items ≡ l.fn.passes.items;
  before : (k : ℕ) (d : PassView g.row.T-Base.Denot g.row.T-Entry.Denot) → k < l.place → (slice_index_or l.passes.items k d).number ≢ 0;
}
