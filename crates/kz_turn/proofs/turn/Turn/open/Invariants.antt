use Rattle.std.proofs.Common.{◌≡◌, ℕ, ◌<◌, ◌+◌, [], length, Some}
use Rattle.std.specs.Prelude.{slice_get}
use Rattle.kz_turn.specs.declared.view.View.TheVariants.{Sits}
use Rattle.kz_turn.specs.Views.{new_sitting}
use Rattle.kz_turn.specs.Passes.{new_pass}
use Rattle.kz_turn.proofs.turn.Turn.open.Given as goal

abbrev pub invariant-loop-number : goal.invariant-loop-number
invariant-loop-number g l = record {
  name : l.first.table_id ≡ l.table.shared.table_id;
  first : l.first.me ≡ (Sits (record (new_sitting 0 (g.T.Kept.base l.fn.value)) { made = l.number }), []);
  count : length l.passes.items + 1 ≡ l.number;
  passes : (k : ℕ) → k < length l.passes.items → slice_get l.passes.items k ≡ Some (new_pass l.table.shared.table_id (k + 1) (g.T.Kept.base l.fn.value));
}
