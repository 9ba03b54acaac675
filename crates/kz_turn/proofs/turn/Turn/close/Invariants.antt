use Rattle.std.proofs.Common.{◌≡◌, [], vec_len}
use Rattle.std.specs.Prelude.{All}
use Rattle.kz_turn.specs.declared.view.Sitting.{Sitting}
use Rattle.kz_turn.specs.declared.view.Stage.TheVariants.{Idle}
use Rattle.kz_turn.specs.declared.view.View.TheVariants.{Sits}
use Rattle.kz_turn.proofs.Closes.{AreAccounted}
use Rattle.kz_turn.proofs.turn.Turn.close.Given as goal

-- `first` is the seat 0, and it has kept each pass that is joined
abbrev pub invariant-loop-pass : goal.invariant-loop-pass
invariant-loop-pass g l = record {
  a : Sitting g.row.T-Base.Denot g.row.T-Entry.Denot;
  name : l.first.table_id ≡ l.table.shared.table_id;
  me : l.first.me ≡ (Sits a, []);
  idle : a.stage ≡ Idle;
  number : a.number ≡ 0;
  named : All (λ p. p.name ≡ l.table.shared.table_id) l.passes.items;
  accounted : AreAccounted l.fn.passes.items l.table.shared.table_id a l.passes.items;
}

abbrev pub decreases-loop-pass : goal.decreases-loop-pass
decreases-loop-pass g l = vec_len l.passes
