use Rattle.std.proofs.Common.{◌≡◌, ◌-◌, ◌++◌}
use Rattle.kz_model.specs.Text.Made.{later_count, later_turns}
use Rattle.kz_bundle.specs.Printing.{lines_text}
use Rattle.kz_make.proofs.order.write_later_turns.Given as goal

-- what is written, and the rounds that are left
abbrev pub invariant-loop : goal.invariant-loop
invariant-loop l = l.out.items ++ lines_text (later_turns (later_count - l.counter)) ≡ l.fn.out.items ++ lines_text (later_turns later_count)
