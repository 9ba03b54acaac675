use Rattle.std.proofs.Common.{◌≡◌, ◌-◌, ◌++◌}
use Rattle.kz_model.specs.Text.Made.{turns_made}
use Rattle.kz_bundle.specs.Printing.{lines_text}
use Rattle.kz_make.proofs.order.write_turns.Given as goal

-- what is written, and the turns that are left
abbrev pub invariant-loop : goal.invariant-loop
invariant-loop l = l.out.items ++ lines_text (turns_made (l.times - l.counter)) ≡ l.fn.out.items ++ lines_text (turns_made l.times)
