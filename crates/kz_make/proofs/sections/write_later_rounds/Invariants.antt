use Rattle.std.proofs.Common.{◌≡◌, ℕ, ◌+◌, ◌-◌, ◌*◌, ◌++◌}
use Rattle.kz_model.specs.Text.Made.{later_count, rounds_drawn, later_lines}
use Rattle.kz_bundle.specs.Printing.{lines_text}
use Rattle.kz_make.specs.Writing.{words_at}
use Rattle.kz_make.proofs.Left.{Left}
use Rattle.kz_make.proofs.sections.write_later_rounds.Given as goal

-- what is written, and the rounds that are left
abbrev pub invariant-loop : goal.invariant-loop
invariant-loop l =
    (number j : ℕ) → l.fn.words ≡ words_at number j →
    Left number l.words l.out.items (l.fn.out.items ++ lines_text (later_lines (rounds_drawn number l.cpu j later_count))) (λ at. lines_text (later_lines (rounds_drawn number l.cpu at (later_count - l.counter))))
    (λ at. at + 15000 * (later_count - l.counter)) (j + 45000)
