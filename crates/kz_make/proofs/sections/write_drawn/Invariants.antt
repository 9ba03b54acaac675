use Rattle.std.proofs.Common.{◌≡◌, ℕ, ◌+◌, ◌-◌, ◌*◌, ◌++◌, map}
use Rattle.kz_model.specs.Grammar.Form.{Does}
use Rattle.kz_model.specs.Text.Made.{drawn_count, steps_drawn}
use Rattle.kz_bundle.specs.Printing.{lines_text}
use Rattle.kz_make.specs.Writing.{words_at}
use Rattle.kz_make.proofs.Left.{Left}
use Rattle.kz_make.proofs.sections.write_drawn.Given as goal

-- what is written, and the steps that are left
abbrev pub invariant-loop : goal.invariant-loop
invariant-loop l =
    (number j : ℕ) → l.fn.words ≡ words_at number j →
    Left number l.words l.out.items (l.fn.out.items ++ lines_text (map Does (steps_drawn number l.cpu j drawn_count))) (λ at. lines_text (map Does (steps_drawn number l.cpu at (drawn_count - l.counter))))
    (λ at. at + 3 * (drawn_count - l.counter)) (j + 15000)
