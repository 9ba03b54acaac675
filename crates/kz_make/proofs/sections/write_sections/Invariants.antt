use Rattle.std.proofs.Common.{◌≡◌, ℕ, ◌+◌, ◌-◌, ◌*◌, ◌++◌}
use Rattle.kz_model.specs.Text.Made.{sections_made}
use Rattle.kz_bundle.specs.Printing.{lines_text}
use Rattle.kz_make.specs.Writing.{words_at}
use Rattle.kz_make.proofs.Left.{Left}
use Rattle.kz_make.proofs.sections.write_sections.Given as goal

-- what is written, and the sections that are left
abbrev pub invariant-loop-cpu : goal.invariant-loop-cpu
invariant-loop-cpu l =
    (number j : ℕ) → l.fn.words ≡ words_at number j →
    Left number l.words l.out.items (l.fn.out.items ++ lines_text (sections_made number 0 j 4)) (λ at. lines_text (sections_made number l.cpu at (4 - l.cpu))) (λ at. at + 60000 * (4 - l.cpu)) (j + 240000)
