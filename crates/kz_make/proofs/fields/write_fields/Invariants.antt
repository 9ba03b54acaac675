use Rattle.std.proofs.Common.{◌≡◌, ℕ, ◌+◌, ◌-◌, ◌*◌, ◌++◌}
use Rattle.kz_model.specs.Text.Made.{fields_made}
use Rattle.kz_model.specs.Grammar.Spelling.{fields_text, more_fields_text}
use Rattle.kz_make.specs.Writing.{words_at}
use Rattle.kz_make.proofs.Left.{Left}
use Rattle.kz_make.proofs.fields.write_fields.Given as goal

-- what is written, and the fields that are left
abbrev pub invariant-loop-i : goal.invariant-loop-i
invariant-loop-i l =
    (number j : ℕ) → l.fn.words ≡ words_at number j →
    Left number l.words l.out.items (l.fn.out.items ++ fields_text (fields_made number j 0 l.count)) (λ at. more_fields_text (fields_made number at l.i (l.count - l.i))) (λ at. at + 2 * (l.count - l.i)) (j + 2 * l.count)
