use Rattle.std.proofs.Common.{◌≡◌, ℕ, ◌-◌, ◌++◌, map}
use Rattle.kz_model.specs.Grammar.Form.{Declares}
use Rattle.kz_model.specs.Text.Made.{types_count, types_made, after_types}
use Rattle.kz_bundle.specs.Printing.{lines_text}
use Rattle.kz_make.specs.Writing.{words_at}
use Rattle.kz_make.proofs.Left.{Left}
use Rattle.kz_make.proofs.types.write_types.Given as goal

-- what is written, and the types that are left
abbrev pub invariant-loop-t : goal.invariant-loop-t
invariant-loop-t l =
    (number j : ℕ) → l.fn.words ≡ words_at number j →
    Left number l.words l.out.items (l.fn.out.items ++ lines_text (map Declares (types_made number j 0 types_count))) (λ at. lines_text (map Declares (types_made number at l.t (types_count - l.t)))) (λ at. after_types number at (types_count - l.t))
    (after_types number j types_count)
