-- The names of a bundle as they are kept: their texts beside their types.
use Rattle.std.specs.Prelude.{ℕ, List, [], ◌∷◌}
use Rattle.kz_model.specs.declared.bundle.NameRow.{NameRow}

abbrev pub no_row : NameRow
no_row = record { name = []; of = 0 }

-- each text with its type
abbrev pub rows_meant : List (List ℕ) → List ℕ → List NameRow
rows_meant (name ∷ names) (of ∷ types) = record { name = name; of = of } ∷ rows_meant names types
rows_meant names types = []
