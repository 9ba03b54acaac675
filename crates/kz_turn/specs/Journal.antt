-- A journal: a list of entries, each with the number of the seat that made it.
use Rattle.std.specs.Prelude.{◌==◌, ℕ, List, map, filter}

-- the entries of the seat n, in their order
abbrev pub entries_of : {E : Type 0} → ℕ → List (ℕ × E) → List E
entries_of n log = map (λ x. x.1) (filter (λ x. x.0 == n) log)
