-- Share: the division of a budget of zones among classes with these counts of signatures.
use Rattle.std.specs.Prelude.{ℕ, ◌+◌, ◌-◌, ◌*◌, Bool, ◌&&◌, ◌||◌, ◌==◌, nat_lt, List, map, length, slice_index, count_by}
use Rattle.std.specs.List.{flat_map, range_with_len}

-- The marks of class i are the pairs (i, k) with 1 ≤ k < counts_i.
abbrev pub marks_of : List ℕ → ℕ → List (ℕ × ℕ)
marks_of counts i = map (λ k. (i, k)) (range_with_len 1 (slice_index counts i - 1))

-- the marks of all classes
abbrev pub marks : List ℕ → List (ℕ × ℕ)
marks counts = flat_map (marks_of counts) (range_with_len 0 (length counts))

-- The value of a mark (i, k) is counts_i / k. Two values are compared by cross multiplication.
abbrev pub is_of_greater_value : List ℕ → ℕ × ℕ → ℕ × ℕ → Bool
is_of_greater_value counts m n = nat_lt (slice_index counts n.0 * m.1) (slice_index counts m.0 * n.1)

abbrev pub is_of_equal_value : List ℕ → ℕ × ℕ → ℕ × ℕ → Bool
is_of_equal_value counts m n = slice_index counts n.0 * m.1 == slice_index counts m.0 * n.1

-- one mark precedes another where its value is greater, or the values are equal and its class is smaller
abbrev pub precedes : List ℕ → ℕ × ℕ → ℕ × ℕ → Bool
precedes counts m n = is_of_greater_value counts m n || (is_of_equal_value counts m n && nat_lt m.0 n.0)

-- how many marks precede this one
abbrev pub rank : List ℕ → ℕ × ℕ → ℕ
rank counts m = count_by (λ n. precedes counts n m) (marks counts)

-- a mark is granted where fewer marks precede it than the budget has beyond one zone for each class
abbrev pub is_granted : List ℕ → ℕ → ℕ × ℕ → Bool
is_granted counts budget m = nat_lt (rank counts m) (budget - length counts)

-- the part of class i: one zone, and one for each of its marks that is granted
abbrev pub part : List ℕ → ℕ → ℕ → ℕ
part counts budget i = 1 + count_by (is_granted counts budget) (marks_of counts i)

-- the parts of all classes
abbrev pub share : List ℕ → ℕ → List ℕ
share counts budget = map (part counts budget) (range_with_len 0 (length counts))
