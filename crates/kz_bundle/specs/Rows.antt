-- Names by their first `a` or `z` lines, kept by number.
use Rattle.std.specs.Prelude.{◌≡◌, ℕ, ◌+◌, ◌<◌, List, [], ◌∷◌, length, map, Option, None, Some, All, slice_index, slice_index_or}
use Rattle.kz_model.specs.declared.bundle.NameRow.{NameRow}
use Rattle.kz_model.specs.Grammar.Spelling.{text_at}
use Rattle.kz_model.specs.Grammar.Stages.{Row, row_of, row_names, place_of}
use Rattle.kz_bundle.specs.declared.stages.entry.Entry.{Entry}

-- what contracts see: the texts of names and types, and the rows
pub record Rows : Type 0 where
  pub names : List (List ℕ)
  pub words : List (List ℕ)
  pub rows : List Row

-- an entry as the row that it stands for
abbrev pub row_meant : List (List ℕ) → List (List ℕ) → Entry → Row
row_meant names words entry = record { name = text_at names entry.name; of = text_at words entry.of; cpu = entry.cpu }

abbrev pub rows_meant : List (List ℕ) → List (List ℕ) → List Entry → List Row
rows_meant names words entries = map (row_meant names words) entries

abbrev pub no_entry : Entry
no_entry = record { name = 0; of = 0; cpu = 0 }

-- a name has this place among the rows, or none
pub record IsPlaced (names words : List (List ℕ)) (entries : List Entry) (name place : ℕ) : Type 0 where
  pub within : place < length entries
  pub row : row_of (text_at names name) (rows_meant names words entries)
      ≡ Some (row_meant names words (slice_index_or entries place no_entry))
  pub number : place_of (text_at names name) (row_names (rows_meant names words entries)) ≡ place
  pub same : (slice_index_or entries place no_entry).name ≡ name

abbrev pub MatchesPlace : List (List ℕ) → List (List ℕ) → List Entry → ℕ → Option ℕ → Type 0
MatchesPlace names words entries name None = row_of (text_at names name) (rows_meant names words entries) ≡ None
MatchesPlace names words entries name (Some place) = IsPlaced names words entries name place

-- how many of these are there
abbrev pub somes : List (Option ℕ) → ℕ
somes [] = 0
somes (None ∷ places) = somes places
somes (Some place ∷ places) = 1 + somes places

pub record AreEntries (names words : List (List ℕ)) (entries : List Entry) (places : List (Option ℕ)) : Type 0 where
  pub lengths : length places ≡ length names
  pub counted : length entries ≡ somes places
  pub of_names : All (λ entry. entry.name < length names) entries
  pub of_words : All (λ entry. entry.of < length words) entries
  pub each : (name : ℕ) → name < length names → MatchesPlace names words entries name (slice_index_or places name None)

-- a row with its type's place among declared names
abbrev pub name_row : List (List ℕ) → Row → NameRow
name_row types row = record { name = row.name; of = place_of row.of types }

-- for each text of a table its place among declared names, or how many these are
abbrev pub ArePlacesOf : List (List ℕ) → List (List ℕ) → List ℕ → Type 0
ArePlacesOf types words places = (length places ≡ length words) ×
    ((word : ℕ) → word < length words → slice_index places word ≡ place_of (text_at words word) types)

-- an entry's row, with the number of its type by that of its word
abbrev pub numbered_row : List (List ℕ) → List ℕ → Entry → NameRow
numbered_row names types entry = record { name = text_at names entry.name; of = slice_index types entry.of }
