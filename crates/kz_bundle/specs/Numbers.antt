-- The numbers that names and types have in the bundle of a text's parts.
use Rattle.std.specs.Prelude.{◌≡◌, map}
use Rattle.kz_model.specs.Grammar.Stages.{row_names, rows_of, lines_from, type_names}
use Rattle.kz_bundle.specs.declared.stages.numbers.Numbers.{Numbers}
use Rattle.kz_bundle.specs.declared.form.parts.Parts.{Parts}
use Rattle.kz_model.specs.Grammar.Tokens.{texts}
use Rattle.kz_bundle.specs.Parts.{sections_meant, draft_of}
use Rattle.kz_bundle.specs.Rows.{Rows, name_row, ArePlacesOf}

-- the rows of all step lines
abbrev pub rows_in : Parts → Rows
rows_in parts = record {
  names = texts parts.names.items;
  words = texts parts.words.items;
  rows =
      rows_of (lines_from 0 (sections_meant parts));
}

-- the rows of names, and the places of names and types among the bundle's
pub record AreNumbers (parts : Parts) (numbers : Numbers) : Type 0 where
  pub rows : numbers.rows ≡ map (name_row (type_names (draft_of parts))) (rows_in parts).rows
  pub names : ArePlacesOf (row_names (rows_in parts).rows) (texts parts.names.items) numbers.names.items
  pub types : ArePlacesOf (type_names (draft_of parts)) (texts parts.words.items) numbers.types.items
