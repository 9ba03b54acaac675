-- A table from texts to their numbers.
use Rattle.std.specs.Prelude.{◌≡◌, ℕ, ◌+◌, ◌*◌, ◌<◌, if◌then◌else◌, List, [], ◌∷◌, ◌++◌, length, All, Option, Some, None, nat_eq, nat_le}
use Rattle.std.specs.Map.{lookup}
use Rattle.std.specs.Str.{bytes_eq}
use Rattle.std.specs.Option.{option_map_or}
use Rattle.kz_model.specs.Grammar.Steps.{NamedStep}
use Rattle.kz_model.specs.Grammar.Stages.{has, place_of, name_in, type_in}
use Rattle.kz_bundle.specs.declared.form.index.Index.{Index}

-- the texts with one more, where it isn't there
abbrev pub with_text : List ℕ → List (List ℕ) → List (List ℕ)
with_text text table = if has text table then table else table ++ text ∷ []

-- the number of a text, where it is there
abbrev pub number_of : List ℕ → List (List ℕ) → Option ℕ
number_of text table = if has text table then Some (place_of text table) else None

abbrev pub AreBytes : List ℕ → Type 0
AreBytes text = All (λ byte. byte < 256) text

-- a text packed into a number, which no other text of bytes has
abbrev pub key_of : List ℕ → ℕ
key_of [] = 1
key_of (byte ∷ text) = byte + 256 * key_of text

-- the number that an index has for a text: a short one is found by its key
abbrev pub found : Index → List ℕ → Option ℕ
found index text = if nat_le (length text) 7 then lookup (nat_eq (key_of text)) index.short.entries
    else lookup (λ key. bytes_eq text key.now) index.long.entries

-- an index finds the number of each of these texts
abbrev pub FindsTexts : Index → List (List ℕ) → Type 0
FindsTexts index table = (text : List ℕ) → AreBytes text → found index text ≡ number_of text table

-- the tables after a step line
abbrev pub names_after : NamedStep → List (List ℕ) → List (List ℕ)
names_after said names = option_map_or (λ name. with_text name names) (name_in said) names

abbrev pub words_after : NamedStep → List (List ℕ) → List (List ℕ)
words_after said words = option_map_or (λ of. with_text of words) (type_in said) words
