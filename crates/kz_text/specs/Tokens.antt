-- The tokens of a line, as contracts see them.
use Rattle.std.specs.Prelude.{◌≡◌, ◌≢◌, ℕ, ◌+◌, ◌<◌, List, [], ◌∷◌, length, take, slice_index, slice_range}
use Rattle.std.specs.List.{All}
use Rattle.kz_text.specs.declared.token.Token.{Token}

-- what a token spans of a line
abbrev pub text_of : List ℕ → Token → List ℕ
text_of line token = slice_range line token.from token.to

-- the tokens of these words of a line with this number, where the first begins at this place and one byte stands
-- between two
abbrev pub tokens_from : ℕ → ℕ → List (List ℕ) → List Token
tokens_from number from [] = []
tokens_from number from (word ∷ words) =
    record { line = number; from = from; to = from + length word } ∷ tokens_from number (from + length word + 1) words

-- the first space
pub record SpaceAt (text : List ℕ) (at : ℕ) : Type 0 where
  pub within : at < length text
  pub space : slice_index text at ≡ 32
  pub none_before : All (λ byte. byte ≢ 32) (take at text)
