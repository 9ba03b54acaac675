-- Lines of a text, as contracts see them.
use Rattle.std.specs.Prelude.{◌≡◌, ◌≢◌, ℕ, ◌+◌, List, ◌∷◌, ◌++◌, ◌<◌, length, take, slice_index}
use Rattle.std.specs.List.{All}

-- what stands after the last line given, and that line's number
pub record Lines : Type 0 where
  pub rest : List ℕ
  pub number : ℕ

-- the next line: its text without its end, its number, and what is left
pub record TakesLine (old new : Lines) (text : List ℕ) (number : ℕ) : Type 0 where
  pub line : old.rest ≡ text ++ 10 ∷ new.rest
  pub one : All (λ byte. byte ≢ 10) text
  pub counted : new.number ≡ old.number + 1
  pub told : number ≡ old.number + 1

-- the first line's end
pub record EndsAt (text : List ℕ) (at : ℕ) : Type 0 where
  pub within : at < length text
  pub end : slice_index text at ≡ 10
  pub none_before : All (λ byte. byte ≢ 10) (take at text)
