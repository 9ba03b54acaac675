-- What a writer leaves that draws words of a number's stream.
use Rattle.std.specs.Prelude.{◌≡◌, ℕ, List, ◌++◌, Option}
use Rattle.rand_pcg.specs.Lcg.{Lcg}
use Rattle.kz_model.specs.declared.bundle.Seed.TheVariants.{Number}
use Rattle.kz_model.specs.Zone.Words.{words_after}

-- the number's stream after its first j words
abbrev pub words_at : ℕ → ℕ → Option Lcg
words_at number j = words_after (Number number) 1000 j

-- a piece is written behind a text, and the stream stands behind j words
pub record IsWritten (number j : ℕ) (stream : Option Lcg) (before piece now : List ℕ) : Type 0 where
  pub text : now ≡ before ++ piece
  pub words : stream ≡ words_at number j
