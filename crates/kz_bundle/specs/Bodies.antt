-- Labels as the definitions have them, and the words of a rest.
use Rattle.std.specs.Prelude.{◌≡◌, ◌≢◌, ℕ, ◌<◌, List, [], length, take, All, Option, slice_index}
use Rattle.std.specs.Borrow.{Bor}
use Rattle.std.specs.Option.{option_map_or}
use Rattle.kz_model.specs.declared.grammar.Mark.{Mark}
use Rattle.kz_model.specs.Grammar.Tokens.{tokens_of}
use Rattle.kz_bundle.specs.declared.form.label.Label.{Label}

abbrev pub HasNoBracket : List ℕ → Type 0
HasNoBracket word = All (λ byte. byte ≢ 91) word

-- the first `[`
pub record IsFirstBracket (word : List ℕ) (at : ℕ) : Type 0 where
  pub within : at < length word
  pub bracket : slice_index word at ≡ 91
  pub none_before : HasNoBracket (take at word)

abbrev pub label_as : Label → List ℕ × (ℕ × Mark)
label_as l = (l.name.now, (l.count, l.mark))

-- the words of a rest, where there is one
abbrev pub words_in : Option (Bor (List ℕ)) → List (List ℕ)
words_in rest = option_map_or (λ text. tokens_of text.now) rest []
