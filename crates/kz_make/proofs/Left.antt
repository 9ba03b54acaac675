-- What a loop has left to write, which draws words of a number's stream.
use Rattle.std.proofs.Common.{◌≡◌, ℕ, suc, ◌+◌, ◌-◌, List, [], ◌++◌, Option, refl, ap, sym, ◌∙◌, arith, add-one, append_assoc, append-nil}
use Rattle.rand_pcg.specs.Lcg.{Lcg}
use Rattle.kz_model.specs.Zone.Words.{word_of, rest_of}
use Rattle.kz_model.specs.Text.Made.{drawn}
use Rattle.kz_make.specs.Writing.{words_at, IsWritten}

-- The stream stands at some word. From there `text` is left to write, and then the words have come to `last`.
pub record Left (number : ℕ) (words : Option Lcg) (out whole : List ℕ) (text : ℕ → List ℕ) (last : ℕ → ℕ) (end : ℕ) : Type 0 where
  pub at : ℕ
  pub words_are : words ≡ words_at number at
  pub text_is : out ++ text at ≡ whole
  pub ends : last at ≡ end

pub none_gone : (n : ℕ) → n - 0 ≡ n
none_gone n = omega arith

-- one more piece is written
pub left_more : (number : ℕ) (words after : Option Lcg) (out now whole : List ℕ) (text later : ℕ → List ℕ) (last further : ℕ → ℕ) (end next : ℕ) (piece : List ℕ) (l : Left number words out whole text last end) →
    text l.at ≡ piece ++ later next → last l.at ≡ further next → IsWritten number next after out piece now → Left number after now whole later further end
left_more number words after out now whole text later last further end next piece l more on is = record {
  at = next;
  words_are = is.words;
  text_is = ap (λ (s : List ℕ). s ++ later next) is.text ∙ append_assoc out piece (later next) ∙ ap (λ (s : List ℕ). out ++ s) (sym more) ∙ l.text_is;
  ends = sym on ∙ l.ends;
}

-- nothing is left
pub left_none : (number : ℕ) (words : Option Lcg) (before out all : List ℕ) (text : ℕ → List ℕ) (last : ℕ → ℕ) (end : ℕ) (l : Left number words out (before ++ all) text last end) →
    text l.at ≡ [] → last l.at ≡ l.at → IsWritten number end words before all out
left_none number words before out all text last end l none here = record {
  text = sym (append-nil out) ∙ ap (λ (s : List ℕ). out ++ s) (sym none) ∙ l.text_is;
  words = l.words_are ∙ ap (words_at number) (sym here ∙ l.ends);
}

-- ---- words

pub words_more : (number j : ℕ) → rest_of (words_at number j) ≡ words_at number (j + 1)
words_more number j = ap (words_at number) (sym (add-one j))

-- a word was drawn
pub record IsDrawn (number j word : ℕ) (rest : Option Lcg) : Type 0 where
  pub word_is : word ≡ drawn number j
  pub rest_is : rest ≡ words_at number (j + 1)

pub is_drawn : (number j word : ℕ) (words rest : Option Lcg) → words ≡ words_at number j → word ≡ word_of words → rest ≡ rest_of words → IsDrawn number j word rest
is_drawn number j word words rest at e f = record {
  word_is = e ∙ ap word_of at;
  rest_is = f ∙ ap rest_of at ∙ words_more number j;
}
