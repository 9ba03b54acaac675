-- What taking a line does to the list of a text's lines.
use Rattle.std.proofs.Common.{◌≡◌, ◌≢◌, ℕ, ◌+◌, List, [], ◌∷◌, length, false, ◌==◌, ap, ◌∙◌, arith, length-append, refl}
use Rattle.std.specs.List.{All}
use Rattle.std.proofs.lemmas.List.Splits.{slice_split_at, slice_split_none}
use Rattle.std.proofs.lemmas.Grind.{common_steps}
use Rattle.kz_model.specs.Grammar.Tokens.{lines_of}
use Rattle.kz_text.specs.Lines.{Lines, TakesLine}

-- a byte that is no end
no_end : (byte : ℕ) → byte ≢ 10 → (byte == 10) ≡ false
no_end byte h = grind (arith, common_steps)

-- the text of a line taken is the head of the list, and the lines of what is left are its tail
pub lines_of-TakesLine : {old new : Lines} {text : List ℕ} {number : ℕ} → TakesLine old new text number → lines_of old.rest ≡ text ∷ lines_of new.rest
lines_of-TakesLine {old} {new} {text} {number} taken =
    ap lines_of taken.line ∙ slice_split_at (λ byte. byte == 10) text 10 new.rest (λ i d h. no_end _ (taken.one i d h)) refl

-- where no end is left, the list is the one unended part
pub lines_of-no_end : (rest : List ℕ) → All (λ byte. byte ≢ 10) rest → lines_of rest ≡ rest ∷ []
lines_of-no_end rest none = slice_split_none (λ byte. byte == 10) rest (λ i d h. no_end _ (none i d h))

-- a line taken leaves less
pub length-TakesLine : {old new : Lines} {text : List ℕ} {number : ℕ} → TakesLine old new text number → length old.rest ≡ length text + 1 + length new.rest
length-TakesLine {old} {new} {text} {number} taken = omega (arith, length-append text (10 ∷ new.rest), ap length taken.line)
