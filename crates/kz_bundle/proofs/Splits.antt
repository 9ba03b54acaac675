-- Words of a line and lines of a text, cut and joined.
use Rattle.std.proofs.Common.{◌≡◌, ℕ, ◌==◌, Bool, true, false, not, nat_lt, List, [], ◌∷◌, ◌++◌, refl, ap, sym, ◌∙◌, arith, append_assoc, append-nil}
use Rattle.std.specs.List.{list_all, slice_split, onto_first, join_with_byte}
use Rattle.std.proofs.lemmas.List.Splits.{join_with_byte-slice_split}
use Rattle.kz_model.specs.Grammar.Tokens.{tokens_of, lines_of}
use Rattle.kz_model.specs.Text.Lines.{text_of_lines}
use Rattle.kz_bundle.proofs.Choices.{left, right, all_weaker}

-- this byte is not there
abbrev pub lacks : ℕ → List ℕ → Bool
lacks c bytes = list_all (λ b. not (b == c)) bytes

-- a byte above the space
abbrev pub is_dark : ℕ → Bool
is_dark byte = nat_lt 32 byte

abbrev pub dark : List ℕ → Bool
dark bytes = list_all is_dark bytes

-- the space or a byte above it
abbrev pub is_inked : ℕ → Bool
is_inked byte = nat_lt 31 byte

abbrev pub inked : List ℕ → Bool
inked bytes = list_all is_inked bytes

dark_one : (byte : ℕ) → nat_lt 32 byte ≡ true → not (byte == 32) ≡ true
dark_one byte e = grind arith

inked_one : (byte : ℕ) → nat_lt 31 byte ≡ true → not (byte == 10) ≡ true
inked_one byte e = grind arith

ink_of_dark : (byte : ℕ) → nat_lt 32 byte ≡ true → nat_lt 31 byte ≡ true
ink_of_dark byte e = grind arith

pub lacks_space : (bytes : List ℕ) → dark bytes ≡ true → lacks 32 bytes ≡ true
lacks_space bytes e = all_weaker is_dark (λ b. not (b == 32)) dark_one bytes e

pub lacks_end : (bytes : List ℕ) → inked bytes ≡ true → lacks 10 bytes ≡ true
lacks_end bytes e = all_weaker is_inked (λ b. not (b == 10)) inked_one bytes e

pub inked_dark : (bytes : List ℕ) → dark bytes ≡ true → inked bytes ≡ true
inked_dark bytes e = all_weaker is_dark is_inked ink_of_dark bytes e

not_true : (a : Bool) → not a ≡ true → a ≡ false
not_true true e = sym e
not_true false e = refl

-- a part that ends at a byte
pub part_ends : (c : ℕ) (part rest : List ℕ) → (c == c) ≡ true → lacks c part ≡ true → slice_split (λ b. b == c) (part ++ c ∷ rest) ≡ part ∷ slice_split (λ b. b == c) rest
part_ends c [] rest same e = rw same refl
part_ends c (b ∷ part) rest same e =
    let other : (b == c) ≡ false = not_true (b == c) (left (not (b == c)) (lacks c part) e) in
    rw other (ap (onto_first b) (part_ends c part rest same (right (not (b == c)) (lacks c part) e)))

-- the last part
pub last_part : (c : ℕ) (part : List ℕ) → lacks c part ≡ true → slice_split (λ b. b == c) part ≡ part ∷ []
last_part c [] e = refl
last_part c (b ∷ part) e =
    let other : (b == c) ≡ false = not_true (b == c) (left (not (b == c)) (lacks c part) e) in
    rw other (ap (onto_first b) (last_part c part (right (not (b == c)) (lacks c part) e)))

-- ---- words

pub word_ends : (word rest : List ℕ) → dark word ≡ true → tokens_of (word ++ 32 ∷ rest) ≡ word ∷ tokens_of rest
word_ends word rest e = part_ends 32 word rest refl (lacks_space word e)

pub last_word : (word : List ℕ) → dark word ≡ true → tokens_of word ≡ word ∷ []
last_word word e = last_part 32 word (lacks_space word e)

-- words, each after a space
abbrev pub after_spaces : List (List ℕ) → List ℕ
after_spaces [] = []
after_spaces (word ∷ words) = 32 ∷ (word ++ after_spaces words)

joined_is : (word : List ℕ) (words : List (List ℕ)) → join_with_byte 32 (word ∷ words) ≡ word ++ after_spaces words
joined_is word [] = sym (append-nil word)
joined_is word (next ∷ words) = ap (λ (more : List ℕ). word ++ 32 ∷ more) (joined_is next words)

-- a line is its words
pub line_is : (line word : List ℕ) (words : List (List ℕ)) → tokens_of line ≡ word ∷ words → line ≡ word ++ after_spaces words
line_is line word words e = sym (join_with_byte-slice_split 32 line) ∙ ap (join_with_byte 32) e ∙ joined_is word words

-- ---- lines

pub lines_of-lines : (lines : List (List ℕ)) → list_all inked lines ≡ true → lines_of (text_of_lines lines) ≡ lines ++ [] ∷ []
lines_of-lines [] e = refl
lines_of-lines (line ∷ lines) e =
    ap lines_of (append_assoc line (10 ∷ []) (text_of_lines lines))
    ∙ part_ends 10 line (text_of_lines lines) refl (lacks_end line (left (inked line) (list_all inked lines) e))
    ∙ ap (λ more. line ∷ more) (lines_of-lines lines (right (inked line) (list_all inked lines) e))

joined_lines : (lines : List (List ℕ)) → join_with_byte 10 (lines ++ [] ∷ []) ≡ text_of_lines lines
joined_lines [] = refl
joined_lines (line ∷ []) = sym (append-nil (line ++ 10 ∷ []))
joined_lines (line ∷ next ∷ lines) = ap (λ (more : List ℕ). line ++ 10 ∷ more) (joined_lines (next ∷ lines)) ∙ sym (append_assoc line (10 ∷ []) (text_of_lines (next ∷ lines)))

-- a text whose last line is ended is its lines
pub text_is : (text : List ℕ) (lines : List (List ℕ)) → lines_of text ≡ lines ++ [] ∷ [] → text ≡ text_of_lines lines
text_is text lines e = sym (join_with_byte-slice_split 10 text) ∙ ap (join_with_byte 10) e ∙ joined_lines lines
