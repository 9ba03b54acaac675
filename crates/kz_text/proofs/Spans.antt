-- The spans of the words of a line.
use Rattle.std.proofs.Common.{◌≡◌, ◌≢◌, ℕ, suc, ◌+◌, ◌-◌, ◌≤◌, ◌==◌, List, [], ◌∷◌, ◌++◌, length, take, drop, false, refl, ap, sym, ◌∙◌, arith, add-one, length-append, length-drop, length-take, append_assoc}
use Rattle.std.specs.Prelude.{map}
use Rattle.std.specs.List.{All, join_with_byte}
use Rattle.std.proofs.Math.Seq.{take-append_seam, drop-append-add, drop-cons}
use Rattle.std.proofs.lemmas.List.{take-append-drop, drop-drop, append-nil}
use Rattle.std.proofs.lemmas.List.Elements.{All-cons}
use Rattle.std.proofs.lemmas.List.Splits.{slice_split_at, slice_split_none, join_with_byte-slice_split}
use Rattle.std.proofs.lemmas.Grind.{common_steps}
use Rattle.kz_text.specs.declared.token.Token.{Token}
use Rattle.kz_model.specs.Grammar.Tokens.{tokens_of}
use Rattle.kz_text.specs.Tokens.{text_of, tokens_from, SpaceAt}

-- a byte that is no space
no_space : (byte : ℕ) → byte ≢ 32 → (byte == 32) ≡ false
no_space byte h = grind (arith, common_steps)

-- a line is its first word, the space and what follows
first_word : (line : List ℕ) (at : ℕ) → SpaceAt line at → line ≡ take at line ++ 32 ∷ drop (at + 1) line
first_word line at h =
    sym (take-append-drop at line) ∙ ap (λ xs. take at line ++ xs) (drop-cons line at 0 h.within ∙ ap (λ byte. byte ∷ drop (suc at) line) h.space)
    ∙ ap (λ n. take at line ++ 32 ∷ drop n line) (sym (add-one at))

-- the first word is taken off
pub tokens_of-SpaceAt : (line : List ℕ) (at : ℕ) → SpaceAt line at → tokens_of line ≡ take at line ∷ tokens_of (drop (at + 1) line)
tokens_of-SpaceAt line at h =
    ap tokens_of (first_word line at h) ∙ slice_split_at (λ byte. byte == 32) (take at line) 32 (drop (at + 1) line) (λ i d k. no_space _ (h.none_before i d k)) refl

-- a line with no space is one word
pub tokens_of-no_space : (line : List ℕ) → All (λ byte. byte ≢ 32) line → tokens_of line ≡ line ∷ []
tokens_of-no_space line none = slice_split_none (λ byte. byte == 32) line (λ i d h. no_space _ (none i d h))

-- what a span holds where a word begins
span_is : (line : List ℕ) (at : ℕ) (word more : List ℕ) → drop at line ≡ word ++ more → take (at + length word - at) (drop at line) ≡ word
span_is line at word more h =
    let same : at + length word - at ≡ length word = omega arith in
    ap (λ n. take n (drop at line)) same ∙ ap (λ xs. take (length word) xs) h ∙ take-append_seam word more

-- what stands after a word and a byte
after_word : (line : List ℕ) (at : ℕ) (word : List ℕ) (byte : ℕ) (more : List ℕ) → drop at line ≡ word ++ byte ∷ more → drop (at + length word + 1) line ≡ more
after_word line at word byte more h =
    let same : at + length word + 1 ≡ at + (length word + 1) = omega arith in
    ap (λ n. drop n line) same ∙ sym (drop-drop (length word + 1) at line) ∙ ap (λ xs. drop (length word + 1) xs) h ∙ drop-append-add word (byte ∷ more) 1

-- the spans hold the words
texts_from : (line : List ℕ) (number at : ℕ) (words : List (List ℕ)) → drop at line ≡ join_with_byte 32 words → map (text_of line) (tokens_from number at words) ≡ words
texts_from line number at [] h = refl
texts_from line number at (word ∷ []) h = ap (λ text. text ∷ []) (span_is line at word [] (h ∙ sym (append-nil word)))
texts_from line number at (word ∷ next ∷ words) h =
    let more = join_with_byte 32 (next ∷ words) in
    ap (λ text. text ∷ map (text_of line) (tokens_from number (at + length word + 1) (next ∷ words))) (span_is line at word (32 ∷ more) h)
    ∙ ap (λ texts. word ∷ texts) (texts_from line number (at + length word + 1) (next ∷ words) (after_word line at word 32 more h))

-- the tokens of a line hold its words
pub texts_of_tokens : (line : List ℕ) (number : ℕ) → map (text_of line) (tokens_from number 0 (tokens_of line)) ≡ tokens_of line
texts_of_tokens line number = texts_from line number 0 (tokens_of line) (sym (join_with_byte-slice_split 32 line))

abbrev pub IsWithin : List ℕ → Token → Type 0
IsWithin line token = (token.from ≤ token.to) × (token.to ≤ length line)

-- the spans are within the line
within_from : (line : List ℕ) (number at : ℕ) (words : List (List ℕ)) → at ≤ length line → drop at line ≡ join_with_byte 32 words → All (IsWithin line) (tokens_from number at words)
within_from line number at [] fits h = λ i d k. absurd (omega arith)
within_from line number at (word ∷ []) fits h =
    All-cons (IsWithin line) (record { line = number; from = at; to = at + length word }) [] (omega arith, omega (arith, length-drop at line, ap length h)) (λ i d k. absurd (omega arith))
within_from line number at (word ∷ next ∷ words) fits h =
    let more = join_with_byte 32 (next ∷ words) in
    let long : at + length word + 1 ≤ length line = omega (arith, length-drop at line, ap length h, length-append word (32 ∷ more)) in
    All-cons (IsWithin line) (record { line = number; from = at; to = at + length word }) (tokens_from number (at + length word + 1) (next ∷ words)) (omega arith, omega arith)
    (within_from line number (at + length word + 1) (next ∷ words) long (after_word line at word 32 more h))

pub tokens_within : (line : List ℕ) (number : ℕ) → All (IsWithin line) (tokens_from number 0 (tokens_of line))
tokens_within line number = within_from line number 0 (tokens_of line) (omega arith) (sym (join_with_byte-slice_split 32 line))

abbrev token_at : ℕ → ℕ → ℕ → Token
token_at number from to = record { line = number; from = from; to = to }

-- the first of the tokens, and the others
first_token : (number from n at next : ℕ) (token : Token) (words others : List (List ℕ)) → n ≡ at → from + at + 1 ≡ next → token ≡ token_at number from (from + at) → words ≡ others →
    token_at number from (from + n) ∷ tokens_from number (from + n + 1) words ≡ token ∷ tokens_from number next others
first_token number from n at next token words others same after is left =
    ap (λ m. token_at number from (from + m) ∷ tokens_from number (from + m + 1) words) same ∙ ap (λ m. token_at number from (from + at) ∷ tokens_from number m words) after
    ∙ ap (λ t. t ∷ tokens_from number next words) (sym is) ∙ ap (λ ws. token ∷ tokens_from number next ws) left

-- after one token more, the tokens so far and those of what is left are still the line's
pub more_tokens : (number from at next : ℕ) (items new whole : List Token) (token : Token) (rest left : List ℕ) → SpaceAt rest at → from + at + 1 ≡ next → left ≡ drop (at + 1) rest →
    token ≡ token_at number from (from + at) → new ≡ items ++ token ∷ [] → items ++ tokens_from number from (tokens_of rest) ≡ whole → new ++ tokens_from number next (tokens_of left) ≡ whole
more_tokens number from at next items new whole token rest left h after left_is token_is new_is so_far =
    let within = h.within in
    let same : length (take at rest) ≡ at = omega (arith, length-take at rest) in
    let step : tokens_from number from (tokens_of rest) ≡ token ∷ tokens_from number next (tokens_of left)
    = ap (λ ws. tokens_from number from ws) (tokens_of-SpaceAt rest at h)
    ∙ first_token number from (length (take at rest)) at next token (tokens_of (drop (at + 1) rest)) (tokens_of left) same after token_is (ap tokens_of (sym left_is)) in
    ap (λ ts. ts ++ tokens_from number next (tokens_of left)) new_is ∙ append_assoc items (token ∷ []) (tokens_from number next (tokens_of left)) ∙ ap (λ ts. items ++ ts) (sym step) ∙ so_far

-- after the last token, the tokens are the line's
pub last_token : (number from : ℕ) (items new whole : List Token) (token : Token) (rest : List ℕ) → All (λ byte. byte ≢ 32) rest → token ≡ token_at number from (from + length rest) →
    new ≡ items ++ token ∷ [] → items ++ tokens_from number from (tokens_of rest) ≡ whole → new ≡ whole
last_token number from items new whole token rest none token_is new_is so_far =
    let one : tokens_from number from (tokens_of rest) ≡ token ∷ [] = ap (λ ws. tokens_from number from ws) (tokens_of-no_space rest none) ∙ ap (λ t. t ∷ []) (sym token_is) in
    new_is ∙ ap (λ ts. items ++ ts) (sym one) ∙ so_far
