-- Step lines, read and written.
use Rattle.std.proofs.Common.{◌≡◌, ℕ, ◌-◌, ◌^◌, ◌<◌, ◌≤◌, ◌&&◌, Bool, true, List, [], ◌∷◌, ◌++◌, codes, Option, Some, None, refl, ap, sym, ◌∙◌, arith, subst, append_assoc, append-nil, if◌then◌else◌}
use Rattle.std.specs.Fmt.{decimal}
use Rattle.kz_model.specs.declared.grammar.Mark.{Mark}
use Rattle.kz_model.specs.declared.grammar.Mark.TheVariants.{Fine, OutOfRange, BadNumber}
use Rattle.kz_model.specs.Grammar.Tokens.{tokens_of, is, is_name, is_run, is_hex, number_in, bytes_of_hex, worse}
use Rattle.kz_model.specs.Text.Lines.{hex_bytes}
use Rattle.kz_model.specs.Grammar.Steps.{NamedStep, Alloc, AllocZero, Free, FreeAs, Give, Take, Read, Write, Flush, Trim, number_line, step_of_2, step_of_3, step_of_4, step_line}
use Rattle.kz_model.specs.Grammar.Spelling.{spaced, numbered, named_step_text, IsNamedStep, IsFrom}
use Rattle.kz_bundle.proofs.Choices.{left, right, found_same, none_found, chosen, only, is_same, is_itself}
use Rattle.kz_bundle.proofs.Splits.{dark, word_ends, last_word, line_is}
use Rattle.kz_bundle.proofs.NumberTexts.{bad_not_fine, in_word, number_in_is, ranged_is, number_in-decimal, decimal_run, decimal_dark}
use Rattle.kz_bundle.proofs.HexTexts.{hex_is, bytes_of_hex-hex_bytes, is_hex-hex_bytes, hex_dark}
use Rattle.kz_bundle.proofs.NameTexts.{name_dark}

-- ---- words of a line

pub spaced_is : (word more : List ℕ) → spaced word more ≡ word ++ 32 ∷ more
spaced_is word more = append_assoc word (32 ∷ []) more

pub spaced_words : (word more : List ℕ) (words : List (List ℕ)) → dark word ≡ true → tokens_of more ≡ words → tokens_of (spaced word more) ≡ word ∷ words
spaced_words word more words e rest = ap tokens_of (spaced_is word more) ∙ word_ends word more e ∙ ap (λ words. word ∷ words) rest

pub one_word : (line w : List ℕ) → tokens_of line ≡ w ∷ [] → line ≡ w
one_word line w e = line_is line w [] e ∙ append-nil w

pub two_words : (line w x : List ℕ) → tokens_of line ≡ w ∷ x ∷ [] → line ≡ spaced w x
two_words line w x e = line_is line w (x ∷ []) e ∙ ap (λ (more : List ℕ). w ++ 32 ∷ more) (append-nil x) ∙ sym (spaced_is w x)

pub three_words : (line w x y : List ℕ) → tokens_of line ≡ w ∷ x ∷ y ∷ [] → line ≡ spaced w (spaced x y)
three_words line w x y e =
    line_is line w (x ∷ y ∷ []) e ∙ ap (λ (more : List ℕ). w ++ 32 ∷ (x ++ 32 ∷ more)) (append-nil y)
    ∙ ap (λ (more : List ℕ). w ++ 32 ∷ more) (sym (spaced_is x y)) ∙ sym (spaced_is w (spaced x y))

pub four_words : (line w x y v : List ℕ) → tokens_of line ≡ w ∷ x ∷ y ∷ v ∷ [] → line ≡ spaced w (spaced x (spaced y v))
four_words line w x y v e =
    line_is line w (x ∷ y ∷ v ∷ []) e ∙ ap (λ (more : List ℕ). w ++ 32 ∷ (x ++ 32 ∷ (y ++ 32 ∷ more))) (append-nil v)
    ∙ ap (λ (more : List ℕ). w ++ 32 ∷ (x ++ 32 ∷ more)) (sym (spaced_is y v))
    ∙ ap (λ (more : List ℕ). w ++ 32 ∷ more) (sym (spaced_is x (spaced y v))) ∙ sym (spaced_is w (spaced x (spaced y v)))

-- ---- marks

pub worse_left : (a b : Mark) → worse a b ≡ Fine → a ≡ Fine
worse_left Fine b e = refl
worse_left OutOfRange Fine e = e
worse_left OutOfRange OutOfRange e = e
worse_left OutOfRange BadNumber e = absurd (bad_not_fine e)
worse_left BadNumber b e = e

pub worse_right : (a b : Mark) → worse a b ≡ Fine → b ≡ Fine
worse_right Fine b e = e
worse_right OutOfRange Fine e = refl
worse_right OutOfRange OutOfRange e = e
worse_right OutOfRange BadNumber e = e
worse_right BadNumber b e = absurd (bad_not_fine e)

-- ---- a word and a number

pub number_line_is : (word : List ℕ) (low high : ℕ) (text : List ℕ) (n : ℕ) → number_line word low high (tokens_of text) ≡ Some (n, Fine) → (text ≡ numbered word n) × IsFrom low high n
number_line_is word low high text n e = by_words (tokens_of text) refl e
  where
    by_words : (words : List (List ℕ)) → tokens_of text ≡ words → number_line word low high words ≡ Some (n, Fine) → (text ≡ numbered word n) × IsFrom low high n
    by_words [] cut e = none_found (n, Fine) e
    by_words (w ∷ []) cut e = none_found (n, Fine) e
    by_words (w ∷ x ∷ []) cut e =
        only (is word w && is_run x) (Some (number_in low high x)) (n, Fine) (λ both e.
        let number = number_in_is low high x n (found_same (number_in low high x) (n, Fine) e) in
        (two_words text w x cut ∙ ap (λ (w : List ℕ). spaced w x) (is_same word w (left (is word w) (is_run x) both)) ∙ ap (spaced word) number.0, number.1)) e
    by_words (w ∷ x ∷ y ∷ words) cut e = none_found (n, Fine) e

pub number_line_reads : (word : List ℕ) (low high n : ℕ) → dark word ≡ true → IsFrom low high n → high < 2 ^ 64 → number_line word low high (tokens_of (numbered word n)) ≡ Some (n, Fine)
number_line_reads word low high n e is small =
    let few = in_word low high n is small in
    ap (number_line word low high) (spaced_words word (decimal n) (decimal n ∷ []) e (last_word (decimal n) (decimal_dark n few)))
    ∙ ap (λ b. if b && is_run (decimal n) then Some (number_in low high (decimal n)) else None) (is_itself word)
    ∙ ap (λ b. if b then Some (number_in low high (decimal n)) else None) (decimal_run n few)
    ∙ ap (λ (found : ℕ × Mark). Some found) (number_in-decimal low high n is small)

-- ---- what a step line says

abbrev pub SaysStep : ℕ → List ℕ → NamedStep → Type 0
SaysStep cpus text said = (text ≡ named_step_text said) × IsNamedStep cpus said

abbrev found : NamedStep → Mark → Option (NamedStep × Mark)
found said mark = Some (said, mark)

-- what is found is what is said
says_found : (cpus : ℕ) (text : List ℕ) (a said : NamedStep) (mark : Mark) → found a mark ≡ found said Fine → (mark ≡ Fine → SaysStep cpus text a) → SaysStep cpus text said
says_found cpus text a said mark e says =
    let same = found_same (a, mark) (said, Fine) e in
    subst (SaysStep cpus text) (ap (λ (f : NamedStep × Mark). f.0) same) (says (ap (λ (f : NamedStep × Mark). f.1) same))

-- the first word
head_is : (word w more : List ℕ) → is word w ≡ true → spaced w more ≡ spaced word more
head_is word w more e = ap (λ (w : List ℕ). spaced w more) (is_same word w e)

says_2 : (cpus : ℕ) (w x : List ℕ) (said : NamedStep) → step_of_2 w x ≡ Some (said, Fine) → SaysStep cpus (spaced w x) said
says_2 cpus w x said =
    chosen (is (codes "f") w && is_name x) _ _ _
    (λ t e. says_found cpus (spaced w x) (Free x) said Fine e (λ fine. (head_is (codes "f") w x (left (is (codes "f") w) (is_name x) t), right (is (codes "f") w) (is_name x) t)))
    (λ f. chosen (is (codes "t") w && is_name x) _ _ _
    (λ t e. says_found cpus (spaced w x) (Take x) said Fine e (λ fine. (head_is (codes "t") w x (left (is (codes "t") w) (is_name x) t), right (is (codes "t") w) (is_name x) t)))
    (λ f. chosen (is (codes "flush") w && is_name x) _ _ _
    (λ t e. says_found cpus (spaced w x) (Flush x) said Fine e (λ fine. (head_is (codes "flush") w x (left (is (codes "flush") w) (is_name x) t), right (is (codes "flush") w) (is_name x) t)))
    (λ f. only (is (codes "trim") w && is_name x) _ _
    (λ t e. says_found cpus (spaced w x) (Trim x) said Fine e (λ fine. (head_is (codes "trim") w x (left (is (codes "trim") w) (is_name x) t), right (is (codes "trim") w) (is_name x) t))))))

-- the parts of a test of three
module _ (a b c : Bool) (t : (a && b && c) ≡ true) where
  first_3 : a ≡ true
  first_3 = left a b (left (a && b) c t)

  second_3 : b ≡ true
  second_3 = right a b (left (a && b) c t)

  third_3 : c ≡ true
  third_3 = right (a && b) c t

says_3 : (cpus : ℕ) (w x y : List ℕ) (said : NamedStep) → step_of_3 cpus w x y ≡ Some (said, Fine) → SaysStep cpus (spaced w (spaced x y)) said
says_3 cpus w x y said =
    chosen (is (codes "a") w && is_name x && is_name y) _ _ _
    (λ t e. says_found cpus (spaced w (spaced x y)) (Alloc x y) said Fine e (λ fine. (head_is (codes "a") w (spaced x y) (first_3 (is (codes "a") w) (is_name x) (is_name y) t), (second_3 (is (codes "a") w) (is_name x) (is_name y) t, third_3 (is (codes "a") w) (is_name x) (is_name y) t))))
    (λ f. chosen (is (codes "z") w && is_name x && is_name y) _ _ _
    (λ t e. says_found cpus (spaced w (spaced x y)) (AllocZero x y) said Fine e (λ fine. (head_is (codes "z") w (spaced x y) (first_3 (is (codes "z") w) (is_name x) (is_name y) t), (second_3 (is (codes "z") w) (is_name x) (is_name y) t, third_3 (is (codes "z") w) (is_name x) (is_name y) t))))
    (λ f. chosen (is (codes "f") w && is_name x && is_name y) _ _ _
    (λ t e. says_found cpus (spaced w (spaced x y)) (FreeAs x y) said Fine e (λ fine. (head_is (codes "f") w (spaced x y) (first_3 (is (codes "f") w) (is_name x) (is_name y) t), (second_3 (is (codes "f") w) (is_name x) (is_name y) t, third_3 (is (codes "f") w) (is_name x) (is_name y) t))))
    (λ f. only (is (codes "g") w && is_name x && is_run y) _ _
    (λ t e. says_found cpus (spaced w (spaced x y)) (Give x (number_in 0 (cpus - 1) y).0) said (number_in 0 (cpus - 1) y).1 e (λ fine.
    let number = ranged_is 0 (cpus - 1) y fine in
    (head_is (codes "g") w (spaced x y) (first_3 (is (codes "g") w) (is_name x) (is_run y) t) ∙ ap (λ (y : List ℕ). spaced (codes "g") (spaced x y)) number.0, (second_3 (is (codes "g") w) (is_name x) (is_run y) t, number.1)))))))

module _ (a b c d : Bool) (t : (a && b && c && d) ≡ true) where
  first_4 : a ≡ true
  first_4 = first_3 a b c (left (a && b && c) d t)

  second_4 : b ≡ true
  second_4 = second_3 a b c (left (a && b && c) d t)

  fourth_4 : d ≡ true
  fourth_4 = right (a && b && c) d t

says_4 : (cpus : ℕ) (w x y v : List ℕ) (said : NamedStep) → step_of_4 w x y v ≡ Some (said, Fine) → SaysStep cpus (spaced w (spaced x (spaced y v))) said
says_4 cpus w x y v said =
    chosen (is (codes "r") w && is_name x && is_run y && is_run v) _ _ _
    (λ t e. says_found cpus (spaced w (spaced x (spaced y v))) (Read x (number_in 0 8191 y).0 (number_in 1 32 v).0) said (worse (number_in 0 8191 y).1 (number_in 1 32 v).1) e (λ fine.
    let off = ranged_is 0 8191 y (worse_left _ _ fine) in
    let len = ranged_is 1 32 v (worse_right _ _ fine) in (
      head_is (codes "r") w (spaced x (spaced y v)) (first_4 (is (codes "r") w) (is_name x) (is_run y) (is_run v) t)
          ∙ ap (λ (y : List ℕ). spaced (codes "r") (spaced x (spaced y v))) off.0
          ∙ ap (λ (v : List ℕ). spaced (codes "r") (spaced x (spaced (decimal (number_in 0 8191 y).0) v))) len.0,
      (second_4 (is (codes "r") w) (is_name x) (is_run y) (is_run v) t, off.1, len.1),
    )))
    (λ f. only (is (codes "w") w && is_name x && is_run y && is_hex v) _ _
    (λ t e. says_found cpus (spaced w (spaced x (spaced y v))) (Write x (number_in 0 8191 y).0 (bytes_of_hex v)) said (number_in 0 8191 y).1 e (λ fine.
    let off = ranged_is 0 8191 y fine in
    let hex = hex_is v (fourth_4 (is (codes "w") w) (is_name x) (is_run y) (is_hex v) t) in (
      head_is (codes "w") w (spaced x (spaced y v)) (first_4 (is (codes "w") w) (is_name x) (is_run y) (is_hex v) t)
          ∙ ap (λ (y : List ℕ). spaced (codes "w") (spaced x (spaced y v))) off.0
          ∙ ap (λ (v : List ℕ). spaced (codes "w") (spaced x (spaced (decimal (number_in 0 8191 y).0) v))) hex.0,
      (second_4 (is (codes "w") w) (is_name x) (is_run y) (is_hex v) t, off.1, hex.1, hex.2),
    ))))

pub step_says : (cpus : ℕ) (text : List ℕ) (said : NamedStep) → step_line cpus (tokens_of text) ≡ Some (said, Fine) → SaysStep cpus text said
step_says cpus text said e = by_words (tokens_of text) refl e
  where
    by_words : (words : List (List ℕ)) → tokens_of text ≡ words → step_line cpus words ≡ Some (said, Fine) → SaysStep cpus text said
    by_words [] cut e = none_found (said, Fine) e
    by_words (w ∷ []) cut e = none_found (said, Fine) e
    by_words (w ∷ x ∷ []) cut e = subst (λ text. SaysStep cpus text said) (sym (two_words text w x cut)) (says_2 cpus w x said e)
    by_words (w ∷ x ∷ y ∷ []) cut e = subst (λ text. SaysStep cpus text said) (sym (three_words text w x y cut)) (says_3 cpus w x y said e)
    by_words (w ∷ x ∷ y ∷ v ∷ []) cut e = subst (λ text. SaysStep cpus text said) (sym (four_words text w x y v cut)) (says_4 cpus w x y v said e)
    by_words (w ∷ x ∷ y ∷ v ∷ u ∷ words) cut e = none_found (said, Fine) e

-- ---- how a step line is read

pub words_2 : (w x : List ℕ) → dark w ≡ true → dark x ≡ true → tokens_of (spaced w x) ≡ w ∷ x ∷ []
words_2 w x dw dx = spaced_words w x (x ∷ []) dw (last_word x dx)

words_3 : (w x y : List ℕ) → dark w ≡ true → dark x ≡ true → dark y ≡ true → tokens_of (spaced w (spaced x y)) ≡ w ∷ x ∷ y ∷ []
words_3 w x y dw dx dy = spaced_words w (spaced x y) (x ∷ y ∷ []) dw (words_2 x y dx dy)

words_4 : (w x y v : List ℕ) → dark w ≡ true → dark x ≡ true → dark y ≡ true → dark v ≡ true → tokens_of (spaced w (spaced x (spaced y v))) ≡ w ∷ x ∷ y ∷ v ∷ []
words_4 w x y v dw dx dy dv = spaced_words w (spaced x (spaced y v)) (x ∷ y ∷ v ∷ []) dw (words_3 x y v dx dy dv)

-- the words of what is said
abbrev pub said_words : NamedStep → List (List ℕ)
said_words (Alloc name of) = codes "a" ∷ name ∷ of ∷ []
said_words (AllocZero name of) = codes "z" ∷ name ∷ of ∷ []
said_words (Free name) = codes "f" ∷ name ∷ []
said_words (FreeAs name of) = codes "f" ∷ name ∷ of ∷ []
said_words (Give name to) = codes "g" ∷ name ∷ decimal to ∷ []
said_words (Take name) = codes "t" ∷ name ∷ []
said_words (Read name off len) = codes "r" ∷ name ∷ decimal off ∷ decimal len ∷ []
said_words (Write name off bytes) = codes "w" ∷ name ∷ decimal off ∷ hex_bytes bytes ∷ []
said_words (Flush of) = codes "flush" ∷ of ∷ []
said_words (Trim of) = codes "trim" ∷ of ∷ []

pub tokens_of-said : (cpus : ℕ) (said : NamedStep) → cpus ≤ 2 ^ 64 → IsNamedStep cpus said → tokens_of (named_step_text said) ≡ said_words said
tokens_of-said cpus (Alloc name of) small is = words_3 (codes "a") name of refl (name_dark name is.0) (name_dark of is.1)
tokens_of-said cpus (AllocZero name of) small is = words_3 (codes "z") name of refl (name_dark name is.0) (name_dark of is.1)
tokens_of-said cpus (Free name) small is = words_2 (codes "f") name refl (name_dark name is)
tokens_of-said cpus (FreeAs name of) small is = words_3 (codes "f") name of refl (name_dark name is.0) (name_dark of is.1)
tokens_of-said cpus (Give name to) small is = words_3 (codes "g") name (decimal to) refl (name_dark name is.0) (decimal_dark to (in_word 0 (cpus - 1) to is.1 (omega arith)))
tokens_of-said cpus (Take name) small is = words_2 (codes "t") name refl (name_dark name is)
tokens_of-said cpus (Read name off len) small is =
    words_4 (codes "r") name (decimal off) (decimal len) refl (name_dark name is.0) (decimal_dark off (in_word 0 8191 off is.1 (omega arith))) (decimal_dark len (in_word 1 32 len is.2 (omega arith)))
tokens_of-said cpus (Write name off bytes) small is =
    words_4 (codes "w") name (decimal off) (hex_bytes bytes) refl (name_dark name is.0) (decimal_dark off (in_word 0 8191 off is.1 (omega arith))) (hex_dark bytes is.3)
tokens_of-said cpus (Flush of) small is = words_2 (codes "flush") of refl (name_dark of is)
tokens_of-said cpus (Trim of) small is = words_2 (codes "trim") of refl (name_dark of is)

pub step_reads : (cpus : ℕ) (said : NamedStep) → cpus ≤ 2 ^ 64 → IsNamedStep cpus said → step_line cpus (said_words said) ≡ Some (said, Fine)
step_reads cpus (Alloc name of) small is = rw (is.0, is.1) refl
step_reads cpus (AllocZero name of) small is = rw (is.0, is.1) refl
step_reads cpus (Free name) small is = rw is refl
step_reads cpus (FreeAs name of) small is = rw (is.0, is.1) refl
step_reads cpus (Give name to) small is =
    let number = number_in-decimal 0 (cpus - 1) to is.1 (omega arith) in
    let run = decimal_run to (in_word 0 (cpus - 1) to is.1 (omega arith)) in
    rw (is.0, run, number) refl
step_reads cpus (Take name) small is = rw is refl
step_reads cpus (Read name off len) small is =
    let at = number_in-decimal 0 8191 off is.1 (omega arith) in
    let long = number_in-decimal 1 32 len is.2 (omega arith) in
    let run = decimal_run off (in_word 0 8191 off is.1 (omega arith)) in
    let more = decimal_run len (in_word 1 32 len is.2 (omega arith)) in
    rw (is.0, run, more, at, long) refl
step_reads cpus (Write name off bytes) small is =
    let at = number_in-decimal 0 8191 off is.1 (omega arith) in
    let run = decimal_run off (in_word 0 8191 off is.1 (omega arith)) in
    let hex = is_hex-hex_bytes bytes is.2 is.3 in
    rw (is.0, run, hex, at, bytes_of_hex-hex_bytes bytes is.3) refl
step_reads cpus (Flush of) small is = rw is refl
step_reads cpus (Trim of) small is = rw is refl
