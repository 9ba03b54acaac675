-- Rows of a table of forms, tried on words.
use Rattle.std.proofs.Common.{◌≡◌, ◌⊎◌, inl, inr, ℕ, ◌&&◌, ◌||◌, Bool, true, false, not, if◌then◌else◌, List, [], ◌∷◌, Option, Some, None, refl, ap, sym, ◌∙◌, subst}
use Rattle.kz_model.specs.declared.grammar.Mark.{Mark}
use Rattle.kz_model.specs.declared.grammar.Mark.TheVariants.{Fine}
use Rattle.kz_model.specs.Grammar.Tokens.{is, is_name, is_run, is_hex, number_in, worse}
use Rattle.kz_bundle.proofs.Choices.{wrong, left, right, and_true, is_same, is_itself}
use Rattle.kz_grammar.specs.Forms.{Hole, Token, Text, Run, WithCount, token_text, words_of, holes_of, Slot, Word, Name, Hex, Number, IsNoneOf, Fills, HasRow, HasOneOf}

-- ---- marks

abbrev pub mark_of_hole : Hole → Mark
mark_of_hole hole = (number_in hole.low hole.high hole.run).1

-- the worst of all
abbrev pub mark_of_holes : List Hole → Mark
mark_of_holes [] = Fine
mark_of_holes (hole ∷ holes) = worse (mark_of_hole hole) (mark_of_holes holes)

abbrev pub mark_of : List Token → Mark
mark_of tokens = mark_of_holes (holes_of tokens)

-- ---- what is found

-- What is found of these words is right by these forms: nothing where the words are of no form; else they are of one
-- form, and the mark is that of its numbers.
pub record Fits (F : List Token → Type 0) (words : List (List ℕ)) (mark : Mark) : Type 0 where
  pub tokens : List Token
  pub form : F tokens
  pub text : words ≡ words_of tokens
  pub marked : mark ≡ mark_of tokens
  pub alone : (others : List Token) → F others → words ≡ words_of others → others ≡ tokens

abbrev pub IsRightBy : {A : Type 0} → (List Token → Type 0) → List (List ℕ) → Option (A × Mark) → Type 0
IsRightBy F words None = (tokens : List Token) → F tokens → words ≡ words_of tokens → ⊥
IsRightBy F words (Some found) = Fits F words found.1

-- ---- a slot

abbrev pub is_none_of : List ℕ → List (List ℕ) → Bool
is_none_of text [] = true
is_none_of text (word ∷ words) = not (is word text) && is_none_of text words

abbrev pub fits_slot : Slot → List ℕ → Bool
fits_slot (Word word) text = is word text
fits_slot Name text = is_name text
fits_slot Hex text = is_hex text
fits_slot (Number words low high) text = is_none_of text words && is_run text

abbrev pub token_at : Slot → List ℕ → Token
token_at (Number words low high) text = Run (record { low = low; high = high; run = text })
token_at other text = Text text

differs : (text word : List ℕ) → ¬ (text ≡ word) → not (is word text) ≡ true
differs text word other = by_test (is word text) refl
  where
    by_test : (b : Bool) → is word text ≡ b → not b ≡ true
    by_test true e = absurd (other (is_same word text e))
    by_test false e = refl

differs_not : (text word : List ℕ) → not (is word text) ≡ true → ¬ (text ≡ word)
differs_not text word e same = wrong (sym (sym e ∙ ap (λ (t : List ℕ). not (is word t)) same ∙ ap not (is_itself word)))

none_of : (text : List ℕ) (words : List (List ℕ)) → is_none_of text words ≡ true → IsNoneOf text words
none_of text [] e = tt
none_of text (word ∷ words) e =
    (differs_not text word (left (not (is word text)) (is_none_of text words) e), none_of text words (right (not (is word text)) (is_none_of text words) e))

is_none : (text : List ℕ) (words : List (List ℕ)) → IsNoneOf text words → is_none_of text words ≡ true
is_none text [] e = refl
is_none text (word ∷ words) e = and_true (not (is word text)) (is_none_of text words) (differs text word e.0) (is_none text words e.1)

pub slot_fills : (slot : Slot) (text : List ℕ) → fits_slot slot text ≡ true → Fills (token_at slot text) slot
slot_fills (Word word) text e = is_same word text e
slot_fills Name text e = e
slot_fills Hex text e = e
slot_fills (Number words low high) text e = (refl, refl, none_of text words (left (is_none_of text words) (is_run text) e), right (is_none_of text words) (is_run text) e)

pub slot_text : (slot : Slot) (text : List ℕ) → text ≡ token_text (token_at slot text)
slot_text (Word word) text = refl
slot_text Name text = refl
slot_text Hex text = refl
slot_text (Number words low high) text = refl

pub fills_slot : (token : Token) (slot : Slot) → Fills token slot → fits_slot slot (token_text token) ≡ true
fills_slot (Text text) (Word word) fills = ap (is word) fills ∙ is_itself word
fills_slot (Text text) Name fills = fills
fills_slot (Text text) Hex fills = fills
fills_slot (Text text) (Number words low high) fills = absurd fills
fills_slot (Run hole) (Number words low high) fills = and_true (is_none_of hole.run words) (is_run hole.run) (is_none hole.run words fills.2) fills.3
fills_slot (Run hole) (Word word) fills = absurd fills
fills_slot (Run hole) Name fills = absurd fills
fills_slot (Run hole) Hex fills = absurd fills
fills_slot (WithCount before hole after) slot fills = absurd fills

hole_is : (hole : Hole) (low high : ℕ) → hole.low ≡ low → hole.high ≡ high → Run hole ≡ Run (record { low = low; high = high; run = hole.run })
hole_is hole low high e f = ap (λ (low : ℕ). Run (record { low = low; high = hole.high; run = hole.run })) e ∙ ap (λ (high : ℕ). Run (record { low = low; high = high; run = hole.run })) f

pub fills_alone : (token : Token) (slot : Slot) → Fills token slot → token ≡ token_at slot (token_text token)
fills_alone (Text text) (Word word) fills = refl
fills_alone (Text text) Name fills = refl
fills_alone (Text text) Hex fills = refl
fills_alone (Text text) (Number words low high) fills = absurd fills
fills_alone (Run hole) (Number words low high) fills = hole_is hole low high fills.0 fills.1
fills_alone (Run hole) (Word word) fills = absurd fills
fills_alone (Run hole) Name fills = absurd fills
fills_alone (Run hole) Hex fills = absurd fills
fills_alone (WithCount before hole after) slot fills = absurd fills

-- ---- a row

-- the words after a test
abbrev pub fits_after : Bool → List Slot → List (List ℕ) → Bool
fits_after test [] [] = test
fits_after test (slot ∷ slots) (word ∷ words) = fits_after (test && fits_slot slot word) slots words
fits_after test slots words = false

abbrev pub fits_row : List Slot → List (List ℕ) → Bool
fits_row (slot ∷ slots) (word ∷ words) = fits_after (fits_slot slot word) slots words
fits_row [] [] = true
fits_row slots words = false

abbrev pub row_tokens : List Slot → List (List ℕ) → List Token
row_tokens [] words = []
row_tokens (slot ∷ slots) [] = []
row_tokens (slot ∷ slots) (word ∷ words) = token_at slot word ∷ row_tokens slots words

-- the words fit slot by slot
abbrev IsRow : List Slot → List (List ℕ) → Type 0
IsRow [] [] = Unit {0}
IsRow (slot ∷ slots) (word ∷ words) = (fits_slot slot word ≡ true) × IsRow slots words
IsRow slots words = ⊥

after_row : (test : Bool) (slots : List Slot) (words : List (List ℕ)) → fits_after test slots words ≡ true → (test ≡ true) × IsRow slots words
after_row test [] [] e = (e, tt)
after_row test [] (word ∷ words) e = wrong e
after_row test (slot ∷ slots) [] e = wrong e
after_row test (slot ∷ slots) (word ∷ words) e =
    let rest = after_row (test && fits_slot slot word) slots words e in
    (left test (fits_slot slot word) rest.0, (right test (fits_slot slot word) rest.0, rest.1))

fits_is : (slots : List Slot) (words : List (List ℕ)) → fits_row slots words ≡ true → IsRow slots words
fits_is [] [] e = tt
fits_is [] (word ∷ words) e = wrong e
fits_is (slot ∷ slots) [] e = wrong e
fits_is (slot ∷ slots) (word ∷ words) e = after_row (fits_slot slot word) slots words e

row_after : (test : Bool) (slots : List Slot) (words : List (List ℕ)) → test ≡ true → IsRow slots words → fits_after test slots words ≡ true
row_after test [] [] e is = e
row_after test [] (word ∷ words) e is = absurd is
row_after test (slot ∷ slots) [] e is = absurd is
row_after test (slot ∷ slots) (word ∷ words) e is = row_after (test && fits_slot slot word) slots words (and_true test (fits_slot slot word) e is.0) is.1

is_fits : (slots : List Slot) (words : List (List ℕ)) → IsRow slots words → fits_row slots words ≡ true
is_fits [] [] is = refl
is_fits [] (word ∷ words) is = absurd is
is_fits (slot ∷ slots) [] is = absurd is
is_fits (slot ∷ slots) (word ∷ words) is = row_after (fits_slot slot word) slots words is.0 is.1

-- words that fit are a line of the row
row_is : (slots : List Slot) (words : List (List ℕ)) → IsRow slots words → HasRow slots (row_tokens slots words) × (words ≡ words_of (row_tokens slots words))
row_is [] [] is = (tt, refl)
row_is [] (word ∷ words) is = absurd is
row_is (slot ∷ slots) [] is = absurd is
row_is (slot ∷ slots) (word ∷ words) is =
    let rest = row_is slots words is.1 in
    ((slot_fills slot word is.0, rest.0), ap (λ (w : List ℕ). w ∷ words) (slot_text slot word) ∙ ap (λ (more : List (List ℕ)). token_text (token_at slot word) ∷ more) rest.1)

-- a line of the row fits it, and has no other tokens
has_row : (slots : List Slot) (tokens : List Token) → HasRow slots tokens → IsRow slots (words_of tokens) × (tokens ≡ row_tokens slots (words_of tokens))
has_row [] [] has = (tt, refl)
has_row [] (token ∷ tokens) has = absurd has
has_row (slot ∷ slots) [] has = absurd has
has_row (slot ∷ slots) (token ∷ tokens) has =
    let rest = has_row slots tokens has.1 in
    ((fills_slot token slot has.0, rest.0), ap (λ (t : Token). t ∷ tokens) (fills_alone token slot has.0) ∙ ap (λ (more : List Token). token_at slot (token_text token) ∷ more) rest.1)

pub row_sound : (slots : List Slot) (words : List (List ℕ)) → fits_row slots words ≡ true → HasRow slots (row_tokens slots words) × (words ≡ words_of (row_tokens slots words))
row_sound slots words e = row_is slots words (fits_is slots words e)

pub row_complete : (slots : List Slot) (words : List (List ℕ)) (tokens : List Token) → HasRow slots tokens → words ≡ words_of tokens → (fits_row slots words ≡ true) × (tokens ≡ row_tokens slots words)
row_complete slots words tokens has e =
    let is = has_row slots tokens has in
    (ap (fits_row slots) e ∙ is_fits slots (words_of tokens) is.0, is.1 ∙ ap (row_tokens slots) (sym e))

-- ---- rows that no line has both of

abbrev pub is_among : List ℕ → List (List ℕ) → Bool
is_among text [] = false
is_among text (word ∷ words) = is word text || is_among text words

abbrev pub are_slots_apart : Slot → Slot → Bool
are_slots_apart (Word word) (Word other) = not (is word other)
are_slots_apart (Word word) (Number words low high) = is_among word words
are_slots_apart slot other = false

abbrev pub are_apart : List Slot → List Slot → Bool
are_apart [] [] = false
are_apart (slot ∷ slots) (other ∷ others) = are_slots_apart slot other || are_apart slots others
are_apart slots others = true

abbrev pub is_apart : List Slot → List (List Slot) → Bool
is_apart row [] = true
is_apart row (other ∷ others) = are_apart row other && is_apart row others

among_not : (text : List ℕ) (words : List (List ℕ)) → is_among text words ≡ true → is_none_of text words ≡ true → ⊥
among_not text [] e f = wrong e
among_not text (word ∷ words) e f = by_test (is word text) (among_not text words) e f
  where
    by_test : (b : Bool) → (is_among text words ≡ true → is_none_of text words ≡ true → ⊥) → (b || is_among text words) ≡ true → (not b && is_none_of text words) ≡ true → ⊥
    by_test true rest e f = wrong f
    by_test false rest e f = rest e f

slots_apart : (slot other : Slot) (text : List ℕ) → are_slots_apart slot other ≡ true → fits_slot slot text ≡ true → fits_slot other text ≡ true → ⊥
slots_apart (Word word) (Word other) text e f g =
    wrong (sym (sym e ∙ ap not (ap (λ (w : List ℕ). is w other) (sym (is_same word text f)) ∙ ap (λ (t : List ℕ). is t other) (is_same other text g) ∙ is_itself other)))
slots_apart (Word word) (Number words low high) text e f g =
    among_not text words (ap (λ (t : List ℕ). is_among t words) (is_same word text f) ∙ e) (left (is_none_of text words) (is_run text) g)
slots_apart (Word word) Name text e f g = wrong e
slots_apart (Word word) Hex text e f g = wrong e
slots_apart Name other text e f g = wrong e
slots_apart Hex other text e f g = wrong e
slots_apart (Number words low high) other text e f g = wrong e

rows_apart : (row other : List Slot) (words : List (List ℕ)) → are_apart row other ≡ true → IsRow row words → IsRow other words → ⊥
rows_apart [] [] words e is also = wrong e
rows_apart [] (other ∷ others) [] e is also = also
rows_apart [] (other ∷ others) (word ∷ words) e is also = is
rows_apart (slot ∷ slots) [] [] e is also = is
rows_apart (slot ∷ slots) [] (word ∷ words) e is also = also
rows_apart (slot ∷ slots) (other ∷ others) [] e is also = is
rows_apart (slot ∷ slots) (other ∷ others) (word ∷ words) e is also = by_test (are_slots_apart slot other) refl (λ e. rows_apart slots others words e is.1 also.1) e
  where
    by_test : (b : Bool) → are_slots_apart slot other ≡ b → (are_apart slots others ≡ true → ⊥) → (b || are_apart slots others) ≡ true → ⊥
    by_test true here rest e = slots_apart slot other word here is.0 also.0
    by_test false here rest e = rest e

pub none_other : (row : List Slot) (rows : List (List Slot)) (words : List (List ℕ)) (tokens : List Token) → is_apart row rows ≡ true → fits_row row words ≡ true → HasOneOf rows tokens → words ≡ words_of tokens → ⊥
none_other row [] words tokens e fits has same = has
none_other row (other ∷ others) words tokens e fits has same =
    by_row (λ there. none_other row others words tokens (right (are_apart row other) (is_apart row others) e) fits there same) has
  where
    by_row : (HasOneOf others tokens → ⊥) → HasRow other tokens ⊎ HasOneOf others tokens → ⊥
    by_row rest (inl here) =
        rows_apart row other words (left (are_apart row other) (is_apart row others) e) (fits_is row words fits)
        (subst (IsRow other) (sym same) (has_row other tokens here).0)
    by_row rest (inr there) = rest there

-- ---- tables, row by row

-- what is found of these words is right by these rows
pub record IsRightByRows (A : Type 0) (rows : List (List Slot)) (words : List (List ℕ)) (found : Option (A × Mark)) : Type 0 where
  pub judged : IsRightBy (HasOneOf rows) words found

module _ (A : Type 0) (row : List Slot) (rows : List (List Slot)) (words : List (List ℕ)) where
  skipped : (found : Option (A × Mark)) → fits_row row words ≡ false → IsRightBy (HasOneOf rows) words found → IsRightBy (HasOneOf (row ∷ rows)) words found
  skipped None e rest = λ tokens has same. by_row tokens same has
    where
      by_row : (tokens : List Token) → words ≡ words_of tokens → HasRow row tokens ⊎ HasOneOf rows tokens → ⊥
      by_row tokens same (inl here) = wrong (sym (sym (row_complete row words tokens here same).0 ∙ e))
      by_row tokens same (inr there) = rest tokens there same
  skipped (Some found) e rest =
      record {
        tokens = rest.tokens;
        form = inr rest.form;
        text = rest.text;
        marked = rest.marked;
        alone = λ others has same. by_row others same has;
      }
    where
      by_row : (others : List Token) → words ≡ words_of others → HasRow row others ⊎ HasOneOf rows others → others ≡ rest.tokens
      by_row others same (inl here) = wrong (sym (sym (row_complete row words others here same).0 ∙ e))
      by_row others same (inr there) = rest.alone others there same

  tested : (found : A × Mark) (other : Option (A × Mark)) → is_apart row rows ≡ true → found.1 ≡ mark_of (row_tokens row words) → IsRightBy (HasOneOf rows) words other →
      IsRightBy (HasOneOf (row ∷ rows)) words (if fits_row row words then Some found else other)
  tested found other apart mark rest = by_test (fits_row row words) refl
    where
      by_row : fits_row row words ≡ true → (others : List Token) → words ≡ words_of others → HasRow row others ⊎ HasOneOf rows others → others ≡ row_tokens row words
      by_row fits others same (inl here) = (row_complete row words others here same).1
      by_row fits others same (inr there) = absurd (none_other row rows words others apart fits there same)

      by_test : (b : Bool) → fits_row row words ≡ b → IsRightBy (HasOneOf (row ∷ rows)) words (if b then Some found else other)
      by_test true fits =
          let is = row_sound row words fits in
          record {
            tokens = row_tokens row words;
            form = inl is.0;
            text = is.1;
            marked = mark;
            alone = λ others has same. by_row fits others same has;
          }
      by_test false fits = skipped other fits rest

-- the words are of no such row
pub skip_row : {A : Type 0} {row : List Slot} {rows : List (List Slot)} {words : List (List ℕ)} {found : Option (A × Mark)} →
    fits_row row words ≡ false → IsRightByRows A rows words found → IsRightByRows A (row ∷ rows) words found
skip_row {A} {row} {rows} {words} {found} e rest = record { judged = skipped A row rows words found e rest.judged }

-- the words are of the row where they pass its test
pub at_row : {A : Type 0} {row : List Slot} {rows : List (List Slot)} {words : List (List ℕ)} {other : Option (A × Mark)} (found : A × Mark) →
    is_apart row rows ≡ true → found.1 ≡ mark_of (row_tokens row words) → IsRightByRows A rows words other → IsRightByRows A (row ∷ rows) words (if fits_row row words then Some found else other)
at_row {A} {row} {rows} {words} {other} found apart mark rest = record { judged = tested A row rows words found other apart mark rest.judged }

-- no row is left
pub no_rows : {A : Type 0} {words : List (List ℕ)} → IsRightByRows A [] words None
no_rows = record { judged = λ tokens has same. has }
