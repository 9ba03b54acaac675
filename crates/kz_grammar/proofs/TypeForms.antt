-- Type lines, by their form.
use Rattle.std.proofs.Common.{◌≡◌, ◌⊎◌, inl, inr, ℕ, ◌&&◌, Bool, true, false, if◌then◌else◌, List, [], ◌∷◌, ◌++◌, codes, Option, Some, None, refl, ap, sym, ◌∙◌, append-nil}
use Rattle.kz_model.specs.declared.bundle.Field.{Field}
use Rattle.kz_model.specs.declared.bundle.TypeDecl.{TypeDecl}
use Rattle.kz_model.specs.declared.grammar.Mark.{Mark}
use Rattle.kz_model.specs.declared.grammar.Place.TheVariants as place
use Rattle.kz_model.specs.Grammar.Tokens.{is, is_name}
use Rattle.kz_model.specs.Grammar.TypeLine.{Phrase, body, ended, declared, type_line}
use Rattle.kz_model.specs.Grammar.Form.{Line, Declares, Opens, Draft, as_line, is_head, cpu_line, line_of_types}
use Rattle.kz_bundle.proofs.Choices.{wrong, left, right, and_true, is_same, is_itself}
use Rattle.kz_grammar.specs.Forms.{Token, Text, words_of, HasOneOf, number_rows, number_row, IsBody, IsTypeForm, IsForm}
use Rattle.kz_grammar.proofs.Rows.{IsRightBy, fits_row, row_complete}
use Rattle.kz_grammar.proofs.Phrases.{Begins, Parses, same_rest}
use Rattle.kz_grammar.proofs.KindForms.{nothing, only, same_head, same_tail, no_head}
use Rattle.kz_grammar.proofs.BodyForms.{bodies_parse}
use Rattle.kz_grammar.proofs.LineForms.{as_line_judged, number_judged}

-- ---- a type line

-- the words of a type line
module _ (words : List (List ℕ)) (tokens : List Token) (form : IsTypeForm tokens) (text : words ≡ words_of tokens) where
  pub type_words : words ≡ codes "type" ∷ form.name ∷ words_of form.body
  type_words = text ∙ ap words_of form.whole

module _ (w name : List ℕ) (words : List (List ℕ)) where
  abbrev all : List (List ℕ)
  all = w ∷ name ∷ words

  -- what other words of a type line say of these
  parts : (tokens : List Token) (form : IsTypeForm tokens) → all ≡ words_of tokens → (w ≡ codes "type") × (name ≡ form.name) × (words ≡ words_of form.body ++ [])
  parts tokens form text =
      let e = type_words all tokens form text in
      let rest = same_tail w (codes "type") (name ∷ words) (form.name ∷ words_of form.body) e in (
        same_head w (codes "type") (name ∷ words) (form.name ∷ words_of form.body) e,
        same_head name form.name words (words_of form.body) rest,
        same_tail name form.name words (words_of form.body) rest ∙ sym (append-nil (words_of form.body)),
      )

  module _ (first : w ≡ codes "type") (named : is_name name ≡ true) where
    whole : (p : Phrase (List Field)) → Begins nothing (only (IsBody 8)) words p → (rest : List (List ℕ)) → p.rest ≡ rest → IsRightBy {A = TypeDecl} IsTypeForm all (ended (record { name = name; fields = p.said }, p.mark) rest)
    whole p begins [] none =
        record {
          tokens = Text (codes "type") ∷ Text name ∷ begins.tokens;
          form = record { name = name; named = named; body = begins.tokens; is = begins.form; whole = refl };
          text = ap (λ (w : List ℕ). w ∷ name ∷ words) first ∙ ap (λ (more : List (List ℕ)). codes "type" ∷ name ∷ more) (begins.text ∙ ap (λ (rest : List (List ℕ)). words_of begins.tokens ++ rest) none ∙ append-nil (words_of begins.tokens));
          marked = begins.marked;
          alone = λ others form text.
              let is = parts others form text in
              form.whole ∙ ap (λ (name : List ℕ). Text (codes "type") ∷ Text name ∷ form.body) (sym is.1)
              ∙ ap (λ (more : List Token). Text (codes "type") ∷ Text name ∷ more) (begins.alone tt form.body [] form.is is.2).1;
        }
    whole p begins (x ∷ rest) more = λ tokens form text.
        let is = parts tokens form text in
        let one = begins.alone tt form.body [] form.is is.2 in
        let same = sym is.2 ∙ begins.text ∙ ap (λ (rest : List (List ℕ)). words_of begins.tokens ++ rest) more ∙ ap (λ (t : List Token). words_of t ++ (x ∷ rest)) (sym one.1) in
        no_head x rest (same_rest (words_of form.body) [] (x ∷ rest) same)

    by_body : (p : Option (Phrase (List Field))) → Parses nothing (only (IsBody 8)) words p → IsRightBy IsTypeForm all (declared name p)
    by_body None none = λ tokens form text. none tt form.body [] form.is (parts tokens form text).2
    by_body (Some p) begins = whole p begins p.rest refl

  abbrev if_type : Bool → Option (TypeDecl × Mark)
  if_type b = if b then declared name (body 8 words) else None

  by_first : (b : Bool) → (is (codes "type") w && is_name name) ≡ b → IsRightBy IsTypeForm all (if_type b)
  by_first true e = by_body (is_same (codes "type") w (left (is (codes "type") w) (is_name name) e)) (right (is (codes "type") w) (is_name name) e) (body 8 words) (bodies_parse 8 words)
  by_first false e = λ tokens form text.
      let is_one = parts tokens form text in
      wrong (sym e ∙ and_true (is (codes "type") w) (is_name name) (ap (is (codes "type")) is_one.0 ∙ is_itself (codes "type")) (ap is_name is_one.1 ∙ form.named))

type_judged : (words : List (List ℕ)) → IsRightBy IsTypeForm words (type_line words)
type_judged [] = λ tokens form text. no_head (codes "type") (form.name ∷ words_of form.body) (type_words [] tokens form text)
type_judged (w ∷ []) = λ tokens form text. no_head form.name (words_of form.body) (same_tail w (codes "type") [] (form.name ∷ words_of form.body) (type_words (w ∷ []) tokens form text))
type_judged (w ∷ name ∷ words) = by_first w name words (is (codes "type") w && is_name name) refl

-- ---- lines among types

abbrev IsCpu : List Token → Type 0
IsCpu = HasOneOf (number_rows (codes "cpu") 0 0)

type_head : (words : List (List ℕ)) (tokens : List Token) → IsTypeForm tokens → words ≡ words_of tokens → is_head (codes "type") words ≡ true
type_head words tokens form text = ap (is_head (codes "type")) (type_words words tokens form text)

cpu_head : (words : List (List ℕ)) (tokens : List Token) → IsCpu tokens → words ≡ words_of tokens → is_head (codes "type") words ≡ false
cpu_head words tokens (inr none) text = absurd none
cpu_head words tokens (inl has) text = by_words words (row_complete (number_row (codes "cpu") 0 0) words tokens has text).0
  where
    by_words : (words : List (List ℕ)) → fits_row (number_row (codes "cpu") 0 0) words ≡ true → is_head (codes "type") words ≡ false
    by_words [] e = refl
    by_words (w ∷ []) e = wrong e
    by_words (w ∷ n ∷ []) e = ap (is (codes "type")) (is_same (codes "cpu") w (left (is (codes "cpu") w) _ e))
    by_words (w ∷ n ∷ x ∷ words) e = wrong e

module _ (F G : List Token → Type 0) (words : List (List ℕ)) where
  only_left : (found : Option (Line × Mark)) → ((tokens : List Token) → G tokens → words ≡ words_of tokens → ⊥) → IsRightBy F words found → IsRightBy (λ tokens. F tokens ⊎ G tokens) words found
  only_left None never judged = λ tokens form text. by_form tokens text form
    where
      by_form : (tokens : List Token) → words ≡ words_of tokens → F tokens ⊎ G tokens → ⊥
      by_form tokens text (inl form) = judged tokens form text
      by_form tokens text (inr form) = never tokens form text
  only_left (Some found) never judged =
      record { tokens = judged.tokens; form = inl judged.form; text = judged.text; marked = judged.marked; alone = λ others form text. by_form others text form }
    where
      by_form : (others : List Token) → words ≡ words_of others → F others ⊎ G others → others ≡ judged.tokens
      by_form others text (inl form) = judged.alone others form text
      by_form others text (inr form) = absurd (never others form text)

  only_right : (found : Option (Line × Mark)) → ((tokens : List Token) → F tokens → words ≡ words_of tokens → ⊥) → IsRightBy G words found → IsRightBy (λ tokens. F tokens ⊎ G tokens) words found
  only_right None never judged = λ tokens form text. by_form tokens text form
    where
      by_form : (tokens : List Token) → words ≡ words_of tokens → F tokens ⊎ G tokens → ⊥
      by_form tokens text (inl form) = never tokens form text
      by_form tokens text (inr form) = judged tokens form text
  only_right (Some found) never judged =
      record { tokens = judged.tokens; form = inr judged.form; text = judged.text; marked = judged.marked; alone = λ others form text. by_form others text form }
    where
      by_form : (others : List Token) → words ≡ words_of others → F others ⊎ G others → others ≡ judged.tokens
      by_form others text (inl form) = absurd (never others form text)
      by_form others text (inr form) = judged.alone others form text

pub types_judged : (d : Draft) (words : List (List ℕ)) → IsRightBy (IsForm place.Types d) words (line_of_types words)
types_judged d words = by_head (is_head (codes "type") words) refl
  where
    by_head : (b : Bool) → is_head (codes "type") words ≡ b → IsRightBy (IsForm place.Types d) words (if b then as_line Declares (type_line words) else cpu_line 0 words)
    by_head true e =
        only_left IsTypeForm IsCpu words (as_line Declares (type_line words)) (λ tokens form text. wrong (sym (cpu_head words tokens form text) ∙ e))
        (as_line_judged IsTypeForm words Declares (type_line words) (type_judged words))
    by_head false e =
        only_right IsTypeForm IsCpu words (cpu_line 0 words) (λ tokens form text. wrong (sym e ∙ type_head words tokens form text))
        (as_line_judged IsCpu words Opens _ (number_judged (codes "cpu") 0 0 words).judged)
