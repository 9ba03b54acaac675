-- Phrases of a type line, by their forms.
use Rattle.std.proofs.Common.{◌≡◌, ℕ, List, [], ◌∷◌, ◌++◌, Option, Some, None, refl, ap, sym, ◌∙◌, subst, append_assoc}
use Rattle.kz_model.specs.declared.grammar.Mark.{Mark}
use Rattle.kz_model.specs.Grammar.Tokens.{worse}
use Rattle.kz_model.specs.Grammar.TypeLine.{Phrase, Rule, says, after_mark, followed_by}
use Rattle.kz_bundle.proofs.Grammar.{worse_assoc, worse_fine}
use Rattle.kz_grammar.specs.Forms.{Hole, Token, Text, Run, WithCount, token_text, words_of, holes_of}
use Rattle.kz_grammar.proofs.Rows.{mark_of_hole, mark_of_holes, mark_of}

-- ---- tokens after tokens

pub words_append : (tokens others : List Token) → words_of (tokens ++ others) ≡ words_of tokens ++ words_of others
words_append [] others = refl
words_append (token ∷ tokens) others = ap (λ (words : List (List ℕ)). token_text token ∷ words) (words_append tokens others)

-- the words of two, and what follows
pub two_texts : (tokens others : List Token) (rest : List (List ℕ)) → words_of (tokens ++ others) ++ rest ≡ words_of tokens ++ (words_of others ++ rest)
two_texts tokens others rest = ap (λ (words : List (List ℕ)). words ++ rest) (words_append tokens others) ∙ append_assoc (words_of tokens) (words_of others) rest

pub holes_append : (tokens others : List Token) → holes_of (tokens ++ others) ≡ holes_of tokens ++ holes_of others
holes_append [] others = refl
holes_append (Text text ∷ tokens) others = holes_append tokens others
holes_append (Run hole ∷ tokens) others = ap (λ (holes : List Hole). hole ∷ holes) (holes_append tokens others)
holes_append (WithCount before hole after ∷ tokens) others = ap (λ (holes : List Hole). hole ∷ holes) (holes_append tokens others)

worse_append : (holes others : List Hole) → mark_of_holes (holes ++ others) ≡ worse (mark_of_holes holes) (mark_of_holes others)
worse_append [] others = refl
worse_append (hole ∷ holes) others = ap (worse (mark_of_hole hole)) (worse_append holes others) ∙ sym (worse_assoc (mark_of_hole hole) (mark_of_holes holes) (mark_of_holes others))

pub mark_append : (tokens others : List Token) → mark_of (tokens ++ others) ≡ worse (mark_of tokens) (mark_of others)
mark_append tokens others = ap mark_of_holes (holes_append tokens others) ∙ worse_append (holes_of tokens) (holes_of others)

pub same_rest : (words rest others : List (List ℕ)) → words ++ rest ≡ words ++ others → rest ≡ others
same_rest [] rest others e = e
same_rest (word ∷ words) rest others e = same_rest words rest others (tail word (words ++ rest) (words ++ others) e)
  where
    tail : (w : List ℕ) (xs ys : List (List ℕ)) → w ∷ xs ≡ w ∷ ys → xs ≡ ys
    tail w xs ys e = cc

-- ---- phrases

-- The words begin with a phrase of a form, and of no other. Forms go by what is seen of what the phrase says.
pub record Begins {A X : Type 0} (view : A → X) (F : X → List Token → Type 0) (words : List (List ℕ)) (phrase : Phrase A) : Type 0 where
  pub tokens : List Token
  pub form : F (view phrase.said) tokens
  pub text : words ≡ words_of tokens ++ phrase.rest
  pub marked : phrase.mark ≡ mark_of tokens
  pub alone : (x : X) (others : List Token) (rest : List (List ℕ)) → F x others → words ≡ words_of others ++ rest → (x ≡ view phrase.said) × (others ≡ tokens)

abbrev pub BeginsNot : {X : Type 0} → (X → List Token → Type 0) → List (List ℕ) → Type 0
BeginsNot {X} F words = (x : X) (tokens : List Token) (rest : List (List ℕ)) → F x tokens → words ≡ words_of tokens ++ rest → ⊥

-- what is found at the head of these words is right by these forms
abbrev pub Parses : {A X : Type 0} → (A → X) → (X → List Token → Type 0) → List (List ℕ) → Option (Phrase A) → Type 0
Parses view F words None = BeginsNot F words
Parses view F words (Some phrase) = Begins view F words phrase

-- ---- two phrases, one after the other

pub record Sequence {X Z : Type 0} (F : X → List Token → Type 0) (G : X → Z → List Token → Type 0) (z : Z) (tokens : List Token) : Type 0 where
  pub x : X
  pub first : List Token
  pub second : List Token
  pub begins : F x first
  pub ends : G x z second
  pub whole : tokens ≡ first ++ second

module _ {A B X Z : Type 0} (view : A → X) (end : B → Z) (F : X → List Token → Type 0) (G : X → Z → List Token → Type 0) (words : List (List ℕ)) where
  -- the words of a sequence
  text_of : (z : Z) (tokens : List Token) (rest : List (List ℕ)) (both : Sequence F G z tokens) → words ≡ words_of tokens ++ rest → words ≡ words_of both.first ++ (words_of both.second ++ rest)
  text_of z tokens rest both e = e ∙ ap (λ (tokens : List Token). words_of tokens ++ rest) both.whole ∙ two_texts both.first both.second rest

  module _ (p : Phrase A) (first : Begins view F words p) where
    -- what follows the first
    rest_of : (z : Z) (tokens : List Token) (rest : List (List ℕ)) (both : Sequence F G z tokens) → words ≡ words_of tokens ++ rest →
        (both.x ≡ view p.said) × (both.first ≡ first.tokens) × (p.rest ≡ words_of both.second ++ rest)
    rest_of z tokens rest both e =
        let text = text_of z tokens rest both e in
        let same = first.alone both.x both.first (words_of both.second ++ rest) both.begins text in (
          same.0,
          same.1,
          same_rest (words_of first.tokens) p.rest (words_of both.second ++ rest) (sym first.text ∙ text ∙ ap (λ (t : List Token). words_of t ++ (words_of both.second ++ rest)) same.1),
        )

    second : (q : Option (Phrase B)) → Parses end (G (view p.said)) p.rest q → Parses end (Sequence F G) words (after_mark p.mark q)
    second None none = λ z tokens rest both e.
        let is = rest_of z tokens rest both e in
        none z both.second rest (subst (λ (x : X). G x z both.second) is.0 both.ends) is.2
    second (Some q) next =
        record {
          tokens = first.tokens ++ next.tokens;
          form = record { x = view p.said; first = first.tokens; second = next.tokens; begins = first.form; ends = next.form; whole = refl };
          text = first.text ∙ ap (λ (rest : List (List ℕ)). words_of first.tokens ++ rest) next.text ∙ sym (two_texts first.tokens next.tokens q.rest);
          marked = ap (λ (m : Mark). worse m q.mark) first.marked ∙ ap (worse (mark_of first.tokens)) next.marked ∙ sym (mark_append first.tokens next.tokens);
          alone = λ z others rest both e.
              let is = rest_of z others rest both e in
              let same = next.alone z both.second rest (subst (λ (x : X). G x z both.second) is.0 both.ends) is.2 in
              (same.0, both.whole ∙ ap (λ (t : List Token). t ++ both.second) is.1 ∙ ap (λ (t : List Token). first.tokens ++ t) same.1);
        }

  pub sequence : (p : Option (Phrase A)) (rule : A → Rule B) → Parses view F words p →
      ((a : A) (tokens : List Token) (rest : List (List ℕ)) → F (view a) tokens → words ≡ words_of tokens ++ rest → Parses end (G (view a)) rest (rule a rest)) →
      Parses end (Sequence F G) words (followed_by p rule)
  sequence None rule none then = λ z tokens rest both e. none both.x both.first (words_of both.second ++ rest) both.begins (text_of z tokens rest both e)
  sequence (Some p) rule first then = second p first (rule p.said p.rest) (then p.said first.tokens p.rest first.form first.text)

-- ---- forms that are the same

pub same_forms : {A X : Type 0} (view : A → X) (F G : X → List Token → Type 0) (words : List (List ℕ)) (p : Option (Phrase A)) →
    ((x : X) (tokens : List Token) → F x tokens → G x tokens) → ((x : X) (tokens : List Token) (rest : List (List ℕ)) → words ≡ words_of tokens ++ rest → G x tokens → F x tokens) →
    Parses view F words p → Parses view G words p
same_forms view F G words None to from none = λ x tokens rest form e. none x tokens rest (from x tokens rest e form) e
same_forms view F G words (Some p) to from first =
    record {
      tokens = first.tokens;
      form = to (view p.said) first.tokens first.form;
      text = first.text;
      marked = first.marked;
      alone = λ x others rest form e. first.alone x others rest (from x others rest e form) e;
    }

-- the same phrase, seen otherwise
pub seen : {A B X : Type 0} (view : A → X) (other : B → X) (F : X → List Token → Type 0) (words : List (List ℕ)) (p : Option (Phrase A)) (g : A → B) → ((a : A) → view a ≡ other (g a)) →
    Parses view F words p → Parses other F words (followed_by p (λ a. says (g a)))
seen view other F words None g same none = none
seen view other F words (Some p) g same first =
    record {
      tokens = first.tokens;
      form = subst (λ x. F x first.tokens) (same p.said) first.form;
      text = first.text;
      marked = worse_fine p.mark ∙ first.marked;
      alone = λ x others rest form e. let is = first.alone x others rest form e in (is.0 ∙ same p.said, is.1);
    }
