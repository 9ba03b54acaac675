-- Bodies of types, by their forms.
use Rattle.std.proofs.Common.{◌≡◌, ◌⊎◌, inl, inr, ℕ, zero, suc, ◌+◌, ◌<◌, ◌≤◌, Bool, true, false, if◌then◌else◌, List, [], ◌∷◌, ◌++◌, length, codes, Option, Some, None, refl, ap, sym, ◌∙◌, subst, arith, append_assoc, append-nil, length-append}
use Rattle.kz_model.specs.declared.bundle.Kind.{Kind}
use Rattle.kz_model.specs.declared.bundle.Kind.TheVariants.{Union}
use Rattle.kz_model.specs.declared.bundle.Field.{Field}
use Rattle.kz_model.specs.declared.grammar.Mark.TheVariants.{Fine}
use Rattle.kz_model.specs.Grammar.Tokens.{is}
use Rattle.kz_model.specs.Grammar.TypeLine as rule
use Rattle.kz_model.specs.Grammar.TypeLine.{Phrase, Rule, FieldAndMore, no_phrase, says}
use Rattle.kz_bundle.proofs.Choices.{wrong, not_so, is_same, is_itself}
use Rattle.kz_grammar.specs.Forms.{Token, Text, token_text, words_of, Word, HasRow, plain_kinds, FieldForm, label_token, fields_tokens, body_tokens, AreFields, IsBodyOf, IsUnionOf, NoUnion, IsKindOf, IsBody}
use Rattle.kz_grammar.proofs.Phrases.{two_texts, Begins, Parses, Sequence, sequence, same_forms, seen}
use Rattle.kz_grammar.proofs.LabelForms.{IsLabelled, has_more, labelled_parses}
use Rattle.kz_grammar.proofs.KindForms.{nothing, only, same_head, same_tail, no_head, one_token, word_parses, no_word, rows_apart, AreUnions, union_rule, some_word, kind_parses}

abbrev pub IsClose : List Token → Type 0
IsClose = HasRow (Word (codes "}") ∷ [])

-- a word and then nothing else
close_parses : {A : Type 0} (a : A) (word : List ℕ) (words : List (List ℕ)) → Parses nothing (only IsClose) (word ∷ words) (if is (codes "}") word then says a words else None)
close_parses a word words = by_test (is (codes "}") word) refl
  where
    by_test : (b : Bool) → is (codes "}") word ≡ b → Parses nothing (only IsClose) (word ∷ words) (if b then says a words else None)
    by_test true e = word_parses a (codes "}") word words e
    by_test false e = λ u tokens rest has same. wrong (sym e ∙ no_word (codes "}") word words tokens rest has same)

no_close : (tokens : List Token) (rest : List (List ℕ)) → IsClose tokens → [] ≡ words_of tokens ++ rest → ⊥
no_close [] rest has same = has
no_close (token ∷ tokens) rest has same = no_head (token_text token) (words_of tokens ++ rest) same

length_words : (tokens : List Token) → length (words_of tokens) ≡ length tokens
length_words [] = refl
length_words (token ∷ tokens) = ap suc (length_words tokens)

longer : (kind : List Token) (label : Token) (others : List Token) (n : ℕ) → n ≤ length others → n < length (kind ++ label ∷ others)
longer kind label others n few = let long = length-append kind (label ∷ others) in omega (arith, long, few)

-- a word before a phrase
pub record AfterWord (w : List ℕ) (F : List Token → Type 0) (tokens : List Token) : Type 0 where
  pub others : List Token
  pub is : F others
  pub whole : tokens ≡ Text w ∷ others

pub prefixed : {A : Type 0} (w : List ℕ) (F : List Token → Type 0) (word : List ℕ) (words : List (List ℕ)) (r : Rule A) → Parses nothing (only F) words (r words) →
    Parses nothing (only (AfterWord w F)) (word ∷ words) ((if is w word then r else no_phrase) words)
prefixed {A} w F word words r others = by_test (is w word) refl
  where
    text_of : (tokens : List Token) (rest : List (List ℕ)) (after : AfterWord w F tokens) → word ∷ words ≡ words_of tokens ++ rest → word ∷ words ≡ w ∷ (words_of after.others ++ rest)
    text_of tokens rest after same = same ∙ ap (λ (t : List Token). words_of t ++ rest) after.whole

    first : is w word ≡ true → (p : Option (Phrase A)) → Parses nothing (only F) words p → Parses nothing (only (AfterWord w F)) (word ∷ words) p
    first e None none = λ u tokens rest after same. none tt after.others rest after.is (same_tail word w words (words_of after.others ++ rest) (text_of tokens rest after same))
    first e (Some p) begins =
        record {
          tokens = Text w ∷ begins.tokens;
          form = record { others = begins.tokens; is = begins.form; whole = refl };
          text = ap (λ (t : List ℕ). t ∷ words) (is_same w word e) ∙ ap (λ (t : List (List ℕ)). w ∷ t) begins.text;
          marked = begins.marked;
          alone = λ u tokens rest after same.
              let one = begins.alone tt after.others rest after.is (same_tail word w words (words_of after.others ++ rest) (text_of tokens rest after same)) in
              (refl, after.whole ∙ ap (λ (t : List Token). Text w ∷ t) one.1);
        }

    by_test : (b : Bool) → is w word ≡ b → Parses nothing (only (AfterWord w F)) (word ∷ words) ((if b then r else no_phrase) words)
    by_test true e = first e (r words) others
    by_test false e = λ u tokens rest after same.
        wrong (sym e ∙ ap (is w) (same_head word w words (words_of after.others ++ rest) (text_of tokens rest after same)) ∙ is_itself w)

-- ---- fields

module _ (K : List Token → Type 0) where
  -- a field, and whether another follows
  abbrev IsField : Bool → List Token → Type 0
  IsField = Sequence (only K) (λ u. IsLabelled)

  -- what follows a field
  abbrev Follows : (List Token → Type 0) → Bool → Unit {0} → List Token → Type 0
  Follows F true u = F
  Follows F false u = IsClose

  -- at most so many fields, and `}` after the last
  abbrev AreAtMost : ℕ → List Token → Type 0
  AreAtMost zero tokens = ⊥
  AreAtMost (suc most) tokens = Sequence IsField (Follows (AreAtMost most)) tt tokens

  -- fields as they are written
  record AreWritten (tokens : List Token) : Type 0 where
    first : FieldForm
    fields : List FieldForm
    are : AreFields K (first ∷ fields)
    whole : tokens ≡ fields_tokens first fields

  written : (most : ℕ) (tokens : List Token) → AreAtMost most tokens → AreWritten tokens
  written zero tokens fields = absurd fields
  written (suc most) tokens fields = by_more fields.x fields.begins fields.second fields.whole fields.ends (written most)
    where
      by_more : (more : Bool) {first : List Token} → IsField more first → (second : List Token) → tokens ≡ first ++ second → Follows (AreAtMost most) more tt second → ((tokens : List Token) → AreAtMost most tokens → AreWritten tokens) → AreWritten tokens
      by_more false field second whole close rest =
          record {
            first = record { kind = field.first; name = field.ends.name; count = field.ends.count };
            fields = [];
            are = ((field.begins, field.ends.named, field.ends.counts), tt);
            whole = whole ∙ ap (λ (t : List Token). t ++ second) (field.whole ∙ ap (λ (t : List Token). field.first ++ t) field.ends.whole)
                ∙ append_assoc field.first (label_token field.ends.name field.ends.count [] ∷ []) second
                ∙ ap (λ (t : List Token). field.first ++ label_token field.ends.name field.ends.count [] ∷ t) (one_token (codes "}") second close);
          }
      by_more true field second whole more rest =
          let others = rest second more in
          record {
            first = record { kind = field.first; name = field.ends.name; count = field.ends.count };
            fields = others.first ∷ others.fields;
            are = ((field.begins, field.ends.named, field.ends.counts), others.are);
            whole = whole ∙ ap (λ (t : List Token). t ++ second) (field.whole ∙ ap (λ (t : List Token). field.first ++ t) field.ends.whole)
                ∙ append_assoc field.first (label_token field.ends.name field.ends.count (codes ";") ∷ []) second
                ∙ ap (λ (t : List Token). field.first ++ label_token field.ends.name field.ends.count (codes ";") ∷ t) others.whole;
          }

  at_most : (most : ℕ) (first : FieldForm) (fields : List FieldForm) → AreFields K (first ∷ fields) → length fields < most → AreAtMost most (fields_tokens first fields)
  at_most zero first fields are few = absurd (omega (arith, few))
  at_most (suc most) first [] are few =
      record {
        x = false;
        first = first.kind ++ label_token first.name first.count [] ∷ [];
        second = Text (codes "}") ∷ [];
        begins = record { x = tt; first = first.kind; second = label_token first.name first.count [] ∷ []; begins = are.0.0; ends = record { name = first.name; count = first.count; named = are.0.1; counts = are.0.2; whole = refl }; whole = refl };
        ends = (refl, tt);
        whole = sym (append_assoc first.kind (label_token first.name first.count [] ∷ []) (Text (codes "}") ∷ []));
      }
  at_most (suc most) first (next ∷ fields) are few =
      record {
        x = true;
        first = first.kind ++ label_token first.name first.count (codes ";") ∷ [];
        second = fields_tokens next fields;
        begins = record { x = tt; first = first.kind; second = label_token first.name first.count (codes ";") ∷ []; begins = are.0.0; ends = record { name = first.name; count = first.count; named = are.0.1; counts = are.0.2; whole = refl }; whole = refl };
        ends = at_most most next fields are.1 (omega (arith, few));
        whole = sym (append_assoc first.kind (label_token first.name first.count (codes ";") ∷ []) (fields_tokens next fields));
      }

  -- each field has a token of its own
  some_tokens : (first : FieldForm) (fields : List FieldForm) → length fields < length (words_of (fields_tokens first fields))
  some_tokens first [] = subst (λ n. 0 < n) (sym (length_words (fields_tokens first []))) (longer first.kind (label_token first.name first.count []) (Text (codes "}") ∷ []) 0 (omega arith))
  some_tokens first (next ∷ fields) =
      subst (λ n. length (next ∷ fields) < n) (sym (length_words (fields_tokens first (next ∷ fields))))
      (longer first.kind (label_token first.name first.count (codes ";")) (fields_tokens next fields) (length (next ∷ fields))
      (let rest = some_tokens next fields in let same = length_words (fields_tokens next fields) in omega (arith, rest, same)))

  module _ (kind_words : (tokens : List Token) → K tokens → (word : List ℕ) × (words : List (List ℕ)) × (words_of tokens ≡ word ∷ words) × (is (codes "}") word ≡ false)) (rule_of : Rule Kind)
      (kinds : (words : List (List ℕ)) → Parses nothing (only K) words (rule_of words)) where
    field_parses : (words : List (List ℕ)) → Parses has_more IsField words (rule.field rule_of words)
    field_parses words = sequence nothing has_more (only K) (λ u. IsLabelled) words (rule_of words) rule.labelled (kinds words) (λ a tokens rest is same. labelled_parses a rest)

    last_parses : (f : Field) (words : List (List ℕ)) → Parses nothing (only IsClose) words (rule.last_field f words)
    last_parses f [] = λ u tokens rest has same. no_close tokens rest has same
    last_parses f (word ∷ words) = close_parses (f ∷ []) word words

    fields_parse : (most : ℕ) (words : List (List ℕ)) → Parses nothing (only (AreAtMost most)) words (rule.fields most rule_of words)
    fields_parse zero words = λ u tokens rest has same. has
    fields_parse (suc most) words =
        sequence has_more nothing IsField (Follows (AreAtMost most)) words (rule.field rule_of words) (λ found. if found.1 then rule.field_before found.0 (rule.fields most rule_of) else rule.last_field found.0)
        (field_parses words) (λ found tokens rest is same. by_more found.0 found.1 rest (fields_parse most rest))
      where
        by_more : (f : Field) (more : Bool) (rest : List (List ℕ)) → Parses nothing (only (AreAtMost most)) rest (rule.fields most rule_of rest) →
            Parses nothing (Follows (AreAtMost most) more) rest ((if more then rule.field_before f (rule.fields most rule_of) else rule.last_field f) rest)
        by_more f true rest others = seen nothing nothing (only (AreAtMost most)) rest (rule.fields most rule_of rest) (λ more. f ∷ more) (λ more. refl) others
        by_more f false rest others = last_parses f rest

    written_parse : (words : List (List ℕ)) → Parses nothing (only AreWritten) words (rule.fields (length words) rule_of words)
    written_parse words =
        same_forms nothing (only (AreAtMost (length words))) (only AreWritten) words (rule.fields (length words) rule_of words) (λ u tokens. written (length words) tokens) from (fields_parse (length words) words)
      where
        from : (u : Unit {0}) (tokens : List Token) (rest : List (List ℕ)) → words ≡ words_of tokens ++ rest → AreWritten tokens → AreAtMost (length words) tokens
        from u tokens rest same is =
            let some = some_tokens is.first is.fields in
            let long : length words ≡ length (words_of (fields_tokens is.first is.fields)) + length rest =
            ap length same ∙ length-append (words_of tokens) rest ∙ ap (λ (t : List Token). length (words_of t) + length rest) is.whole in
            let few : length is.fields < length words = omega (arith, some, long) in
            subst (AreAtMost (length words)) (sym is.whole) (at_most (length words) is.first is.fields is.are few)

    -- ---- braces

    -- what stands after `{`
    abbrev IsInBraces : List Token → Type 0
    IsInBraces tokens = IsClose tokens ⊎ AreWritten tokens

    -- fields don't begin with `}`
    not_closed : (word : List ℕ) (words : List (List ℕ)) (tokens : List Token) (rest : List (List ℕ)) → AreWritten tokens → word ∷ words ≡ words_of tokens ++ rest → is (codes "}") word ≡ false
    not_closed word words tokens rest is_written same =
        let first = is_written.first in
        let some = kind_words first.kind is_written.are.0.0 in
        let after = after_kind first is_written.fields in
        let text : word ∷ words ≡ some.0 ∷ (some.1 ++ (words_of after.0 ++ rest)) =
        same ∙ ap (λ (t : List Token). words_of t ++ rest) (is_written.whole ∙ after.1) ∙ two_texts first.kind after.0 rest ∙ ap (λ (w : List (List ℕ)). w ++ (words_of after.0 ++ rest)) some.2 in
        ap (is (codes "}")) (same_head word some.0 words (some.1 ++ (words_of after.0 ++ rest)) text) ∙ some.3
      where
        after_kind : (first : FieldForm) (fields : List FieldForm) → (after : List Token) × (fields_tokens first fields ≡ first.kind ++ after)
        after_kind first [] = (label_token first.name first.count [] ∷ Text (codes "}") ∷ [], refl)
        after_kind first (next ∷ fields) = (label_token first.name first.count (codes ";") ∷ fields_tokens next fields, refl)

    closed : (word : List ℕ) (words : List (List ℕ)) → is (codes "}") word ≡ true → Parses {A = List Field} nothing (only IsInBraces) (word ∷ words) (says [] words)
    closed word words e =
        let first : Begins nothing (only IsClose) (word ∷ words) (record { said = no_fields; mark = Fine; rest = words }) = word_parses no_fields (codes "}") word words e in
        record {
          tokens = first.tokens;
          form = inl first.form;
          text = first.text;
          marked = first.marked;
          alone = λ u others rest has same. (refl, by_form others rest same has ∙ sym (one_token (codes "}") first.tokens first.form));
        }
      where
        no_fields : List Field
        no_fields = []

        by_form : (others : List Token) (rest : List (List ℕ)) → word ∷ words ≡ words_of others ++ rest → IsInBraces others → others ≡ Text (codes "}") ∷ []
        by_form others rest same (inl close) = one_token (codes "}") others close
        by_form others rest same (inr is_written) = wrong (sym (not_closed word words others rest is_written same) ∙ e)

    not_yet : (word : List ℕ) (words : List (List ℕ)) → is (codes "}") word ≡ false → (p : Option (Phrase (List Field))) → Parses nothing (only AreWritten) (word ∷ words) p → Parses nothing (only IsInBraces) (word ∷ words) p
    not_yet word words e p fields = same_forms nothing (only AreWritten) (only IsInBraces) (word ∷ words) p (λ u tokens is. inr is) from fields
      where
        from : (u : Unit {0}) (tokens : List Token) (rest : List (List ℕ)) → word ∷ words ≡ words_of tokens ++ rest → IsInBraces tokens → AreWritten tokens
        from u tokens rest same (inl close) = wrong (sym e ∙ no_word (codes "}") word words tokens rest close same)
        from u tokens rest same (inr is) = is

    braces_parse : (words : List (List ℕ)) → Parses nothing (only IsInBraces) words (rule.in_braces rule_of words)
    braces_parse [] = λ u tokens rest has same. none tokens rest has same
      where
        none : (tokens : List Token) (rest : List (List ℕ)) → IsInBraces tokens → [] ≡ words_of tokens ++ rest → ⊥
        none [] rest (inl close) same = close
        none [] rest (inr is) same = absurd (omega (arith, subst (λ (t : List Token). length is.fields < length (words_of t)) (sym is.whole) (some_tokens is.first is.fields)))
        none (token ∷ tokens) rest has same = no_head (token_text token) (words_of tokens ++ rest) same
    braces_parse (word ∷ words) = by_test (is (codes "}") word) refl
      where
        by_test : (b : Bool) → is (codes "}") word ≡ b →
            Parses nothing (only IsInBraces) (word ∷ words) ((if b then (λ (all : List (List ℕ)). says [] words) else rule.fields (length (word ∷ words)) rule_of) (word ∷ words))
        by_test true e = closed word words e
        by_test false e = not_yet word words e (rule.fields (length (word ∷ words)) rule_of (word ∷ words)) (written_parse (word ∷ words))

    -- ---- a body

    abbrev IsOpened : List Token → Type 0
    IsOpened = AfterWord (codes "{") IsInBraces

    pub body_parses : (words : List (List ℕ)) → Parses nothing (only (IsBodyOf K)) words (rule.body_of rule_of words)
    body_parses [] = λ u tokens rest has same. none tokens rest has same
      where
        some : (fields : List FieldForm) → (words : List (List ℕ)) × (words_of (body_tokens fields) ≡ codes "{" ∷ words)
        some [] = (codes "}" ∷ [], refl)
        some (first ∷ fields) = (words_of (fields_tokens first fields), refl)

        none : (tokens : List Token) (rest : List (List ℕ)) → IsBodyOf K tokens → [] ≡ words_of tokens ++ rest → ⊥
        none tokens rest has same =
            let opens = some has.fields in
            no_head (codes "{") (opens.0 ++ rest) (same ∙ ap (λ (t : List Token). words_of t ++ rest) has.whole ∙ ap (λ (w : List (List ℕ)). w ++ rest) opens.1)
    body_parses (word ∷ words) =
        same_forms nothing (only IsOpened) (only (IsBodyOf K)) (word ∷ words) (rule.body_of rule_of (word ∷ words)) to from
        (prefixed (codes "{") IsInBraces word words (rule.in_braces rule_of) (braces_parse words))
      where
        to : (u : Unit {0}) (tokens : List Token) → IsOpened tokens → IsBodyOf K tokens
        to u tokens opened = by_form opened.is opened.whole
          where
            by_form : {others : List Token} → IsInBraces others → tokens ≡ Text (codes "{") ∷ others → IsBodyOf K tokens
            by_form (inl close) whole = record { fields = []; are = tt; whole = whole ∙ ap (λ (t : List Token). Text (codes "{") ∷ t) (one_token (codes "}") _ close) }
            by_form (inr is) whole = record { fields = is.first ∷ is.fields; are = is.are; whole = whole ∙ ap (λ (t : List Token). Text (codes "{") ∷ t) is.whole }

        from : (u : Unit {0}) (tokens : List Token) (rest : List (List ℕ)) → word ∷ words ≡ words_of tokens ++ rest → IsBodyOf K tokens → IsOpened tokens
        from u tokens rest same is = by_fields is.fields is.are is.whole
          where
            by_fields : (fields : List FieldForm) → AreFields K fields → tokens ≡ body_tokens fields → IsOpened tokens
            by_fields [] are whole = record { others = Text (codes "}") ∷ []; is = inl (refl, tt); whole = whole }
            by_fields (first ∷ fields) are whole = record { others = fields_tokens first fields; is = inr (record { first = first; fields = fields; are = are; whole = refl }); whole = whole }

-- ---- unions in one another

kind_words : (U : List Token → Type 0) → AreUnions U → (tokens : List Token) → IsKindOf U tokens → (word : List ℕ) × (words : List (List ℕ)) × (words_of tokens ≡ word ∷ words) × (is (codes "}") word ≡ false)
kind_words U unions tokens (inr has) = let opens = unions tokens has in (codes "union", opens.0, opens.1, refl)
kind_words U unions tokens (inl has) =
    let some = some_word U unions tokens (inl has) in
    let text = sym some.2 ∙ sym (append-nil (words_of tokens)) in
    (some.0, some.1, some.2, not_so (is (codes "}") some.0) (rows_apart (codes "}") plain_kinds some.0 some.1 tokens [] refl has text))

no_unions : AreUnions NoUnion
no_unions tokens has = absurd has

unions_of : (B : List Token → Type 0) → AreUnions (IsUnionOf B)
unions_of B tokens has = (words_of has.body, ap words_of has.whole)

none_parse : (word : List ℕ) (words : List (List ℕ)) → Parses nothing (only NoUnion) (word ∷ words) (union_rule NoUnion no_unions no_phrase word words)
none_parse word words = by_test (is (codes "union") word)
  where
    by_test : (b : Bool) → Parses nothing (only NoUnion) (word ∷ words) ((if b then rule.union no_phrase else no_phrase) words)
    by_test true = λ u tokens rest has same. has
    by_test false = λ u tokens rest has same. has

unions_parse : (B : List Token → Type 0) (body : Rule (List Field)) → ((words : List (List ℕ)) → Parses nothing (only B) words (body words)) →
    (word : List ℕ) (words : List (List ℕ)) → Parses nothing (only (IsUnionOf B)) (word ∷ words) (union_rule (IsUnionOf B) (unions_of B) body word words)
unions_parse B body bodies word words =
    same_forms nothing (only (AfterWord (codes "union") B)) (only (IsUnionOf B)) (word ∷ words) (union_rule (IsUnionOf B) (unions_of B) body word words)
    (λ u tokens after. record { body = after.others; is = after.is; whole = after.whole })
    (λ u tokens rest same has. record { others = has.body; is = has.is; whole = has.whole })
    (prefixed (codes "union") B word words (rule.union body) (seen nothing nothing (only B) words (body words) (λ fields. Union fields) (λ fields. refl) (bodies words)))

pub bodies_parse : (deep : ℕ) (words : List (List ℕ)) → Parses nothing (only (IsBody deep)) words (rule.body deep words)
bodies_parse zero words =
    body_parses (IsKindOf NoUnion) (kind_words NoUnion no_unions) (rule.kind no_phrase) (kind_parses NoUnion no_unions no_phrase none_parse) words
bodies_parse (suc deep) words =
    let U = IsUnionOf (IsBody deep) in
    let unions = unions_of (IsBody deep) in
    body_parses (IsKindOf U) (kind_words U unions) (rule.kind (rule.body deep)) (kind_parses U unions (rule.body deep) (unions_parse (IsBody deep) (rule.body deep) (bodies_parse deep))) words
