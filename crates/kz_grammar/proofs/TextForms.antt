-- Lines as texts: the tokens of a form have no space, so a line is theirs, parted by spaces.
use Rattle.std.proofs.Common.{◌≡◌, ◌⊎◌, inl, inr, ℕ, zero, suc, ◌==◌, ◌&&◌, Bool, true, false, not, if◌then◌else◌, List, [], ◌∷◌, ◌++◌, codes, Option, Some, None, refl, ap, sym, ◌∙◌, subst, arith}
use Rattle.std.specs.List.{list_all, onto_first, join_with_byte}
use Rattle.std.proofs.lemmas.List.Splits.{join_with_byte-slice_split}
use Rattle.std.proofs.lemmas.List.Folds.{list_all-append}
use Rattle.kz_model.specs.declared.grammar.Place.{Place}
use Rattle.kz_model.specs.declared.grammar.Place.TheVariants as place
use Rattle.kz_model.specs.Grammar.Tokens.{tokens_of, is_name, is_hex_digit, is_hex}
use Rattle.kz_model.specs.Grammar.Form.{Draft, is_last}
use Rattle.kz_bundle.proofs.Choices.{wrong, left, right, and_true, all_append, all_weaker}
use Rattle.kz_bundle.proofs.Splits.{lacks, lacks_space, part_ends, last_part}
use Rattle.kz_bundle.proofs.NameTexts.{name_dark}
use Rattle.kz_grammar.specs.Forms.{Hole, Token, Text, Run, WithCount, token_text, words_of, holes_of, EachHole, HasNoSpace, Slot, Word, Name, Hex, Number, HasRow, HasOneOf, header_rows, section_rows, order_rows, number_rows, FieldForm, label_token, fields_tokens, body_tokens, AreFields, plain_kinds, IsKindOf, NoUnion, IsUnionOf, IsBodyOf, IsBody, IsTypeForm, IsForm, HasForm, IsTextOf}
use Rattle.kz_grammar.specs.FormLaws.{FormsAreTexts}
use Rattle.kz_grammar.proofs.Phrases.{words_append, holes_append}
use Rattle.kz_grammar.proofs.KindForms.{no_head}
use Rattle.kz_grammar.proofs.TypeForms.{type_words}

-- ---- words without spaces

abbrev clear : List ℕ → Bool
clear word = lacks 32 word

abbrev AreClear : List Token → Type 0
AreClear tokens = list_all clear (words_of tokens) ≡ true

abbrev AreRunsClear : List Token → Type 0
AreRunsClear tokens = EachHole HasNoSpace (holes_of tokens)

both_clear : (tokens others : List Token) → AreClear tokens → AreClear others → AreClear (tokens ++ others)
both_clear tokens others e f = ap (list_all clear) (words_append tokens others) ∙ all_append clear (words_of tokens) (words_of others) e f

each_parts : (holes others : List Hole) → EachHole HasNoSpace (holes ++ others) → EachHole HasNoSpace holes × EachHole HasNoSpace others
each_parts [] others each = (tt, each)
each_parts (hole ∷ holes) others each = let rest = each_parts holes others each.1 in ((each.0, rest.0), rest.1)

runs_parts : (tokens others : List Token) → AreRunsClear (tokens ++ others) → AreRunsClear tokens × AreRunsClear others
runs_parts tokens others runs = each_parts (holes_of tokens) (holes_of others) (subst (EachHole HasNoSpace) (holes_append tokens others) runs)

name_clear : (name : List ℕ) → is_name name ≡ true → clear name ≡ true
name_clear name e = lacks_space name (name_dark name e)

digit_clear : (byte : ℕ) → is_hex_digit byte ≡ true → not (byte == 32) ≡ true
digit_clear byte e = grind arith

hex_clear : (text : List ℕ) → is_hex text ≡ true → clear text ≡ true
hex_clear text e = all_weaker is_hex_digit (λ byte. not (byte == 32)) digit_clear text (right _ (list_all is_hex_digit text) e)

-- ---- rows

abbrev row_clear : List Slot → Bool
row_clear [] = true
row_clear (Word word ∷ slots) = clear word && row_clear slots
row_clear (slot ∷ slots) = row_clear slots

abbrev has_slot : List Slot → Bool
has_slot [] = false
has_slot (slot ∷ slots) = true

-- each row has a slot, and no word of it has a space
abbrev rows_clear : List (List Slot) → Bool
rows_clear [] = true
rows_clear (row ∷ rows) = (has_slot row && row_clear row) && rows_clear rows

row_is : (row : List Slot) (tokens : List Token) → row_clear row ≡ true → HasRow row tokens → AreRunsClear tokens → AreClear tokens
row_is [] [] e has runs = refl
row_is [] (token ∷ tokens) e has runs = absurd has
row_is (slot ∷ slots) [] e has runs = absurd has
row_is (Word word ∷ slots) (Text text ∷ tokens) e has runs =
    and_true (clear text) (list_all clear (words_of tokens)) (ap clear has.0 ∙ left (clear word) (row_clear slots) e) (row_is slots tokens (right (clear word) (row_clear slots) e) has.1 runs)
row_is (Name ∷ slots) (Text text ∷ tokens) e has runs = and_true (clear text) (list_all clear (words_of tokens)) (name_clear text has.0) (row_is slots tokens e has.1 runs)
row_is (Hex ∷ slots) (Text text ∷ tokens) e has runs = and_true (clear text) (list_all clear (words_of tokens)) (hex_clear text has.0) (row_is slots tokens e has.1 runs)
row_is (Number words low high ∷ slots) (Run hole ∷ tokens) e has runs = and_true (clear hole.run) (list_all clear (words_of tokens)) runs.0 (row_is slots tokens e has.1 runs.1)
row_is (Number words low high ∷ slots) (Text text ∷ tokens) e has runs = absurd has.0
row_is (Word word ∷ slots) (Run hole ∷ tokens) e has runs = absurd has.0
row_is (Name ∷ slots) (Run hole ∷ tokens) e has runs = absurd has.0
row_is (Hex ∷ slots) (Run hole ∷ tokens) e has runs = absurd has.0
row_is (slot ∷ slots) (WithCount before hole after ∷ tokens) e has runs = absurd has.0

rows_are : (rows : List (List Slot)) (tokens : List Token) → rows_clear rows ≡ true → HasOneOf rows tokens → AreRunsClear tokens → AreClear tokens
rows_are [] tokens e has runs = absurd has
rows_are (row ∷ rows) tokens e has runs = by_row (λ there. rows_are rows tokens (right (has_slot row && row_clear row) (rows_clear rows) e) there runs) has
  where
    by_row : (HasOneOf rows tokens → AreClear tokens) → HasRow row tokens ⊎ HasOneOf rows tokens → AreClear tokens
    by_row others (inl here) = row_is row tokens (right (has_slot row) (row_clear row) (left (has_slot row && row_clear row) (rows_clear rows) e)) here runs
    by_row others (inr there) = others there

none_empty : (rows : List (List Slot)) → rows_clear rows ≡ true → HasOneOf rows [] → ⊥
none_empty [] e has = has
none_empty (row ∷ rows) e has =
    by_row row (left (has_slot row) (row_clear row) (left (has_slot row && row_clear row) (rows_clear rows) e)) (none_empty rows (right (has_slot row && row_clear row) (rows_clear rows) e)) has
  where
    by_row : (row : List Slot) → has_slot row ≡ true → (HasOneOf rows [] → ⊥) → HasRow row [] ⊎ HasOneOf rows [] → ⊥
    by_row [] e others (inl here) = wrong e
    by_row (slot ∷ slots) e others (inl here) = here
    by_row row e others (inr there) = others there

-- ---- types

label_clear : (name : List ℕ) (count : Option Hole) (after : List ℕ) → is_name name ≡ true → clear after ≡ true → AreRunsClear (label_token name count after ∷ []) → AreClear (label_token name count after ∷ [])
label_clear name None after named e runs = and_true (clear (name ++ after)) true (all_append _ name after (name_clear name named) e) refl
label_clear name (Some hole) after named e runs =
    and_true (clear (name ++ codes "[" ++ hole.run ++ codes "]" ++ after)) true
    (all_append _ (name ++ codes "[" ++ hole.run ++ codes "]") after (all_append _ (name ++ codes "[" ++ hole.run) (codes "]") (all_append _ (name ++ codes "[") hole.run (all_append _ name (codes "[") (name_clear name named) refl) runs.0) refl) e) refl

module _ (K : List Token → Type 0) (kinds : (tokens : List Token) → K tokens → AreRunsClear tokens → AreClear tokens) where
  field_clear : (f : FieldForm) (after : List ℕ) (others : List Token) → K f.kind → is_name f.name ≡ true → clear after ≡ true → AreRunsClear (f.kind ++ label_token f.name f.count after ∷ others) →
      (AreRunsClear others → AreClear others) → AreClear (f.kind ++ label_token f.name f.count after ∷ others)
  field_clear f after others kind named e runs rest =
      let parts = runs_parts f.kind (label_token f.name f.count after ∷ others) runs in
      let more = runs_parts (label_token f.name f.count after ∷ []) others parts.1 in
      both_clear f.kind (label_token f.name f.count after ∷ others) (kinds f.kind kind parts.0)
      (both_clear (label_token f.name f.count after ∷ []) others (label_clear f.name f.count after named e more.0) (rest more.1))

  fields_clear : (f : FieldForm) (fields : List FieldForm) → AreFields K (f ∷ fields) → AreRunsClear (fields_tokens f fields) → AreClear (fields_tokens f fields)
  fields_clear f [] are runs = field_clear f [] (Text (codes "}") ∷ []) are.0.0 are.0.1 refl runs (λ runs. refl)
  fields_clear f (next ∷ fields) are runs = field_clear f (codes ";") (fields_tokens next fields) are.0.0 are.0.1 refl runs (fields_clear next fields are.1)

  body_clear : (tokens : List Token) → IsBodyOf K tokens → AreRunsClear tokens → AreClear tokens
  body_clear tokens is runs = subst AreClear (sym is.whole) (by_fields is.fields is.are (subst AreRunsClear is.whole runs))
    where
      by_fields : (fields : List FieldForm) → AreFields K fields → AreRunsClear (body_tokens fields) → AreClear (body_tokens fields)
      by_fields [] are runs = refl
      by_fields (f ∷ fields) are runs = fields_clear f fields are runs

kind_clear : (U : List Token → Type 0) → ((tokens : List Token) → U tokens → AreRunsClear tokens → AreClear tokens) → (tokens : List Token) → IsKindOf U tokens → AreRunsClear tokens → AreClear tokens
kind_clear U unions tokens (inl has) runs = rows_are plain_kinds tokens refl has runs
kind_clear U unions tokens (inr has) runs = unions tokens has runs

bodies_clear : (deep : ℕ) (tokens : List Token) → IsBody deep tokens → AreRunsClear tokens → AreClear tokens
bodies_clear zero = body_clear (IsKindOf NoUnion) (kind_clear NoUnion (λ tokens has runs. absurd has))
bodies_clear (suc deep) =
    body_clear (IsKindOf (IsUnionOf (IsBody deep))) (kind_clear (IsUnionOf (IsBody deep)) (λ tokens has runs. union tokens has (bodies_clear deep has.body has.is (subst AreRunsClear has.whole runs))))
  where
    union : (tokens : List Token) (has : IsUnionOf (IsBody deep) tokens) → AreClear has.body → AreClear tokens
    union tokens has e = subst AreClear (sym has.whole) e

type_clear : (tokens : List Token) → IsTypeForm tokens → AreRunsClear tokens → AreClear tokens
type_clear tokens is runs =
    subst AreClear (sym is.whole) (and_true (clear is.name) (list_all clear (words_of is.body)) (name_clear is.name is.named) (bodies_clear 8 is.body is.is (subst AreRunsClear is.whole runs)))

-- ---- places

either : (test : Bool) (rows others : List (List Slot)) → rows_clear rows ≡ true → rows_clear others ≡ true → rows_clear (if test then rows else others) ≡ true
either true rows others e f = e
either false rows others e f = f

header_clear : (at : ℕ) → rows_clear (header_rows at) ≡ true
header_clear at =
    either (at == 0) _ _ refl (either (at == 1) _ _ refl (either (at == 2) _ _ refl (either (at == 3) _ _ refl (either (at == 4) _ _ refl (either (at == 5) _ _ refl (either (at == 6) _ _ refl refl))))))

section_clear : (d : Draft) → rows_clear (section_rows d) ≡ true
section_clear d = either (is_last d) _ _ refl refl

form_clear : (p : Place) (d : Draft) (tokens : List Token) → IsForm p d tokens → AreRunsClear tokens → AreClear tokens
form_clear (place.Header at) d tokens form runs = rows_are (header_rows at) tokens (header_clear at) form runs
form_clear place.Types d tokens (inl form) runs = type_clear tokens form runs
form_clear place.Types d tokens (inr form) runs = rows_are (number_rows (codes "cpu") 0 0) tokens refl form runs
form_clear place.Steps d tokens form runs = rows_are (section_rows d) tokens (section_clear d) form runs
form_clear place.Order d tokens form runs = rows_are (order_rows d.header.cpus) tokens refl form runs
form_clear place.Ended d tokens form runs = absurd form

-- a form has a token
no_form : (p : Place) (d : Draft) → IsForm p d [] → ⊥
no_form (place.Header at) d form = none_empty (header_rows at) (header_clear at) form
no_form place.Types d (inl form) = no_head (codes "type") (form.name ∷ words_of form.body) (type_words [] [] form refl)
no_form place.Types d (inr form) = none_empty (number_rows (codes "cpu") 0 0) refl form
no_form place.Steps d form = none_empty (section_rows d) (section_clear d) form
no_form place.Order d form = none_empty (order_rows d.header.cpus) refl form
no_form place.Ended d form = form

-- ---- cut and joined

-- words without spaces, joined by spaces, are cut into themselves
cut_joined : (word : List ℕ) (words : List (List ℕ)) → list_all clear (word ∷ words) ≡ true → tokens_of (join_with_byte 32 (word ∷ words)) ≡ word ∷ words
cut_joined word [] e = last_part 32 word (left (clear word) true e)
cut_joined word (next ∷ words) e =
    part_ends 32 word (join_with_byte 32 (next ∷ words)) refl (left (clear word) (list_all clear (next ∷ words)) e)
    ∙ ap (λ (words : List (List ℕ)). word ∷ words) (cut_joined next words (right (clear word) (list_all clear (next ∷ words)) e))

-- no part has the byte at which it is cut
parts_clear : (text : List ℕ) → list_all clear (tokens_of text) ≡ true
parts_clear [] = refl
parts_clear (byte ∷ text) = by_test (byte == 32) refl (tokens_of text) (parts_clear text)
  where
    by_test : (b : Bool) → (byte == 32) ≡ b → (parts : List (List ℕ)) → list_all clear parts ≡ true → list_all clear (if b then [] ∷ parts else onto_first byte parts) ≡ true
    by_test true e parts all = all
    by_test false e [] all = and_true (clear (byte ∷ [])) true (and_true (not (byte == 32)) true (ap not e) refl) refl
    by_test false e (part ∷ parts) all =
        and_true (clear (byte ∷ part)) (list_all clear parts) (and_true (not (byte == 32)) (clear part) (ap not e) (left (clear part) (list_all clear parts) all)) (right (clear part) (list_all clear parts) all)

front : (xs ys : List ℕ) → clear (xs ++ ys) ≡ true → clear xs ≡ true
front xs ys e = left (clear xs) (clear ys) (sym (list_all-append (λ byte. not (byte == 32)) xs ys) ∙ e)

back : (xs ys : List ℕ) → clear (xs ++ ys) ≡ true → clear ys ≡ true
back xs ys e = right (clear xs) (clear ys) (sym (list_all-append (λ byte. not (byte == 32)) xs ys) ∙ e)

-- runs among words without spaces have none
runs_clear : (tokens : List Token) → AreClear tokens → AreRunsClear tokens
runs_clear tokens e = by_tokens tokens e
  where
    by_tokens : (tokens : List Token) → AreClear tokens → AreRunsClear tokens
    by_tokens [] e = tt
    by_tokens (Text text ∷ tokens) e = by_tokens tokens (right (clear text) (list_all clear (words_of tokens)) e)
    by_tokens (Run hole ∷ tokens) e = (left (clear hole.run) (list_all clear (words_of tokens)) e, by_tokens tokens (right (clear hole.run) (list_all clear (words_of tokens)) e))
    by_tokens (WithCount before hole after ∷ tokens) e =
        let word = left (clear (before ++ codes "[" ++ hole.run ++ codes "]" ++ after)) (list_all clear (words_of tokens)) e in
        let run = back (before ++ codes "[") hole.run (front (before ++ codes "[" ++ hole.run) (codes "]") (front (before ++ codes "[" ++ hole.run ++ codes "]") after word)) in
        (run, by_tokens tokens (right (clear (before ++ codes "[" ++ hole.run ++ codes "]" ++ after)) (list_all clear (words_of tokens)) e))

pub forms_are_texts : FormsAreTexts
forms_are_texts p d text tokens = (to, from)
  where
    to : HasForm p d (tokens_of text) tokens → IsTextOf p d text tokens
    to has =
        record {
          form = has.form;
          runs = runs_clear tokens (subst (λ (words : List (List ℕ)). list_all clear words ≡ true) has.text (parts_clear text));
          whole = sym (join_with_byte-slice_split 32 text) ∙ ap (join_with_byte 32) has.text;
        }

    cut : (tokens : List Token) → IsForm p d tokens → AreClear tokens → tokens_of (join_with_byte 32 (words_of tokens)) ≡ words_of tokens
    cut [] form e = absurd (no_form p d form)
    cut (token ∷ tokens) form e = cut_joined (token_text token) (words_of tokens) e

    from : IsTextOf p d text tokens → HasForm p d (tokens_of text) tokens
    from is = record { form = is.form; text = ap tokens_of is.whole ∙ cut tokens is.form (form_clear p d tokens is.form is.runs) }
