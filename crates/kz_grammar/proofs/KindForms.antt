-- Kinds of fields, by their forms.
use Rattle.std.proofs.Common.{◌≡◌, ◌⊎◌, inl, inr, ℕ, ◌&&◌, Bool, true, false, not, if◌then◌else◌, List, [], ◌∷◌, ◌++◌, codes, Option, Some, None, refl, ap, sym, ◌∙◌}
use Rattle.kz_model.specs.declared.bundle.Kind.{Kind}
use Rattle.kz_model.specs.declared.bundle.Kind.TheVariants.{Ptr, Auth, U8, U16, U32, U64, Bytes, Struct}
use Rattle.kz_model.specs.declared.bundle.Field.{Field}
use Rattle.kz_model.specs.declared.grammar.Mark.{Mark}
use Rattle.kz_model.specs.declared.grammar.Mark.TheVariants.{Fine}
use Rattle.kz_model.specs.Grammar.Tokens.{is, number_in}
use Rattle.kz_model.specs.Grammar.TypeLine as rule
use Rattle.kz_model.specs.Grammar.TypeLine.{Phrase, Rule, no_phrase, says}
use Rattle.kz_bundle.proofs.Choices.{wrong, left, right, is_same, is_itself}
use Rattle.kz_bundle.proofs.Grammar.{worse_fine}
use Rattle.kz_grammar.specs.Forms.{Token, Text, Run, WithCount, token_text, words_of, Slot, Word, Name, Hex, Number, HasRow, HasOneOf, plain_kinds, IsKindOf}
use Rattle.kz_grammar.proofs.Rows.{mark_of, fits_slot, token_at, slot_fills, slot_text, fills_slot, fills_alone}
use Rattle.kz_grammar.proofs.Phrases.{Parses}

-- forms of which nothing is seen
abbrev pub nothing : {A : Type 0} → A → Unit {0}
nothing a = tt

abbrev pub only : (List Token → Type 0) → Unit {0} → List Token → Type 0
only F u = F

-- ---- words at the head

pub same_head : (v w : List ℕ) (xs ys : List (List ℕ)) → v ∷ xs ≡ w ∷ ys → v ≡ w
same_head v w xs ys e = cc

pub same_tail : (v w : List ℕ) (xs ys : List (List ℕ)) → v ∷ xs ≡ w ∷ ys → xs ≡ ys
same_tail v w xs ys e = cc

pub no_head : {P : Type 0} (w : List ℕ) (xs : List (List ℕ)) → [] ≡ w ∷ xs → P
no_head w xs e = absurd (empty w xs e)
  where
    empty : (w : List ℕ) (xs : List (List ℕ)) → [] ≡ w ∷ xs → ⊥
    empty w xs e = cc

-- a row of one word
pub one_token : (w : List ℕ) (tokens : List Token) → HasRow (Word w ∷ []) tokens → tokens ≡ Text w ∷ []
one_token w [] has = absurd has
one_token w (Text text ∷ []) has = ap (λ (t : List ℕ). Text t ∷ []) has.0
one_token w (Run hole ∷ []) has = absurd has.0
one_token w (WithCount before hole after ∷ []) has = absurd has.0
one_token w (token ∷ next ∷ tokens) has = absurd has.1

-- a row of a word and a slot, at these words
two_tokens : (w : List ℕ) (slot : Slot) (word x : List ℕ) (words : List (List ℕ)) (tokens : List Token) (rest : List (List ℕ)) → HasRow (Word w ∷ slot ∷ []) tokens → word ∷ x ∷ words ≡ words_of tokens ++ rest →
    (fits_slot slot x ≡ true) × (tokens ≡ Text w ∷ token_at slot x ∷ [])
two_tokens w slot word x words [] rest has e = absurd has
two_tokens w slot word x words (token ∷ []) rest has e = absurd has.1
two_tokens w slot word x words (Text text ∷ token ∷ []) rest has e =
    let here : x ≡ token_text token = same_head x (token_text token) words rest (same_tail word text (x ∷ words) (token_text token ∷ rest) e) in (
      ap (fits_slot slot) here ∙ fills_slot token slot has.1.0,
      ap (λ (t : List ℕ). Text t ∷ token ∷ []) has.0 ∙ ap (λ (t : Token). Text w ∷ t ∷ []) (fills_alone token slot has.1.0 ∙ ap (token_at slot) (sym here)),
    )
two_tokens w slot word x words (Run hole ∷ token ∷ []) rest has e = absurd has.0
two_tokens w slot word x words (WithCount before hole after ∷ token ∷ []) rest has e = absurd has.0
two_tokens w slot word x words (token ∷ next ∷ more ∷ tokens) rest has e = absurd has.1.1

-- there is no word for the slot
no_slot : (w : List ℕ) (slot : Slot) (word : List ℕ) (tokens : List Token) (rest : List (List ℕ)) → HasRow (Word w ∷ slot ∷ []) tokens → word ∷ [] ≡ words_of tokens ++ rest → ⊥
no_slot w slot word [] rest has e = has
no_slot w slot word (token ∷ []) rest has e = has.1
no_slot w slot word (token ∷ next ∷ tokens) rest has e = no_head (token_text next) (words_of tokens ++ rest) (same_tail word (token_text token) [] (token_text next ∷ (words_of tokens ++ rest)) e)

-- ---- rows as phrases

-- the word of a row, as a phrase
pub word_parses : {A : Type 0} (a : A) (w word : List ℕ) (words : List (List ℕ)) → is w word ≡ true → Parses nothing (only (HasRow (Word w ∷ []))) (word ∷ words) (says a words)
word_parses a w word words e =
    record {
      tokens = Text w ∷ [];
      form = (refl, tt);
      text = ap (λ (t : List ℕ). t ∷ words) (is_same w word e);
      marked = refl;
      alone = λ u others rest has same. (refl, one_token w others has);
    }

-- where it is not there
pub no_word : (w word : List ℕ) (words : List (List ℕ)) (tokens : List Token) (rest : List (List ℕ)) → HasRow (Word w ∷ []) tokens → word ∷ words ≡ words_of tokens ++ rest → is w word ≡ true
no_word w word words tokens rest has e =
    ap (is w) (same_head word w words rest (e ∙ ap (λ (t : List Token). words_of t ++ rest) (one_token w tokens has))) ∙ is_itself w

slot_parses : (w : List ℕ) (slot : Slot) (word x : List ℕ) (words : List (List ℕ)) (k : Kind) (m : Mark) → m ≡ mark_of (token_at slot x ∷ []) → is w word ≡ true →
    Parses nothing (only (HasRow (Word w ∷ slot ∷ []))) (word ∷ x ∷ words) (if fits_slot slot x then Some (record { said = k; mark = m; rest = words }) else None)
slot_parses w slot word x words k m marked e = by_test (fits_slot slot x) refl
  where
    by_test : (b : Bool) → fits_slot slot x ≡ b → Parses nothing (only (HasRow (Word w ∷ slot ∷ []))) (word ∷ x ∷ words) (if b then Some (record { said = k; mark = m; rest = words }) else None)
    by_test true fits =
        record {
          tokens = Text w ∷ token_at slot x ∷ [];
          form = (refl, (slot_fills slot x fits, tt));
          text = ap (λ (t : List ℕ). t ∷ x ∷ words) (is_same w word e) ∙ ap (λ (t : List ℕ). w ∷ t ∷ words) (slot_text slot x);
          marked = marked;
          alone = λ u others rest has same. (refl, (two_tokens w slot word x words others rest has same).1);
        }
    by_test false not_so = λ u others rest has same. wrong (sym not_so ∙ (two_tokens w slot word x words others rest has same).0)

bytes_parses : (word : List ℕ) (words : List (List ℕ)) → is (codes "bytes") word ≡ true → Parses nothing (only (HasRow (Word (codes "bytes") ∷ Number [] 1 8192 ∷ []))) (word ∷ words) (rule.bytes words)
bytes_parses word [] e = λ u tokens rest has same. no_slot (codes "bytes") (Number [] 1 8192) word tokens rest has same
bytes_parses word (x ∷ words) e =
    let number = number_in 1 8192 x in
    slot_parses (codes "bytes") (Number [] 1 8192) word x words (Bytes number.0) number.1 (sym (worse_fine number.1)) e

struct_parses : (word : List ℕ) (words : List (List ℕ)) → is (codes "struct") word ≡ true → Parses nothing (only (HasRow (Word (codes "struct") ∷ Name ∷ []))) (word ∷ words) (rule.struct words)
struct_parses word [] e = λ u tokens rest has same. no_slot (codes "struct") Name word tokens rest has same
struct_parses word (x ∷ words) e = slot_parses (codes "struct") Name word x words (Struct x) Fine refl e

-- ---- rows that begin with other words

abbrev begins_apart : List ℕ → List Slot → Bool
begins_apart w (Word v ∷ slots) = not (is w v)
begins_apart w slots = false

abbrev pub all_apart : List ℕ → List (List Slot) → Bool
all_apart w [] = true
all_apart w (row ∷ rows) = begins_apart w row && all_apart w rows

row_apart : (w : List ℕ) (row : List Slot) (word : List ℕ) (words : List (List ℕ)) (tokens : List Token) (rest : List (List ℕ)) → begins_apart w row ≡ true → HasRow row tokens → word ∷ words ≡ words_of tokens ++ rest → is w word ≡ true → ⊥
row_apart w [] word words tokens rest apart has e f = wrong apart
row_apart w (Name ∷ slots) word words tokens rest apart has e f = wrong apart
row_apart w (Hex ∷ slots) word words tokens rest apart has e f = wrong apart
row_apart w (Number others low high ∷ slots) word words tokens rest apart has e f = wrong apart
row_apart w (Word v ∷ slots) word words [] rest apart has e f = has
row_apart w (Word v ∷ slots) word words (Run hole ∷ tokens) rest apart has e f = has.0
row_apart w (Word v ∷ slots) word words (WithCount before hole after ∷ tokens) rest apart has e f = has.0
row_apart w (Word v ∷ slots) word words (Text text ∷ tokens) rest apart has e f =
    let same : word ≡ v = same_head word text words (words_of tokens ++ rest) e ∙ has.0 in
    wrong (sym (sym apart ∙ ap not (ap (is w) (sym same) ∙ f)))

pub rows_apart : (w : List ℕ) (rows : List (List Slot)) (word : List ℕ) (words : List (List ℕ)) (tokens : List Token) (rest : List (List ℕ)) → all_apart w rows ≡ true → HasOneOf rows tokens → word ∷ words ≡ words_of tokens ++ rest → is w word ≡ true → ⊥
rows_apart w [] word words tokens rest apart has e f = has
rows_apart w (row ∷ rows) word words tokens rest apart has e f =
    by_row (λ there. rows_apart w rows word words tokens rest (right (begins_apart w row) (all_apart w rows) apart) there e f) has
  where
    by_row : (HasOneOf rows tokens → ⊥) → HasRow row tokens ⊎ HasOneOf rows tokens → ⊥
    by_row others (inl here) = row_apart w row word words tokens rest (left (begins_apart w row) (all_apart w rows) apart) here e f
    by_row others (inr there) = others there

-- no row that begins with a word is empty
no_empty : (w : List ℕ) (rows : List (List Slot)) → all_apart w rows ≡ true → HasOneOf rows [] → ⊥
no_empty w [] apart has = has
no_empty w (row ∷ rows) apart has =
    by_row row (left (begins_apart w row) (all_apart w rows) apart) (no_empty w rows (right (begins_apart w row) (all_apart w rows) apart)) has
  where
    by_row : (row : List Slot) → begins_apart w row ≡ true → (HasOneOf rows [] → ⊥) → HasRow row [] ⊎ HasOneOf rows [] → ⊥
    by_row [] apart others (inl here) = wrong apart
    by_row (slot ∷ slots) apart others (inl here) = here
    by_row row apart others (inr there) = others there

-- ---- kinds

-- unions begin with their word
abbrev pub AreUnions : (List Token → Type 0) → Type 0
AreUnions U = (tokens : List Token) → U tokens → (more : List (List ℕ)) × (words_of tokens ≡ codes "union" ∷ more)

module _ (U : List Token → Type 0) (unions : AreUnions U) where
  abbrev AreKinds : List (List Slot) → List Token → Type 0
  AreKinds rows tokens = HasOneOf rows tokens ⊎ U tokens

  pub is_union_word : (word : List ℕ) (words : List (List ℕ)) (tokens : List Token) (rest : List (List ℕ)) → U tokens → word ∷ words ≡ words_of tokens ++ rest → word ≡ codes "union"
  is_union_word word words tokens rest has e =
      let opens = unions tokens has in
      same_head word (codes "union") words (opens.0 ++ rest) (e ∙ ap (λ (t : List (List ℕ)). t ++ rest) opens.1)

  -- what a rule gives after a word is right by these rows, or by unions
  record IsRightByKinds (rows : List (List Slot)) (word : List ℕ) (words : List (List ℕ)) (given : Rule Kind) : Type 0 where
    parses : Parses nothing (only (AreKinds rows)) (word ∷ words) (given words)

  kinds_apart : (w : List ℕ) (rows : List (List Slot)) (word : List ℕ) (words : List (List ℕ)) (tokens : List Token) (rest : List (List ℕ)) → (not (is w (codes "union")) && all_apart w rows) ≡ true → AreKinds rows tokens →
      word ∷ words ≡ words_of tokens ++ rest → is w word ≡ true → ⊥
  kinds_apart w rows word words tokens rest apart (inl has) e f = rows_apart w rows word words tokens rest (right (not (is w (codes "union"))) (all_apart w rows) apart) has e f
  kinds_apart w rows word words tokens rest apart (inr has) e f =
      wrong (sym (sym (left (not (is w (codes "union"))) (all_apart w rows) apart) ∙ ap not (ap (is w) (sym (is_union_word word words tokens rest has e)) ∙ f)))

  module _ (w : List ℕ) (slots : List Slot) (rows : List (List Slot)) (word : List ℕ) (words : List (List ℕ)) where
    abbrev row : List Slot
    row = Word w ∷ slots

    here : is w word ≡ true → (not (is w (codes "union")) && all_apart w rows) ≡ true → (p : Option (Phrase Kind)) → Parses nothing (only (HasRow row)) (word ∷ words) p → Parses nothing (only (AreKinds (row ∷ rows))) (word ∷ words) p
    here e apart None none = λ u tokens rest has same. by_row tokens rest same has
      where
        by_row : (tokens : List Token) (rest : List (List ℕ)) → word ∷ words ≡ words_of tokens ++ rest → AreKinds (row ∷ rows) tokens → ⊥
        by_row tokens rest same (inl (inl has)) = none tt tokens rest has same
        by_row tokens rest same (inl (inr has)) = kinds_apart w rows word words tokens rest apart (inl has) same e
        by_row tokens rest same (inr has) = kinds_apart w rows word words tokens rest apart (inr has) same e
    here e apart (Some p) first =
        record {
          tokens = first.tokens;
          form = inl (inl first.form);
          text = first.text;
          marked = first.marked;
          alone = λ u others rest has same. (refl, by_row others rest same has);
        }
      where
        by_row : (others : List Token) (rest : List (List ℕ)) → word ∷ words ≡ words_of others ++ rest → AreKinds (row ∷ rows) others → others ≡ first.tokens
        by_row others rest same (inl (inl has)) = (first.alone tt others rest has same).1
        by_row others rest same (inl (inr has)) = absurd (kinds_apart w rows word words others rest apart (inl has) same e)
        by_row others rest same (inr has) = absurd (kinds_apart w rows word words others rest apart (inr has) same e)

    -- the word of a row is the first
    is_first : (tokens : List Token) (rest : List (List ℕ)) → HasRow row tokens → word ∷ words ≡ words_of tokens ++ rest → is w word ≡ true
    is_first [] rest has same = absurd has
    is_first (Text text ∷ tokens) rest has same = ap (is w) (same_head word text words (words_of tokens ++ rest) same ∙ has.0) ∙ is_itself w
    is_first (Run hole ∷ tokens) rest has same = absurd has.0
    is_first (WithCount before hole after ∷ tokens) rest has same = absurd has.0

    there : is w word ≡ false → (p : Option (Phrase Kind)) → Parses nothing (only (AreKinds rows)) (word ∷ words) p → Parses nothing (only (AreKinds (row ∷ rows))) (word ∷ words) p
    there e None none = λ u tokens rest has same. by_row tokens rest same has
      where
        by_row : (tokens : List Token) (rest : List (List ℕ)) → word ∷ words ≡ words_of tokens ++ rest → AreKinds (row ∷ rows) tokens → ⊥
        by_row tokens rest same (inl (inl has)) = wrong (sym e ∙ is_first tokens rest has same)
        by_row tokens rest same (inl (inr has)) = none tt tokens rest (inl has) same
        by_row tokens rest same (inr has) = none tt tokens rest (inr has) same
    there e (Some p) first =
        record {
          tokens = first.tokens;
          form = wider first.form;
          text = first.text;
          marked = first.marked;
          alone = λ u others rest has same. (refl, by_row others rest same has);
        }
      where
        wider : AreKinds rows first.tokens → AreKinds (row ∷ rows) first.tokens
        wider (inl has) = inl (inr has)
        wider (inr has) = inr has

        by_row : (others : List Token) (rest : List (List ℕ)) → word ∷ words ≡ words_of others ++ rest → AreKinds (row ∷ rows) others → others ≡ first.tokens
        by_row others rest same (inl (inl has)) = wrong (sym e ∙ is_first others rest has same)
        by_row others rest same (inl (inr has)) = (first.alone tt others rest (inl has) same).1
        by_row others rest same (inr has) = (first.alone tt others rest (inr has) same).1

    -- by the first word
    by_word : (r s : Rule Kind) → (not (is w (codes "union")) && all_apart w rows) ≡ true → (is w word ≡ true → Parses nothing (only (HasRow row)) (word ∷ words) (r words)) →
        Parses nothing (only (AreKinds rows)) (word ∷ words) (s words) → Parses nothing (only (AreKinds (row ∷ rows))) (word ∷ words) ((if is w word then r else s) words)
    by_word r s apart first next = by_test (is w word) refl
      where
        by_test : (b : Bool) → is w word ≡ b → Parses nothing (only (AreKinds (row ∷ rows))) (word ∷ words) ((if b then r else s) words)
        by_test true e = here e apart (r words) (first e)
        by_test false e = there e (s words) next

  at_kind : {w : List ℕ} {slots : List Slot} {rows : List (List Slot)} {word : List ℕ} {words : List (List ℕ)} {s : Rule Kind} (r : Rule Kind) →
      (not (is w (codes "union")) && all_apart w rows) ≡ true → (is w word ≡ true → Parses nothing (only (HasRow (Word w ∷ slots))) (word ∷ words) (r words)) →
      IsRightByKinds rows word words s → IsRightByKinds ((Word w ∷ slots) ∷ rows) word words (if is w word then r else s)
  at_kind {w} {slots} {rows} {word} {words} {s} r apart first next = record { parses = by_word w slots rows word words r s apart first next.parses }

  abbrev pub union_rule : Rule (List Field) → List ℕ → Rule Kind
  union_rule body word = if is (codes "union") word then rule.union body else no_phrase

  no_rows : (word : List ℕ) (words : List (List ℕ)) (given : Rule Kind) → Parses nothing (only U) (word ∷ words) (given words) → IsRightByKinds [] word words given
  no_rows word words given union = record { parses = by_found (given words) union }
    where
      is_union : (tokens : List Token) → AreKinds [] tokens → U tokens
      is_union tokens (inl has) = absurd has
      is_union tokens (inr has) = has

      by_found : (p : Option (Phrase Kind)) → Parses nothing (only U) (word ∷ words) p → Parses nothing (only (AreKinds [])) (word ∷ words) p
      by_found None none = λ u tokens rest has same. none tt tokens rest (is_union tokens has) same
      by_found (Some p) first =
          record {
            tokens = first.tokens;
            form = inr first.form;
            text = first.text;
            marked = first.marked;
            alone = λ u others rest has same. (refl, (first.alone tt others rest (is_union others has) same).1);
          }

  -- a kind has a word
  pub some_word : (tokens : List Token) → IsKindOf U tokens → (word : List ℕ) × (words : List (List ℕ)) × (words_of tokens ≡ word ∷ words)
  some_word tokens (inr has) = let opens = unions tokens has in (codes "union", opens.0, opens.1)
  some_word [] (inl has) = absurd (no_empty [] plain_kinds refl has)
  some_word (token ∷ tokens) (inl has) = (token_text token, words_of tokens, refl)

  module _ (body : Rule (List Field)) (union_parses : (word : List ℕ) (words : List (List ℕ)) → Parses nothing (only U) (word ∷ words) (union_rule body word words)) where
    kinds : (word : List ℕ) (words : List (List ℕ)) → IsRightByKinds plain_kinds word words (rule.kind_after body word)
    kinds word words =
        at_kind (says Ptr) refl (word_parses Ptr (codes "ptr") word words)
        (at_kind (says Auth) refl (word_parses Auth (codes "auth") word words)
        (at_kind (says U8) refl (word_parses U8 (codes "u8") word words)
        (at_kind (says U16) refl (word_parses U16 (codes "u16") word words)
        (at_kind (says U32) refl (word_parses U32 (codes "u32") word words)
        (at_kind (says U64) refl (word_parses U64 (codes "u64") word words)
        (at_kind rule.bytes refl (bytes_parses word words)
        (at_kind rule.struct refl (struct_parses word words)
        (no_rows word words (union_rule body word) (union_parses word words)))))))))

    pub kind_parses : (words : List (List ℕ)) → Parses nothing (only (IsKindOf U)) words (rule.kind body words)
    kind_parses [] = λ u tokens rest has same. none tokens rest has same
      where
        none : (tokens : List Token) (rest : List (List ℕ)) → IsKindOf U tokens → [] ≡ words_of tokens ++ rest → ⊥
        none tokens rest has same =
            let some = some_word tokens has in
            no_head some.0 (some.1 ++ rest) (same ∙ ap (λ (t : List (List ℕ)). t ++ rest) some.2)
    kind_parses (word ∷ words) = (kinds word words).parses
