-- A text cut at the first byte that stands in no NAME.
use Rattle.std.proofs.Common.{◌≡◌, ◌≢◌, ℕ, zero, suc, ◌<◌, ◌≤◌, Bool, true, false, ◌&&◌, ◌||◌, ◌==◌, nat_le, List, [], ◌∷◌, length, take, drop, get_or, slice_index, ◌+◌, refl, ap, subst, sym, ◌∙◌, arith}
use Rattle.std.specs.List.{list_all, onto_first}
use Rattle.std.proofs.Math.Bool.{and-false}
use Rattle.std.proofs.lemmas.Bool.{cond-false}
use Rattle.std.proofs.lemmas.List.Elements.{All-head, All-tail}
use Rattle.std.proofs.lemmas.Grind.{common_steps}
use Rattle.kz_model.specs.Grammar.Tokens.{tokens_of, is_small, is_name_byte, is_name}
use Rattle.kz_bundle.specs.Cut.{HasNoSpace, AreNameBytes, HasNoName}
use Rattle.kz_bundle.proofs.Cut.{cut_at}

abbrev IsNameByte : ℕ → Type 0
IsNameByte byte = is_name_byte byte ≡ true

no_space : (byte : ℕ) → IsNameByte byte → byte ≢ 32
no_space byte named is = absurd (let told : is_name_byte byte ≡ false = ap is_name_byte is in cc)

pub names_have_no_space : (text : List ℕ) → AreNameBytes text → HasNoSpace text
names_have_no_space text all = λ k d lt. no_space _ (all k d lt)

-- a space behind bytes of names
pub cut_behind_names : (text rest : List ℕ) (at : ℕ) → at < length text → slice_index text at ≡ 32 → AreNameBytes (take at text) → rest ≡ drop (at + 1) text → tokens_of text ≡ take at text ∷ tokens_of rest
cut_behind_names text rest at lt space before is = cut_at text rest at (record { within = lt; space = space; none_before = names_have_no_space (take at text) before }) is

all_named : (bytes : List ℕ) → AreNameBytes bytes → list_all is_name_byte bytes ≡ true
all_named [] all = refl
all_named (byte ∷ bytes) all =
    ap (λ t. t && list_all is_name_byte bytes) (All-head IsNameByte byte bytes all) ∙ all_named bytes (All-tail IsNameByte byte bytes all)

-- bytes of names are a NAME where the first is a small letter and they are not too many
pub name_by_first : (word : List ℕ) → AreNameBytes word → 1 ≤ length word → is_small (get_or word 0 0) ≡ true → nat_le (length (drop 1 word)) 31 ≡ is_name word
name_by_first [] all some small = absurd (omega arith)
name_by_first (byte ∷ bytes) all some small =
    sym (ap (λ t. t && list_all is_name_byte bytes && nat_le (length bytes) 31) small ∙ ap (λ t. t && nat_le (length bytes) 31) (all_named bytes (All-tail IsNameByte byte bytes all)))

-- ---- a byte that stands in no NAME, and is no space

-- the first word has such a byte
abbrev HasOther : List (List ℕ) → Type 0
HasOther [] = ⊥
HasOther (word ∷ words) = list_all is_name_byte word ≡ false

onto_other : (byte : ℕ) (words : List (List ℕ)) → is_name_byte byte ≡ false → HasOther (onto_first byte words)
onto_other byte [] other = ap (λ t. t && true) other
onto_other byte (word ∷ words) other = ap (λ t. t && list_all is_name_byte word) other

onto_later : (byte : ℕ) (words : List (List ℕ)) → HasOther words → HasOther (onto_first byte words)
onto_later byte [] other = absurd other
onto_later byte (word ∷ words) other = ap (λ t. is_name_byte byte && t) other ∙ and-false (is_name_byte byte)

not_space : (byte : ℕ) → byte ≢ 32 → (byte == 32) ≡ false
not_space byte h = grind (arith, common_steps)

before_space : (byte : ℕ) (text : List ℕ) → byte ≢ 32 → HasOther (onto_first byte (tokens_of text)) → HasOther (tokens_of (byte ∷ text))
before_space byte text other has = subst HasOther (sym (cond-false (byte == 32) ([] ∷ tokens_of text) (onto_first byte (tokens_of text)) (not_space byte other))) has

other_first : (text : List ℕ) (at : ℕ) → at < length text → get_or text at 0 ≢ 32 → is_name_byte (get_or text at 0) ≡ false → AreNameBytes (take at text) → HasOther (tokens_of text)
other_first [] at lt space other before = absurd (omega arith)
other_first (byte ∷ text) zero lt space other before = before_space byte text space (onto_other byte (tokens_of text) other)
other_first (byte ∷ text) (suc at) lt space other before =
    let rest = other_first text at (omega arith) space other (All-tail IsNameByte byte (take at text) before) in
    before_space byte text (no_space byte (All-head IsNameByte byte (take at text) before)) (onto_later byte (tokens_of text) rest)

no_name_by : (small digit line all short : Bool) → (((small || digit) || line) && all) ≡ false → ((small && all) && short) ≡ false
no_name_by false digit line all short h = refl
no_name_by true digit line all short h = ap (λ t. t && short) h

is_no_name : (words : List (List ℕ)) → HasOther words → HasNoName words
is_no_name [] h = h
is_no_name ([] ∷ words) h = refl
is_no_name ((byte ∷ bytes) ∷ words) h = no_name_by (is_small byte) _ _ (list_all is_name_byte bytes) _ h

pub no_name_at : (text : List ℕ) (at : ℕ) → at < length text → get_or text at 0 ≢ 32 → is_name_byte (get_or text at 0) ≡ false → AreNameBytes (take at text) → HasNoName (tokens_of text)
no_name_at text at lt space other before = is_no_name (tokens_of text) (other_first text at lt space other before)

-- the first word is this one
pub no_name_first : (word : List ℕ) (words more : List (List ℕ)) → words ≡ word ∷ more → is_name word ≡ false → HasNoName words
no_name_first word words more is none = subst HasNoName (sym is) none
