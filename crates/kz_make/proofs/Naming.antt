-- The names of a made bundle: they are names, and they differ.
use Rattle.std.proofs.Common.{◌≡◌, ℕ, suc, ◌+◌, ◌^◌, ◌<◌, ◌≤◌, ◌==◌, ◌&&◌, ◌||◌, true, false, nat_le, List, [], ◌∷◌, ◌++◌, length, map, codes, refl, ap, sym, ◌∙◌, arith, subst, length-append}
use Rattle.std.specs.Fmt.{decimal}
use Rattle.std.specs.List.{list_all, list_any}
use Rattle.std.proofs.lemmas.Fmt.{decimal_digit, decimal_injective, length-decimal-le}
use Rattle.kz_model.specs.declared.bundle.TypeDecl.{TypeDecl}
use Rattle.kz_model.specs.Grammar.Tokens.{is, is_name, is_small, is_digit, is_name_byte}
use Rattle.kz_model.specs.Grammar.Spelling.{IsName}
use Rattle.kz_model.specs.Grammar.Stages.{has}
use Rattle.kz_model.specs.Text.Made.{name_text, type_text, type_made, types_made, fields_of_type}
use Rattle.kz_bundle.proofs.Choices.{and_true, all_append, all_weaker, is_within, is_same, is_itself}
use Rattle.kz_bundle.proofs.NumberTexts.{decimal_digits}

-- ---- names

digit_name : (b : ℕ) → is_digit b ≡ true → is_name_byte b ≡ true
digit_name b e = grind arith

pub decimal_name : (n : ℕ) → n < 2 ^ 64 → list_all is_name_byte (decimal n) ≡ true
decimal_name n small = all_weaker is_digit is_name_byte digit_name (decimal n) (decimal_digits n small)

-- a small letter and a number
pub lettered : (letter n : ℕ) → is_small letter ≡ true → n < 2 ^ 64 → IsName (letter ∷ decimal n)
lettered letter n small few =
    and_true (is_small letter && list_all is_name_byte (decimal n)) (nat_le (length (decimal n)) 31) (and_true (is_small letter) (list_all is_name_byte (decimal n)) small (decimal_name n few))
    (is_within (length (decimal n)) 31 (omega (arith, length-decimal-le 20 n (omega arith) (omega arith) few)))

pub type_is_name : (t : ℕ) → t < 2 ^ 64 → IsName (type_text t)
type_is_name t few = lettered 116 t refl few

pub field_is_name : (i : ℕ) → i < 2 ^ 64 → IsName (codes "f" ++ decimal i)
field_is_name i few = lettered 102 i refl few

-- a name, its CPU being a digit
pub name_is : (cpu k : ℕ) → cpu < 4 → name_text cpu k ≡ 110 ∷ (48 + cpu) ∷ 95 ∷ decimal k
name_is cpu k few = ap (λ (digit : List ℕ). codes "n" ++ digit ++ codes "_" ++ decimal k) (decimal_digit cpu (omega arith))

one_of_four : (cpu : ℕ) → cpu < 4 → is_name_byte (48 + cpu) ≡ true
one_of_four cpu few = grind arith

pub name_is_name : (cpu k : ℕ) → cpu < 4 → k < 2 ^ 64 → IsName (name_text cpu k)
name_is_name cpu k few small =
    subst IsName (sym (name_is cpu k few))
    (and_true (list_all is_name_byte ((48 + cpu) ∷ 95 ∷ decimal k)) (nat_le (length ((48 + cpu) ∷ 95 ∷ decimal k)) 31) (and_true (is_name_byte (48 + cpu)) (list_all is_name_byte (decimal k)) (one_of_four cpu few) (decimal_name k small))
    (is_within (length ((48 + cpu) ∷ 95 ∷ decimal k)) 31 (omega (arith, length-decimal-le 20 k (omega arith) (omega arith) small))))

-- ---- names differ

tail_same : (a b : ℕ) (xs ys : List ℕ) → a ∷ xs ≡ b ∷ ys → xs ≡ ys
tail_same a b xs ys e = cc

head_same : (a b : ℕ) (xs ys : List ℕ) → a ∷ xs ≡ b ∷ ys → a ≡ b
head_same a b xs ys e = cc

pub lettered_same : (letter m n : ℕ) → m < 2 ^ 64 → n < 2 ^ 64 → letter ∷ decimal m ≡ letter ∷ decimal n → m ≡ n
lettered_same letter m n few_m few_n e = decimal_injective m n few_m few_n (tail_same letter letter (decimal m) (decimal n) e)

pub types_same : (s t : ℕ) → s < 2 ^ 64 → t < 2 ^ 64 → type_text s ≡ type_text t → s ≡ t
types_same s t few_s few_t e = lettered_same 116 s t few_s few_t e

-- names that are the same are of one CPU, and of one number
pub record SameNames (cpu k other l : ℕ) : Type 0 where
  pub cpus : cpu ≡ other
  pub numbers : k ≡ l

pub names_same : (cpu k other l : ℕ) → cpu < 4 → other < 4 → k < 2 ^ 64 → l < 2 ^ 64 → name_text cpu k ≡ name_text other l → SameNames cpu k other l
names_same cpu k other l few_c few_o few_k few_l e =
    let all = sym (name_is cpu k few_c) ∙ e ∙ name_is other l few_o in
    let cpus = tail_same 110 110 ((48 + cpu) ∷ 95 ∷ decimal k) ((48 + other) ∷ 95 ∷ decimal l) all in
    let digits = head_same (48 + cpu) (48 + other) (95 ∷ decimal k) (95 ∷ decimal l) cpus in
    record {
      cpus = omega (arith, digits);
      numbers = lettered_same 95 k l few_k few_l (tail_same (48 + cpu) (48 + other) (95 ∷ decimal k) (95 ∷ decimal l) cpus);
    }
