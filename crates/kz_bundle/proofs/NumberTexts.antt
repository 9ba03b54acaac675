-- Numbers as words, read and written.
use Rattle.std.proofs.Common.{◌≡◌, ℕ, zero, suc, ◌^◌, ◌<◌, ◌≤◌, ◌==◌, ◌&&◌, ◌||◌, Bool, true, false, not, if◌then◌else◌, nat_lt, nat_le, List, [], ◌∷◌, length, get_or, Option, Some, None, refl, ap, sym, ◌∙◌, arith, rules, subst}
use Rattle.std.specs.Fmt.{decimal}
use Rattle.std.specs.List.{list_all}
use Rattle.std.specs.Str.Parse.{digits_value}
use Rattle.std.proofs.lemmas.Str.Parse.{IsNumeralModel, numerals_by_value}
use Rattle.std.proofs.lemmas.Fmt.{decimal-digits_value, digits_decimal, digits_value-decimal, decimal_nonempty, length-decimal-le, first_decimal, decimal_digit}
use Rattle.kz_model.specs.declared.grammar.Mark.{Mark}
use Rattle.kz_model.specs.declared.grammar.Mark.TheVariants.{Fine, OutOfRange, BadNumber}
use Rattle.kz_model.specs.Grammar.Tokens.{is, is_digit, is_plain, is_run, is_decimal, number_of, number_in_range, number_in, is_between}
use Rattle.kz_model.specs.Grammar.Spelling.{IsFrom}
use Rattle.kz_bundle.proofs.Choices.{wrong, left, right, and_true, below, within, is_below, is_within, found_same, only, all_weaker}
use Rattle.kz_bundle.proofs.Splits.{is_dark, dark}

own : IsNumeralModel (λ ds. list_all is_digit ds ≡ true) (digits_value 10)
own = numerals_by_value _ (search rules)

-- ---- what is read

leading : (first : ℕ) (others : List ℕ) → (not (first == 48) || (length others == 0)) ≡ true → first ≡ 48 → suc (length others) ≡ 1
leading first others e f = grind arith

decimal_is : (text : List ℕ) → is_decimal text ≡ true → digits_value 10 text < 2 ^ 64 → text ≡ decimal (digits_value 10 text)
decimal_is [] e small = wrong e
decimal_is (first ∷ others) e small =
    let two = left (nat_le (length others) 19 && (not (first == 48) || (length others == 0))) (list_all is_digit (first ∷ others)) e in
    sym (decimal-digits_value own (first ∷ others) (right (nat_le (length others) 19 && (not (first == 48) || (length others == 0))) (list_all is_digit (first ∷ others)) e)
    (omega arith) (leading first others (right (nat_le (length others) 19) (not (first == 48) || (length others == 0)) two)) small)

pub number_is : (text : List ℕ) (n : ℕ) → number_of text ≡ Some n → (text ≡ decimal n) × (n < 2 ^ 64)
number_is text n e =
    only (is_decimal text && nat_lt (digits_value 10 text) (2 ^ 64)) (Some (digits_value 10 text)) n (λ both same.
    let value : digits_value 10 text ≡ n = found_same (digits_value 10 text) n same in
    let small = below (digits_value 10 text) (2 ^ 64) (right (is_decimal text) (nat_lt (digits_value 10 text) (2 ^ 64)) both) in
    (decimal_is text (left (is_decimal text) (nat_lt (digits_value 10 text) (2 ^ 64)) both) small ∙ ap decimal value, subst (λ n. n < 2 ^ 64) value small)) e

pub bad_not_fine : BadNumber ≡ Fine → ⊥
bad_not_fine e = cc

out_not_fine : OutOfRange ≡ Fine → ⊥
out_not_fine e = cc

abbrev found : Bool → ℕ → ℕ × Mark
found b n = if b then (n, Fine) else (0, OutOfRange)

-- a number in its range is written so
pub ranged_is : (low high : ℕ) (text : List ℕ) → (number_in low high text).1 ≡ Fine → (text ≡ decimal (number_in low high text).0) × IsFrom low high (number_in low high text).0
ranged_is low high text fine = by_number (number_of text) refl fine
  where
    by_number : (o : Option ℕ) → number_of text ≡ o → (number_in_range low high o).1 ≡ Fine → (text ≡ decimal (number_in_range low high o).0) × IsFrom low high (number_in_range low high o).0
    by_number None e fine = absurd (bad_not_fine fine)
    by_number (Some n) e fine = by_range (is_between low high n) refl fine
      where
        by_range : (b : Bool) → is_between low high n ≡ b → (found b n).1 ≡ Fine → (text ≡ decimal (found b n).0) × IsFrom low high (found b n).0
        by_range true f fine = ((number_is text n e).0, (within low n (left (nat_le low n) (nat_le n high) f), within n high (right (nat_le low n) (nat_le n high) f)))
        by_range false f fine = absurd (out_not_fine fine)

-- a number below one that a word holds is such a number
pub in_word : (low high n : ℕ) → IsFrom low high n → high < 2 ^ 64 → n < 2 ^ 64
in_word low high n is small = omega (arith, is.1)

-- ---- what is written

reads : (ds : List ℕ) (n : ℕ) → list_all is_digit ds ≡ true → 0 < length ds → length ds ≤ 20 → (get_or ds 0 0 ≡ 48 → length ds ≡ 1) → digits_value 10 ds ≡ n → n < 2 ^ 64 → number_of ds ≡ Some n
reads [] n digits some short first value small = absurd (omega arith)
reads (d ∷ ds) n digits some short first value small =
    let is : is_decimal (d ∷ ds) ≡ true = and_true (nat_le (length ds) 19 && (not (d == 48) || (length ds == 0))) (list_all is_digit (d ∷ ds))
    (and_true (nat_le (length ds) 19) (not (d == 48) || (length ds == 0)) (is_within (length ds) 19 (omega (arith, short))) (no_zero d (length ds) first)) digits in
    let few : nat_lt (digits_value 10 (d ∷ ds)) (2 ^ 64) ≡ true = subst (λ v. nat_lt v (2 ^ 64) ≡ true) (sym value) (is_below n (2 ^ 64) small) in
    rw (and_true (is_decimal (d ∷ ds)) (nat_lt (digits_value 10 (d ∷ ds)) (2 ^ 64)) is few) (ap (λ (n : ℕ). Some n) value)
  where
    no_zero : (d l : ℕ) → (d ≡ 48 → suc l ≡ 1) → (not (d == 48) || (l == 0)) ≡ true
    no_zero d l h = grind arith

decimal_first : (n : ℕ) → n < 2 ^ 64 → get_or (decimal n) 0 0 ≡ 48 → length (decimal n) ≡ 1
decimal_first zero small e = ap length (decimal_digit 0 (omega arith))
decimal_first (suc n) small e = absurd (omega (arith, first_decimal (suc n) (omega arith) small))

pub decimal_digits : (n : ℕ) → n < 2 ^ 64 → list_all is_digit (decimal n) ≡ true
decimal_digits n small = digits_decimal own n small

pub number_of-decimal : (n : ℕ) → n < 2 ^ 64 → number_of (decimal n) ≡ Some n
number_of-decimal n small =
    reads (decimal n) n (decimal_digits n small) (decimal_nonempty n small) (length-decimal-le 20 n (omega arith) (omega arith) small) (decimal_first n small) (digits_value-decimal own n small) small

-- a number in its range is read so
pub number_in-decimal : (low high n : ℕ) → IsFrom low high n → high < 2 ^ 64 → number_in low high (decimal n) ≡ (n, Fine)
number_in-decimal low high n is small =
    rw (number_of-decimal n (in_word low high n is small), and_true (nat_le low n) (nat_le n high) (is_within low n is.0) (is_within n high is.1)) refl

digit_dark : (b : ℕ) → is_digit b ≡ true → is_dark b ≡ true
digit_dark b e = grind arith

digit_plain : (b : ℕ) → is_digit b ≡ true → is_plain b ≡ true
digit_plain b e = grind arith

pub decimal_dark : (n : ℕ) → n < 2 ^ 64 → dark (decimal n) ≡ true
decimal_dark n small = all_weaker is_digit is_dark digit_dark (decimal n) (decimal_digits n small)

pub decimal_run : (n : ℕ) → n < 2 ^ 64 → is_run (decimal n) ≡ true
decimal_run n small =
    and_true (nat_lt 0 (length (decimal n))) (list_all is_plain (decimal n)) (is_below 0 (length (decimal n)) (decimal_nonempty n small)) (all_weaker is_digit is_plain digit_plain (decimal n) (decimal_digits n small))

pub number_in_is : (low high : ℕ) (text : List ℕ) (n : ℕ) → number_in low high text ≡ (n, Fine) → (text ≡ decimal n) × IsFrom low high n
number_in_is low high text n e =
    let is = ranged_is low high text (ap (λ (f : ℕ × Mark). f.1) e) in
    subst (λ n. (text ≡ decimal n) × IsFrom low high n) (ap (λ (f : ℕ × Mark). f.0) e) is
