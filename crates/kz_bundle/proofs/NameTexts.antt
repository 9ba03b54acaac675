-- Names as words.
use Rattle.std.proofs.Common.{◌≡◌, ℕ, ◌==◌, ◌&&◌, true, false, nat_le, List, [], ◌∷◌, length, arith}
use Rattle.std.specs.List.{list_all, list_any}
use Rattle.kz_model.specs.Grammar.Tokens.{is_name, is_name_byte, is_small}
use Rattle.kz_bundle.proofs.Choices.{wrong, left, right, and_true, all_weaker, none_any}
use Rattle.kz_bundle.proofs.Splits.{is_dark, dark}

small_name : (b : ℕ) → is_small b ≡ true → is_name_byte b ≡ true
small_name b e = grind arith

pub name_bytes : (name : List ℕ) → is_name name ≡ true → list_all is_name_byte name ≡ true
name_bytes [] e = wrong e
name_bytes (byte ∷ bytes) e =
    let two = left (is_small byte && list_all is_name_byte bytes) (nat_le (length bytes) 31) e in
    and_true (is_name_byte byte) (list_all is_name_byte bytes) (small_name byte (left (is_small byte) (list_all is_name_byte bytes) two)) (right (is_small byte) (list_all is_name_byte bytes) two)

byte_dark : (b : ℕ) → is_name_byte b ≡ true → is_dark b ≡ true
byte_dark b e = grind arith

pub name_dark : (name : List ℕ) → is_name name ≡ true → dark name ≡ true
name_dark name e = all_weaker is_name_byte is_dark byte_dark name (name_bytes name e)

pub no_semicolon : (b : ℕ) → is_name_byte b ≡ true → (b == 59) ≡ false
no_semicolon b e = grind arith

pub no_bracket : (b : ℕ) → is_name_byte b ≡ true → (b == 91) ≡ false
no_bracket b e = grind arith

pub name_no_bracket : (name : List ℕ) → is_name name ≡ true → list_any (λ b. b == 91) name ≡ false
name_no_bracket name e = none_any is_name_byte (λ b. b == 91) no_bracket name (name_bytes name e)

pub name_no_semicolon : (name : List ℕ) → is_name name ≡ true → list_any (λ b. b == 59) name ≡ false
name_no_semicolon name e = none_any is_name_byte (λ b. b == 59) no_semicolon name (name_bytes name e)
