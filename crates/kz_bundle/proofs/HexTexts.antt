-- Hexadecimal bytes as words, read and written.
use Rattle.std.proofs.Common.{◌≡◌, ℕ, suc, ◌+◌, ◌*◌, ◌/◌, ◌%◌, ◌<◌, ◌≤◌, ◌==◌, ◌&&◌, true, false, nat_le, List, [], ◌∷◌, length, refl, ap, sym, ◌∙◌, arith, All}
use Rattle.std.specs.Fmt.{digit_glyph}
use Rattle.std.specs.List.{list_all}
use Rattle.std.proofs.lemmas.List.Elements.{All-nil, All-cons, All-head, All-tail}
use Rattle.kz_model.specs.Grammar.Tokens.{is_hex_digit, hex_digit, is_hex, bytes_of_hex}
use Rattle.kz_model.specs.Text.Lines.{hex_bytes}
use Rattle.kz_model.specs.Grammar.Spelling.{IsFrom, IsPieceByte}
use Rattle.kz_text.proofs.HexBytes.{length-bytes_of_hex}
use Rattle.kz_bundle.proofs.Choices.{left, right, and_true, all_weaker}
use Rattle.kz_bundle.proofs.Splits.{is_dark, dark}

-- ---- digits

digit_small : (b : ℕ) → is_hex_digit b ≡ true → hex_digit b < 16
digit_small b e = grind arith

digit_again : (b : ℕ) → is_hex_digit b ≡ true → digit_glyph false (hex_digit b) ≡ b
digit_again b e = grind arith

glyph_is : (d : ℕ) → d < 16 → is_hex_digit (digit_glyph false d) ≡ true
glyph_is d h = grind arith

glyph_again : (d : ℕ) → d < 16 → hex_digit (digit_glyph false d) ≡ d
glyph_again d h = grind arith

high_of : (h l : ℕ) → l < 16 → (16 * h + l) / 16 ≡ h
high_of h l small = omega arith

low_of : (h l : ℕ) → l < 16 → (16 * h + l) % 16 ≡ l
low_of h l small = omega arith

-- ---- what is read

even_more : (n : ℕ) → (suc (suc n) % 2 == 0) ≡ true → (n % 2 == 0) ≡ true
even_more n e = grind arith

odd_one : (1 % 2 == 0) ≡ true → ⊥
odd_one e = grind arith

-- the digits of its bytes are the text
again : (text : List ℕ) → (length text % 2 == 0) ≡ true → list_all is_hex_digit text ≡ true → text ≡ hex_bytes (bytes_of_hex text)
again [] even digits = refl
again (high ∷ []) even digits = absurd (odd_one even)
again (high ∷ low ∷ others) even digits =
    let first = left (is_hex_digit high) (is_hex_digit low && list_all is_hex_digit others) digits in
    let more = right (is_hex_digit high) (is_hex_digit low && list_all is_hex_digit others) digits in
    let second = left (is_hex_digit low) (list_all is_hex_digit others) more in
    let rest = again others (even_more (length others) even) (right (is_hex_digit low) (list_all is_hex_digit others) more) in
    let small = digit_small low second in
    sym (
    ap (λ (h : ℕ). digit_glyph false h ∷ digit_glyph false ((16 * hex_digit high + hex_digit low) % 16) ∷ hex_bytes (bytes_of_hex others)) (high_of (hex_digit high) (hex_digit low) small)
    ∙ ap (λ (l : ℕ). digit_glyph false (hex_digit high) ∷ digit_glyph false l ∷ hex_bytes (bytes_of_hex others)) (low_of (hex_digit high) (hex_digit low) small)
    ∙ ap (λ (h : ℕ). h ∷ digit_glyph false (hex_digit low) ∷ hex_bytes (bytes_of_hex others)) (digit_again high first)
    ∙ ap (λ (l : ℕ). high ∷ l ∷ hex_bytes (bytes_of_hex others)) (digit_again low second)
    ∙ ap (λ (more : List ℕ). high ∷ low ∷ more) (sym rest))

byte_small : (h l : ℕ) → h < 16 → l < 16 → 16 * h + l < 256
byte_small h l a b = omega arith

bytes_small : (text : List ℕ) → list_all is_hex_digit text ≡ true → All IsPieceByte (bytes_of_hex text)
bytes_small [] digits = All-nil IsPieceByte
bytes_small (high ∷ []) digits = All-nil IsPieceByte
bytes_small (high ∷ low ∷ others) digits =
    let first = left (is_hex_digit high) (is_hex_digit low && list_all is_hex_digit others) digits in
    let more = right (is_hex_digit high) (is_hex_digit low && list_all is_hex_digit others) digits in
    let second = left (is_hex_digit low) (list_all is_hex_digit others) more in
    All-cons IsPieceByte (16 * hex_digit high + hex_digit low) (bytes_of_hex others) (byte_small (hex_digit high) (hex_digit low) (digit_small high first) (digit_small low second))
    (bytes_small others (right (is_hex_digit low) (list_all is_hex_digit others) more))

few : (n m : ℕ) → n ≡ m / 2 → nat_le 2 m ≡ true → nat_le m 64 ≡ true → IsFrom 1 32 n
few n m half low high = (more m half low, less m half high)
  where
    more : (m : ℕ) → n ≡ m / 2 → nat_le 2 m ≡ true → 1 ≤ n
    more m half low = let two : 2 ≤ m = grind arith in omega arith

    less : (m : ℕ) → n ≡ m / 2 → nat_le m 64 ≡ true → n ≤ 32
    less m half high = let most : m ≤ 64 = grind arith in omega arith

pub hex_is : (text : List ℕ) → is_hex text ≡ true → (text ≡ hex_bytes (bytes_of_hex text)) × IsFrom 1 32 (length (bytes_of_hex text)) × All IsPieceByte (bytes_of_hex text)
hex_is text e =
    let n = length text in
    let three = left (nat_le 2 n && nat_le n 64 && (n % 2 == 0)) (list_all is_hex_digit text) e in
    let digits = right (nat_le 2 n && nat_le n 64 && (n % 2 == 0)) (list_all is_hex_digit text) e in
    let two = left (nat_le 2 n && nat_le n 64) (n % 2 == 0) three in (
      again text (right (nat_le 2 n && nat_le n 64) (n % 2 == 0) three) digits,
      few (length (bytes_of_hex text)) n (length-bytes_of_hex text) (left (nat_le 2 n) (nat_le n 64) two) (right (nat_le 2 n) (nat_le n 64) two),
      bytes_small text digits,
    )

-- ---- what is written

length_written : (bytes : List ℕ) → length (hex_bytes bytes) ≡ 2 * length bytes
length_written [] = refl
length_written (byte ∷ bytes) = let rest = length_written bytes in omega arith

high_small : (b : ℕ) → b < 256 → b / 16 < 16
high_small b h = omega arith

low_small : (b : ℕ) → b % 16 < 16
low_small b = omega arith

written_digits : (bytes : List ℕ) → All IsPieceByte bytes → list_all is_hex_digit (hex_bytes bytes) ≡ true
written_digits [] small = refl
written_digits (byte ∷ bytes) small =
    and_true (is_hex_digit (digit_glyph false (byte / 16))) (is_hex_digit (digit_glyph false (byte % 16)) && list_all is_hex_digit (hex_bytes bytes)) (glyph_is (byte / 16) (high_small byte (All-head IsPieceByte byte bytes small)))
    (and_true (is_hex_digit (digit_glyph false (byte % 16))) (list_all is_hex_digit (hex_bytes bytes)) (glyph_is (byte % 16) (low_small byte)) (written_digits bytes (All-tail IsPieceByte byte bytes small)))

both_digits : (b : ℕ) → 16 * (b / 16) + b % 16 ≡ b
both_digits b = omega arith

pub bytes_of_hex-hex_bytes : (bytes : List ℕ) → All IsPieceByte bytes → bytes_of_hex (hex_bytes bytes) ≡ bytes
bytes_of_hex-hex_bytes [] small = refl
bytes_of_hex-hex_bytes (byte ∷ bytes) small =
    ap (λ (h : ℕ). (16 * h + hex_digit (digit_glyph false (byte % 16))) ∷ bytes_of_hex (hex_bytes bytes)) (glyph_again (byte / 16) (high_small byte (All-head IsPieceByte byte bytes small)))
    ∙ ap (λ (l : ℕ). (16 * (byte / 16) + l) ∷ bytes_of_hex (hex_bytes bytes)) (glyph_again (byte % 16) (low_small byte))
    ∙ ap (λ (b : ℕ). b ∷ bytes_of_hex (hex_bytes bytes)) (both_digits byte)
    ∙ ap (λ (more : List ℕ). byte ∷ more) (bytes_of_hex-hex_bytes bytes (All-tail IsPieceByte byte bytes small))

pub is_hex-hex_bytes : (bytes : List ℕ) → IsFrom 1 32 (length bytes) → All IsPieceByte bytes → is_hex (hex_bytes bytes) ≡ true
is_hex-hex_bytes bytes is small =
    let n = length (hex_bytes bytes) in
    let long = length_written bytes in
    and_true (nat_le 2 n && nat_le n 64 && (n % 2 == 0)) (list_all is_hex_digit (hex_bytes bytes))
    (and_true (nat_le 2 n && nat_le n 64) (n % 2 == 0) (and_true (nat_le 2 n) (nat_le n 64) (at_least n (length bytes) long is.0) (at_most n (length bytes) long is.1)) (even n (length bytes) long))
    (written_digits bytes small)
  where
    at_least : (n m : ℕ) → n ≡ 2 * m → 1 ≤ m → nat_le 2 n ≡ true
    at_least n m e h = grind arith

    at_most : (n m : ℕ) → n ≡ 2 * m → m ≤ 32 → nat_le n 64 ≡ true
    at_most n m e h = grind arith

    even : (n m : ℕ) → n ≡ 2 * m → (n % 2 == 0) ≡ true
    even n m e = grind arith

hex_digit_dark : (b : ℕ) → is_hex_digit b ≡ true → is_dark b ≡ true
hex_digit_dark b e = grind arith

pub hex_dark : (bytes : List ℕ) → All IsPieceByte bytes → dark (hex_bytes bytes) ≡ true
hex_dark bytes small = all_weaker is_hex_digit is_dark hex_digit_dark (hex_bytes bytes) (written_digits bytes small)
