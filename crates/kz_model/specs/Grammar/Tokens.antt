-- Lines of a text and words of a line: names, numbers and hexadecimal bytes.
use Rattle.std.specs.Prelude.{ℕ, ◌+◌, ◌-◌, ◌*◌, ◌%◌, ◌^◌, Bool, false, not, ◌&&◌, ◌||◌, ◌==◌, eqb, nat_le, nat_lt, if◌then◌else◌, List, [], ◌∷◌, length, map, Option, Some, None}
use Rattle.std.specs.List.{list_all, slice_split}
use Rattle.std.specs.Str.Parse.{digits_value}
use Rattle.std.specs.Borrow.{Bor}
use lib.Pointwise.{pointwise}
use Rattle.kz_model.specs.declared.grammar.Mark.{Mark}
use Rattle.kz_model.specs.declared.grammar.Mark.TheVariants.{Fine, OutOfRange, BadNumber}

-- lines are parted by byte 10; the last part is what isn't ended
abbrev pub lines_of : List ℕ → List (List ℕ)
lines_of text = slice_split (λ byte. byte == 10) text

-- words are parted by one space: two spaces, or one at an end, give an empty word, which has no form
abbrev pub tokens_of : List ℕ → List (List ℕ)
tokens_of line = slice_split (λ byte. byte == 32) line

-- the texts that references point to
abbrev pub texts : List (Bor (List ℕ)) → List (List ℕ)
texts references = map (λ reference. reference.now) references

-- this word
abbrev pub is : List ℕ → List ℕ → Bool
is text word = pointwise eqb word text

abbrev pub is_between : ℕ → ℕ → ℕ → Bool
is_between low high n = nat_le low n && nat_le n high

-- ---- names

-- `a` to `z`
abbrev pub is_small : ℕ → Bool
is_small byte = is_between 97 122 byte

-- `0` to `9`
abbrev pub is_digit : ℕ → Bool
is_digit byte = nat_le 48 byte && nat_le byte 57

-- a small letter, a digit or `_`
abbrev pub is_name_byte : ℕ → Bool
is_name_byte byte = is_small byte || is_digit byte || (byte == 95)

-- NAME: a small letter, and up to 31 small letters, digits and `_`
abbrev pub is_name : List ℕ → Bool
is_name [] = false
is_name (byte ∷ bytes) = is_small byte && list_all is_name_byte bytes && nat_le (length bytes) 31

-- ---- numbers

-- a byte that may stand in a number's place: none of `;`, `[`, `]`, `{`, `}`
abbrev pub is_plain : ℕ → Bool
is_plain byte = not ((byte == 59) || (byte == 91) || (byte == 93) || (byte == 123) || (byte == 125))

-- what may stand in a number's place: one such byte or more
abbrev pub is_run : List ℕ → Bool
is_run word = nat_lt 0 (length word) && list_all is_plain word

-- `0`, or 1 to 20 digits without a leading zero
abbrev pub is_decimal : List ℕ → Bool
is_decimal [] = false
is_decimal (first ∷ others) =
    nat_le (length others) 19 && (not (first == 48) || (length others == 0)) && list_all is_digit (first ∷ others)

-- the number that a text is, where it is below 2^64
abbrev pub number_of : List ℕ → Option ℕ
number_of text = if is_decimal text && nat_lt (digits_value 10 text) (2 ^ 64) then Some (digits_value 10 text) else None

-- the number in a place that wants one from low to high, and what is wrong with it; a wrong one stands as 0
abbrev pub number_in_range : ℕ → ℕ → Option ℕ → ℕ × Mark
number_in_range low high None = (0, BadNumber)
number_in_range low high (Some n) = if is_between low high n then (n, Fine) else (0, OutOfRange)

abbrev pub number_in : ℕ → ℕ → List ℕ → ℕ × Mark
number_in low high word = number_in_range low high (number_of word)

-- the worse of two marks
abbrev pub worse : Mark → Mark → Mark
worse BadNumber mark = BadNumber
worse OutOfRange BadNumber = BadNumber
worse OutOfRange mark = OutOfRange
worse Fine mark = mark

-- ---- hexadecimal bytes

-- `0` to `9` or `a` to `f`
abbrev pub is_hex_digit : ℕ → Bool
is_hex_digit byte = is_digit byte || (nat_le 97 byte && nat_le byte 102)

-- the value of such a digit
abbrev pub hex_digit : ℕ → ℕ
hex_digit byte = if nat_le byte 57 then byte - 48 else byte - 87

-- HEX: 2 to 64 of these digits, and an even number of them
abbrev pub is_hex : List ℕ → Bool
is_hex text = nat_le 2 (length text) && nat_le (length text) 64 && (length text % 2 == 0) && list_all is_hex_digit text

-- the bytes of the digits, two by two, the high one first
abbrev pub bytes_of_hex : List ℕ → List ℕ
bytes_of_hex [] = []
bytes_of_hex (high ∷ []) = []
bytes_of_hex (high ∷ low ∷ others) = (16 * hex_digit high + hex_digit low) ∷ bytes_of_hex others
