-- The bytes that hexadecimal digits write.
use Rattle.std.proofs.Common.{◌≡◌, ℕ, zero, suc, ◌+◌, ◌*◌, ◌/◌, ◌<◌, List, [], ◌∷◌, length, get_or, refl, arith}
use Rattle.kz_model.specs.Grammar.Tokens.{hex_digit, bytes_of_hex}

-- two digits a byte
pub length-bytes_of_hex : (text : List ℕ) → length (bytes_of_hex text) ≡ length text / 2
length-bytes_of_hex [] = refl
length-bytes_of_hex (high ∷ []) = refl
length-bytes_of_hex (high ∷ low ∷ others) = let rest = length-bytes_of_hex others in omega arith

-- byte k is of the digits 2k and 2k + 1
pub get-bytes_of_hex : (text : List ℕ) (k i j : ℕ) → i ≡ 2 * k → j ≡ 2 * k + 1 → j < length text → get_or (bytes_of_hex text) k 0 ≡ 16 * hex_digit (get_or text i 0) + hex_digit (get_or text j 0)
get-bytes_of_hex [] k i j first second within = absurd (omega arith)
get-bytes_of_hex (high ∷ []) k i j first second within = absurd (omega arith)
get-bytes_of_hex (high ∷ low ∷ others) zero zero (suc zero) first second within = refl
get-bytes_of_hex (high ∷ low ∷ others) zero zero zero first second within = absurd (omega arith)
get-bytes_of_hex (high ∷ low ∷ others) zero zero (suc (suc j)) first second within = absurd (omega arith)
get-bytes_of_hex (high ∷ low ∷ others) zero (suc i) j first second within = absurd (omega arith)
get-bytes_of_hex (high ∷ low ∷ others) (suc k) (suc (suc i)) (suc (suc j)) first second within = get-bytes_of_hex others k i j (omega arith) (omega arith) (omega arith)
get-bytes_of_hex (high ∷ low ∷ others) (suc k) zero j first second within = absurd (omega arith)
get-bytes_of_hex (high ∷ low ∷ others) (suc k) (suc zero) j first second within = absurd (omega arith)
get-bytes_of_hex (high ∷ low ∷ others) (suc k) (suc (suc i)) zero first second within = absurd (omega arith)
get-bytes_of_hex (high ∷ low ∷ others) (suc k) (suc (suc i)) (suc zero) first second within = absurd (omega arith)
