-- The bytes that hexadecimal digits write.
use Rattle.std.proofs.Common.{◌≡◌, ℕ, ◌/◌, ◌≤◌, List, ◌++◌, length, take, drop, Bool, true, false, Some, None, IsTrue, if◌then◌else◌, refl, ap, ◌∙◌, sym, arith}
use Rattle.std.proofs.Math.Seq.{take-append_seam}
use Rattle.std.proofs.lemmas.Grind.{common_steps}
use Rattle.std.proofs.lemmas.Bool.{cond-true}
use Rattle.kz_model.specs.Grammar.Tokens.{is_hex, bytes_of_hex}
use Rattle.kz_text.proofs.HexBytes.{length-bytes_of_hex}

-- a number is told where the test holds
pub told : {A : Type 0} (test : Bool) (a b : A) → Some a ≡ (if test then Some b else None) → IsTrue test × (a ≡ b)
told true a b e = (refl, cc)
told false a b e = absurd (cc)

pub untold : {A B : Type 0} (test : Bool) (a : A) (b : B) → None ≡ (if test then Some a else None) → None ≡ (if test then Some b else None)
untold true a b e = absurd (cc)
untold false a b e = refl

is_short : (text : List ℕ) → IsTrue (is_hex text) → length text ≤ 64
is_short text h = grind (arith, common_steps)

pub hex_count : (text : List ℕ) (count : ℕ) → Some count ≡ (if is_hex text then Some (length text / 2) else None) → count ≤ 32
hex_count text count e = let h = told (is_hex text) count (length text / 2) e in let short = is_short text h.0 in omega (arith, h.1)

pub hex_taken : (text : List ℕ) (count : ℕ) (into old : List ℕ) → Some count ≡ (if is_hex text then Some (length text / 2) else None) → into ≡ bytes_of_hex text ++ drop count old →
    Some (take count into) ≡ (if is_hex text then Some (bytes_of_hex text) else None)
hex_taken text count into old e is =
    let h = told (is_hex text) count (length text / 2) e in
    let bytes = bytes_of_hex text in
    let long : count ≡ length bytes = h.1 ∙ sym (length-bytes_of_hex text) in
    let taken : take count into ≡ bytes = ap (take count) is ∙ ap (λ k. take k (bytes ++ drop count old)) long ∙ take-append_seam bytes (drop count old) in
    ap Some taken ∙ sym (cond-true (is_hex text) (Some bytes) None h.0)
