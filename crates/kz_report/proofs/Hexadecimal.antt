-- The digits of a hexadecimal number, the last one first.
use Rattle.std.proofs.Common.{◌≡◌, ℕ, zero, suc, ◌+◌, ◌-◌, ◌/◌, ◌%◌, ◌^◌, ◌<◌, ◌≤◌, ◌==◌, Bool, true, false, if◌then◌else◌, List, [], ◌∷◌, ◌++◌, length, drop, slice_set, refl, ap, sym, ◌∙◌, arith}
use Rattle.std.specs.Fmt.{digit_glyph, digits, digits_onto}
use Rattle.std.proofs.Math.Nat.{pow-suc}
use Rattle.std.proofs.lemmas.List.{drop-set}

-- what stands behind the digits stays
onto_more : (k n : ℕ) (front behind : List ℕ) → digits_onto k 16 false n (front ++ behind) ≡ digits_onto k 16 false n front ++ behind
onto_more zero n front behind = refl
onto_more (suc k) n front behind =
    let last = digit_glyph false (n % 16) in
    elim (n / 16 == 0) as (λ (t : Bool). (if t then last ∷ (front ++ behind) else digits_onto k 16 false (n / 16) (last ∷ (front ++ behind))) ≡ (if t then last ∷ front else digits_onto k 16 false (n / 16) (last ∷ front)) ++ behind) [
      | true ↦ refl
      | false ↦ onto_more k (n / 16) (last ∷ front) behind
    ]

onto_all : (n : ℕ) → digits_onto 64 16 false n [] ≡ digits 16 false n
unfolding digits
onto_all n = refl

-- all digits, before what stands behind them
pub all_digits : (k n : ℕ) (behind : List ℕ) → k ≡ 64 → digits_onto k 16 false n behind ≡ digits 16 false n ++ behind
all_digits k n behind all = ap (λ k. digits_onto k 16 false n behind) all ∙ onto_more 64 n [] behind ∙ ap (λ (text : List ℕ). text ++ behind) (onto_all n)

-- a number of several digits has one less after its last
pub one_less : (n k : ℕ) → 16 ≤ n → n < 16 ^ k → (1 < k) × (n / 16 < 16 ^ (k - 1))
one_less n zero many fits = absurd (omega arith)
one_less n (suc zero) many fits = absurd (omega arith)
one_less n (suc (suc k)) many fits =
    let back : suc (suc k) - 1 ≡ suc k = omega arith in
    let small : n / 16 < 16 ^ suc k = let e = pow-suc 16 (suc k) in omega arith in
    (omega arith, rw back small)

glyph_there : (text : List ℕ) (at glyph : ℕ) → 0 < at → at ≤ length text → drop (at - 1) (slice_set text (at - 1) glyph) ≡ glyph ∷ drop at text
glyph_there text at glyph some within =
    let next : at - 1 + 1 ≡ at = omega arith in
    drop-set text (at - 1) glyph (omega arith) ∙ ap (λ k. glyph ∷ drop k text) next

-- one digit written, and more are left
pub digit_on : (k more n at glyph : ℕ) (text whole : List ℕ) → 16 ≤ n → 0 < at → at ≤ length text → k ≡ suc more → glyph ≡ digit_glyph false (n % 16) →
    digits_onto k 16 false n (drop at text) ≡ whole → digits_onto more 16 false (n / 16) (drop (at - 1) (slice_set text (at - 1) glyph)) ≡ whole
digit_on k more n at glyph text whole many some within next is before =
    let last = digit_glyph false (n % 16) in
    let left : (n / 16 == 0) ≡ false = grind arith in
    ap (digits_onto more 16 false (n / 16)) (glyph_there text at glyph some within ∙ ap (λ g. g ∷ drop at text) is)
    ∙ ap (λ (t : Bool). if t then last ∷ drop at text else digits_onto more 16 false (n / 16) (last ∷ drop at text)) (sym left)
    ∙ ap (λ k. digits_onto k 16 false n (drop at text)) (sym next)
    ∙ before

-- the first digit written
pub digit_last : (k more n at glyph : ℕ) (text whole : List ℕ) → n < 16 → 0 < at → at ≤ length text → k ≡ suc more → glyph ≡ digit_glyph false n →
    digits_onto k 16 false n (drop at text) ≡ whole → drop (at - 1) (slice_set text (at - 1) glyph) ≡ whole
digit_last k more n at glyph text whole few some within next is before =
    let last = digit_glyph false (n % 16) in
    let none : (n / 16 == 0) ≡ true = grind arith in
    let same : n ≡ n % 16 = omega arith in
    glyph_there text at glyph some within ∙ ap (λ g. g ∷ drop at text) (is ∙ ap (digit_glyph false) same)
    ∙ ap (λ (t : Bool). if t then last ∷ drop at text else digits_onto more 16 false (n / 16) (last ∷ drop at text)) (sym none)
    ∙ ap (λ k. digits_onto k 16 false n (drop at text)) (sym next)
    ∙ before
