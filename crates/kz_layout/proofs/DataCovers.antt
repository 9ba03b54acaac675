-- Covers of data alone.
use Rattle.std.proofs.Common.{◌≡◌, ℕ, zero, suc, ◌+◌, ◌*◌, ◌/◌, ◌≤◌, ◌<◌, ◌==◌, ◌&&◌, ◌||◌, Bool, true, false, List, [], ◌∷◌, ◌++◌, length, replicate, take, drop, map, codes, refl, sym, ap, ◌∙◌, arith, inl, inr}
use Rattle.std.specs.Int.Bits.{bit_or}
use Rattle.std.specs.List.{list_all, repeat, range_with_len}
use Rattle.std.proofs.Math.Bool.{and-true, and-false, and_self}
use Rattle.std.proofs.Math.Seq.{take-add}
use Rattle.std.proofs.lemmas.Bool.{cases_lt, ne_eqb}
use Rattle.std.proofs.lemmas.List.{drop-drop, take_all, get_or_past}
use Rattle.std.proofs.lemmas.List.Folds.{list_all-append}
use Rattle.std.proofs.lemmas.Nat.{le_or_l, le_or_r}
use Rattle.kz_model.specs.Types.Cover.{Covered, over, at_offset, placed, rounded, round_up, union_of, glyph, letter_of, layout_of, is_data_only, «data»}
use Rattle.kz_layout.proofs.Unions.{union-cons}

-- no kind, or data alone
abbrev is_data : ℕ → Bool
is_data n = (n == 0) || (n == 2)

abbrev pub all_data : List ℕ → Bool
all_data cover = list_all is_data cover

-- ---- one set

past_data : (n : ℕ) → 3 ≤ n → is_data n ≡ false
past_data n past = rw (ne_eqb n 0 (λ same. omega arith), ne_eqb n 2 (λ same. omega arith)) refl

up_to_2 : (P : ℕ → Type 0) → P 0 → P 1 → P 2 → (n : ℕ) → n < 3 → P n
up_to_2 P none one two zero lt = none
up_to_2 P none one two (suc zero) lt = one
up_to_2 P none one two (suc (suc zero)) lt = two
up_to_2 P none one two (suc (suc (suc n))) lt = absurd (omega arith)

is_data-or : (a b : ℕ) → is_data (bit_or a b) ≡ (is_data a && is_data b)
is_data-or a b = elim (cases_lt a 3) [
  | inr past ↦
      past_data (bit_or a b) (omega (arith, le_or_l a b)) ∙ ap (λ t. t && is_data b) (sym (past_data a past))
  | inl low ↦ elim (cases_lt b 3) [
    | inr past ↦
        past_data (bit_or a b) (omega (arith, le_or_r a b)) ∙ sym (and-false (is_data a)) ∙ ap (λ t. is_data a && t) (sym (past_data b past))
    | inl also ↦
        let R : ℕ → ℕ → Type 0 = λ m n. is_data (bit_or m n) ≡ (is_data m && is_data n) in
        up_to_2 (λ m. R m b) (up_to_2 (R 0) refl refl refl b also) (up_to_2 (R 1) refl refl refl b also) (up_to_2 (R 2) refl refl refl b also) a low
  ]
]

-- the letter of a set is one of data exactly where the set is
glyph_data : (set : ℕ) → ((glyph set == 48) || (glyph set == 50)) ≡ is_data set
glyph_data zero = refl
glyph_data (suc zero) = refl
glyph_data (suc (suc zero)) = refl
glyph_data (suc (suc (suc zero))) = refl
glyph_data (suc (suc (suc (suc zero)))) = refl
glyph_data (suc (suc (suc (suc (suc zero))))) = refl
glyph_data (suc (suc (suc (suc (suc (suc zero)))))) = refl
glyph_data (suc (suc (suc (suc (suc (suc (suc zero))))))) = refl
glyph_data (suc (suc (suc (suc (suc (suc (suc (suc zero)))))))) = refl
glyph_data (suc (suc (suc (suc (suc (suc (suc (suc (suc zero))))))))) = refl
glyph_data (suc (suc (suc (suc (suc (suc (suc (suc (suc (suc zero)))))))))) = refl
glyph_data (suc (suc (suc (suc (suc (suc (suc (suc (suc (suc (suc zero))))))))))) = refl
glyph_data (suc (suc (suc (suc (suc (suc (suc (suc (suc (suc (suc (suc zero)))))))))))) = refl
glyph_data (suc (suc (suc (suc (suc (suc (suc (suc (suc (suc (suc (suc (suc zero))))))))))))) = refl
glyph_data (suc (suc (suc (suc (suc (suc (suc (suc (suc (suc (suc (suc (suc (suc zero)))))))))))))) = refl
glyph_data (suc (suc (suc (suc (suc (suc (suc (suc (suc (suc (suc (suc (suc (suc (suc zero))))))))))))))) = refl
glyph_data (suc (suc (suc (suc (suc (suc (suc (suc (suc (suc (suc (suc (suc (suc (suc (suc n)))))))))))))))) =
    ap (λ letter. (letter == 48) || (letter == 50)) (get_or_past (codes "0123456789abcdef") (suc (suc (suc (suc (suc (suc (suc (suc (suc (suc (suc (suc (suc (suc (suc (suc n)))))))))))))))) 0 (omega arith))
    ∙ sym (past_data (suc (suc (suc (suc (suc (suc (suc (suc (suc (suc (suc (suc (suc (suc (suc (suc n)))))))))))))))) (omega arith))

-- ---- covers

and_cross : (a b c d : Bool) → ((a && b) && (c && d)) ≡ ((a && c) && (b && d))
and_cross true true c d = refl
and_cross true false true d = refl
and_cross true false false d = refl
and_cross false b c d = refl

pub all_data-over : (xs ys : List ℕ) → all_data (over xs ys) ≡ (all_data xs && all_data ys)
all_data-over [] ys = refl
all_data-over (x ∷ xs) [] = sym (and-true (all_data (x ∷ xs)))
all_data-over (x ∷ xs) (y ∷ ys) =
    ap (λ t. t && all_data (over xs ys)) (is_data-or x y) ∙ ap (λ t. (is_data x && is_data y) && t) (all_data-over xs ys)
    ∙ and_cross (is_data x) (is_data y) (all_data xs) (all_data ys)

all_data-zeros : (n : ℕ) → all_data (replicate n 0) ≡ true
all_data-zeros zero = refl
all_data-zeros (suc n) = all_data-zeros n

pub all_data-bytes : (n : ℕ) → all_data (replicate n «data») ≡ true
all_data-bytes zero = refl
all_data-bytes (suc n) = all_data-bytes n

all_data-repeat : (n : ℕ) (xs : List ℕ) → all_data (repeat (suc n) xs) ≡ all_data xs
all_data-repeat zero xs = list_all-append is_data xs [] ∙ and-true (all_data xs)
all_data-repeat (suc n) xs =
    list_all-append is_data xs (repeat (suc n) xs) ∙ ap (λ t. all_data xs && t) (all_data-repeat n xs) ∙ and_self (all_data xs)

copies_are_data : (offset n : ℕ) (xs : List ℕ) → 1 ≤ n → all_data (at_offset offset n xs) ≡ all_data xs
copies_are_data offset zero xs some = absurd (omega arith)
copies_are_data offset (suc n) xs some =
    list_all-append is_data (replicate offset 0) (repeat (suc n) xs) ∙ ap (λ t. t && all_data (repeat (suc n) xs)) (all_data-zeros offset) ∙ all_data-repeat n xs

-- some fields with one more
pub all_data-placed : (offset count : ℕ) (before m : Covered) → 1 ≤ count → all_data (placed offset before count m).cover ≡ (all_data before.cover && all_data m.cover)
all_data-placed offset count before m some =
    all_data-over before.cover (at_offset offset count m.cover) ∙ ap (λ t. all_data before.cover && t) (copies_are_data offset count m.cover some)

pub all_data-rounded : (m : Covered) → all_data (rounded m).cover ≡ all_data m.cover
all_data-rounded m =
    all_data-over m.cover (replicate (round_up m.size m.align) 0) ∙ ap (λ t. all_data m.cover && t) (all_data-zeros (round_up m.size m.align)) ∙ and-true (all_data m.cover)

-- ---- letters

is_data-union : (xs : List ℕ) → is_data (union_of xs) ≡ all_data xs
is_data-union [] = refl
is_data-union (x ∷ xs) = ap is_data (union-cons x xs) ∙ is_data-or x (union_of xs) ∙ ap (λ t. is_data x && t) (is_data-union xs)

-- the letters of some granules
letters_are_data : (cover : List ℕ) (first n : ℕ) →
    list_all (λ letter. (letter == 48) || (letter == 50)) (map (letter_of cover) (range_with_len first n)) ≡ all_data (take (8 * n) (drop (8 * first) cover))
letters_are_data cover first zero = refl
letters_are_data cover first (suc n) =
    let bytes : 8 * suc n ≡ 8 + 8 * n = omega arith in
    let next : 8 * first + 8 ≡ 8 * (first + 1) = omega arith in
    let granule = take 8 (drop (8 * first) cover) in
    let rest = take (8 * n) (drop (8 * (first + 1)) cover) in
    let whole : take (8 * suc n) (drop (8 * first) cover) ≡ granule ++ rest =
    ap (λ k. take k (drop (8 * first) cover)) bytes ∙ take-add 8 (8 * n) (drop (8 * first) cover)
    ∙ ap (λ us. granule ++ take (8 * n) us) (drop-drop 8 (8 * first) cover ∙ ap (λ k. drop k cover) next) in
    ap (λ t. t && list_all (λ letter. (letter == 48) || (letter == 50)) (map (letter_of cover) (range_with_len (first + 1) n))) (glyph_data (union_of granule) ∙ is_data-union granule)
    ∙ ap (λ t. all_data granule && t) (letters_are_data cover (first + 1) n)
    ∙ sym (list_all-append is_data granule rest) ∙ ap all_data (sym whole)

-- a type's letters are of data exactly where each byte is
pub layout_is_data : (m : Covered) → length m.cover ≡ m.size → is_data_only (layout_of m) ≡ all_data m.cover
layout_is_data m long =
    letters_are_data m.cover 0 ((m.size + 7) / 8) ∙ ap all_data (take_all (8 * ((m.size + 7) / 8)) m.cover (omega (arith, long)))
