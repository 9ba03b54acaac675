-- Laws of covers, and of codes, over one another.
use Rattle.std.proofs.Common.{◌≡◌, ℕ, zero, suc, ◌+◌, ◌-◌, ◌*◌, ◌≤◌, ◌<◌, List, [], ◌∷◌, ◌++◌, length, replicate, take, max, refl, sym, ap, ◌∙◌, arith}
use Rattle.std.proofs.Math.ListN.{get_or, set}
use Rattle.std.specs.Int.Bits.{bit_or, or_zero_r}
use Rattle.std.specs.List.{repeat}
use Rattle.std.proofs.lemmas.List.{append-nil, append_assoc, take_more, length-append, length-replicate, length-take-le}
use Rattle.kz_model.specs.Types.Cover.{over, at_offset, round_up}

pub over-nil : (xs : List ℕ) → over xs [] ≡ xs
over-nil [] = refl
over-nil (x ∷ xs) = refl

-- a cover over two that stand after one another, one after the other
pub over-append : (xs ys zs : List ℕ) → over xs (ys ++ zs) ≡ over (over xs ys) (replicate (length ys) 0 ++ zs)
over-append xs [] zs = ap (λ us. over us zs) (sym (over-nil xs))
over-append [] (y ∷ ys) zs = rw (or_zero_r y) (ap (λ us. y ∷ us) (over-append [] ys zs))
over-append (x ∷ xs) (y ∷ ys) zs = rw (or_zero_r (bit_or x y)) (ap (λ us. bit_or x y ∷ us) (over-append xs ys zs))

pub over-zeros : (xs : List ℕ) (n : ℕ) → n ≤ length xs → over xs (replicate n 0) ≡ xs
over-zeros xs zero h = over-nil xs
over-zeros [] (suc n) h = absurd (omega arith)
over-zeros (x ∷ xs) (suc n) h = rw (or_zero_r x) (ap (λ us. x ∷ us) (over-zeros xs n (omega arith)))

pub over-past : (xs ys : List ℕ) (n : ℕ) → length xs ≤ n → over xs (replicate n 0 ++ ys) ≡ xs ++ (replicate (n - length xs) 0 ++ ys)
over-past [] ys n h = let same : n ≡ n - 0 = omega arith in ap (λ k. replicate k 0 ++ ys) same
over-past (x ∷ xs) ys zero h = absurd (omega arith)
over-past (x ∷ xs) ys (suc n) h =
    let same : n - length xs ≡ suc n - suc (length xs) = omega arith in
    rw (or_zero_r x) (ap (λ us. x ∷ us) (over-past xs ys n (omega arith)) ∙ ap (λ k. x ∷ (xs ++ (replicate k 0 ++ ys))) same)

pub over-at : (xs : List ℕ) (n b d : ℕ) → n < length xs → over xs (replicate n 0 ++ b ∷ []) ≡ set xs n (bit_or (get_or xs n d) b)
over-at [] n b d h = absurd (omega arith)
over-at (x ∷ xs) zero b d h = ap (λ us. bit_or x b ∷ us) (over-nil xs)
over-at (x ∷ xs) (suc n) b d h = rw (or_zero_r x) (ap (λ us. x ∷ us) (over-at xs n b d (omega arith)))

pub length-over : (xs ys : List ℕ) → length (over xs ys) ≡ max (length xs) (length ys)
length-over [] ys = omega arith
length-over (x ∷ xs) [] = omega arith
length-over (x ∷ xs) (y ∷ ys) = omega (arith, length-over xs ys)

length-repeat : (n : ℕ) (xs : List ℕ) → length (repeat n xs) ≡ n * length xs
length-repeat zero xs = omega arith
length-repeat (suc n) xs = length-append xs (repeat n xs) ∙ omega (arith, length-repeat n xs)

repeat-suc : (n : ℕ) (xs : List ℕ) → repeat (suc n) xs ≡ repeat n xs ++ xs
repeat-suc zero xs = append-nil xs
repeat-suc (suc n) xs = ap (λ us. xs ++ us) (repeat-suc n xs) ∙ sym (append_assoc xs (repeat n xs) xs)

repeat_more : (n : ℕ) (xs : List ℕ) → repeat (n + 1) xs ≡ repeat n xs ++ xs
repeat_more n xs = let next : n + 1 ≡ suc n = omega arith in ap (λ k. repeat k xs) next ∙ repeat-suc n xs

pub length-at_offset : (offset n : ℕ) (xs : List ℕ) → length (at_offset offset n xs) ≡ offset + n * length xs
length-at_offset offset n xs = simp (length-append, length-replicate, length-repeat) refl

-- one set more of a part that begins here
laid_more : (start part : List ℕ) (from i d : ℕ) → i < length part →
    over start (replicate from 0 ++ take (i + 1) part) ≡ over (over start (replicate from 0 ++ take i part)) (replicate (from + i) 0 ++ get_or part i d ∷ [])
laid_more start part from i d h =
    let whole : replicate from 0 ++ take (i + 1) part ≡ (replicate from 0 ++ take i part) ++ get_or part i d ∷ [] =
    ap (λ us. replicate from 0 ++ us) (take_more part i d h) ∙ sym (append_assoc (replicate from 0) (take i part) (get_or part i d ∷ [])) in
    let long : length (replicate from 0 ++ take i part) ≡ from + i = simp (length-append, length-replicate, length-take-le i part (omega arith)) refl in
    ap (over start) whole ∙ over-append start (replicate from 0 ++ take i part) (get_or part i d ∷ []) ∙
    ap (λ n. over (over start (replicate from 0 ++ take i part)) (replicate n 0 ++ get_or part i d ∷ [])) long

-- none yet
pub laid_none : (start : List ℕ) (from : ℕ) → from ≤ length start → start ≡ over start (replicate from 0 ++ [])
laid_none start from h = sym (ap (over start) (append-nil (replicate from 0)) ∙ over-zeros start from h)

-- it falls on one that is there
pub laid_inside : (start cover part : List ℕ) (from i d e : ℕ) → cover ≡ over start (replicate from 0 ++ take i part) → i < length part → from + i < length cover →
    set cover (from + i) (bit_or (get_or cover (from + i) d) (get_or part i e)) ≡ over start (replicate from 0 ++ take (i + 1) part)
laid_inside start cover part from i d e is h within =
    sym (laid_more start part from i e h ∙ ap (λ us. over us (replicate (from + i) 0 ++ get_or part i e ∷ [])) (sym is) ∙ over-at cover (from + i) (get_or part i e) d within)

-- or stands behind them all
pub laid_past : (start cover part : List ℕ) (from i e : ℕ) → cover ≡ over start (replicate from 0 ++ take i part) → i < length part → from + i ≡ length cover →
    cover ++ get_or part i e ∷ [] ≡ over start (replicate from 0 ++ take (i + 1) part)
laid_past start cover part from i e is h end =
    let none : from + i - length cover ≡ 0 = omega arith in
    sym (laid_more start part from i e h ∙ ap (λ us. over us (replicate (from + i) 0 ++ get_or part i e ∷ [])) (sym is) ∙ over-past cover (get_or part i e ∷ []) (from + i) (omega arith) ∙
    ap (λ n. cover ++ (replicate n 0 ++ get_or part i e ∷ [])) none)

-- one copy more
pub laid_again : (start cover part : List ℕ) (offset i : ℕ) → cover ≡ over start (at_offset offset i part) →
    over cover (replicate (offset + i * length part) 0 ++ part) ≡ over start (at_offset offset (i + 1) part)
laid_again start cover part offset i is =
    let long : length (at_offset offset i part) ≡ offset + i * length part = simp (length-append, length-replicate, length-repeat) refl in
    let whole : at_offset offset (i + 1) part ≡ at_offset offset i part ++ part = ap (λ us. replicate offset 0 ++ us) (repeat_more i part) ∙ sym (append_assoc (replicate offset 0) (repeat i part) part) in
    sym (ap (over start) whole ∙ over-append start (at_offset offset i part) part ∙ ap (λ us. over us (replicate (length (at_offset offset i part)) 0 ++ part)) (sym is)
    ∙ ap (λ n. over cover (replicate n 0 ++ part)) long)

pub le-round_up : (n align : ℕ) → 1 ≤ align → n ≤ round_up n align
le-round_up n align h = omega arith

-- how long it is then
pub length-over_copy : (start part : List ℕ) (from : ℕ) → from + length part ≤ length (over start (replicate from 0 ++ part))
length-over_copy start part from =
    omega (arith, length-over start (replicate from 0 ++ part), length-append (replicate from 0) part, length-replicate {A = ℕ} from 0)
