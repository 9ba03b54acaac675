-- The joined bytes of frames.
use Rattle.std.proofs.Common.{◌≡◌, ◌+◌, ◌*◌, ◌<◌, ◌≤◌, ℕ, zero, suc, List, [], ◌∷◌, ◌++◌, length, take, drop, All, slice_index_or, slice_set, refl, sym, ◌∙◌, ap, ap₂, arith, append_assoc, length-append}
use Rattle.std.proofs.Math.Seq.{drop-append-add, take-append-add, drop-cons}
use Rattle.std.proofs.lemmas.List.{drop-drop, drop-append-le, take-append-le, length-drop, length-take-le}
use Rattle.std.proofs.lemmas.List.Elements.{All-tail}
use Rattle.kz_frame.specs.Frames.{joined, written}

abbrev Frame : Type 0
Frame = List ℕ

-- each frame has 4096 bytes
abbrev pub AreWhole : List Frame → Type 0
AreWhole frames = All (λ f. length f ≡ 4096) frames

first_size : (f : Frame) (fs : List Frame) → AreWhole (f ∷ fs) → length f ≡ 4096
first_size f fs sizes = sizes 0 [] (omega arith)

pub length-joined : (frames : List Frame) → AreWhole frames → length (joined frames) ≡ 4096 * length frames
length-joined [] sizes = refl
length-joined (f ∷ fs) sizes =
    let rest = length-joined fs (All-tail (λ (g : Frame). length g ≡ 4096) f fs sizes) in
    omega (arith, length-append f (joined fs), first_size f fs sizes, rest)

-- behind so many whole frames come the others
pub drop-joined : (frames : List Frame) (k : ℕ) → AreWhole frames → k ≤ length frames → drop (4096 * k) (joined frames) ≡ joined (drop k frames)
drop-joined frames zero sizes inside = refl
drop-joined [] (suc k) sizes inside = absurd (omega arith)
drop-joined (f ∷ fs) (suc k) sizes inside =
    let at : 4096 * suc k ≡ length f + 4096 * k = omega (arith, first_size f fs sizes) in
    ap (λ n. drop n (f ++ joined fs)) at ∙ drop-append-add f (joined fs) (4096 * k) ∙ drop-joined fs k (All-tail (λ (g : Frame). length g ≡ 4096) f fs sizes) (omega arith)

-- a part that lies in one frame
pub part_of_joined : (frames : List Frame) (k at count : ℕ) → AreWhole frames → k < length frames → at + count ≤ 4096 → take count (drop (4096 * k + at) (joined frames)) ≡ take count (drop at (slice_index_or frames k []))
part_of_joined frames k at count sizes inside fits =
    let size : length (slice_index_or frames k []) ≡ 4096 = sizes k [] inside in
    ap (take count) (sym (drop-drop at (4096 * k) (joined frames)) ∙ ap (drop at) (drop-joined frames k sizes (omega arith) ∙ ap joined (drop-cons frames k [] inside))
    ∙ drop-append-le at (slice_index_or frames k []) (joined (drop (suc k) frames)) (omega arith))
    ∙ take-append-le count (drop at (slice_index_or frames k [])) (joined (drop (suc k) frames)) (omega (arith, length-drop at (slice_index_or frames k [])))

-- bytes written in the first of two parts, and in the second
written-append_left : (at : ℕ) (bytes xs ys : List ℕ) → at + length bytes ≤ length xs → written at bytes (xs ++ ys) ≡ written at bytes xs ++ ys
written-append_left at bytes xs ys fits =
    ap₂ (λ front back. (front ++ bytes) ++ back) (take-append-le at xs ys (omega arith)) (drop-append-le (at + length bytes) xs ys fits)
    ∙ sym (append_assoc (take at xs ++ bytes) (drop (at + length bytes) xs) ys)

written-append_right : (at : ℕ) (bytes xs ys : List ℕ) → written (length xs + at) bytes (xs ++ ys) ≡ xs ++ written at bytes ys
written-append_right at bytes xs ys =
    let further : length xs + at + length bytes ≡ length xs + (at + length bytes) = omega arith in
    ap₂ (λ front back. (front ++ bytes) ++ back) (take-append-add xs ys at) (ap (λ n. drop n (xs ++ ys)) further ∙ drop-append-add xs ys (at + length bytes))
    ∙ simp append_assoc

-- bytes written in one frame
pub joined-set : (frames : List Frame) (k at : ℕ) (bytes : List ℕ) → AreWhole frames → k < length frames → at + length bytes ≤ 4096 →
    joined (slice_set frames k (written at bytes (slice_index_or frames k []))) ≡ written (4096 * k + at) bytes (joined frames)
joined-set [] k at bytes sizes inside fits = absurd (omega arith)
joined-set (f ∷ fs) zero at bytes sizes inside fits =
    let here : 0 + at ≡ at = omega arith in
    sym (ap (λ n. written n bytes (f ++ joined fs)) here ∙ written-append_left at bytes f (joined fs) (omega (arith, first_size f fs sizes)))
joined-set (f ∷ fs) (suc k) at bytes sizes inside fits =
    let further : 4096 * suc k + at ≡ length f + (4096 * k + at) = omega (arith, first_size f fs sizes) in
    ap (λ l. f ++ l) (joined-set fs k at bytes (All-tail (λ (g : Frame). length g ≡ 4096) f fs sizes) (omega arith) fits)
    ∙ sym (ap (λ n. written n bytes (f ++ joined fs)) further ∙ written-append_right (4096 * k + at) bytes f (joined fs))

-- bytes written behind others
pub written_more : (at : ℕ) (xs ys old : List ℕ) → at + length xs ≤ length old → written (at + length xs) ys (written at xs old) ≡ written at (xs ++ ys) old
written_more at xs ys old inside =
    let front = take at old ++ xs in let back = drop (at + length xs) old in
    let long : at + length xs ≡ length front + 0 = omega (arith, length-append (take at old) xs, length-take-le at old) in
    let none : 0 + length ys ≡ length ys = omega arith in
    let both : at + length xs + length ys ≡ at + length (xs ++ ys) = omega (arith, length-append xs ys) in
    ap (λ n. written n ys (front ++ back)) long ∙ written-append_right 0 ys front back
    ∙ ap (λ n. front ++ (ys ++ drop n back)) none
    ∙ ap (λ l. front ++ (ys ++ l)) (drop-drop (length ys) (at + length xs) old ∙ ap (λ n. drop n old) both)
    ∙ simp append_assoc
