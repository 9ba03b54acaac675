-- Laws of the unions of a cover's sets.
use Rattle.std.proofs.Common.{◌≡◌, ℕ, zero, suc, ◌+◌, ◌-◌, ◌*◌, ◌/◌, ◌≤◌, ◌<◌, List, [], ◌∷◌, ◌++◌, length, replicate, take, drop, max, refl, sym, ap, ◌∙◌, arith, inl, inr}
use Rattle.std.proofs.Math.ListN.{get_or}
use Rattle.std.proofs.Math.Nat.{mul-add-div, mul-le-mul_left, mul-le-mul, mul_assoc}
use Rattle.std.specs.Int.Bits.{bit_or, or_zero_r, or_zero_l, or_self}
use Rattle.std.specs.Int.{bit_at}
use Rattle.std.specs.List.{repeat, fold}
use Rattle.std.proofs.lemmas.Nat.{or_comm, le-div, div_below}
use Rattle.std.proofs.lemmas.Nat.Bits.{bit_at_or, same_from_bits}
use Rattle.std.proofs.lemmas.Bool.{cases_lt}
use Rattle.std.proofs.Math.Seq.{drop-append-add, take-append-add, take-add}
use Rattle.std.proofs.lemmas.List.{ext_get_or, length-append, length-drop, length-replicate, get_or-replicate, get_or_past, get_or_append_left, get_or-append_right, take-append-le, drop-append-le, drop-replicate, drop-drop, drop_all, drop_more, take_all, nil_from_length}
use Rattle.std.proofs.lemmas.List.FromFn.{get_or-map-range_with_len, length-map-range_with_len}
use Rattle.kz_model.specs.Types.Cover.{over, at_offset, union_of}
use Rattle.kz_layout.specs.Granules.{blocks_for, block, unions}
use Rattle.kz_layout.proofs.Overs.{over-nil, length-over}

or_assoc : (a b c : ℕ) → bit_or (bit_or a b) c ≡ bit_or a (bit_or b c)
or_assoc a b c = same_from_bits (bit_or (bit_or a b) c) (bit_or a (bit_or b c)) (λ i.
    let left : bit_at (bit_or (bit_or a b) c) i ≡ max (max (bit_at a i) (bit_at b i)) (bit_at c i) =
    bit_at_or (bit_or a b) c i ∙ ap (λ n. max n (bit_at c i)) (bit_at_or a b i) in
    let right : bit_at (bit_or a (bit_or b c)) i ≡ max (bit_at a i) (max (bit_at b i) (bit_at c i)) =
    bit_at_or a (bit_or b c) i ∙ ap (max (bit_at a i)) (bit_at_or b c i) in
    left ∙ max_assoc (bit_at a i) (bit_at b i) (bit_at c i) ∙ sym right)
  where
    max_assoc : (x y z : ℕ) → max (max x y) z ≡ max x (max y z)
    max_assoc x y z = omega arith

-- (a | b) | (c | d) in another order
or_cross : (a b c d : ℕ) → bit_or (bit_or a b) (bit_or c d) ≡ bit_or (bit_or a c) (bit_or b d)
or_cross a b c d =
    or_assoc a b (bit_or c d) ∙ ap (bit_or a) (sym (or_assoc b c d) ∙ ap (λ n. bit_or n d) (or_comm b c) ∙ or_assoc c b d) ∙ sym (or_assoc a c (bit_or b d))

fold_from : (a : ℕ) (xs : List ℕ) → fold bit_or a xs ≡ bit_or a (union_of xs)
fold_from a [] = sym (or_zero_r a)
fold_from a (x ∷ xs) =
    fold_from (bit_or a x) xs ∙ or_assoc a x (union_of xs) ∙ ap (bit_or a) (sym (fold_from (bit_or 0 x) xs ∙ ap (λ n. bit_or n (union_of xs)) (or_zero_l x)))

pub union-cons : (x : ℕ) (xs : List ℕ) → union_of (x ∷ xs) ≡ bit_or x (union_of xs)
union-cons x xs = fold_from (bit_or 0 x) xs ∙ ap (λ n. bit_or n (union_of xs)) (or_zero_l x)

union-append : (xs ys : List ℕ) → union_of (xs ++ ys) ≡ bit_or (union_of xs) (union_of ys)
union-append [] ys = sym (or_zero_l (union_of ys))
union-append (x ∷ xs) ys =
    union-cons x (xs ++ ys) ∙ ap (bit_or x) (union-append xs ys) ∙ sym (or_assoc x (union_of xs) (union_of ys)) ∙ ap (λ n. bit_or n (union_of ys)) (sym (union-cons x xs))

union-over : (xs ys : List ℕ) → union_of (over xs ys) ≡ bit_or (union_of xs) (union_of ys)
union-over [] ys = sym (or_zero_l (union_of ys))
union-over (x ∷ xs) [] = sym (or_zero_r (union_of (x ∷ xs)))
union-over (x ∷ xs) (y ∷ ys) =
    union-cons (bit_or x y) (over xs ys) ∙ ap (bit_or (bit_or x y)) (union-over xs ys) ∙ or_cross x y (union_of xs) (union_of ys)
    ∙ ap (λ n. bit_or n (bit_or y (union_of ys))) (sym (union-cons x xs)) ∙ ap (bit_or (union_of (x ∷ xs))) (sym (union-cons y ys))

take-over : (n : ℕ) (xs ys : List ℕ) → take n (over xs ys) ≡ over (take n xs) (take n ys)
take-over zero xs ys = refl
take-over (suc n) [] ys = refl
take-over (suc n) (x ∷ xs) [] = refl
take-over (suc n) (x ∷ xs) (y ∷ ys) = ap (λ us. bit_or x y ∷ us) (take-over n xs ys)

drop-over : (n : ℕ) (xs ys : List ℕ) → drop n (over xs ys) ≡ over (drop n xs) (drop n ys)
drop-over zero xs ys = refl
drop-over (suc n) [] ys = refl
drop-over (suc n) (x ∷ xs) [] = sym (over-nil (drop n xs))
drop-over (suc n) (x ∷ xs) (y ∷ ys) = drop-over n xs ys

get_or-over : (xs ys : List ℕ) (j : ℕ) → get_or (over xs ys) j 0 ≡ bit_or (get_or xs j 0) (get_or ys j 0)
get_or-over [] ys j = sym (or_zero_l (get_or ys j 0))
get_or-over (x ∷ xs) [] j = sym (or_zero_r (get_or (x ∷ xs) j 0))
get_or-over (x ∷ xs) (y ∷ ys) zero = refl
get_or-over (x ∷ xs) (y ∷ ys) (suc j) = get_or-over xs ys j

-- copies of one set, as many of them as are taken
or_taken : (k m n : ℕ) → bit_or k (union_of (take m (replicate n k))) ≡ k
or_taken k zero n = or_zero_r k
or_taken k (suc m) zero = or_zero_r k
or_taken k (suc m) (suc n) =
    ap (bit_or k) (union-cons k (take m (replicate n k))) ∙ sym (or_assoc k k (union_of (take m (replicate n k)))) ∙ ap (λ x. bit_or x (union_of (take m (replicate n k)))) (or_self k)
    ∙ or_taken k m n

union_taken : (k m n : ℕ) → 1 ≤ m → 1 ≤ n → union_of (take m (replicate n k)) ≡ k
union_taken k zero n some there = absurd (omega arith)
union_taken k (suc m) zero some there = absurd (omega arith)
union_taken k (suc m) (suc n) some there = union-cons k (take m (replicate n k)) ∙ or_taken k m n

union_of_none : (m n : ℕ) → union_of (take m (replicate n 0)) ≡ 0
union_of_none m n = sym (or_zero_l (union_of (take m (replicate n 0)))) ∙ or_taken 0 m n

-- ---- how many blocks

blocks-monotone : (long n m : ℕ) → 1 ≤ long → n ≤ m → blocks_for long n ≤ blocks_for long m
blocks-monotone long n m some le =
    le-div (blocks_for long n) (m + (long - 1)) long (omega arith) (let times : blocks_for long n * long ≤ n + (long - 1) = omega arith in omega arith)

pub blocks-max : (long n m : ℕ) → 1 ≤ long → blocks_for long (max n m) ≡ max (blocks_for long n) (blocks_for long m)
blocks-max long n m some = elim (cases_lt n m) [
  | inl lt ↦
      let more = blocks-monotone long n m some (omega arith) in
      let bound : max n m ≡ m = omega arith in
      ap (blocks_for long) bound ∙ omega arith
  | inr le ↦
      let more = blocks-monotone long m n some le in
      let bound : max n m ≡ n = omega arith in
      ap (blocks_for long) bound ∙ omega arith
]

no_blocks : (long : ℕ) → 1 ≤ long → blocks_for long 0 ≡ 0
no_blocks long some = let below = div_below (0 + (long - 1)) long 1 (omega arith) (omega arith) in omega arith

blocks-times : (long q n : ℕ) → 1 ≤ long → blocks_for long (long * q + n) ≡ q + blocks_for long n
blocks-times long q n some =
    let same : long * q + n + (long - 1) ≡ long * q + (n + (long - 1)) = omega arith in
    ap (λ k. k / long) same ∙ mul-add-div {m = long} (omega arith) q (n + (long - 1))

pub blocks-exact : (long q : ℕ) → 1 ≤ long → blocks_for long (long * q) ≡ q
blocks-exact long q some =
    let below = div_below (long - 1) long 1 (omega arith) (omega arith) in mul-add-div {m = long} (omega arith) q (long - 1) ∙ omega arith

-- a block past the last one has no byte
past_blocks : (long n j : ℕ) → 1 ≤ long → blocks_for long n ≤ j → n ≤ long * j
past_blocks long n j some past = elim (cases_lt (long * j) n) [
  | inl lt ↦ let more = le-div (j + 1) (n + (long - 1)) long (omega arith) (omega arith) in absurd (omega arith)
  | inr le ↦ le
]

-- and each other block has one
in_blocks : (long n j : ℕ) → 1 ≤ long → j < blocks_for long n → long * j < n
in_blocks long n j some within = elim (cases_lt (long * j) n) [
  | inl lt ↦ lt
  | inr le ↦
      let fewer = blocks-monotone long n (long * j + 0) some (omega arith) in
      let none : blocks_for long 0 ≡ 0 = no_blocks long some in
      absurd (omega (arith, blocks-times long j 0 some))
]

-- ---- unions of blocks

pub length-unions : (long : ℕ) (xs : List ℕ) → length (unions long xs) ≡ blocks_for long (length xs)
length-unions long xs = length-map-range_with_len (λ j. union_of (block long xs j)) 0 (blocks_for long (length xs))

get_or-unions : (long : ℕ) (xs : List ℕ) (j : ℕ) → 1 ≤ long → get_or (unions long xs) j 0 ≡ union_of (block long xs j)
get_or-unions long xs j some = elim (cases_lt j (blocks_for long (length xs))) [
  | inl lt ↦ get_or-map-range_with_len (λ i. union_of (block long xs i)) 0 (blocks_for long (length xs)) j j 0 lt (omega arith)
  | inr past ↦
      let none = past_blocks long (length xs) j some past in
      let nothing : block long xs j ≡ [] = ap (take long) (drop_all (long * j) xs none) ∙ take-nil long in
      get_or_past (unions long xs) j 0 (omega (arith, length-unions long xs)) ∙ sym (ap union_of nothing)
]
  where
    take-nil : (n : ℕ) → take {A = ℕ} n [] ≡ []
    take-nil zero = refl
    take-nil (suc n) = refl

pub unions-over : (long : ℕ) (xs ys : List ℕ) → 1 ≤ long → unions long (over xs ys) ≡ over (unions long xs) (unions long ys)
unions-over long xs ys some = ext_get_or 0 (unions long (over xs ys)) (over (unions long xs) (unions long ys))
    (length-unions long (over xs ys) ∙ ap (blocks_for long) (length-over xs ys) ∙ blocks-max long (length xs) (length ys) some
    ∙ sym (length-over (unions long xs) (unions long ys) ∙ ap (λ n. max n (length (unions long ys))) (length-unions long xs) ∙ ap (max (blocks_for long (length xs))) (length-unions long ys)))
    (λ j h.
    get_or-unions long (over xs ys) j some ∙ ap (λ us. union_of (take long us)) (drop-over (long * j) xs ys) ∙ ap union_of (take-over long (drop (long * j) xs) (drop (long * j) ys))
    ∙ union-over (block long xs j) (block long ys j)
    ∙ sym (get_or-over (unions long xs) (unions long ys) j ∙ ap (λ n. bit_or n (get_or (unions long ys) j 0)) (get_or-unions long xs j some)
    ∙ ap (bit_or (union_of (block long xs j))) (get_or-unions long ys j some)))

-- what begins at the end of a block
unions-append : (long q : ℕ) (xs ys : List ℕ) → 1 ≤ long → length xs ≡ long * q → unions long (xs ++ ys) ≡ unions long xs ++ unions long ys
unions-append long q xs ys some whole = ext_get_or 0 (unions long (xs ++ ys)) (unions long xs ++ unions long ys)
    (length-unions long (xs ++ ys) ∙ ap (blocks_for long) (length-append xs ys ∙ ap (λ n. n + length ys) whole) ∙ blocks-times long q (length ys) some
    ∙ sym (length-append (unions long xs) (unions long ys) ∙ ap (λ n. n + length (unions long ys)) many ∙ ap (λ n. q + n) (length-unions long ys)))
    (λ j h. elim (cases_lt j q) [
      | inl lt ↦
          let within : long * j + long ≤ length xs = omega (arith, blocks_below j lt) in
          let rest : long ≤ length (drop (long * j) xs) = omega (arith, length-drop (long * j) xs) in
          get_or-unions long (xs ++ ys) j some ∙ ap (λ us. union_of (take long us)) (drop-append-le (long * j) xs ys (omega arith))
          ∙ ap union_of (take-append-le long (drop (long * j) xs) ys rest)
          ∙ sym (get_or_append_left (unions long xs) (unions long ys) 0 j (omega (arith, many)) ∙ get_or-unions long xs j some)
      | inr past ↦
          let behind : long * j ≡ length xs + long * (j - q) = omega (arith, whole, blocks_apart j past) in
          get_or-unions long (xs ++ ys) j some ∙ ap (λ n. union_of (take long (drop n (xs ++ ys)))) behind
          ∙ ap (λ us. union_of (take long us)) (drop-append-add xs ys (long * (j - q)))
          ∙ sym (get_or-append_right (unions long xs) (unions long ys) q j 0 many past ∙ get_or-unions long ys (j - q) some)
    ])
  where
    many : length (unions long xs) ≡ q
    many = length-unions long xs ∙ ap (blocks_for long) whole ∙ blocks-exact long q some

    blocks_below : (j : ℕ) → j < q → long * j + long ≤ long * q
    blocks_below j lt = let one_more = mul-le-mul_left {m = j + 1} {n = q} long (omega arith) in omega arith

    blocks_apart : (j : ℕ) → q ≤ j → long * j ≡ long * q + long * (j - q)
    blocks_apart j past = let same : j ≡ q + (j - q) = omega arith in ap (λ n. long * n) same ∙ spread q (j - q)
      where
        spread : (x y : ℕ) → long * (x + y) ≡ long * x + long * y
        spread x y = omega arith

pub unions-replicate : (long n k : ℕ) → 1 ≤ long → unions long (replicate n k) ≡ replicate (blocks_for long n) k
unions-replicate long n k some = ext_get_or 0 (unions long (replicate n k)) (replicate (blocks_for long n) k)
    (many ∙ sym (length-replicate (blocks_for long n) k))
    (λ j h.
    let within : j < blocks_for long n = omega (arith, many) in
    let there = in_blocks long n j some within in
    get_or-unions long (replicate n k) j some ∙ ap (λ us. union_of (take long us)) (drop-replicate (long * j) n k) ∙ union_taken k long (n - long * j) some (omega arith)
    ∙ sym (get_or-replicate (blocks_for long n) j k 0 within))
  where
    many : length (unions long (replicate n k)) ≡ blocks_for long n
    many = length-unions long (replicate n k) ∙ ap (blocks_for long) (length-replicate n k)

unions-repeat : (long q n : ℕ) (xs : List ℕ) → 1 ≤ long → length xs ≡ long * q → unions long (repeat n xs) ≡ repeat n (unions long xs)
unions-repeat long q zero xs some whole = nil_from_length (unions long []) (length-unions long [] ∙ no_blocks long some)
unions-repeat long q (suc n) xs some whole =
    unions-append long q xs (repeat n xs) some whole ∙ ap (λ us. unions long xs ++ us) (unions-repeat long q n xs some whole)

-- copies of a part whose size is a multiple of the blocks' length, at such a multiple
pub unions-at_offset : (long q p n : ℕ) (xs : List ℕ) → 1 ≤ long → length xs ≡ long * p →
    unions long (at_offset (long * q) n xs) ≡ at_offset q n (unions long xs)
unions-at_offset long q p n xs some whole =
    unions-append long q (replicate (long * q) 0) (repeat n xs) some (length-replicate (long * q) 0)
    ∙ ap (λ us. us ++ unions long (repeat n xs)) (unions-replicate long (long * q) 0 some ∙ ap (λ k. replicate k 0) (blocks-exact long q some))
    ∙ ap (λ us. replicate q 0 ++ us) (unions-repeat long p n xs some whole)

-- some blocks that follow one another
union_of_blocks : (long n k : ℕ) (xs : List ℕ) → 1 ≤ long → union_of (take n (drop k (unions long xs))) ≡ union_of (take (long * n) (drop (long * k) xs))
union_of_blocks long zero k xs some = let none : 0 ≡ long * 0 = omega arith in ap (λ m. union_of (take m (drop (long * k) xs))) none
union_of_blocks long (suc n) k xs some = elim (cases_lt k (blocks_for long (length xs))) [
  | inl lt ↦
      let first = get_or-unions long xs k some in
      let next : long * (k + 1) ≡ long * k + long = omega arith in
      let more : long * suc n ≡ long + long * n = omega arith in
      ap (λ us. union_of (take (suc n) us)) (drop_more (unions long xs) k 0 (omega (arith, length-unions long xs)))
      ∙ union-cons (get_or (unions long xs) k 0) (take n (drop (k + 1) (unions long xs)))
      ∙ ap (λ x. bit_or x (union_of (take n (drop (k + 1) (unions long xs))))) first
      ∙ ap (bit_or (union_of (block long xs k))) (union_of_blocks long n (k + 1) xs some ∙ ap (λ m. union_of (take (long * n) (drop m xs))) next)
      ∙ sym (ap (λ m. union_of (take m (drop (long * k) xs))) more ∙ ap union_of (take-add long (long * n) (drop (long * k) xs))
      ∙ union-append (block long xs k) (take (long * n) (drop long (drop (long * k) xs)))
      ∙ ap (λ us. bit_or (union_of (block long xs k)) (union_of (take (long * n) us))) (drop-drop long (long * k) xs))
  | inr past ↦
      let none = past_blocks long (length xs) k some past in
      ap (λ us. union_of (take (suc n) us)) (drop_all k (unions long xs) (omega (arith, length-unions long xs)))
      ∙ sym (ap (λ us. union_of (take (long * suc n) us)) (drop_all (long * k) xs none) ∙ ap union_of (take_all (long * suc n) [] (omega arith)))
]

-- blocks of blocks
pub unions-twice : (long n : ℕ) (xs : List ℕ) → 1 ≤ long → 1 ≤ n → blocks_for (long * n) (length xs) ≡ blocks_for n (blocks_for long (length xs)) →
    unions (long * n) xs ≡ unions n (unions long xs)
unions-twice long n xs some several same = ext_get_or 0 (unions (long * n) xs) (unions n (unions long xs))
    (length-unions (long * n) xs ∙ same ∙ sym (length-unions n (unions long xs) ∙ ap (blocks_for n) (length-unions long xs)))
    (λ j h.
    let place : long * (n * j) ≡ long * n * j = sym (mul_assoc long n j) in
    let length_some : 1 ≤ long * n = mul-le-mul {n₁ = 1} {m₁ = 1} {n₂ = long} {m₂ = n} some several in
    get_or-unions (long * n) xs j length_some ∙ ap (λ m. union_of (take (long * n) (drop m xs))) (sym place)
    ∙ sym (get_or-unions n (unions long xs) j several ∙ union_of_blocks long n (n * j) xs some))

-- blocks of a run of one set, behind bytes that nothing covers
pub unions-run : (long q n k : ℕ) → 1 ≤ long → 1 ≤ n →
    unions long (replicate q 0 ++ replicate n k) ≡ replicate (q / long) 0 ++ replicate (blocks_for long (q + n) - q / long) k
unions-run long q n k some several = ext_get_or 0 (unions long (replicate q 0 ++ replicate n k)) (replicate (q / long) 0 ++ replicate (blocks_for long (q + n) - q / long) k)
    (many ∙ sym (length-append (replicate (q / long) 0) (replicate (blocks_for long (q + n) - q / long) k)
    ∙ ap (λ m. m + length (replicate (blocks_for long (q + n) - q / long) k)) (length-replicate (q / long) 0)
    ∙ ap (λ m. q / long + m) (length-replicate (blocks_for long (q + n) - q / long) k) ∙ filled))
    (λ j h.
    let within : j < blocks_for long (q + n) = omega (arith, many) in
    let there = in_blocks long (q + n) j some within in
    get_or-unions long (replicate q 0 ++ replicate n k) j some ∙ elim (cases_lt j (q / long)) [
      | inl lt ↦
          let before : long * j + long ≤ q = omega (arith, wholly_before j lt) in
          let rest : long ≤ length {A = ℕ} (drop (long * j) (replicate q 0)) = omega (arith, length-drop {A = ℕ} (long * j) (replicate q 0), length-replicate {A = ℕ} q 0) in
          ap (λ us. union_of (take long us)) (drop-append-le (long * j) (replicate q 0) (replicate n k) (omega (arith, length-replicate {A = ℕ} q 0)))
          ∙ ap union_of (take-append-le long (drop (long * j) (replicate q 0)) (replicate n k) rest)
          ∙ ap (λ us. union_of (take long us)) (drop-replicate (long * j) q 0) ∙ union_of_none long (q - long * j)
          ∙ sym (get_or_append_left (replicate (q / long) 0) (replicate (blocks_for long (q + n) - q / long) k) 0 j (omega (arith, length-replicate {A = ℕ} (q / long) 0))
          ∙ get_or-replicate (q / long) j 0 0 lt)
      | inr past ↦
          let reaches : q < long * j + long = omega (arith, reached j past) in
          meets j there reaches
          ∙ sym (get_or-append_right (replicate (q / long) 0) (replicate (blocks_for long (q + n) - q / long) k) (q / long) j 0 (length-replicate (q / long) 0) past
          ∙ get_or-replicate (blocks_for long (q + n) - q / long) (j - q / long) k 0 (omega arith))
    ])
  where
    many : length (unions long (replicate q 0 ++ replicate n k)) ≡ blocks_for long (q + n)
    many = length-unions long (replicate q 0 ++ replicate n k) ∙ ap (blocks_for long) (length-append (replicate q 0) (replicate n k)
        ∙ ap (λ m. m + length (replicate n k)) (length-replicate q 0) ∙ ap (λ m. q + m) (length-replicate n k))

    filled : q / long + (blocks_for long (q + n) - q / long) ≡ blocks_for long (q + n)
    filled = let fewer = le-div (q / long) (q + n + (long - 1)) long (omega arith) (let low : q / long * long ≤ q = omega arith in omega arith) in omega arith

    wholly_before : (j : ℕ) → j < q / long → long * j + long ≤ q
    wholly_before j lt = let more = mul-le-mul_left {m = j + 1} {n = q / long} long (omega arith) in omega arith

    reached : (j : ℕ) → q / long ≤ j → q < long * j + long
    reached j past = let more = mul-le-mul_left {m = q / long} {n = j} long past in omega arith

    meets : (j : ℕ) → long * j < q + n → q < long * j + long → union_of (take long (drop (long * j) (replicate q 0 ++ replicate n k))) ≡ k
    meets j there reaches = elim (cases_lt q (long * j)) [
      | inl lt ↦
          let behind : long * j ≡ length {A = ℕ} (replicate q 0) + (long * j - q) = omega (arith, length-replicate {A = ℕ} q 0) in
          ap (λ m. union_of (take long (drop m (replicate q 0 ++ replicate n k)))) behind
          ∙ ap (λ us. union_of (take long us)) (drop-append-add (replicate q 0) (replicate n k) (long * j - q) ∙ drop-replicate (long * j - q) n k)
          ∙ union_taken k long (n - (long * j - q)) some (omega arith)
      | inr le ↦
          let front : List ℕ = replicate (q - long * j) 0 in
          let taken : long ≡ length front + (long - (q - long * j)) = omega (arith, length-replicate {A = ℕ} (q - long * j) 0) in
          ap (λ us. union_of (take long us)) (drop-append-le (long * j) (replicate q 0) (replicate n k) (omega (arith, length-replicate {A = ℕ} q 0)) ∙ ap (λ us. us ++ replicate n k) (drop-replicate (long * j) q 0))
          ∙ ap (λ m. union_of (take m (front ++ replicate n k))) taken
          ∙ ap union_of (take-append-add front (replicate n k) (long - (q - long * j)))
          ∙ union-append front (take (long - (q - long * j)) (replicate n k))
          ∙ ap (λ m. bit_or m (union_of (take (long - (q - long * j)) (replicate n k)))) (ap union_of (sym (take_all (q - long * j) front (omega (arith, length-replicate {A = ℕ} (q - long * j) 0)))) ∙ union_of_none (q - long * j) (q - long * j))
          ∙ or_zero_l (union_of (take (long - (q - long * j)) (replicate n k)))
          ∙ union_taken k (long - (q - long * j)) n (omega arith) several
    ]

-- a run of one set over another one that begins no later than its end
pub over-runs : (m q n k : ℕ) → q ≤ m → over (replicate m k) (replicate q 0 ++ replicate n k) ≡ replicate (max m (q + n)) k
over-runs m q n k no_gap = ext_get_or 0 (over (replicate m k) (replicate q 0 ++ replicate n k)) (replicate (max m (q + n)) k)
    (long ∙ sym (length-replicate (max m (q + n)) k))
    (λ j h.
    let within : j < max m (q + n) = omega (arith, long) in
    get_or-over (replicate m k) (replicate q 0 ++ replicate n k) j ∙ one j within ∙ sym (get_or-replicate (max m (q + n)) j k 0 within))
  where
    right : length (replicate q 0 ++ replicate n k) ≡ q + n
    right = length-append (replicate q 0) (replicate n k) ∙ ap (λ i. i + length (replicate n k)) (length-replicate q 0) ∙ ap (λ i. q + i) (length-replicate n k)

    long : length (over (replicate m k) (replicate q 0 ++ replicate n k)) ≡ max m (q + n)
    long = length-over (replicate m k) (replicate q 0 ++ replicate n k) ∙ ap (λ i. max i (length (replicate q 0 ++ replicate n k))) (length-replicate m k) ∙ ap (max m) right

    behind : (j : ℕ) → q ≤ j → get_or (replicate q 0 ++ replicate n k) j 0 ≡ get_or (replicate n k) (j - q) 0
    behind j past = get_or-append_right (replicate q 0) (replicate n k) q j 0 (length-replicate q 0) past

    before : (j : ℕ) → j < q → get_or (replicate q 0 ++ replicate n k) j 0 ≡ 0
    before j lt = get_or_append_left (replicate q 0) (replicate n k) 0 j (omega (arith, length-replicate {A = ℕ} q 0)) ∙ get_or-replicate q j 0 0 lt

    one : (j : ℕ) → j < max m (q + n) → bit_or (get_or (replicate m k) j 0) (get_or (replicate q 0 ++ replicate n k) j 0) ≡ k
    one j within = elim (cases_lt j q) [
      | inl lt ↦
          ap (λ x. bit_or x (get_or (replicate q 0 ++ replicate n k) j 0)) (get_or-replicate m j k 0 (omega arith)) ∙ ap (bit_or k) (before j lt) ∙ or_zero_r k
      | inr past ↦ elim (cases_lt j m) [
        | inl lt ↦ elim (cases_lt (j - q) n) [
          | inl here ↦
              ap (λ x. bit_or x (get_or (replicate q 0 ++ replicate n k) j 0)) (get_or-replicate m j k 0 lt)
              ∙ ap (bit_or k) (behind j past ∙ get_or-replicate n (j - q) k 0 here) ∙ or_self k
          | inr gone ↦
              ap (λ x. bit_or x (get_or (replicate q 0 ++ replicate n k) j 0)) (get_or-replicate m j k 0 lt)
              ∙ ap (bit_or k) (behind j past ∙ get_or_past (replicate n k) (j - q) 0 (omega (arith, length-replicate {A = ℕ} n k))) ∙ or_zero_r k
        ]
        | inr gone ↦
            ap (λ x. bit_or x (get_or (replicate q 0 ++ replicate n k) j 0)) (get_or_past (replicate m k) j 0 (omega (arith, length-replicate {A = ℕ} m k)))
            ∙ or_zero_l (get_or (replicate q 0 ++ replicate n k) j 0) ∙ behind j past ∙ get_or-replicate n (j - q) k 0 (omega arith)
      ]
    ]
