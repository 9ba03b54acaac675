-- Bodies that keep the codes of their granules stand for covers.
use Rattle.std.proofs.Common.{◌≡◌, ℕ, zero, suc, ◌+◌, ◌-◌, ◌*◌, ◌/◌, ◌%◌, ◌≤◌, ◌<◌, ◌⊎◌, true, false, IsTrue, nat_lt, nat_eq, cond, List, [], ◌∷◌, ◌++◌, length, replicate, map, max, refl, sym, ap, ◌∙◌, subst, arith, inl, inr, Some, None, slice_get, Bool, Ok, Err, if◌then◌else◌}
use Rattle.std.proofs.Math.Nat.{div-div-eq-div-mul, mul-div-mul_left, add-mul-div_left, max_comm, mul-le-mul, mul_comm, mul-mod_left}
use Rattle.std.proofs.Math.ListN.{get_or}
use Rattle.std.specs.List.{repeat, range_with_len}
use Rattle.std.proofs.lemmas.Bool.{cases_lt, or_cases, eqb-true, lt-ltb, le-ltb}
use Rattle.std.proofs.lemmas.List.{length-replicate, replicate-append-replicate}
use Rattle.kz_model.specs.declared.record.Layout.{Layout}
use Rattle.std.proofs.lemmas.Nat.{le-div}
use Rattle.kz_model.specs.declared.layout.LayoutCause.TheVariants.{TooLarge}
use Rattle.kz_model.specs.Types.Layouts.{offset_of, placed_at, with_cover}
use Rattle.kz_model.specs.Types.Cover.{Covered, over, at_offset, union_of, glyph, letter_of, letters_of, layout_of, plain, nothing_covered, placed, rounded, round_up, «data»}
use Rattle.kz_layout.specs.Granules.{blocks_for, block, unions, is_align, Granules, no_granules, Stands, AreFields, IsBody, AllStand, offset_at, laid_codes, layout_by_codes}
use Rattle.kz_layout.proofs.Overs.{over-zeros, length-over, length-at_offset, le-round_up}
use Rattle.kz_layout.proofs.Unions.{length-unions, unions-over, unions-replicate, unions-at_offset, unions-twice, unions-run, over-runs, blocks-max, blocks-exact}

-- ---- alignments

align_cases : (a : ℕ) → IsTrue (is_align a) → (a ≡ 1) ⊎ ((a ≡ 2) ⊎ ((a ≡ 4) ⊎ (a ≡ 8)))
align_cases a is = elim (or_cases _ (nat_eq a 8) is) [
  | inr eight ↦ inr (inr (inr (eqb-true a 8 eight)))
  | inl low ↦ elim (or_cases _ (nat_eq a 4) low) [
    | inr four ↦ inr (inr (inl (eqb-true a 4 four)))
    | inl lower ↦ elim (or_cases (nat_eq a 1) (nat_eq a 2) lower) [
      | inl one ↦ inl (eqb-true a 1 one)
      | inr two ↦ inr (inl (eqb-true a 2 two))
    ]
  ]
]

pub by_align : (P : ℕ → Type 0) → P 1 → P 2 → P 4 → P 8 → (a : ℕ) → IsTrue (is_align a) → P a
by_align P one two four eight a is = elim (align_cases a is) [
  | inl same ↦ subst P (sym same) one
  | inr more ↦ elim more [
    | inl same ↦ subst P (sym same) two
    | inr most ↦ elim most [
      | inl same ↦ subst P (sym same) four
      | inr same ↦ subst P (sym same) eight
    ]
  ]
]

-- n is some times a
abbrev IsMultiple : ℕ → ℕ → Type 0
IsMultiple a n = (times : ℕ) × (1 ≤ times) × (n ≡ a * times)

multiple : (a times n : ℕ) → 1 ≤ times → n ≡ a * times → IsMultiple a n
multiple a times n some is = (times, some, is)

pub positive : (a : ℕ) → IsTrue (is_align a) → 1 ≤ a
positive a is = by_align (λ n. 1 ≤ n) (omega arith) (omega arith) (omega arith) (omega arith) a is

at_most_8 : (a : ℕ) → IsTrue (is_align a) → a ≤ 8
at_most_8 a is = by_align (λ n. n ≤ 8) (omega arith) (omega arith) (omega arith) (omega arith) a is

eight_is_multiple : (a : ℕ) → IsTrue (is_align a) → IsMultiple a 8
eight_is_multiple a is =
    by_align (λ n. IsMultiple n 8) (multiple 1 8 8 (omega arith) refl) (multiple 2 4 8 (omega arith) refl) (multiple 4 2 8 (omega arith) refl) (multiple 8 1 8 (omega arith) refl) a is

pub max_is_align : (a b : ℕ) → IsTrue (is_align a) → IsTrue (is_align b) → IsTrue (is_align (max a b))
max_is_align a b is also = elim (cases_lt a b) [
  | inl lt ↦ let same : b ≡ max a b = omega arith in subst (λ n. IsTrue (is_align n)) same also
  | inr le ↦ let same : a ≡ max a b = omega arith in subst (λ n. IsTrue (is_align n)) same is
]

pub max_is_multiple : (a b : ℕ) → IsTrue (is_align a) → IsTrue (is_align b) → IsMultiple a (max a b)
max_is_multiple a b is also =
    by_align (λ n. IsMultiple n (max n b))
    (by_align (λ m. IsMultiple 1 (max 1 m)) (multiple 1 1 1 (omega arith) refl) (multiple 1 2 2 (omega arith) refl) (multiple 1 4 4 (omega arith) refl) (multiple 1 8 8 (omega arith) refl) b also)
    (by_align (λ m. IsMultiple 2 (max 2 m)) (multiple 2 1 2 (omega arith) refl) (multiple 2 1 2 (omega arith) refl) (multiple 2 2 4 (omega arith) refl) (multiple 2 4 8 (omega arith) refl) b also)
    (by_align (λ m. IsMultiple 4 (max 4 m)) (multiple 4 1 4 (omega arith) refl) (multiple 4 1 4 (omega arith) refl) (multiple 4 1 4 (omega arith) refl) (multiple 4 2 8 (omega arith) refl) b also)
    (by_align (λ m. IsMultiple 8 (max 8 m)) (multiple 8 1 8 (omega arith) refl) (multiple 8 1 8 (omega arith) refl) (multiple 8 1 8 (omega arith) refl) (multiple 8 1 8 (omega arith) refl) b also)
    a is

-- ---- blocks of blocks

blocks-twice : (a times n : ℕ) → 1 ≤ a → 1 ≤ times → blocks_for (a * times) n ≡ blocks_for times (blocks_for a n)
blocks-twice a zero n some several = absurd (omega arith)
blocks-twice a (suc more) n some several =
    let total : n + (a * suc more - 1) ≡ n + (a - 1) + a * more = omega arith in
    let rest : suc more - 1 ≡ more = omega arith in
    ap (λ k. k / (a * suc more)) total ∙ sym (div-div-eq-div-mul (n + (a - 1) + a * more) a (suc more))
    ∙ ap (λ k. k / suc more) (add-mul-div_left (n + (a - 1)) more {y = a} (omega arith) ∙ ap (λ k. (n + (a - 1)) / a + k) (sym rest))

unions-of : (a times : ℕ) (xs : List ℕ) → 1 ≤ a → 1 ≤ times → unions (a * times) xs ≡ unions times (unions a xs)
unions-of a times xs some several = unions-twice a times xs some several (blocks-twice a times (length xs) some several)

repeat-replicate : (n m k : ℕ) → repeat n (replicate m k) ≡ replicate (n * m) k
repeat-replicate zero m k = let none : 0 ≡ 0 * m = omega arith in ap (λ i. replicate i k) none
repeat-replicate (suc n) m k =
    let more : m + n * m ≡ suc n * m = omega arith in
    ap (λ us. replicate m k ++ us) (repeat-replicate n m k) ∙ replicate-append-replicate m (n * m) k ∙ ap (λ i. replicate i k) more

-- Copies of a part with data in each block of its alignment have data in each greater block that they meet.
dense-copies : (a times q t n : ℕ) (cover : List ℕ) → 1 ≤ a → 1 ≤ times → 1 ≤ n * t → length cover ≡ a * t →
    unions a cover ≡ replicate t «data» →
    unions (a * times) (at_offset (a * q) n cover) ≡
    replicate (a * q / (a * times)) 0 ++ replicate (blocks_for (a * times) (a * q + n * (a * t)) - a * q / (a * times)) «data»
dense-copies a times q t n cover some several copies whole dense =
    let place : q / times ≡ a * q / (a * times) = sym (mul-div-mul_left {m = a} q times (omega arith)) in
    let sum : a * q + n * (a * t) ≡ a * (q + n * t) = omega arith in
    let end : blocks_for times (q + n * t) ≡ blocks_for (a * times) (a * q + n * (a * t)) =
    sym (ap (blocks_for (a * times)) sum ∙ blocks-twice a times (a * (q + n * t)) some several ∙ ap (blocks_for times) (blocks-exact a (q + n * t) some)) in
    unions-of a times (at_offset (a * q) n cover) some several
    ∙ ap (unions times) (unions-at_offset a q t n cover some whole ∙ ap (at_offset q n) dense ∙ ap (λ us. replicate q 0 ++ us) (repeat-replicate n t «data»))
    ∙ unions-run times q (n * t) «data» several copies
    ∙ ap (λ k. replicate k 0 ++ replicate (blocks_for times (q + n * t) - k) «data») place
    ∙ ap (λ k. replicate (a * q / (a * times)) 0 ++ replicate (k - a * q / (a * times)) «data») end

-- ---- one field more

-- the same, in the words of a part
copies_of_data : (part : Granules) (m : Covered) (offset count q long times : ℕ) → Stands part m → IsBody part.size part.align part.codes → part.align < 8 →
    offset ≡ part.align * q → 1 ≤ count → 1 ≤ times → long ≡ part.align * times →
    unions long (at_offset offset count m.cover) ≡ replicate (offset / long) 0 ++ replicate (blocks_for long (offset + count * part.size) - offset / long) «data»
copies_of_data part m offset count q long times stands ok low at counted several is =
    let a = part.align in
    let t = part.size / part.align in
    let some = positive part.align ok.fields.aligned in
    let size : part.size ≡ a * t = omega (arith, ok.multiple) in
    let parts : 1 ≤ t = some_parts t size in
    let copies : 1 ≤ count * t = mul-le-mul {n₁ = 1} {m₁ = 1} {n₂ = count} {m₂ = t} counted parts in
    let filled : unions a m.cover ≡ replicate t «data» = stands.dense low ∙ ap (λ n. replicate n «data») (ap (blocks_for a) size ∙ blocks-exact a t some) in
    let R : ℕ → ℕ → ℕ → Type 0 = λ l o s. unions l (at_offset o count m.cover) ≡ replicate (o / l) 0 ++ replicate (blocks_for l (o + count * s) - o / l) «data» in
    subst (λ s. R long offset s) (sym size) (subst (λ o. R long o (a * t)) (sym at) (subst (λ l. R l (a * q) (a * t)) (sym is)
    (dense-copies a times q t count m.cover some several copies (stands.long ∙ size) filled)))
  where
    some_parts : (t : ℕ) → part.size ≡ part.align * t → 1 ≤ t
    some_parts zero none = let there = ok.some in absurd (omega arith)
    some_parts (suc t) size = omega arith

repeat-one : (n k : ℕ) → repeat n (k ∷ []) ≡ replicate n k
repeat-one zero k = refl
repeat-one (suc n) k = ap (λ us. k ∷ us) (repeat-one n k)

-- the codes of a part's copies
laid_part : (part : Granules) (m : Covered) (offset count q : ℕ) → Stands part m → IsBody part.size part.align part.codes →
    offset ≡ part.align * q → 1 ≤ count → unions 8 (at_offset offset count m.cover) ≡ laid_codes offset count part
laid_part part m offset count q stands ok at counted = elim (cases_lt part.align 8) [
  | inl low ↦
      let eight = eight_is_multiple part.align ok.fields.aligned in
      let filled = at_offset (offset / 8) (blocks_for 8 (offset + count * part.size) - offset / 8) («data» ∷ []) in
      copies_of_data part m offset count q 8 eight.0 stands ok low at counted eight.1 eight.2
      ∙ ap (λ us. replicate (offset / 8) 0 ++ us) (sym (repeat-one (blocks_for 8 (offset + count * part.size) - offset / 8) «data»))
      ∙ ap (λ b. cond b filled (at_offset (offset / 8) count part.codes)) (sym (lt-ltb part.align 8 low))
  | inr high ↦
      let is_8 : part.align ≡ 8 = omega (arith, at_most_8 part.align ok.fields.aligned) in
      let multiple_of_8 : part.size ≡ 8 * (part.size / 8) = whole_at is_8 in
      let place : offset ≡ 8 * q = at ∙ ap (λ a. a * q) is_8 in
      let granule : q ≡ offset / 8 = omega arith in
      let filled = at_offset (offset / 8) (blocks_for 8 (offset + count * part.size) - offset / 8) («data» ∷ []) in
      ap (λ o. unions 8 (at_offset o count m.cover)) place
      ∙ unions-at_offset 8 q (part.size / 8) count m.cover (omega arith) (stands.long ∙ multiple_of_8)
      ∙ ap (λ g. at_offset g count (unions 8 m.cover)) granule ∙ ap (at_offset (offset / 8) count) (sym stands.codes)
      ∙ ap (λ b. cond b filled (at_offset (offset / 8) count part.codes)) (sym (le-ltb part.align 8 high))
]
  where
    whole_at : part.align ≡ 8 → part.size ≡ 8 * (part.size / 8)
    whole_at is_8 = let at_8 : part.size % 8 ≡ 0 = subst (λ a. part.size % a ≡ 0) is_8 ok.multiple in omega arith

-- a block of a body that is dense
dense_at : (body : Granules) (m : Covered) (long times : ℕ) → Stands body m → 1 ≤ body.align → body.align < 8 → 1 ≤ times → long ≡ body.align * times →
    unions long m.cover ≡ replicate (blocks_for long body.size) «data»
dense_at body m long times stands some low several is =
    ap (λ l. unions l m.cover) is ∙ unions-of body.align times m.cover some several ∙ ap (unions times) (stands.dense low)
    ∙ unions-replicate times (blocks_for body.align body.size) «data» several
    ∙ ap (λ n. replicate n «data») (sym (blocks-twice body.align times body.size some several) ∙ ap (λ l. blocks_for l body.size) (sym is))

div-le-blocks : (long n m : ℕ) → 1 ≤ long → n ≤ m → n / long ≤ blocks_for long m
div-le-blocks long n m some le = le-div (n / long) (m + (long - 1)) long (omega arith) (let low : n / long * long ≤ n = omega arith in omega arith)

no_gap : (a times q n : ℕ) → 1 ≤ a → 1 ≤ times → q ≤ blocks_for a n → a * q / (a * times) ≤ blocks_for (a * times) n
no_gap a times q n some several near =
    let place : a * q / (a * times) ≡ q / times = mul-div-mul_left {m = a} q times (omega arith) in
    let blocks = blocks-twice a times n some several in
    let below = div-le-blocks times q (blocks_for a n) several near in
    omega arith

module _ (body part : Granules) (m n : Covered) (offset count q : ℕ) (stands : Stands body m) (part_stands : Stands part n)
    (aligned : IsTrue (is_align body.align)) (ok : IsBody part.size part.align part.codes) (counted : 1 ≤ count) (at : offset ≡ part.align * q)
    (near : q ≤ blocks_for part.align body.size) where
  abbrev end : ℕ
  end = offset + count * part.size

  abbrev align : ℕ
  align = max body.align part.align

  abbrev copies : List ℕ
  copies = at_offset offset count n.cover

  same_end : offset + count * n.size ≡ end
  same_end = ap (λ s. offset + count * s) part_stands.size

  long_placed : length (over m.cover copies) ≡ max body.size end
  long_placed =
      length-over m.cover copies ∙ ap (λ k. max k (length copies)) stands.long
      ∙ ap (max body.size) (length-at_offset offset count n.cover ∙ ap (λ s. offset + count * s) part_stands.long)

  dense_placed : align < 8 → unions align (over m.cover copies) ≡ replicate (blocks_for align (max body.size end)) «data»
  dense_placed low =
      let several = max_is_multiple body.align part.align aligned ok.fields.aligned in
      let others = max_is_multiple part.align body.align ok.fields.aligned aligned in
      let long : align ≡ part.align * others.0 = max_comm body.align part.align ∙ others.2 in
      let some : 1 ≤ align = omega (arith, positive body.align aligned) in
      let here = dense_at body m align several.0 stands (positive body.align aligned) (omega arith) several.1 several.2 in
      let there = copies_of_data part n offset count q align others.0 part_stands ok (omega arith) at counted others.1 long in
      let gap : offset / align ≤ blocks_for align body.size =
      subst (λ l. offset / l ≤ blocks_for l body.size) (sym long)
      (subst (λ o. o / (part.align * others.0) ≤ blocks_for (part.align * others.0) body.size) (sym at)
      (no_gap part.align others.0 q body.size (positive part.align ok.fields.aligned) others.1 near)) in
      let reaches : offset / align ≤ blocks_for align end = div-le-blocks align offset end some (omega arith) in
      let total : max (blocks_for align body.size) (offset / align + (blocks_for align end - offset / align)) ≡ blocks_for align (max body.size end) =
      let both : offset / align + (blocks_for align end - offset / align) ≡ blocks_for align end = omega arith in
      ap (max (blocks_for align body.size)) both ∙ sym (blocks-max align body.size end some) in
      unions-over align m.cover copies some ∙ ap (λ us. over us (unions align copies)) here
      ∙ ap (over (replicate (blocks_for align body.size) «data»)) there
      ∙ over-runs (blocks_for align body.size) (offset / align) (blocks_for align end - offset / align) «data» gap
      ∙ ap (λ k. replicate k «data») total

  pub stands_placed : (codes : List ℕ) → codes ≡ over body.codes (laid_codes offset count part) →
      Stands (record { size = max body.size end; align = align; codes = codes }) (placed offset m count n)
  stands_placed codes laid = record {
    size = ap (λ s. max s (offset + count * n.size)) stands.size ∙ ap (max body.size) same_end;
    align = ap (λ a. max a n.align) stands.align ∙ ap (max body.align) part_stands.align;
    long = long_placed;
    codes = laid ∙ ap (λ us. over us (laid_codes offset count part)) stands.codes
        ∙ ap (over (unions 8 m.cover)) (sym (laid_part part n offset count q part_stands ok at counted))
        ∙ sym (unions-over 8 m.cover copies (omega arith));
    dense = dense_placed;
  }

round_up_is : (a n : ℕ) → 1 ≤ a → round_up n a ≡ a * blocks_for a n
round_up_is a n some = let same : n + a - 1 ≡ n + (a - 1) = omega arith in ap (λ k. k / a * a) same ∙ mul_comm (blocks_for a n) a

offset_is : (in_union : Bool) (body part : Granules) (m n : Covered) → Stands body m → Stands part n → offset_of in_union m n ≡ offset_at in_union body.size part.align
offset_is true body part m n stands part_stands = refl
offset_is false body part m n stands part_stands = ap (λ s. round_up s n.align) stands.size ∙ ap (round_up body.size) part_stands.align

near_multiple : (in_union : Bool) (size align : ℕ) → 1 ≤ align → (q : ℕ) × (offset_at in_union size align ≡ align * q) × (q ≤ blocks_for align size)
near_multiple true size align some = (0, omega arith, omega arith)
near_multiple false size align some = (blocks_for align size, round_up_is align size some, omega arith)

pub field_stands : (in_union : Bool) (body part : Granules) (m n : Covered) (offset count size align : ℕ) (codes : List ℕ) →
    Stands body m → Stands part n → IsTrue (is_align body.align) → IsBody part.size part.align part.codes → 1 ≤ count →
    offset ≡ offset_at in_union body.size part.align → offset + count * part.size ≤ 8192 →
    size ≡ max body.size (offset + count * part.size) → align ≡ max body.align part.align → codes ≡ over body.codes (laid_codes offset count part) →
    (x : Covered) × (with_cover in_union m count n ≡ Ok x) × Stands (record { size = size; align = align; codes = codes }) x
field_stands in_union body part m n offset count size align codes stands part_stands aligned ok counted at fits sized wide laid =
    let near = near_multiple in_union body.size part.align (positive part.align ok.fields.aligned) in
    let there : offset ≡ part.align * near.0 = at ∙ near.1 in
    let place : offset_of in_union m n ≡ offset = offset_is in_union body part m n stands part_stands ∙ sym at in
    let end : offset + count * n.size ≡ offset + count * part.size = ap (λ s. offset + count * s) part_stands.size in
    let low : nat_lt 8192 (offset + count * n.size) ≡ false = le-ltb 8192 (offset + count * n.size) (omega arith) in
    let given : with_cover in_union m count n ≡ Ok (placed offset m count n) =
    ap (λ o. placed_at o m count n) place ∙ ap (λ b. if b then Err (TooLarge (offset + count * n.size)) else Ok (placed offset m count n)) low in
    let whole = stands_placed body part m n offset count near.0 stands part_stands aligned ok counted there near.2 codes laid in
    let R : ℕ → ℕ → Type 0 = λ s a. Stands (record { size = s; align = a; codes = codes }) (placed offset m count n) in
    (placed offset m count n, given, subst (λ s. R s align) (sym sized) (subst (R (max body.size (offset + count * part.size))) (sym wide) whole))

-- a field with a byte
pub field_fills : (body part : Granules) (offset count : ℕ) → IsBody part.size part.align part.codes → 1 ≤ count → 1 ≤ max body.size (offset + count * part.size)
field_fills body part offset count ok counted =
    let copies = mul-le-mul {n₁ = 1} {m₁ = 1} {n₂ = count} {m₂ = part.size} counted ok.some in omega arith

-- a field begins in a granule of the fields or in the next one
pub granule_near : (in_union : Bool) (body part : Granules) (offset : ℕ) → IsTrue (is_align part.align) → offset ≡ offset_at in_union body.size part.align →
    offset / 8 ≤ blocks_for 8 body.size
granule_near in_union body part offset aligned at =
    let near = near_multiple in_union body.size part.align (positive part.align aligned) in
    let eight = eight_is_multiple part.align aligned in
    subst (λ o. o / 8 ≤ blocks_for 8 body.size) (sym (at ∙ near.1))
    (subst (λ l. part.align * near.0 / l ≤ blocks_for l body.size) (sym eight.2) (no_gap part.align eight.0 near.0 body.size (positive part.align aligned) eight.1 near.2))

-- as many codes as there are granules up to the part's end
laid_long : (part : Granules) (offset count q : ℕ) → IsBody part.size part.align part.codes → offset ≡ part.align * q →
    length (laid_codes offset count part) ≡ blocks_for 8 (offset + count * part.size)
laid_long part offset count q ok at = elim (cases_lt part.align 8) [
  | inl low ↦
      let long = length-at_offset (offset / 8) (blocks_for 8 (offset + count * part.size) - offset / 8) («data» ∷ []) in
      let reaches : offset / 8 ≤ blocks_for 8 (offset + count * part.size) = omega arith in
      subst (λ b. length (cond b filled copies) ≡ blocks_for 8 (offset + count * part.size)) (sym (lt-ltb part.align 8 low)) (omega (arith, long))
  | inr high ↦
      let is_8 : part.align ≡ 8 = omega (arith, at_most_8 part.align ok.fields.aligned) in
      let place : offset ≡ 8 * q = at ∙ ap (λ a. a * q) is_8 in
      let at_8 : part.size % 8 ≡ 0 = subst (λ a. part.size % a ≡ 0) is_8 ok.multiple in
      let size : part.size ≡ 8 * (part.size / 8) = omega arith in
      let many : blocks_for 8 part.size ≡ part.size / 8 = ap (blocks_for 8) size ∙ blocks-exact 8 (part.size / 8) (omega arith) in
      let long : length copies ≡ q + count * (part.size / 8) =
      length-at_offset (offset / 8) count part.codes ∙ ap (λ k. offset / 8 + count * k) (ok.fields.many ∙ many)
      ∙ ap (λ o. o / 8 + count * (part.size / 8)) place ∙ ap (λ g. g + count * (part.size / 8)) (granule q) in
      let sum : offset + count * part.size ≡ 8 * (q + count * (part.size / 8)) = ap (λ o. o + count * part.size) place ∙ ap (λ s. 8 * q + count * s) size ∙ spread (part.size / 8) in
      subst (λ b. length (cond b filled copies) ≡ blocks_for 8 (offset + count * part.size)) (sym (le-ltb part.align 8 high))
      (long ∙ sym (ap (blocks_for 8) sum ∙ blocks-exact 8 (q + count * (part.size / 8)) (omega arith)))
]
  where
    filled : List ℕ
    filled = at_offset (offset / 8) (blocks_for 8 (offset + count * part.size) - offset / 8) («data» ∷ [])

    copies : List ℕ
    copies = at_offset (offset / 8) count part.codes

    granule : (n : ℕ) → 8 * n / 8 ≡ n
    granule n = omega arith

    spread : (t : ℕ) → 8 * q + count * (8 * t) ≡ 8 * (q + count * t)
    spread t = omega arith

pub fields_with_one : (in_union : Bool) (body part : Granules) (offset count size align : ℕ) (codes : List ℕ) → AreFields body.size body.align body.codes →
    IsBody part.size part.align part.codes → offset ≡ offset_at in_union body.size part.align →
    offset + count * part.size ≤ 8192 → size ≡ max body.size (offset + count * part.size) → align ≡ max body.align part.align → codes ≡ over body.codes (laid_codes offset count part) →
    AreFields size align codes
fields_with_one in_union body part offset count size align codes are ok at fits sized wide laid =
    let near = near_multiple in_union body.size part.align (positive part.align ok.fields.aligned) in
    let long = laid_long part offset count near.0 ok (at ∙ near.1) in
    record {
      small = omega (arith, are.small);
      aligned = subst (λ a. IsTrue (is_align a)) (sym wide) (max_is_align body.align part.align are.aligned ok.fields.aligned);
      many = ap length laid ∙ length-over body.codes (laid_codes offset count part) ∙ ap (λ k. max k (length (laid_codes offset count part))) are.many
          ∙ ap (max (blocks_for 8 body.size)) long ∙ sym (ap (blocks_for 8) sized ∙ blocks-max 8 body.size (offset + count * part.size) (omega arith));
    }

-- ---- a whole body

blocks-rounded : (a times n : ℕ) → 1 ≤ a → 1 ≤ times → blocks_for (a * times) (round_up n a) ≡ blocks_for (a * times) n
blocks-rounded a times n some several =
    blocks-twice a times (round_up n a) some several ∙ ap (blocks_for times) (ap (blocks_for a) (round_up_is a n some) ∙ blocks-exact a (blocks_for a n) some)
    ∙ sym (blocks-twice a times n some several)

padding_is_nothing : (long n r : ℕ) (cover : List ℕ) → 1 ≤ long → length cover ≡ n → blocks_for long r ≡ blocks_for long n → unions long (over cover (replicate r 0)) ≡ unions long cover
padding_is_nothing long n r cover some covered same =
    unions-over long cover (replicate r 0) some ∙ ap (over (unions long cover)) (unions-replicate long r 0 some)
    ∙ over-zeros (unions long cover) (blocks_for long r) (omega (arith, length-unions long cover, ap (blocks_for long) covered))

pub stands_rounded : (body : Granules) (m : Covered) (size : ℕ) → Stands body m → IsTrue (is_align body.align) → size ≡ round_up body.size body.align →
    Stands (record { size = size; align = body.align; codes = body.codes }) (rounded m)
stands_rounded body m size stands aligned up = record {
  size = to;
  align = stands.align;
  long = length-over m.cover (replicate (round_up m.size m.align) 0) ∙ ap (max (length m.cover)) (length-replicate (round_up m.size m.align) 0 ∙ to)
      ∙ ap (λ n. max n size) stands.long ∙ higher;
  codes = stands.codes ∙ sym (padding_is_nothing 8 body.size (round_up m.size m.align) m.cover (omega arith) stands.long eights);
  dense = λ low.
      padding_is_nothing body.align body.size (round_up m.size m.align) m.cover some stands.long own ∙ stands.dense low
      ∙ ap (λ n. replicate n «data») (sym own ∙ ap (blocks_for body.align) to);
}
  where
    some : 1 ≤ body.align
    some = positive body.align aligned

    same_size : round_up m.size m.align ≡ round_up body.size body.align
    same_size = ap (λ n. round_up n m.align) stands.size ∙ ap (round_up body.size) stands.align

    to : round_up m.size m.align ≡ size
    to = same_size ∙ sym up

    higher : max body.size size ≡ size
    higher = let more = le-round_up body.size body.align some in omega arith

    eights : blocks_for 8 (round_up m.size m.align) ≡ blocks_for 8 body.size
    eights = let eight = eight_is_multiple body.align aligned in
        ap (blocks_for 8) same_size ∙ subst (λ l. blocks_for l (round_up body.size body.align) ≡ blocks_for l body.size) (sym eight.2) (blocks-rounded body.align eight.0 body.size some eight.1)

    own : blocks_for body.align (round_up m.size m.align) ≡ blocks_for body.align body.size
    own = ap (blocks_for body.align) same_size ∙ ap (blocks_for body.align) (round_up_is body.align body.size some) ∙ blocks-exact body.align (blocks_for body.align body.size) some

pub rounded_is_body : (size align n : ℕ) (codes : List ℕ) → AreFields n align codes → 1 ≤ n → size ≡ round_up n align → IsBody size align codes
rounded_is_body size align n codes are there up =
    let some = positive align are.aligned in
    let eight = eight_is_multiple align are.aligned in
    let more = le-round_up n align some in
    let small = by_align (λ a. round_up n a ≤ 8192) (omega (arith, are.small)) (omega (arith, are.small)) (omega (arith, are.small)) (omega (arith, are.small)) align are.aligned in
    record {
      fields = record {
        small = omega (arith, small);
        aligned = are.aligned;
        many = are.many ∙ sym (ap (blocks_for 8) up ∙ subst (λ l. blocks_for l (round_up n align) ≡ blocks_for l n) (sym eight.2) (blocks-rounded align eight.0 n some eight.1));
      };
      some = omega arith;
      multiple = ap (λ s. s % align) up ∙ mul-mod_left ((n + align - 1) / align) align;
    }

-- ---- the first bodies

pub stands_nothing : Stands no_granules nothing_covered
stands_nothing = record { size = refl; align = refl; long = refl; codes = refl; dense = λ low. refl }

pub stands_plain : (size align kinds : ℕ) (codes : List ℕ) → IsTrue (is_align align) → (align < 8 → kinds ≡ «data») → codes ≡ replicate (blocks_for 8 size) kinds →
    Stands (record { size = size; align = align; codes = codes }) (plain size align kinds)
stands_plain size align kinds codes aligned only is = record {
  size = refl;
  align = refl;
  long = length-replicate size kinds;
  codes = is ∙ sym (unions-replicate 8 size kinds (omega arith));
  dense = λ low. unions-replicate align size kinds (positive align aligned) ∙ ap (replicate (blocks_for align size)) (only low);
}

-- ---- the letters

map-map : (f g : ℕ → ℕ) (xs : List ℕ) → map f (map g xs) ≡ map (λ x. f (g x)) xs
map-map f g [] = refl
map-map f g (x ∷ xs) = ap (λ us. f (g x) ∷ us) (map-map f g xs)

layout_stands : (body : Granules) (m : Covered) → Stands body m → layout_by_codes body ≡ layout_of m
layout_stands body m stands =
    let letters : map glyph body.codes ≡ letters_of m =
    ap (map glyph) stands.codes ∙ map-map glyph (λ j. union_of (block 8 m.cover j)) (range_with_len 0 (blocks_for 8 (length m.cover)))
    ∙ ap (λ n. map (letter_of m.cover) (range_with_len 0 (blocks_for 8 n))) (stands.long ∙ sym stands.size) in
    let R : ℕ → ℕ → List ℕ → Layout = λ s a us. record { size = s; align = a; letters = us } in
    ap (λ s. R s body.align (map glyph body.codes)) (sym stands.size) ∙ ap (λ a. R m.size a (map glyph body.codes)) (sym stands.align) ∙ ap (R m.size m.align) letters

-- ---- all types

pub all_stand_more : (bodies : List Granules) (covers : List Covered) (body : Granules) (m : Covered) → AllStand bodies covers → Stands body m →
    AllStand (bodies ++ body ∷ []) (covers ++ m ∷ [])
all_stand_more [] [] body m all one = (one, tt)
all_stand_more [] (n ∷ covers) body m all one = absurd all
all_stand_more (b ∷ bodies) [] body m all one = absurd all
all_stand_more (b ∷ bodies) (n ∷ covers) body m all one = (all.0, all_stand_more bodies covers body m all.1 one)

pub all_stand_long : (bodies : List Granules) (covers : List Covered) → AllStand bodies covers → length bodies ≡ length covers
all_stand_long [] [] all = refl
all_stand_long [] (n ∷ covers) all = absurd all
all_stand_long (b ∷ bodies) [] all = absurd all
all_stand_long (b ∷ bodies) (n ∷ covers) all = ap suc (all_stand_long bodies covers all.1)

pub one_stands : (bodies : List Granules) (covers : List Covered) (i : ℕ) (body : Granules) → AllStand bodies covers → i < length bodies → body ≡ get_or bodies i body →
    (m : Covered) × (slice_get covers i ≡ Some m) × Stands body m
one_stands [] covers i body all within there = absurd (omega arith)
one_stands (b ∷ bodies) [] i body all within there = absurd all
one_stands (b ∷ bodies) (n ∷ covers) zero body all within there = (n, refl, subst (λ x. Stands x n) (sym there) all.0)
one_stands (b ∷ bodies) (n ∷ covers) (suc i) body all within there = one_stands bodies covers i body all.1 (omega arith) there

pub none_stands : (bodies : List Granules) (covers : List Covered) (i : ℕ) → AllStand bodies covers → length bodies ≤ i → slice_get covers i ≡ None
none_stands [] [] i all past = refl
none_stands [] (n ∷ covers) i all past = absurd all
none_stands (b ∷ bodies) [] i all past = absurd all
none_stands (b ∷ bodies) (n ∷ covers) zero all past = absurd (omega arith)
none_stands (b ∷ bodies) (n ∷ covers) (suc i) all past = none_stands bodies covers i all.1 (omega arith)

pub layouts_stand : (bodies : List Granules) (covers : List Covered) → AllStand bodies covers → map layout_by_codes bodies ≡ map layout_of covers
layouts_stand [] [] all = refl
layouts_stand [] (n ∷ covers) all = absurd all
layouts_stand (b ∷ bodies) [] all = absurd all
layouts_stand (b ∷ bodies) (n ∷ covers) all =
    ap (λ l. l ∷ map layout_by_codes bodies) (layout_stands b n all.0) ∙ ap (λ ls. layout_of n ∷ ls) (layouts_stand bodies covers all.1)
