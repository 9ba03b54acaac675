-- The class of a size and the pages of a chunk are the least.
use Rattle.std.proofs.Common.{◌≡◌, ℕ, zero, suc, ◌+◌, ◌-◌, ◌*◌, ◌/◌, ◌<◌, ◌≤◌, ◌&&◌, Bool, true, false, cond, nat_lt, nat_le, is_some, unwrap_or, IsTrue, inl, inr, List, [], ◌∷◌, length, slice_index, slice_index_or, add-one, None, Some, refl, sym, ap, subst, arith}
use Rattle.std.specs.List.{find, position, position_or_len, range_with_len, list_all}
use Rattle.std.specs.List.Sorted.{IsStrictlyIncreasing}
use Rattle.std.proofs.lemmas.List.Quantifiers.{position-Some}
use Rattle.std.proofs.lemmas.List.Sums.{position_or_len_is, fails_before_first, AllPass-from_list_all}
use Rattle.std.proofs.lemmas.List.Kept.{AllPairs-from_increasing}
use Rattle.std.proofs.lemmas.Bool.Decides.{nat_tests}
use Rattle.std.proofs.lemmas.Bool.{cases_eq, and_parts}
use Rattle.std.proofs.lemmas.Nat.{le-div}
use Rattle.std.proofs.Math.Nat.{mul-le-mul_right, div-mul-le_self, mul_comm}
use Rattle.kz_model.specs.Types.Class.{class_of, is_chunk, pages_of, cut, IsClass, IsTable, IsFitGeometry}
use Rattle.kz_class.specs.ClassLaws.{IsLeastNotBelow, ClassIsLeast, NoneIsAboveTheLast, IsChunk, IsLeastChunk, PagesAreLeast, ClassesFit}

-- ---- the first place that passes

pub first_is : (p : ℕ → Bool) (xs : List ℕ) (i : ℕ) → i < length xs → p (slice_index xs i) ≡ true →
    ((k : ℕ) → k < i → p (slice_index xs k) ≡ false) → position p xs ≡ Some i
first_is p xs i lt here before =
    let at : position_or_len p xs ≡ i = position_or_len_is p xs i 0 (omega arith) before (λ _. here) in
    let within : nat_lt i (length xs) ≡ true = grind (arith, nat_tests) in
    rw (at, within) refl

pub none_is : (p : ℕ → Bool) (xs : List ℕ) → ((k : ℕ) → k < length xs → p (slice_index xs k) ≡ false) → position p xs ≡ None
none_is p xs all =
    let at : position_or_len p xs ≡ length xs = position_or_len_is p xs (length xs) 0 (omega arith) all (λ l. absurd (omega arith)) in
    let within : nat_lt (length xs) (length xs) ≡ false = grind (arith, nat_tests) in
    rw (at, within) refl

-- ---- classes

pub class_is_least : ClassIsLeast
class_is_least sizes size class = (there, back)
  where
    there : class_of sizes size ≡ Some class → IsLeastNotBelow sizes size class
    there e = let s = position-Some (λ element. nat_le size element) sizes class 0 e in record {
      inside = s.0;
      not_below = let t = s.1 in grind (arith, nat_tests);
      least = λ k lt. let t = s.2 k lt in grind (arith, nat_tests);
    }

    back : IsLeastNotBelow sizes size class → class_of sizes size ≡ Some class
    back l =
        first_is (λ element. nat_le size element) sizes class l.inside (let t = l.not_below in grind (arith, nat_tests))
        (λ k lt. let t = l.least k lt in grind (arith, nat_tests))

-- where no place passes, none does
fails_everywhere : (p : ℕ → Bool) (xs : List ℕ) → position p xs ≡ None → (k : ℕ) → k < length xs → p (slice_index xs k) ≡ false
fails_everywhere p xs e k lt =
    fails_before_first p xs k 0
    (elim (nat_lt (position_or_len p xs) (length xs)) as (λ b. nat_lt (position_or_len p xs) (length xs) ≡ b → cond b (Some (position_or_len p xs)) None ≡ None → k < position_or_len p xs) [
      | true ↦ λ t f. cc
      | false ↦ λ t f. grind (arith, nat_tests)
    ] refl e)

pub none_above_last : NoneIsAboveTheLast
none_above_last sizes size some rising = (there, back)
  where
    there : class_of sizes size ≡ None → slice_index sizes (length sizes - 1) < size
    there e = let t = fails_everywhere (λ element. nat_le size element) sizes e (length sizes - 1) (omega arith) in grind (arith, nat_tests)

    within : (k : ℕ) → k < length sizes → slice_index sizes k ≤ slice_index sizes (length sizes - 1)
    within k lt = elim (cases_eq k (length sizes - 1)) [
      | inl e ↦ let P : ℕ → Type 0 = λ j. slice_index sizes k ≤ slice_index sizes j in subst P e (omega arith)
      | inr ne ↦ omega (arith, AllPairs-from_increasing sizes rising k (length sizes - 1) 0 (omega (arith, ne)) (omega arith))
    ]

    back : slice_index sizes (length sizes - 1) < size → class_of sizes size ≡ None
    back l = none_is (λ element. nat_le size element) sizes (λ k lt. let w = within k lt in grind (arith, nat_tests))

-- ---- the first number of a range that passes

pub record IsFirst (p : ℕ → Bool) (a n x : ℕ) : Type 0 where
  pub from : a ≤ x
  pub to : x < a + n
  pub passes : p x ≡ true
  pub first : (k : ℕ) → a ≤ k → k < x → p k ≡ false

pub found_first : (p : ℕ → Bool) (a n x : ℕ) → find p (range_with_len a n) ≡ Some x → IsFirst p a n x
found_first p a zero x e = cc
found_first p a (suc n) x e =
    elim (p a) as (λ b. p a ≡ b → cond b (Some a) (find p (range_with_len (a + 1) n)) ≡ Some x → IsFirst p a (suc n) x) [
      | true ↦ λ t f. let same : a ≡ x = cc in record { from = omega arith; to = omega arith; passes = subst (λ j. p j ≡ true) same t; first = λ k low high. absurd (omega arith) }
      | false ↦ λ t f. let r = found_first p (a + 1) n x f in record { from = omega (arith, r.from); to = omega (arith, r.to); passes = r.passes; first = later t r }
    ] refl e
  where
    later : p a ≡ false → IsFirst p (a + 1) n x → (k : ℕ) → a ≤ k → k < x → p k ≡ false
    later t r k low high = elim (cases_eq k a) [
      | inl same ↦ subst (λ j. p j ≡ false) (sym same) t
      | inr ne ↦ r.first k (omega (arith, ne)) high
    ]

pub first_found : (p : ℕ → Bool) (a n x : ℕ) → IsFirst p a n x → find p (range_with_len a n) ≡ Some x
first_found p a zero x r = absurd (omega (arith, r.from, r.to))
first_found p a (suc n) x r =
    elim (p a) as (λ b. p a ≡ b → cond b (Some a) (find p (range_with_len (a + 1) n)) ≡ Some x) [
      | true ↦ λ t. elim (cases_eq a x) [ inl same ↦ ap Some same | inr ne ↦ let f = r.first a (omega arith) (omega (arith, ne, r.from)) in cc ]
      | false ↦ λ t. elim (cases_eq a x) [
        | inl same ↦ let f = subst (λ j. p j ≡ true) (sym same) r.passes in cc
        | inr ne ↦ first_found p (a + 1) n x (record { from = omega (arith, ne, r.from); to = omega (arith, r.to); passes = r.passes; first = λ k low high. r.first k (omega arith) high })
      ]
    ] refl

-- ---- pages

is_chunk-true : (element pages : ℕ) → is_chunk element pages ≡ true → IsChunk element pages
is_chunk-true element pages t = record { holds = grind (arith, nat_tests); waste = grind (arith, nat_tests) }

is_chunk-from : (element pages : ℕ) → IsChunk element pages → is_chunk element pages ≡ true
is_chunk-from element pages chunk = let a = chunk.holds in let b = chunk.waste in grind (arith, nat_tests)

is_chunk-false : (element pages : ℕ) → is_chunk element pages ≡ false → ¬ IsChunk element pages
is_chunk-false element pages f chunk = let t = is_chunk-from element pages chunk in cc

is_chunk-not : (element pages : ℕ) → ¬ IsChunk element pages → is_chunk element pages ≡ false
is_chunk-not element pages none =
    elim (is_chunk element pages) as (λ b. is_chunk element pages ≡ b → b ≡ false) [ true ↦ λ t. absurd (none (is_chunk-true element pages t)) | false ↦ λ t. refl ] refl

pub pages_are_least : PagesAreLeast
pages_are_least element pages = (there, back)
  where
    there : pages_of element ≡ Some pages → IsLeastChunk element pages
    there e = let r = found_first (λ pages. is_chunk element pages) 1 8 pages e in record {
      some = r.from;
      most = omega (arith, r.to);
      chunk = is_chunk-true element pages r.passes;
      least = λ fewer low high. is_chunk-false element fewer (r.first fewer low high);
    }

    back : IsLeastChunk element pages → pages_of element ≡ Some pages
    back l =
        first_found (λ pages. is_chunk element pages) 1 8 pages (record {
          from = l.some;
          to = omega (arith, l.most);
          passes = is_chunk-from element pages l.chunk;
          first = λ k low high. is_chunk-not element k (l.least k low high);
        })

-- ---- shapes

-- so many elements of at least this size are at most so many
at_most : (element count bytes least : ℕ) → least ≤ element → count * element ≤ bytes → least * count ≤ bytes
at_most element count bytes least le lt = let m : least * count ≤ element * count = mul-le-mul_right count le in omega (arith, m, mul_comm element count)

-- where one page makes no chunk, an element is above 512 bytes
above_512 : (element : ℕ) → 0 < element → ¬ IsChunk element 1 → 512 < element
above_512 element some none =
    elim (nat_le element 512) as (λ b. nat_le element 512 ≡ b → 512 < element) [
      | true ↦ λ t. let small : element ≤ 512 = grind (arith, nat_tests) in absurd (none (record { holds = omega arith; waste = omega arith }))
      | false ↦ λ t. grind (arith, nat_tests)
    ] refl

most_elements : (element pages : ℕ) → 16 ≤ element → IsLeastChunk element pages → 4096 * pages / element ≤ 256
most_elements element pages least l = elim (cases_eq pages 1) [
  | inl one ↦ omega (arith, l.most, at_most element (4096 * pages / element) (4096 * pages) 16 least (div-mul-le_self (4096 * pages) element))
  | inr more ↦
      let large = above_512 element (omega arith) (l.least 1 (omega arith) (omega (arith, more, l.some))) in
      omega (arith, l.most, at_most element (4096 * pages / element) (4096 * pages) 513 (omega arith) (div-mul-le_self (4096 * pages) element))
]

pub classes_fit : ClassesFit
classes_fit element class =
    elim (pages_of element) as (λ o. pages_of element ≡ o → IsTrue (is_some o) → IsFitGeometry (cut element (unwrap_or o 0))) [
      | None ↦ λ e some. absurd cc
      | Some pages ↦ λ e some. let l = (pages_are_least element pages).0 e in record {
        least_element = class.least;
        most_element = class.greatest;
        some_count = le-div 1 (4096 * pages) element (omega (arith, class.least)) (omega (arith, l.chunk.holds));
        most_count = most_elements element pages class.least l;
        some_pages = l.some;
        most_pages = l.most;
        within = div-mul-le_self (4096 * pages) element;
      }
    ] refl class.chunk

-- ---- tables that are written out

abbrev pub rises : List ℕ → Bool
rises [] = true
rises (x ∷ []) = true
rises (x ∷ y ∷ xs) = nat_lt x y && rises (y ∷ xs)

abbrev pub is_class : ℕ → Bool
is_class element = nat_le 16 element && nat_le element 8192 && is_some (pages_of element)

abbrev pub is_table : List ℕ → Bool
is_table sizes = nat_lt 0 (length sizes) && rises sizes && list_all is_class sizes

rises-increasing : (sizes : List ℕ) → rises sizes ≡ true → IsStrictlyIncreasing sizes
rises-increasing [] t k lt = absurd (omega arith)
rises-increasing (x ∷ []) t k lt = absurd (omega arith)
rises-increasing (x ∷ y ∷ xs) t zero lt = let a = (and_parts (nat_lt x y) (rises (y ∷ xs)) t).0 in grind (arith, nat_tests)
rises-increasing (x ∷ y ∷ xs) t (suc k) lt =
    let later = rises-increasing (y ∷ xs) (and_parts (nat_lt x y) (rises (y ∷ xs)) t).1 k (omega arith) in
    rw (add-one (suc k)) (rw add-one at later)

class_from_test : (element : ℕ) → is_class element ≡ true → IsClass element
class_from_test element t =
    let parts = and_parts (nat_le 16 element && nat_le element 8192) (is_some (pages_of element)) t in
    let range = and_parts (nat_le 16 element) (nat_le element 8192) parts.0 in
    let low = range.0 in
    let high = range.1 in
    record { least = grind (arith, nat_tests); greatest = grind (arith, nat_tests); chunk = parts.1 }

-- a table that is written out is shown to be one by this test
pub table_from_test : (sizes : List ℕ) → is_table sizes ≡ true → IsTable sizes
table_from_test sizes t =
    let parts = and_parts (nat_lt 0 (length sizes) && rises sizes) (list_all is_class sizes) t in
    let front = and_parts (nat_lt 0 (length sizes)) (rises sizes) parts.0 in
    let some = front.0 in
    record {
      some = grind (arith, nat_tests);
      rising = rises-increasing sizes front.1;
      classes = λ k d lt. class_from_test (slice_index_or sizes k d) (AllPass-from_list_all is_class sizes parts.1 k d lt);
    }
