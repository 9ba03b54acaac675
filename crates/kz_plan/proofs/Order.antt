-- Signatures rise, and are those of the types.
use Rattle.std.proofs.Common.{◌≡◌, ℕ, ◌+◌, ◌<◌, ◌≤◌, Bool, true, false, cond, ◌&&◌, ◌||◌, List, [], ◌∷◌, length, map, fold, refl, ap, sym, ◌∙◌, arith}
use Rattle.std.proofs.Math.ListN.{get_or}
use Rattle.std.proofs.lemmas.Cmp.{nat_list_cmp_total}
use Rattle.std.proofs.lemmas.Map.Text.{is_eq-slice_cmp}
use Rattle.std.proofs.lemmas.Slice.Eq.{bytes_eq-Decides}
use Rattle.std.proofs.lemmas.Map.Keys.{IsDistinct-from_sorted, IsDistinct-from_apart, apart_from_distinct}
use Rattle.std.specs.Cmp.Lexicographic.{slice_cmp}
use Rattle.std.specs.List.{AllByRecursion, filter, list_any}
use Rattle.std.specs.List.Sorted.{IsStrictlySortedBy}
use Rattle.std.specs.Ordering.{nat_cmp, match_ordering, ordering_reverse, is_eq, eq_by_cmp}
use Rattle.std.specs.Str.{bytes_eq}
use Rattle.std.specs.declared.cmp.Ordering.{Ordering}
use Rattle.std.specs.declared.cmp.Ordering.TheVariants.{Less, Equal, Greater}
use Rattle.kz_model.specs.declared.record.Layout.{Layout}
use Rattle.kz_model.specs.Types.Layouts.{has, is}
use Rattle.kz_model.specs.Types.Plan.{Signature, is_general, with_signature, signatures}
use Rattle.kz_plan.specs.Shown.{AreDistinct}

abbrev cmp : Signature → Signature → Ordering
cmp x y = slice_cmp nat_cmp x y

-- ---- they rise

abbrev AllAbove : Signature → List Signature → Type 0
AllAbove k ks = AllByRecursion (λ y. cmp k y ≡ Less) ks

above-more : (k x : Signature) (ks : List Signature) → AllAbove k ks → cmp k x ≡ Less → AllAbove k (with_signature ks x)
above-more k x [] above less = (less, tt)
above-more k x (y ∷ ks) above less =
    elim (cmp x y) as (λ o. AllAbove k (match_ordering o (x ∷ y ∷ ks) (y ∷ ks) (y ∷ with_signature ks x))) [
      | Less ↦ (less, above)
      | Equal ↦ above
      | Greater ↦ (above.0, above-more k x ks above.1 less)
    ]

above-less : (x k : Signature) (ks : List Signature) → cmp x k ≡ Less → AllAbove k ks → AllAbove x ks
above-less x k [] less above = tt
above-less x k (y ∷ ks) less above = (nat_list_cmp_total.trans x k y less above.0, above-less x k ks less above.1)

abbrev Rise : List Signature → Type 0
Rise ks = IsStrictlySortedBy (slice_cmp nat_cmp) ks

rise-more : (ks : List Signature) (x : Signature) → Rise ks → Rise (with_signature ks x)
unfolding IsStrictlySortedBy
rise-more [] x rise = (tt, tt)
rise-more (k ∷ ks) x rise =
    elim (cmp x k) as (λ o. cmp x k ≡ o → Rise (match_ordering o (x ∷ k ∷ ks) (k ∷ ks) (k ∷ with_signature ks x))) [
      | Less ↦ λ e. ((e, above-less x k ks e rise.0), rise)
      | Equal ↦ λ e. rise
      | Greater ↦ λ e. (above-more k x ks rise.0 (nat_list_cmp_total.antisymm k x ∙ ap ordering_reverse e), rise-more ks x rise.1)
    ] refl

rise-all : (found xs : List Signature) → Rise found → Rise (fold with_signature found xs)
rise-all found [] rise = rise
rise-all found (x ∷ xs) rise = rise-all (with_signature found x) xs (rise-more found x rise)

none_rise : Rise []
unfolding IsStrictlySortedBy
none_rise = tt

pub signatures-rise : (layouts : List Layout) (class : ℕ) → Rise (signatures layouts class)
signatures-rise layouts class = rise-all [] (map (λ layout. layout.letters) (filter (is_general class) layouts)) none_rise

-- so none is there twice
pub signatures-distinct : (layouts : List Layout) (class : ℕ) → AreDistinct (signatures layouts class)
signatures-distinct layouts class =
    let all = signatures layouts class in
    IsDistinct-from_apart bytes_eq all
    (λ i j d before inside.
    sym (is_eq-slice_cmp (get_or all i d) (get_or all j d))
    ∙ apart_from_distinct (eq_by_cmp (slice_cmp nat_cmp)) all i j d (IsDistinct-from_sorted (slice_cmp nat_cmp) all (signatures-rise layouts class)) before inside)

-- ---- they are those of the types

or_swapped : (a b c : Bool) → (a || (b || c)) ≡ (b || (a || c))
or_swapped true true c = refl
or_swapped true false c = refl
or_swapped false true c = refl
or_swapped false false c = refl

or_again : (a c : Bool) → (a || c) ≡ (a || (a || c))
or_again true c = refl
or_again false c = refl

has-more : (q x : Signature) (ks : List Signature) → has q (with_signature ks x) ≡ (is q x || has q ks)
has-more q x [] = refl
has-more q x (k ∷ ks) =
    elim (cmp x k) as (λ o. cmp x k ≡ o → has q (match_ordering o (x ∷ k ∷ ks) (k ∷ ks) (k ∷ with_signature ks x)) ≡ (is q x || (is q k || has q ks))) [
      | Less ↦ λ e. refl
      | Equal ↦ λ e.
          let same : x ≡ k = (bytes_eq-Decides x k).0 (sym (is_eq-slice_cmp x k) ∙ ap is_eq e) in
          or_again (is q k) (has q ks) ∙ ap (λ y. is q y || (is q k || has q ks)) (sym same)
      | Greater ↦ λ e. ap (λ b. is q k || b) (has-more q x ks) ∙ or_swapped (is q k) (is q x) (has q ks)
    ] refl

or_turned : (a b c : Bool) → ((a || b) || c) ≡ (b || (a || c))
or_turned true true c = refl
or_turned true false c = refl
or_turned false true c = refl
or_turned false false c = refl

has-all : (q : Signature) (found xs : List Signature) → has q (fold with_signature found xs) ≡ (has q found || has q xs)
has-all q found [] = or_none (has q found)
  where
    or_none : (a : Bool) → a ≡ (a || false)
    or_none true = refl
    or_none false = refl
has-all q found (x ∷ xs) = has-all q (with_signature found x) xs ∙ ap (λ b. b || has q xs) (has-more q x found) ∙ or_turned (is q x) (has q found) (has q xs)

has-letters : (q : Signature) (p : Layout → Bool) (layouts : List Layout) → has q (map (λ layout. layout.letters) (filter p layouts)) ≡ list_any (λ layout. p layout && is q layout.letters) layouts
has-letters q p [] = refl
has-letters q p (l ∷ layouts) =
    elim (p l) as (λ b. has q (map (λ layout. layout.letters) (cond b (l ∷ filter p layouts) (filter p layouts))) ≡ ((b && is q l.letters) || list_any (λ layout. p layout && is q layout.letters) layouts)) [
      | true ↦ ap (λ b. is q l.letters || b) (has-letters q p layouts)
      | false ↦ has-letters q p layouts
    ]

pub has-signatures : (q : Signature) (layouts : List Layout) (class : ℕ) → has q (signatures layouts class) ≡ list_any (λ layout. is_general class layout && is q layout.letters) layouts
has-signatures q layouts class = has-all q [] (map (λ layout. layout.letters) (filter (is_general class) layouts)) ∙ has-letters q (is_general class) layouts

-- ---- how many there are

more-length : (ks : List Signature) (x : Signature) → (length ks ≤ length (with_signature ks x)) × (0 < length (with_signature ks x)) × (length (with_signature ks x) ≤ length ks + 1)
more-length [] x = (omega arith, omega arith, omega arith)
more-length (k ∷ ks) x =
    elim (cmp x k) as (λ o. (length (k ∷ ks) ≤ length (match_ordering o (x ∷ k ∷ ks) (k ∷ ks) (k ∷ with_signature ks x))) × (0 < length (match_ordering o (x ∷ k ∷ ks) (k ∷ ks) (k ∷ with_signature ks x)))
    × (length (match_ordering o (x ∷ k ∷ ks) (k ∷ ks) (k ∷ with_signature ks x)) ≤ length (k ∷ ks) + 1)) [
      | Less ↦ (omega arith, omega arith, omega arith)
      | Equal ↦ (omega arith, omega arith, omega arith)
      | Greater ↦ let rest = more-length ks x in (omega (arith, rest.0), omega arith, omega (arith, rest.2))
    ]

all-length : (found xs : List Signature) → (length found ≤ length (fold with_signature found xs)) × (length (fold with_signature found xs) ≤ length found + length xs)
all-length found [] = (omega arith, omega arith)
all-length found (x ∷ xs) =
    let one = more-length found x in
    let rest = all-length (with_signature found x) xs in
    (omega (arith, one.0, rest.0), omega (arith, one.2, rest.1))

filtered-length : (p : Layout → Bool) (layouts : List Layout) → length (map (λ layout. layout.letters) (filter p layouts)) ≤ length layouts
filtered-length p [] = omega arith
filtered-length p (l ∷ layouts) =
    elim (p l) as (λ b. length (map (λ layout. layout.letters) (cond b (l ∷ filter p layouts) (filter p layouts))) ≤ length (l ∷ layouts)) [
      | true ↦ omega (arith, filtered-length p layouts)
      | false ↦ omega (arith, filtered-length p layouts)
    ]

pub signatures-few : (layouts : List Layout) (class : ℕ) → length (signatures layouts class) ≤ length layouts
signatures-few layouts class =
    omega (arith, (all-length [] (map (λ layout. layout.letters) (filter (is_general class) layouts))).1, filtered-length (is_general class) layouts)

some-signature : (p : Layout → Bool) (layouts : List Layout) → list_any p layouts ≡ true → 0 < length (fold with_signature [] (map (λ layout. layout.letters) (filter p layouts)))
some-signature p [] any = absurd cc
some-signature p (l ∷ layouts) any =
    elim (p l) as (λ b. (b || list_any p layouts) ≡ true → 0 < length (fold with_signature [] (map (λ layout. layout.letters) (cond b (l ∷ filter p layouts) (filter p layouts))))) [
      | true ↦ λ e. omega (arith, (all-length (l.letters ∷ []) (map (λ layout. layout.letters) (filter p layouts))).0)
      | false ↦ λ e. some-signature p layouts e
    ] any

pub signatures-some : (layouts : List Layout) (class : ℕ) → list_any (is_general class) layouts ≡ true → 0 < length (signatures layouts class)
signatures-some layouts class any = some-signature (is_general class) layouts any
