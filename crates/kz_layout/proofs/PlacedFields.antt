-- Places of fields that are at multiples of their alignments.
use Rattle.std.proofs.Common.{◌≡◌, ℕ, zero, suc, ◌+◌, ◌-◌, ◌*◌, ◌/◌, ◌%◌, ◌≤◌, ◌<◌, IsTrue, List, [], ◌∷◌, refl, sym, ap, ◌∙◌, subst, arith, Some, slice_get, All}
use Rattle.std.proofs.Math.Nat.{mul_comm, mul-mod_left}
use Rattle.std.proofs.lemmas.List.Elements.{All-nil, All-cons, All-head, All-tail}
use Rattle.kz_model.specs.Types.Cover.{round_up}
use Rattle.kz_layout.specs.Granules.{is_align}
use Rattle.kz_layout.specs.FieldPlaces.{Extent, FieldPlace, end_of, greatest_end, greatest_align, extent_over}
use Rattle.kz_layout.specs.FieldLaws.{IsPlacedIn, AreApart, ArePlaced}
use Rattle.kz_layout.proofs.Overs.{le-round_up}
use Rattle.kz_layout.proofs.Bodies.{by_align, positive, max_is_align, max_is_multiple}

-- an alignment that is one, and a size that is a multiple of it
pub record IsEven (e : Extent) : Type 0 where
  pub aligned : IsTrue (is_align e.align)
  pub multiple : e.size % e.align ≡ 0

-- and a field at such a multiple
pub record IsEvenPlace (f : FieldPlace) : Type 0 where
  pub item : IsEven f.item
  pub begins : f.offset % f.item.align ≡ 0

-- ---- multiples

pub mod-multiple : (a n : ℕ) → a * n % a ≡ 0
mod-multiple a n = ap (λ k. k % a) (mul_comm a n) ∙ mul-mod_left n a

items_even : (a offset size k : ℕ) → 1 ≤ a → offset % a ≡ 0 → size % a ≡ 0 → (offset + k * size) % a ≡ 0
items_even a offset size k some at whole =
    let begin : offset ≡ a * (offset / a) = omega arith in
    let long : size ≡ a * (size / a) = omega arith in
    let sum : a * (offset / a) + k * (a * (size / a)) ≡ a * (offset / a + k * (size / a)) = omega arith in
    ap (λ n. (n + k * size) % a) begin ∙ ap (λ n. (a * (offset / a) + k * n) % a) long ∙ ap (λ n. n % a) sum ∙ mod-multiple a (offset / a + k * (size / a))

multiples_even : (a b n : ℕ) → 1 ≤ a → 1 ≤ b → b % a ≡ 0 → n % b ≡ 0 → n % a ≡ 0
multiples_even a b n some several divides whole =
    let times : n ≡ b * (n / b) = omega arith in
    let parts : b ≡ a * (b / a) = omega arith in
    let product : a * (b / a) * (n / b) ≡ a * (b / a * (n / b)) = omega arith in
    ap (λ k. k % a) (times ∙ ap (λ k. k * (n / b)) parts ∙ product) ∙ mod-multiple a (b / a * (n / b))

-- items in braces that stand at a multiple themselves
nested_even : (a start offset size k : ℕ) → 1 ≤ a → start % a ≡ 0 → offset % a ≡ 0 → size % a ≡ 0 → (start + (offset + k * size)) % a ≡ 0
nested_even a start offset size k some at begins whole =
    let once : start + 1 * (offset + k * size) ≡ start + (offset + k * size) = omega arith in
    ap (λ n. n % a) (sym once) ∙ items_even a start (offset + k * size) 1 some at (items_even a offset size k some begins whole)

greater_even : (a b : ℕ) → IsTrue (is_align a) → IsTrue (is_align b) → a ≤ b → b % a ≡ 0
greater_even a b is also le =
    let times = max_is_multiple a b is also in
    let same : b ≡ a * times.0 = omega (arith, times.2) in
    ap (λ n. n % a) same ∙ mod-multiple a times.0

pub round_up_even : (n a : ℕ) → round_up n a % a ≡ 0
round_up_even n a = mul-mod_left ((n + a - 1) / a) a

round_up_small : (n a : ℕ) → IsTrue (is_align a) → n ≤ 8192 → round_up n a ≤ 8192
round_up_small n a is few = by_align (λ k. round_up n k ≤ 8192) (omega arith) (omega arith) (omega arith) (omega arith) a is

-- ---- all fields of some braces

pub greatest_align-is : (fields : List FieldPlace) → All IsEvenPlace fields → IsTrue (is_align (greatest_align fields))
greatest_align-is [] even = refl
greatest_align-is (f ∷ fields) even =
    max_is_align f.item.align (greatest_align fields) (All-head IsEvenPlace f fields even).item.aligned
    (greatest_align-is fields (All-tail IsEvenPlace f fields even))

all_placed_in : (whole : Extent) (fields : List FieldPlace) → IsTrue (is_align whole.align) → greatest_end fields ≤ whole.size →
    greatest_align fields ≤ whole.align → All IsEvenPlace fields → All (IsPlacedIn whole) fields
all_placed_in whole [] is ends wide even = All-nil (IsPlacedIn whole)
all_placed_in whole (f ∷ fields) is ends wide even =
    let head : IsEvenPlace f = All-head IsEvenPlace f fields even in
    let some = positive f.item.align head.item.aligned in
    All-cons (IsPlacedIn whole) f fields
    (record {
      aligned = λ k. items_even f.item.align f.offset f.item.size k some head.begins head.item.multiple;
      inside = omega arith;
      nested = λ start k at. nested_even f.item.align start f.offset f.item.size k some
          (multiples_even f.item.align whole.align start some (positive whole.align is) (greater_even f.item.align whole.align head.item.aligned is (omega arith)) at)
          head.begins head.item.multiple;
    })
    (all_placed_in whole fields is (omega arith) (omega arith) (All-tail IsEvenPlace f fields even))

-- fields that end within the greatest size are placed in the braces over them
pub all_placed : (fields : List FieldPlace) → greatest_end fields ≤ 8192 → All IsEvenPlace fields → ArePlaced fields
all_placed fields few even =
    let is = greatest_align-is fields even in
    let higher = le-round_up (greatest_end fields) (greatest_align fields) (positive (greatest_align fields) is) in
    record {
      fit = record {
        aligned = is;
        multiple = round_up_even (greatest_end fields) (greatest_align fields);
        small = round_up_small (greatest_end fields) (greatest_align fields) is few;
      };
      each = all_placed_in (extent_over fields) fields is higher (omega arith) even;
    }

-- ---- fields one after the other

-- the first begins at this byte or behind it, and each other one at the end of the one before or behind it
abbrev pub Rises : ℕ → List FieldPlace → Type 0
Rises end [] = Unit {0}
Rises end (f ∷ fields) = (end ≤ f.offset) × Rises (end_of f) fields

rises_at : (end j : ℕ) (fields : List FieldPlace) (g : FieldPlace) → Rises end fields → slice_get fields j ≡ Some g → end ≤ g.offset
rises_at end j [] g rises there = cc
rises_at end zero (f ∷ fields) g rises there = let same : f ≡ g = cc in subst (λ (x : FieldPlace). end ≤ x.offset) same rises.0
rises_at end (suc j) (f ∷ fields) g rises there =
    let more = rises_at (end_of f) j fields g rises.1 there in
    let first = rises.0 in
    omega arith

apart_at : (end : ℕ) (fields : List FieldPlace) → Rises end fields → (i j : ℕ) (f g : FieldPlace) → i < j →
    slice_get fields i ≡ Some f → slice_get fields j ≡ Some g → end_of f ≤ g.offset
apart_at end [] rises i j f g lt here there = cc
apart_at end (h ∷ fields) rises zero zero f g lt here there = absurd (omega arith)
apart_at end (h ∷ fields) rises zero (suc j) f g lt here there =
    let same : h ≡ f = cc in subst (λ (x : FieldPlace). end_of x ≤ g.offset) same (rises_at (end_of h) j fields g rises.1 there)
apart_at end (h ∷ fields) rises (suc i) zero f g lt here there = absurd (omega arith)
apart_at end (h ∷ fields) rises (suc i) (suc j) f g lt here there = apart_at (end_of h) fields rises.1 i j f g (omega arith) here there

pub rising_apart : (end : ℕ) (fields : List FieldPlace) → Rises end fields → AreApart fields
rising_apart end fields rises = apart_at end fields rises
