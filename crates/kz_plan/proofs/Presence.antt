-- Each type has a zone, and the zones are in a row.
use Rattle.std.proofs.Common.{◌≡◌, ℕ, zero, suc, ◌+◌, ◌-◌, ◌<◌, ◌≤◌, ◌==◌, Bool, true, false, cond, ◌||◌, List, [], ◌∷◌, length, sum, All, Some, IsSome, unwrap_or, refl, ap, sym, ◌∙◌, subst, arith}
use Rattle.std.proofs.Math.Nat.{mod-lt}
use Rattle.std.proofs.lemmas.Bool.Decides.{nat_tests}
use Rattle.std.proofs.lemmas.List.Sorted.{list_any-IsPermutation}
use Rattle.std.proofs.lemmas.List.Sums.{sum_by-cons}
use Rattle.std.proofs.lemmas.Iterator.Adapters.{position_from-zero}
use Rattle.std.specs.List.{filter, find, list_any, position, position_from, range_with_len}
use Rattle.std.specs.Option.{IsSomeAnd, option_map_or}
use Rattle.kz_model.specs.declared.bundle.Seed.{Seed}
use Rattle.kz_model.specs.declared.record.Layout.{Layout}
use Rattle.kz_model.specs.Types.Layouts.{has, is, place_of}
use Rattle.kz_model.specs.Types.Plan.{Signature, Group, Deal, signatures, shuffled, groups_from, deals_from, bucket_of, class_at, general_zone}
use Rattle.kz_plan.specs.Homes.{HasBucket, AreInRow}
use Rattle.kz_plan.proofs.ZoneRows.{in_row-order}
use Rattle.kz_plan.proofs.Shuffles.{shuffled-permuted}

-- ---- places

place-from : {A : Type 0} (t : A → Bool) (i : ℕ) (xs : List A) → list_any t xs ≡ true → IsSome (position_from t i xs)
place-from t i [] any = absurd cc
place-from t i (x ∷ xs) any =
    elim (t x) as (λ b. (b || list_any t xs) ≡ true → IsSome (cond b (Some i) (position_from t (i + 1) xs))) [
      | true ↦ λ e. refl
      | false ↦ λ e. place-from t (i + 1) xs e
    ] any

-- where some element passes, there is a place
pub place-there : {A : Type 0} (t : A → Bool) (xs : List A) → list_any t xs ≡ true → IsSome (position t xs)
place-there t xs any = subst (λ o. IsSome o) (sym (position_from-zero t xs)) (place-from t 0 xs any)

-- a signature has a place in the order in which its class is dealt
signature-place : (q : Signature) (seed : Seed) (drawn : ℕ) (all : List Signature) → has q all ≡ true → IsSome (place_of q (shuffled seed drawn all))
signature-place q seed drawn all there =
    place-from (is q) 0 (shuffled seed drawn all) (sym (list_any-IsPermutation (is q) all (shuffled seed drawn all) (shuffled-permuted seed drawn all)) ∙ there)

-- ---- classes

pub same-number : (a b : ℕ) → (a == b) ≡ true → a ≡ b
same-number a b e = grind (arith, nat_tests)

flipped : (a b : ℕ) → (a == b) ≡ (b == a)
flipped a b = grind (arith, nat_tests)

-- a number that passes is among those that do
pub any-filtered : (p : ℕ → Bool) (a n x : ℕ) → a ≤ x → x < a + n → p x ≡ true → list_any (λ o. x == o) (filter p (range_with_len a n)) ≡ true
any-filtered p a zero x low high passes = absurd (omega arith)
any-filtered p a (suc n) x low high passes =
    elim (x == a) as (λ b. (x == a) ≡ b → list_any (λ o. x == o) (cond (p a) (a ∷ filter p (range_with_len (a + 1) n)) (filter p (range_with_len (a + 1) n))) ≡ true) [
      | true ↦ λ e.
          let here : p a ≡ true = ap p (sym (same-number x a e)) ∙ passes in
          ap (λ b. list_any (λ o. x == o) (cond b (a ∷ filter p (range_with_len (a + 1) n)) (filter p (range_with_len (a + 1) n)))) here
          ∙ ap (λ b. b || list_any (λ o. x == o) (filter p (range_with_len (a + 1) n))) e
      | false ↦ λ e.
          let above : a + 1 ≤ x = grind (arith, nat_tests) in
          let rest : list_any (λ o. x == o) (filter p (range_with_len (a + 1) n)) ≡ true = any-filtered p (a + 1) n x above (omega arith) passes in
          elim (p a) as (λ b. list_any (λ o. x == o) (cond b (a ∷ filter p (range_with_len (a + 1) n)) (filter p (range_with_len (a + 1) n))) ≡ true) [
            | true ↦ ap (λ b. b || list_any (λ o. x == o) (filter p (range_with_len (a + 1) n))) e ∙ rest
            | false ↦ rest
          ]
    ] refl

-- ---- deals

-- the deal of a class that is dealt has a place for each of its signatures
pub bucket-there : (layouts : List Layout) (seed : Seed) (drawn first class : ℕ) (classes parts : List ℕ) (q : Signature) → length parts ≡ length classes → list_any (λ o. class == o) classes ≡ true →
    has q (signatures layouts class) ≡ true →
    IsSomeAnd (find (λ deal. deal.class == class) (deals_from first (groups_from layouts seed drawn classes) parts)) (λ deal. IsSome (place_of q deal.order))
bucket-there layouts seed drawn first class [] parts q same there has_it = absurd cc
bucket-there layouts seed drawn first class (c ∷ classes) [] q same there has_it = absurd (omega arith)
bucket-there layouts seed drawn first class (c ∷ classes) (part ∷ parts) q same there has_it =
    let rest = deals_from (first + part) (groups_from layouts seed (drawn + (length (signatures layouts c) - 1)) classes) parts in
    let deal : Deal = record { class = c; first = first; zones = part; order = shuffled seed drawn (signatures layouts c) } in
    elim (c == class) as (λ b. (c == class) ≡ b → IsSomeAnd (cond b (Some deal) (find (λ deal. deal.class == class) rest)) (λ deal. IsSome (place_of q deal.order))) [
      | true ↦ λ e. signature-place q seed drawn (signatures layouts c) (ap (λ c. has q (signatures layouts c)) (same-number c class e) ∙ has_it)
      | false ↦ λ e.
          let other : (class == c) ≡ false = flipped class c ∙ e in
          bucket-there layouts seed (drawn + (length (signatures layouts c) - 1)) (first + part) class classes parts q (omega arith)
          (sym (ap (λ b. b || list_any (λ o. class == o) classes) other) ∙ there) has_it
    ] refl

-- the deals of parts that are at least one each are in a row
pub deals-in_row : (first : ℕ) (groups : List Group) (parts : List ℕ) → length parts ≡ length groups → All (λ part. 0 < part) parts → AreInRow first (first + sum parts) (deals_from first groups parts)
deals-in_row first [] [] same some = omega arith
deals-in_row first [] (part ∷ parts) same some = absurd (omega arith)
deals-in_row first (group ∷ groups) [] same some = absurd (omega arith)
deals-in_row first (group ∷ groups) (part ∷ parts) same some =
    let total : first + part + sum parts ≡ first + sum (part ∷ parts) = omega (arith, sum_by-cons (λ (x : ℕ). x) part parts) in (
      refl,
      some 0 0 (omega arith),
      subst (λ last. AreInRow (first + part) last (deals_from (first + part) groups parts)) total
          (deals-in_row (first + part) groups parts (omega arith) (λ k d inside. some (suc k) d (omega arith))),
    )

-- ---- the zone is inside

-- the zone of a type is before the last
pub zone-inside : (first last : ℕ) (deals : List Deal) (layout : Layout) → AreInRow first last deals → HasBucket deals layout → general_zone deals layout < last
zone-inside first last [] layout row there = absurd there
zone-inside first last (deal ∷ deals) layout row there =
    elim (deal.class == class_at layout) as (λ b.
    IsSomeAnd (cond b (Some deal) (find (λ deal. deal.class == class_at layout) deals)) (λ deal. IsSome (place_of layout.letters deal.order)) →
    option_map_or (λ deal. deal.first + bucket_of deal layout.letters) (cond b (Some deal) (find (λ deal. deal.class == class_at layout) deals)) 0 < last) [
      | true ↦ λ h.
          let low : bucket_of deal layout.letters < deal.zones = mod-lt (unwrap_or (place_of layout.letters deal.order) 0) row.1 in
          omega (arith, row.0, low, in_row-order (first + deal.zones) last deals row.2)
      | false ↦ λ h. zone-inside (first + deal.zones) last deals layout row.2 h
    ] there
