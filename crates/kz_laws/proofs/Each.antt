-- What holds of each element of a list, by recursion on it: of lists joined, made and told apart.
use Rattle.std.proofs.Common.{◌≡◌, ℕ, zero, suc, ◌+◌, ◌<◌, ◌≤◌, List, [], ◌∷◌, ◌++◌, map, refl, arith}
use Rattle.std.specs.List.{AllByRecursion, flat_map, range_with_len}

module _ {X : Type 0} (P : X → Type 0) where
  pub each-append : (xs ys : List X) → AllByRecursion P xs → AllByRecursion P ys → AllByRecursion P (xs ++ ys)
  each-append [] ys hx hy = hy
  each-append (x ∷ xs) ys hx hy = (hx.0, each-append xs ys hx.1 hy)

  pub each-map : {Y : Type 0} (f : Y → X) → ((y : Y) → P (f y)) → (ys : List Y) → AllByRecursion P (map f ys)
  each-map f all [] = tt
  each-map f all (y ∷ ys) = (all y, each-map f all ys)

  pub each-flat_map : {Y : Type 0} (f : Y → List X) → ((y : Y) → AllByRecursion P (f y)) → (ys : List Y) → AllByRecursion P (flat_map f ys)
  each-flat_map f all [] = tt
  each-flat_map f all (y ∷ ys) = each-append (f y) (flat_map f ys) (all y) (each-flat_map f all ys)

  -- of lists made of numbers in a row
  pub each-range : (f : ℕ → List X) (from n last : ℕ) → from + n ≤ last → ((k : ℕ) → k < last → AllByRecursion P (f k)) → AllByRecursion P (flat_map f (range_with_len from n))
  each-range f from zero last le all = tt
  each-range f from (suc n) last le all =
      each-append (f from) (flat_map f (range_with_len (from + 1) n)) (all from (omega arith)) (each-range f (from + 1) n last (omega arith) all)

  pub each-weaker : (Q : X → Type 0) → ((x : X) → P x → Q x) → (xs : List X) → AllByRecursion P xs → AllByRecursion Q xs
  each-weaker Q weaker [] h = tt
  each-weaker Q weaker (x ∷ xs) h = (weaker x h.0, each-weaker Q weaker xs h.1)

  -- A list is told by what is made of its elements, where that tells each element.
  pub same_by_map : {Y : Type 0} (f : X → Y) → ((x y : X) → P x → P y → f x ≡ f y → x ≡ y) → (xs ys : List X) → AllByRecursion P xs → AllByRecursion P ys → map f xs ≡ map f ys → xs ≡ ys
  same_by_map f tells [] [] hx hy e = refl
  same_by_map f tells [] (y ∷ ys) hx hy e = absurd (cc)
  same_by_map f tells (x ∷ xs) [] hx hy e = absurd (cc)
  same_by_map f tells (x ∷ xs) (y ∷ ys) hx hy e =
      let first : f x ≡ f y = cc in
      let rest : map f xs ≡ map f ys = cc in
      let one = tells x y hx.0 hy.0 first in
      let more = same_by_map f tells xs ys hx.1 hy.1 rest in
      cc

  pub each-both : (Q : X → Type 0) (xs : List X) → AllByRecursion P xs → AllByRecursion Q xs → AllByRecursion (λ x. P x × Q x) xs
  each-both Q [] hp hq = tt
  each-both Q (x ∷ xs) hp hq = ((hp.0, hq.0), each-both Q xs hp.1 hq.1)
