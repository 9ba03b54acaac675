-- Lists that are made over a range of numbers, one element after the other.
use Rattle.std.proofs.Common.{◌≡◌, ◌≢◌, ◌<◌, ℕ, List, [], ◌∷◌, ◌++◌, length, length-append, map, slice_set, ap, sym, ◌∙◌, arith, inl, inr}
use Rattle.std.specs.List.{range_with_len}
use Rattle.std.proofs.Math.ListN.{get_or}
use Rattle.std.proofs.Math.Seq.{get_or-append_seam}
use Rattle.std.proofs.lemmas.Bool.{cases_eq}
use Rattle.std.proofs.lemmas.List.{append_assoc, get_or-set_same, get_or-set_other, length-set}
use Rattle.std.proofs.lemmas.List.FromFn.{fill_by_all, get_or-map-range_with_len, length-map-range_with_len, map-range_with_len_more}

pub range_alike : {X : Type 0} (f g : ℕ → X) (n : ℕ) → ((k : ℕ) → k < n → f k ≡ g k) → map f (range_with_len 0 n) ≡ map g (range_with_len 0 n)
range_alike f g n same =
    fill_by_all g (map f (range_with_len 0 n)) n (f 0) (length-map-range_with_len f 0 n) (λ k lt. get_or-map-range_with_len f 0 n k k (f 0) lt (omega arith) ∙ same k lt)

-- one element is another
pub range_set : {X : Type 0} (f g : ℕ → X) (n at : ℕ) (x : X) → at < n → x ≡ g at → ((k : ℕ) → k < n → k ≢ at → f k ≡ g k) → slice_set (map f (range_with_len 0 n)) at x ≡ map g (range_with_len 0 n)
range_set {X} f g n at x low is same =
    let before : List X = map f (range_with_len 0 n) in
    let long : length before ≡ n = length-map-range_with_len f 0 n in
    fill_by_all g (slice_set before at x) n x (length-set before at x ∙ long)
    (λ k lt. elim (cases_eq k at) [
      | inl here ↦ ap (λ k. get_or (slice_set before at x) k x) here ∙ get_or-set_same before at x x (omega (arith, low, long)) ∙ is ∙ ap g (sym here)
      | inr away ↦ get_or-set_other before at k x x away ∙ get_or-map-range_with_len f 0 n k k x lt (omega arith) ∙ same k lt away
    ])

-- ---- one list made of another, element by element

-- Of the list that f makes over a range these are gone by and these are left, and the list that g makes has come as far.
pub record IsMade {X Y : Type 0} (f : ℕ → X) (g : ℕ → Y) (n : ℕ) (yielded rest : List X) (made : List Y) : Type 0 where
  pub made_is : made ≡ map g (range_with_len 0 (length yielded))
  pub left : yielded ++ rest ≡ map f (range_with_len 0 n)

module _ {X Y : Type 0} {f : ℕ → X} {g : ℕ → Y} {n : ℕ} {yielded rest : List X} {made : List Y} (is : IsMade f g n yielded rest made) where
  pub made_long : length made ≡ length yielded
  made_long = omega (arith, ap length is.made_is, length-map-range_with_len g 0 (length yielded))

  module _ {x : X} {more : List X} (next : rest ≡ x ∷ more) where
    split : yielded ++ x ∷ more ≡ map f (range_with_len 0 n)
    split = ap (λ (rest : List X). yielded ++ rest) (sym next) ∙ is.left

    pub next_within : length yielded < n
    next_within = omega (arith, ap length split, length-append yielded (x ∷ more), length-map-range_with_len f 0 n)

    pub next_is : x ≡ f (length yielded)
    next_is =
        sym (get_or-append_seam yielded x more x) ∙ ap (λ (xs : List X). get_or xs (length yielded) x) split
        ∙ get_or-map-range_with_len f 0 n (length yielded) (length yielded) x next_within (omega arith)

    pub made_more : {y : Y} {new : List Y} → y ≡ g (length yielded) → new ≡ made ++ y ∷ [] → IsMade f g n (yielded ++ x ∷ []) more new
    made_more {y} {new} y_is pushed = record {
      made_is =
          pushed ∙ ap (λ (made : List Y). made ++ y ∷ []) is.made_is ∙ ap (λ y. map g (range_with_len 0 (length yielded)) ++ y ∷ []) y_is
          ∙ sym (map-range_with_len_more g 0 (length yielded) (length yielded) (omega arith)) ∙ ap (λ n. map g (range_with_len 0 n)) (sym (length-append yielded (x ∷ [])));
      left = append_assoc yielded (x ∷ []) more ∙ split;
    }

  pub made_all : length rest ≡ 0 → made ≡ map g (range_with_len 0 n)
  made_all ended =
      let all : length yielded ≡ n = omega (arith, ap length is.left, length-append yielded rest, length-map-range_with_len f 0 n) in
      is.made_is ∙ ap (λ n. map g (range_with_len 0 n)) all
