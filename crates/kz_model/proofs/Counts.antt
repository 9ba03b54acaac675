-- Counts over the images of a list.
use Rattle.std.proofs.Common.{◌≡◌, Bool, cond, List, [], ◌∷◌, map, refl, arith}
use Rattle.std.specs.Prelude.{count_by}
use Rattle.std.proofs.lemmas.List.Sums.{sum_by-cons}

pub count_by-map : {X Y : Type 0} (q : Y → Bool) (f : X → Y) (xs : List X) → count_by q (map f xs) ≡ count_by (λ x. q (f x)) xs
count_by-map q f [] = refl
count_by-map q f (x ∷ xs) = omega (arith, count_by-map q f xs, sum_by-cons (λ y. cond (q y) 1 0) (f x) (map f xs), sum_by-cons (λ y. cond (q (f y)) 1 0) x xs)
