-- What a vector has after a write.
use Rattle.std.proofs.Common.{◌≡◌, ℕ, ◌∷◌, [], ◌++◌, List, length, take, drop, ap, ◌∙◌, append_assoc, arith}
use Rattle.std.proofs.lemmas.Grind.{common_steps}

-- a write of a whole list leaves that list
pub written : {A : Type 0} (n : ℕ) (old new : List A) → n ≡ length old → length new ≡ length old → take n (new ++ drop (length new) old) ≡ new
written n old new long same = grind (arith, common_steps)

-- a list that gets one more before those that are left
pub pushed : {A : Type 0} (old new left all : List A) (x : A) → new ≡ old ++ x ∷ [] → old ++ x ∷ left ≡ all → new ++ left ≡ all
pushed old new left all x is whole = ap (λ xs. xs ++ left) is ∙ append_assoc old (x ∷ []) left ∙ whole
