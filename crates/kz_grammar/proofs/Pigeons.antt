-- Different texts that a list contains are no more than its length.
use Rattle.std.proofs.Common.{◌≡◌, ◌≢◌, ⊎_elim, ℕ, suc, ◌≤◌, List, [], ◌∷◌, ◌++◌, length, ap, sym, ◌∙◌, subst, arith, length-append}
use Rattle.std.specs.Prelude.{Contains}
use Rattle.std.proofs.lemmas.List.Elements.{Contains-append_cases, Contains-append_left, Contains-append_right}
use Rattle.kz_grammar.specs.Names.{AreDifferent}
use Rattle.kz_grammar.proofs.Members.{contains_first, contains_later, contains_cases, contains_none}

-- a list with one of its elements between the others
record IsBetween {A : Type 0} (xs : List A) (x : A) : Type 0 where
  before : List A
  after : List A
  parts : xs ≡ before ++ x ∷ after

between : {A : Type 0} (xs : List A) (x : A) → Contains xs x → IsBetween xs x
between [] x there = contains_none x there
between {A} (y ∷ xs) x there =
    ⊎_elim
    (λ (here : y ≡ x). record { before = []; after = xs; parts = ap (λ (z : A). z ∷ xs) here })
    (λ later. let rest = between xs x later in record { before = y ∷ rest.before; after = rest.after; parts = ap (λ (more : List A). y ∷ more) rest.parts })
    (contains_cases y xs x there)

-- another element is among the others
among_others : (before after : List (List ℕ)) (x y : List ℕ) → Contains (before ++ x ∷ after) y → x ≢ y → Contains (before ++ after) y
among_others before after x y there differ =
    ⊎_elim
    (λ first. Contains-append_left before after y first)
    (λ rest. ⊎_elim (λ here. absurd (differ here)) (λ later. Contains-append_right before after y later) (contains_cases x after y rest))
    (Contains-append_cases before (x ∷ after) y there)

first_differs : (x : List ℕ) (xs : List (List ℕ)) → AreDifferent (x ∷ xs) → (y : List ℕ) → Contains xs y → x ≢ y
first_differs x xs differ y there same = differ 0 (suc there.0) y (omega arith) (omega (arith, there.1)) (same ∙ sym there.2)

others_differ : (x : List ℕ) (xs : List (List ℕ)) → AreDifferent (x ∷ xs) → AreDifferent xs
others_differ x xs differ i j d lt le = differ (suc i) (suc j) d (omega (arith, lt)) (omega (arith, le))

pub no_more : (xs ys : List (List ℕ)) → AreDifferent xs → ((x : List ℕ) → Contains xs x → Contains ys x) → length xs ≤ length ys
no_more [] ys differ within = omega arith
no_more (x ∷ xs) ys differ within =
    let at = between ys x (within x (contains_first x xs)) in
    let rest = no_more xs (at.before ++ at.after) (others_differ x xs differ)
    (λ y there. among_others at.before at.after x y (subst (λ (zs : List (List ℕ)). Contains zs y) at.parts (within y (contains_later x xs y there))) (first_differs x xs differ y there)) in
    omega (arith, rest, ap (λ (zs : List (List ℕ)). length zs) at.parts, length-append at.before (x ∷ at.after), length-append at.before at.after)
