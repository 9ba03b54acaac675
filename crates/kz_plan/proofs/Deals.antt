-- The deals, one group after another.
use Rattle.std.proofs.Common.{◌≡◌, ℕ, ◌+◌, ◌<◌, List, ◌∷◌, length, drop, sum, refl, ap, sym, ◌∙◌, arith, add-one, drop-cons}
use Rattle.std.proofs.Math.ListN.{get_or}
use Rattle.std.proofs.lemmas.List.Sums.{sum_by-cons}
use Rattle.kz_model.specs.Types.Plan.{Group, Deal, deals_from}

pub from_place : {A : Type 0} (xs : List A) (i : ℕ) (d : A) → i < length xs → drop i xs ≡ get_or xs i d ∷ drop (i + 1) xs
from_place xs i d inside = rw (add-one, drop-cons xs i d) refl

-- the zones of the class at this place, and of those after it
pub sum-from : (parts : List ℕ) (i : ℕ) → i < length parts → sum (drop i parts) ≡ get_or parts i 0 + sum (drop (i + 1) parts)
sum-from parts i inside = ap sum (from_place parts i 0 inside) ∙ sum_by-cons (λ (x : ℕ). x) (get_or parts i 0) (drop (i + 1) parts)

-- the deal of the class at this place, and those after it
pub deals_from-next : (first i : ℕ) (groups : List Group) (parts : List ℕ) (group : Group) → i < length groups → length parts ≡ length groups → group ≡ get_or groups i group →
    deals_from first (drop i groups) (drop i parts)
    ≡ record { class = group.class; first = first; zones = get_or parts i 0; order = group.order } ∷ deals_from (first + get_or parts i 0) (drop (i + 1) groups) (drop (i + 1) parts)
deals_from-next first i groups parts group inside together at =
    let deal : Group → Deal = λ (g : Group). record { class = g.class; first = first; zones = get_or parts i 0; order = g.order } in
    ap (λ gs. deals_from first gs (drop i parts)) (from_place groups i group inside)
    ∙ ap (deals_from first (get_or groups i group ∷ drop (i + 1) groups)) (from_place parts i 0 (omega arith))
    ∙ ap (λ g. deal g ∷ deals_from (first + get_or parts i 0) (drop (i + 1) groups) (drop (i + 1) parts)) (sym at)
