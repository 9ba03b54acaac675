-- The journal of a zone that one CPU visits in one round.
use Rattle.std.proofs.Common.{◌≡◌, ℕ, ◌+◌, ◌≤◌, ◌==◌, Bool, true, nat_le, List, [], ◌∷◌, ◌++◌, length, take, drop, map, Some, refl, ap, sym, ◌∙◌, arith, add-zero}
use Rattle.std.proofs.Math.Seq.{take-add}
use Rattle.std.proofs.lemmas.List.{drop-drop, map-append}
use Rattle.kz_model.specs.declared.bundle.Bundle.{Bundle}
use Rattle.kz_model.specs.declared.step.Step.{Step}
use Rattle.kz_model.specs.declared.record.Plan.{Plan}
use Rattle.kz_model.specs.declared.record.Visit.{Visit}
use Rattle.kz_model.specs.Run.Journal.{steps_of, carried, spell_after}

-- a visit of this CPU in this round
abbrev pub visit_of : ℕ → ℕ → ℕ × Bool → Visit
visit_of cpu round v = record { round = round; cpu = cpu; count = v.0; settled = v.1 }

-- how many steps such visits carry
abbrev pub count_of : List (ℕ × Bool) → ℕ
count_of [] = 0
count_of (v ∷ visits) = v.0 + count_of visits

same_number : (n : ℕ) → (n == n) ≡ true
same_number n = grind arith

pub carried-visits : (cpu round : ℕ) (visits : List (ℕ × Bool)) → carried cpu round (map (visit_of cpu round) visits) ≡ count_of visits
carried-visits cpu round [] = refl
carried-visits cpu round (v ∷ visits) = rw (same_number cpu, same_number round) (ap (λ n. v.0 + n) (carried-visits cpu round visits))

pub carried-append : (cpu round : ℕ) (xs ys : List Visit) → carried cpu round (xs ++ ys) ≡ carried cpu round xs + carried cpu round ys
carried-append cpu round [] ys = omega arith
carried-append cpu round (x ∷ xs) ys = omega (arith, carried-append cpu round xs ys)

within : (n m : ℕ) → n ≤ m → nat_le n m ≡ true
within n m h = grind arith

-- such visits are spelled by the CPU's next steps
pub spell_after-visits : (b : Bundle) (plan : Plan) (zone cpu round : ℕ) (earlier : List Visit) (visits : List (ℕ × Bool)) →
    let steps = steps_of b plan cpu zone round in
    carried cpu round earlier + count_of visits ≤ length steps →
    spell_after b plan zone earlier (map (visit_of cpu round) visits) ≡ Some (map (λ step. (cpu, step)) (take (count_of visits) (drop (carried cpu round earlier) steps)))
spell_after-visits b plan zone cpu round earlier [] h = refl
spell_after-visits b plan zone cpu round earlier (v ∷ visits) h =
    let steps = steps_of b plan cpu zone round in
    let m = carried cpu round earlier in
    let one : carried cpu round (earlier ++ visit_of cpu round v ∷ []) ≡ m + v.0 =
    carried-append cpu round earlier _ ∙ ap (λ n. m + n) (carried-visits cpu round (v ∷ []) ∙ add-zero v.0) in
    let more = spell_after-visits b plan zone cpu round (earlier ++ visit_of cpu round v ∷ []) visits (omega (arith, one)) in
    let fits : nat_le (m + v.0) (length steps) ≡ true = within _ _ (omega arith) in
    rw (fits, more, one)
    (ap (λ (xs : List (ℕ × Step)). Some xs) (sym (map-append (λ step. (cpu, step)) (take v.0 (drop m steps)) (take (count_of visits) (drop (m + v.0) steps)))
    ∙ ap (map (λ step. (cpu, step))) (ap (λ xs. take v.0 (drop m steps) ++ take (count_of visits) xs) (sym (drop-drop v.0 m steps)) ∙ sym (take-add v.0 (count_of visits) (drop m steps)))))
