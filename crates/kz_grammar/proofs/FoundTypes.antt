-- Where a struct's type is declared: before, here or later, or nowhere.
use Rattle.std.proofs.Common.{◌≡◌, ⊎_elim, ℕ, ◌+◌, ◌<◌, ◌≤◌, false, List, [], ◌∷◌, ◌++◌, length, Option, Some, None, sym, ◌∙◌, subst, arith, true≢false}
use Rattle.std.specs.Prelude.{Contains}
use Rattle.std.specs.List.{position_from}
use Rattle.std.specs.Str.{bytes_eq}
use Rattle.std.specs.Cmp.Lexicographic.{bytes_decides}
use Rattle.std.proofs.lemmas.Bool.{cases_Bool, cond-true, cond-false}
use Rattle.kz_grammar.proofs.Members.{contains_first, contains_later, contains_cases, contains_none}

-- where a name stands among the earlier ones and the others, if it does
pub record IsPlace (name : List ℕ) (earlier others : List (List ℕ)) (at place : ℕ) : Type 0 where
  pub before : place < at + length earlier → Contains earlier name
  pub behind : at + length earlier ≤ place → Contains (earlier ++ others) name × ¬ Contains earlier name

abbrev pub PlaceSays : List ℕ → List (List ℕ) → List (List ℕ) → ℕ → Option ℕ → Type 0
PlaceSays name earlier others at None = ¬ Contains (earlier ++ others) name
PlaceSays name earlier others at (Some place) = (at ≤ place) × IsPlace name earlier others at place

not_in : (first name : List ℕ) (names : List (List ℕ)) → bytes_eq name first ≡ false → ¬ Contains names name → ¬ Contains (first ∷ names) name
not_in first name names n none there =
    ⊎_elim (λ here. true≢false (sym ((bytes_decides name first).1 (sym here)) ∙ n)) (λ later. none later) (contains_cases first names name there)

pub place_says : (name : List ℕ) (earlier others : List (List ℕ)) (at : ℕ) → PlaceSays name earlier others at (position_from (bytes_eq name) at (earlier ++ others))
place_says name [] [] at = λ there. contains_none name there
place_says name [] (first ∷ others) at =
    ⊎_elim
    (λ y. subst (PlaceSays name [] (first ∷ others) at) (sym (cond-true (bytes_eq name first) (Some at) (position_from (bytes_eq name) (at + 1) others) y)) (
      omega arith,
      record {
        before = λ lt. absurd (omega (arith, lt));
        behind = λ le. (subst (Contains (first ∷ others)) (sym ((bytes_decides name first).0 y)) (contains_first first others), λ there. contains_none name there);
      },
    ))
    (λ n. subst (PlaceSays name [] (first ∷ others) at) (sym (cond-false (bytes_eq name first) (Some at) (position_from (bytes_eq name) (at + 1) others) n))
    (later (position_from (bytes_eq name) (at + 1) others) n (place_says name [] others (at + 1))))
    (cases_Bool (bytes_eq name first))
  where
    later : (o : Option ℕ) → bytes_eq name first ≡ false → PlaceSays name [] others (at + 1) o → PlaceSays name [] (first ∷ others) at o
    later None n says = not_in first name others n says
    later (Some place) n says = (
      omega (arith, says.0),
      record {
        before = λ lt. absurd (omega (arith, lt, says.0));
        behind = λ le. (contains_later first others name (says.1.behind (omega (arith, says.0))).0, λ there. contains_none name there);
      },
    )
place_says name (first ∷ earlier) others at =
    ⊎_elim
    (λ y. subst (PlaceSays name (first ∷ earlier) others at) (sym (cond-true (bytes_eq name first) (Some at) (position_from (bytes_eq name) (at + 1) (earlier ++ others)) y)) (
      omega arith,
      record {
        before = λ lt. subst (Contains (first ∷ earlier)) (sym ((bytes_decides name first).0 y)) (contains_first first earlier);
        behind = λ le. absurd (omega (arith, le));
      },
    ))
    (λ n. subst (PlaceSays name (first ∷ earlier) others at) (sym (cond-false (bytes_eq name first) (Some at) (position_from (bytes_eq name) (at + 1) (earlier ++ others)) n))
    (later (position_from (bytes_eq name) (at + 1) (earlier ++ others)) n (place_says name earlier others (at + 1))))
    (cases_Bool (bytes_eq name first))
  where
    later : (o : Option ℕ) → bytes_eq name first ≡ false → PlaceSays name earlier others (at + 1) o → PlaceSays name (first ∷ earlier) others at o
    later None n says = not_in first name (earlier ++ others) n says
    later (Some place) n says = (
      omega (arith, says.0),
      record {
        before = λ lt. contains_later first earlier name (says.1.before (omega (arith, lt)));
        behind = λ le. let told = says.1.behind (omega (arith, le)) in (contains_later first (earlier ++ others) name told.0, not_in first name earlier n told.1);
      },
    )
