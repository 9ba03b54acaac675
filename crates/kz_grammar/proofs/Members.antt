-- What a list contains, and tests that ask for it.
use Rattle.std.proofs.Common.{◌≡◌, ◌⊎◌, inl, inr, ⊎_elim, ℕ, zero, suc, true, false, Bool, List, [], ◌∷◌, refl, ap, sym, ◌∙◌, arith, subst, true≢false}
use Rattle.std.specs.Prelude.{Contains}
use Rattle.std.proofs.lemmas.Bool.{or_cases, or_parts}
use Rattle.std.specs.Cmp.Lexicographic.{bytes_decides}
use Rattle.std.specs.Str.{bytes_eq}
use Rattle.std.specs.List.{list_any}
use Rattle.kz_model.specs.Grammar.Stages.{has}
use Rattle.kz_model.specs.Types.Layouts.{has as has_name}

-- ---- the first of a list, and the others

pub contains_first : {A : Type 0} (x : A) (xs : List A) → Contains (x ∷ xs) x
contains_first x xs = (0, omega arith, refl)

pub contains_later : {A : Type 0} (y : A) (xs : List A) (x : A) → Contains xs x → Contains (y ∷ xs) x
contains_later y xs x at = (suc at.0, omega (arith, at.1), at.2)

pub contains_cases : {A : Type 0} (y : A) (xs : List A) (x : A) → Contains (y ∷ xs) x → (y ≡ x) ⊎ Contains xs x
contains_cases y xs x (zero, lt, here) = inl here
contains_cases y xs x (suc k, lt, here) = inr (k, omega (arith, lt), here)

pub contains_none : {A P : Type 0} (x : A) → Contains [] x → P
contains_none x at = absurd (omega (arith, at.1))

-- ---- a text among texts

-- one passes a test that is for this name alone
among : (test : List ℕ → Bool) (name : List ℕ) → ((other : List ℕ) → test other ≡ true → other ≡ name) → (names : List (List ℕ)) → list_any test names ≡ true → Contains names name
among test name is [] e = absurd (true≢false (sym e))
among test name is (other ∷ names) e =
    ⊎_elim
    (λ here. subst (Contains (other ∷ names)) (is other here) (contains_first other names))
    (λ later. contains_later other names name (among test name is names later))
    (or_cases (test other) (list_any test names) e)

not_among : (test : List ℕ → Bool) (name : List ℕ) → test name ≡ true → (names : List (List ℕ)) → list_any test names ≡ false → ¬ Contains names name
not_among test name is [] e at = contains_none name at
not_among test name is (other ∷ names) e at =
    let parts = or_parts (test other) (list_any test names) e in
    ⊎_elim
    (λ here. absurd (true≢false (sym (ap test here ∙ is) ∙ parts.0)))
    (λ later. not_among test name is names parts.1 later)
    (contains_cases other names name at)

pub is_among : (name : List ℕ) (names : List (List ℕ)) → has name names ≡ true → Contains names name
is_among name names e = among (λ other. bytes_eq other name) name (λ other here. (bytes_decides other name).0 here) names e

pub is_not_among : (name : List ℕ) (names : List (List ℕ)) → has name names ≡ false → ¬ Contains names name
is_not_among name names e = not_among (λ other. bytes_eq other name) name ((bytes_decides name name).1 refl) names e

-- the same by the test of the layouts
pub is_named : (name : List ℕ) (names : List (List ℕ)) → has_name name names ≡ true → Contains names name
is_named name names e = among (bytes_eq name) name (λ other here. sym ((bytes_decides name other).0 here)) names e

pub is_not_named : (name : List ℕ) (names : List (List ℕ)) → has_name name names ≡ false → ¬ Contains names name
is_not_named name names e = not_among (bytes_eq name) name ((bytes_decides name name).1 refl) names e
