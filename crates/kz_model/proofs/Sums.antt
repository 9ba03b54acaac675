-- Sums over the numbers below one.
use Rattle.std.proofs.Common.{◌≡◌, ◌≢◌, ◌<◌, ◌≤◌, ℕ, zero, suc, ◌+◌, ◌==◌, true, false, map, sum, sum_by, refl, ap, sym, ◌∙◌, subst, arith}
use Rattle.std.specs.List.{range_with_len}
use Rattle.std.proofs.lemmas.List.Sums.{sum-map, sum_by_push}
use Rattle.kz_model.specs.Run.Rooms.{sum_below}
use Rattle.kz_model.proofs.TraceRounds.{range_push}

pub sum_below-same : (f g : ℕ → ℕ) (n : ℕ) → ((k : ℕ) → k < n → f k ≡ g k) → sum_below f n ≡ sum_below g n
sum_below-same f g zero same = refl
sum_below-same f g (suc n) same = omega (arith, sum_below-same f g n (λ k lt. same k (omega arith)), same n (omega arith))

pub sum_below-zero : (f : ℕ → ℕ) (n : ℕ) → ((k : ℕ) → k < n → f k ≡ 0) → sum_below f n ≡ 0
sum_below-zero f zero none = refl
sum_below-zero f (suc n) none = omega (arith, sum_below-zero f n (λ k lt. none k (omega arith)), none n (omega arith))

pub sum_below-le : (f g : ℕ → ℕ) (n : ℕ) → ((k : ℕ) → k < n → f k ≤ g k) → sum_below f n ≤ sum_below g n
sum_below-le f g zero le = omega arith
sum_below-le f g (suc n) le = omega (arith, sum_below-le f g n (λ k lt. le k (omega arith)), le n (omega arith))

-- one of the numbers is no more than the sum
pub sum_below-one : (f : ℕ → ℕ) (n at : ℕ) → at < n → f at ≤ sum_below f n
sum_below-one f zero at lt = absurd (omega arith)
sum_below-one f (suc n) at lt =
    elim (at == n) as (λ b. (at == n) ≡ b → f at ≤ sum_below f n + f n) [
      | true ↦ λ e. let is : at ≡ n = grind arith in let same : f at ≡ f n = ap f is in omega arith
      | false ↦ λ e. let below : at < n = grind arith in omega (arith, sum_below-one f n at below)
    ] refl

-- one number of the sum is another
pub sum_below-set : (f g : ℕ → ℕ) (n at : ℕ) → at < n → ((k : ℕ) → k < n → k ≢ at → g k ≡ f k) → sum_below g n + f at ≡ sum_below f n + g at
sum_below-set f g zero at lt same = absurd (omega arith)
sum_below-set f g (suc n) at lt same =
    elim (at == n) as (λ b. (at == n) ≡ b → sum_below g (suc n) + f at ≡ sum_below f (suc n) + g at) [
      | true ↦ λ e.
          let is : at ≡ n = grind arith in
          last is (sum_below-same g f n (λ k below. same k (omega arith) (λ k_is. absurd (omega arith))))
      | false ↦ λ e.
          let ne : at ≢ n = grind arith in
          omega (arith, sum_below-set f g n at (omega arith) (λ k below other. same k (omega arith) other), same n (omega arith) (λ n_is. absurd (omega arith)))
    ] refl
  where
    last : at ≡ n → sum_below g n ≡ sum_below f n → sum_below g (suc n) + f at ≡ sum_below f (suc n) + g at
    last is same = subst (λ n. sum_below g n ≡ sum_below f n → sum_below g (suc n) + f at ≡ sum_below f (suc n) + g at) is (λ same. omega (arith, same)) same

-- less in one place and no more in others
pub sum_below-lt : (f g : ℕ → ℕ) (n at : ℕ) → at < n → f at < g at → ((k : ℕ) → k < n → f k ≤ g k) → sum_below f n < sum_below g n
sum_below-lt f g zero at lt less le = absurd (omega arith)
sum_below-lt f g (suc n) at lt less le =
    elim (at == n) as (λ b. (at == n) ≡ b → sum_below f (suc n) < sum_below g (suc n)) [
      | true ↦ λ e.
          let is : at ≡ n = grind arith in
          let last : f n < g n = subst (λ k. f k < g k) is less in
          omega (arith, sum_below-le f g n (λ k below. le k (omega arith)), last)
      | false ↦ λ e.
          let ne : at ≢ n = grind arith in
          omega (arith, sum_below-lt f g n at (omega arith) less (λ k below. le k (omega arith)), le n (omega arith))
    ] refl

-- the sum over a range
pub sum_range : (f : ℕ → ℕ) (n : ℕ) → sum (map f (range_with_len 0 n)) ≡ sum_below f n
sum_range f zero = refl
sum_range f (suc n) =
    let before : sum_by f (range_with_len 0 n) ≡ sum_below f n = sym (sum-map f (range_with_len 0 n)) ∙ sum_range f n in
    let more : n + 1 ≡ suc n = omega arith in
    let at : 0 + n ≡ n = omega arith in
    sum-map f (range_with_len 0 (suc n))
    ∙ ap (λ n. sum_by f (range_with_len 0 n)) (sym more)
    ∙ ap (sum_by f) (range_push 0 n)
    ∙ sum_by_push f (range_with_len 0 n) (0 + n)
    ∙ ap (λ k. sum_by f (range_with_len 0 n) + f k) at
    ∙ ap (λ m. m + f n) before
