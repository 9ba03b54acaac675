-- A property of the first of some faults, part by part.
use Rattle.std.proofs.Common.{◌≡◌, ◌≢◌, ℕ, ◌<◌, ◌≤◌, ◌==◌, Bool, true, false, not, List, length, Option, Some, None, refl, sym, subst, arith}
use Rattle.std.specs.Option.{option_map_or, IfSome}
use Rattle.std.specs.Str.{bytes_eq}
use Rattle.std.specs.Cmp.Lexicographic.{bytes_decides}
use Rattle.kz_model.specs.declared.grammar.Cause.{Cause}
use Rattle.kz_model.specs.declared.grammar.Cause.TheVariants as cause
use Rattle.kz_model.specs.declared.grammar.Counted.TheVariants as counted
use Rattle.kz_model.specs.declared.grammar.Refusal.{Refusal}
use Rattle.kz_model.specs.Grammar.Stages.{else_fault, fault_if, Row, row_of, bound_fault}

abbrev pub refusal_at : ℕ → Cause → Option Refusal
refusal_at line cause = Some (record { line = line; cause = cause })

-- a test that finds a fault, or what holds behind it
pub test_then : (P : Option Refusal → Type 0) (wrong : Bool) (line : ℕ) (cause : Cause) (rest : Option Refusal) →
    (wrong ≡ true → P (refusal_at line cause)) → (wrong ≡ false → P rest) → P (else_fault (fault_if wrong line cause) rest)
test_then P true line cause rest f g = f refl
test_then P false line cause rest f g = g refl

pub test_alone : (P : Option Refusal → Type 0) (wrong : Bool) (line : ℕ) (cause : Cause) →
    (wrong ≡ true → P (refusal_at line cause)) → (wrong ≡ false → P None) → P (fault_if wrong line cause)
test_alone P true line cause f g = f refl
test_alone P false line cause f g = g refl

-- a test of the value, where there is one
pub test_first : {A : Type 0} (P : Option Refusal → Type 0) (o : Option A) (test : A → Bool) (line : ℕ) (cause : Cause) (rest : Option Refusal) →
    ((a : A) → o ≡ Some a → test a ≡ true → P (refusal_at line cause)) → (((a : A) → o ≡ Some a → test a ≡ false) → P rest) →
    P (else_fault (option_map_or (λ a. fault_if (test a) line cause) o None) rest)
test_first P None test line cause rest f g = g (λ a e. absurd (cc))
test_first {A} P (Some a) test line cause rest f g =
    test_then P (test a) line cause rest (λ wrong. f a refl wrong) (λ fine. g (λ b same. subst (λ (x : A). test x ≡ false) (found_same a b same) fine))
  where
    found_same : (a b : A) → Some a ≡ Some b → a ≡ b
    found_same a b e = cc

-- the same where nothing is behind it
pub test_last : {A : Type 0} (P : Option Refusal → Type 0) (o : Option A) (test : A → Bool) (line : ℕ) (cause : Cause) →
    ((a : A) → o ≡ Some a → test a ≡ true → P (refusal_at line cause)) → (((a : A) → o ≡ Some a → test a ≡ false) → P None) →
    P (option_map_or (λ a. fault_if (test a) line cause) o None)
test_last {A} P o test line cause f g = subst P (else_none (option_map_or (λ a. fault_if (test a) line cause) o None)) (test_first P o test line cause None f g)
  where
    else_none : (o : Option Refusal) → else_fault o None ≡ o
    else_none None = refl
    else_none (Some refusal) = refl

pub if_some : {A : Type 0} (o : Option A) (Q : A → Type 0) → ((a : A) → o ≡ Some a → Q a) → IfSome o Q
if_some None Q f = tt
if_some (Some a) Q f = f a refl

-- ---- what a line binds

-- what is bound suits the rows so far: there is room, or the row has that type and CPU
abbrev pub SuitsRow : List Row → ℕ → List ℕ × List ℕ → Option Row → Type 0
SuitsRow rows cpu bound None = length rows < 100000
SuitsRow rows cpu bound (Some row) = (row.of ≡ bound.1) × (row.cpu ≡ cpu)

pub bound_first : (P : Option Refusal → Type 0) (rows : List Row) (line cpu : ℕ) (o : Option (List ℕ × List ℕ)) (rest : Option Refusal) → length rows ≤ 100000 →
    ((bound : List ℕ × List ℕ) (row : Row) → o ≡ Some bound → row_of bound.0 rows ≡ Some row → bytes_eq row.of bound.1 ≡ false → P (refusal_at line cause.NameOfTwoTypes)) →
    ((bound : List ℕ × List ℕ) (row : Row) → o ≡ Some bound → row_of bound.0 rows ≡ Some row → row.of ≡ bound.1 → row.cpu ≢ cpu → P (refusal_at line cause.NameOfTwoCpus)) →
    ((bound : List ℕ × List ℕ) → o ≡ Some bound → row_of bound.0 rows ≡ None → length rows ≡ 100000 → P (refusal_at line (cause.TooMany counted.Names))) →
    (((bound : List ℕ × List ℕ) → o ≡ Some bound → SuitsRow rows cpu bound (row_of bound.0 rows)) → P rest) →
    P (else_fault (bound_fault rows line cpu o) rest)
bound_first P rows line cpu None rest few types cpus many fine = fine (λ bound e. absurd (cc))
bound_first P rows line cpu (Some bound) rest few types cpus many fine =
    elim (row_of bound.0 rows) as (λ found. row_of bound.0 rows ≡ found → P (else_fault (option_map_or (λ row. else_fault (fault_if (not (bytes_eq row.of bound.1)) line cause.NameOfTwoTypes)
    (fault_if (not (row.cpu == cpu)) line cause.NameOfTwoCpus)) found (fault_if (length rows == 100000) line (cause.TooMany counted.Names))) rest)) [
      | None ↦ λ none. test_then P (length rows == 100000) line (cause.TooMany counted.Names) rest (λ full. many bound refl none (equal (length rows) full))
          (λ room. fine (suited (subst (SuitsRow rows cpu bound) (sym none) (below (length rows) few room))))
      | Some row ↦ λ found. subst P (regrouped (fault_if (not (bytes_eq row.of bound.1)) line cause.NameOfTwoTypes) (fault_if (not (row.cpu == cpu)) line cause.NameOfTwoCpus) rest)
          (test_then P (not (bytes_eq row.of bound.1)) line cause.NameOfTwoTypes (else_fault (fault_if (not (row.cpu == cpu)) line cause.NameOfTwoCpus) rest)
          (λ other. types bound row refl found (not_true (bytes_eq row.of bound.1) other))
          (λ same. let of : row.of ≡ bound.1 = (bytes_decides row.of bound.1).0 (not_false (bytes_eq row.of bound.1) same) in
          test_then P (not (row.cpu == cpu)) line cause.NameOfTwoCpus rest
          (λ other. cpus bound row refl found of (differ row.cpu cpu other))
          (λ one. fine (suited (subst (SuitsRow rows cpu bound) (sym found) (of, same_cpu row.cpu cpu one))))))
    ] refl
  where
    suited : SuitsRow rows cpu bound (row_of bound.0 rows) → (other : List ℕ × List ℕ) → Some bound ≡ Some other → SuitsRow rows cpu other (row_of other.0 rows)
    suited h other e = subst (λ (b : List ℕ × List ℕ). SuitsRow rows cpu b (row_of b.0 rows)) (found_same bound other e) h
      where
        found_same : (a b : List ℕ × List ℕ) → Some a ≡ Some b → a ≡ b
        found_same a b e = cc

    regrouped : (a b c : Option Refusal) → else_fault a (else_fault b c) ≡ else_fault (else_fault a b) c
    regrouped None b c = refl
    regrouped (Some refusal) b c = refl

    not_true : (b : Bool) → not b ≡ true → b ≡ false
    not_true true e = absurd (cc)
    not_true false e = refl

    not_false : (b : Bool) → not b ≡ false → b ≡ true
    not_false true e = refl
    not_false false e = absurd (cc)

    equal : (n : ℕ) → (n == 100000) ≡ true → n ≡ 100000
    equal n e = grind arith

    below : (n : ℕ) → n ≤ 100000 → (n == 100000) ≡ false → n < 100000
    below n few e = grind arith

    differ : (a b : ℕ) → not (a == b) ≡ true → a ≢ b
    differ a b e same = grind arith

    same_cpu : (a b : ℕ) → not (a == b) ≡ false → a ≡ b
    same_cpu a b e = grind arith
