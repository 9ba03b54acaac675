-- Step lines, by the words of a line.
use Rattle.std.specs.Prelude.{ℕ, ◌-◌, ◌&&◌, if◌then◌else◌, List, [], ◌∷◌, codes, Option, Some, None}
use Rattle.kz_model.specs.declared.grammar.Mark.{Mark}
use Rattle.kz_model.specs.declared.grammar.Mark.TheVariants.{Fine}
use Rattle.kz_model.specs.Grammar.Tokens.{is, is_name, is_run, is_hex, bytes_of_hex, number_in, worse}

-- what a step line says, its names and types as texts
pub data NamedStep : Type 0 where
  Alloc : List ℕ → List ℕ → NamedStep  -- `a NAME TYPE`
  AllocZero : List ℕ → List ℕ → NamedStep  -- `z NAME TYPE`
  Free : List ℕ → NamedStep  -- `f NAME`
  FreeAs : List ℕ → List ℕ → NamedStep  -- `f NAME TYPE`
  Give : List ℕ → ℕ → NamedStep  -- `g NAME N`
  Take : List ℕ → NamedStep  -- `t NAME`
  Read : List ℕ → ℕ → ℕ → NamedStep  -- `r NAME OFF LEN`
  Write : List ℕ → ℕ → List ℕ → NamedStep  -- `w NAME OFF HEX`
  Flush : List ℕ → NamedStep  -- `flush TYPE`
  Trim : List ℕ → NamedStep  -- `trim TYPE`

-- `WORD N`, with N from low to high
abbrev pub number_line : List ℕ → ℕ → ℕ → List (List ℕ) → Option (ℕ × Mark)
number_line word low high (w ∷ n ∷ []) = if is word w && is_run n then Some (number_in low high n) else None
number_line word low high words = None

-- step lines of two, three and four words
abbrev pub step_of_2 : List ℕ → List ℕ → Option (NamedStep × Mark)
step_of_2 w x =
    if is (codes "f") w && is_name x then Some (Free x, Fine)
    else if is (codes "t") w && is_name x then Some (Take x, Fine)
    else if is (codes "flush") w && is_name x then Some (Flush x, Fine)
    else if is (codes "trim") w && is_name x then Some (Trim x, Fine)
    else None

abbrev pub gives : List ℕ → ℕ × Mark → NamedStep × Mark
gives x to = (Give x to.0, to.1)

abbrev pub step_of_3 : ℕ → List ℕ → List ℕ → List ℕ → Option (NamedStep × Mark)
step_of_3 cpus w x y =
    if is (codes "a") w && is_name x && is_name y then Some (Alloc x y, Fine)
    else if is (codes "z") w && is_name x && is_name y then Some (AllocZero x y, Fine)
    else if is (codes "f") w && is_name x && is_name y then Some (FreeAs x y, Fine)
    else if is (codes "g") w && is_name x && is_run y then Some (gives x (number_in 0 (cpus - 1) y))
    else None

abbrev pub reads : List ℕ → ℕ × Mark → ℕ × Mark → NamedStep × Mark
reads x off len = (Read x off.0 len.0, worse off.1 len.1)

abbrev pub writes : List ℕ → ℕ × Mark → List ℕ → NamedStep × Mark
writes x off hex = (Write x off.0 (bytes_of_hex hex), off.1)

abbrev pub step_of_4 : List ℕ → List ℕ → List ℕ → List ℕ → Option (NamedStep × Mark)
step_of_4 w x y v =
    if is (codes "r") w && is_name x && is_run y && is_run v then Some (reads x (number_in 0 8191 y) (number_in 1 32 v))
    else if is (codes "w") w && is_name x && is_run y && is_hex v then Some (writes x (number_in 0 8191 y) v)
    else None

-- a step line, with what is wrong with its numbers
abbrev pub step_line : ℕ → List (List ℕ) → Option (NamedStep × Mark)
step_line cpus (w ∷ x ∷ []) = step_of_2 w x
step_line cpus (w ∷ x ∷ y ∷ []) = step_of_3 cpus w x y
step_line cpus (w ∷ x ∷ y ∷ v ∷ []) = step_of_4 w x y v
step_line cpus words = None
