-- What the steps of a made bundle say.
use Rattle.std.proofs.Common.{◌≡◌, ◌≢◌, ℕ, zero, suc, ◌+◌, ◌*◌, ◌/◌, ◌%◌, ◌^◌, ◌<◌, ◌≤◌, ◌==◌, Bool, true, false, nat_lt, if◌then◌else◌, List, [], ◌∷◌, ◌++◌, length, All, refl, ap, sym, ◌∙◌, arith, length-append}
use Rattle.std.specs.Option.{IfSome}
use Rattle.std.proofs.lemmas.List.Elements.{All-nil, All-cons, All-append}
use Rattle.kz_model.specs.Grammar.Steps.{NamedStep, Alloc, AllocZero, Free, FreeAs, Give, Take, Read, Write, Flush, Trim}
use Rattle.kz_model.specs.Grammar.Spelling.{IsName, IsNamedStep, IsPieceByte}
use Rattle.kz_model.specs.Grammar.Stages.{binds, type_in, name_in, gives_to}
use Rattle.kz_model.specs.Text.Made.{names_count, drawn_count, drawn, name_text, type_text, type_of_made, four_bytes, named_step_by, named_step_made, steps_drawn, names_allocated, first_round, rounds_drawn}
use Rattle.kz_make.proofs.Counts.{names_are, drawn_are}
use Rattle.kz_make.proofs.Naming.{name_is_name, type_is_name}
use Rattle.kz_make.proofs.Leading.{steps_of}

-- a CPU's name with its type
pub record IsBoundBy (cpu : ℕ) (name of : List ℕ) : Type 0 where
  pub k : ℕ
  pub few : k < 250
  pub name_is : name ≡ name_text cpu k
  pub type_is : of ≡ type_of_made cpu k

pub record IsTypeOfMade (of : List ℕ) : Type 0 where
  pub t : ℕ
  pub few : t < 40
  pub type_is : of ≡ type_text t

pub record IsNameOfMade (name : List ℕ) : Type 0 where
  pub cpu : ℕ
  pub k : ℕ
  pub few_cpus : cpu < 4
  pub few : k < 250
  pub name_is : name ≡ name_text cpu k

-- a step of this CPU: it may stand, it binds the CPU's names with their types, it has types and names of the bundle, and it gives to another CPU
pub record IsStepOf (cpu : ℕ) (step : NamedStep) : Type 0 where
  pub said : IsNamedStep 4 step
  pub bound : IfSome (binds step) (λ b. IsBoundBy cpu b.0 b.1)
  pub of : IfSome (type_in step) IsTypeOfMade
  pub name : IfSome (name_in step) IsNameOfMade
  pub gives : IfSome (gives_to step) (λ to. to ≢ cpu)

all_bytes : (a b c d : ℕ) → a < 256 → b < 256 → c < 256 → d < 256 → All IsPieceByte (a ∷ b ∷ c ∷ d ∷ [])
all_bytes a b c d e f g h = All-cons IsPieceByte a (b ∷ c ∷ d ∷ []) e (All-cons IsPieceByte b (c ∷ d ∷ []) f (All-cons IsPieceByte c (d ∷ []) g (All-cons IsPieceByte d [] h (All-nil IsPieceByte))))

four_are_bytes : (w : ℕ) → All IsPieceByte (four_bytes w)
four_are_bytes w = all_bytes (w / 16777216 % 256) (w / 65536 % 256) (w / 256 % 256) (w % 256) (omega arith) (omega arith) (omega arith) (omega arith)

module _ (cpu : ℕ) (few_cpus : cpu < 4) where
  either : (test : Bool) (one other : NamedStep) → IsStepOf cpu one → IsStepOf cpu other → IsStepOf cpu (if test then one else other)
  either true one other is_one is_other = is_one
  either false one other is_one is_other = is_other

  module _ (k : ℕ) (few : k < 250) where
    the_name : IsNameOfMade (name_text cpu k)
    the_name = record { cpu = cpu; k = k; few_cpus = few_cpus; few = few; name_is = refl }

    the_type : IsTypeOfMade (type_of_made cpu k)
    the_type = record { t = (250 * cpu + k) % 40; few = omega arith; type_is = refl }

    the_bound : IsBoundBy cpu (name_text cpu k) (type_of_made cpu k)
    the_bound = record { k = k; few = few; name_is = refl; type_is = refl }

    its_name : IsName (name_text cpu k)
    its_name = name_is_name cpu k few_cpus (omega arith)

    its_type : IsName (type_of_made cpu k)
    its_type = type_is_name ((250 * cpu + k) % 40) (omega arith)

    pub is_alloc : IsStepOf cpu (Alloc (name_text cpu k) (type_of_made cpu k))
    is_alloc = record { said = (its_name, its_type); bound = the_bound; of = the_type; name = the_name; gives = tt }

    is_alloc_zero : IsStepOf cpu (AllocZero (name_text cpu k) (type_of_made cpu k))
    is_alloc_zero = record { said = (its_name, its_type); bound = the_bound; of = the_type; name = the_name; gives = tt }

    is_free : IsStepOf cpu (Free (name_text cpu k))
    is_free = record { said = its_name; bound = tt; of = tt; name = the_name; gives = tt }

    is_free_as : IsStepOf cpu (FreeAs (name_text cpu k) (type_of_made cpu k))
    is_free_as = record { said = (its_name, its_type); bound = tt; of = the_type; name = the_name; gives = tt }

    is_give : IsStepOf cpu (Give (name_text cpu k) ((cpu + 1) % 4))
    is_give = record { said = (its_name, (omega arith, omega arith)); bound = tt; of = tt; name = the_name; gives = λ same. omega (arith, same) }

    is_take : IsStepOf cpu (Take (name_text ((cpu + 3) % 4) k))
    is_take = record {
      said = name_is_name ((cpu + 3) % 4) k (omega arith) (omega arith);
      bound = tt;
      of = tt;
      name = record { cpu = (cpu + 3) % 4; k = k; few_cpus = omega arith; few = few; name_is = refl };
      gives = tt;
    }

    is_read : IsStepOf cpu (Read (name_text cpu k) 0 8)
    is_read = record { said = (its_name, (omega arith, omega arith), (omega arith, omega arith)); bound = tt; of = tt; name = the_name; gives = tt }

    is_write : (w : ℕ) → IsStepOf cpu (Write (name_text cpu k) 0 (four_bytes w))
    is_write w = record { said = (its_name, (omega arith, omega arith), (omega arith, omega arith), four_are_bytes w); bound = tt; of = tt; name = the_name; gives = tt }

    is_flush : IsStepOf cpu (Flush (type_of_made cpu k))
    is_flush = record { said = its_type; bound = tt; of = the_type; name = tt; gives = tt }

    is_trim : IsStepOf cpu (Trim (type_of_made cpu k))
    is_trim = record { said = its_type; bound = tt; of = the_type; name = tt; gives = tt }

    is_step_by : (w n : ℕ) → IsStepOf cpu (named_step_by cpu k w n)
    is_step_by w n =
        either (nat_lt n 6) _ _ is_alloc
        (either (nat_lt n 10) _ _ is_free
        (either (n == 10) _ _ is_alloc_zero
        (either (n == 11) _ _ is_read
        (either (n == 12) _ _ (is_write w)
        (either (n == 13) _ _ is_give
        (either (n == 14) _ _ is_take
        (either (w % 32 == 0) _ _ is_trim
        (either (w % 32 == 1) _ _ is_flush is_free_as))))))))

  pub steps_are : (number j more : ℕ) → All (IsStepOf cpu) (steps_drawn number cpu j more)
  steps_are number j zero = All-nil (IsStepOf cpu)
  steps_are number j (suc more) =
      All-cons (IsStepOf cpu) (named_step_made cpu (drawn number j) (drawn number (j + 1)) (drawn number (j + 2))) (steps_drawn number cpu (j + 3) more)
      (is_step_by (drawn number j % 250) (omega arith) (drawn number (j + 2)) (drawn number (j + 1) % 16)) (steps_are number (j + 3) more)

  pub allocations_are : (k more : ℕ) → k + more ≤ 250 → All (IsStepOf cpu) (names_allocated cpu k more)
  allocations_are k zero few = All-nil (IsStepOf cpu)
  allocations_are k (suc more) few =
      All-cons (IsStepOf cpu) (Alloc (name_text cpu k) (type_of_made cpu k)) (names_allocated cpu (k + 1) more) (is_alloc k (omega (arith, few))) (allocations_are (k + 1) more (omega (arith, few)))

  pub first_are : (number j : ℕ) → All (IsStepOf cpu) (first_round number cpu j)
  first_are number j = All-append (IsStepOf cpu) (names_allocated cpu 0 names_count) (steps_drawn number cpu j drawn_count) (allocations_are 0 names_count (omega (arith, names_are))) (steps_are number j drawn_count)

  pub later_are : (number j more : ℕ) → All (All (IsStepOf cpu)) (rounds_drawn number cpu j more)
  later_are number j zero = All-nil (All (IsStepOf cpu))
  later_are number j (suc more) = All-cons (All (IsStepOf cpu)) (steps_drawn number cpu j drawn_count) (rounds_drawn number cpu (j + 15000) more) (steps_are number j drawn_count) (later_are number (j + 15000) more)

-- ---- how many there are

pub length-steps_drawn : (number cpu j more : ℕ) → length (steps_drawn number cpu j more) ≡ more
length-steps_drawn number cpu j zero = refl
length-steps_drawn number cpu j (suc more) = ap suc (length-steps_drawn number cpu (j + 3) more)

pub length-names_allocated : (cpu k more : ℕ) → length (names_allocated cpu k more) ≡ more
length-names_allocated cpu k zero = refl
length-names_allocated cpu k (suc more) = ap suc (length-names_allocated cpu (k + 1) more)

pub length-first_round : (number cpu j : ℕ) → length (first_round number cpu j) ≡ names_count + drawn_count
length-first_round number cpu j =
    omega (arith, length-append (names_allocated cpu 0 names_count) (steps_drawn number cpu j drawn_count), length-steps_drawn number cpu j drawn_count, length-names_allocated cpu 0 names_count)
