-- Steps that are the same with names read as texts are numbered alike.
use Rattle.std.proofs.Common.{◌≡◌, ℕ, ◌+◌, ◌==◌, Bool, true, false, not, if◌then◌else◌, List, [], ◌∷◌, map, ap, sym, refl, ◌∙◌}
use Rattle.std.specs.List.{AllByRecursion, filter}
use Rattle.std.proofs.lemmas.Bool.{eq-eqb, eqb-true}
use Rattle.kz_model.specs.declared.step.Step.{Step}
use Rattle.kz_model.specs.declared.step.Step.TheVariants.{Alloc, AllocZero, Free, Give, Take, Read, Write, Flush, Trim}
use Rattle.kz_laws.specs.Agreement.{names_in_step, onto_names, first_names, number_in, numbered}
use Rattle.kz_laws.specs.Renaming.{renamed_step, renamed_steps}
use Rattle.kz_laws.specs.Worlds.{text_of_name, HasSameText, SameTextsAreAlike}
use Rattle.kz_laws.proofs.WholeCourses.{all_weaker}

-- different ones of these names stay different
abbrev IsApartOn : (ℕ → ℕ) → (ℕ → Type 0) → Type 0
IsApartOn f P = (m n : ℕ) → P m → P n → (f m == f n) ≡ (m == n)

-- ---- the names of steps

filter_keeps : (P : ℕ → Type 0) (test : ℕ → Bool) (xs : List ℕ) → AllByRecursion P xs →
    AllByRecursion P (filter test xs)
filter_keeps P test [] h = tt
filter_keeps P test (x ∷ xs) h =
    elim (test x) as (λ t. AllByRecursion P (if t then x ∷ filter test xs else filter test xs)) [
      | true ↦ (h.0, filter_keeps P test xs h.1)
      | false ↦ filter_keeps P test xs h.1
    ]

onto_keeps : (P : ℕ → Type 0) (names more : List ℕ) → AllByRecursion P names → AllByRecursion P more →
    AllByRecursion P (onto_names names more)
onto_keeps P [] more here there = there
onto_keeps P (name ∷ names) more here there =
    let later = onto_keeps P names more here.1 there in
    (here.0, filter_keeps P (λ other. not (other == name)) (onto_names names more) later)

abbrev AreNamesOf : (ℕ → Type 0) → List (ℕ × Step) → Type 0
AreNamesOf P steps = AllByRecursion (λ step. AllByRecursion P (names_in_step step.1)) steps

first_keeps : (P : ℕ → Type 0) (steps : List (ℕ × Step)) → AreNamesOf P steps → AllByRecursion P (first_names steps)
first_keeps P [] h = tt
first_keeps P (step ∷ steps) h = onto_keeps P (names_in_step step.1) (first_names steps) h.0 (first_keeps P steps h.1)

-- ---- which names there are

abbrev is_in : ℕ → List ℕ → Bool
is_in name [] = false
is_in name (first ∷ names) = if name == first then true else is_in name names

in-filter : (m n : ℕ) (xs : List ℕ) → (m == n) ≡ false → is_in m xs ≡ true →
    is_in m (filter (λ other. not (other == n)) xs) ≡ true
in-filter m n [] ne h = h
in-filter m n (x ∷ xs) ne h =
    let rest = filter (λ other. not (other == n)) xs in
    elim (x == n) as (λ t. (x == n) ≡ t → is_in m (if not t then x ∷ rest else rest) ≡ true) [
      | true ↦ λ e.
          let other : (m == x) ≡ false = ap (λ k. m == k) (eqb-true x n e) ∙ ne in
          in-filter m n xs ne (sym (ap (λ t. if t then true else is_in m xs) other) ∙ h)
      | false ↦ λ e.
          elim (m == x) as (λ t. (if t then true else is_in m xs) ≡ true → (if t then true else is_in m rest) ≡ true) [
            | true ↦ λ h. refl
            | false ↦ λ h. in-filter m n xs ne h
          ] h
    ] refl

in-onto_more : (m : ℕ) (names more : List ℕ) → is_in m more ≡ true → is_in m (onto_names names more) ≡ true
in-onto_more m [] more h = h
in-onto_more m (name ∷ names) more h =
    let rest = filter (λ other. not (other == name)) (onto_names names more) in
    elim (m == name) as (λ t. (m == name) ≡ t → (if t then true else is_in m rest) ≡ true) [
      | true ↦ λ e. refl
      | false ↦ λ e. in-filter m name (onto_names names more) e (in-onto_more m names more h)
    ] refl

in-onto : (m : ℕ) (names more : List ℕ) → is_in m names ≡ true → is_in m (onto_names names more) ≡ true
in-onto m [] more h = absurd (cc)
in-onto m (name ∷ names) more h =
    let rest = filter (λ other. not (other == name)) (onto_names names more) in
    elim (m == name) as (λ t. (m == name) ≡ t → (if t then true else is_in m names) ≡ true →
    (if t then true else is_in m rest) ≡ true) [
      | true ↦ λ e h. refl
      | false ↦ λ e h. in-filter m name (onto_names names more) e (in-onto m names more h)
    ] refl h

all_in : (names : List ℕ) → AllByRecursion (λ m. is_in m names ≡ true) names
all_in [] = tt
all_in (name ∷ names) = (
  ap (λ t. if t then true else is_in name names) (eq-eqb name name refl),
  all_weaker (λ m. is_in m names ≡ true) (λ m. is_in m (name ∷ names) ≡ true) one_more names (all_in names),
)
  where
    one_more : (m : ℕ) → is_in m names ≡ true → is_in m (name ∷ names) ≡ true
    one_more m h =
        elim (m == name) as (λ t. (if t then true else is_in m names) ≡ true) [ true ↦ refl | false ↦ h ]

-- each name of steps is among their first names
names_in : (steps : List (ℕ × Step)) → AreNamesOf (λ m. is_in m (first_names steps) ≡ true) steps
names_in [] = tt
names_in (step ∷ steps) =
    let names = names_in_step step.1 in
    let In : ℕ → Type 0 = λ m. is_in m (onto_names names (first_names steps)) ≡ true in
    let Later : ℕ → Type 0 = λ m. is_in m (first_names steps) ≡ true in (
      all_weaker (λ m. is_in m names ≡ true) In (λ m h. in-onto m names (first_names steps) h) names (all_in names),
      all_weaker (λ (s : ℕ × Step). AllByRecursion Later (names_in_step s.1))
          (λ (s : ℕ × Step). AllByRecursion In (names_in_step s.1))
          (λ s. all_weaker Later In (λ m. in-onto_more m names (first_names steps)) (names_in_step s.1))
          steps (names_in steps),
    )

-- ---- the first names under other numbers

filter-renamed : (f : ℕ → ℕ) (P : ℕ → Type 0) → IsApartOn f P → (name : ℕ) (xs : List ℕ) → P name →
    AllByRecursion P xs →
    filter (λ other. not (other == f name)) (map f xs) ≡ map f (filter (λ other. not (other == name)) xs)
filter-renamed f P apart name [] here h = refl
filter-renamed f P apart name (x ∷ xs) here h =
    let left = filter (λ other. not (other == f name)) (map f xs) in
    let right = filter (λ other. not (other == name)) xs in
    ap (λ t. if not t then f x ∷ left else left) (apart x name h.0 here)
    ∙ ap (λ (l : List ℕ). if not (x == name) then f x ∷ l else l) (filter-renamed f P apart name xs here h.1)
    ∙ elim (x == name) as (λ t.
    (if not t then f x ∷ map f right else map f right) ≡ map f (if not t then x ∷ right else right)) [
      | true ↦ refl
      | false ↦ refl
    ]

onto-renamed : (f : ℕ → ℕ) (P : ℕ → Type 0) → IsApartOn f P → (names more : List ℕ) →
    AllByRecursion P names → AllByRecursion P more →
    onto_names (map f names) (map f more) ≡ map f (onto_names names more)
onto-renamed f P apart [] more here there = refl
onto-renamed f P apart (name ∷ names) more here there =
    ap (λ (l : List ℕ). f name ∷ filter (λ other. not (other == f name)) l)
    (onto-renamed f P apart names more here.1 there)
    ∙ ap (λ (l : List ℕ). f name ∷ l)
    (filter-renamed f P apart name (onto_names names more) here.0 (onto_keeps P names more here.1 there))

names_in_step-renamed : (f : ℕ → ℕ) (step : Step) → names_in_step (renamed_step f step) ≡ map f (names_in_step step)
names_in_step-renamed f (Alloc name) = refl
names_in_step-renamed f (AllocZero name) = refl
names_in_step-renamed f (Free name asked) = refl
names_in_step-renamed f (Give name to) = refl
names_in_step-renamed f (Take name) = refl
names_in_step-renamed f (Read name off len) = refl
names_in_step-renamed f (Write name off bytes) = refl
names_in_step-renamed f Flush = refl
names_in_step-renamed f Trim = refl

first_names-renamed : (f : ℕ → ℕ) (P : ℕ → Type 0) → IsApartOn f P → (steps : List (ℕ × Step)) → AreNamesOf P steps →
    first_names (renamed_steps f steps) ≡ map f (first_names steps)
first_names-renamed f P apart [] h = refl
first_names-renamed f P apart (step ∷ steps) h =
    ap (λ (l : List ℕ). onto_names l (first_names (renamed_steps f steps))) (names_in_step-renamed f step.1)
    ∙ ap (λ (l : List ℕ). onto_names (map f (names_in_step step.1)) l) (first_names-renamed f P apart steps h.1)
    ∙ onto-renamed f P apart (names_in_step step.1) (first_names steps) h.0 (first_keeps P steps h.1)

-- ---- numbers

number-renamed : (f : ℕ → ℕ) (P : ℕ → Type 0) → IsApartOn f P → (names : List ℕ) (n : ℕ) →
    AllByRecursion P names → P n →
    is_in n names ≡ true → number_in (map f names) (f n) ≡ number_in names n
number-renamed f P apart [] n h here there = absurd (cc)
number-renamed f P apart (x ∷ xs) n h here there =
    let left = number_in (map f xs) (f n) in
    ap (λ t. if t then 0 else 1 + left) (apart n x here h.0)
    ∙ elim (n == x) as (λ t. (if t then true else is_in n xs) ≡ true →
    (if t then 0 else 1 + left) ≡ (if t then 0 else 1 + number_in xs n)) [
      | true ↦ λ e. refl
      | false ↦ λ e. ap (λ k. 1 + k) (number-renamed f P apart xs n h.1 here e)
    ] there

-- a step whose names have the same numbers under two maps
same_renamed : (f g h : ℕ → ℕ) (step : Step) → AllByRecursion (λ n. g (f n) ≡ h n) (names_in_step step) →
    renamed_step g (renamed_step f step) ≡ renamed_step h step
same_renamed f g h (Alloc name) same = ap (λ n. Alloc n) same.0
same_renamed f g h (AllocZero name) same = ap (λ n. AllocZero n) same.0
same_renamed f g h (Free name asked) same = ap (λ n. Free n asked) same.0
same_renamed f g h (Give name to) same = ap (λ n. Give n to) same.0
same_renamed f g h (Take name) same = ap (λ n. Take n) same.0
same_renamed f g h (Read name off len) same = ap (λ n. Read n off len) same.0
same_renamed f g h (Write name off bytes) same = ap (λ n. Write n off bytes) same.0
same_renamed f g h Flush same = refl
same_renamed f g h Trim same = refl

steps-renamed : (f g h : ℕ → ℕ) (steps : List (ℕ × Step)) → AreNamesOf (λ n. g (f n) ≡ h n) steps →
    renamed_steps g (renamed_steps f steps) ≡ renamed_steps h steps
steps-renamed f g h [] same = refl
steps-renamed f g h (step ∷ steps) same =
    ap (λ (s : Step). (step.0, s) ∷ renamed_steps g (renamed_steps f steps)) (same_renamed f g h step.1 same.0)
    ∙ ap (λ (l : List (ℕ × Step)). (step.0, renamed_step h step.1) ∷ l) (steps-renamed f g h steps same.1)

-- of two facts of each name
both_names : (P Q R : ℕ → Type 0) → ((n : ℕ) → P n → Q n → R n) → (names : List ℕ) →
    AllByRecursion P names → AllByRecursion Q names → AllByRecursion R names
both_names P Q R f [] h k = tt
both_names P Q R f (n ∷ names) h k = (f n h.0 k.0, both_names P Q R f names h.1 k.1)

both_steps : (P Q R : ℕ → Type 0) → ((n : ℕ) → P n → Q n → R n) → (steps : List (ℕ × Step)) →
    AreNamesOf P steps → AreNamesOf Q steps → AreNamesOf R steps
both_steps P Q R f [] h k = tt
both_steps P Q R f (step ∷ steps) h k = (both_names P Q R f (names_in_step step.1) h.0 k.0, both_steps P Q R f steps h.1 k.1)

numbered-renamed : (f : ℕ → ℕ) (P : ℕ → Type 0) → IsApartOn f P → (steps : List (ℕ × Step)) → AreNamesOf P steps →
    numbered (renamed_steps f steps) ≡ numbered steps
numbered-renamed f P apart steps h =
    let names = first_names steps in
    ap (λ (l : List ℕ). renamed_steps (number_in l) (renamed_steps f steps)) (first_names-renamed f P apart steps h)
    ∙ steps-renamed f (number_in (map f names)) (number_in names) steps
    (both_steps P (λ n. is_in n names ≡ true) (λ n. number_in (map f names) (f n) ≡ number_in names n)
    (λ n here there. number-renamed f P apart names n (first_keeps P steps h) here there) steps h (names_in steps))

-- ---- texts

agrees : (a b m n : ℕ) → (a ≡ b → m ≡ n) → (m ≡ n → a ≡ b) → (a == b) ≡ (m == n)
agrees a b m n there back =
    elim (a == b) as (λ t. (a == b) ≡ t → t ≡ (m == n)) [
      | true ↦ λ e. sym (eq-eqb m n (there (eqb-true a b e)))
      | false ↦ λ e.
          elim (m == n) as (λ s. (m == n) ≡ s → false ≡ s) [
            | true ↦ λ k. sym e ∙ eq-eqb a b (back (eqb-true m n k))
            | false ↦ λ k. refl
          ] refl
    ] refl

pub same_texts_are_alike : SameTextsAreAlike
same_texts_are_alike b c f steps texts same =
    numbered-renamed f (HasSameText b c f)
    (λ m n here there. agrees (f m) (f n) m n
    (λ e. texts m n here.0 there.0 (sym here.1 ∙ ap (text_of_name c) e ∙ there.1)) (ap f)) steps same
