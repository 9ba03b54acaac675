-- The groups, one class after another.
use Rattle.std.proofs.Common.{◌≡◌, ℕ, ◌+◌, ◌-◌, ◌<◌, ◌≤◌, Bool, true, false, cond, List, [], ◌∷◌, ◌++◌, length, take, drop, ap, sym, ◌∙◌, Bor}
use Rattle.std.proofs.lemmas.List.{length-map}
use Rattle.std.specs.List.{filter, list_any}
use Rattle.kz_model.specs.declared.bundle.Seed.{Seed}
use Rattle.kz_model.specs.declared.record.Layout.{Layout}
use Rattle.kz_model.specs.Types.Plan.{Signature, Group, is_general, signatures, shuffled, groups_from, groups_of}
use Rattle.kz_model.specs.Grammar.Tokens.{texts}
use Rattle.kz_plan.proofs.Shuffles.{map-shuffled, length-shuffled}
use Rattle.kz_plan.proofs.Written.{written}
use Rattle.kz_plan.proofs.Classes.{classes_from, classes_from-all, classes_from-next, classes_from-end}

abbrev is_in_use : List Layout → ℕ → Bool
is_in_use layouts class = list_any (is_general class) layouts

-- the groups of the classes from one on
abbrev pub groups_left : List Layout → Seed → ℕ → ℕ → List Group
groups_left layouts seed drawn class = groups_from layouts seed drawn (filter (is_in_use layouts) (classes_from class))

pub groups_left-all : (layouts : List Layout) (seed : Seed) → groups_left layouts seed 0 0 ≡ groups_of layouts seed
groups_left-all layouts seed = ap (λ classes. groups_from layouts seed 0 (filter (is_in_use layouts) classes)) classes_from-all

pub groups_left-end : (layouts : List Layout) (seed : Seed) (drawn class : ℕ) → 32 ≤ class → groups_left layouts seed drawn class ≡ []
groups_left-end layouts seed drawn class over = ap (λ classes. groups_from layouts seed drawn (filter (is_in_use layouts) classes)) (classes_from-end class over)

one_class : (layouts : List Layout) (seed : Seed) (drawn class : ℕ) (b : Bool) → class < 32 → is_in_use layouts class ≡ b →
    groups_left layouts seed drawn class
    ≡ groups_from layouts seed drawn (cond b (class ∷ filter (is_in_use layouts) (classes_from (class + 1))) (filter (is_in_use layouts) (classes_from (class + 1))))
one_class layouts seed drawn class b inside test =
    ap (λ classes. groups_from layouts seed drawn (filter (is_in_use layouts) classes)) (classes_from-next class inside)
    ∙ ap (λ b. groups_from layouts seed drawn (cond b (class ∷ filter (is_in_use layouts) (classes_from (class + 1))) (filter (is_in_use layouts) (classes_from (class + 1))))) test

-- a class that isn't in use has no group
pub groups_left-skip : (layouts : List Layout) (seed : Seed) (drawn class : ℕ) → class < 32 → is_in_use layouts class ≡ false →
    groups_left layouts seed drawn class ≡ groups_left layouts seed drawn (class + 1)
groups_left-skip layouts seed drawn class inside test = one_class layouts seed drawn class false inside test

-- the group of a class in use
pub groups_left-next : (layouts : List Layout) (seed : Seed) (drawn class : ℕ) (order : List Signature) → class < 32 → is_in_use layouts class ≡ true → order ≡ shuffled seed drawn (signatures layouts class) →
    groups_left layouts seed drawn class ≡ record { class = class; order = order } ∷ groups_left layouts seed (drawn + (length (signatures layouts class) - 1)) (class + 1)
groups_left-next layouts seed drawn class order inside test is =
    let rest = groups_left layouts seed (drawn + (length (signatures layouts class) - 1)) (class + 1) in
    let group : List Signature → Group = λ order. record { class = class; order = order } in
    one_class layouts seed drawn class true inside test ∙ ap (λ order. group order ∷ rest) (sym is)

-- what a shuffled vector of references shows
pub shuffled_texts : (seed : Seed) (drawn n : ℕ) (items start new : List (Bor (List ℕ))) (found : List Signature) → texts items ≡ found → start ≡ items → n ≡ length items → new ≡ shuffled seed drawn start →
    texts (take n (new ++ drop (length new) items)) ≡ shuffled seed drawn found
shuffled_texts seed drawn n items start new found shows same long is =
    let kept : length new ≡ length items = ap length is ∙ length-shuffled seed drawn start ∙ ap length same in
    ap texts (written n items new long kept ∙ is) ∙ map-shuffled (λ (r : Bor (List ℕ)). r.now) seed drawn start ∙ ap (shuffled seed drawn) (ap texts same ∙ shows)

-- how many words a shuffle draws
pub shuffled_words : (drawn : ℕ) (items start : List (Bor (List ℕ))) (found : List Signature) → texts items ≡ found → start ≡ items → drawn + (length start - 1) ≡ drawn + (length found - 1)
shuffled_words drawn items start found shows same =
    ap (λ n. drawn + (n - 1)) (ap length same ∙ sym (length-map items (λ (r : Bor (List ℕ)). r.now)) ∙ ap length shows)
