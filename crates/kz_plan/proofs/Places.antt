-- The first place of a signature in a list that grows, and the map of buckets.
use Rattle.std.proofs.Common.{◌≡◌, ℕ, suc, ◌+◌, ◌%◌, ◌<◌, Bool, true, false, cond, List, [], ◌∷◌, ◌++◌, length, take, Option, Some, None, refl, sym, ap, ◌∙◌, subst, arith, ⊎_elim, Bor}
use Rattle.std.proofs.Math.ListN.{get_or}
use Rattle.std.proofs.lemmas.Bool.{cases_Bool}
use Rattle.std.proofs.lemmas.Bool.Decides.{same_from_decides, Decides-like}
use Rattle.std.proofs.lemmas.Slice.Eq.{bytes_eq-Decides}
use Rattle.std.proofs.lemmas.Map.Text.{btree_map_updates_str}
use Rattle.std.proofs.lemmas.Map.Keys.{apart_from_distinct}
use Rattle.std.proofs.lemmas.List.{take_more, map-append, take-map, get_or-take, get_or-map, length-map, length-take-le}
use Rattle.std.specs.BTreeMap as tree
use Rattle.std.specs.BTreeMap.{BTreeMap}
use Rattle.std.specs.Cmp.Lexicographic.{slice_cmp}
use Rattle.std.specs.List.{position_from}
use Rattle.std.specs.Option.{option_map, option_or}
use Rattle.std.specs.Ordering.{nat_cmp}
use Rattle.std.specs.Str.{bytes_eq}
use Rattle.kz_model.specs.Types.Layouts.{place_of}
use Rattle.kz_model.specs.Types.Plan.{Signature}
use Rattle.kz_model.specs.Grammar.Tokens.{texts}
use Rattle.kz_plan.specs.Shown.{AreDistinct, AreBuckets}

-- whether two are the same doesn't depend on which is first
pub same_flipped : (a b : Signature) → bytes_eq a b ≡ bytes_eq b a
same_flipped a b = same_from_decides (bytes_eq a b) (bytes_eq b a) (bytes_eq-Decides a b) (Decides-like (bytes_eq b a) (λ e. sym e) (λ e. sym e) (bytes_eq-Decides b a))

-- where no place passes, there is none
no_place : (t : Signature → Bool) (i : ℕ) (xs : List Signature) → ((k : ℕ) → k < length xs → t (get_or xs k []) ≡ false) → position_from t i xs ≡ None
no_place t i [] fails = refl
no_place t i (x ∷ xs) fails =
    ap (λ b. cond b (Some i) (position_from t (i + 1) xs)) (fails 0 (omega arith)) ∙ no_place t (i + 1) xs (λ k inside. fails (suc k) (omega arith))

no_more : (o : Option ℕ) → option_or o None ≡ o
no_more None = refl
no_more (Some p) = refl

-- the first place in a list with one more at its end
place_in_longer : (t : Signature → Bool) (i : ℕ) (xs : List Signature) (y : Signature) →
    position_from t i (xs ++ y ∷ []) ≡ option_or (position_from t i xs) (cond (t y) (Some (i + length xs)) None)
place_in_longer t i [] y = let e : i ≡ i + 0 = omega arith in ap (λ j. cond (t y) (Some j) None) e
place_in_longer t i (x ∷ xs) y =
    elim (t x) as (λ b. cond b (Some i) (position_from t (i + 1) (xs ++ y ∷ [])) ≡ option_or (cond b (Some i) (position_from t (i + 1) xs)) (cond (t y) (Some (i + length (x ∷ xs))) None)) [
      | true ↦ refl
      | false ↦
          let e : i + 1 + length xs ≡ i + length (x ∷ xs) = omega arith in
          place_in_longer t (i + 1) xs y ∙ ap (λ j. option_or (position_from t (i + 1) xs) (cond (t y) (Some j) None)) e
    ]

abbrev Buckets : Type 0
Buckets = BTreeMap (Bor (List ℕ)) ℕ

-- a signature that isn't among those before it
one_bucket : (m n : Buckets) (zones bucket : ℕ) (order : List Signature) (signature : Signature) → AreBuckets m zones order → place_of signature order ≡ None →
    tree.UpdatesBy (λ x y. slice_cmp nat_cmp x.now y.now) (λ key. slice_cmp nat_cmp signature key.now) m n (Some bucket) → bucket ≡ length order % zones →
    AreBuckets n zones (order ++ signature ∷ [])
one_bucket m n zones bucket order signature are absent puts here q =
    let f = λ (place : ℕ). place % zones in
    let after : tree.get_by (λ key. slice_cmp nat_cmp q key.now) n ≡ cond (bytes_eq signature q) (Some bucket) (tree.get_by (λ key. slice_cmp nat_cmp q key.now) m) =
    btree_map_updates_str signature m n (Some bucket) puts q in
    let longer : place_of q (order ++ signature ∷ []) ≡ option_or (place_of q order) (cond (bytes_eq q signature) (Some (0 + length order)) None) = place_in_longer (bytes_eq q) 0 order signature in
    ⊎_elim
    (λ equal.
    let same : q ≡ signature = (bytes_eq-Decides q signature).0 equal in
    let none : place_of q order ≡ None = subst (λ s. place_of s order ≡ None) (sym same) absent in
    let at : length order ≡ 0 + length order = omega arith in
    after ∙ ap (λ b. cond b (Some bucket) (tree.get_by (λ key. slice_cmp nat_cmp q key.now) m)) (same_flipped signature q ∙ equal)
    ∙ ap Some (here ∙ ap f at)
    ∙ sym (ap (option_map f) (longer ∙ ap (λ o. option_or o (cond (bytes_eq q signature) (Some (0 + length order)) None)) none ∙ ap (λ b. cond b (Some (0 + length order)) None) equal)))
    (λ other.
    after ∙ ap (λ b. cond b (Some bucket) (tree.get_by (λ key. slice_cmp nat_cmp q key.now) m)) (same_flipped signature q ∙ other) ∙ are q
    ∙ sym (ap (option_map f) (longer ∙ ap (λ b. option_or (place_of q order) (cond b (Some (0 + length order)) None)) other ∙ no_more (place_of q order))))
    (cases_Bool (bytes_eq q signature))

-- the signature at place i isn't before it
not_before : (order : List Signature) (i : ℕ) → AreDistinct order → i < length order → place_of (get_or order i []) (take i order) ≡ None
not_before order i distinct inside =
    no_place (bytes_eq (get_or order i [])) 0 (take i order)
    (λ k before.
    let lt : k < i = omega (arith, length-take-le i order (omega arith)) in
    ap (bytes_eq (get_or order i [])) (get_or-take i order k [] lt) ∙ same_flipped (get_or order i []) (get_or order k []) ∙ apart_from_distinct bytes_eq order k i [] distinct lt inside)

-- the buckets so far, with that of the signature at the next place
pub next_bucket : (m n : Buckets) (zones bucket i : ℕ) (order : List (Bor (List ℕ))) (d : Bor (List ℕ)) → AreBuckets m zones (texts (take i order)) → AreDistinct (texts order) → i < length order →
    tree.UpdatesBy (λ x y. slice_cmp nat_cmp x.now y.now) (λ key. slice_cmp nat_cmp (get_or order i d).now key.now) m n (Some bucket) → bucket ≡ i % zones →
    AreBuckets n zones (texts (take (i + 1) order))
next_bucket m n zones bucket i order d are distinct inside puts here =
    let many : length (texts (take i order)) ≡ i = length-map (take i order) (λ (r : Bor (List ℕ)). r.now) ∙ length-take-le i order (omega arith) in
    let signature : get_or (texts order) i [] ≡ (get_or order i d).now = get_or-map (λ (r : Bor (List ℕ)). r.now) order i d [] inside in
    let within : i < length (texts order) = omega (arith, length-map order (λ (r : Bor (List ℕ)). r.now)) in
    let absent : place_of (get_or order i d).now (texts (take i order)) ≡ None =
    ap (λ s. place_of s (texts (take i order))) (sym signature) ∙ ap (place_of (get_or (texts order) i [])) (sym (take-map (λ (r : Bor (List ℕ)). r.now) i order)) ∙ not_before (texts order) i distinct within in
    let longer : texts (take i order) ++ (get_or order i d).now ∷ [] ≡ texts (take (i + 1) order) =
    sym (ap texts (take_more order i d inside) ∙ map-append (λ (r : Bor (List ℕ)). r.now) (take i order) (get_or order i d ∷ [])) in
    subst (AreBuckets n zones) longer
    (one_bucket m n zones bucket (texts (take i order)) (get_or order i d).now are absent puts (here ∙ ap (λ k. k % zones) (sym many)))
