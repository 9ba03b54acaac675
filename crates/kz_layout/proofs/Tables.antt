-- Tables of names that grow by one name.
use Rattle.std.proofs.Common.{◌≡◌, ℕ, ◌+◌, ◌<◌, Bool, true, false, cond, ◌||◌, not, List, [], ◌∷◌, ◌++◌, length, take, Option, Some, None, is_some, refl, sym, ap, ◌∙◌, subst, arith, ⊎_elim, Bor}
use Rattle.std.proofs.Math.ListN.{get_or}
use Rattle.std.proofs.lemmas.Bool.{cases_Bool}
use Rattle.std.proofs.lemmas.Bool.Decides.{same_from_decides, Decides-like}
use Rattle.std.proofs.lemmas.Slice.Eq.{bytes_eq-Decides}
use Rattle.std.proofs.lemmas.Map.Text.{is_eq-slice_cmp, btree_map_updates_str}
use Rattle.std.proofs.lemmas.List.{take_more, map-append}
use Rattle.std.proofs.lemmas.List.Folds.{list_any-append}
use Rattle.std.specs.BTreeMap as tree
use Rattle.std.specs.BTreeMap.{BTreeMap}
use Rattle.std.specs.BTreeSet as sorted
use Rattle.std.specs.BTreeSet.{BTreeSet}
use Rattle.std.specs.Cmp.Lexicographic.{slice_cmp}
use Rattle.std.specs.Ordering.{nat_cmp}
use Rattle.std.specs.List.{position_from}
use Rattle.kz_model.specs.declared.bundle.Field.{Field}
use Rattle.kz_model.specs.Types.Layouts.{Text, is, has, place_of}
use Rattle.kz_model.specs.Grammar.Tokens.{texts}
use Rattle.kz_layout.specs.Tables.{ArePlaces, AreNames}
use Rattle.kz_layout.specs.Shown.{field_names}

flip : (a b : Text) → is a b ≡ is b a
flip a b = same_from_decides (is a b) (is b a) (bytes_eq-Decides a b) (Decides-like (is b a) (λ e. sym e) (λ e. sym e) (bytes_eq-Decides b a))

stays_at : (b : Bool) (i p : ℕ) (rest more : Option ℕ) → (rest ≡ Some p → more ≡ Some p) → cond b (Some i) rest ≡ Some p → cond b (Some i) more ≡ Some p
stays_at true i p rest more step h = h
stays_at false i p rest more step h = step h

found_stays : (t : Text → Bool) (i p : ℕ) (xs ys : List Text) → position_from t i xs ≡ Some p → position_from t i (xs ++ ys) ≡ Some p
found_stays t i p [] ys h = cc
found_stays t i p (x ∷ xs) ys h = stays_at (t x) i p (position_from t (i + 1) xs) (position_from t (i + 1) (xs ++ ys)) (found_stays t (i + 1) p xs ys) h

not_there : (t : Text → Bool) (i : ℕ) (xs : List Text) (y : Text) → t y ≡ false → position_from t i (xs ++ y ∷ []) ≡ position_from t i xs
not_there t i [] y h = ap (λ b. cond b (Some i) None) h
not_there t i (x ∷ xs) y h = ap (cond (t x) (Some i)) (not_there t (i + 1) xs y h)

new_at : (b : Bool) (i p : ℕ) (rest more : Option ℕ) → (rest ≡ None → more ≡ Some p) → cond b (Some i) rest ≡ None → cond b (Some i) more ≡ Some p
new_at true i p rest more step h = cc
new_at false i p rest more step h = step h

new_there : (t : Text → Bool) (i p : ℕ) (xs : List Text) (y : Text) → t y ≡ true → p ≡ i + length xs → position_from t i xs ≡ None → position_from t i (xs ++ y ∷ []) ≡ Some p
new_there t i p [] y there at h = let same : i ≡ p = omega arith in ap (λ b. cond b (Some i) None) there ∙ ap (λ k. Some k) same
new_there t i p (x ∷ xs) y there at h =
    new_at (t x) i p (position_from t (i + 1) xs) (position_from t (i + 1) (xs ++ y ∷ [])) (new_there t (i + 1) p xs y there (omega arith)) h

some_of : (o : Option ℕ) → is_some o ≡ true → (p : ℕ) × (o ≡ Some p)
some_of None h = cc
some_of (Some p) h = (p, refl)

none_of : (o : Option ℕ) → is_some o ≡ false → o ≡ None
none_of None h = refl
none_of (Some p) h = cc

abbrev Places : Type 0
Places = BTreeMap (Bor (List ℕ)) ℕ

abbrev at : Places → Text → Option ℕ
at m name = tree.get_by (λ k. slice_cmp nat_cmp name k.now) m

-- a name that is there already
pub places_kept : (m : Places) (names : List Text) (name : Text) → ArePlaces m names → is_some (at m name) ≡ true → ArePlaces m (names ++ name ∷ [])
places_kept m names name are there q = ⊎_elim
    (λ equal.
    let same : q ≡ name = (bytes_eq-Decides q name).0 equal in
    let found = some_of (at m q) (subst (λ x. is_some (at m x) ≡ true) (sym same) there) in
    found.1 ∙ sym (found_stays (is q) 0 found.0 names (name ∷ []) (sym (are q) ∙ found.1)))
    (λ other. are q ∙ sym (not_there (is q) 0 names name other))
    (cases_Bool (is q name))

-- a new name, put at its place
pub places_added : (m n : Places) (names : List Text) (name : Text) (place : ℕ) → ArePlaces m names → is_some (at m name) ≡ false →
    tree.UpdatesBy (λ x y. slice_cmp nat_cmp x.now y.now) (λ k. slice_cmp nat_cmp name k.now) m n (Some place) → place ≡ length names → ArePlaces n (names ++ name ∷ [])
places_added m n names name place are absent puts here q =
    let after : at n q ≡ cond (is name q) (Some place) (at m q) = btree_map_updates_str name m n (Some place) puts q in
    ⊎_elim
    (λ equal.
    let same : q ≡ name = (bytes_eq-Decides q name).0 equal in
    let none : place_of q names ≡ None = subst (λ x. place_of x names ≡ None) (sym same) (sym (are name) ∙ none_of (at m name) absent) in
    after ∙ ap (λ b. cond b (Some place) (at m q)) (flip name q ∙ equal) ∙ sym (new_there (is q) 0 place names name equal (omega arith) none))
    (λ other. after ∙ ap (λ b. cond b (Some place) (at m q)) (flip name q ∙ other) ∙ are q ∙ sym (not_there (is q) 0 names name other))
    (cases_Bool (is q name))

or_last : (b x : Bool) → cond b true x ≡ (x || (b || false))
or_last true true = refl
or_last true false = refl
or_last false true = refl
or_last false false = refl

abbrev Names : Type 0
Names = BTreeSet (Bor (List ℕ))

abbrev holds : Names → Text → Bool
holds seen name = sorted.contains_by (λ k. slice_cmp nat_cmp name k.now) seen

-- one name more
pub names_added : (m n : Names) (names : List Text) (name : Text) → AreNames m names →
    sorted.UpdatesBy (λ x y. slice_cmp nat_cmp x.now y.now) (λ k. slice_cmp nat_cmp name k.now) m n true → AreNames n (names ++ name ∷ [])
names_added m n names name are puts q =
    let b : Bor (List ℕ) = record { ref_ptr = (0, 0); now = q } in
    let after : holds n q ≡ cond (is name q) true (holds m q) = puts.0 b ∙ ap (λ t. cond t true (holds m q)) (is_eq-slice_cmp name q) in
    after ∙ ap (λ t. cond t true (holds m q)) (flip name q) ∙ ap (cond (is q name) true) (are q) ∙ or_last (is q name) (has q names)
    ∙ sym (list_any-append (is q) names (name ∷ []))

-- one borrowed name more
pub texts_more : (names : List (Bor (List ℕ))) (i : ℕ) (d : Bor (List ℕ)) → i < length names →
    texts (take (i + 1) names) ≡ texts (take i names) ++ (get_or names i d).now ∷ []
texts_more names i d h = ap texts (take_more names i d h) ∙ map-append (λ name. name.now) (take i names) (get_or names i d ∷ [])

-- the names of one field more
pub field_names_more : (fields : List Field) (i : ℕ) (d : Field) → i < length fields →
    field_names (take (i + 1) fields) ≡ field_names (take i fields) ++ (get_or fields i d).name ∷ []
field_names_more fields i d h = ap field_names (take_more fields i d h) ∙ map-append (λ f. f.name) (take i fields) (get_or fields i d ∷ [])

pub not_seen : (new found : Bool) → new ≡ not found → new ≡ true → found ≡ false
not_seen new true added is_new = cc
not_seen new false added is_new = refl

pub was_seen : (new found : Bool) → new ≡ not found → new ≡ false → found ≡ true
was_seen new true added is_old = refl
was_seen new false added is_old = cc
