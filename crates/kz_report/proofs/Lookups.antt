-- Look-ups in lists.
use Rattle.std.proofs.Common.{◌≡◌, ℕ, zero, suc, ◌<◌, List, [], ◌∷◌, length, map, slice_get, slice_index_or, None, Some, refl, ap, ◌∙◌}
use Rattle.std.proofs.lemmas.List.{get_or_default}

-- what isn't there
pub none_there : {A : Type 0} (xs : List A) (k : ℕ) (d : A) → slice_get xs k ≡ None → slice_index_or xs k d ≡ d
none_there [] k d e = refl
none_there (x ∷ xs) zero d e = absurd (cc)
none_there (x ∷ xs) (suc k) d e = none_there xs k d e

-- what is there
pub some_there : {A : Type 0} (xs : List A) (k : ℕ) (d x : A) → slice_get xs k ≡ Some x → slice_index_or xs k d ≡ x
some_there [] k d x e = absurd (cc)
some_there (y ∷ xs) zero d x e = cc
some_there (y ∷ xs) (suc k) d x e = some_there xs k d x e

-- functions that agree give the same list
pub map_same : {A B : Type 0} (f g : A → B) (xs : List A) → ((x : A) → f x ≡ g x) → map f xs ≡ map g xs
map_same f g [] same = refl
map_same {B = B} f g (x ∷ xs) same = ap (λ (y : B). y ∷ map f xs) (same x) ∙ ap (λ (ys : List B). g x ∷ ys) (map_same f g xs same)

-- an item of a list that is another
pub item_is : {A : Type 0} (xs ys : List A) (i : ℕ) (x d : A) → i < length xs → ys ≡ xs → x ≡ slice_index_or ys i x → x ≡ slice_index_or xs i d
item_is {A = A} xs ys i x d lt same is = is ∙ ap (λ (ys : List A). slice_index_or ys i x) same ∙ get_or_default xs i x d lt
