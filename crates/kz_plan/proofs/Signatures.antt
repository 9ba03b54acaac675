-- Signatures in order.
use Rattle.std.proofs.Common.{◌≡◌, ℕ, ◌+◌, ◌<◌, Bool, true, false, cond, List, [], ◌∷◌, length, map, fold, drop, refl, ap, ◌∙◌, Bor, add-one, drop-cons}
use Rattle.std.proofs.Math.ListN.{get_or}
use Rattle.std.specs.BTreeSet.{insert_key}
use Rattle.std.specs.Cmp.Lexicographic.{slice_cmp}
use Rattle.std.specs.List.{filter}
use Rattle.std.specs.Ordering.{nat_cmp, match_ordering}
use Rattle.std.specs.declared.cmp.Ordering.{Ordering}
use Rattle.std.specs.declared.cmp.Ordering.TheVariants.{Less, Equal, Greater}
use Rattle.kz_model.specs.declared.record.Layout.{Layout}
use Rattle.kz_model.specs.Types.Plan.{Signature, is_general, with_signature}
use Rattle.kz_model.specs.Grammar.Tokens.{texts}

-- what is shown of one of three
shown_choice : (o : Ordering) (a b c : List (Bor (List ℕ))) → texts (match_ordering o a b c) ≡ match_ordering o (texts a) (texts b) (texts c)
shown_choice Less a b c = refl
shown_choice Equal a b c = refl
shown_choice Greater a b c = refl

-- a set of references that gets one more shows the signatures with one more
pub with_signature-texts : (keys : List (Bor (List ℕ))) (key : Bor (List ℕ)) →
    texts (insert_key (λ x y. slice_cmp nat_cmp x.now y.now) keys key) ≡ with_signature (texts keys) key.now
with_signature-texts [] key = refl
with_signature-texts (k ∷ keys) key =
    shown_choice (slice_cmp nat_cmp key.now k.now) (key ∷ k ∷ keys) (k ∷ keys) (k ∷ insert_key (λ x y. slice_cmp nat_cmp x.now y.now) keys key)
    ∙ ap (λ rest. match_ordering (slice_cmp nat_cmp key.now k.now) (key.now ∷ k.now ∷ texts keys) (k.now ∷ texts keys) (k.now ∷ rest)) (with_signature-texts keys key)

-- these signatures with those of some types of a class
abbrev pub signatures_with : List Signature → List Layout → ℕ → List Signature
signatures_with found layouts class = fold with_signature found (map (λ layout. layout.letters) (filter (is_general class) layouts))

from_place : (layouts : List Layout) (i : ℕ) (d : Layout) → i < length layouts → drop i layouts ≡ get_or layouts i d ∷ drop (i + 1) layouts
from_place layouts i d inside = rw (add-one, drop-cons layouts i d) refl

one_type : (found : List Signature) (layouts : List Layout) (class i : ℕ) (d : Layout) (b : Bool) → i < length layouts → is_general class (get_or layouts i d) ≡ b →
    signatures_with found (drop i layouts) class
    ≡ fold with_signature found (map (λ layout. layout.letters) (cond b (get_or layouts i d ∷ filter (is_general class) (drop (i + 1) layouts)) (filter (is_general class) (drop (i + 1) layouts))))
one_type found layouts class i d b inside test =
    ap (λ rest. signatures_with found rest class) (from_place layouts i d inside)
    ∙ ap (λ b. fold with_signature found (map (λ layout. layout.letters) (cond b (get_or layouts i d ∷ filter (is_general class) (drop (i + 1) layouts)) (filter (is_general class) (drop (i + 1) layouts))))) test

-- a type of the class adds its letters
pub signatures_with-general : (found : List Signature) (layouts : List Layout) (class i : ℕ) (d : Layout) → i < length layouts → is_general class (get_or layouts i d) ≡ true →
    signatures_with found (drop i layouts) class ≡ signatures_with (with_signature found (get_or layouts i d).letters) (drop (i + 1) layouts) class
signatures_with-general found layouts class i d inside test = one_type found layouts class i d true inside test

-- another type adds nothing
pub signatures_with-other : (found : List Signature) (layouts : List Layout) (class i : ℕ) (d : Layout) → i < length layouts → is_general class (get_or layouts i d) ≡ false →
    signatures_with found (drop i layouts) class ≡ signatures_with found (drop (i + 1) layouts) class
signatures_with-other found layouts class i d inside test = one_type found layouts class i d false inside test
