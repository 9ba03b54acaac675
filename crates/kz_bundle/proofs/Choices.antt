-- What a test that passed says, what was chosen by one, and tests of whole lists.
use Rattle.std.proofs.Common.{◌≡◌, ℕ, ◌<◌, ◌≤◌, ◌==◌, ◌&&◌, ◌||◌, Bool, true, false, nat_lt, nat_le, if◌then◌else◌, List, [], ◌∷◌, ◌++◌, Option, Some, None, Result, Ok, Err, IsTrue, refl, ap, sym, arith, true≢false}
use Rattle.std.specs.List.{list_all, list_any}
use lib.Pointwise.{bytes_decides}
use Rattle.kz_model.specs.Grammar.Tokens.{is}

-- ---- tests

pub wrong : {A : Type 0} → false ≡ true → A
wrong e = absurd (true≢false (sym e))

pub left : (a b : Bool) → (a && b) ≡ true → a ≡ true
left true b e = refl
left false b e = wrong e

pub right : (a b : Bool) → (a && b) ≡ true → b ≡ true
right true b e = e
right false b e = wrong e

pub and_true : (a b : Bool) → a ≡ true → b ≡ true → (a && b) ≡ true
and_true true b e f = f
and_true false b e f = wrong e

pub or_left : (a b : Bool) → (a || b) ≡ false → a ≡ false
or_left true b e = e
or_left false b e = refl

pub or_right : (a b : Bool) → (a || b) ≡ false → b ≡ false
or_right true b e = wrong (sym e)
or_right false b e = e

pub or_false : (a b : Bool) → a ≡ false → b ≡ false → (a || b) ≡ false
or_false true b e f = e
or_false false b e f = f

pub not_so : (b : Bool) → ¬ IsTrue b → b ≡ false
not_so true h = absurd (h refl)
not_so false h = refl

-- ---- tests of numbers

pub equal : (a b : ℕ) → (a == b) ≡ true → a ≡ b
equal a b e = grind arith

pub itself : (a : ℕ) → (a == a) ≡ true
itself a = grind arith

pub below : (a b : ℕ) → nat_lt a b ≡ true → a < b
below a b e = grind arith

pub within : (a b : ℕ) → nat_le a b ≡ true → a ≤ b
within a b e = grind arith

pub is_below : (a b : ℕ) → a < b → nat_lt a b ≡ true
is_below a b h = grind arith

pub is_within : (a b : ℕ) → a ≤ b → nat_le a b ≡ true
is_within a b h = grind arith

-- ---- what is chosen, and what is found

pub found_same : {A : Type 0} (a b : A) → Some a ≡ Some b → a ≡ b
found_same a b e = cc

is_none : {A : Type 0} (a : A) → None ≡ Some a → ⊥
is_none a e = cc

pub none_found : {A P : Type 0} (a : A) → None ≡ Some a → P
none_found a e = absurd (is_none a e)

-- what is chosen is one of the two
pub chosen : {A P : Type 0} (test : Bool) (x y r : A) → (test ≡ true → x ≡ r → P) → (test ≡ false → y ≡ r → P) → (if test then x else y) ≡ r → P
chosen true x y r f g e = f refl e
chosen false x y r f g e = g refl e

-- what is chosen, where the other is none
pub only : {A P : Type 0} (test : Bool) (x : Option A) (r : A) → (test ≡ true → x ≡ Some r → P) → (if test then x else None) ≡ Some r → P
only true x r f e = f refl e
only false x r f e = none_found r e

-- ---- results

abbrev pub ok : (A E : Type 0) → A → Result A E
ok A E a = Ok a

abbrev pub err : (A E : Type 0) → E → Result A E
err A E e = Err e

pub ok_same : (A E : Type 0) (a b : A) → ok A E a ≡ ok A E b → a ≡ b
ok_same A E a b e = cc

not_ok : (A E : Type 0) (fault : E) (a : A) → err A E fault ≡ ok A E a → ⊥
not_ok A E fault a e = cc

pub err_not : {P : Type 0} (A E : Type 0) (fault : E) (a : A) → err A E fault ≡ ok A E a → P
err_not A E fault a e = absurd (not_ok A E fault a e)

-- ---- words

pub is_same : (text word : List ℕ) → is text word ≡ true → word ≡ text
is_same text word e = (bytes_decides word text).0 e

pub is_itself : (word : List ℕ) → is word word ≡ true
is_itself word = (bytes_decides word word).1 refl

-- ---- all of a list

pub all_append : {A : Type 0} (test : A → Bool) (xs ys : List A) → list_all test xs ≡ true → list_all test ys ≡ true → list_all test (xs ++ ys) ≡ true
all_append test [] ys e f = f
all_append test (x ∷ xs) ys e f = and_true (test x) (list_all test (xs ++ ys)) (left (test x) (list_all test xs) e) (all_append test xs ys (right (test x) (list_all test xs) e) f)

pub all_weaker : {A : Type 0} (test other : A → Bool) → ((x : A) → test x ≡ true → other x ≡ true) → (xs : List A) → list_all test xs ≡ true → list_all other xs ≡ true
all_weaker test other f [] e = refl
all_weaker test other f (x ∷ xs) e = and_true (other x) (list_all other xs) (f x (left (test x) (list_all test xs) e)) (all_weaker test other f xs (right (test x) (list_all test xs) e))

-- none passes where all pass a test that excludes it
pub none_any : {A : Type 0} (test other : A → Bool) → ((x : A) → test x ≡ true → other x ≡ false) → (xs : List A) → list_all test xs ≡ true → list_any other xs ≡ false
none_any test other f [] e = refl
none_any test other f (x ∷ xs) e = or_false (other x) (list_any other xs) (f x (left (test x) (list_all test xs) e)) (none_any test other f xs (right (test x) (list_all test xs) e))

-- ---- the last of a list

pub record HasLast {A : Type 0} (xs : List A) : Type 0 where
  pub before : List A
  pub last : A
  pub parts : xs ≡ before ++ last ∷ []

-- a list that is not empty has a last one
pub has_last : {A : Type 0} (x : A) (xs : List A) → HasLast (x ∷ xs)
has_last x [] = record { before = []; last = x; parts = refl }
has_last {A} x (y ∷ ys) = let rest = has_last y ys in record { before = x ∷ rest.before; last = rest.last; parts = ap (λ (more : List A). x ∷ more) rest.parts }
