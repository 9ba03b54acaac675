-- Labels of fields, with their counts, read and written.
use Rattle.std.proofs.Common.{◌≡◌, ℕ, ◌+◌, ◌-◌, ◌^◌, ◌<◌, ◌≤◌, ◌==◌, ◌&&◌, ◌||◌, Bool, true, false, if◌then◌else◌, List, [], ◌∷◌, ◌++◌, length, get_or, take, drop, codes, decimal, Option, Some, None, refl, ap, sym, ◌∙◌, arith, subst, append_assoc, append-nil}
use Rattle.std.specs.List.{list_any, before_first, after_first, position_or_len}
use Rattle.std.specs.Option.{option_map_or}
use Rattle.std.proofs.lemmas.List.{take_at, drop_at, get_or_push, length_push}
use Rattle.kz_model.specs.declared.bundle.Kind.{Kind}
use Rattle.kz_model.specs.declared.grammar.Mark.{Mark}
use Rattle.kz_model.specs.declared.grammar.Mark.TheVariants.{Fine}
use Rattle.kz_model.specs.Grammar.Tokens.{is_name, is_digit, is_run, number_in}
use Rattle.kz_model.specs.Grammar.TypeLine.{ends_with, without_last, label}
use Rattle.kz_bundle.specs.BodyStates.{Body, with_field, labelled}
use Rattle.kz_model.specs.Grammar.Spelling.{label_text, IsName, IsFrom}
use Rattle.kz_bundle.proofs.Choices.{wrong, left, right, and_true, or_left, or_right, or_false, equal, itself, is_below, found_same, chosen, only, none_any, all_append, HasLast, has_last}
use Rattle.kz_bundle.proofs.Splits.{dark}
use Rattle.kz_bundle.proofs.NumberTexts.{in_word, ranged_is, number_in-decimal, decimal_run, decimal_dark, decimal_digits}
use Rattle.kz_bundle.proofs.NameTexts.{name_dark, name_no_bracket, name_no_semicolon}

-- ---- the first byte that passes a test

abbrev pub bracket : ℕ → Bool
bracket b = b == 91

abbrev pub semicolon : ℕ → Bool
semicolon b = b == 59

place_at : (p : ℕ → Bool) (xs : List ℕ) (y : ℕ) (ys : List ℕ) → list_any p xs ≡ false → p y ≡ true → position_or_len p (xs ++ y ∷ ys) ≡ length xs
place_at p [] y ys e f = rw f refl
place_at p (x ∷ xs) y ys e f =
    let rest = place_at p xs y ys (or_right (p x) (list_any p xs) e) f in
    rw (or_left (p x) (list_any p xs) e) (omega (arith, rest))

pub before_is : (p : ℕ → Bool) (xs : List ℕ) (y : ℕ) (ys : List ℕ) → list_any p xs ≡ false → p y ≡ true → before_first p (xs ++ y ∷ ys) ≡ xs
before_is p xs y ys e f = ap (λ n. take n (xs ++ y ∷ ys)) (place_at p xs y ys e f) ∙ take_at xs (y ∷ ys) (length xs) refl

pub after_is : (p : ℕ → Bool) (xs : List ℕ) (y : ℕ) (ys : List ℕ) → list_any p xs ≡ false → p y ≡ true → after_first p (xs ++ y ∷ ys) ≡ ys
after_is p xs y ys e f =
    ap (λ n. drop (n + 1) (xs ++ y ∷ ys)) (place_at p xs y ys e f)
    ∙ ap (drop (length xs + 1)) (sym (append_assoc xs (y ∷ []) ys))
    ∙ drop_at (xs ++ y ∷ []) ys (length xs + 1) (length_push xs y)

pub any_there : (p : ℕ → Bool) (xs : List ℕ) (y : ℕ) (ys : List ℕ) → p y ≡ true → list_any p (xs ++ y ∷ ys) ≡ true
any_there p [] y ys f = rw f refl
any_there p (x ∷ xs) y ys f = or_true (p x) (list_any p (xs ++ y ∷ ys)) (any_there p xs y ys f)
  where
    or_true : (a b : Bool) → b ≡ true → (a || b) ≡ true
    or_true true b e = refl
    or_true false b e = e

none_there : (p : ℕ → Bool) (xs ys : List ℕ) → list_any p xs ≡ false → list_any p ys ≡ false → list_any p (xs ++ ys) ≡ false
none_there p [] ys e f = f
none_there p (x ∷ xs) ys e f = or_false (p x) (list_any p (xs ++ ys)) (or_left (p x) (list_any p xs) e) (none_there p xs ys (or_right (p x) (list_any p xs) e) f)

-- where one passes, the list is cut at the first
pub record CutAt (p : ℕ → Bool) (xs : List ℕ) : Type 0 where
  pub before : List ℕ
  pub at : ℕ
  pub after : List ℕ
  pub none : list_any p before ≡ false
  pub passes : p at ≡ true
  pub parts : xs ≡ before ++ at ∷ after

pub cut_at : (p : ℕ → Bool) (xs : List ℕ) → list_any p xs ≡ true → CutAt p xs
cut_at p [] e = wrong e
cut_at p (x ∷ xs) e = by_first (p x) refl (λ f. cut_at p xs f) e
  where
    by_first : (b : Bool) → p x ≡ b → (list_any p xs ≡ true → CutAt p xs) → (b || list_any p xs) ≡ true → CutAt p (x ∷ xs)
    by_first true f more e = record { before = []; at = x; after = xs; none = refl; passes = f; parts = refl }
    by_first false f more e =
        let rest = more e in
        record {
          before = x ∷ rest.before;
          at = rest.at;
          after = rest.after;
          none = or_false (p x) (list_any p rest.before) f rest.none;
          passes = rest.passes;
          parts = ap (λ (more : List ℕ). x ∷ more) rest.parts;
        }

-- ---- the last byte

pub last_is : (xs : List ℕ) (y c : ℕ) → ends_with c (xs ++ y ∷ []) ≡ (y == c)
last_is xs y c =
    let long = length_push xs y in
    let some = is_below 0 (length (xs ++ y ∷ [])) (omega (arith, long)) in
    ap (λ b. b && (get_or (xs ++ y ∷ []) (length (xs ++ y ∷ []) - 1) 0 == c)) some
    ∙ ap (λ n. n == c) (get_or_push xs y 0 (length (xs ++ y ∷ []) - 1) (omega (arith, long)))

pub without_last_is : (xs : List ℕ) (y : ℕ) → without_last (xs ++ y ∷ []) ≡ xs
without_last_is xs y = let long = length_push xs y in take_at xs (y ∷ []) (length (xs ++ y ∷ []) - 1) (omega (arith, long))

-- a word with this last byte
pub last_byte : (c : ℕ) (word : List ℕ) → ends_with c word ≡ true → word ≡ without_last word ++ c ∷ []
last_byte c [] e = wrong e
last_byte c (b ∷ word) e = by_last (has_last b word)
  where
    by_last : HasLast (b ∷ word) → b ∷ word ≡ without_last (b ∷ word) ++ c ∷ []
    by_last last =
        let byte : last.last ≡ c = equal last.last c (sym (last_is last.before last.last c) ∙ sym (ap (ends_with c) last.parts) ∙ e) in
        last.parts ∙ ap (λ c. last.before ++ c ∷ []) byte ∙ ap (λ (front : List ℕ). front ++ c ∷ []) (sym (without_last_is last.before last.last) ∙ sym (ap without_last last.parts))

-- where this byte is not there, it is not the last
pub no_last : (c : ℕ) (word : List ℕ) → list_any (λ b. b == c) word ≡ false → ends_with c word ≡ false
no_last c word none = by_end (ends_with c word) refl
  where
    by_end : (b : Bool) → ends_with c word ≡ b → ends_with c word ≡ false
    by_end false e = e
    by_end true e =
        wrong (sym (sym (any_there (λ b. b == c) (without_last word) c [] (itself c)) ∙ sym (ap (list_any (λ b. b == c)) (last_byte c word e)) ∙ none))

-- ---- a label

-- a label with its count
abbrev counted : List ℕ → ℕ → List ℕ
counted name count = name ++ (91 ∷ (decimal count ++ 93 ∷ []))

few : (n : ℕ) → IsFrom 2 8192 n → n < 2 ^ 64
few n is = in_word 2 8192 n is (omega arith)

counted_reads : (name : List ℕ) (count : ℕ) → IsName name → IsFrom 2 8192 count → label (counted name count) ≡ Some (name, (count, Fine))
counted_reads name count is range =
    let none = name_no_bracket name is in
    let inner = decimal count ++ 93 ∷ [] in
    let last : ends_with 93 inner ≡ true = last_is (decimal count) 93 93 in
    let run : is_run (without_last inner) ≡ true = ap is_run (without_last_is (decimal count) 93) ∙ decimal_run count (few count range) in
    let number : number_in 2 8192 (without_last inner) ≡ (count, Fine) = ap (number_in 2 8192) (without_last_is (decimal count) 93) ∙ number_in-decimal 2 8192 count range (omega arith) in
    let text = counted name count in
    ap (λ b. if b then (if is_name (before_first bracket text) && ends_with 93 (after_first bracket text) && is_run (without_last (after_first bracket text)) then Some (before_first bracket text, number_in 2 8192 (without_last (after_first bracket text))) else None)
    else (if is_name text then Some (text, (1, Fine)) else None)) (any_there bracket name 91 inner refl)
    ∙ ap (λ (front : List ℕ). if is_name front && ends_with 93 (after_first bracket text) && is_run (without_last (after_first bracket text)) then Some (front, number_in 2 8192 (without_last (after_first bracket text))) else None) (before_is bracket name 91 inner none refl)
    ∙ ap (λ (back : List ℕ). if is_name name && ends_with 93 back && is_run (without_last back) then Some (name, number_in 2 8192 (without_last back)) else None) (after_is bracket name 91 inner none refl)
    ∙ ap (λ b. if b then Some (name, number_in 2 8192 (without_last inner)) else None) (and_true (is_name name && ends_with 93 inner) (is_run (without_last inner)) (and_true (is_name name) (ends_with 93 inner) is last) run)
    ∙ ap (λ (found : ℕ × Mark). Some (name, found)) number

plain_reads : (name : List ℕ) → IsName name → label name ≡ Some (name, (1, Fine))
plain_reads name is =
    ap (λ b. if b then (if is_name (before_first bracket name) && ends_with 93 (after_first bracket name) && is_run (without_last (after_first bracket name)) then Some (before_first bracket name, number_in 2 8192 (without_last (after_first bracket name))) else None)
    else (if is_name name then Some (name, (1, Fine)) else None)) (name_no_bracket name is)
    ∙ ap (λ b. if b then Some (name, (1, Fine)) else None) is

-- by whether the count is 1
by_count : (P : List ℕ → ℕ → Type 0) (name : List ℕ) (count : ℕ) → IsFrom 1 8192 count → (count ≡ 1 → P name 1) → (IsFrom 2 8192 count → P (counted name count) count) → P (label_text name count) count
by_count P name count range one more =
    elim (count == 1) as (λ b. (count == 1) ≡ b → P (name ++ (if b then [] else codes "[" ++ decimal count ++ codes "]")) count) [
      | true ↦ λ e. let is : count ≡ 1 = equal count 1 e in subst (P (name ++ [])) (sym is) (subst (λ text. P text 1) (sym (append-nil name)) (one is))
      | false ↦ λ e. let two : 2 ≤ count = at_least count e range.0 in more (two, range.1)
    ] refl
  where
    at_least : (n : ℕ) → (n == 1) ≡ false → 1 ≤ n → 2 ≤ n
    at_least n e h = grind arith

pub label_reads : (name : List ℕ) (count : ℕ) → IsName name → IsFrom 1 8192 count → label (label_text name count) ≡ Some (name, (count, Fine))
label_reads name count is range = by_count (λ text count. label text ≡ Some (name, (count, Fine))) name count range (λ one. plain_reads name is) (λ more. counted_reads name count is more)

digit_no : (b : ℕ) → is_digit b ≡ true → (b == 59) ≡ false
digit_no b e = grind arith

label_no_semicolon : (name : List ℕ) (count : ℕ) → IsName name → IsFrom 1 8192 count → list_any semicolon (label_text name count) ≡ false
label_no_semicolon name count is range =
    by_count (λ text count. list_any semicolon text ≡ false) name count range (λ one. name_no_semicolon name is) (λ more.
    none_there semicolon name (91 ∷ (decimal count ++ 93 ∷ [])) (name_no_semicolon name is)
    (none_there semicolon (decimal count) (93 ∷ []) (none_any is_digit semicolon digit_no (decimal count) (decimal_digits count (few count more))) refl))

pub label_dark : (name : List ℕ) (count : ℕ) → IsName name → IsFrom 1 8192 count → dark (label_text name count) ≡ true
label_dark name count is range =
    by_count (λ text count. dark text ≡ true) name count range (λ one. name_dark name is) (λ more.
    all_append _ name (91 ∷ (decimal count ++ 93 ∷ [])) (name_dark name is) (all_append _ (decimal count) (93 ∷ []) (decimal_dark count (few count more)) refl))

abbrev named : List ℕ → ℕ → List ℕ × (ℕ × Mark)
named name count = (name, (count, Fine))

-- the last label of a body, and one that others follow
pub labelled_last : (b : Body) (kind : Kind) (name : List ℕ) (count : ℕ) → IsName name → IsFrom 1 8192 count → labelled b kind (label_text name count) ≡ Some (with_field b kind false (named name count))
labelled_last b kind name count is range =
    let text = label_text name count in
    ap (λ t. if t then option_map_or {U = Option Body} (λ found. Some (with_field b kind true found)) (label (without_last text)) None else option_map_or {U = Option Body} (λ found. Some (with_field b kind false found)) (label text) None)
    (no_last 59 text (label_no_semicolon name count is range))
    ∙ ap (λ o. option_map_or {U = Option Body} (λ found. Some (with_field b kind false found)) o None) (label_reads name count is range)

pub labelled_more : (b : Body) (kind : Kind) (name : List ℕ) (count : ℕ) → IsName name → IsFrom 1 8192 count → labelled b kind (label_text name count ++ 59 ∷ []) ≡ Some (with_field b kind true (named name count))
labelled_more b kind name count is range =
    let text = label_text name count ++ 59 ∷ [] in
    ap (λ t. if t then option_map_or {U = Option Body} (λ found. Some (with_field b kind true found)) (label (without_last text)) None else option_map_or {U = Option Body} (λ found. Some (with_field b kind false found)) (label text) None)
    (last_is (label_text name count) 59 59)
    ∙ ap (λ (word : List ℕ). option_map_or {U = Option Body} (λ found. Some (with_field b kind true found)) (label word) None) (without_last_is (label_text name count) 59)
    ∙ ap (λ o. option_map_or {U = Option Body} (λ found. Some (with_field b kind true found)) o None) (label_reads name count is range)

-- ---- what a label says

-- the text is that of a label
abbrev pub SaysLabel : List ℕ → List ℕ × (ℕ × Mark) → Type 0
SaysLabel text found = (text ≡ label_text found.0 found.1.0) × (IsName found.0 × IsFrom 1 8192 found.1.0)

label_text_counted : (name : List ℕ) (count : ℕ) → 2 ≤ count → label_text name count ≡ counted name count
label_text_counted name count more = ap (λ b. name ++ (if b then [] else codes "[" ++ decimal count ++ codes "]")) (not_one count more)
  where
    not_one : (n : ℕ) → 2 ≤ n → (n == 1) ≡ false
    not_one n h = grind arith

pub label_says : (text : List ℕ) (found : List ℕ × (ℕ × Mark)) → label text ≡ Some found → found.1.1 ≡ Fine → SaysLabel text found
label_says text found =
    chosen (list_any bracket text) _ _ _ (λ there. only (is_name (before_first bracket text) && ends_with 93 (after_first bracket text) && is_run (without_last (after_first bracket text))) _ _
    (λ t e fine.
    let cut = cut_at bracket text there in
    let inner = without_last (after_first bracket text) in
    let two = left (is_name (before_first bracket text) && ends_with 93 (after_first bracket text)) (is_run inner) t in
    let name = left (is_name (before_first bracket text)) (ends_with 93 (after_first bracket text)) two in
    let last = right (is_name (before_first bracket text)) (ends_with 93 (after_first bracket text)) two in
    let front : before_first bracket text ≡ cut.before = ap (before_first bracket) cut.parts ∙ before_is bracket cut.before cut.at cut.after cut.none cut.passes in
    let back : after_first bracket text ≡ cut.after = ap (after_first bracket) cut.parts ∙ after_is bracket cut.before cut.at cut.after cut.none cut.passes in
    let same = found_same (before_first bracket text, number_in 2 8192 inner) found e in
    let count = ranged_is 2 8192 inner (ap (λ (f : List ℕ × (ℕ × Mark)). f.1.1) same ∙ fine) in
    let byte : cut.at ≡ 91 = equal cut.at 91 cut.passes in
    let whole : text ≡ label_text (before_first bracket text) (number_in 2 8192 inner).0 =
    cut.parts
    ∙ ap (λ (b : ℕ). cut.before ++ b ∷ cut.after) byte
    ∙ ap (λ (f : List ℕ). f ++ 91 ∷ cut.after) (sym front)
    ∙ ap (λ (r : List ℕ). before_first bracket text ++ 91 ∷ r) (sym back ∙ last_byte 93 (after_first bracket text) last ∙ ap (λ (r : List ℕ). r ++ 93 ∷ []) count.0)
    ∙ sym (label_text_counted (before_first bracket text) (number_in 2 8192 inner).0 count.1.0) in
    subst (SaysLabel text) same (whole, (name, (omega (arith, count.1.0), count.1.1)))))
    (λ none. only (is_name text) _ _
    (λ t e fine.
    let same = found_same (text, (1, Fine)) found e in
    subst (SaysLabel text) same (sym (append-nil text), (t, (omega arith, omega arith)))))
