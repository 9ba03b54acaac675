-- A table of texts, each once, and a map that finds their numbers, after one more text.
use Rattle.std.proofs.Common.{◌≡◌, ◌⊎◌, inl, inr, ℕ, zero, suc, ◌+◌, ◌<◌, ◌≤◌, Bool, true, false, ◌||◌, if◌then◌else◌, List, [], ◌∷◌, ◌++◌, length, Some, None, cond, refl, ap, sym, ◌∙◌, ⊎_elim, arith, length-append}
use Rattle.std.specs.Str.{bytes_eq}
use Rattle.std.specs.Cmp.Lexicographic.{bytes_decides}
use Rattle.std.proofs.lemmas.Bool.{cases_Bool, cond-true, cond-false, or_left, or_right, or_parts}
use Rattle.std.proofs.Math.Nat.{eq-or-lt_of_le}
use Rattle.std.proofs.Math.Seq.{get_or-append_seam}
use Rattle.std.proofs.lemmas.List.{get_or_append_left}
use Rattle.std.proofs.lemmas.List.Folds.{list_any-append}
use Rattle.kz_model.specs.Grammar.Stages.{has, place_of}
use Rattle.kz_model.specs.Grammar.Spelling.{text_at}
use Rattle.kz_bundle.specs.Parts.{AreOnce}
use Rattle.kz_bundle.specs.declared.form.index.Index.{Index}
use Rattle.kz_bundle.specs.Table.{number_of, AreBytes, found, FindsTexts}

-- ---- where a text stands

pub is_itself : (text : List ℕ) → bytes_eq text text ≡ true
is_itself text = (bytes_decides text text).1 refl

pub has-append : (text : List ℕ) (xs ys : List (List ℕ)) → has text (xs ++ ys) ≡ (has text xs || has text ys)
has-append text xs ys = list_any-append (λ other. bytes_eq other text) xs ys

pub has_added : (text : List ℕ) (table : List (List ℕ)) → has text (table ++ text ∷ []) ≡ true
has_added text table = has-append text table (text ∷ []) ∙ or_right (has text table) (has text (text ∷ [])) (or_left (bytes_eq text text) false (is_itself text))

pub place_of-new : (text : List ℕ) (table : List (List ℕ)) → has text table ≡ false → place_of text (table ++ text ∷ []) ≡ length table
place_of-new text [] h = cond-true (bytes_eq text text) 0 1 (is_itself text)
place_of-new text (other ∷ table) h =
    let parts = or_parts (bytes_eq other text) (has text table) h in
    cond-false (bytes_eq other text) 0 (place_of text (table ++ text ∷ []) + 1) parts.0 ∙ omega (arith, place_of-new text table parts.1)

pub place_of-old : (text : List ℕ) (table more : List (List ℕ)) → has text table ≡ true → place_of text (table ++ more) ≡ place_of text table
place_of-old text [] more h = absurd (cc)
place_of-old text (other ∷ table) more h =
    ⊎_elim
    (λ y. cond-true (bytes_eq other text) 0 (place_of text (table ++ more) + 1) y ∙ sym (cond-true (bytes_eq other text) 0 (place_of text table + 1) y))
    (λ n. ap (λ p. if bytes_eq other text then 0 else p + 1) (place_of-old text table more (has_later (bytes_eq other text) (has text table) n h)))
    (cases_Bool (bytes_eq other text))
  where
    has_later : (x y : Bool) → x ≡ false → (x || y) ≡ true → y ≡ true
    has_later true y e h = absurd (cc)
    has_later false y e h = h

pub place_within : (text : List ℕ) (table : List (List ℕ)) → has text table ≡ true → place_of text table < length table
place_within text [] h = absurd (cc)
place_within text (other ∷ table) h =
    ⊎_elim
    (λ y. let here : place_of text (other ∷ table) ≡ 0 = cond-true (bytes_eq other text) 0 (place_of text table + 1) y in omega arith)
    (λ n. let later : place_of text (other ∷ table) ≡ place_of text table + 1 = cond-false (bytes_eq other text) 0 (place_of text table + 1) n in
    let rest = place_within text table (has_later (bytes_eq other text) (has text table) n h) in omega arith)
    (cases_Bool (bytes_eq other text))
  where
    has_later : (x y : Bool) → x ≡ false → (x || y) ≡ true → y ≡ true
    has_later true y e h = absurd (cc)
    has_later false y e h = h

pub text_of_place : (text : List ℕ) (table : List (List ℕ)) → has text table ≡ true → text_at table (place_of text table) ≡ text
text_of_place text [] h = absurd (cc)
text_of_place text (other ∷ table) h =
    ⊎_elim
    (λ y. let here : place_of text (other ∷ table) ≡ 0 = cond-true (bytes_eq other text) 0 (place_of text table + 1) y in
    ap (λ n. text_at (other ∷ table) n) here ∙ (bytes_decides other text).0 y)
    (λ n. let later : place_of text (other ∷ table) ≡ suc (place_of text table) = cond-false (bytes_eq other text) 0 (place_of text table + 1) n ∙ (omega arith) in
    ap (λ n. text_at (other ∷ table) n) later ∙ text_of_place text table (has_later (bytes_eq other text) (has text table) n h))
    (cases_Bool (bytes_eq other text))
  where
    has_later : (x y : Bool) → x ≡ false → (x || y) ≡ true → y ≡ true
    has_later true y e h = absurd (cc)
    has_later false y e h = h

-- ---- by number

-- by whether it is there
number_of-at : (text : List ℕ) (table : List (List ℕ)) (b : Bool) (n : ℕ) → has text table ≡ b → place_of text table ≡ n → number_of text table ≡ (if b then Some n else None)
number_of-at text table b n hb hn = ap (λ b. if b then Some (place_of text table) else None) hb ∙ ap (λ n. if b then Some n else None) hn

number_of-old : (q text : List ℕ) (table : List (List ℕ)) → bytes_eq text q ≡ false → number_of q (table ++ text ∷ []) ≡ number_of q table
number_of-old q text table other =
    let same : has q (table ++ text ∷ []) ≡ has q table = has-append q table (text ∷ []) ∙ ap (λ b. has q table || (b || false)) other ∙ or_false (has q table) in
    ⊎_elim
    (λ y. number_of-at q (table ++ text ∷ []) true (place_of q table) (same ∙ y) (place_of-old q table (text ∷ []) y) ∙ sym (number_of-at q table true (place_of q table) y refl))
    (λ n. number_of-at q (table ++ text ∷ []) false (place_of q (table ++ text ∷ [])) (same ∙ n) refl ∙ sym (number_of-at q table false (place_of q table) n refl))
    (cases_Bool (has q table))
  where
    or_false : (b : Bool) → (b || false) ≡ b
    or_false true = refl
    or_false false = refl

number_of-push : (q text : List ℕ) (table : List (List ℕ)) → has text table ≡ false → number_of q (table ++ text ∷ []) ≡ cond (bytes_eq text q) (Some (length table)) (number_of q table)
number_of-push q text table new =
    ⊎_elim
    (λ y. ap (λ q. number_of q (table ++ text ∷ [])) (sym ((bytes_decides text q).0 y))
    ∙ number_of-at text (table ++ text ∷ []) true (length table) (has_added text table) (place_of-new text table new)
    ∙ sym (cond-true (bytes_eq text q) (Some (length table)) (number_of q table) y))
    (λ n. number_of-old q text table n ∙ sym (cond-false (bytes_eq text q) (Some (length table)) (number_of q table) n))
    (cases_Bool (bytes_eq text q))

-- what a look-up says
pub found_there : (text : List ℕ) (table : List (List ℕ)) (n : ℕ) → number_of text table ≡ Some n → (has text table ≡ true) × (n ≡ place_of text table)
found_there text table n e = by (has text table) refl
  where
    by : (b : Bool) → has text table ≡ b → (has text table ≡ true) × (n ≡ place_of text table)
    by true h = (h, let told : number_of text table ≡ Some (place_of text table) = number_of-at text table true (place_of text table) h refl in cc)
    by false h = absurd (let untold : number_of text table ≡ None = number_of-at text table false (place_of text table) h refl in cc)

pub not_there : (text : List ℕ) (table : List (List ℕ)) → number_of text table ≡ None → has text table ≡ false
not_there text table e = by (has text table) refl
  where
    by : (b : Bool) → has text table ≡ b → has text table ≡ false
    by true h = absurd (let told : number_of text table ≡ Some (place_of text table) = number_of-at text table true (place_of text table) h refl in cc)
    by false h = h

-- ---- the index

-- after a text that was not there
pub finds_more : (text : List ℕ) (number : ℕ) (old new : Index) (table : List (List ℕ)) → has text table ≡ false → number ≡ length table →
    ((other : List ℕ) → AreBytes other → found new other ≡ cond (bytes_eq text other) (Some number) (found old other)) → FindsTexts old table → FindsTexts new (table ++ text ∷ [])
finds_more text number old new table new_text is more finds = λ other bytes.
    more other bytes ∙ ap (λ n. cond (bytes_eq text other) (Some n) (found old other)) is ∙ ap (λ n. cond (bytes_eq text other) (Some (length table)) n) (finds other bytes)
    ∙ sym (number_of-push other text table new_text)

-- ---- each text once

has_at : (table : List (List ℕ)) (at : ℕ) → at < length table → has (text_at table at) table ≡ true
has_at [] at lt = absurd (omega arith)
has_at (text ∷ table) zero lt = or_left (bytes_eq text text) (has text table) (is_itself text)
has_at (text ∷ table) (suc at) lt = or_right (bytes_eq text (text_at table at)) (has (text_at table at) table) (has_at table at (omega arith))

pub once_more : (text : List ℕ) (table : List (List ℕ)) → has text table ≡ false → AreOnce table → AreOnce (table ++ text ∷ [])
once_more text table new once = λ at lt. by at lt (eq-or-lt_of_le (within at lt))
  where
    within : (at : ℕ) → at < length (table ++ text ∷ []) → at ≤ length table
    within at lt = omega (arith, lt, length-append table (text ∷ []))

    by : (at : ℕ) → at < length (table ++ text ∷ []) → (at ≡ length table) ⊎ (at < length table) → place_of (text_at (table ++ text ∷ []) at) (table ++ text ∷ []) ≡ at
    by at lt (inl e) =
        let here : text_at (table ++ text ∷ []) at ≡ text = ap (λ k. text_at (table ++ text ∷ []) k) e ∙ get_or-append_seam table text [] [] in
        ap (λ t. place_of t (table ++ text ∷ [])) here ∙ place_of-new text table new ∙ sym e
    by at lt (inr less) =
        ap (λ t. place_of t (table ++ text ∷ [])) (get_or_append_left table (text ∷ []) [] at less) ∙ place_of-old (text_at table at) table (text ∷ []) (has_at table at less) ∙ once at less

-- ---- what a number stands for

pub number_within : (text : List ℕ) (table : List (List ℕ)) (n : ℕ) → number_of text table ≡ Some n → n < length table
number_within text table n e = let h = found_there text table n e in let within = place_within text table h.0 in omega (arith, h.1)

pub number_text : (text : List ℕ) (table : List (List ℕ)) (n : ℕ) → number_of text table ≡ Some n → text_at table n ≡ text
number_text text table n e = let h = found_there text table n e in ap (λ n. text_at table n) h.1 ∙ text_of_place text table h.0

pub new_number : (text : List ℕ) (old table : List (List ℕ)) (n : ℕ) → number_of text old ≡ None → n ≡ length old → table ≡ old ++ text ∷ [] → n ≡ place_of text table
new_number text old table n absent e is = e ∙ sym (place_of-new text old (not_there text old absent)) ∙ ap (λ t. place_of text t) (sym is)
