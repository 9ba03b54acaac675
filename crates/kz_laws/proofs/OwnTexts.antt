-- In each bundle that a text spells, different names have different texts.
use Rattle.std.proofs.Common.{◌≡◌, inl, inr, ℕ, zero, suc, ◌<◌, ◌≤◌, ◌&&◌, true, false, if◌then◌else◌, List, [], ◌∷◌, ◌++◌, length, slice_index_or, Option, None, Some, Ok, Err, Result, refl, ap, sym, subst, ◌∙◌, arith, length-append}
use Rattle.std.specs.List.{fold}
use Rattle.std.proofs.Math.Seq.{get_or-append_seam}
use Rattle.std.proofs.lemmas.List.{get_or-map, get_or_append_left, length-map}
use Rattle.std.proofs.lemmas.Bool.{eq-eqb, cases_lt}
use Rattle.kz_model.specs.declared.bundle.NameRow.{NameRow}
use Rattle.kz_model.specs.declared.grammar.Refusal.{Refusal}
use Rattle.kz_model.specs.Grammar.Form.{Draft, form_of}
use Rattle.kz_model.specs.Grammar.Tokens.{is}
use Rattle.kz_model.specs.Grammar.Stages.{Row, row_of, is_there, binds, with_bound, with_row, CpuLine, rows_of, step_lines, type_names, place_of, bundle_of, unless, after_form, later_fault}
use Rattle.kz_laws.specs.Worlds.{text_of_name, HasOwnTexts, ReadNamesAreApart}

abbrev no_row : Row
no_row = record { name = []; of = []; cpu = 0 }

is_itself : (text : List ℕ) → is text text ≡ true
is_itself [] = refl
is_itself (x ∷ text) = ap (λ b. b && is text text) (eq-eqb x x refl) ∙ is_itself text

abbrev name_at : List Row → ℕ → List ℕ
name_at rows k = (slice_index_or rows k no_row).name

-- different rows have different names
abbrev AreRowsApart : List Row → Type 0
AreRowsApart rows = (j k : ℕ) → j < length rows → k < length rows → name_at rows j ≡ name_at rows k → j ≡ k

-- a name that no row has is at no place
not_there : (name : List ℕ) (rows : List Row) (k : ℕ) → is_there (row_of name rows) ≡ false → k < length rows →
    name_at rows k ≡ name → false ≡ true
not_there name [] k none lt same = absurd (omega arith)
not_there name (row ∷ rows) zero none lt same =
    let here : is name row.name ≡ true = subst (λ text. is text row.name ≡ true) same (is_itself row.name) in
    sym none ∙ ap (λ b. is_there (if b then Some row else row_of name rows)) here
not_there name (row ∷ rows) (suc k) none lt same =
    elim (is name row.name) as (λ b. is_there (if b then Some row else row_of name rows) ≡ false → false ≡ true) [
      | true ↦ λ e. sym e
      | false ↦ λ e. not_there name rows k e (omega arith) same
    ] none

one_more : (rows : List Row) (row : Row) → is_there (row_of row.name rows) ≡ false → AreRowsApart rows →
    AreRowsApart (rows ++ row ∷ [])
one_more rows row none apart j k in-j in-k same =
    let long = length-append rows (row ∷ []) in
    elim (cases_lt j (length rows)) [
      | inl j-old ↦
          elim (cases_lt k (length rows)) [
            | inl k-old ↦ apart j k j-old k-old (sym (old j j-old) ∙ same ∙ old k k-old)
            | inr k-new ↦ absurd (omega (arith, clash j j-old (sym (old j j-old) ∙ same ∙ new k (omega (arith, long)))))
          ]
      | inr j-new ↦
          elim (cases_lt k (length rows)) [
            | inl k-old ↦
                absurd (omega (arith, clash k k-old (sym (old k k-old) ∙ sym same ∙ new j (omega (arith, long)))))
            | inr k-new ↦ omega (arith, long)
          ]
    ]
  where
    old : (k : ℕ) → k < length rows → name_at (rows ++ row ∷ []) k ≡ name_at rows k
    old k lt = ap (λ (r : Row). r.name) (get_or_append_left rows (row ∷ []) no_row k lt)

    new : (k : ℕ) → k ≡ length rows → name_at (rows ++ row ∷ []) k ≡ row.name
    new k is =
        ap (λ k. name_at (rows ++ row ∷ []) k) is
        ∙ ap (λ (r : Row). r.name) (get_or-append_seam rows row [] no_row)

    clash : (k : ℕ) → k < length rows → name_at rows k ≡ row.name → 1 ≤ 0
    clash k lt same = let no = not_there row.name rows k none lt same in absurd (cc)

bound_apart : (rows : List Row) (cpu : ℕ) (bound : Option (List ℕ × List ℕ)) → AreRowsApart rows →
    AreRowsApart (with_bound rows cpu bound)
bound_apart rows cpu None apart = apart
bound_apart rows cpu (Some bound) apart =
    let row : Row = record { name = bound.0; of = bound.1; cpu = cpu } in
    elim (is_there (row_of bound.0 rows)) as (λ b. is_there (row_of bound.0 rows) ≡ b →
    AreRowsApart (if b then rows else rows ++ row ∷ [])) [
      | true ↦ λ e. apart
      | false ↦ λ e. one_more rows row e apart
    ] refl

rows_apart : (lines : List CpuLine) (rows : List Row) → AreRowsApart rows → AreRowsApart (fold with_row rows lines)
rows_apart [] rows apart = apart
rows_apart (line ∷ lines) rows apart =
    rows_apart lines (with_row rows line) (bound_apart rows line.0 (binds line.1.said) apart)

-- a row as the bundle has it
abbrev row_in : List (List ℕ) → Row → NameRow
row_in types row = record { name = row.name; of = place_of row.of types }

bundle_texts : (d : Draft) → HasOwnTexts (bundle_of d)
bundle_texts d one other in-one in-other same =
    rows_apart (step_lines d) [] (λ j k in-j in-k same. absurd (omega arith)) one other
    (row_there one in-one) (row_there other in-other)
    (sym (text one in-one) ∙ same ∙ text other in-other)
  where
    row_there : (k : ℕ) → k < length (bundle_of d).names → k < length (rows_of (step_lines d))
    row_there k lt = subst (λ n. k < n) (length-map (rows_of (step_lines d)) (row_in (type_names d))) lt

    text : (k : ℕ) → k < length (bundle_of d).names → text_of_name (bundle_of d) k ≡ name_at (rows_of (step_lines d)) k
    text k lt =
        ap (λ (r : NameRow). r.name)
        (get_or-map (row_in (type_names d)) (rows_of (step_lines d)) k no_row (record { name = []; of = 0 })
        (row_there k lt))

pub read_names_are_apart : ReadNamesAreApart
read_names_are_apart bytes b e = by_form (form_of bytes) e
  where
    by_form : (o : Result Draft Refusal) → after_form o ≡ Ok b → HasOwnTexts b
    by_form (Err refusal) e = absurd (cc)
    by_form (Ok d) e = by_fault (later_fault d) e
      where
        by_fault : (o : Option Refusal) → unless d o ≡ Ok b → HasOwnTexts b
        by_fault None e = let same : bundle_of d ≡ b = cc in subst HasOwnTexts same (bundle_texts d)
        by_fault (Some refusal) e = absurd (cc)
