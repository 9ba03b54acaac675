-- The rows of names that lines bind, line by line.
use Rattle.std.proofs.Common.{◌≡◌, ◌⊎◌, inl, inr, ⊎_elim, ℕ, if◌then◌else◌, List, [], ◌∷◌, ◌++◌, fold, Option, Some, None, refl, ap, sym, ◌∙◌, subst}
use Rattle.std.specs.Prelude.{Contains}
use Rattle.std.specs.Str.{bytes_eq}
use Rattle.std.specs.Cmp.Lexicographic.{bytes_decides}
use Rattle.std.proofs.lemmas.Bool.{cases_Bool, cond-true, cond-false}
use Rattle.kz_model.specs.Grammar.Steps.{NamedStep, Alloc, AllocZero, Free, FreeAs, Give, Take, Read, Write, Flush, Trim}
use Rattle.kz_model.specs.Grammar.Stages.{Row, row_of, is_there, binds, with_bound, with_row, CpuLine}
use Rattle.kz_grammar.specs.Names.{Allocates, IsBound}
use Rattle.kz_grammar.proofs.Members.{contains_first, contains_later, contains_cases, contains_none}
use Rattle.kz_bundle.proofs.EntryRows.{row_of-found, row_of-last}
use Rattle.kz_bundle.proofs.Choices.{found_same, none_found}

-- ---- what a line binds

pub is_binding : (line : CpuLine) (name of : List ℕ) → Allocates line name of → binds line.1.said ≡ Some (name, of)
is_binding line name of is = ⊎_elim (λ e. ap binds e) (λ e. ap binds e) is

by_said : (said : NamedStep) (bound : List ℕ × List ℕ) → binds said ≡ Some bound → (said ≡ Alloc bound.0 bound.1) ⊎ (said ≡ AllocZero bound.0 bound.1)
by_said (Alloc name of) bound e = inl (ap (λ (b : List ℕ × List ℕ). Alloc b.0 b.1) (found_same (name, of) bound e))
by_said (AllocZero name of) bound e = inr (ap (λ (b : List ℕ × List ℕ). AllocZero b.0 b.1) (found_same (name, of) bound e))
by_said (Free name) bound e = none_found bound e
by_said (FreeAs name of) bound e = none_found bound e
by_said (Give name to) bound e = none_found bound e
by_said (Take name) bound e = none_found bound e
by_said (Read name off len) bound e = none_found bound e
by_said (Write name off bytes) bound e = none_found bound e
by_said (Flush of) bound e = none_found bound e
by_said (Trim of) bound e = none_found bound e

pub is_allocation : (line : CpuLine) (bound : List ℕ × List ℕ) → binds line.1.said ≡ Some bound → Allocates line bound.0 bound.1
is_allocation line bound e = by_said line.1.said bound e

-- ---- one more line

abbrev pub new_row : ℕ → List ℕ × List ℕ → Row
new_row cpu bound = record { name = bound.0; of = bound.1; cpu = cpu }

pub with_bound-old : (rows : List Row) (cpu : ℕ) (bound : List ℕ × List ℕ) (row : Row) → row_of bound.0 rows ≡ Some row → with_bound rows cpu (Some bound) ≡ rows
with_bound-old rows cpu bound row e = ap (λ (o : Option Row). if is_there o then rows else rows ++ new_row cpu bound ∷ []) e

pub with_bound-new : (rows : List Row) (cpu : ℕ) (bound : List ℕ × List ℕ) → row_of bound.0 rows ≡ None → with_bound rows cpu (Some bound) ≡ rows ++ new_row cpu bound ∷ []
with_bound-new rows cpu bound e = ap (λ (o : Option Row). if is_there o then rows else rows ++ new_row cpu bound ∷ []) e

-- a row that is there stays
pub row_stays : (name : List ℕ) (rows : List Row) (row : Row) (cpu : ℕ) (o : Option (List ℕ × List ℕ)) → row_of name rows ≡ Some row → row_of name (with_bound rows cpu o) ≡ Some row
row_stays name rows row cpu None e = e
row_stays name rows row cpu (Some bound) e = by_row (row_of bound.0 rows) refl
  where
    by_row : (found : Option Row) → row_of bound.0 rows ≡ found → row_of name (with_bound rows cpu (Some bound)) ≡ Some row
    by_row None f = ap (row_of name) (with_bound-new rows cpu bound f) ∙ row_of-found name rows (new_row cpu bound ∷ []) row e
    by_row (Some other) f = ap (row_of name) (with_bound-old rows cpu bound other f) ∙ e

-- the row of a name that is bound for the first time
pub row_is_new : (rows : List Row) (cpu : ℕ) (bound : List ℕ × List ℕ) → row_of bound.0 rows ≡ None → row_of bound.0 (with_bound rows cpu (Some bound)) ≡ Some (new_row cpu bound)
row_is_new rows cpu bound e =
    ap (row_of bound.0) (with_bound-new rows cpu bound e)
    ∙ row_of-last bound.0 rows (new_row cpu bound) e
    ∙ cond-true (bytes_eq bound.0 bound.0) (Some (new_row cpu bound)) None ((bytes_decides bound.0 bound.0).1 refl)

-- a row was there, or is that of the line
pub record IsNew (row : Row) (name : List ℕ) (cpu : ℕ) (o : Option (List ℕ × List ℕ)) : Type 0 where
  pub bound : o ≡ Some (name, row.of)
  pub on : cpu ≡ row.cpu

pub row_from : (name : List ℕ) (rows : List Row) (row : Row) (cpu : ℕ) (o : Option (List ℕ × List ℕ)) → row_of name (with_bound rows cpu o) ≡ Some row → (row_of name rows ≡ Some row) ⊎ IsNew row name cpu o
row_from name rows row cpu None e = inl e
row_from name rows row cpu (Some bound) e = by_row (row_of bound.0 rows) refl
  where
    is_of : (found : Row) → found ≡ row → bound.0 ≡ name → found ≡ new_row cpu bound → IsNew row name cpu (Some bound)
    is_of found is named new =
        let of : row ≡ new_row cpu bound = sym is ∙ new in
        record { bound = ap (λ (n : List ℕ). Some (n, bound.1)) named ∙ ap (λ (t : List ℕ). Some (name, t)) (sym (ap (λ (r : Row). r.of) of)); on = sym (ap (λ (r : Row). r.cpu) of) }

    last : row_of bound.0 rows ≡ None → row_of name rows ≡ None → (row_of name rows ≡ Some row) ⊎ IsNew row name cpu (Some bound)
    last f g =
        let told : (if bytes_eq bound.0 name then Some (new_row cpu bound) else None) ≡ Some row =
        sym (row_of-last name rows (new_row cpu bound) g) ∙ sym (ap (row_of name) (with_bound-new rows cpu bound f)) ∙ e in
        ⊎_elim
        (λ y. inr (is_of (new_row cpu bound) (found_same (new_row cpu bound) row (sym (cond-true (bytes_eq bound.0 name) (Some (new_row cpu bound)) None y) ∙ told)) ((bytes_decides bound.0 name).0 y) refl))
        (λ n. absurd (none row (sym (cond-false (bytes_eq bound.0 name) (Some (new_row cpu bound)) None n) ∙ told)))
        (cases_Bool (bytes_eq bound.0 name))
      where
        none : (row : Row) → None ≡ Some row → ⊥
        none row e = cc

    by_old : row_of bound.0 rows ≡ None → (old : Option Row) → row_of name rows ≡ old → (row_of name rows ≡ Some row) ⊎ IsNew row name cpu (Some bound)
    by_old f None g = last f g
    by_old f (Some old) g = inl (g ∙ sym (row_of-found name rows (new_row cpu bound ∷ []) old g) ∙ sym (ap (row_of name) (with_bound-new rows cpu bound f)) ∙ e)

    by_row : (found : Option Row) → row_of bound.0 rows ≡ found → (row_of name rows ≡ Some row) ⊎ IsNew row name cpu (Some bound)
    by_row None f = by_old f (row_of name rows) refl
    by_row (Some other) f = inl (ap (row_of name) (sym (with_bound-old rows cpu bound other f)) ∙ e)

-- ---- all lines

-- one of these lines is the row's
pub record HasFirst (lines : List CpuLine) (name : List ℕ) (row : Row) : Type 0 where
  pub line : CpuLine
  pub there : Contains lines line
  pub allocates : Allocates line name row.of
  pub on : line.0 ≡ row.cpu

pub is_bound : (lines : List CpuLine) (name : List ℕ) (row : Row) → HasFirst lines name row → IsBound lines name
is_bound lines name row first = record { line = first.line; of = row.of; there = first.there; allocates = first.allocates }

pub rows_stay : (name : List ℕ) (rows : List Row) (row : Row) (lines : List CpuLine) → row_of name rows ≡ Some row → row_of name (fold with_row rows lines) ≡ Some row
rows_stay name rows row [] e = e
rows_stay name rows row (line ∷ lines) e = rows_stay name (with_row rows line) row lines (row_stays name rows row line.0 (binds line.1.said) e)

-- a name that has a row
abbrev pub HasRow : List ℕ → List Row → Type 0
HasRow name rows = (row : Row) × (row_of name rows ≡ Some row)

pub line_has_row : (rows : List Row) (line : CpuLine) (name of : List ℕ) → Allocates line name of → HasRow name (with_row rows line)
line_has_row rows line name of is = by_row (row_of name rows) refl
  where
    bound : with_row rows line ≡ with_bound rows line.0 (Some (name, of))
    bound = ap (with_bound rows line.0) (is_binding line name of is)

    by_row : (found : Option Row) → row_of name rows ≡ found → HasRow name (with_row rows line)
    by_row None f = (new_row line.0 (name, of), ap (row_of name) bound ∙ row_is_new rows line.0 (name, of) f)
    by_row (Some row) f = (row, row_stays name rows row line.0 (binds line.1.said) f)

pub bound_has_row : (rows : List Row) (lines : List CpuLine) (line : CpuLine) (name of : List ℕ) → Contains lines line → Allocates line name of → HasRow name (fold with_row rows lines)
bound_has_row rows [] line name of there is = contains_none line there
bound_has_row rows (first ∷ lines) line name of there is =
    ⊎_elim
    (λ here. let row = line_has_row rows first name of (subst (λ (l : CpuLine). Allocates l name of) (sym here) is) in (row.0, rows_stay name (with_row rows first) row.0 lines row.1))
    (λ later. bound_has_row (with_row rows first) lines line name of later is)
    (contains_cases first lines line there)

pub rows_from : (name : List ℕ) (rows : List Row) (row : Row) (lines : List CpuLine) → row_of name (fold with_row rows lines) ≡ Some row → (row_of name rows ≡ Some row) ⊎ HasFirst lines name row
rows_from name rows row [] e = inl e
rows_from name rows row (line ∷ lines) e =
    ⊎_elim
    (λ before. ⊎_elim
    (λ old. inl old)
    (λ new. inr (record { line = line; there = contains_first line lines; allocates = is_allocation line (name, row.of) new.bound; on = new.on }))
    (row_from name rows row line.0 (binds line.1.said) before))
    (λ first. inr (record { line = first.line; there = contains_later line lines first.line first.there; allocates = first.allocates; on = first.on }))
    (rows_from name (with_row rows line) row lines e)
