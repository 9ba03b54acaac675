-- Rows and their names: which are there, and that no two are equal.
use Rattle.std.proofs.Common.{◌≡◌, ◌≢◌, ⊎_elim, ℕ, true, false, List, [], ◌∷◌, ◌++◌, Some, None, sym, ◌∙◌, subst}
use Rattle.std.specs.Prelude.{Contains}
use Rattle.std.specs.Str.{bytes_eq}
use Rattle.std.specs.Cmp.Lexicographic.{bytes_decides}
use Rattle.std.proofs.lemmas.Bool.{cases_Bool, cond-true, cond-false}
use Rattle.std.proofs.lemmas.List.{map-append}
use Rattle.std.proofs.lemmas.List.Elements.{Contains-get_or}
use Rattle.std.proofs.lemmas.List.Quantifiers.{all_pairs_push}
use Rattle.kz_model.specs.Grammar.Stages.{Row, row_of, row_names}
use Rattle.kz_grammar.specs.Names.{AreDifferent}
use Rattle.kz_grammar.proofs.Members.{contains_first, contains_later, contains_cases, contains_none}
use Rattle.kz_grammar.proofs.RowFacts.{HasRow}

-- a name among those of rows has a row
pub named_has_row : (name : List ℕ) (rows : List Row) → Contains (row_names rows) name → HasRow name rows
named_has_row name [] there = contains_none name there
named_has_row name (row ∷ rows) there =
    ⊎_elim
    (λ y. (row, cond-true (bytes_eq row.name name) (Some row) (row_of name rows) y))
    (λ n. let rest = named_has_row name rows (later n) in (rest.0, cond-false (bytes_eq row.name name) (Some row) (row_of name rows) n ∙ rest.1))
    (cases_Bool (bytes_eq row.name name))
  where
    later : bytes_eq row.name name ≡ false → Contains (row_names rows) name
    later n =
        ⊎_elim
        (λ here. absurd (let same : bytes_eq row.name name ≡ true = (bytes_decides row.name name).1 here in cc))
        (λ later. later)
        (contains_cases row.name (row_names rows) name there)

-- a name that has a row is among those of rows
pub row_has_name : (name : List ℕ) (rows : List Row) (row : Row) → row_of name rows ≡ Some row → Contains (row_names rows) name
row_has_name name [] row e = absurd (cc)
row_has_name name (first ∷ rows) row e =
    ⊎_elim
    (λ y. subst (Contains (first.name ∷ row_names rows)) ((bytes_decides first.name name).0 y) (contains_first first.name (row_names rows)))
    (λ n. contains_later first.name (row_names rows) name (row_has_name name rows row (sym (cond-false (bytes_eq first.name name) (Some first) (row_of name rows) n) ∙ e)))
    (cases_Bool (bytes_eq first.name name))

no_row : (name : List ℕ) (rows : List Row) (row : Row) → row_of name rows ≡ None → row_of name rows ≡ Some row → ⊥
no_row name rows row e f = cc

-- one row more, of a name that had none
pub names_differ : (rows : List Row) (new : Row) → AreDifferent (row_names rows) → row_of new.name rows ≡ None → AreDifferent (row_names (rows ++ new ∷ []))
names_differ rows new differ e =
    subst AreDifferent (sym (map-append (λ (row : Row). row.name) rows (new ∷ [])))
    (all_pairs_push (λ one other. one ≢ other) (row_names rows) new.name differ
    (λ k d lt same. let row = named_has_row new.name rows (subst (Contains (row_names rows)) same (Contains-get_or (row_names rows) k d lt)) in no_row new.name rows row.0 e row.1))
