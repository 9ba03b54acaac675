-- A union's fields as a row and as a list.
use Rattle.std.proofs.Common.{◌≡◌, ℕ, suc, All, subst, sym, ap, ◌∙◌, List, ◌++◌, codes, refl}
use Rattle.std.proofs.lemmas.List.Elements.{All-head, All-tail}
use Rattle.kz_model.specs.declared.bundle.Kind.{Union', Row_of-Field, end_of-Field, more_of-Field, items-the_row-Field, Kind-F, roll-Kind}
use Rattle.kz_model.specs.declared.bundle.Kind.TheVariants.{Union}
use Rattle.kz_model.specs.declared.bundle.Kind.TheViews.{outs-Union', outs-Union, roll-out-Kind}
use Rattle.kz_model.specs.declared.bundle.Kind.TheBlock.{hidden-the_row-Field-0, items_hidden-the_row-Field-0, items_shown-the_row-Field-0}
use Rattle.kz_model.specs.declared.bundle.Field.{Field}
use Rattle.kz_model.specs.Grammar.Spelling.{kind_text, row_text, more_text, label_text, more_fields_text, fields_text, body_text, IsKind, AreFields, IsField}

-- a union by its row is the union of the row's fields
pub union_is : (shape : _) (row : _) → Union (items-the_row-Field _ row) ≡ Union' shape row
union_is shape row =
    sym (roll-out-Kind (Union (items-the_row-Field _ row)))
    ∙ ap roll-Kind (outs-Union (items-the_row-Field _ row) ∙ ap Kind-F.Union (sym (items_shown-the_row-Field-0 shape row)) ∙ sym (outs-Union' shape row))
    ∙ roll-out-Kind (Union' shape row)

-- ---- its text

more_is : {m : _} (row : Row_of-Field m) → more_text row ≡ more_fields_text (items-the_row-Field m row)
more_is end_of-Field = refl
more_is (more_of-Field kind name count rest) =
    ap (λ (more : List ℕ). ((codes "; " ++ kind_text kind) ++ codes " ") ++ label_text name count ++ more) (more_is rest)

row_is : {m : _} (row : Row_of-Field m) → row_text row ≡ fields_text (items-the_row-Field m row)
row_is end_of-Field = refl
row_is (more_of-Field kind name count rest) = ap (λ (more : List ℕ). ((codes " " ++ kind_text kind) ++ codes " ") ++ label_text name count ++ more) (more_is rest)

fields_is : (fields : List Field) → row_text (hidden-the_row-Field-0 fields) ≡ fields_text fields
fields_is fields = row_is (hidden-the_row-Field-0 fields) ∙ ap fields_text (items_hidden-the_row-Field-0 fields)

-- a body by its row
pub body_is : (fields : List Field) → body_text fields ≡ codes "{" ++ row_text (hidden-the_row-Field-0 fields) ++ codes " }"
body_is fields = ap (λ (text : List ℕ). codes "{" ++ text ++ codes " }") (sym (fields_is fields))

pub kind_text-union : (fields : List Field) → kind_text (Union fields) ≡ codes "union {" ++ fields_text fields ++ codes " }"
kind_text-union fields = ap (λ (text : List ℕ). codes "union {" ++ text ++ codes " }") (fields_is fields)

-- ---- what holds of its fields

are_row : {m : _} (deep : ℕ) (row : Row_of-Field m) → All (IsField deep) (items-the_row-Field m row) → AreFields deep row
are_row deep end_of-Field all = tt
are_row deep (more_of-Field kind name count rest) all =
    let P = IsField deep in
    (All-head P _ (items-the_row-Field _ rest) all, are_row deep rest (All-tail P _ (items-the_row-Field _ rest) all))

pub are_fields : (deep : ℕ) (fields : List Field) → All (IsField deep) fields → AreFields deep (hidden-the_row-Field-0 fields)
are_fields deep fields all = are_row deep (hidden-the_row-Field-0 fields) (subst (All (IsField deep)) (sym (items_hidden-the_row-Field-0 fields)) all)

-- a union of such fields is one deeper
pub is_union : (deep : ℕ) (fields : List Field) → All (IsField deep) fields → IsKind (suc deep) (Union fields)
is_union deep fields all = are_fields deep fields all
