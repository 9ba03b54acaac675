-- The text of a body holds no byte below the space.
use Rattle.std.proofs.Common.{◌≡◌, ℕ, zero, suc, true, List, ◌++◌, codes, decimal, All, refl, ap, ◌∙◌, arith}
use Rattle.kz_model.specs.declared.bundle.Kind.{Kind, Union', Row_of-Field, end_of-Field, more_of-Field}
use Rattle.kz_model.specs.declared.bundle.Kind.TheVariants.{Ptr, Auth, U8, U16, U32, U64, Bytes, Struct}
use Rattle.kz_model.specs.declared.bundle.Kind.TheBlock.{hidden-the_row-Field-0}
use Rattle.kz_model.specs.declared.bundle.Field.{Field}
use Rattle.kz_model.specs.Grammar.Spelling.{label_text, kind_text, row_text, more_text, body_text, IsFrom, IsKind, AreFields, IsField}
use Rattle.kz_bundle.proofs.Choices.{all_append}
use Rattle.kz_bundle.proofs.Splits.{is_inked, inked, inked_dark}
use Rattle.kz_bundle.proofs.NumberTexts.{decimal_dark}
use Rattle.kz_bundle.proofs.NameTexts.{name_dark}
use Rattle.kz_bundle.proofs.LabelTexts.{label_dark}
use Rattle.kz_bundle.proofs.UnionRows.{body_is, are_fields}

joined : (a b : List ℕ) → inked a ≡ true → inked b ≡ true → inked (a ++ b) ≡ true
joined a b e f = all_append is_inked a b e f

size_inked : (size : ℕ) → IsFrom 1 8192 size → inked (decimal size) ≡ true
size_inked size range = inked_dark (decimal size) (decimal_dark size (omega (arith, range.1)))

field_inked : (first kind label more : List ℕ) → inked first ≡ true → inked kind ≡ true → inked label ≡ true → inked more ≡ true → inked (((first ++ kind) ++ codes " ") ++ label ++ more) ≡ true
field_inked first kind label more f k l m =
    joined (((first ++ kind) ++ codes " ") ++ label) more (joined ((first ++ kind) ++ codes " ") label (joined (first ++ kind) (codes " ") (joined first kind f k) refl) l) m

mutual
  kind_inked : (deep : ℕ) (kind : Kind) → IsKind deep kind → inked (kind_text kind) ≡ true
  kind_inked deep Ptr is = refl
  kind_inked deep Auth is = refl
  kind_inked deep U8 is = refl
  kind_inked deep U16 is = refl
  kind_inked deep U32 is = refl
  kind_inked deep U64 is = refl
  kind_inked deep (Bytes size) is = joined (codes "bytes ") (decimal size) refl (size_inked size is)
  kind_inked deep (Struct of) is = joined (codes "struct ") of refl (inked_dark of (name_dark of is))
  kind_inked zero (Union' shape row) is = absurd is
  kind_inked (suc deep) (Union' shape row) is = joined (codes "union {" ++ row_text row) (codes " }") (joined (codes "union {") (row_text row) refl (row_inked deep row is)) refl

  row_inked : {m : _} (deep : ℕ) (row : Row_of-Field m) → AreFields deep row → inked (row_text row) ≡ true
  row_inked deep end_of-Field are = refl
  row_inked deep (more_of-Field kind name count rest) are =
      field_inked (codes " ") (kind_text kind) (label_text name count) (more_text rest) refl (kind_inked deep kind are.0.0) (inked_dark (label_text name count) (label_dark name count are.0.1 are.0.2)) (more_inked deep rest are.1)

  more_inked : {m : _} (deep : ℕ) (row : Row_of-Field m) → AreFields deep row → inked (more_text row) ≡ true
  more_inked deep end_of-Field are = refl
  more_inked deep (more_of-Field kind name count rest) are =
      field_inked (codes "; ") (kind_text kind) (label_text name count) (more_text rest) refl (kind_inked deep kind are.0.0) (inked_dark (label_text name count) (label_dark name count are.0.1 are.0.2)) (more_inked deep rest are.1)

pub body_inked : (fields : List Field) → All (IsField 8) fields → inked (body_text fields) ≡ true
body_inked fields are =
    let row = hidden-the_row-Field-0 fields in
    ap inked (body_is fields) ∙ joined (codes "{" ++ row_text row) (codes " }") (joined (codes "{") (row_text row) refl (row_inked 8 row (are_fields 8 fields are))) refl
