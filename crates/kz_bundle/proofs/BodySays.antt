-- What the words of a body say: the text of the fields that are read.
use Rattle.std.proofs.Common.{◌≡◌, ℕ, suc, ◌+◌, ◌-◌, ◌≤◌, ◌&&◌, Bool, true, false, nat_lt, if◌then◌else◌, List, [], ◌∷◌, ◌++◌, length, codes, Option, Some, None, All, refl, ap, sym, ◌∙◌, arith, subst, append_assoc, append-nil}
use Rattle.std.specs.Option.{option_map_or}
use Rattle.std.proofs.lemmas.List.{length_push}
use Rattle.std.proofs.lemmas.List.Elements.{All-nil, All-push}
use Rattle.kz_model.specs.declared.bundle.Kind.{Kind}
use Rattle.kz_model.specs.declared.bundle.Kind.TheVariants.{Ptr, Auth, U8, U16, U32, U64, Bytes, Struct, Union}
use Rattle.kz_model.specs.declared.bundle.Field.{Field}
use Rattle.kz_model.specs.declared.grammar.Mark.{Mark}
use Rattle.kz_model.specs.declared.grammar.Mark.TheVariants.{Fine}
use Rattle.kz_model.specs.Grammar.Tokens.{is, is_name, is_run, number_in}
use Rattle.kz_model.specs.Grammar.TypeLine.{ends_with, without_last, label}
use Rattle.kz_bundle.specs.BodyStates.{Next, Open, First, More, Size, Of, Label, Close, Done, Body, with_field, labelled, of_kind, kinded, closed, sized, next_word, body_of}
use Rattle.kz_model.specs.Grammar.Spelling.{spaced, label_text, kind_text, field_text, more_fields_text, fields_text, body_text, IsName, IsFrom, IsKind, IsField}
use Rattle.kz_bundle.proofs.Choices.{left, right, found_same, none_found, chosen, only, is_same, has_last}
use Rattle.kz_bundle.proofs.Splits.{after_spaces}
use Rattle.kz_bundle.proofs.NumberTexts.{ranged_is}
use Rattle.kz_bundle.proofs.StepTexts.{worse_left, worse_right}
use Rattle.kz_bundle.proofs.LabelTexts.{last_byte, label_says}
use Rattle.kz_bundle.proofs.UnionRows.{kind_text-union, is_union}
use Rattle.kz_bundle.proofs.BodyReads.{closed_union}

-- ---- the words so far, each after a space

-- fields that others follow
abbrev pub open_fields : List Field → List ℕ
open_fields [] = []
open_fields (f ∷ fields) = 32 ∷ (field_text f ++ 59 ∷ open_fields fields)

-- the bodies around a union
abbrev pub around : List (List Field) → List ℕ
around [] = []
around (fields ∷ outer) = 32 ∷ 123 ∷ (open_fields fields ++ (codes " union" ++ around outer))

-- the innermost body
abbrev pub inside : List Field → Next → List ℕ
inside fields Open = []
inside fields First = 32 ∷ 123 ∷ open_fields fields
inside fields More = 32 ∷ 123 ∷ open_fields fields
inside fields Size = 32 ∷ 123 ∷ (open_fields fields ++ codes " bytes")
inside fields Of = 32 ∷ 123 ∷ (open_fields fields ++ codes " struct")
inside fields (Label kind) = 32 ∷ 123 ∷ (open_fields fields ++ 32 ∷ kind_text kind)
inside fields Close = 32 ∷ 123 ∷ fields_text fields
inside fields Done = 32 ∷ body_text fields

abbrev pub consumed : Body → List ℕ
consumed b = around b.outer ++ inside b.fields b.next

-- ---- what holds of each body

-- the fields of each body around another are in their ranges
abbrev pub AreAround : ℕ → List (List Field) → Type 0
AreAround deep [] = Unit {0}
AreAround deep (fields ∷ outer) = All (IsField deep) fields × AreAround (deep - 1) outer

-- what is next fits these fields, and the bodies around them
abbrev pub FitsNext : ℕ → List (List Field) → List Field → Next → Type 0
FitsNext deep outer fields Open = fields ≡ []
FitsNext deep outer fields First = fields ≡ []
FitsNext deep outer fields (Label kind) = IsKind deep kind
FitsNext deep outer fields Done = outer ≡ []
FitsNext deep outer fields next = Unit {0}

pub record IsSound (b : Body) : Type 0 where
  pub few : length b.outer ≤ 8
  pub outer : AreAround 8 b.outer
  pub fields : All (IsField (8 - length b.outer)) b.fields
  pub next : FitsNext (8 - length b.outer) b.outer b.fields b.next

-- with one word more, where the numbers are in their ranges
abbrev AddsWord : List ℕ → List ℕ → Body → Type 0
AddsWord text word more = more.mark ≡ Fine → (consumed more ≡ text ++ 32 ∷ word) × IsSound more

adds_same : (text word : List ℕ) (a more : Body) → Some a ≡ Some more → AddsWord text word a → AddsWord text word more
adds_same text word a more e adds = subst (AddsWord text word) (found_same a more e) adds

-- ---- lists of bodies

around-push : (outer : List (List Field)) (fields : List Field) → around (outer ++ fields ∷ []) ≡ around outer ++ (32 ∷ 123 ∷ (open_fields fields ++ codes " union"))
around-push [] fields = refl
around-push (first ∷ outer) fields =
    ap (λ (more : List ℕ). 32 ∷ 123 ∷ (open_fields first ++ (codes " union" ++ more))) (around-push outer fields)
    ∙ ap (λ (more : List ℕ). 32 ∷ 123 ∷ more) (sym (append_assoc (open_fields first) (codes " union" ++ around outer) (32 ∷ 123 ∷ (open_fields fields ++ codes " union"))))

are_around-push : (deep : ℕ) (outer : List (List Field)) (fields : List Field) → AreAround deep outer → All (IsField (deep - length outer)) fields → AreAround deep (outer ++ fields ∷ [])
are_around-push deep [] fields are all = (subst (λ d. All (IsField d) fields) (none deep) all, tt)
  where
    none : (deep : ℕ) → deep - 0 ≡ deep
    none deep = omega arith
are_around-push deep (first ∷ outer) fields are all = (are.0, are_around-push (deep - 1) outer fields are.1 (subst (λ d. All (IsField d) fields) (less deep (length outer)) all))
  where
    less : (deep n : ℕ) → deep - suc n ≡ deep - 1 - n
    less deep n = omega arith

-- the bodies before the last, and the last
are_around-pop : (deep : ℕ) (outer : List (List Field)) (fields : List Field) → AreAround deep (outer ++ fields ∷ []) → AreAround deep outer × All (IsField (deep - length outer)) fields
are_around-pop deep [] fields are = (tt, subst (λ d. All (IsField d) fields) (none deep) are.0)
  where
    none : (deep : ℕ) → deep ≡ deep - 0
    none deep = omega arith
are_around-pop deep (first ∷ outer) fields are =
    let rest = are_around-pop (deep - 1) outer fields are.1 in
    ((are.0, rest.0), subst (λ d. All (IsField d) fields) (less deep (length outer)) rest.1)
  where
    less : (deep n : ℕ) → deep - 1 - n ≡ deep - suc n
    less deep n = omega arith

-- ---- fields

open_fields-push : (fields : List Field) (f : Field) → open_fields (fields ++ f ∷ []) ≡ open_fields fields ++ 32 ∷ (field_text f ++ 59 ∷ [])
open_fields-push [] f = refl
open_fields-push (first ∷ fields) f =
    ap (λ (more : List ℕ). 32 ∷ (field_text first ++ 59 ∷ more)) (open_fields-push fields f)
    ∙ ap (λ (more : List ℕ). 32 ∷ more) (sym (append_assoc (field_text first) (59 ∷ open_fields fields) (32 ∷ (field_text f ++ 59 ∷ []))))

more_fields-push : (fields : List Field) (f : Field) → more_fields_text (fields ++ f ∷ []) ≡ 59 ∷ (open_fields fields ++ 32 ∷ field_text f)
more_fields-push [] f = append-nil (codes "; " ++ field_text f)
more_fields-push (first ∷ fields) f =
    ap (λ (more : List ℕ). (codes "; " ++ field_text first) ++ more) (more_fields-push fields f)
    ∙ ap (λ (more : List ℕ). 59 ∷ 32 ∷ more) (sym (append_assoc (field_text first) (59 ∷ open_fields fields) (32 ∷ field_text f)))

fields-push : (fields : List Field) (f : Field) → fields_text (fields ++ f ∷ []) ≡ open_fields fields ++ 32 ∷ field_text f
fields-push [] f = append-nil (32 ∷ field_text f)
fields-push (first ∷ fields) f =
    ap (λ (more : List ℕ). (32 ∷ field_text first) ++ more) (more_fields-push fields f)
    ∙ ap (λ (more : List ℕ). 32 ∷ more) (sym (append_assoc (field_text first) (59 ∷ open_fields fields) (32 ∷ field_text f)))

-- ---- one word more

-- what follows the text of the bodies around
adds_word : (outer x y word : List ℕ) → y ≡ x ++ 32 ∷ word → outer ++ y ≡ (outer ++ x) ++ 32 ∷ word
adds_word outer x y word e = ap (λ (y : List ℕ). outer ++ y) e ∙ sym (append_assoc outer x (32 ∷ word))

module _ (outer : List (List Field)) (fields : List Field) (mark : Mark) where
  abbrev in_body : Next → Body
  in_body next = record { outer = outer; fields = fields; mark = mark; next = next }

  module _ (few : length outer ≤ 8) (are : AreAround 8 outer) (all : All (IsField (8 - length outer)) fields) (word : List ℕ) where
    abbrev after_kinds : List ℕ
    after_kinds = around outer ++ (32 ∷ 123 ∷ open_fields fields)

    -- a word and what is next
    to_next : (given : List ℕ) (next : Next) → word ≡ given → inside fields next ≡ 32 ∷ 123 ∷ (open_fields fields ++ 32 ∷ given) → FitsNext (8 - length outer) outer fields next → AddsWord after_kinds word (in_body next)
    to_next given next same text is fine = (
      adds_word (around outer) (32 ∷ 123 ∷ open_fields fields) (inside fields next) word (text ∙ ap (λ (w : List ℕ). 32 ∷ 123 ∷ (open_fields fields ++ 32 ∷ w)) (sym same)),
      record { few = few; outer = are; fields = all; next = is },
    )

    opened : nat_lt (length outer) 8 ≡ true → word ≡ codes "union" → AddsWord after_kinds word (record { outer = outer ++ fields ∷ []; fields = []; mark = mark; next = Open })
    opened less same fine = (
      append-nil (around (outer ++ fields ∷ [])) ∙ around-push outer fields
          ∙ adds_word (around outer) (32 ∷ 123 ∷ open_fields fields) (32 ∷ 123 ∷ (open_fields fields ++ codes " union")) word (ap (λ (w : List ℕ). 32 ∷ 123 ∷ (open_fields fields ++ 32 ∷ w)) (sym same)),
      record { few = one_more (length outer) (length (outer ++ fields ∷ [])) less (length_push outer fields); outer = are_around-push 8 outer fields are all; fields = All-nil (IsField _); next = refl },
    )
      where
        one_more : (n m : ℕ) → nat_lt n 8 ≡ true → m ≡ n + 1 → m ≤ 8
        one_more n m less e = grind arith

    kinded_says : (next : Next) (more : Body) → kinded (in_body next) word ≡ Some more → AddsWord after_kinds word more
    kinded_says next more =
        chosen (is (codes "ptr") word) _ _ _ (λ t e. adds_same after_kinds word (in_body (Label Ptr)) more e (to_next (codes "ptr") (Label Ptr) (is_same (codes "ptr") word t) refl tt))
        (λ f. chosen (is (codes "auth") word) _ _ _ (λ t e. adds_same after_kinds word (in_body (Label Auth)) more e (to_next (codes "auth") (Label Auth) (is_same (codes "auth") word t) refl tt))
        (λ f. chosen (is (codes "u8") word) _ _ _ (λ t e. adds_same after_kinds word (in_body (Label U8)) more e (to_next (codes "u8") (Label U8) (is_same (codes "u8") word t) refl tt))
        (λ f. chosen (is (codes "u16") word) _ _ _ (λ t e. adds_same after_kinds word (in_body (Label U16)) more e (to_next (codes "u16") (Label U16) (is_same (codes "u16") word t) refl tt))
        (λ f. chosen (is (codes "u32") word) _ _ _ (λ t e. adds_same after_kinds word (in_body (Label U32)) more e (to_next (codes "u32") (Label U32) (is_same (codes "u32") word t) refl tt))
        (λ f. chosen (is (codes "u64") word) _ _ _ (λ t e. adds_same after_kinds word (in_body (Label U64)) more e (to_next (codes "u64") (Label U64) (is_same (codes "u64") word t) refl tt))
        (λ f. chosen (is (codes "bytes") word) _ _ _ (λ t e. adds_same after_kinds word (in_body Size) more e (to_next (codes "bytes") Size (is_same (codes "bytes") word t) refl tt))
        (λ f. chosen (is (codes "struct") word) _ _ _ (λ t e. adds_same after_kinds word (in_body Of) more e (to_next (codes "struct") Of (is_same (codes "struct") word t) refl tt))
        (λ f. only (is (codes "union") word && nat_lt (length outer) 8) _ _
        (λ t e. adds_same after_kinds word (record { outer = outer ++ fields ∷ []; fields = []; mark = mark; next = Open }) more e
        (opened (right (is (codes "union") word) (nat_lt (length outer) 8) t) (is_same (codes "union") word (left (is (codes "union") word) (nat_lt (length outer) 8) t))))))))))))

    -- the number of `bytes`
    sized_says : (more : Body) → (if is_run word then Some (sized (in_body Size) (number_in 1 8192 word)) else None) ≡ Some more → AddsWord (around outer ++ inside fields Size) word more
    sized_says more =
        only (is_run word) _ _ (λ t e. adds_same (around outer ++ inside fields Size) word (sized (in_body Size) (number_in 1 8192 word)) more e (λ fine.
        let number = ranged_is 1 8192 word (worse_right mark (number_in 1 8192 word).1 fine) in (
          adds_word (around outer) (inside fields Size) (inside fields (Label (Bytes (number_in 1 8192 word).0))) word
              (ap (λ (w : List ℕ). 32 ∷ 123 ∷ (open_fields fields ++ (codes " bytes " ++ w))) (sym number.0) ∙ ap (λ (text : List ℕ). 32 ∷ 123 ∷ text) (sym (append_assoc (open_fields fields) (codes " bytes") (32 ∷ word)))),
          record { few = few; outer = are; fields = all; next = number.1 },
        )))

    -- the NAME of `struct`
    of_says : (more : Body) → (if is_name word then of_kind (in_body Of) (Struct word) else None) ≡ Some more → AddsWord (around outer ++ inside fields Of) word more
    of_says more =
        only (is_name word) _ _ (λ t e. adds_same (around outer ++ inside fields Of) word (in_body (Label (Struct word))) more e (λ fine. (
          adds_word (around outer) (inside fields Of) (inside fields (Label (Struct word))) word (ap (λ (text : List ℕ). 32 ∷ 123 ∷ text) (sym (append_assoc (open_fields fields) (codes " struct") (32 ∷ word)))),
          record { few = few; outer = are; fields = all; next = t },
        )))

    module _ (kind : Kind) (is : IsKind (8 - length outer) kind) where
      abbrev before_label : List ℕ
      before_label = around outer ++ inside fields (Label kind)

      -- a field's text after the fields before it
      field_is : (label : List ℕ) → (32 ∷ 123 ∷ (open_fields fields ++ 32 ∷ spaced (kind_text kind) label)) ≡ inside fields (Label kind) ++ 32 ∷ label
      field_is label =
          ap (λ (text : List ℕ). 32 ∷ 123 ∷ (open_fields fields ++ 32 ∷ text)) (append_assoc (kind_text kind) (codes " ") label)
          ∙ ap (λ (text : List ℕ). 32 ∷ 123 ∷ text) (sym (append_assoc (open_fields fields) (32 ∷ kind_text kind) (32 ∷ label)))

      pushed : (name : List ℕ) (count : ℕ) → IsName name × IsFrom 1 8192 count → All (IsField (8 - length outer)) (fields ++ record { kind = kind; name = name; count = count } ∷ [])
      pushed name count named = All-push (IsField (8 - length outer)) fields (record { kind = kind; name = name; count = count }) all (is, named.0, named.1)

      last_says : (found : List ℕ × (ℕ × Mark)) → label word ≡ Some found → AddsWord before_label word (with_field (in_body (Label kind)) kind false found)
      last_says found e fine =
          let says = label_says word found e (worse_right mark found.1.1 fine) in
          let f : Field = record { kind = kind; name = found.0; count = found.1.0 } in (
            adds_word (around outer) (inside fields (Label kind)) (inside (fields ++ f ∷ []) Close) word
                (ap (λ (text : List ℕ). 32 ∷ 123 ∷ text) (fields-push fields f) ∙ field_is (label_text found.0 found.1.0) ∙ ap (λ (w : List ℕ). inside fields (Label kind) ++ 32 ∷ w) (sym says.0)),
            record { few = few; outer = are; fields = pushed found.0 found.1.0 says.1; next = tt },
          )

      more_says : (found : List ℕ × (ℕ × Mark)) → ends_with 59 word ≡ true → label (without_last word) ≡ Some found → AddsWord before_label word (with_field (in_body (Label kind)) kind true found)
      more_says found t e fine =
          let says = label_says (without_last word) found e (worse_right mark found.1.1 fine) in
          let f : Field = record { kind = kind; name = found.0; count = found.1.0 } in
          let text = label_text found.0 found.1.0 in
          let whole : word ≡ text ++ 59 ∷ [] = last_byte 59 word t ∙ ap (λ (front : List ℕ). front ++ 59 ∷ []) says.0 in (
            adds_word (around outer) (inside fields (Label kind)) (inside (fields ++ f ∷ []) More) word
                (ap (λ (text : List ℕ). 32 ∷ 123 ∷ text) (open_fields-push fields f)
                ∙ ap (λ (more : List ℕ). 32 ∷ 123 ∷ (open_fields fields ++ 32 ∷ more)) (append_assoc (kind_text kind ++ codes " ") text (59 ∷ []))
                ∙ field_is (text ++ 59 ∷ []) ∙ ap (λ (w : List ℕ). inside fields (Label kind) ++ 32 ∷ w) (sym whole)),
            record { few = few; outer = are; fields = pushed found.0 found.1.0 says.1; next = tt },
          )

      labelled_says : (more : Body) → labelled (in_body (Label kind)) kind word ≡ Some more → AddsWord before_label word more
      labelled_says more =
          chosen (ends_with 59 word) _ _ _ (λ t e. by_more t (label (without_last word)) refl e) (λ f e. by_last (label word) refl e)
        where
          by_more : ends_with 59 word ≡ true → (o : Option (List ℕ × (ℕ × Mark))) → label (without_last word) ≡ o →
              option_map_or {U = Option Body} (λ found. Some (with_field (in_body (Label kind)) kind true found)) o None ≡ Some more → AddsWord before_label word more
          by_more t None is e = none_found more e
          by_more t (Some found) is e = adds_same before_label word (with_field (in_body (Label kind)) kind true found) more e (more_says found t is)

          by_last : (o : Option (List ℕ × (ℕ × Mark))) → label word ≡ o →
              option_map_or {U = Option Body} (λ found. Some (with_field (in_body (Label kind)) kind false found)) o None ≡ Some more → AddsWord before_label word more
          by_last None is e = none_found more e
          by_last (Some found) is e = adds_same before_label word (with_field (in_body (Label kind)) kind false found) more e (last_says found is)

-- ---- the end of a body

-- the text of a union in the body around it
union_text : (outer front fields : List ℕ) → ((outer ++ (32 ∷ 123 ∷ (front ++ codes " union"))) ++ (32 ∷ 123 ∷ fields)) ++ codes " }" ≡ outer ++ (32 ∷ 123 ∷ (front ++ 32 ∷ ((codes "union {" ++ fields) ++ codes " }")))
union_text outer front fields =
    append_assoc (outer ++ (32 ∷ 123 ∷ (front ++ codes " union"))) (32 ∷ 123 ∷ fields) (codes " }")
    ∙ append_assoc outer (32 ∷ 123 ∷ (front ++ codes " union")) (32 ∷ 123 ∷ (fields ++ codes " }"))
    ∙ ap (λ (text : List ℕ). outer ++ (32 ∷ 123 ∷ text)) (append_assoc front (codes " union") (32 ∷ 123 ∷ (fields ++ codes " }")))

closed_inner : (before : List (List Field)) (last fields : List Field) (mark : Mark) (word : List ℕ) (next : Next) → inside fields next ≡ 32 ∷ 123 ∷ fields_text fields → word ≡ codes "}" →
    length (before ++ last ∷ []) ≤ 8 → AreAround 8 (before ++ last ∷ []) → All (IsField (8 - length (before ++ last ∷ []))) fields →
    AddsWord (around (before ++ last ∷ []) ++ inside fields next) word (closed (in_body (before ++ last ∷ []) fields mark next))
closed_inner before last fields mark word next here same few are all =
    let long = length_push before last in
    let rest = are_around-pop 8 before last are in
    let inner : 8 - length before ≡ suc (8 - length (before ++ last ∷ [])) = deeper (length before) (length (before ++ last ∷ [])) long few in
    let is : IsKind (8 - length before) (Union fields) = subst (λ d. IsKind d (Union fields)) (sym inner) (is_union (8 - length (before ++ last ∷ [])) fields all) in
    let text : around before ++ (32 ∷ 123 ∷ (open_fields last ++ 32 ∷ kind_text (Union fields))) ≡ (around (before ++ last ∷ []) ++ inside fields next) ++ 32 ∷ word =
    ap (λ (t : List ℕ). around before ++ (32 ∷ 123 ∷ (open_fields last ++ 32 ∷ t))) (kind_text-union fields)
    ∙ sym (union_text (around before) (open_fields last) (fields_text fields))
    ∙ ap (λ (t : List ℕ). (t ++ (32 ∷ 123 ∷ fields_text fields)) ++ codes " }") (sym (around-push before last))
    ∙ ap (λ (t : List ℕ). (around (before ++ last ∷ []) ++ t) ++ codes " }") (sym here)
    ∙ ap (λ (w : List ℕ). (around (before ++ last ∷ []) ++ inside fields next) ++ 32 ∷ w) (sym same) in
    subst (AddsWord (around (before ++ last ∷ []) ++ inside fields next) word) (sym (closed_union mark before last fields next)) (λ fine.
    (text, record { few = omega (arith, long, few); outer = rest.0; fields = rest.1; next = is }))
  where
    deeper : (n m : ℕ) → m ≡ n + 1 → m ≤ 8 → 8 - n ≡ suc (8 - m)
    deeper n m e h = omega arith

closed_says : (outer : List (List Field)) (fields : List Field) (mark : Mark) (word : List ℕ) (next : Next) → inside fields next ≡ 32 ∷ 123 ∷ fields_text fields → word ≡ codes "}" →
    length outer ≤ 8 → AreAround 8 outer → All (IsField (8 - length outer)) fields →
    AddsWord (around outer ++ inside fields next) word (closed (in_body outer fields mark next))
closed_says [] fields mark word next here same few are all fine = (
  ap (λ (t : List ℕ). t ++ codes " }") (sym here) ∙ ap (λ (w : List ℕ). inside fields next ++ 32 ∷ w) (sym same),
  record { few = few; outer = are; fields = all; next = refl },
)
closed_says (first ∷ outer) fields mark word next here same few are all fine =
    let last = has_last first outer in
    (subst (λ outer. length outer ≤ 8 → AreAround 8 outer → All (IsField (8 - length outer)) fields → AddsWord (around outer ++ inside fields next) word (closed (in_body outer fields mark next)))
    (sym last.parts) (closed_inner last.before last.last fields mark word next here same)) few are all fine

-- ---- any word

no_fields_open : (fields : List Field) → fields ≡ [] → (32 ∷ 123 ∷ open_fields fields) ≡ 32 ∷ 123 ∷ fields_text fields
no_fields_open fields e = ap (λ fields. 32 ∷ 123 ∷ open_fields fields) e ∙ sym (ap (λ fields. 32 ∷ 123 ∷ fields_text fields) e)

next_says : (next : Next) (outer : List (List Field)) (fields : List Field) (mark : Mark) (word : List ℕ) (more : Body) → length outer ≤ 8 → AreAround 8 outer → All (IsField (8 - length outer)) fields →
    FitsNext (8 - length outer) outer fields next → next_word next (in_body outer fields mark next) word ≡ Some more → AddsWord (around outer ++ inside fields next) word more
next_says Open outer fields mark word more few are all free e =
    only (is (codes "{") word) _ _ (λ t e. adds_same (around outer ++ []) word (in_body outer fields mark First) more e (λ fine. (
      adds_word (around outer) [] (32 ∷ 123 ∷ open_fields fields) word (ap (λ (fields : List Field). 32 ∷ 123 ∷ open_fields fields) free ∙ ap (λ (w : List ℕ). 32 ∷ w) (sym (is_same (codes "{") word t))),
      record { few = few; outer = are; fields = all; next = free },
    ))) e
next_says First outer fields mark word more few are all free e =
    chosen (is (codes "}") word) _ _ _
    (λ t e. adds_same (around outer ++ inside fields First) word (closed (in_body outer fields mark First)) more e (closed_says outer fields mark word First (no_fields_open fields free) (is_same (codes "}") word t) few are all))
    (λ f e. kinded_says outer fields mark few are all word First more e) e
next_says More outer fields mark word more few are all free e = kinded_says outer fields mark few are all word More more e
next_says Size outer fields mark word more few are all free e = sized_says outer fields mark few are all word more e
next_says Of outer fields mark word more few are all free e = of_says outer fields mark few are all word more e
next_says (Label kind) outer fields mark word more few are all free e = labelled_says outer fields mark few are all word kind free more e
next_says Close outer fields mark word more few are all free e =
    only (is (codes "}") word) _ _ (λ t e. adds_same (around outer ++ inside fields Close) word (closed (in_body outer fields mark Close)) more e (closed_says outer fields mark word Close refl (is_same (codes "}") word t) few are all)) e
next_says Done outer fields mark word more few are all free e = none_found more e

-- ---- marks only get worse

abbrev Marked : Mark → Body → Type 0
Marked mark more = more.mark ≡ Fine → mark ≡ Fine

still : (mark : Mark) (a more : Body) → Some a ≡ Some more → Marked mark a → Marked mark more
still mark a more e is = subst (Marked mark) (found_same a more e) is

closed_mark : (outer : List (List Field)) (fields : List Field) (mark : Mark) (next : Next) → (closed (in_body outer fields mark next)).mark ≡ mark
closed_mark [] fields mark next = refl
closed_mark (first ∷ outer) fields mark next =
    let last = has_last first outer in
    ap (λ outer. (closed (in_body outer fields mark next)).mark) last.parts ∙ ap (λ (b : Body). b.mark) (closed_union mark last.before last.last fields next)

module _ (outer : List (List Field)) (fields : List Field) (mark : Mark) (word : List ℕ) (more : Body) where
  kinded_mark : (next : Next) → kinded (in_body outer fields mark next) word ≡ Some more → Marked mark more
  kinded_mark next =
      chosen (is (codes "ptr") word) _ _ _ (λ t e. still mark (in_body outer fields mark (Label Ptr)) more e (λ fine. fine))
      (λ f. chosen (is (codes "auth") word) _ _ _ (λ t e. still mark (in_body outer fields mark (Label Auth)) more e (λ fine. fine))
      (λ f. chosen (is (codes "u8") word) _ _ _ (λ t e. still mark (in_body outer fields mark (Label U8)) more e (λ fine. fine))
      (λ f. chosen (is (codes "u16") word) _ _ _ (λ t e. still mark (in_body outer fields mark (Label U16)) more e (λ fine. fine))
      (λ f. chosen (is (codes "u32") word) _ _ _ (λ t e. still mark (in_body outer fields mark (Label U32)) more e (λ fine. fine))
      (λ f. chosen (is (codes "u64") word) _ _ _ (λ t e. still mark (in_body outer fields mark (Label U64)) more e (λ fine. fine))
      (λ f. chosen (is (codes "bytes") word) _ _ _ (λ t e. still mark (in_body outer fields mark Size) more e (λ fine. fine))
      (λ f. chosen (is (codes "struct") word) _ _ _ (λ t e. still mark (in_body outer fields mark Of) more e (λ fine. fine))
      (λ f. only (is (codes "union") word && nat_lt (length outer) 8) _ _
      (λ t e. still mark (record { outer = outer ++ fields ∷ []; fields = []; mark = mark; next = Open }) more e (λ fine. fine))))))))))

  labelled_mark : (kind : Kind) → labelled (in_body outer fields mark (Label kind)) kind word ≡ Some more → Marked mark more
  labelled_mark kind =
      chosen (ends_with 59 word) _ _ _ (λ t e. by_found true (label (without_last word)) e) (λ f e. by_found false (label word) e)
    where
      by_found : (later : Bool) (o : Option (List ℕ × (ℕ × Mark))) →
          option_map_or {U = Option Body} (λ found. Some (with_field (in_body outer fields mark (Label kind)) kind later found)) o None ≡ Some more → Marked mark more
      by_found later None e = none_found more e
      by_found later (Some found) e = still mark (with_field (in_body outer fields mark (Label kind)) kind later found) more e (λ fine. worse_left mark found.1.1 fine)

  next_mark : (next : Next) → next_word next (in_body outer fields mark next) word ≡ Some more → Marked mark more
  next_mark Open e = only (is (codes "{") word) _ _ (λ t e. still mark (in_body outer fields mark First) more e (λ fine. fine)) e
  next_mark First e =
      chosen (is (codes "}") word) _ _ _
      (λ t e. still mark (closed (in_body outer fields mark First)) more e (λ fine. sym (closed_mark outer fields mark First) ∙ fine))
      (λ f e. kinded_mark First e) e
  next_mark More e = kinded_mark More e
  next_mark Size e = only (is_run word) _ _ (λ t e. still mark (sized (in_body outer fields mark Size) (number_in 1 8192 word)) more e (λ fine. worse_left mark (number_in 1 8192 word).1 fine)) e
  next_mark Of e = only (is_name word) _ _ (λ t e. still mark (in_body outer fields mark (Label (Struct word))) more e (λ fine. fine)) e
  next_mark (Label kind) e = labelled_mark kind e
  next_mark Close e =
      only (is (codes "}") word) _ _ (λ t e. still mark (closed (in_body outer fields mark Close)) more e (λ fine. sym (closed_mark outer fields mark Close) ∙ fine)) e
  next_mark Done e = none_found more e

-- ---- all words

body_mark : (words : List (List ℕ)) (b end : Body) → body_of b words ≡ Some end → end.mark ≡ Fine → b.mark ≡ Fine
body_mark [] b end e fine = ap (λ (b : Body). b.mark) (found_same b end e) ∙ fine
body_mark (word ∷ words) b end e fine = by_next (next_word b.next b word) refl (λ more rest. body_mark words more end rest fine) e
  where
    by_next : (o : Option Body) → next_word b.next b word ≡ o → ((more : Body) → body_of more words ≡ Some end → more.mark ≡ Fine) →
        option_map_or {U = Option Body} (λ more. body_of more words) o None ≡ Some end → b.mark ≡ Fine
    by_next None is again e = none_found end e
    by_next (Some more) is again e = next_mark b.outer b.fields b.mark word more b.next is (again more e)

pub body_says : (words : List (List ℕ)) (b end : Body) → IsSound b → body_of b words ≡ Some end → end.mark ≡ Fine → (consumed end ≡ consumed b ++ after_spaces words) × IsSound end
body_says [] b end sound e fine =
    let same = found_same b end e in
    (sym (ap consumed same) ∙ sym (append-nil (consumed b)), subst IsSound same sound)
body_says (word ∷ words) b end sound e fine = by_next (next_word b.next b word) refl (λ more is rest. body_says words more end is rest fine) e
  where
    by_next : (o : Option Body) → next_word b.next b word ≡ o → ((more : Body) → IsSound more → body_of more words ≡ Some end → (consumed end ≡ consumed more ++ after_spaces words) × IsSound end) →
        option_map_or {U = Option Body} (λ more. body_of more words) o None ≡ Some end → (consumed end ≡ consumed b ++ after_spaces (word ∷ words)) × IsSound end
    by_next None is again e = none_found end e
    by_next (Some more) is again e =
        let step = next_says b.next b.outer b.fields b.mark word more sound.few sound.outer sound.fields sound.next is (body_mark words more end e fine) in
        let rest = again more step.1 e in
        (rest.0 ∙ ap (λ (t : List ℕ). t ++ after_spaces words) step.0 ∙ append_assoc (consumed b) (32 ∷ word) (after_spaces words), rest.1)
