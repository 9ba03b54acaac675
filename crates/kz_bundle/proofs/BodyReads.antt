-- How a body is read, word by word.
use Rattle.std.proofs.Common.{◌≡◌, ℕ, zero, suc, ◌+◌, ◌-◌, ◌^◌, ◌<◌, ◌≤◌, ◌==◌, Bool, true, false, nat_lt, if◌then◌else◌, List, [], ◌∷◌, ◌++◌, length, take, codes, decimal, Option, Some, None, All, refl, ap, sym, ◌∙◌, arith, append_assoc, slice_index_or}
use Rattle.std.specs.Option.{option_map_or}
use Rattle.std.proofs.lemmas.List.{take_at, get_or_push, length_push}
use Rattle.kz_model.specs.declared.bundle.Kind.{Kind, Union', Row_of-Field, end_of-Field, more_of-Field, items-the_row-Field}
use Rattle.kz_model.specs.declared.bundle.Kind.TheVariants.{Ptr, Auth, U8, U16, U32, U64, Bytes, Struct, Union}
use Rattle.kz_model.specs.declared.bundle.Kind.TheBlock.{hidden-the_row-Field-0, items_hidden-the_row-Field-0}
use Rattle.kz_model.specs.declared.bundle.Field.{Field}
use Rattle.kz_model.specs.declared.grammar.Mark.{Mark}
use Rattle.kz_model.specs.declared.grammar.Mark.TheVariants.{Fine}
use Rattle.kz_model.specs.Grammar.Tokens.{tokens_of, is, number_in}
use Rattle.kz_bundle.specs.BodyStates.{Next, Open, First, More, Size, Of, Label, Close, Done, Body, of_kind, kinded, closed, sized, next_word, body_of, no_body}
use Rattle.kz_model.specs.Grammar.Spelling.{spaced, numbered, label_text, kind_text, row_text, more_text, body_text, IsName, IsFrom, IsKind, AreFields, IsField}
use Rattle.kz_bundle.proofs.Choices.{all_append}
use Rattle.kz_bundle.proofs.Splits.{is_dark, dark, word_ends, last_word}
use Rattle.kz_bundle.proofs.NumberTexts.{number_in-decimal, decimal_run, decimal_dark}
use Rattle.kz_bundle.proofs.NameTexts.{name_dark}
use Rattle.kz_bundle.proofs.LabelTexts.{label_dark, labelled_last, labelled_more}
use Rattle.kz_bundle.proofs.UnionRows.{union_is, body_is, are_fields}

-- a body with numbers in their ranges
abbrev pub at : List (List Field) → List Field → Next → Body
at outer fields next = record { outer = outer; fields = fields; mark = Fine; next = next }

abbrev pub field : Kind → List ℕ → ℕ → Field
field kind name count = record { kind = kind; name = name; count = count }

-- the body after the words of a text
abbrev pub run : Body → List ℕ → Option Body
run b text = body_of b (tokens_of text)

run_word : (b more : Body) (word rest : List ℕ) → dark word ≡ true → next_word b.next b word ≡ Some more → run b (word ++ 32 ∷ rest) ≡ run more rest
run_word b more word rest e step = ap (body_of b) (word_ends word rest e) ∙ ap (λ o. option_map_or {U = Option Body} (λ more. body_of more (tokens_of rest)) o None) step

run_last : (b more : Body) (word : List ℕ) → dark word ≡ true → next_word b.next b word ≡ Some more → run b word ≡ Some more
run_last b more word e step = ap (body_of b) (last_word word e) ∙ ap (λ o. option_map_or {U = Option Body} (λ more. body_of more []) o None) step

-- the first field of a body, or a later one
abbrev start : Bool → Next
start true = More
start false = First

starts : (later : Bool) (outer : List (List Field)) (fields : List Field) (word : List ℕ) (more : Body) → is (codes "}") word ≡ false → kinded (at outer fields (start later)) word ≡ Some more →
    next_word (start later) (at outer fields (start later)) word ≡ Some more
starts true outer fields word more other e = e
starts false outer fields word more other e = ap (λ b. if b then Some (closed (at outer fields First)) else kinded (at outer fields First) word) other ∙ e

-- ---- a kind of one word, and of two

module _ (later : Bool) (outer : List (List Field)) (fields : List Field) (rest : List ℕ) where
  plain_kind : (kind : Kind) (word : List ℕ) → dark word ≡ true → is (codes "}") word ≡ false → kinded (at outer fields (start later)) word ≡ Some (at outer fields (Label kind)) →
      run (at outer fields (start later)) (word ++ 32 ∷ rest) ≡ run (at outer fields (Label kind)) rest
  plain_kind kind word e other step = run_word (at outer fields (start later)) (at outer fields (Label kind)) word rest e (starts later outer fields word (at outer fields (Label kind)) other step)

  bytes_kind : (size : ℕ) → IsFrom 1 8192 size → run (at outer fields (start later)) (numbered (codes "bytes") size ++ 32 ∷ rest) ≡ run (at outer fields (Label (Bytes size))) rest
  bytes_kind size range =
      let few : size < 2 ^ 64 = omega (arith, range.1) in
      run_word (at outer fields (start later)) (at outer fields Size) (codes "bytes") (decimal size ++ 32 ∷ rest) refl (starts later outer fields (codes "bytes") (at outer fields Size) refl refl)
      ∙ run_word (at outer fields Size) (at outer fields (Label (Bytes size))) (decimal size) rest (decimal_dark size few)
      (ap (λ b. if b then Some (sized (at outer fields Size) (number_in 1 8192 (decimal size))) else None) (decimal_run size few)
      ∙ ap (λ (found : ℕ × Mark). Some (sized (at outer fields Size) found)) (number_in-decimal 1 8192 size range (omega arith)))

  struct_kind : (of : List ℕ) → IsName of → run (at outer fields (start later)) (spaced (codes "struct") of ++ 32 ∷ rest) ≡ run (at outer fields (Label (Struct of))) rest
  struct_kind of is =
      run_word (at outer fields (start later)) (at outer fields Of) (codes "struct") (of ++ 32 ∷ rest) refl (starts later outer fields (codes "struct") (at outer fields Of) refl refl)
      ∙ run_word (at outer fields Of) (at outer fields (Label (Struct of))) of rest (name_dark of is)
      (ap (λ b. if b then of_kind (at outer fields Of) (Struct of) else None) is)

-- ---- braces

-- what ends a body: `}` with what follows it
abbrev Ends : (Body → Option Body) → List ℕ → Type 0
Ends after text = (b more : Body) → next_word b.next b (codes "}") ≡ Some more → run b text ≡ after more

ends_union : (rest : List ℕ) → Ends (λ more. run more rest) (codes "}" ++ 32 ∷ rest)
ends_union rest b more step = run_word b more (codes "}") rest refl step

pub ends_type : Ends (λ more. Some more) (codes "}")
ends_type b more step = run_last b more (codes "}") refl step

-- where a union ends, its label follows
pub closed_union : (mark : Mark) (outer : List (List Field)) (fields inner : List Field) (next : Next) →
    closed (record { outer = outer ++ fields ∷ []; fields = inner; mark = mark; next = next }) ≡ record { outer = outer; fields = fields; mark = mark; next = Label (Union inner) }
closed_union mark outer fields inner next =
    let long = length_push outer fields in
    let some : (length (outer ++ fields ∷ []) == 0) ≡ false = not_none (length outer) (length (outer ++ fields ∷ [])) long in
    ap (λ t. if t then body (outer ++ fields ∷ []) inner Done else body (take (length (outer ++ fields ∷ []) - 1) (outer ++ fields ∷ [])) (slice_index_or (outer ++ fields ∷ []) (length (outer ++ fields ∷ []) - 1) []) (Label (Union inner))) some
    ∙ ap (λ o. body o (slice_index_or (outer ++ fields ∷ []) (length (outer ++ fields ∷ []) - 1) []) (Label (Union inner))) (take_at outer (fields ∷ []) (length (outer ++ fields ∷ []) - 1) (omega (arith, long)))
    ∙ ap (λ f. body outer f (Label (Union inner))) (get_or_push outer fields [] (length (outer ++ fields ∷ []) - 1) (omega (arith, long)))
  where
    body : List (List Field) → List Field → Next → Body
    body outer fields next = record { outer = outer; fields = fields; mark = mark; next = next }

    not_none : (n m : ℕ) → m ≡ n + 1 → (m == 0) ≡ false
    not_none n m e = grind arith

row_first : (kind label more tail : List ℕ) → (((codes " " ++ kind) ++ codes " ") ++ label ++ more) ++ tail ≡ 32 ∷ (kind ++ 32 ∷ (label ++ (more ++ tail)))
row_first kind label more tail =
    append_assoc (((codes " " ++ kind) ++ codes " ") ++ label) more tail
    ∙ append_assoc ((codes " " ++ kind) ++ codes " ") label (more ++ tail)
    ∙ append_assoc (codes " " ++ kind) (codes " ") (label ++ (more ++ tail))

row_more : (first kind label more tail : List ℕ) → first ++ ((((codes "; " ++ kind) ++ codes " ") ++ label ++ more) ++ tail) ≡ (first ++ 59 ∷ []) ++ 32 ∷ (kind ++ 32 ∷ (label ++ (more ++ tail)))
row_more first kind label more tail =
    ap (λ (text : List ℕ). first ++ text) (
    append_assoc (((codes "; " ++ kind) ++ codes " ") ++ label) more tail
    ∙ append_assoc ((codes "; " ++ kind) ++ codes " ") label (more ++ tail)
    ∙ append_assoc (codes "; " ++ kind) (codes " ") (label ++ (more ++ tail)))
    ∙ sym (append_assoc first (59 ∷ []) (32 ∷ (kind ++ 32 ∷ (label ++ (more ++ tail)))))

union_text : (row rest : List ℕ) → ((codes "union {" ++ row) ++ codes " }") ++ 32 ∷ rest ≡ codes "union" ++ 32 ∷ (123 ∷ (row ++ 32 ∷ (codes "}" ++ 32 ∷ rest)))
union_text row rest = append_assoc (codes "union {" ++ row) (codes " }") (32 ∷ rest)

under : (n m deep : ℕ) → m ≡ n + 1 → n + suc deep ≤ 8 → m + deep ≤ 8
under n m deep e h = omega arith

may_open : (n deep : ℕ) → n + suc deep ≤ 8 → nat_lt n 8 ≡ true
may_open n deep h = grind arith

all_dark : (name : List ℕ) (count : ℕ) → IsName name → IsFrom 1 8192 count → dark (label_text name count ++ 59 ∷ []) ≡ true
all_dark name count is range = all_append is_dark (label_text name count) (59 ∷ []) (label_dark name count is range) refl

mutual
  -- after a kind comes its label
  pub kind_reads : (deep : ℕ) (kind : Kind) → IsKind deep kind → (later : Bool) (outer : List (List Field)) (fields : List Field) (rest : List ℕ) → length outer + deep ≤ 8 →
      run (at outer fields (start later)) (kind_text kind ++ 32 ∷ rest) ≡ run (at outer fields (Label kind)) rest
  kind_reads deep Ptr is later outer fields rest few = plain_kind later outer fields rest Ptr (codes "ptr") refl refl refl
  kind_reads deep Auth is later outer fields rest few = plain_kind later outer fields rest Auth (codes "auth") refl refl refl
  kind_reads deep U8 is later outer fields rest few = plain_kind later outer fields rest U8 (codes "u8") refl refl refl
  kind_reads deep U16 is later outer fields rest few = plain_kind later outer fields rest U16 (codes "u16") refl refl refl
  kind_reads deep U32 is later outer fields rest few = plain_kind later outer fields rest U32 (codes "u32") refl refl refl
  kind_reads deep U64 is later outer fields rest few = plain_kind later outer fields rest U64 (codes "u64") refl refl refl
  kind_reads deep (Bytes size) is later outer fields rest few = bytes_kind later outer fields rest size is
  kind_reads deep (Struct of) is later outer fields rest few = struct_kind later outer fields rest of is
  kind_reads zero (Union' shape row) is later outer fields rest few = absurd is
  kind_reads (suc deep) (Union' shape row) is later outer fields rest few =
      let inner = outer ++ fields ∷ [] in
      let opens : kinded (at outer fields (start later)) (codes "union") ≡ Some (at inner [] Open) = ap (λ t. if t then Some (at inner [] Open) else None) (may_open (length outer) deep few) in
      ap (run (at outer fields (start later))) (union_text (row_text row) rest)
      ∙ run_word (at outer fields (start later)) (at inner [] Open) (codes "union") (123 ∷ (row_text row ++ 32 ∷ (codes "}" ++ 32 ∷ rest))) refl (starts later outer fields (codes "union") (at inner [] Open) refl opens)
      ∙ row_reads deep row is inner (under (length outer) (length inner) deep (length_push outer fields) few) (λ more. run more rest) (codes "}" ++ 32 ∷ rest) (ends_union rest)
      ∙ ap (λ b. run b rest) (closed_union Fine outer fields (items-the_row-Field _ row) Close)
      ∙ ap (λ kind. run (at outer fields (Label kind)) rest) (union_is shape row)

  -- a row of fields in its braces
  pub row_reads : {m : _} (deep : ℕ) (row : Row_of-Field m) → AreFields deep row → (outer : List (List Field)) → length outer + deep ≤ 8 → (after : Body → Option Body) (text : List ℕ) → Ends after text →
      run (at outer [] Open) (123 ∷ (row_text row ++ 32 ∷ text)) ≡ after (closed (at outer (items-the_row-Field m row) Close))
  row_reads deep end_of-Field are outer few after text ends =
      run_word (at outer [] Open) (at outer [] First) (codes "{") text refl refl ∙ ends (at outer [] First) (closed (at outer [] First)) refl
  row_reads deep (more_of-Field kind name count rest) are outer few after text ends =
      ap (λ (t : List ℕ). run (at outer [] Open) (123 ∷ t)) (row_first (kind_text kind) (label_text name count) (more_text rest) (32 ∷ text))
      ∙ run_word (at outer [] Open) (at outer [] First) (codes "{") (kind_text kind ++ 32 ∷ (label_text name count ++ (more_text rest ++ 32 ∷ text))) refl refl
      ∙ kind_reads deep kind are.0.0 false outer [] (label_text name count ++ (more_text rest ++ 32 ∷ text)) few
      ∙ more_reads deep rest are.1 outer [] kind name count are.0.1 are.0.2 few after text ends

  -- a label, and the row of fields after it
  pub more_reads : {m : _} (deep : ℕ) (row : Row_of-Field m) → AreFields deep row → (outer : List (List Field)) (fields : List Field) (kind : Kind) (name : List ℕ) (count : ℕ) → IsName name → IsFrom 1 8192 count →
      length outer + deep ≤ 8 → (after : Body → Option Body) (text : List ℕ) → Ends after text →
      run (at outer fields (Label kind)) (label_text name count ++ (more_text row ++ 32 ∷ text)) ≡ after (closed (at outer (fields ++ field kind name count ∷ items-the_row-Field m row) Close))
  more_reads deep end_of-Field are outer fields kind name count is range few after text ends =
      let b = at outer (fields ++ field kind name count ∷ []) Close in
      run_word (at outer fields (Label kind)) b (label_text name count) text (label_dark name count is range) (labelled_last (at outer fields (Label kind)) kind name count is range)
      ∙ ends b (closed b) refl
  more_reads deep (more_of-Field kind' name' count' rest) are outer fields kind name count is range few after text ends =
      let before = fields ++ field kind name count ∷ [] in
      ap (run (at outer fields (Label kind))) (row_more (label_text name count) (kind_text kind') (label_text name' count') (more_text rest) (32 ∷ text))
      ∙ run_word (at outer fields (Label kind)) (at outer before More) (label_text name count ++ 59 ∷ []) (kind_text kind' ++ 32 ∷ (label_text name' count' ++ (more_text rest ++ 32 ∷ text)))
      (all_dark name count is range) (labelled_more (at outer fields (Label kind)) kind name count is range)
      ∙ kind_reads deep kind' are.0.0 true outer before (label_text name' count' ++ (more_text rest ++ 32 ∷ text)) few
      ∙ more_reads deep rest are.1 outer before kind' name' count' are.0.1 are.0.2 few after text ends
      ∙ ap (λ (fields : List Field). after (closed (at outer fields Close))) (append_assoc fields (field kind name count ∷ []) (field kind' name' count' ∷ items-the_row-Field _ rest))

-- the fields of a type in their braces
pub body_reads : (fields : List Field) → All (IsField 8) fields → run no_body (body_text fields) ≡ Some (at [] fields Done)
body_reads fields are =
    let row = hidden-the_row-Field-0 fields in
    ap (run no_body) (body_is fields)
    ∙ ap (run no_body) (append_assoc (codes "{") (row_text row) (codes " }"))
    ∙ row_reads 8 row (are_fields 8 fields are) [] (omega arith) (λ more. Some more) (codes "}") ends_type
    ∙ ap (λ fields. Some (at [] fields Done)) (items_hidden-the_row-Field-0 fields)
