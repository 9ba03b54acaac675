-- The words of a type line one by one give what its grammar says.
use Rattle.std.proofs.Common.{◌≡◌, ℕ, zero, suc, ◌+◌, ◌<◌, ◌≤◌, ◌&&◌, Bool, true, false, nat_lt, if◌then◌else◌, List, [], ◌∷◌, ◌++◌, length, codes, Option, Some, None, refl, ap, sym, ◌∙◌, arith, append_assoc}
use Rattle.std.specs.Option.{option_map_or}
use Rattle.std.proofs.lemmas.List.{length_push}
use Rattle.kz_model.specs.declared.bundle.Kind.{Kind}
use Rattle.kz_model.specs.declared.bundle.Kind.TheVariants.{Ptr, Auth, U8, U16, U32, U64, Bytes, Struct, Union}
use Rattle.kz_model.specs.declared.bundle.Field.{Field}
use Rattle.kz_model.specs.declared.bundle.TypeDecl.{TypeDecl}
use Rattle.kz_model.specs.declared.grammar.Mark.{Mark}
use Rattle.kz_model.specs.declared.grammar.Mark.TheVariants.{Fine, OutOfRange, BadNumber}
use Rattle.kz_model.specs.Grammar.Tokens.{is, is_name, is_run, worse, number_in}
use Rattle.kz_model.specs.Grammar.TypeLine as rule
use Rattle.kz_model.specs.Grammar.TypeLine.{Phrase, Rule, FieldAndMore, no_phrase, says, after_mark, followed_by, ends_with, without_last, label, type_line}
use Rattle.kz_bundle.specs.BodyStates.{Body, Next, Open, First, More, Size, Of, Label, Close, Done, with_field, closed, kinded, next_word, body_of, no_body, whole, line_by_words}
use Rattle.kz_bundle.proofs.BodyReads.{closed_union}

-- ---- marks

pub worse_assoc : (a b c : Mark) → worse (worse a b) c ≡ worse a (worse b c)
worse_assoc BadNumber b c = refl
worse_assoc OutOfRange BadNumber c = refl
worse_assoc OutOfRange OutOfRange BadNumber = refl
worse_assoc OutOfRange OutOfRange OutOfRange = refl
worse_assoc OutOfRange OutOfRange Fine = refl
worse_assoc OutOfRange Fine c = refl
worse_assoc Fine b c = refl

pub worse_fine : (a : Mark) → worse a Fine ≡ a
worse_fine BadNumber = refl
worse_fine OutOfRange = refl
worse_fine Fine = refl

abbrev at : List (List Field) → List Field → Next → Mark → Body
at outer fields next mark = record { outer = outer; fields = fields; mark = mark; next = next }

module _ (name : List ℕ) where
  -- ---- what comes of a body and the words after it

  abbrev Line : Type 0
  Line = Option (TypeDecl × Mark)

  abbrev after : Body → List (List ℕ) → Line
  after b words = option_map_or (λ b. whole name b.next b) (body_of b words) None

  abbrev after_found : Option Body → List (List ℕ) → Line
  after_found None words = None
  after_found (Some b) words = after b words

  after_word : (b : Body) (word : List ℕ) (words : List (List ℕ)) → after b (word ∷ words) ≡ after_found (next_word b.next b word) words
  after_word b word words = by_found (next_word b.next b word)
    where
      by_found : (found : Option Body) → option_map_or (λ b. whole name b.next b) (option_map_or (λ more. body_of more words) found None) None ≡ after_found found words
      by_found None = refl
      by_found (Some b) = refl

  -- ---- phrases

  -- The line goes on after the phrase, from the body that the phrase leaves; the phrase has a word of so many at least. Where there is none, there is no line.
  abbrev GoesOn : {A : Type 0} → (Mark → Line) → (A → Mark → Body) → ℕ → Option (Phrase A) → Type 0
  GoesOn start end size None = (mark : Mark) → start mark ≡ None
  GoesOn start end size (Some p) = (length p.rest < size) × ((mark : Mark) → start mark ≡ after (end p.said (worse mark p.mark)) p.rest)

  longer : {A : Type 0} (start : Mark → Line) (end : A → Mark → Body) (few many : ℕ) (p : Option (Phrase A)) → few ≤ many → GoesOn start end few p → GoesOn start end many p
  longer start end few many None le on = on
  longer start end few many (Some p) le on = (omega (arith, le, on.0), on.1)

  from_same : {A : Type 0} (start other : Mark → Line) (end : A → Mark → Body) (size : ℕ) (p : Option (Phrase A)) → ((mark : Mark) → other mark ≡ start mark) → GoesOn start end size p → GoesOn other end size p
  from_same start other end size None same on = λ mark. same mark ∙ on mark
  from_same start other end size (Some p) same on = (on.0, λ mark. same mark ∙ on.1 mark)

  -- the first word
  at_word : {A : Type 0} (start : Mark → Body) (end : A → Mark → Body) (word : List ℕ) (words : List (List ℕ)) (size : ℕ) (p : Option (Phrase A)) →
      GoesOn (λ mark. after_found (next_word (start mark).next (start mark) word) words) end size p → GoesOn (λ mark. after (start mark) (word ∷ words)) end size p
  at_word start end word words size p on =
      from_same (λ mark. after_found (next_word (start mark).next (start mark) word) words) (λ mark. after (start mark) (word ∷ words)) end size p (λ mark. after_word (start mark) word words) on

  -- by a test
  either : {A : Type 0} (end : A → Mark → Body) (test : Bool) (x y : Mark → Option Body) (words : List (List ℕ)) (size : ℕ) (p q : Option (Phrase A)) →
      GoesOn (λ mark. after_found (x mark) words) end size p → GoesOn (λ mark. after_found (y mark) words) end size q →
      GoesOn (λ mark. after_found (if test then x mark else y mark) words) end size (if test then p else q)
  either end true x y words size p q on other = on
  either end false x y words size p q on other = other

  either_rule : {A : Type 0} (end : A → Mark → Body) (test : Bool) (x y : Mark → Option Body) (words all : List (List ℕ)) (size : ℕ) (r s : Rule A) →
      GoesOn (λ mark. after_found (x mark) words) end size (r all) → GoesOn (λ mark. after_found (y mark) words) end size (s all) →
      GoesOn (λ mark. after_found (if test then x mark else y mark) words) end size ((if test then r else s) all)
  either_rule end true x y words all size r s on other = on
  either_rule end false x y words all size r s on other = other

  -- a word that is the whole phrase
  one_word : {A : Type 0} (end : A → Mark → Body) (a : A) (words : List (List ℕ)) → GoesOn (λ mark. after_found (Some (end a mark)) words) end (suc (length words)) (says a words)
  one_word end a words = (omega arith, λ mark. ap (λ m. after (end a m) words) (sym (worse_fine mark)))

  -- two phrases, one after the other
  module _ {A B : Type 0} (start : Mark → Line) (mid : A → Mark → Body) (end : B → Mark → Body) (size : ℕ) where
    second : (p : Phrase A) → (length p.rest < size) × ((mark : Mark) → start mark ≡ after (mid p.said (worse mark p.mark)) p.rest) → (q : Option (Phrase B)) →
        GoesOn (λ mark. after (mid p.said mark) p.rest) end (length p.rest) q → GoesOn start end size (after_mark p.mark q)
    second p on None other = λ mark. on.1 mark ∙ other (worse mark p.mark)
    second p on (Some q) other = (
      omega (arith, on.0, other.0),
      λ mark. on.1 mark ∙ other.1 (worse mark p.mark) ∙ ap (λ m. after (end q.said m) q.rest) (worse_assoc mark p.mark q.mark),
    )

    both : (p : Option (Phrase A)) (other : A → Rule B) → GoesOn start mid size p →
        ((a : A) (rest : List (List ℕ)) → length rest < size → GoesOn (λ mark. after (mid a mark) rest) end (length rest) (other a rest)) → GoesOn start end size (followed_by p other)
    both None other on others = on
    both (Some p) other on others = second p on (other p.said p.rest) (others p.said p.rest on.0)

    -- what the first says is all
    told : (p : Option (Phrase A)) (g : A → B) → GoesOn start mid size p → ((a : A) (mark : Mark) → mid a mark ≡ end (g a) mark) → GoesOn start end size (followed_by p (λ a. says (g a)))
    told None g on same = on
    told (Some p) g on same = (on.0, λ mark. on.1 mark ∙ ap (λ b. after b p.rest) (same p.said (worse mark p.mark) ∙ ap (λ m. end (g p.said) (worse mark m)) (sym (worse_fine p.mark))))

  -- ---- kinds

  module _ (outer : List (List Field)) (fields : List Field) where
    abbrev kind_end : Kind → Mark → Body
    kind_end kind mark = at outer fields (Label kind) mark

    bytes_read : (words : List (List ℕ)) → GoesOn (λ mark. after (at outer fields Size mark) words) kind_end (length words) (rule.bytes words)
    bytes_read [] = λ mark. refl
    bytes_read (word ∷ words) =
        at_word (at outer fields Size) kind_end word words (suc (length words)) (rule.bytes (word ∷ words))
        (either kind_end (is_run word) _ (λ mark. None) words (suc (length words)) (Some (record { said = Bytes (number_in 1 8192 word).0; mark = (number_in 1 8192 word).1; rest = words })) None (omega arith, λ mark. refl) (λ mark. refl))

    struct_read : (words : List (List ℕ)) → GoesOn (λ mark. after (at outer fields Of mark) words) kind_end (length words) (rule.struct words)
    struct_read [] = λ mark. refl
    struct_read (word ∷ words) =
        at_word (at outer fields Of) kind_end word words (suc (length words)) (rule.struct (word ∷ words))
        (either kind_end (is_name word) _ (λ mark. None) words (suc (length words)) (says (Struct word) words) None (one_word kind_end (Struct word) words) (λ mark. refl))

    -- the body of a union, where one may be opened
    abbrev opened : Mark → Body
    opened mark = at (outer ++ fields ∷ []) [] Open mark

    abbrev union_end : List Field → Mark → Body
    union_end inner mark = closed (at (outer ++ fields ∷ []) inner Close mark)

    abbrev IsInner : Rule (List Field) → Type 0
    IsInner body = (words : List (List ℕ)) → GoesOn (λ mark. after_found (if nat_lt (length outer) 8 then Some (opened mark) else None) words) union_end (suc (length words)) (body words)

    module _ (body : Rule (List Field)) (inner : IsInner body) where
      union_read : (words : List (List ℕ)) (test : Bool) →
          GoesOn (λ mark. after_found (if test && nat_lt (length outer) 8 then Some (opened mark) else None) words) kind_end (suc (length words)) ((if test then rule.union body else no_phrase) words)
      union_read words true =
          told (λ mark. after_found (if nat_lt (length outer) 8 then Some (opened mark) else None) words) union_end kind_end (suc (length words)) (body words) Union (inner words) (λ fs mark. closed_union mark outer fields fs Close)
      union_read words false = λ mark. refl

      kind_word : (next : Next) (word : List ℕ) (words : List (List ℕ)) →
          GoesOn (λ mark. after_found (kinded (at outer fields next mark) word) words) kind_end (suc (length words)) (rule.kind_after body word words)
      kind_word next word words =
          let more : length words ≤ suc (length words) = omega arith in
          either_rule kind_end (is (codes "ptr") word) _ _ words words (suc (length words)) _ _ (one_word kind_end Ptr words)
          (either_rule kind_end (is (codes "auth") word) _ _ words words (suc (length words)) _ _ (one_word kind_end Auth words)
          (either_rule kind_end (is (codes "u8") word) _ _ words words (suc (length words)) _ _ (one_word kind_end U8 words)
          (either_rule kind_end (is (codes "u16") word) _ _ words words (suc (length words)) _ _ (one_word kind_end U16 words)
          (either_rule kind_end (is (codes "u32") word) _ _ words words (suc (length words)) _ _ (one_word kind_end U32 words)
          (either_rule kind_end (is (codes "u64") word) _ _ words words (suc (length words)) _ _ (one_word kind_end U64 words)
          (either_rule kind_end (is (codes "bytes") word) _ _ words words (suc (length words)) _ _ (longer (λ mark. after (at outer fields Size mark) words) kind_end (length words) (suc (length words)) (rule.bytes words) more (bytes_read words))
          (either_rule kind_end (is (codes "struct") word) _ _ words words (suc (length words)) _ _ (longer (λ mark. after (at outer fields Of mark) words) kind_end (length words) (suc (length words)) (rule.struct words) more (struct_read words))
          (union_read words (is (codes "union") word)))))))))

      kind_read : (words : List (List ℕ)) → GoesOn (λ mark. after (at outer fields More mark) words) kind_end (length words) (rule.kind body words)
      kind_read [] = λ mark. refl
      kind_read (word ∷ words) = at_word (at outer fields More) kind_end word words (suc (length words)) (rule.kind body (word ∷ words)) (kind_word More word words)

    -- ---- labels

    abbrev field_end : FieldAndMore → Mark → Body
    field_end found mark = at outer (fields ++ found.0 ∷ []) (if found.1 then More else Close) mark

    label_read : (kind : Kind) (words : List (List ℕ)) → GoesOn (λ mark. after (at outer fields (Label kind) mark) words) field_end (length words) (rule.labelled kind words)
    label_read kind [] = λ mark. refl
    label_read kind (word ∷ words) =
        at_word (at outer fields (Label kind)) field_end word words (suc (length words)) (rule.labelled kind (word ∷ words))
        (either field_end (ends_with 59 word) _ _ words (suc (length words)) _ _ (by_label true (label (without_last word))) (by_label false (label word)))
      where
        by_label : (more : Bool) (found : Option (List ℕ × (ℕ × Mark))) →
            GoesOn (λ mark. after_found (option_map_or (λ found. Some (with_field (at outer fields (Label kind) mark) kind more found)) found None) words) field_end (suc (length words)) (option_map_or (λ found. rule.field_of kind more found words) found None)
        by_label more None = λ mark. refl
        by_label more (Some found) = (omega arith, λ mark. refl)

  -- ---- fields

  module _ (outer : List (List Field)) where
    -- the end of the body
    abbrev body_end : List Field → Mark → Body
    body_end fields mark = closed (at outer fields Close mark)

    last_read : (fields : List Field) (f : Field) (words : List (List ℕ)) →
        GoesOn (λ mark. after (at outer (fields ++ f ∷ []) Close mark) words) (λ more mark. body_end (fields ++ more) mark) (length words) (rule.last_field f words)
    last_read fields f [] = λ mark. refl
    last_read fields f (word ∷ words) =
        let end : List Field → Mark → Body = λ more mark. body_end (fields ++ more) mark in
        at_word (at outer (fields ++ f ∷ []) Close) end word words (suc (length words)) (rule.last_field f (word ∷ words))
        (either end (is (codes "}") word) _ (λ mark. None) words (suc (length words)) (says (f ∷ []) words) None (one_word end (f ∷ []) words) (λ mark. refl))

    -- each kind is read after whichever fields
    abbrev IsKind : Rule Kind → Type 0
    IsKind kind = (fields : List Field) (words : List (List ℕ)) → GoesOn (λ mark. after (at outer fields More mark) words) (kind_end outer fields) (length words) (kind words)

    module _ (kind : Rule Kind) (is_kind : IsKind kind) where
      field_read : (fields : List Field) (words : List (List ℕ)) → GoesOn (λ mark. after (at outer fields More mark) words) (field_end outer fields) (length words) (rule.field kind words)
      field_read fields words =
          both (λ mark. after (at outer fields More mark) words) (kind_end outer fields) (field_end outer fields) (length words) (kind words) rule.labelled (is_kind fields words) (λ k rest less. label_read outer fields k rest)

      fields_read : (most : ℕ) (fields : List Field) (words : List (List ℕ)) → length words ≤ most →
          GoesOn (λ mark. after (at outer fields More mark) words) (λ more mark. body_end (fields ++ more) mark) (length words) (rule.fields most kind words)
      fields_read zero fields [] few = λ mark. refl
      fields_read zero fields (word ∷ words) few = absurd (omega (arith, few))
      fields_read (suc most) fields words few =
          both (λ mark. after (at outer fields More mark) words) (field_end outer fields) (λ more mark. body_end (fields ++ more) mark) (length words) (rule.field kind words)
          (λ found. if found.1 then rule.field_before found.0 (rule.fields most kind) else rule.last_field found.0) (field_read fields words)
          (λ found rest less. by_more found.0 found.1 rest (fields_read most (fields ++ found.0 ∷ []) rest (omega (arith, less, few))))
        where
          by_more : (f : Field) (more : Bool) (rest : List (List ℕ)) →
              GoesOn (λ mark. after (at outer (fields ++ f ∷ []) More mark) rest) (λ more mark. body_end ((fields ++ f ∷ []) ++ more) mark) (length rest) (rule.fields most kind rest) →
              GoesOn (λ mark. after (at outer (fields ++ f ∷ []) (if more then More else Close) mark) rest) (λ more mark. body_end (fields ++ more) mark) (length rest) ((if more then rule.field_before f (rule.fields most kind) else rule.last_field f) rest)
          by_more f true rest on =
              told (λ mark. after (at outer (fields ++ f ∷ []) More mark) rest) (λ more mark. body_end ((fields ++ f ∷ []) ++ more) mark) (λ more mark. body_end (fields ++ more) mark) (length rest) (rule.fields most kind rest) (λ more. f ∷ more) on
              (λ more mark. ap (λ fs. body_end fs mark) (append_assoc fields (f ∷ []) more))
          by_more f false rest on = last_read fields f rest

      -- ---- bodies

      braces_read : (words : List (List ℕ)) → GoesOn (λ mark. after (at outer [] First mark) words) body_end (length words) (rule.in_braces kind words)
      braces_read [] = λ mark. refl
      braces_read (word ∷ words) =
          let all = word ∷ words in
          let fields : GoesOn (λ mark. after (at outer [] More mark) all) body_end (suc (length words)) (rule.fields (length all) kind all) = fields_read (length all) [] all (omega arith) in
          at_word (at outer [] First) body_end word words (suc (length words)) (rule.in_braces kind all)
          (either_rule body_end (is (codes "}") word) _ _ words all (suc (length words)) (λ all. says [] words) (rule.fields (length all) kind) (one_word body_end [] words)
          (from_same (λ mark. after (at outer [] More mark) all) (λ mark. after_found (kinded (at outer [] First mark) word) words) body_end (suc (length words)) (rule.fields (length all) kind all)
          (λ mark. sym (after_word (at outer [] More mark) word words)) fields))

      body_read : (words : List (List ℕ)) → GoesOn (λ mark. after (at outer [] Open mark) words) body_end (length words) (rule.body_of kind words)
      body_read [] = λ mark. refl
      body_read (word ∷ words) =
          at_word (at outer [] Open) body_end word words (suc (length words)) (rule.body_of kind (word ∷ words))
          (either_rule body_end (is (codes "{") word) _ (λ mark. None) words words (suc (length words)) (rule.in_braces kind) no_phrase
          (longer (λ mark. after (at outer [] First mark) words) body_end (length words) (suc (length words)) (rule.in_braces kind words) (omega arith) (braces_read words)) (λ mark. refl))

  -- unions in one another
  deep_read : (deep : ℕ) (outer : List (List Field)) → length outer + deep ≡ 8 → (words : List (List ℕ)) → GoesOn (λ mark. after (at outer [] Open mark) words) (body_end outer) (length words) (rule.body deep words)
  deep_read zero outer deep words =
      let full : nat_lt (length outer) 8 ≡ false = none_open (length outer) deep in
      body_read outer (rule.kind no_phrase) (λ fields words. kind_read outer fields no_phrase (λ words mark. ap (λ t. after_found (if t then Some (opened outer fields mark) else None) words) full) words) words
    where
      none_open : (n : ℕ) → n + 0 ≡ 8 → nat_lt n 8 ≡ false
      none_open n e = grind arith
  deep_read (suc more) outer deep words =
      let free : nat_lt (length outer) 8 ≡ true = one_open (length outer) more deep in
      body_read outer (rule.kind (rule.body more)) (λ fields words. kind_read outer fields (rule.body more)
      (λ words. from_same (λ mark. after (opened outer fields mark) words) (λ mark. after_found (if nat_lt (length outer) 8 then Some (opened outer fields mark) else None) words) (union_end outer fields) (suc (length words)) (rule.body more words)
      (λ mark. ap (λ t. after_found (if t then Some (opened outer fields mark) else None) words) free)
      (longer (λ mark. after (opened outer fields mark) words) (union_end outer fields) (length words) (suc (length words)) (rule.body more words) (omega arith)
      (deep_read more (outer ++ fields ∷ []) (one_less (length outer) (length (outer ++ fields ∷ [])) more (length_push outer fields) deep) words))) words) words
    where
      one_open : (n more : ℕ) → n + suc more ≡ 8 → nat_lt n 8 ≡ true
      one_open n more e = grind arith

      one_less : (n m more : ℕ) → m ≡ n + 1 → n + suc more ≡ 8 → m + more ≡ 8
      one_less n m more e f = omega arith

  line_is : (words : List (List ℕ)) → rule.declared name (rule.body 8 words) ≡ after no_body words
  line_is words = by_phrase (rule.body 8 words) (deep_read 8 [] refl words)
    where
      by_rest : (fields : List Field) (mark : Mark) (rest : List (List ℕ)) → rule.ended (record { name = name; fields = fields }, mark) rest ≡ after (at [] fields Done mark) rest
      by_rest fields mark [] = refl
      by_rest fields mark (word ∷ rest) = refl

      by_phrase : (p : Option (Phrase (List Field))) → GoesOn (λ mark. after (at [] [] Open mark) words) (body_end []) (length words) p → rule.declared name p ≡ after no_body words
      by_phrase None on = sym (on Fine)
      by_phrase (Some p) on = by_rest p.said p.mark p.rest ∙ sym (on.1 Fine)

-- what the words of a type line give one by one is what its grammar says
pub type_line-by_words : (words : List (List ℕ)) → type_line words ≡ line_by_words words
type_line-by_words [] = refl
type_line-by_words (w ∷ []) = refl
type_line-by_words (w ∷ name ∷ words) = ap (λ line. if is (codes "type") w && is_name name then line else None) (line_is name words)
