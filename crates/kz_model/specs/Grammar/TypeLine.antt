-- The grammar of a type line.
use Rattle.std.specs.Prelude.{ℕ, zero, suc, ◌-◌, Bool, true, false, ◌&&◌, ◌==◌, nat_lt, if◌then◌else◌, List, [], ◌∷◌}
use Rattle.std.specs.Prelude.{length, take, codes, Option, Some, None, slice_index}
use Rattle.std.specs.Option.{option_map_or}
use Rattle.std.specs.List.{list_any, before_first, after_first}
use Rattle.kz_model.specs.declared.bundle.Kind.{Kind}
use Rattle.kz_model.specs.declared.bundle.Kind.TheVariants.{Ptr, Auth, U8, U16, U32, U64, Bytes, Struct, Union}
use Rattle.kz_model.specs.declared.bundle.Field.{Field}
use Rattle.kz_model.specs.declared.bundle.TypeDecl.{TypeDecl}
use Rattle.kz_model.specs.declared.grammar.Mark.{Mark}
use Rattle.kz_model.specs.declared.grammar.Mark.TheVariants.{Fine}
use Rattle.kz_model.specs.Grammar.Tokens.{is, is_name, is_run, number_in, worse}

-- ---- phrases

-- words that begin a text: what they say, what is wrong with their numbers, and the words after them
pub record Phrase (A : Type 0) : Type 0 where
  pub said : A
  pub mark : Mark
  pub rest : List (List ℕ)

-- a rule of the grammar: the phrase that a text begins with, where it begins with one
abbrev pub Rule : Type 0 → Type 0
Rule A = List (List ℕ) → Option (Phrase A)

abbrev pub no_phrase : {A : Type 0} → Rule A
no_phrase words = None

-- this is said; the words are those after it
abbrev pub says : {A : Type 0} → A → Rule A
says said words = Some (record { said = said; mark = Fine; rest = words })

-- the mark of two phrases is the worse one
abbrev pub after_mark : {A : Type 0} → Mark → Option (Phrase A) → Option (Phrase A)
after_mark mark None = None
after_mark mark (Some phrase) = Some (record phrase { mark = worse mark phrase.mark })

-- a phrase, and after it one by the rule for what the first says
abbrev pub followed_by : {A B : Type 0} → Option (Phrase A) → (A → Rule B) → Option (Phrase B)
followed_by None rule = None
followed_by (Some first) rule = after_mark first.mark (rule first.said first.rest)

-- ---- labels

abbrev pub ends_with : ℕ → List ℕ → Bool
ends_with byte word = nat_lt 0 (length word) && (slice_index word (length word - 1) == byte)

abbrev pub without_last : List ℕ → List ℕ
without_last word = take (length word - 1) word

-- `NAME`, or `NAME[N]`: the name and the count
abbrev pub label : List ℕ → Option (List ℕ × (ℕ × Mark))
label word =
    if list_any (λ b. b == 91) word
    then (
    if is_name (before_first (λ b. b == 91) word) && ends_with 93 (after_first (λ b. b == 91) word)
    && is_run (without_last (after_first (λ b. b == 91) word))
    then Some (before_first (λ b. b == 91) word, number_in 2 8192 (without_last (after_first (λ b. b == 91) word)))
    else None
    )
    else if is_name word then Some (word, (1, Fine)) else None

-- ---- kinds

-- the N of `bytes N`
abbrev pub bytes : Rule Kind
bytes [] = None
bytes (word ∷ words) =
    if is_run word
    then Some (record { said = Bytes (number_in 1 8192 word).0; mark = (number_in 1 8192 word).1; rest = words })
    else None

-- the NAME of `struct NAME`
abbrev pub struct : Rule Kind
struct [] = None
struct (word ∷ words) = if is_name word then says (Struct word) words else None

-- the BODY of `union BODY`
abbrev pub union : Rule (List Field) → Rule Kind
union body words = followed_by (body words) (λ fields. says (Union fields))

-- what follows the first word of a KIND
abbrev pub kind_after : Rule (List Field) → List ℕ → Rule Kind
kind_after body word =
    if is (codes "ptr") word then says Ptr
    else if is (codes "auth") word then says Auth
    else if is (codes "u8") word then says U8
    else if is (codes "u16") word then says U16
    else if is (codes "u32") word then says U32
    else if is (codes "u64") word then says U64
    else if is (codes "bytes") word then bytes
    else if is (codes "struct") word then struct
    else if is (codes "union") word then union body
    else no_phrase

-- KIND: `ptr`, `auth`, `u8`, `u16`, `u32`, `u64`, `bytes N`, `struct NAME` or `union BODY`
abbrev pub kind : Rule (List Field) → Rule Kind
kind body [] = None
kind body (word ∷ words) = kind_after body word words

-- ---- fields

-- a field, and whether another follows it
abbrev pub FieldAndMore : Type 0
FieldAndMore = Field × Bool

abbrev pub field_of : Kind → Bool → List ℕ × (ℕ × Mark) → Rule FieldAndMore
field_of kind more found words =
    Some (record {
      said = (record { kind = kind; name = found.0; count = found.1.0 }, more);
      mark = found.1.1;
      rest = words;
    })

-- the label of a field of this kind, with `;` where another field follows
abbrev pub labelled : Kind → Rule FieldAndMore
labelled kind [] = None
labelled kind (word ∷ words) =
    if ends_with 59 word
    then option_map_or (λ found. field_of kind true found words) (label (without_last word)) None
    else option_map_or (λ found. field_of kind false found words) (label word) None

-- a field: `KIND NAME`, or `KIND NAME[N]`
abbrev pub field : Rule Kind → Rule FieldAndMore
field kind words = followed_by (kind words) labelled

-- `}` after the last field
abbrev pub last_field : Field → Rule (List Field)
last_field f [] = None
last_field f (word ∷ words) = if is (codes "}") word then says (f ∷ []) words else None

abbrev pub field_before : Field → Rule (List Field) → Rule (List Field)
field_before f fields words = followed_by (fields words) (λ more. says (f ∷ more))

-- fields parted by `; `, and ` }` after the last; at most so many
abbrev pub fields : ℕ → Rule Kind → Rule (List Field)
fields zero kind words = None
fields (suc most) kind words =
    followed_by (field kind words) (λ found.
    if found.1 then field_before found.0 (fields most kind) else last_field found.0)

-- ---- bodies

-- what follows `{`: `}`, or fields, of which each has a word at least
abbrev pub in_braces : Rule Kind → Rule (List Field)
in_braces kind [] = None
in_braces kind (word ∷ words) =
    (if is (codes "}") word then (λ all. says [] words) else fields (length (word ∷ words)) kind) (word ∷ words)

abbrev pub body_of : Rule Kind → Rule (List Field)
body_of kind [] = None
body_of kind (word ∷ words) = (if is (codes "{") word then in_braces kind else no_phrase) words

-- BODY: `{ }`, or `{ ` with fields and ` }`; unions may stand in one another so deep
abbrev pub body : ℕ → Rule (List Field)
body zero = body_of (kind no_phrase)
body (suc deep) = body_of (kind (body deep))

-- ---- a type line

-- no words stand after it
abbrev pub ended : {A : Type 0} → A → List (List ℕ) → Option A
ended found [] = Some found
ended found (word ∷ words) = None

abbrev pub declared : List ℕ → Option (Phrase (List Field)) → Option (TypeDecl × Mark)
declared name None = None
declared name (Some phrase) = ended (record { name = name; fields = phrase.said }, phrase.mark) phrase.rest

-- `type NAME BODY`; unions stand in one another at most 8 deep
abbrev pub type_line : List (List ℕ) → Option (TypeDecl × Mark)
type_line (w ∷ name ∷ words) = if is (codes "type") w && is_name name then declared name (body 8 words) else None
type_line words = None
