-- The forms of lines: what each place of a text allows, with any run of bytes in the places of numbers.
use Rattle.std.specs.Prelude.{◌≡◌, ◌⊎◌, ℕ, zero, suc, ◌+◌, ◌-◌, ◌^◌, ◌<◌, ◌≤◌, ◌==◌, not, if◌then◌else◌, List, [], ◌∷◌, ◌++◌, length, codes, decimal, Option, Some, None, IsTrue}
use Rattle.std.specs.List.{list_all, join_with_byte}
use Rattle.kz_model.specs.declared.grammar.Place.{Place}
use Rattle.kz_model.specs.declared.grammar.Place.TheVariants as place
use Rattle.kz_model.specs.Grammar.Tokens.{is_name, is_run, is_hex}
use Rattle.kz_model.specs.Grammar.Form.{Draft, is_last}

-- ---- lines with runs in the places of numbers

-- a number's place: the range of the number, and the run of bytes that stands there
pub record Hole : Type 0 where
  pub low : ℕ
  pub high : ℕ
  pub run : List ℕ

-- a token of a line that has a form
pub data Token : Type 0 where
  Text : List ℕ → Token  -- these bytes
  Run : Hole → Token  -- a number's place
  WithCount : List ℕ → Hole → List ℕ → Token  -- a number's place in brackets, with what stands before and after them

abbrev pub token_text : Token → List ℕ
token_text (Text text) = text
token_text (Run hole) = hole.run
token_text (WithCount before hole after) = before ++ codes "[" ++ hole.run ++ codes "]" ++ after

-- the words of a line
abbrev pub words_of : List Token → List (List ℕ)
words_of [] = []
words_of (token ∷ tokens) = token_text token ∷ words_of tokens

-- the places of its numbers
abbrev pub holes_of : List Token → List Hole
holes_of [] = []
holes_of (Text text ∷ tokens) = holes_of tokens
holes_of (Run hole ∷ tokens) = hole ∷ holes_of tokens
holes_of (WithCount before hole after ∷ tokens) = hole ∷ holes_of tokens

abbrev pub EachHole : (Hole → Type 0) → List Hole → Type 0
EachHole P [] = Unit {0}
EachHole P (hole ∷ holes) = P hole × EachHole P holes

abbrev pub SomeHole : (Hole → Type 0) → List Hole → Type 0
SomeHole P [] = ⊥
SomeHole P (hole ∷ holes) = P hole ⊎ SomeHole P holes

-- a run has no space
abbrev pub HasNoSpace : Hole → Type 0
HasNoSpace hole = IsTrue (list_all (λ byte. not (byte == 32)) hole.run)

-- ---- forms that are rows of a table

-- what a form has in the place of a token
pub data Slot : Type 0 where
  Word : List ℕ → Slot  -- this word
  Name : Slot  -- NAME or TYPE
  Hex : Slot  -- HEX
  Number : List (List ℕ) → ℕ → ℕ → Slot  -- a number from low to high; none of these words, which stand for themselves

abbrev pub IsNoneOf : List ℕ → List (List ℕ) → Type 0
IsNoneOf text [] = Unit {0}
IsNoneOf text (word ∷ words) = ¬ (text ≡ word) × IsNoneOf text words

abbrev pub Fills : Token → Slot → Type 0
Fills (Text text) (Word word) = text ≡ word
Fills (Text text) Name = IsTrue (is_name text)
Fills (Text text) Hex = IsTrue (is_hex text)
Fills (Run hole) (Number words low high) = (hole.low ≡ low) × (hole.high ≡ high) × IsNoneOf hole.run words ×
    IsTrue (is_run hole.run)
Fills token slot = ⊥

-- token by token
abbrev pub HasRow : List Slot → List Token → Type 0
HasRow [] [] = Unit {0}
HasRow (slot ∷ slots) (token ∷ tokens) = Fills token slot × HasRow slots tokens
HasRow slots tokens = ⊥

-- the form is one of these
abbrev pub HasOneOf : List (List Slot) → List Token → Type 0
HasOneOf [] tokens = ⊥
HasOneOf (row ∷ rows) tokens = HasRow row tokens ⊎ HasOneOf rows tokens

abbrev pub number_row : List ℕ → ℕ → ℕ → List Slot
number_row word low high = Word word ∷ Number [] low high ∷ []

-- `WORD N`
abbrev pub number_rows : List ℕ → ℕ → ℕ → List (List Slot)
number_rows word low high = number_row word low high ∷ []

-- the line of the header after so many
abbrev pub header_rows : ℕ → List (List Slot)
header_rows at =
    if at == 0 then number_rows (codes "machine") 1 1
    else if at == 1
    then (Word (codes "seed") ∷ Word (codes "plain") ∷ [])
    ∷ (Word (codes "seed") ∷ Number (codes "plain" ∷ []) 0 (2 ^ 64 - 1) ∷ []) ∷ []
    else if at == 2 then number_rows (codes "cpus") 1 16
    else if at == 3 then number_rows (codes "frames") 1 8192
    else if at == 4 then number_rows (codes "pages") 1 4096
    else if at == 5 then number_rows (codes "budget") 1 128
    else if at == 6 then number_rows (codes "magazine") 1 32
    else number_rows (codes "depot") 0 16

abbrev pub step_rows : ℕ → List (List Slot)
step_rows cpus =
    (Word (codes "a") ∷ Name ∷ Name ∷ [])
    ∷ (Word (codes "z") ∷ Name ∷ Name ∷ [])
    ∷ (Word (codes "f") ∷ Name ∷ [])
    ∷ (Word (codes "f") ∷ Name ∷ Name ∷ [])
    ∷ (Word (codes "g") ∷ Name ∷ Number [] 0 (cpus - 1) ∷ [])
    ∷ (Word (codes "t") ∷ Name ∷ [])
    ∷ (Word (codes "r") ∷ Name ∷ Number [] 0 8191 ∷ Number [] 1 32 ∷ [])
    ∷ (Word (codes "w") ∷ Name ∷ Number [] 0 8191 ∷ Hex ∷ [])
    ∷ (Word (codes "flush") ∷ Name ∷ [])
    ∷ (Word (codes "trim") ∷ Name ∷ [])
    ∷ []

-- what may stand beside step lines: after the last CPU's the end of the section, else the next CPU's `cpu` line
abbrev pub section_rows : Draft → List (List Slot)
section_rows d =
    (Word (codes "--") ∷ [])
    ∷ (if is_last d
    then (Word (codes "end") ∷ []) ∷ (Word (codes "order") ∷ []) ∷ step_rows d.header.cpus
    else number_row (codes "cpu") (length d.before + 1) (length d.before + 1) ∷ step_rows d.header.cpus)

abbrev pub order_rows : ℕ → List (List Slot)
order_rows cpus =
    (Word (codes "--") ∷ [])
    ∷ (Word (codes "end") ∷ [])
    ∷ (Number (codes "--" ∷ codes "end" ∷ []) 0 (cpus - 1) ∷ [])
    ∷ []

-- ---- type lines

-- a field: its kind, its name, and the count where it has one
pub record FieldForm : Type 0 where
  pub kind : List Token
  pub name : List ℕ
  pub count : Option Hole

-- `NAME` or `NAME[N]`, and what stands right after it
abbrev pub label_token : List ℕ → Option Hole → List ℕ → Token
label_token name None after = Text (name ++ after)
label_token name (Some hole) after = WithCount name hole after

-- fields parted by `; `, and ` }` after the last
abbrev pub fields_tokens : FieldForm → List FieldForm → List Token
fields_tokens f [] = f.kind ++ label_token f.name f.count [] ∷ Text (codes "}") ∷ []
fields_tokens f (next ∷ fields) = f.kind ++ label_token f.name f.count (codes ";") ∷ fields_tokens next fields

-- BODY
abbrev pub body_tokens : List FieldForm → List Token
body_tokens [] = Text (codes "{") ∷ Text (codes "}") ∷ []
body_tokens (f ∷ fields) = Text (codes "{") ∷ fields_tokens f fields

abbrev pub plain_kinds : List (List Slot)
plain_kinds =
    (Word (codes "ptr") ∷ [])
    ∷ (Word (codes "auth") ∷ [])
    ∷ (Word (codes "u8") ∷ [])
    ∷ (Word (codes "u16") ∷ [])
    ∷ (Word (codes "u32") ∷ [])
    ∷ (Word (codes "u64") ∷ [])
    ∷ (Word (codes "bytes") ∷ Number [] 1 8192 ∷ [])
    ∷ (Word (codes "struct") ∷ Name ∷ [])
    ∷ []

-- a count is from 2 to 8192; none stands for 1
abbrev pub IsCount : Option Hole → Type 0
IsCount None = Unit {0}
IsCount (Some hole) = (hole.low ≡ 2) × (hole.high ≡ 8192) × IsTrue (is_run hole.run)

-- each field is of one of these kinds
abbrev pub AreFields : (List Token → Type 0) → List FieldForm → Type 0
AreFields IsKind [] = Unit {0}
AreFields IsKind (f ∷ fields) = (IsKind f.kind × IsTrue (is_name f.name) × IsCount f.count) × AreFields IsKind fields

-- `{ }`, or fields in braces
pub record IsBodyOf (IsKind : List Token → Type 0) (tokens : List Token) : Type 0 where
  pub fields : List FieldForm
  pub are : AreFields IsKind fields
  pub whole : tokens ≡ body_tokens fields

-- `union BODY`
pub record IsUnionOf (IsBody : List Token → Type 0) (tokens : List Token) : Type 0 where
  pub body : List Token
  pub is : IsBody body
  pub whole : tokens ≡ Text (codes "union") ∷ body

abbrev pub NoUnion : List Token → Type 0
NoUnion tokens = ⊥

abbrev pub IsKindOf : (List Token → Type 0) → List Token → Type 0
IsKindOf IsUnion tokens = HasOneOf plain_kinds tokens ⊎ IsUnion tokens

-- BODY, with unions that stand in one another so deep
abbrev pub IsBody : ℕ → List Token → Type 0
IsBody zero = IsBodyOf (IsKindOf NoUnion)
IsBody (suc deep) = IsBodyOf (IsKindOf (IsUnionOf (IsBody deep)))

-- `type NAME BODY`
pub record IsTypeForm (tokens : List Token) : Type 0 where
  pub name : List ℕ
  pub named : IsTrue (is_name name)
  pub body : List Token
  pub is : IsBody 8 body
  pub whole : tokens ≡ Text (codes "type") ∷ Text name ∷ body

-- ---- places

-- a line of this form may stand at this place
abbrev pub IsForm : Place → Draft → List Token → Type 0
IsForm (place.Header at) d tokens = HasOneOf (header_rows at) tokens
IsForm place.Types d tokens = IsTypeForm tokens ⊎ HasOneOf (number_rows (codes "cpu") 0 0) tokens
IsForm place.Steps d tokens = HasOneOf (section_rows d) tokens
IsForm place.Order d tokens = HasOneOf (order_rows d.header.cpus) tokens
IsForm place.Ended d tokens = ⊥

-- the words are those of a form of this place, with these runs in the places of its numbers
pub record HasForm (p : Place) (d : Draft) (words : List (List ℕ)) (tokens : List Token) : Type 0 where
  pub form : IsForm p d tokens
  pub text : words ≡ words_of tokens

-- The text is that of a form of this place: its tokens are parted by exactly one space, and the runs in the places of
-- its numbers have none.
pub record IsTextOf (p : Place) (d : Draft) (text : List ℕ) (tokens : List Token) : Type 0 where
  pub form : IsForm p d tokens
  pub runs : EachHole HasNoSpace (holes_of tokens)
  pub whole : text ≡ join_with_byte 32 (words_of tokens)

-- ---- numbers

-- `0`, or digits without a leading zero, below 2^64
pub record IsWritten (n : ℕ) (run : List ℕ) : Type 0 where
  pub small : n < 2 ^ 64
  pub digits : run ≡ decimal n

abbrev pub IsNumber : Hole → Type 0
IsNumber hole = (n : ℕ) × IsWritten n hole.run

abbrev pub IsInRange : Hole → Type 0
IsInRange hole = (n : ℕ) × IsWritten n hole.run × (hole.low ≤ n) × (n ≤ hole.high)
