-- A type line word by word: its body so far, and what one word more makes of it.
use Rattle.std.specs.Prelude.{ℕ, ◌-◌, Bool, true, false, ◌&&◌, ◌==◌, nat_lt, if◌then◌else◌, List, [], ◌∷◌, ◌++◌}
use Rattle.std.specs.Prelude.{length, take, codes, Option, Some, None}
use Rattle.std.specs.Option.{option_map_or}
use Rattle.std.specs.List.{slice_index_or}
use Rattle.kz_model.specs.declared.bundle.Kind.{Kind}
use Rattle.kz_model.specs.declared.bundle.Kind.TheVariants.{Ptr, Auth, U8, U16, U32, U64, Bytes, Struct, Union}
use Rattle.kz_model.specs.declared.bundle.Field.{Field}
use Rattle.kz_model.specs.declared.bundle.TypeDecl.{TypeDecl}
use Rattle.kz_model.specs.declared.grammar.Mark.{Mark}
use Rattle.kz_model.specs.declared.grammar.Mark.TheVariants.{Fine}
use Rattle.kz_model.specs.Grammar.Tokens.{is, is_name, is_run, number_in, worse}
use Rattle.kz_model.specs.Grammar.TypeLine.{ends_with, without_last, label}

-- which words are allowed next
pub data Next : Type 0 where
  Open : Next  -- `{`
  First : Next  -- a field's kind, or `}`
  More : Next  -- a field's kind, after `;`
  Size : Next  -- the number of `bytes`
  Of : Next  -- the NAME of `struct`
  Label : Kind → Next  -- the NAME of a field of this kind, maybe with its count, and `;` where a field follows
  Close : Next  -- `}`
  Done : Next  -- none

-- the innermost body that is open has these fields so far, and the bodies around it those, the innermost last
pub record Body : Type 0 where
  pub outer : List (List Field)
  pub fields : List Field
  pub mark : Mark
  pub next : Next

-- one more field
abbrev pub with_field : Body → Kind → Bool → List ℕ × (ℕ × Mark) → Body
with_field b kind more found =
    record b {
      fields = b.fields ++ record { kind = kind; name = found.0; count = found.1.0 } ∷ [];
      mark = worse b.mark found.1.1;
      next = if more then More else Close;
    }

abbrev pub labelled : Body → Kind → List ℕ → Option Body
labelled b kind word =
    if ends_with 59 word
    then option_map_or (λ found. Some (with_field b kind true found)) (label (without_last word)) None
    else option_map_or (λ found. Some (with_field b kind false found)) (label word) None

abbrev pub of_kind : Body → Kind → Option Body
of_kind b kind = Some (record b { next = Label kind })

-- the first word of a field; eight unions may be open at one place
abbrev pub kinded : Body → List ℕ → Option Body
kinded b word =
    if is (codes "ptr") word then of_kind b Ptr
    else if is (codes "auth") word then of_kind b Auth
    else if is (codes "u8") word then of_kind b U8
    else if is (codes "u16") word then of_kind b U16
    else if is (codes "u32") word then of_kind b U32
    else if is (codes "u64") word then of_kind b U64
    else if is (codes "bytes") word then Some (record b { next = Size })
    else if is (codes "struct") word then Some (record b { next = Of })
    else if is (codes "union") word && nat_lt (length b.outer) 8
    then Some (record b { outer = b.outer ++ b.fields ∷ []; fields = []; next = Open })
    else None

-- `}` ends the innermost body: a union, whose label follows, or the type
abbrev pub closed : Body → Body
closed b =
    if length b.outer == 0 then record b { next = Done }
    else record b {
      outer = take (length b.outer - 1) b.outer;
      fields = slice_index_or b.outer (length b.outer - 1) [];
      next = Label (Union b.fields);
    }

abbrev pub sized : Body → ℕ × Mark → Body
sized b size = record b { mark = worse b.mark size.1; next = Label (Bytes size.0) }

-- one more word, where its place allows it
abbrev pub next_word : Next → Body → List ℕ → Option Body
next_word Open b word = if is (codes "{") word then Some (record b { next = First }) else None
next_word First b word = if is (codes "}") word then Some (closed b) else kinded b word
next_word More b word = kinded b word
next_word Size b word = if is_run word then Some (sized b (number_in 1 8192 word)) else None
next_word Of b word = if is_name word then of_kind b (Struct word) else None
next_word (Label kind) b word = labelled b kind word
next_word Close b word = if is (codes "}") word then Some (closed b) else None
next_word Done b word = None

-- all words
abbrev pub body_of : Body → List (List ℕ) → Option Body
body_of b [] = Some b
body_of b (word ∷ words) = option_map_or (λ more. body_of more words) (next_word b.next b word) None

abbrev pub no_body : Body
no_body = record { outer = []; fields = []; mark = Fine; next = Open }

abbrev pub whole : List ℕ → Next → Body → Option (TypeDecl × Mark)
whole name Done b = Some (record { name = name; fields = b.fields }, b.mark)
whole name next b = None

-- `type NAME BODY`, word by word
abbrev pub line_by_words : List (List ℕ) → Option (TypeDecl × Mark)
line_by_words (w ∷ name ∷ words) =
    if is (codes "type") w && is_name name
    then option_map_or (λ b. whole name b.next b) (body_of no_body words) None
    else None
line_by_words words = None
