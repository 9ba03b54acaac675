-- All words of a body: what is wrong with its numbers, and its fields.
use Rattle.std.specs.Prelude.{◌≡◌, ℕ, ◌+◌, ◌<◌, ◌-◌, ◌==◌, ◌&&◌, if◌then◌else◌, List, [], ◌∷◌, ◌++◌, length, take}
use Rattle.std.specs.Prelude.{codes, Option, Some, None}
use Rattle.std.specs.Borrow.{Bor}
use Rattle.std.specs.Option.{option_map_or}
use Rattle.std.specs.List.{slice_index_or}
use Rattle.kz_model.specs.declared.bundle.Kind.TheVariants.{Ptr, Union}
use Rattle.kz_model.specs.declared.bundle.Field.{Field}
use Rattle.kz_model.specs.declared.bundle.TypeDecl.{TypeDecl}
use Rattle.kz_model.specs.declared.grammar.Mark.{Mark}
use Rattle.kz_model.specs.Grammar.Tokens.{is, is_name}
use Rattle.kz_bundle.specs.declared.form.outline.Outline.{Outline}
use Rattle.kz_bundle.specs.declared.form.outline.Walk.{Walk}
use Rattle.kz_bundle.specs.declared.form.outline.Next.{Next}
use Rattle.kz_bundle.specs.declared.form.outline.Next.TheVariants.{Word, End, NoForm}
use Rattle.kz_bundle.specs.declared.form.body.Fields.{Fields}
use Rattle.kz_bundle.specs.Bodies.{words_in}
use Rattle.kz_bundle.specs.Outlines.{Event, Nothing, KindIs, UnionOpens, UnionCloses, LabelIs, event_as, IsNamed}
use Rattle.kz_bundle.specs.Outlines.{no_outline, next_word, is_done}

-- ---- the fields of a body

abbrev pub no_fields : Fields
no_fields = record { outer = []; inner = []; kind = Ptr }

-- what a word says of the fields
abbrev pub with_event : Fields → Event → Fields
with_event f Nothing = f
with_event f (KindIs kind) = record f { kind = kind }
with_event f UnionOpens = record f { outer = f.outer ++ f.inner ∷ []; inner = [] }
with_event f UnionCloses =
    if length f.outer == 0 then f
    else record {
      outer = take (length f.outer - 1) f.outer;
      inner = slice_index_or f.outer (length f.outer - 1) [];
      kind = Union f.inner;
    }
with_event f (LabelIs found) =
    record f {
      inner = f.inner ++ record { kind = f.kind; name = found.0; count = found.1.0 } ∷ [];
      kind = Ptr;
    }

-- ---- all words

-- what is wrong with the numbers, where the body is whole
abbrev pub mark_after : Outline → List (List ℕ) → Option Mark
mark_after o [] = if is_done o.next then Some o.mark else None
mark_after o (word ∷ words) = option_map_or (λ found. mark_after found.0 words) (next_word o.next o word) None

-- its fields
abbrev pub fields_after : Outline → Fields → List (List ℕ) → Option (List Field)
fields_after o f [] = if is_done o.next then Some f.inner else None
fields_after o f (word ∷ words) =
    option_map_or (λ found. fields_after found.0 (with_event f found.1) words) (next_word o.next o word) None

-- ---- a walk

abbrev pub walk_over : Option (Bor (List ℕ)) → Walk
walk_over words = record { outline = no_outline; left = words }

-- what is wrong with the numbers of the whole, with what is left after one word more
abbrev pub KeepsMark : Walk → Walk → Next → Type 0
KeepsMark walk more (Word event) =
    mark_after more.outline (words_in more.left) ≡ mark_after walk.outline (words_in walk.left)
KeepsMark walk more (End mark) = mark_after walk.outline (words_in walk.left) ≡ Some mark
KeepsMark walk more NoForm = mark_after walk.outline (words_in walk.left) ≡ None

-- its fields
abbrev pub KeepsFields : Walk → Walk → Next → Type 0
KeepsFields walk more (Word event) =
    (f : Fields) →
    fields_after more.outline (with_event f (event_as event)) (words_in more.left)
    ≡ fields_after walk.outline f (words_in walk.left)
KeepsFields walk more (End mark) = (f : Fields) → fields_after walk.outline f (words_in walk.left) ≡ Some f.inner
KeepsFields walk more NoForm = (f : Fields) → fields_after walk.outline f (words_in walk.left) ≡ None

-- how many bytes are left, and one more
abbrev pub size_left : Walk → ℕ
size_left walk = option_map_or (λ rest. length rest.now + 1) walk.left 0

abbrev pub IsShorter : Walk → Walk → Next → Type 0
IsShorter walk more (Word event) = size_left more < size_left walk
IsShorter walk more (End mark) = Unit {0}
IsShorter walk more NoForm = Unit {0}

abbrev pub HasName : Next → Type 0
HasName (Word event) = IsNamed event
HasName (End mark) = Unit {0}
HasName NoForm = Unit {0}

-- ---- a type line

-- the name of a type, with what is wrong with its numbers
abbrev pub name_and_mark : TypeDecl × Mark → List ℕ × Mark
name_and_mark found = (found.0.name, found.1)

-- the declaration, without what is wrong with its numbers
abbrev pub decl_alone : TypeDecl × Mark → TypeDecl
decl_alone found = found.0

abbrev pub with_name : {A : Type 0} → (List ℕ → List (List ℕ) → Option A) → List (List ℕ) → Option A
with_name read (w ∷ name ∷ words) = if is (codes "type") w && is_name name then read name words else None
with_name read words = None

-- `type NAME BODY`
abbrev pub checked_line : List (List ℕ) → Option (List ℕ × Mark)
checked_line words =
    with_name (λ name words. option_map_or (λ mark. Some (name, mark)) (mark_after no_outline words) None) words

abbrev pub declared_line : List (List ℕ) → Option TypeDecl
declared_line words =
    with_name (λ name words.
    option_map_or (λ fields. Some (record { name = name; fields = fields }))
    (fields_after no_outline no_fields words) None)
    words
