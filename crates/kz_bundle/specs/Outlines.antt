-- The words of a body one after the other: which are allowed next, and what each says of the fields.
use Rattle.std.specs.Prelude.{ℕ, ◌+◌, ◌-◌, Bool, true, false, ◌&&◌, ◌==◌, nat_lt, if◌then◌else◌, List, codes, Option}
use Rattle.std.specs.Prelude.{Some, None, IsTrue}
use Rattle.std.specs.Option.{option_map_or}
use Rattle.kz_model.specs.declared.bundle.Kind.{Kind}
use Rattle.kz_model.specs.declared.bundle.Kind.TheVariants.{Ptr, Auth, U8, U16, U32, U64, Bytes, Struct}
use Rattle.kz_model.specs.declared.grammar.Mark.TheVariants.{Fine}
use Rattle.kz_model.specs.declared.grammar.Mark.{Mark}
use Rattle.kz_model.specs.Grammar.Tokens.{is, is_name, is_run, number_in, worse}
use Rattle.kz_model.specs.Grammar.TypeLine as body
use Rattle.kz_bundle.specs.declared.form.outline.Allowed.{Allowed}
use Rattle.kz_bundle.specs.declared.form.outline.Allowed.TheVariants.{Open, First, More, Size, Of, Label, Close, Done}
use Rattle.kz_bundle.specs.declared.form.outline.Outline.{Outline}
use Rattle.kz_bundle.specs.declared.form.outline.Event as code
use Rattle.kz_bundle.specs.declared.form.outline.Event.TheVariants as event
use Rattle.kz_bundle.specs.Bodies.{label_as}

-- what a word says of the fields
pub data Event : Type 0 where
  Nothing : Event
  KindIs : Kind → Event
  UnionOpens : Event
  UnionCloses : Event
  LabelIs : List ℕ × (ℕ × Mark) → Event

abbrev pub event_as : code.Event → Event
event_as event.Nothing = Nothing
event_as (event.KindIs kind) = KindIs kind
event_as event.UnionOpens = UnionOpens
event_as event.UnionCloses = UnionCloses
event_as (event.LabelIs l) = LabelIs (label_as l)

abbrev pub found_as : Outline × code.Event → Outline × Event
found_as found = (found.0, event_as found.1)

-- its label has a NAME
abbrev pub IsNamed : code.Event → Type 0
IsNamed event.Nothing = Unit {0}
IsNamed (event.KindIs kind) = Unit {0}
IsNamed event.UnionOpens = Unit {0}
IsNamed event.UnionCloses = Unit {0}
IsNamed (event.LabelIs l) = IsTrue (is_name l.name.now)

-- ---- one more word

abbrev pub no_outline : Outline
no_outline = record { depth = 0; mark = Fine; next = Open }

abbrev pub silent : Outline → Allowed → Outline × Event
silent o next = (record o { next = next }, Nothing)

abbrev pub with_kind : Outline → Kind → Outline × Event
with_kind o kind = (record o { next = Label }, KindIs kind)

abbrev pub with_label : Outline → Allowed → List ℕ × (ℕ × Mark) → Outline × Event
with_label o next found = (record o { mark = worse o.mark found.1.1; next = next }, LabelIs found)

-- the label of a field, and `;` where a field follows
abbrev pub labelled : Outline → List ℕ → Option (Outline × Event)
labelled o word =
    if body.ends_with 59 word
    then option_map_or (λ found. Some (with_label o More found)) (body.label (body.without_last word)) None
    else option_map_or (λ found. Some (with_label o Close found)) (body.label word) None

-- the first word of a field; eight unions may be open at one place
abbrev pub kinded : Outline → List ℕ → Option (Outline × Event)
kinded o word =
    if is (codes "ptr") word then Some (with_kind o Ptr)
    else if is (codes "auth") word then Some (with_kind o Auth)
    else if is (codes "u8") word then Some (with_kind o U8)
    else if is (codes "u16") word then Some (with_kind o U16)
    else if is (codes "u32") word then Some (with_kind o U32)
    else if is (codes "u64") word then Some (with_kind o U64)
    else if is (codes "bytes") word then Some (silent o Size)
    else if is (codes "struct") word then Some (silent o Of)
    else if is (codes "union") word && nat_lt o.depth 8
    then Some (record o { depth = o.depth + 1; next = Open }, UnionOpens)
    else None

-- `}` ends the innermost body: a union, whose label follows, or the type
abbrev pub closed : Outline → Outline × Event
closed o = if o.depth == 0 then silent o Done else (record o { depth = o.depth - 1; next = Label }, UnionCloses)

-- the number of `bytes`
abbrev pub sized : Outline → ℕ × Mark → Outline × Event
sized o size = with_kind (record o { mark = worse o.mark size.1 }) (Bytes size.0)

-- one more word, where its place allows it
abbrev pub next_word : Allowed → Outline → List ℕ → Option (Outline × Event)
next_word Open o word = if is (codes "{") word then Some (silent o First) else None
next_word First o word = if is (codes "}") word then Some (closed o) else kinded o word
next_word More o word = kinded o word
next_word Size o word = if is_run word then Some (sized o (number_in 1 8192 word)) else None
next_word Of o word = if is_name word then Some (with_kind o (Struct word)) else None
next_word Label o word = labelled o word
next_word Close o word = if is (codes "}") word then Some (closed o) else None
next_word Done o word = None

abbrev pub is_done : Allowed → Bool
is_done Done = true
is_done other = false
