-- What a text spells: the grammar of bundles, line by line.
use Rattle.std.specs.Prelude.{◌≡◌, ℕ, suc, zero, ◌+◌, ◌-◌, ◌<◌, ◌≤◌, ◌^◌, ◌==◌, if◌then◌else◌, List, [], ◌∷◌, ◌++◌, length, map, replicate, codes, decimal, Option, Some, None, Ok, Err, IsTrue, All, slice_index_or}
use Rattle.std.specs.List.{flat_map, enumerate_from}
use Rattle.kz_model.specs.declared.bundle.Seed.{Seed}
use Rattle.kz_model.specs.declared.bundle.Seed.TheVariants as seed
use Rattle.kz_model.specs.declared.bundle.Kind.{Kind, Union', Row_of-Field, end_of-Field, more_of-Field}
use Rattle.kz_model.specs.declared.bundle.Kind.TheVariants as kind
use Rattle.kz_model.specs.declared.bundle.Field.{Field}
use Rattle.kz_model.specs.declared.bundle.TypeDecl.{TypeDecl}
use Rattle.kz_model.specs.declared.bundle.TraceStep.{TraceStep}
use Rattle.kz_model.specs.declared.bundle.Act.{Act}
use Rattle.kz_model.specs.declared.bundle.Act.TheVariants as act
use Rattle.kz_model.specs.declared.bundle.OrderLine.{OrderLine}
use Rattle.kz_model.specs.declared.bundle.OrderLine.TheVariants as turn
use Rattle.kz_model.specs.declared.bundle.Bundle.{Bundle}
use Rattle.kz_model.specs.declared.grammar.Place.{Place}
use Rattle.kz_model.specs.declared.grammar.Place.TheVariants as place
use Rattle.kz_model.specs.declared.grammar.Refusal.{Refusal}
use Rattle.kz_model.specs.Grammar.Tokens.{is_name}
use Rattle.kz_model.specs.Grammar.Steps.{NamedStep, Alloc, AllocZero, Free, FreeAs, Give, Take, Read, Write, Flush, Trim}
use Rattle.kz_model.specs.Grammar.Form.{Line, Machine, SeedOf, Cpus, Frames, Pages, Budget, Magazine, Depot, Declares, Opens, Does, Break, Orders, Turns, Ends, Draft, empty_draft, is_last, with_line}
use Rattle.kz_model.specs.Grammar.Stages.{later_fault, bundle_of, read}
use Rattle.kz_model.specs.Text.Lines.{text_of_lines, hex_bytes}

-- ---- the text of each line, without its end

abbrev pub spaced : List ℕ → List ℕ → List ℕ
spaced word more = word ++ codes " " ++ more

abbrev pub numbered : List ℕ → ℕ → List ℕ
numbered word n = spaced word (decimal n)

abbrev pub seed_text : Seed → List ℕ
seed_text seed.Plain = codes "seed plain"
seed_text (seed.Number n) = numbered (codes "seed") n

-- a field's name, with its count where that isn't 1
abbrev pub label_text : List ℕ → ℕ → List ℕ
label_text name count = name ++ (if count == 1 then [] else codes "[" ++ decimal count ++ codes "]")

abbrev mutual
  pub kind_text : Kind → List ℕ
  kind_text kind.Ptr = codes "ptr"
  kind_text kind.Auth = codes "auth"
  kind_text kind.U8 = codes "u8"
  kind_text kind.U16 = codes "u16"
  kind_text kind.U32 = codes "u32"
  kind_text kind.U64 = codes "u64"
  kind_text (kind.Bytes size) = numbered (codes "bytes") size
  kind_text (kind.Struct of) = spaced (codes "struct") of
  kind_text (Union' shape row) = codes "union {" ++ row_text row ++ codes " }"

  -- fields parted by `; `, a space before the first
  pub row_text : {m : _} → Row_of-Field m → List ℕ
  row_text end_of-Field = []
  row_text (more_of-Field kind name count rest) = codes " " ++ kind_text kind ++ codes " " ++ label_text name count ++ more_text rest

  pub more_text : {m : _} → Row_of-Field m → List ℕ
  more_text end_of-Field = []
  more_text (more_of-Field kind name count rest) = codes "; " ++ kind_text kind ++ codes " " ++ label_text name count ++ more_text rest

abbrev pub field_text : Field → List ℕ
field_text f = spaced (kind_text f.kind) (label_text f.name f.count)

abbrev pub more_fields_text : List Field → List ℕ
more_fields_text [] = []
more_fields_text (f ∷ fields) = codes "; " ++ field_text f ++ more_fields_text fields

abbrev pub fields_text : List Field → List ℕ
fields_text [] = []
fields_text (f ∷ fields) = codes " " ++ field_text f ++ more_fields_text fields

abbrev pub body_text : List Field → List ℕ
body_text fields = codes "{" ++ fields_text fields ++ codes " }"

abbrev pub named_step_text : NamedStep → List ℕ
named_step_text (Alloc name of) = spaced (codes "a") (spaced name of)
named_step_text (AllocZero name of) = spaced (codes "z") (spaced name of)
named_step_text (Free name) = spaced (codes "f") name
named_step_text (FreeAs name of) = spaced (codes "f") (spaced name of)
named_step_text (Give name to) = spaced (codes "g") (numbered name to)
named_step_text (Take name) = spaced (codes "t") name
named_step_text (Read name off len) = spaced (codes "r") (spaced name (numbered (decimal off) len))
named_step_text (Write name off bytes) = spaced (codes "w") (spaced name (spaced (decimal off) (hex_bytes bytes)))
named_step_text (Flush of) = spaced (codes "flush") of
named_step_text (Trim of) = spaced (codes "trim") of

abbrev pub line_text : Line → List ℕ
line_text (Machine n) = numbered (codes "machine") n
line_text (SeedOf seed) = seed_text seed
line_text (Cpus n) = numbered (codes "cpus") n
line_text (Frames n) = numbered (codes "frames") n
line_text (Pages n) = numbered (codes "pages") n
line_text (Budget n) = numbered (codes "budget") n
line_text (Magazine n) = numbered (codes "magazine") n
line_text (Depot n) = numbered (codes "depot") n
line_text (Declares decl) = spaced (codes "type") (spaced decl.name (body_text decl.fields))
line_text (Opens cpu) = numbered (codes "cpu") cpu
line_text (Does said) = named_step_text said
line_text Break = codes "--"
line_text Orders = codes "order"
line_text (Turns cpu) = decimal cpu
line_text Ends = codes "end"

-- ---- which lines a place allows, with the ranges of their numbers

abbrev pub IsName : List ℕ → Type 0
IsName name = IsTrue (is_name name)

abbrev pub IsFrom : ℕ → ℕ → ℕ → Type 0
IsFrom low high n = (low ≤ n) × (n ≤ high)

abbrev pub IsSeed : Seed → Type 0
IsSeed seed.Plain = Unit {0}
IsSeed (seed.Number n) = n < 2 ^ 64

abbrev mutual
  -- names are names, numbers are in their ranges, and no more than this many unions stand in one another
  pub IsKind : ℕ → Kind → Type 0
  IsKind deep (kind.Bytes size) = IsFrom 1 8192 size
  IsKind deep (kind.Struct of) = IsName of
  IsKind zero (Union' shape row) = ⊥
  IsKind (suc deep) (Union' shape row) = AreFields deep row
  IsKind deep other = Unit {0}

  pub AreFields : {m : _} → ℕ → Row_of-Field m → Type 0
  AreFields deep end_of-Field = Unit {0}
  AreFields deep (more_of-Field kind name count rest) = (IsKind deep kind × IsName name × IsFrom 1 8192 count) ×
      AreFields deep rest

abbrev pub IsField : ℕ → Field → Type 0
IsField deep f = IsKind deep f.kind × IsName f.name × IsFrom 1 8192 f.count

abbrev pub IsDeclared : TypeDecl → Type 0
IsDeclared decl = IsName decl.name × All (IsField 8) decl.fields

abbrev pub IsPieceByte : ℕ → Type 0
IsPieceByte byte = byte < 256

abbrev pub IsNamedStep : ℕ → NamedStep → Type 0
IsNamedStep cpus (Alloc name of) = IsName name × IsName of
IsNamedStep cpus (AllocZero name of) = IsName name × IsName of
IsNamedStep cpus (Free name) = IsName name
IsNamedStep cpus (FreeAs name of) = IsName name × IsName of
IsNamedStep cpus (Give name to) = IsName name × IsFrom 0 (cpus - 1) to
IsNamedStep cpus (Take name) = IsName name
IsNamedStep cpus (Read name off len) = IsName name × IsFrom 0 8191 off × IsFrom 1 32 len
IsNamedStep cpus (Write name off bytes) = IsName name × IsFrom 0 8191 off × IsFrom 1 32 (length bytes) ×
    All IsPieceByte bytes
IsNamedStep cpus (Flush of) = IsName of
IsNamedStep cpus (Trim of) = IsName of

-- the line is one of those that may stand here
abbrev pub IsAllowed : Place → Draft → Line → Type 0
IsAllowed (place.Header at) d (Machine n) = (at ≡ 0) × (n ≡ 1)
IsAllowed (place.Header at) d (SeedOf seed) = (at ≡ 1) × IsSeed seed
IsAllowed (place.Header at) d (Cpus n) = (at ≡ 2) × IsFrom 1 16 n
IsAllowed (place.Header at) d (Frames n) = (at ≡ 3) × IsFrom 1 8192 n
IsAllowed (place.Header at) d (Pages n) = (at ≡ 4) × IsFrom 1 4096 n
IsAllowed (place.Header at) d (Budget n) = (at ≡ 5) × IsFrom 1 128 n
IsAllowed (place.Header at) d (Magazine n) = (at ≡ 6) × IsFrom 1 32 n
IsAllowed (place.Header at) d (Depot n) = (at ≡ 7) × IsFrom 0 16 n
IsAllowed place.Types d (Declares decl) = IsDeclared decl
IsAllowed place.Types d (Opens cpu) = cpu ≡ 0
IsAllowed place.Steps d (Does said) = IsNamedStep d.header.cpus said
IsAllowed place.Steps d Break = Unit {0}
IsAllowed place.Steps d (Opens cpu) = (¬ IsTrue (is_last d)) × (cpu ≡ length d.before + 1)
IsAllowed place.Steps d Orders = IsTrue (is_last d)
IsAllowed place.Steps d Ends = IsTrue (is_last d)
IsAllowed place.Order d (Turns cpu) = IsFrom 0 (d.header.cpus - 1) cpu
IsAllowed place.Order d Break = Unit {0}
IsAllowed place.Order d Ends = Unit {0}
IsAllowed place d line = ⊥

-- ---- what a text spells

-- these lines, the first of this number, may stand one after the other, and lead from one draft to the other
abbrev pub Leads : Draft → ℕ → List Line → Draft → Type 0
Leads d number [] end = d ≡ end
Leads d number (line ∷ lines) end = IsAllowed d.place d line ×
    ((more : Draft) × ((with_line d number line ≡ Ok more) × Leads more (number + 1) lines end))

-- The bytes are the text of lines that may follow one another, the last of them `end`, and no later stage has a fault
-- in what they say.
pub record Spells (bytes : List ℕ) (b : Bundle) : Type 0 where
  pub lines : List Line
  pub text : bytes ≡ text_of_lines (map line_text lines)
  pub said : Draft
  pub leads : Leads empty_draft 1 lines said
  pub ended : said.place ≡ place.Ended
  pub faultless : later_fault said ≡ None
  pub bundle : b ≡ bundle_of said

-- the first fault of bytes that spell no bundle
abbrev pub IsFirstFault : List ℕ → Refusal → Type 0
IsFirstFault bytes refusal = read bytes ≡ Err refusal

-- ---- the one text of a bundle

-- the text at this place
abbrev pub text_at : List (List ℕ) → ℕ → List ℕ
text_at texts at = slice_index_or texts at []

-- an act, with the texts of names and of types for their numbers
abbrev pub named_step_of : List (List ℕ) → List (List ℕ) → Act → NamedStep
named_step_of names types (act.Alloc name of) = Alloc (text_at names name) (text_at types of)
named_step_of names types (act.AllocZero name of) = AllocZero (text_at names name) (text_at types of)
named_step_of names types (act.Free name None) = Free (text_at names name)
named_step_of names types (act.Free name (Some of)) = FreeAs (text_at names name) (text_at types of)
named_step_of names types (act.Give name to) = Give (text_at names name) to
named_step_of names types (act.Take name) = Take (text_at names name)
named_step_of names types (act.Read name off len) = Read (text_at names name) off len
named_step_of names types (act.Write name off bytes) = Write (text_at names name) off bytes
named_step_of names types (act.Flush of) = Flush (text_at types of)
named_step_of names types (act.Trim of) = Trim (text_at types of)

abbrev pub names_in : Bundle → List (List ℕ)
names_in b = map (λ row. row.name) b.names

abbrev pub types_in : Bundle → List (List ℕ)
types_in b = map (λ decl. decl.name) b.types

abbrev pub header_lines : Bundle → List Line
header_lines b =
    Machine b.machine ∷ SeedOf b.seed ∷ Cpus b.cpus ∷ Frames b.frames ∷ Pages b.pages ∷ Budget b.budget
    ∷ Magazine b.magazine ∷ Depot b.depot ∷ []

-- a CPU's steps from this round on, with `--` lines up to the last round
abbrev pub section_lines : Bundle → ℕ → List TraceStep → List Line
section_lines b round [] = replicate (b.rounds - 1 - round) Break
section_lines b round (step ∷ steps) = replicate (step.round - round) Break
    ++ Does (named_step_of (names_in b) (types_in b) step.act) ∷ section_lines b step.round steps

abbrev pub cpu_lines : Bundle → ℕ × List TraceStep → List Line
cpu_lines b entry = Opens entry.0 ∷ section_lines b 0 entry.1

abbrev pub turn_of : OrderLine → Line
turn_of (turn.Cpu cpu) = Turns cpu
turn_of turn.Round = Break

abbrev pub order_lines : Option (List OrderLine) → List Line
order_lines None = []
order_lines (Some turns) = Orders ∷ map turn_of turns

abbrev pub bundle_lines : Bundle → List Line
bundle_lines b =
    header_lines b ++ map Declares b.types ++ flat_map (cpu_lines b) (enumerate_from 0 b.traces) ++ order_lines b.order
    ++ Ends ∷ []

abbrev pub bundle_text : Bundle → List ℕ
bundle_text b = text_of_lines (map line_text (bundle_lines b))

-- the bundle is one that a text spells: its own
abbrev pub IsSpelled : Bundle → Type 0
IsSpelled b = Spells (bundle_text b) b

-- ---- laws

-- what is spelled is what is read
abbrev pub SpellingIsReading : Type 0
SpellingIsReading = (bytes : List ℕ) (b : Bundle) → ((read bytes ≡ Ok b) → Spells bytes b) ×
    (Spells bytes b → read bytes ≡ Ok b)

-- a bundle has one text
abbrev pub OneText : Type 0
OneText = (bytes : List ℕ) (b : Bundle) → Spells bytes b → bytes ≡ bundle_text b
