-- The bundle that is made of a number: its types, steps and order are drawn from a stream of the number.
use Rattle.std.specs.Prelude.{ℕ, zero, suc, ◌+◌, ◌*◌, ◌/◌, ◌%◌, ◌^◌, ◌<◌, ◌==◌, nat_lt, if◌then◌else◌, List, [], ◌∷◌, ◌++◌, map, codes, decimal}
use Rattle.kz_model.specs.declared.bundle.Seed.TheVariants.{Number}
use Rattle.kz_model.specs.declared.bundle.Kind.{Kind}
use Rattle.kz_model.specs.declared.bundle.Kind.TheVariants as kind
use Rattle.kz_model.specs.declared.bundle.Field.{Field}
use Rattle.kz_model.specs.declared.bundle.TypeDecl.{TypeDecl}
use Rattle.kz_model.specs.declared.bundle.Bundle.{Bundle}
use Rattle.kz_model.specs.Zone.Words.{word}
use Rattle.kz_model.specs.Grammar.Steps.{NamedStep, Alloc, AllocZero, Free, FreeAs, Give, Take, Read, Write, Flush, Trim}
use Rattle.kz_model.specs.Grammar.Form.{Line, Machine, SeedOf, Cpus, Frames, Pages, Budget, Magazine, Depot, Declares, Opens, Does, Break, Orders, Turns, Ends}
use Rattle.kz_model.specs.Grammar.Spelling.{line_text, Spells}
use Rattle.kz_model.specs.Text.Lines.{text_of_lines}

-- ---- how many of each there are: these numbers open only where a proof asks for it, so that no list of such a length
-- is computed

unfoldable pub types_count : ℕ
types_count = 40

-- the names of a CPU
unfoldable pub names_count : ℕ
names_count = 250

-- the drawn steps of a CPU in a round
unfoldable pub drawn_count : ℕ
drawn_count = 5000

-- the rounds after the first
unfoldable pub later_count : ℕ
later_count = 3

-- ---- the words

-- word j of the number's stream
abbrev pub drawn : ℕ → ℕ → ℕ
drawn number j = word (Number number) 1000 j

-- ---- the types

-- a field's kind by its number
abbrev pub kind_by : ℕ → ℕ → Kind
kind_by c zero = kind.Ptr
kind_by c (suc zero) = kind.Auth
kind_by c (suc (suc zero)) = kind.U64
kind_by c (suc (suc (suc zero))) = kind.U32
kind_by c (suc (suc (suc (suc zero)))) = kind.U8
kind_by c other = kind.Bytes (1 + c % 200)

-- a field's kind by its two words
abbrev pub kind_made : ℕ → ℕ → Kind
kind_made b c = kind_by c (b % 6)

-- field i of two words
abbrev pub field_made : ℕ → ℕ → ℕ → Field
field_made i b c = record { kind = kind_made b c; name = codes "f" ++ decimal i; count = 1 }

-- so many fields from this one on, whose words begin here
abbrev pub fields_made : ℕ → ℕ → ℕ → ℕ → List Field
fields_made number j i zero = []
fields_made number j i (suc more) = field_made i (drawn number j) (drawn number (j + 1))
    ∷ fields_made number (j + 2) (i + 1) more

-- how many fields a type has, by its first word
abbrev pub fields_of_type : ℕ → ℕ → ℕ
fields_of_type number j = 1 + drawn number j % 6

abbrev pub type_text : ℕ → List ℕ
type_text t = codes "t" ++ decimal t

-- type t, whose words begin here
abbrev pub type_made : ℕ → ℕ → ℕ → TypeDecl
type_made number j t = record { name = type_text t; fields = fields_made number (j + 1) 0 (fields_of_type number j) }

-- so many types from this one on, whose words begin here
abbrev pub types_made : ℕ → ℕ → ℕ → ℕ → List TypeDecl
types_made number j t zero = []
types_made number j t (suc more) =
    type_made number j t ∷ types_made number (j + 1 + 2 * fields_of_type number j) (t + 1) more

-- where the words of so many types end
abbrev pub after_types : ℕ → ℕ → ℕ → ℕ
after_types number j zero = j
after_types number j (suc more) = after_types number (j + 1 + 2 * fields_of_type number j) more

-- ---- the steps

abbrev pub name_text : ℕ → ℕ → List ℕ
name_text cpu k = codes "n" ++ decimal cpu ++ codes "_" ++ decimal k

-- the type of a CPU's name
abbrev pub type_of_made : ℕ → ℕ → List ℕ
type_of_made cpu k = type_text ((250 * cpu + k) % 40)

-- a number's four bytes, the highest first
abbrev pub four_bytes : ℕ → List ℕ
four_bytes w = w / 16777216 % 256 ∷ w / 65536 % 256 ∷ w / 256 % 256 ∷ w % 256 ∷ []

-- the step of this number on the CPU's name k
abbrev pub named_step_by : ℕ → ℕ → ℕ → ℕ → NamedStep
named_step_by cpu k w n =
    if nat_lt n 6 then Alloc (name_text cpu k) (type_of_made cpu k)
    else if nat_lt n 10 then Free (name_text cpu k)
    else if n == 10 then AllocZero (name_text cpu k) (type_of_made cpu k)
    else if n == 11 then Read (name_text cpu k) 0 8
    else if n == 12 then Write (name_text cpu k) 0 (four_bytes w)
    else if n == 13 then Give (name_text cpu k) ((cpu + 1) % 4)
    else if n == 14 then Take (name_text ((cpu + 3) % 4) k)
    else if w % 32 == 0 then Trim (type_of_made cpu k)
    else if w % 32 == 1 then Flush (type_of_made cpu k)
    else FreeAs (name_text cpu k) (type_of_made cpu k)

-- the step of three words
abbrev pub named_step_made : ℕ → ℕ → ℕ → ℕ → NamedStep
named_step_made cpu u v w = named_step_by cpu (u % 250) w (v % 16)

-- the drawn steps of a round, whose words begin here
abbrev pub steps_drawn : ℕ → ℕ → ℕ → ℕ → List NamedStep
steps_drawn number cpu j zero = []
steps_drawn number cpu j (suc more) =
    named_step_made cpu (drawn number j) (drawn number (j + 1)) (drawn number (j + 2))
    ∷ steps_drawn number cpu (j + 3) more

-- so many of the CPU's names from this one on, each allocated
abbrev pub names_allocated : ℕ → ℕ → ℕ → List NamedStep
names_allocated cpu k zero = []
names_allocated cpu k (suc more) = Alloc (name_text cpu k) (type_of_made cpu k) ∷ names_allocated cpu (k + 1) more

abbrev pub first_round : ℕ → ℕ → ℕ → List NamedStep
first_round number cpu j = names_allocated cpu 0 names_count ++ steps_drawn number cpu j drawn_count

-- so many rounds, whose words begin here
abbrev pub rounds_drawn : ℕ → ℕ → ℕ → ℕ → List (List NamedStep)
rounds_drawn number cpu j zero = []
rounds_drawn number cpu j (suc more) = steps_drawn number cpu j drawn_count ∷ rounds_drawn number cpu (j + 15000) more

-- rounds, each behind a line between two
abbrev pub later_lines : List (List NamedStep) → List Line
later_lines [] = []
later_lines (round ∷ rounds) = Break ∷ map Does round ++ later_lines rounds

-- a CPU's section, whose words begin here
abbrev pub section_made : ℕ → ℕ → ℕ → List Line
section_made number cpu j =
    Opens cpu ∷ map Does (first_round number cpu j) ++ later_lines (rounds_drawn number cpu (j + 15000) later_count)

-- the sections of so many CPUs from this one on
abbrev pub sections_made : ℕ → ℕ → ℕ → ℕ → List Line
sections_made number cpu j zero = []
sections_made number cpu j (suc more) = section_made number cpu j ++ sections_made number (cpu + 1) (j + 60000) more

-- ---- the order

-- the CPUs in turn, so many times
abbrev pub turns_made : ℕ → List Line
turns_made zero = []
turns_made (suc times) = Turns 0 ∷ Turns 1 ∷ Turns 2 ∷ Turns 3 ∷ turns_made times

abbrev pub later_turns : ℕ → List Line
later_turns zero = []
later_turns (suc more) = Break ∷ turns_made drawn_count ++ later_turns more

abbrev pub order_made : List Line
order_made = Orders ∷ turns_made (names_count + drawn_count) ++ later_turns later_count

-- ---- the whole

abbrev pub header_made : ℕ → List Line
header_made number = Machine 1 ∷ SeedOf (Number number) ∷ Cpus 4 ∷ Frames 2048 ∷ Pages 1024 ∷ Budget 24 ∷ Magazine 8
    ∷ Depot 4 ∷ []

abbrev pub made_lines : ℕ → List Line
made_lines number =
    header_made number ++ map Declares (types_made number 0 0 types_count)
    ++ sections_made number 0 (after_types number 0 types_count) 4
    ++ order_made ++ Ends ∷ []

-- the bytes of the bundle that is made of a number
abbrev pub made_text : ℕ → List ℕ
made_text number = text_of_lines (map line_text (made_lines number))

-- ---- a law

-- each made text spells a bundle
abbrev pub MadeSpells : Type 0
MadeSpells = (number : ℕ) → number < 2 ^ 64 → (b : Bundle) × Spells (made_text number) b
