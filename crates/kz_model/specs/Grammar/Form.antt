-- The form of a text: its lines one after the other, up to the first that is none of those that its place allows.
use Rattle.std.specs.Prelude.{ℕ, ◌+◌, ◌-◌, ◌^◌, Bool, false, ◌&&◌, ◌==◌, if◌then◌else◌, List, [], ◌∷◌, ◌++◌, length, codes, Option, Some, None, Result, Ok, Err}
use Rattle.kz_model.specs.declared.bundle.Seed.{Seed}
use Rattle.kz_model.specs.declared.bundle.Seed.TheVariants.{Plain, Number}
use Rattle.kz_model.specs.declared.bundle.TypeDecl.{TypeDecl}
use Rattle.kz_model.specs.declared.bundle.OrderLine.{OrderLine}
use Rattle.kz_model.specs.declared.bundle.OrderLine.TheVariants as turn
use Rattle.kz_model.specs.declared.grammar.Mark.{Mark}
use Rattle.kz_model.specs.declared.grammar.Mark.TheVariants as mark
use Rattle.kz_model.specs.declared.grammar.Place.{Place}
use Rattle.kz_model.specs.declared.grammar.Place.TheVariants as place
use Rattle.kz_model.specs.declared.grammar.Header.{Header}
use Rattle.kz_model.specs.declared.grammar.Cause.{Cause}
use Rattle.kz_model.specs.declared.grammar.Cause.TheVariants as cause
use Rattle.kz_model.specs.declared.grammar.Counted.TheVariants as counted
use Rattle.kz_model.specs.declared.grammar.Refusal.{Refusal}
use Rattle.kz_model.specs.Grammar.Tokens.{lines_of, tokens_of, is, is_run, number_in}
use Rattle.kz_model.specs.Grammar.Steps.{NamedStep, number_line, step_line}
use Rattle.kz_model.specs.Grammar.TypeLine.{type_line}

-- ---- what lines say

-- what one line says
pub data Line : Type 0 where
  Machine : ℕ → Line  -- `machine N`
  SeedOf : Seed → Line  -- `seed plain` or `seed N`
  Cpus : ℕ → Line  -- `cpus N`
  Frames : ℕ → Line  -- `frames N`
  Pages : ℕ → Line  -- `pages N`
  Budget : ℕ → Line  -- `budget N`
  Magazine : ℕ → Line  -- `magazine N`
  Depot : ℕ → Line  -- `depot N`
  Declares : TypeDecl → Line  -- a type line
  Opens : ℕ → Line  -- `cpu N`
  Does : NamedStep → Line  -- a step line
  Break : Line  -- `--`
  Orders : Line  -- `order`
  Turns : ℕ → Line  -- a CPU's number in the order section
  Ends : Line  -- `end`

-- a step line by its number, with its round
pub record StepLine : Type 0 where
  pub line : ℕ
  pub round : ℕ
  pub said : NamedStep

-- a CPU's section: the number of its `cpu` line, how many `--` lines it has, and its steps
pub record Section : Type 0 where
  pub line : ℕ
  pub breaks : ℕ
  pub steps : List StepLine

-- what the lines so far say; `section` is the newest, and `steps` is the number of step lines of all sections
pub record Draft : Type 0 where
  pub place : Place
  pub header : Header
  pub types : List TypeDecl
  pub before : List Section
  pub section : Section
  pub steps : ℕ
  pub order : Option (List OrderLine)
  pub order_at : ℕ

abbrev pub new_section : ℕ → Section
new_section line = record { line = line; breaks = 0; steps = [] }

abbrev pub empty_draft : Draft
empty_draft = record {
  place = place.Header 0;
  header = record { machine = 0; seed = Plain; cpus = 0; frames = 0; pages = 0; budget = 0; magazine = 0; depot = 0 };
  types = [];
  before = [];
  section = new_section 0;
  steps = 0;
  order = None;
  order_at = 0;
}

-- the newest section is the last CPU's
abbrev pub is_last : Draft → Bool
is_last d = length d.before + 1 == d.header.cpus

-- ---- the form of one line, and what is wrong with its numbers

abbrev pub is_head : List ℕ → List (List ℕ) → Bool
is_head word [] = false
is_head word (w ∷ words) = is word w

abbrev pub is_alone : List ℕ → List (List ℕ) → Bool
is_alone word (w ∷ []) = is word w
is_alone word words = false

-- what is found, as a line
abbrev pub as_line : {A : Type 0} → (A → Line) → Option (A × Mark) → Option (Line × Mark)
as_line f None = None
as_line f (Some found) = Some (f found.0, found.1)

abbrev pub seed_of : ℕ × Mark → Seed × Mark
seed_of found = (Number found.0, found.1)

abbrev pub seed_line : List (List ℕ) → Option (Seed × Mark)
seed_line (w ∷ n ∷ []) =
    if is (codes "seed") w && is_run n
    then (if is (codes "plain") n then Some (Plain, mark.Fine) else Some (seed_of (number_in 0 (2 ^ 64 - 1) n)))
    else None
seed_line words = None

abbrev pub header_line : ℕ → List (List ℕ) → Option (Line × Mark)
header_line at words =
    if at == 0 then as_line Machine (number_line (codes "machine") 1 1 words)
    else if at == 1 then as_line SeedOf (seed_line words)
    else if at == 2 then as_line Cpus (number_line (codes "cpus") 1 16 words)
    else if at == 3 then as_line Frames (number_line (codes "frames") 1 8192 words)
    else if at == 4 then as_line Pages (number_line (codes "pages") 1 4096 words)
    else if at == 5 then as_line Budget (number_line (codes "budget") 1 128 words)
    else if at == 6 then as_line Magazine (number_line (codes "magazine") 1 32 words)
    else as_line Depot (number_line (codes "depot") 0 16 words)

-- `cpu N` for this CPU alone
abbrev pub cpu_line : ℕ → List (List ℕ) → Option (Line × Mark)
cpu_line cpu words = as_line Opens (number_line (codes "cpu") cpu cpu words)

abbrev pub line_of_types : List (List ℕ) → Option (Line × Mark)
line_of_types words =
    if is_head (codes "type") words then as_line Declares (type_line words) else cpu_line 0 words

abbrev pub line_of_steps : Draft → List (List ℕ) → Option (Line × Mark)
line_of_steps d words =
    if is_alone (codes "--") words then Some (Break, mark.Fine)
    else if is_alone (codes "end") words && is_last d then Some (Ends, mark.Fine)
    else if is_alone (codes "order") words && is_last d then Some (Orders, mark.Fine)
    else if is_head (codes "cpu") words
    then (if is_last d then None else cpu_line (length d.before + 1) words)
    else as_line Does (step_line d.header.cpus words)

abbrev pub turn_line : ℕ → List (List ℕ) → Option (ℕ × Mark)
turn_line cpus (n ∷ []) = if is_run n then Some (number_in 0 (cpus - 1) n) else None
turn_line cpus words = None

abbrev pub line_of_order : Draft → List (List ℕ) → Option (Line × Mark)
line_of_order d words =
    if is_alone (codes "--") words then Some (Break, mark.Fine)
    else if is_alone (codes "end") words then Some (Ends, mark.Fine)
    else as_line Turns (turn_line d.header.cpus words)

-- a line, by the forms that its place allows
abbrev pub line_at : Place → Draft → List (List ℕ) → Option (Line × Mark)
line_at (place.Header at) d words = header_line at words
line_at place.Types d words = line_of_types words
line_at place.Steps d words = line_of_steps d words
line_at place.Order d words = line_of_order d words
line_at place.Ended d words = None

-- ---- what a line adds

abbrev pub with_header : Draft → Header → Draft
with_header d header = record d { header = header; place = place_after d.place }
  where
    place_after : Place → Place
    place_after (place.Header at) = if at == 7 then place.Types else place.Header (at + 1)
    place_after other = other

abbrev pub with_type : Draft → TypeDecl → Result Draft Cause
with_type d decl =
    if length d.types == 1024 then Err (cause.TooMany counted.Types) else Ok (record d { types = d.types ++ decl ∷ [] })

-- the first section, or one more
abbrev pub with_section : Place → Draft → ℕ → Draft
with_section place.Types d line = record d { place = place.Steps; section = new_section line }
with_section other d line = record d { before = d.before ++ d.section ∷ []; section = new_section line }

abbrev pub with_step : Draft → ℕ → NamedStep → Result Draft Cause
with_step d line said =
    if d.steps == 1000000 then Err (cause.TooMany counted.Steps)
    else Ok (record d {
      steps = d.steps + 1;
      section = record d.section {
        steps = d.section.steps
            ++ record { line = line; round = d.section.breaks; said = said } ∷ [];
      };
    })

abbrev pub turns_of : Option (List OrderLine) → List OrderLine
turns_of None = []
turns_of (Some turns) = turns

abbrev pub with_turn : Draft → OrderLine → Draft
with_turn d entry = record d { order = Some (turns_of d.order ++ entry ∷ []) }

-- one more round: of the order, or of the newest section
abbrev pub with_break : Place → Draft → Result Draft Cause
with_break place.Order d = Ok (with_turn d turn.Round)
with_break other d =
    if d.section.breaks == 999 then Err (cause.TooMany counted.Rounds)
    else Ok (record d { section = record d.section { breaks = d.section.breaks + 1 } })

-- what is said with one more line, which has this number
abbrev pub with_line : Draft → ℕ → Line → Result Draft Cause
with_line d number (Machine n) = Ok (with_header d (record d.header { machine = n }))
with_line d number (SeedOf seed) = Ok (with_header d (record d.header { seed = seed }))
with_line d number (Cpus n) = Ok (with_header d (record d.header { cpus = n }))
with_line d number (Frames n) = Ok (with_header d (record d.header { frames = n }))
with_line d number (Pages n) = Ok (with_header d (record d.header { pages = n }))
with_line d number (Budget n) = Ok (with_header d (record d.header { budget = n }))
with_line d number (Magazine n) = Ok (with_header d (record d.header { magazine = n }))
with_line d number (Depot n) = Ok (with_header d (record d.header { depot = n }))
with_line d number (Declares decl) = with_type d decl
with_line d number (Opens cpu) = Ok (with_section d.place d number)
with_line d number (Does said) = with_step d number said
with_line d number Break = with_break d.place d
with_line d number Orders = Ok (record d { place = place.Order; order = Some []; order_at = number })
with_line d number (Turns cpu) = Ok (with_turn d (turn.Cpu cpu))
with_line d number Ends = Ok (record d { place = place.Ended })

-- ---- all lines

-- First a line must have a form, then each number's place must hold a number, then each must be in its range, then
-- there may be one more such line.
abbrev pub judged : Draft → ℕ → Option (Line × Mark) → Result Draft Cause
judged d number None = Err cause.BadLine
judged d number (Some (line, mark.BadNumber)) = Err cause.BadNumber
judged d number (Some (line, mark.OutOfRange)) = Err cause.OutOfRange
judged d number (Some (line, mark.Fine)) = with_line d number line

-- After the last line no other has a place.
abbrev pub after_line : Place → Draft → ℕ → List (List ℕ) → Result Draft Cause
after_line place.Ended d number words = Err cause.Trailing
after_line place d number words = judged d number (line_at place d words)

abbrev pub refused : {A : Type 0} → ℕ → Cause → Result A Refusal
refused line cause = Err (record { line = line; cause = cause })

-- what follows the last line that is ended
abbrev pub rest_at : Place → Draft → ℕ → List ℕ → Result Draft Refusal
rest_at place.Ended d number [] = Ok d
rest_at place.Ended d number rest = refused number cause.Trailing
rest_at place d number rest = refused number cause.Truncated

abbrev pub go_on : ℕ → Result Draft Cause → (Draft → Result Draft Refusal) → Result Draft Refusal
go_on number (Err cause) more = refused number cause
go_on number (Ok d) more = more d

-- the lines from this number on
abbrev pub form_from : Draft → ℕ → List (List ℕ) → Result Draft Refusal
form_from d number [] = rest_at d.place d number []
form_from d number (rest ∷ []) = rest_at d.place d number rest
form_from d number (text ∷ next ∷ lines) =
    go_on number (after_line d.place d number (tokens_of text)) (λ more. form_from more (number + 1) (next ∷ lines))

-- what a text says, or the first line that has no form
abbrev pub form_of : List ℕ → Result Draft Refusal
form_of bytes = form_from empty_draft 1 (lines_of bytes)
