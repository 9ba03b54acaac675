-- What the lines so far say, and what holds of it.
use Rattle.std.specs.Prelude.{◌≡◌, ◌≢◌, ℕ, ◌+◌, ◌<◌, ◌≤◌, if◌then◌else◌, List, length, map, Option, None, Result, Ok, Err, sum_by, All, IsTrue, IfSome}
use Rattle.std.specs.Option.{IsSome}
use Rattle.kz_model.specs.declared.bundle.OrderLine.{OrderLine}
use Rattle.kz_model.specs.declared.grammar.Cause.{Cause}
use Rattle.kz_model.specs.declared.grammar.Refusal.{Refusal}
use Rattle.kz_model.specs.declared.grammar.Mark.{Mark}
use Rattle.kz_model.specs.declared.grammar.Mark.TheVariants.{Fine}
use Rattle.kz_model.specs.declared.grammar.Place.{Place}
use Rattle.kz_model.specs.declared.grammar.Place.TheVariants as place
use Rattle.kz_model.specs.Grammar.Tokens.{is_name}
use Rattle.kz_model.specs.Grammar.Form.{Draft, is_last, cpu_line}
use Rattle.kz_model.specs.Grammar.Form as form
use Rattle.kz_bundle.specs.declared.fault.ReadBundleFault.{ReadBundleFault}
use Rattle.kz_bundle.specs.declared.fault.ReadBundleFault.TheVariants as whole
use Rattle.kz_bundle.specs.declared.form.parts.Parts.{Parts}
use Rattle.kz_bundle.specs.declared.form.lines.Line.{Line}
use Rattle.kz_bundle.specs.declared.form.reader.Fault.{Fault}
use Rattle.kz_bundle.specs.declared.form.reader.Fault.TheVariants.{Refused, Memory}
use Rattle.kz_bundle.specs.declared.form.reader.Reader.{Reader}
use Rattle.kz_bundle.specs.Parts.{section_meant, draft_of, IsPart, AreTurnsWithin}
use Rattle.kz_bundle.specs.Lines.{Fits}

-- what is said after a line is what the definition gives, unless memory ran out
abbrev pub Takes : Result (Unit {0}) Fault → Draft → Result Draft Cause → Type 0
Takes (Ok u) new given = given ≡ Ok new
Takes (Err (Refused cause)) new given = given ≡ Err cause
Takes (Err Memory) new given = Unit {0}

-- the parts of a text say what the definition gives, or it has the same fault, unless memory ran out
abbrev pub Forms : Result Parts ReadBundleFault → Result Draft Refusal → Type 0
Forms (Ok parts) given = given ≡ Ok (draft_of parts)
Forms (Err (whole.Refused refusal)) given = given ≡ Err refusal
Forms (Err whole.Memory) given = Unit {0}

-- a line's fault, by the line's number
abbrev pub fault_at : ℕ → Fault → ReadBundleFault
fault_at line (Refused cause) = whole.Refused (record { line = line; cause = cause })
fault_at line Memory = whole.Memory

-- ---- the state of the reader

abbrev pub so_far : Reader → Draft
so_far r = record {
  place = r.place;
  header = r.header;
  types = r.types;
  before = map (section_meant r.tables.names r.tables.words) r.before.items;
  section = section_meant r.tables.names r.tables.words r.section;
  steps = r.steps;
  order = r.order;
  order_at = r.order_at;
}

-- what holds by the place of the next line, with so many sections before the newest, and so many steps
abbrev pub HoldsAtPlace : Place → ℕ → ℕ → ℕ → Option (List OrderLine) → Type 0
HoldsAtPlace (place.Header at) cpus sections steps order = (at < 8) × (3 ≤ at → 1 ≤ cpus) × (sections ≡ 0) ×
    (steps ≡ 0) × (order ≡ None)
HoldsAtPlace place.Types cpus sections steps order = (1 ≤ cpus) × (sections ≡ 0) × (steps ≡ 0)
HoldsAtPlace place.Steps cpus sections steps order = sections + 1 ≤ cpus
HoldsAtPlace place.Order cpus sections steps order = (sections + 1 ≡ cpus) × IsSome order
HoldsAtPlace place.Ended cpus sections steps order = sections + 1 ≡ cpus

-- what was read keeps its bounds
pub record IsReading (r : Reader) : Type 0 where
  pub at : HoldsAtPlace r.place r.header.cpus (length r.before.items) r.steps r.order
  pub few_cpus : r.header.cpus ≤ 16
  pub types : length r.types ≤ 1024
  pub names : All (λ name. IsTrue (is_name name)) r.tables.names
  pub few_names : length r.tables.names ≤ r.steps
  pub few_words : length r.tables.words ≤ r.steps
  pub before : All (IsPart (length r.tables.names) (length r.tables.words)) r.before.items
  pub section : IsPart (length r.tables.names) (length r.tables.words) r.section
  pub counted : sum_by (λ part. length part.steps) r.before.items + length r.section.steps ≡ r.steps
  pub few_steps : r.steps ≤ 1000000
  pub turns : AreTurnsWithin r.header.cpus r.order
  pub order_at : r.order_at ≤ 33554432

-- a line of steps that begins with `cpu`
abbrev pub cpu_said : Draft → List (List ℕ) → Option (form.Line × Mark)
cpu_said d words = if is_last d then None else cpu_line (length d.before + 1) words

-- ---- what lines may do

-- the line may stand where the reader is
abbrev pub FitsAt : Reader → Line → Type 0
FitsAt r line = Fits r.place r.header.cpus (length r.before.items) line

-- what is found may stand there, where its numbers are fine
abbrev pub FoundFits : Reader → Option (Line × Mark) → Type 0
FoundFits r found = IfSome found (λ f. f.1 ≡ Fine → FitsAt r f.0)

-- the next line of the header leaves so many CPUs
abbrev pub IsHeaderPlace : Place → ℕ → Type 0
IsHeaderPlace (place.Header at) cpus = (cpus ≤ 16) × (2 ≤ at → 1 ≤ cpus)
IsHeaderPlace other cpus = ⊥

-- a section may begin
abbrev pub MayOpen : Place → ℕ → ℕ → Type 0
MayOpen place.Types cpus sections = Unit {0}
MayOpen place.Steps cpus sections = sections + 1 ≢ cpus
MayOpen other cpus sections = ⊥
