-- The stages after the form: types, names, rounds and order; and the bundle that a text spells.
use Rattle.std.specs.Prelude.{ℕ, ◌+◌, ◌-◌, Bool, true, false, not, ◌||◌, ◌==◌, nat_lt, if◌then◌else◌, List, [], ◌∷◌, ◌++◌, length, map, Option, Some, None, Result, Ok, Err, slice_index, slice_set}
use Rattle.std.specs.Option.{option_map_or}
use Rattle.std.specs.List.{list_all, list_any, fold}
use Rattle.kz_model.specs.declared.bundle.Act.{Act}
use Rattle.kz_model.specs.declared.bundle.Act.TheVariants as act
use Rattle.kz_model.specs.declared.bundle.TraceStep.{TraceStep}
use Rattle.kz_model.specs.declared.bundle.Bundle.{Bundle}
use Rattle.kz_model.specs.declared.bundle.OrderLine.{OrderLine}
use Rattle.kz_model.specs.declared.bundle.OrderLine.TheVariants as turn
use Rattle.kz_model.specs.declared.record.Layout.{Layout}
use Rattle.kz_model.specs.declared.layout.LayoutCause.{LayoutCause}
use Rattle.kz_model.specs.declared.layout.LayoutCause.TheVariants as layout
use Rattle.kz_model.specs.declared.layout.LayoutFault.{LayoutFault}
use Rattle.kz_model.specs.declared.grammar.Cause.{Cause}
use Rattle.kz_model.specs.declared.grammar.Cause.TheVariants as cause
use Rattle.kz_model.specs.declared.grammar.Counted.TheVariants as counted
use Rattle.kz_model.specs.declared.grammar.Refusal.{Refusal}
use Rattle.kz_model.specs.Grammar.Tokens.{is}
use Rattle.kz_model.specs.Grammar.Steps.{NamedStep, Alloc, AllocZero, Free, FreeAs, Give, Take, Read, Write, Flush, Trim}
use Rattle.kz_model.specs.Grammar.Form.{StepLine, Section, Draft, form_of}
use Rattle.kz_model.specs.Types.Layouts.{layouts_of}
use Rattle.kz_model.specs.Types.Plan.{classes_in_use}

-- the first of two faults
abbrev pub else_fault : Option Refusal → Option Refusal → Option Refusal
else_fault None other = other
else_fault (Some refusal) other = Some refusal

abbrev pub fault_if : Bool → ℕ → Cause → Option Refusal
fault_if wrong line cause = if wrong then Some (record { line = line; cause = cause }) else None

-- ---- types: the first stands at line 9, and the budget at line 6

abbrev pub cause_of : LayoutCause → Cause
cause_of layout.SameName = cause.SameName
cause_of layout.UnknownType = cause.UnknownType
cause_of layout.ForwardUse = cause.ForwardUse
cause_of layout.Empty = cause.Empty
cause_of (layout.TooLarge size) = cause.TooLarge size
cause_of layout.Memory = cause.BadLine

abbrev pub budget_fault : ℕ → ℕ → Option Refusal
budget_fault budget classes = fault_if (nat_lt budget classes) 6 (cause.BudgetShort classes)

abbrev pub fault_of_layouts : ℕ → Result (List Layout) LayoutFault → Option Refusal
fault_of_layouts budget (Err fault) = Some (record { line = 9 + fault.at; cause = cause_of fault.cause })
fault_of_layouts budget (Ok layouts) = budget_fault budget (length (classes_in_use layouts))

abbrev pub types_fault : Draft → Option Refusal
types_fault d = fault_of_layouts d.header.budget (layouts_of d.types)

-- ---- names

-- a name by its first `a` or `z` line: its type and CPU
pub record Row : Type 0 where
  pub name : List ℕ
  pub of : List ℕ
  pub cpu : ℕ

abbrev pub has : List ℕ → List (List ℕ) → Bool
has name names = list_any (λ other. is name other) names

abbrev pub row_of : List ℕ → List Row → Option Row
row_of name [] = None
row_of name (row ∷ rows) = if is name row.name then Some row else row_of name rows

abbrev pub is_there : {A : Type 0} → Option A → Bool
is_there None = false
is_there (Some a) = true

-- what an `a` or `z` line binds: its name with its type
abbrev pub binds : NamedStep → Option (List ℕ × List ℕ)
binds (Alloc name of) = Some (name, of)
binds (AllocZero name of) = Some (name, of)
binds said = None

abbrev pub type_in : NamedStep → Option (List ℕ)
type_in (Alloc name of) = Some of
type_in (AllocZero name of) = Some of
type_in (FreeAs name of) = Some of
type_in (Flush of) = Some of
type_in (Trim of) = Some of
type_in said = None

abbrev pub name_in : NamedStep → Option (List ℕ)
name_in (Alloc name of) = Some name
name_in (AllocZero name of) = Some name
name_in (Free name) = Some name
name_in (FreeAs name of) = Some name
name_in (Give name to) = Some name
name_in (Take name) = Some name
name_in (Read name off len) = Some name
name_in (Write name off bytes) = Some name
name_in said = None

abbrev pub gives_to : NamedStep → Option ℕ
gives_to (Give name to) = Some to
gives_to said = None

-- one more row, where the line binds a name for the first time
abbrev pub with_bound : List Row → ℕ → Option (List ℕ × List ℕ) → List Row
with_bound rows cpu None = rows
with_bound rows cpu (Some bound) =
    if is_there (row_of bound.0 rows) then rows else rows ++ record { name = bound.0; of = bound.1; cpu = cpu } ∷ []

-- a step line with its CPU
abbrev pub CpuLine : Type 0
CpuLine = ℕ × StepLine

abbrev pub with_row : List Row → CpuLine → List Row
with_row rows line = with_bound rows line.0 (binds line.1.said)

-- all step lines in the order of the text
abbrev pub of_cpu : ℕ → List StepLine → List CpuLine
of_cpu cpu lines = map (λ line. (cpu, line)) lines

abbrev pub lines_from : ℕ → List Section → List CpuLine
lines_from cpu [] = []
lines_from cpu (section ∷ sections) = of_cpu cpu section.steps ++ lines_from (cpu + 1) sections

abbrev pub sections_of : Draft → List Section
sections_of d = d.before ++ d.section ∷ []

abbrev pub step_lines : Draft → List CpuLine
step_lines d = lines_from 0 (sections_of d)

-- the names in the order of their first `a` or `z` line
abbrev pub rows_of : List CpuLine → List Row
rows_of lines = fold with_row [] lines

abbrev pub bound_fault : List Row → ℕ → ℕ → Option (List ℕ × List ℕ) → Option Refusal
bound_fault rows line cpu None = None
bound_fault rows line cpu (Some bound) =
    option_map_or (λ row. else_fault (fault_if (not (is bound.1 row.of)) line cause.NameOfTwoTypes)
    (fault_if (not (row.cpu == cpu)) line cause.NameOfTwoCpus))
    (row_of bound.0 rows)
    (fault_if (length rows == 100000) line (cause.TooMany counted.Names))

-- one line, by the rows before it and those of the whole text
abbrev pub name_fault : List (List ℕ) → List Row → List Row → CpuLine → Option Refusal
name_fault types all rows l =
    else_fault (option_map_or (λ of. fault_if (not (has of types)) l.1.line cause.UnknownType) (type_in l.1.said) None)
    (else_fault (bound_fault rows l.1.line l.0 (binds l.1.said))
    (else_fault (option_map_or (λ name. fault_if (not (is_there (row_of name all))) l.1.line cause.UnknownName)
    (name_in l.1.said) None)
    (option_map_or (λ to. fault_if (to == l.0) l.1.line cause.GiveToSelf) (gives_to l.1.said) None)))

abbrev pub names_from : List (List ℕ) → List Row → List Row → List CpuLine → Option Refusal
names_from types all rows [] = None
names_from types all rows (line ∷ lines) =
    else_fault (name_fault types all rows line) (names_from types all (with_row rows line) lines)

abbrev pub type_names : Draft → List (List ℕ)
type_names d = map (λ decl. decl.name) d.types

abbrev pub names_fault : Draft → Option Refusal
names_fault d = names_from (type_names d) (rows_of (step_lines d)) [] (step_lines d)

-- ---- rounds and order

abbrev pub rounds_from : ℕ → List Section → Option Refusal
rounds_from breaks [] = None
rounds_from breaks (section ∷ sections) =
    else_fault (fault_if (not (section.breaks == breaks)) section.line cause.RoundsDiffer) (rounds_from breaks sections)

abbrev pub rounds_of : List Section → Option Refusal
rounds_of [] = None
rounds_of (section ∷ sections) = rounds_from section.breaks sections

-- how many steps there are of a round
abbrev pub steps_in : ℕ → List StepLine → ℕ
steps_in round [] = 0
steps_in round (line ∷ lines) = (if line.round == round then 1 else 0) + steps_in round lines

-- the steps that each CPU has left as a round begins
abbrev pub left_in : ℕ → List Section → List ℕ
left_in round sections = map (λ section. steps_in round section.steps) sections

abbrev pub none_left : List ℕ → Bool
none_left left = list_all (λ n. n == 0) left

-- the order's lines from this number on: the last round, the round, and what each CPU has left in it
abbrev pub order_from : List Section → ℕ → ℕ → List ℕ → ℕ → List OrderLine → Option Refusal
order_from sections last round left line [] = fault_if (not (none_left left) || not (round == last)) line cause.BadOrder
order_from sections last round left line (turn.Cpu cpu ∷ lines) =
    else_fault (fault_if (slice_index left cpu == 0) line cause.BadOrder)
    (order_from sections last round (slice_set left cpu (slice_index left cpu - 1)) (line + 1) lines)
order_from sections last round left line (turn.Round ∷ lines) =
    else_fault (fault_if (not (none_left left) || (round == last)) line cause.BadOrder)
    (order_from sections last (round + 1) (left_in (round + 1) sections) (line + 1) lines)

-- the first line of the section stands below the line `order`
abbrev pub order_fault : Draft → Option (List OrderLine) → Option Refusal
order_fault d None = None
order_fault d (Some lines) = order_from (sections_of d) d.section.breaks 0 (left_in 0 (sections_of d))
    (d.order_at + 1) lines

abbrev pub rounds_fault : Draft → Option Refusal
rounds_fault d = else_fault (rounds_of (sections_of d)) (order_fault d d.order)

-- ---- the whole

-- the first fault after the form
abbrev pub later_fault : Draft → Option Refusal
later_fault d = else_fault (types_fault d) (else_fault (names_fault d) (rounds_fault d))

-- where a name stands first; the list's length where it doesn't
abbrev pub place_of : List ℕ → List (List ℕ) → ℕ
place_of name [] = 0
place_of name (other ∷ names) = if is name other then 0 else place_of name names + 1

-- a step with its names and types by number
abbrev pub act_of : List (List ℕ) → List (List ℕ) → NamedStep → Act
act_of types names (Alloc name of) = act.Alloc (place_of name names) (place_of of types)
act_of types names (AllocZero name of) = act.AllocZero (place_of name names) (place_of of types)
act_of types names (Free name) = act.Free (place_of name names) None
act_of types names (FreeAs name of) = act.Free (place_of name names) (Some (place_of of types))
act_of types names (Give name to) = act.Give (place_of name names) to
act_of types names (Take name) = act.Take (place_of name names)
act_of types names (Read name off len) = act.Read (place_of name names) off len
act_of types names (Write name off bytes) = act.Write (place_of name names) off bytes
act_of types names (Flush of) = act.Flush (place_of of types)
act_of types names (Trim of) = act.Trim (place_of of types)

abbrev pub step_of : List (List ℕ) → List (List ℕ) → StepLine → TraceStep
step_of types names l = record { line = l.line; round = l.round; act = act_of types names l.said }

abbrev pub row_names : List Row → List (List ℕ)
row_names rows = map (λ row. row.name) rows

abbrev pub bundle_with : Draft → List Row → Bundle
bundle_with d rows = record {
  machine = d.header.machine;
  seed = d.header.seed;
  cpus = d.header.cpus;
  frames = d.header.frames;
  pages = d.header.pages;
  budget = d.header.budget;
  magazine = d.header.magazine;
  depot = d.header.depot;
  types = d.types;
  names = map (λ row. record { name = row.name; of = place_of row.of (type_names d) }) rows;
  rounds = d.section.breaks + 1;
  traces = map (λ section. map (step_of (type_names d) (row_names rows)) section.steps) (sections_of d);
  order = d.order;
}

abbrev pub bundle_of : Draft → Bundle
bundle_of d = bundle_with d (rows_of (step_lines d))

abbrev pub unless : Draft → Option Refusal → Result Bundle Refusal
unless d None = Ok (bundle_of d)
unless d (Some refusal) = Err refusal

abbrev pub after_form : Result Draft Refusal → Result Bundle Refusal
after_form (Err refusal) = Err refusal
after_form (Ok d) = unless d (later_fault d)

-- the bundle of a text, or its first fault: the form, then the types, then the names, then the rounds and the order
abbrev pub read : List ℕ → Result Bundle Refusal
read bytes = after_form (form_of bytes)
