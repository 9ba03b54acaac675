-- No later stage refuses a text for what a line alone is refused for.
use Rattle.std.proofs.Common.{ℕ, ◌+◌, ◌-◌, ◌==◌, ◌||◌, Bool, true, false, not, nat_lt, if◌then◌else◌, List, [], ◌∷◌, length, slice_index, slice_set, slice_get, Option, Some, None, Result, Ok, Err}
use Rattle.std.specs.Option.{option_map_or}
use Rattle.kz_model.specs.declared.bundle.Kind.{Kind, Union', Row_of-Field, end_of-Field, more_of-Field}
use Rattle.kz_model.specs.declared.bundle.Kind.TheVariants.{Ptr, Auth, U8, U16, U32, U64, Bytes, Struct}
use Rattle.kz_model.specs.declared.bundle.Field.{Field}
use Rattle.kz_model.specs.declared.bundle.TypeDecl.{TypeDecl}
use Rattle.kz_model.specs.declared.bundle.OrderLine.{OrderLine}
use Rattle.kz_model.specs.declared.bundle.OrderLine.TheVariants as turn
use Rattle.kz_model.specs.declared.record.Layout.{Layout}
use Rattle.kz_model.specs.declared.layout.LayoutCause.{LayoutCause}
use Rattle.kz_model.specs.declared.layout.LayoutCause.TheVariants as layout
use Rattle.kz_model.specs.declared.layout.LayoutFault.{LayoutFault}
use Rattle.kz_model.specs.declared.grammar.Cause.{Cause}
use Rattle.kz_model.specs.declared.grammar.Cause.TheVariants as cause
use Rattle.kz_model.specs.declared.grammar.Counted.TheVariants as counted
use Rattle.kz_model.specs.declared.grammar.Refusal.{Refusal}
use Rattle.kz_model.specs.Types.Cover.{Covered}
use Rattle.kz_model.specs.Types.Layouts as types
use Rattle.kz_model.specs.Types.Layouts.{Types, Inside, no_fields, then_do, earlier_one, declared_one, whole, own_cover, placed_at, offset_of, with_cover, named, one_field, inner_of, row_of, fields_from, is_earlier, type_cover, found_at, with_earlier, types_from, layouts_of}
use Rattle.kz_model.specs.Types.Plan.{classes_in_use}
use Rattle.kz_model.specs.Grammar.Tokens.{is}
use Rattle.kz_model.specs.Grammar.Form.{Section, Draft}
use Rattle.kz_model.specs.Grammar.Stages as stage
use Rattle.kz_model.specs.Grammar.Stages.{Row, CpuLine, else_fault, fault_if, cause_of, fault_of_layouts, types_fault, has, is_there, binds, type_in, name_in, gives_to, with_row, bound_fault, name_fault, names_from, names_fault, rounds_from, rounds_of, none_left, left_in, order_from, order_fault, rounds_fault, later_fault, sections_of, step_lines, rows_of, type_names}

-- what a line alone is refused for
abbrev pub OfLine : Cause → Type 0
OfLine cause.BadLine = Unit {0}
OfLine cause.BadNumber = Unit {0}
OfLine cause.OutOfRange = Unit {0}
OfLine other = ⊥

-- ---- layouts want no memory

abbrev IsNotMemory : LayoutCause → Type 0
IsNotMemory layout.Memory = ⊥
IsNotMemory other = Unit {0}

abbrev NeedsNoMemory : {A : Type 0} → Result A LayoutCause → Type 0
NeedsNoMemory (Ok a) = Unit {0}
NeedsNoMemory (Err c) = IsNotMemory c

then_free : {A B : Type 0} (first : Result A LayoutCause) (next : A → Result B LayoutCause) → NeedsNoMemory first → ((a : A) → NeedsNoMemory (next a)) → NeedsNoMemory (then_do first next)
then_free (Ok a) next told more = more a
then_free (Err c) next told more = told

if_free : {A : Type 0} (test : Bool) (x y : Result A LayoutCause) → NeedsNoMemory x → NeedsNoMemory y → NeedsNoMemory (if test then x else y)
if_free true x y here there = here
if_free false x y here there = there

declared_free : (earlier : List Covered) (place : Option ℕ) → NeedsNoMemory (declared_one earlier place)
declared_free earlier None = tt
declared_free earlier (Some place) = by_cover (slice_get earlier place)
  where
    by_cover : (cover : Option Covered) → NeedsNoMemory (earlier_one cover)
    by_cover None = tt
    by_cover (Some cover) = tt

whole_free : (inside : Inside) → NeedsNoMemory (whole inside)
whole_free inside = if_free (length inside.names == 0) _ _ tt tt

own_free : (known : Types) (inner : Inside) (kind : Kind) → NeedsNoMemory (own_cover known inner kind)
own_free known inner Ptr = tt
own_free known inner Auth = tt
own_free known inner U8 = tt
own_free known inner U16 = tt
own_free known inner U32 = tt
own_free known inner U64 = tt
own_free known inner (Bytes n) = tt
own_free known inner (Struct name) = declared_free known.earlier (types.place_of name known.names)
own_free known inner (Union' shape row) = whole_free inner

field_free : (known : Types) (in_union : Bool) (so_far : Inside) (kind : Kind) (name : List ℕ) (count : ℕ) (inner : Inside) → NeedsNoMemory (one_field known in_union so_far kind name count inner)
field_free known in_union so_far kind name count inner =
    if_free (types.has name so_far.names) _ _ tt
    (then_free (then_do (own_cover known inner kind) (with_cover in_union so_far.body count)) (named so_far.names name)
    (then_free (own_cover known inner kind) (with_cover in_union so_far.body count) (own_free known inner kind) (λ m. if_free (nat_lt 8192 (offset_of in_union so_far.body m + _)) _ _ tt tt)) (λ body. tt))

mutual
  inner_free : (known : Types) (kind : Kind) → NeedsNoMemory (inner_of known kind)
  inner_free known Ptr = tt
  inner_free known Auth = tt
  inner_free known U8 = tt
  inner_free known U16 = tt
  inner_free known U32 = tt
  inner_free known U64 = tt
  inner_free known (Bytes n) = tt
  inner_free known (Struct name) = tt
  inner_free known (Union' shape row) = row_free known no_fields row

  row_free : {m : _} (known : Types) (so_far : Inside) (row : Row_of-Field m) → NeedsNoMemory (row_of known so_far row)
  row_free known so_far end_of-Field = tt
  row_free known so_far (more_of-Field kind name count rest) =
      then_free (then_do (inner_of known kind) (one_field known true so_far kind name count)) (λ more. row_of known more rest)
      (then_free (inner_of known kind) (one_field known true so_far kind name count) (inner_free known kind) (field_free known true so_far kind name count)) (λ more. row_free known more rest)

fields_free : (known : Types) (so_far : Inside) (fields : List Field) → NeedsNoMemory (fields_from known false so_far fields)
fields_free known so_far [] = tt
fields_free known so_far (f ∷ fields) =
    then_free (then_do (inner_of known f.kind) (one_field known false so_far f.kind f.name f.count)) (λ more. fields_from known false more fields)
    (then_free (inner_of known f.kind) (one_field known false so_far f.kind f.name f.count) (inner_free known f.kind) (field_free known false so_far f.kind f.name f.count)) (λ more. fields_free known more fields)

type_free : (known : Types) (decl : TypeDecl) → NeedsNoMemory (type_cover known decl)
type_free known decl =
    if_free (is_earlier (length known.earlier) (types.place_of decl.name known.names)) _ _ tt
    (then_free (fields_from known false no_fields decl.fields) whole (fields_free known no_fields decl.fields) whole_free)

abbrev NeedsNoMemoryAt : {A : Type 0} → Result A LayoutFault → Type 0
NeedsNoMemoryAt (Ok a) = Unit {0}
NeedsNoMemoryAt (Err fault) = IsNotMemory fault.cause

then_told_at : {A B : Type 0} (first : Result A LayoutFault) (next : A → Result B LayoutFault) → NeedsNoMemoryAt first → ((a : A) → NeedsNoMemoryAt (next a)) → NeedsNoMemoryAt (then_do first next)
then_told_at (Ok a) next told more = more a
then_told_at (Err fault) next told more = told

found_free : {A : Type 0} (at : ℕ) (found : Result A LayoutCause) → NeedsNoMemory found → NeedsNoMemoryAt (found_at at found)
found_free at (Ok a) told = tt
found_free at (Err c) told = told

types_free : (known : Types) (decls : List TypeDecl) → NeedsNoMemoryAt (types_from known decls)
types_free known [] = tt
types_free known (decl ∷ decls) =
    then_told_at (found_at (length known.earlier) (type_cover known decl)) (λ m. types_from (with_earlier known m) decls)
    (found_free (length known.earlier) (type_cover known decl) (type_free known decl)) (λ m. types_free (with_earlier known m) decls)

layouts_free : (decls : List TypeDecl) → NeedsNoMemoryAt (layouts_of decls)
layouts_free decls = then_told_at (types_from _ decls) _ (types_free _ decls) (λ covers. tt)

-- ---- faults that are of no line

abbrev pub IsLater : Option Refusal → Type 0
IsLater None = Unit {0}
IsLater (Some refusal) = ¬ OfLine refusal.cause

else_later : (a b : Option Refusal) → IsLater a → IsLater b → IsLater (else_fault a b)
else_later None b first next = next
else_later (Some refusal) b first next = first

if_later : (wrong : Bool) (line : ℕ) (c : Cause) → ¬ OfLine c → IsLater (fault_if wrong line c)
if_later true line c later = later
if_later false line c later = tt

map_later : {A : Type 0} (f : A → Option Refusal) (o : Option A) (other : Option Refusal) → ((a : A) → IsLater (f a)) → IsLater other → IsLater (option_map_or f o other)
map_later f None other all rest = rest
map_later f (Some a) other all rest = all a

cause_later : (c : LayoutCause) → IsNotMemory c → ¬ OfLine (cause_of c)
cause_later layout.SameName told = λ of. of
cause_later layout.UnknownType told = λ of. of
cause_later layout.ForwardUse told = λ of. of
cause_later layout.Empty told = λ of. of
cause_later (layout.TooLarge size) told = λ of. of
cause_later layout.Memory told = λ of. told

layouts_later : (budget : ℕ) (given : Result (List Layout) LayoutFault) → NeedsNoMemoryAt given → IsLater (fault_of_layouts budget given)
layouts_later budget (Ok layouts) told = if_later (nat_lt budget (length (classes_in_use layouts))) 6 (cause.BudgetShort (length (classes_in_use layouts))) (λ of. of)
layouts_later budget (Err fault) told = cause_later fault.cause told

bound_later : (rows : List Row) (line cpu : ℕ) (bound : Option (List ℕ × List ℕ)) → IsLater (bound_fault rows line cpu bound)
bound_later rows line cpu None = tt
bound_later rows line cpu (Some bound) =
    map_later _ (stage.row_of bound.0 rows) _
    (λ row. else_later _ _ (if_later (not (is bound.1 row.of)) line cause.NameOfTwoTypes (λ of. of)) (if_later (not (row.cpu == cpu)) line cause.NameOfTwoCpus (λ of. of)))
    (if_later (length rows == 100000) line (cause.TooMany counted.Names) (λ of. of))

name_later : (known : List (List ℕ)) (all rows : List Row) (l : CpuLine) → IsLater (name_fault known all rows l)
name_later known all rows l =
    else_later _ _ (map_later _ (type_in l.1.said) None (λ of. if_later (not (has of known)) l.1.line cause.UnknownType (λ of. of)) tt)
    (else_later _ _ (bound_later rows l.1.line l.0 (binds l.1.said))
    (else_later _ _ (map_later _ (name_in l.1.said) None (λ name. if_later (not (is_there (stage.row_of name all))) l.1.line cause.UnknownName (λ of. of)) tt)
    (map_later _ (gives_to l.1.said) None (λ to. if_later (to == l.0) l.1.line cause.GiveToSelf (λ of. of)) tt)))

names_later : (known : List (List ℕ)) (all rows : List Row) (lines : List CpuLine) → IsLater (names_from known all rows lines)
names_later known all rows [] = tt
names_later known all rows (line ∷ lines) = else_later (name_fault known all rows line) _ (name_later known all rows line) (names_later known all (with_row rows line) lines)

rounds_later : (breaks : ℕ) (sections : List Section) → IsLater (rounds_from breaks sections)
rounds_later breaks [] = tt
rounds_later breaks (section ∷ sections) = else_later _ _ (if_later (not (section.breaks == breaks)) section.line cause.RoundsDiffer (λ of. of)) (rounds_later breaks sections)

all_rounds_later : (sections : List Section) → IsLater (rounds_of sections)
all_rounds_later [] = tt
all_rounds_later (section ∷ sections) = rounds_later section.breaks sections

turns_later : (sections : List Section) (last round : ℕ) (left : List ℕ) (line : ℕ) (lines : List OrderLine) → IsLater (order_from sections last round left line lines)
turns_later sections last round left line [] = if_later (not (none_left left) || not (round == last)) line cause.BadOrder (λ of. of)
turns_later sections last round left line (turn.Cpu cpu ∷ lines) =
    else_later _ _ (if_later (slice_index left cpu == 0) line cause.BadOrder (λ of. of)) (turns_later sections last round (slice_set left cpu (slice_index left cpu - 1)) (line + 1) lines)
turns_later sections last round left line (turn.Round ∷ lines) =
    else_later _ _ (if_later (not (none_left left) || (round == last)) line cause.BadOrder (λ of. of)) (turns_later sections last (round + 1) (left_in (round + 1) sections) (line + 1) lines)

order_later : (d : Draft) (order : Option (List OrderLine)) → IsLater (order_fault d order)
order_later d None = tt
order_later d (Some lines) = turns_later (sections_of d) d.section.breaks 0 (left_in 0 (sections_of d)) (d.order_at + 1) lines

-- no later stage has such a fault
pub is_later : (d : Draft) → IsLater (later_fault d)
is_later d =
    else_later (types_fault d) _ (layouts_later d.header.budget (layouts_of d.types) (layouts_free d.types))
    (else_later (names_fault d) (rounds_fault d) (names_later (type_names d) (rows_of (step_lines d)) [] (step_lines d))
    (else_later (rounds_of (sections_of d)) (order_fault d d.order) (all_rounds_later (sections_of d)) (order_later d d.order)))
