-- No first fault of bytes is that they are too many.
use Rattle.std.proofs.Common.{◌≢◌, ◌==◌, ◌+◌, ◌-◌, ◌||◌, ◌++◌, ℕ, Bool, true, false, not, if◌then◌else◌, List, [], ◌∷◌, length, Option, None, Some, Result, Ok, Err, refl, subst, nat_lt}
use Rattle.std.specs.Prelude.{slice_index, slice_set}
use Rattle.std.specs.Option.{option_map_or}
use Rattle.kz_model.specs.declared.bundle.Bundle.{Bundle}
use Rattle.kz_model.specs.declared.bundle.OrderLine.{OrderLine}
use Rattle.kz_model.specs.declared.bundle.OrderLine.TheVariants as turn
use Rattle.kz_model.specs.declared.grammar.Cause.{Cause}
use Rattle.kz_model.specs.declared.grammar.Cause.TheVariants as cause
use Rattle.kz_model.specs.declared.grammar.Counted.TheVariants as counted
use Rattle.kz_model.specs.declared.grammar.Mark.{Mark}
use Rattle.kz_model.specs.declared.grammar.Mark.TheVariants as mark
use Rattle.kz_model.specs.declared.grammar.Place.{Place}
use Rattle.kz_model.specs.declared.grammar.Place.TheVariants as place
use Rattle.kz_model.specs.declared.grammar.Refusal.{Refusal}
use Rattle.kz_model.specs.declared.layout.LayoutCause.{LayoutCause}
use Rattle.kz_model.specs.declared.layout.LayoutCause.TheVariants as layout
use Rattle.kz_model.specs.declared.layout.LayoutFault.{LayoutFault}
use Rattle.kz_model.specs.declared.record.Layout.{Layout}
use Rattle.kz_model.specs.Grammar.Tokens.{lines_of, tokens_of, is}
use Rattle.kz_model.specs.Grammar.Form.{Line, Declares, Does, Break, Section, Draft, empty_draft, line_at, with_break, with_line, judged, after_line, rest_at, go_on, form_from, form_of}
use Rattle.kz_model.specs.Grammar.Stages.{Row, CpuLine, else_fault, fault_if, cause_of, fault_of_layouts, types_fault, has, is_there, row_of, rows_of, binds, type_in, name_in, gives_to, with_row, bound_fault, name_fault, names_from, names_fault, step_lines, sections_of, type_names, rounds_from, rounds_of, left_in, none_left, order_from, order_fault, later_fault, unless, after_form, read}
use Rattle.kz_model.specs.Grammar.Spelling.{IsFirstFault}
use Rattle.kz_model.specs.Types.Layouts.{layouts_of}
use Rattle.kz_model.specs.Types.Plan.{classes_in_use}
use Rattle.kz_top.specs.Call.{too_long}

-- another cause than that of an input that is too long
abbrev IsOther : Cause → Type 0
IsOther c = c ≢ cause.TooLong

-- the same of the cause of a fault, where there is one
abbrev IsOtherFault : Option Refusal → Type 0
IsOtherFault None = Unit {0}
IsOtherFault (Some refusal) = IsOther refusal.cause

abbrev IsOtherCause : Result Draft Cause → Type 0
IsOtherCause (Ok d) = Unit {0}
IsOtherCause (Err c) = IsOther c

abbrev IsOtherRefusal : {A : Type 0} → Result A Refusal → Type 0
IsOtherRefusal (Ok a) = Unit {0}
IsOtherRefusal (Err refusal) = IsOther refusal.cause

-- ---- one fault or another

other_if : (wrong : Bool) (line : ℕ) (c : Cause) → IsOther c → IsOtherFault (fault_if wrong line c)
other_if true line c other = other
other_if false line c other = tt

other_else : (first second : Option Refusal) → IsOtherFault first → IsOtherFault second → IsOtherFault (else_fault first second)
other_else None second f s = s
other_else (Some refusal) second f s = f

other_map_or : {A : Type 0} (f : A → Option Refusal) (o : Option A) (default : Option Refusal) → ((a : A) → IsOtherFault (f a)) → IsOtherFault default →
    IsOtherFault (option_map_or f o default)
other_map_or f None default each d = d
other_map_or f (Some a) default each d = each a

-- ---- the form

-- a cause where a test holds, and a draft else
other_unless : (full : Bool) (c : Cause) (d : Draft) → IsOther c → IsOtherCause (if full then Err c else Ok d)
other_unless true c d other = other
other_unless false c d other = tt

other_break : (p : Place) (d : Draft) → IsOtherCause (with_break p d)
other_break place.Order d = tt
other_break p d = other_unless (d.section.breaks == 999) (cause.TooMany counted.Rounds) (record d { section = record d.section { breaks = d.section.breaks + 1 } }) (λ e. cc)

other_line : (d : Draft) (number : ℕ) (line : Line) → IsOtherCause (with_line d number line)
other_line d number (Declares decl) =
    other_unless (length d.types == 1024) (cause.TooMany counted.Types) (record d { types = d.types ++ decl ∷ [] }) (λ e. cc)
other_line d number (Does said) =
    other_unless (d.steps == 1000000) (cause.TooMany counted.Steps) (record d {
      steps = d.steps + 1;
      section = record d.section { steps = d.section.steps ++ record { line = number; round = d.section.breaks; said = said } ∷ [] };
    }) (λ e. cc)
other_line d number Break = other_break d.place d
other_line d number line = tt

other_judged : (d : Draft) (number : ℕ) (found : Option (Line × Mark)) → IsOtherCause (judged d number found)
other_judged d number None = λ e. cc
other_judged d number (Some (line, mark.BadNumber)) = λ e. cc
other_judged d number (Some (line, mark.OutOfRange)) = λ e. cc
other_judged d number (Some (line, mark.Fine)) = other_line d number line

other_after : (p : Place) (d : Draft) (number : ℕ) (words : List (List ℕ)) → IsOtherCause (after_line p d number words)
other_after place.Ended d number words = λ e. cc
other_after p d number words = other_judged d number (line_at p d words)

other_rest : (p : Place) (d : Draft) (number : ℕ) (rest : List ℕ) → IsOtherRefusal (rest_at p d number rest)
other_rest place.Ended d number [] = tt
other_rest place.Ended d number (byte ∷ rest) = λ e. cc
other_rest p d number rest = λ e. cc

other_form_from : (d : Draft) (number : ℕ) (lines : List (List ℕ)) → IsOtherRefusal (form_from d number lines)
other_form_from d number [] = other_rest d.place d number []
other_form_from d number (rest ∷ []) = other_rest d.place d number rest
other_form_from d number (text ∷ next ∷ lines) =
    go_on_other (after_line d.place d number (tokens_of text)) (other_after d.place d number (tokens_of text)) (λ more. other_form_from more (number + 1) (next ∷ lines))
  where
    go_on_other : (r : Result Draft Cause) → IsOtherCause r → ((more : Draft) → IsOtherRefusal (form_from more (number + 1) (next ∷ lines))) →
        IsOtherRefusal (go_on number r (λ more. form_from more (number + 1) (next ∷ lines)))
    go_on_other (Ok d) other each = each d
    go_on_other (Err c) other each = other

-- ---- types and names

other_layout : (c : LayoutCause) → IsOther (cause_of c)
other_layout layout.SameName = λ e. cc
other_layout layout.UnknownType = λ e. cc
other_layout layout.ForwardUse = λ e. cc
other_layout layout.Empty = λ e. cc
other_layout (layout.TooLarge size) = λ e. cc
other_layout layout.Memory = λ e. cc

other_types : (budget : ℕ) (layouts : Result (List Layout) LayoutFault) → IsOtherFault (fault_of_layouts budget layouts)
other_types budget (Err fault) = other_layout fault.cause
other_types budget (Ok layouts) = other_if (nat_lt budget (length (classes_in_use layouts))) 6 (cause.BudgetShort (length (classes_in_use layouts))) (λ e. cc)

other_bound : (rows : List Row) (line cpu : ℕ) (bound : Option (List ℕ × List ℕ)) → IsOtherFault (bound_fault rows line cpu bound)
other_bound rows line cpu None = tt
other_bound rows line cpu (Some bound) =
    other_map_or _ (row_of bound.0 rows) _
    (λ row. other_else (fault_if (not (is bound.1 row.of)) line cause.NameOfTwoTypes) (fault_if (not (row.cpu == cpu)) line cause.NameOfTwoCpus)
    (other_if (not (is bound.1 row.of)) line cause.NameOfTwoTypes (λ e. cc)) (other_if (not (row.cpu == cpu)) line cause.NameOfTwoCpus (λ e. cc)))
    (other_if (length rows == 100000) line (cause.TooMany counted.Names) (λ e. cc))

other_name : (types : List (List ℕ)) (all rows : List Row) (l : CpuLine) → IsOtherFault (name_fault types all rows l)
other_name types all rows l =
    other_else _ _ (other_map_or _ (type_in l.1.said) None (λ of. other_if (not (has of types)) l.1.line cause.UnknownType (λ e. cc)) tt)
    (other_else _ _ (other_bound rows l.1.line l.0 (binds l.1.said))
    (other_else _ _ (other_map_or _ (name_in l.1.said) None (λ name. other_if (not (is_there (row_of name all))) l.1.line cause.UnknownName (λ e. cc)) tt)
    (other_map_or _ (gives_to l.1.said) None (λ to. other_if (to == l.0) l.1.line cause.GiveToSelf (λ e. cc)) tt)))

other_names : (types : List (List ℕ)) (all rows : List Row) (lines : List CpuLine) → IsOtherFault (names_from types all rows lines)
other_names types all rows [] = tt
other_names types all rows (line ∷ lines) = other_else _ _ (other_name types all rows line) (other_names types all (with_row rows line) lines)

-- ---- rounds and the order

other_rounds_from : (breaks : ℕ) (sections : List Section) → IsOtherFault (rounds_from breaks sections)
other_rounds_from breaks [] = tt
other_rounds_from breaks (section ∷ sections) =
    other_else _ _ (other_if (not (section.breaks == breaks)) section.line cause.RoundsDiffer (λ e. cc)) (other_rounds_from breaks sections)

other_rounds : (sections : List Section) → IsOtherFault (rounds_of sections)
other_rounds [] = tt
other_rounds (section ∷ sections) = other_rounds_from section.breaks sections

other_order_from : (sections : List Section) (last round : ℕ) (left : List ℕ) (line : ℕ) (lines : List OrderLine) → IsOtherFault (order_from sections last round left line lines)
other_order_from sections last round left line [] = other_if (not (none_left left) || not (round == last)) line cause.BadOrder (λ e. cc)
other_order_from sections last round left line (turn.Cpu cpu ∷ lines) =
    other_else _ _ (other_if (slice_index left cpu == 0) line cause.BadOrder (λ e. cc))
    (other_order_from sections last round (slice_set left cpu (slice_index left cpu - 1)) (line + 1) lines)
other_order_from sections last round left line (turn.Round ∷ lines) =
    other_else _ _ (other_if (not (none_left left) || (round == last)) line cause.BadOrder (λ e. cc))
    (other_order_from sections last (round + 1) (left_in (round + 1) sections) (line + 1) lines)

other_order : (d : Draft) (order : Option (List OrderLine)) → IsOtherFault (order_fault d order)
other_order d None = tt
other_order d (Some lines) = other_order_from (sections_of d) d.section.breaks 0 (left_in 0 (sections_of d)) (d.order_at + 1) lines

-- ---- the whole

other_later : (d : Draft) → IsOtherFault (later_fault d)
other_later d =
    other_else (types_fault d) _ (other_types d.header.budget (layouts_of d.types))
    (other_else (names_fault d) _ (other_names (type_names d) (rows_of (step_lines d)) [] (step_lines d))
    (other_else (rounds_of (sections_of d)) _ (other_rounds (sections_of d)) (other_order d d.order)))

other_unless_fault : (d : Draft) (fault : Option Refusal) → IsOtherFault fault → IsOtherRefusal (unless d fault)
other_unless_fault d None other = tt
other_unless_fault d (Some refusal) other = other

other_after_form : (formed : Result Draft Refusal) → IsOtherRefusal formed → IsOtherRefusal (after_form formed)
other_after_form (Err refusal) other = other
other_after_form (Ok d) other = other_unless_fault d (later_fault d) (other_later d)

other_read : (bytes : List ℕ) → IsOtherRefusal (read bytes)
other_read bytes = other_after_form (form_of bytes) (other_form_from empty_draft 1 (lines_of bytes))

-- so a first fault isn't that of an input that is too long
pub fault_or_too_long : (bytes : List ℕ) → IsFirstFault bytes too_long → ⊥
fault_or_too_long bytes fault =
    let other : IsOther cause.TooLong = subst (λ (r : Result Bundle Refusal). IsOtherRefusal r) fault (other_read bytes) in
    other refl
