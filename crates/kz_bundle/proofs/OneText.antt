-- The lines of a bundle are those of the draft that it is of.
use Rattle.std.proofs.Common.{◌≡◌, ℕ, suc, ◌+◌, ◌-◌, ◌==◌, ◌||◌, Bool, true, false, not, List, [], ◌∷◌, ◌++◌, map, replicate, Option, Some, None, refl, ap, sym, ◌∙◌, arith, subst, if◌then◌else◌}
use Rattle.std.specs.List.{flat_map, enumerate_from}
use Rattle.std.specs.Option.{option_map_or}
use Rattle.kz_model.specs.declared.bundle.TraceStep.{TraceStep}
use Rattle.kz_model.specs.declared.bundle.NameRow.{NameRow}
use Rattle.kz_model.specs.declared.grammar.Cause.{Cause}
use Rattle.kz_model.specs.declared.grammar.Cause.TheVariants as cause
use Rattle.kz_model.specs.declared.grammar.Place.TheVariants as place
use Rattle.kz_model.specs.declared.grammar.Refusal.{Refusal}
use Rattle.kz_model.specs.Grammar.Tokens.{is}
use Rattle.kz_model.specs.Grammar.Steps.{NamedStep, Alloc, AllocZero, Free, FreeAs, Give, Take, Read, Write, Flush, Trim}
use Rattle.kz_model.specs.Grammar.Form.{Line, Opens, Does, Break, Ends, Declares, StepLine, Section, Draft, empty_draft}
use Rattle.kz_model.specs.Grammar.Stages.{else_fault, fault_if, Row, has, row_of, is_there, binds, type_in, name_in, gives_to, with_row, CpuLine, of_cpu, lines_from, sections_of, step_lines, rows_of, bound_fault, name_fault, names_from, type_names, types_fault, names_fault, rounds_from, rounds_of, order_fault, rounds_fault, later_fault, place_of, act_of, step_of, row_names, bundle_of}
use Rattle.kz_model.specs.Text.Lines.{text_of_lines}
use Rattle.kz_model.specs.Grammar.Spelling.{line_text, text_at, named_step_of, section_lines, cpu_lines, order_lines, bundle_lines, OneText}
use Rattle.kz_bundle.proofs.Choices.{wrong, equal, is_same}
use Rattle.kz_bundle.proofs.NamedStepLines.{steps_said, section_said, sections_said, header_said, draft_said, said_is}

-- ---- no fault

pub some_fault : {P : Type 0} (refusal : Refusal) → Some refusal ≡ None → P
some_fault refusal e = absurd (no refusal e)
  where
    no : (refusal : Refusal) → Some refusal ≡ None → ⊥
    no refusal e = cc

pub first_none : (a b : Option Refusal) → else_fault a b ≡ None → a ≡ None
first_none None b e = refl
first_none (Some refusal) b e = some_fault refusal e

pub then_none : (a b : Option Refusal) → else_fault a b ≡ None → b ≡ None
then_none None b e = e
then_none (Some refusal) b e = some_fault refusal e

pub right_one : (b : Bool) (line : ℕ) (c : Cause) → fault_if (not b) line c ≡ None → b ≡ true
right_one true line c e = refl
right_one false line c e = some_fault (record { line = line; cause = c }) e

-- ---- a text by its place

one_later : (text : List ℕ) (texts : List (List ℕ)) (n : ℕ) → text_at (text ∷ texts) (n + 1) ≡ text_at texts n
one_later text texts n = ap (λ n. text_at (text ∷ texts) n) (same n)
  where
    same : (n : ℕ) → n + 1 ≡ suc n
    same n = omega arith

-- a text that is there stands at its place
found_at : (text : List ℕ) (texts : List (List ℕ)) → has text texts ≡ true → text_at texts (place_of text texts) ≡ text
found_at text [] e = wrong e
found_at text (other ∷ texts) e =
    elim (is text other) as (λ b. is text other ≡ b → (b || has text texts) ≡ true → text_at (other ∷ texts) (if b then 0 else place_of text texts + 1) ≡ text) [
      | true ↦ λ t more. is_same text other t
      | false ↦ λ t more. one_later other texts (place_of text texts) ∙ found_at text texts more
    ] refl e

-- a name that has a row is among the names
pub named : (name : List ℕ) (rows : List Row) → is_there (row_of name rows) ≡ true → has name (row_names rows) ≡ true
named name [] e = wrong e
named name (row ∷ rows) e =
    elim (is name row.name) as (λ b. is_there (if b then Some row else row_of name rows) ≡ true → (b || has name (row_names rows)) ≡ true) [
      | true ↦ λ there. refl
      | false ↦ λ there. named name rows there
    ] e

-- ---- what is said by number is what was said

abbrev Again : List (List ℕ) → List (List ℕ) → NamedStep → Type 0
Again names types said = named_step_of names types (act_of types names said) ≡ said

module _ (types : List (List ℕ)) (all : List Row) where
  abbrev names : List (List ℕ)
  names = row_names all

  the_type : (line : ℕ) (of : List ℕ) → fault_if (not (has of types)) line cause.UnknownType ≡ None → text_at types (place_of of types) ≡ of
  the_type line of e = found_at of types (right_one (has of types) line cause.UnknownType e)

  the_name : (line : ℕ) (name : List ℕ) → fault_if (not (is_there (row_of name all))) line cause.UnknownName ≡ None → text_at names (place_of name names) ≡ name
  the_name line name e = found_at name names (named name all (right_one (is_there (row_of name all)) line cause.UnknownName e))

  both_again : (f : List ℕ → List ℕ → NamedStep) (line : ℕ) (name of : List ℕ) → fault_if (not (has of types)) line cause.UnknownType ≡ None → fault_if (not (is_there (row_of name all))) line cause.UnknownName ≡ None →
      f (text_at names (place_of name names)) (text_at types (place_of of types)) ≡ f name of
  both_again f line name of e g = ap (λ (name : List ℕ). f name (text_at types (place_of of types))) (the_name line name g) ∙ ap (f name) (the_type line of e)

  by_said : (line : ℕ) (said : NamedStep) → option_map_or {U = Option Refusal} (λ of. fault_if (not (has of types)) line cause.UnknownType) (type_in said) None ≡ None →
      option_map_or {U = Option Refusal} (λ name. fault_if (not (is_there (row_of name all))) line cause.UnknownName) (name_in said) None ≡ None → Again names types said
  by_said line (Alloc name of) e g = both_again Alloc line name of e g
  by_said line (AllocZero name of) e g = both_again AllocZero line name of e g
  by_said line (Free name) e g = ap Free (the_name line name g)
  by_said line (FreeAs name of) e g = both_again FreeAs line name of e g
  by_said line (Give name to) e g = ap (λ (name : List ℕ). Give name to) (the_name line name g)
  by_said line (Take name) e g = ap Take (the_name line name g)
  by_said line (Read name off len) e g = ap (λ (name : List ℕ). Read name off len) (the_name line name g)
  by_said line (Write name off bytes) e g = ap (λ (name : List ℕ). Write name off bytes) (the_name line name g)
  by_said line (Flush of) e g = ap Flush (the_type line of e)
  by_said line (Trim of) e g = ap Trim (the_type line of e)

  -- each of these lines
  abbrev AllAgain : List StepLine → Type 0
  AllAgain [] = Unit {0}
  AllAgain (line ∷ lines) = Again names types line.said × AllAgain lines

  abbrev AllLinesAgain : List CpuLine → Type 0
  AllLinesAgain [] = Unit {0}
  AllLinesAgain (line ∷ lines) = Again names types line.1.said × AllLinesAgain lines

  abbrev SectionsAgain : List Section → Type 0
  SectionsAgain [] = Unit {0}
  SectionsAgain (section ∷ sections) = AllAgain section.steps × SectionsAgain sections

  lines_again : (rows : List Row) (lines : List CpuLine) → names_from types all rows lines ≡ None → AllLinesAgain lines
  lines_again rows [] e = tt
  lines_again rows (line ∷ lines) e =
      let types_none = option_map_or {U = Option Refusal} (λ of. fault_if (not (has of types)) line.1.line cause.UnknownType) (type_in line.1.said) None in
      let names_none = option_map_or {U = Option Refusal} (λ name. fault_if (not (is_there (row_of name all))) line.1.line cause.UnknownName) (name_in line.1.said) None in
      let gift = option_map_or {U = Option Refusal} (λ to. fault_if (to == line.0) line.1.line cause.GiveToSelf) (gives_to line.1.said) None in
      let bound = bound_fault rows line.1.line line.0 (binds line.1.said) in
      let one = first_none (name_fault types all rows line) (names_from types all (with_row rows line) lines) e in
      let rest = then_none types_none (else_fault bound (else_fault names_none gift)) one in (
        by_said line.1.line line.1.said (first_none types_none (else_fault bound (else_fault names_none gift)) one) (first_none names_none gift (then_none bound (else_fault names_none gift) rest)),
        lines_again (with_row rows line) lines (then_none (name_fault types all rows line) (names_from types all (with_row rows line) lines) e),
      )

  split_again : (cpu : ℕ) (steps : List StepLine) (more : List CpuLine) → AllLinesAgain (of_cpu cpu steps ++ more) → AllAgain steps × AllLinesAgain more
  split_again cpu [] more again = (tt, again)
  split_again cpu (step ∷ steps) more again = let rest = split_again cpu steps more again.1 in ((again.0, rest.0), rest.1)

  sections_again : (cpu : ℕ) (sections : List Section) → AllLinesAgain (lines_from cpu sections) → SectionsAgain sections
  sections_again cpu [] again = tt
  sections_again cpu (section ∷ sections) again =
      let parts = split_again cpu section.steps (lines_from (cpu + 1) sections) again in
      (parts.0, sections_again (cpu + 1) sections parts.1)

-- ---- equal rounds

abbrev pub AllRounds : ℕ → List Section → Type 0
AllRounds breaks [] = Unit {0}
AllRounds breaks (section ∷ sections) = (section.breaks ≡ breaks) × AllRounds breaks sections

all_rounds : (breaks : ℕ) (sections : List Section) → rounds_from breaks sections ≡ None → AllRounds breaks sections
all_rounds breaks [] e = tt
all_rounds breaks (section ∷ sections) e =
    let one = fault_if (not (section.breaks == breaks)) section.line cause.RoundsDiffer in (
      equal section.breaks breaks (right_one (section.breaks == breaks) section.line cause.RoundsDiffer (first_none one (rounds_from breaks sections) e)),
      all_rounds breaks sections (then_none one (rounds_from breaks sections) e),
    )

last_rounds : (breaks : ℕ) (before : List Section) (section : Section) → AllRounds breaks (before ++ section ∷ []) → section.breaks ≡ breaks
last_rounds breaks [] section all = all.0
last_rounds breaks (first ∷ before) section all = last_rounds breaks before section all.1

-- each section has as many rounds as the last
pub same_rounds : (before : List Section) (section : Section) → rounds_of (before ++ section ∷ []) ≡ None → AllRounds section.breaks (before ++ section ∷ [])
same_rounds [] section e = (refl, tt)
same_rounds (first ∷ before) section e =
    let all : AllRounds first.breaks (first ∷ before ++ section ∷ []) = (refl, all_rounds first.breaks (before ++ section ∷ []) e) in
    subst (λ n. AllRounds n (first ∷ before ++ section ∷ [])) (sym (last_rounds first.breaks (first ∷ before) section all)) all

-- ---- the lines of a bundle

module _ (d : Draft) where
  abbrev types : List (List ℕ)
  types = type_names d

  abbrev rows : List Row
  rows = rows_of (step_lines d)

  abbrev name_row : Row → NameRow
  name_row row = record { name = row.name; of = place_of row.of types }

  abbrev name_of : NameRow → List ℕ
  name_of row = row.name

  names_are : (rows : List Row) → map name_of (map name_row rows) ≡ row_names rows
  names_are [] = refl
  names_are (row ∷ rows) = ap (λ (more : List (List ℕ)). row.name ∷ more) (names_are rows)

  steps_are : (round : ℕ) (steps : List StepLine) → AllAgain types rows steps → section_lines (bundle_of d) round (map (step_of types (row_names rows)) steps) ≡ steps_said d.section.breaks round steps
  steps_are round [] again = ap (λ n. replicate n Break) (same d.section.breaks round)
    where
      same : (n m : ℕ) → n + 1 - 1 - m ≡ n - m
      same n m = omega arith
  steps_are round (step ∷ steps) again =
      ap (λ (said : NamedStep). replicate (step.round - round) Break ++ Does said ∷ section_lines (bundle_of d) step.round (map (step_of types (row_names rows)) steps))
      (ap (λ (names : List (List ℕ)). named_step_of names types (act_of types (row_names rows) step.said)) (names_are rows) ∙ again.0)
      ∙ ap (λ (more : List Line). replicate (step.round - round) Break ++ Does step.said ∷ more) (steps_are step.round steps again.1)

  abbrev trace_of : Section → List TraceStep
  trace_of section = map (step_of types (row_names rows)) section.steps

  sections_are : (cpu : ℕ) (sections : List Section) → SectionsAgain types rows sections → AllRounds d.section.breaks sections →
      flat_map (cpu_lines (bundle_of d)) (enumerate_from cpu (map trace_of sections)) ≡ sections_said cpu sections
  sections_are cpu [] again rounds = refl
  sections_are cpu (section ∷ sections) again rounds =
      ap (λ (lines : List Line). Opens cpu ∷ (lines ++ flat_map (cpu_lines (bundle_of d)) (enumerate_from (cpu + 1) (map trace_of sections))))
      (steps_are 0 section.steps again.0 ∙ ap (λ n. steps_said n 0 section.steps) (sym rounds.0))
      ∙ ap (λ (more : List Line). Opens cpu ∷ (section_said section ++ more)) (sections_are (cpu + 1) sections again.1 rounds.1)

  lines_are : later_fault d ≡ None → bundle_lines (bundle_of d) ≡ draft_said place.Ended d
  lines_are e =
      let later = then_none (types_fault d) (else_fault (names_fault d) (rounds_fault d)) e in
      let names = first_none (names_fault d) (rounds_fault d) later in
      let rounds = first_none (rounds_of (sections_of d)) (order_fault d d.order) (then_none (names_fault d) (rounds_fault d) later) in
      let again = sections_again types rows 0 (sections_of d) (lines_again types rows [] (step_lines d) names) in
      ap (λ (lines : List Line). header_said d.header ++ map Declares d.types ++ lines ++ order_lines d.order ++ Ends ∷ [])
      (sections_are 0 (sections_of d) again (same_rounds d.before d.section rounds))

-- a bundle has one text
pub one_text : OneText
one_text bytes b spells =
    let said = said_is empty_draft 1 spells.lines spells.said (refl, refl, refl) spells.leads in
    spells.text
    ∙ ap (λ lines. text_of_lines (map line_text lines))
    (sym said ∙ ap (λ place. draft_said place spells.said) spells.ended ∙ sym (lines_are spells.said spells.faultless) ∙ ap bundle_lines (sym spells.bundle))
