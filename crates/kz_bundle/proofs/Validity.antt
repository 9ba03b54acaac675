-- The bundle of a draft without a fault keeps to its numbers.
use Rattle.std.proofs.Common.{◌≡◌, ℕ, ◌+◌, ◌<◌, ◌≤◌, true, false, nat_lt, List, [], ◌∷◌, length, map, sum_by, All, slice_index_or, None, Result, Ok, Err, IsTrue, refl, ap, sym, ◌∙◌, arith, subst, length-append}
use Rattle.std.proofs.lemmas.List.{length-map}
use Rattle.std.proofs.lemmas.List.Elements.{All-nil, All-cons, All-push, All-map, All-weaker}
use Rattle.std.proofs.lemmas.List.Sums.{sum_by-cons, sum_by_push}
use Rattle.kz_model.specs.declared.bundle.TypeDecl.{TypeDecl}
use Rattle.kz_model.specs.declared.bundle.TraceStep.{TraceStep}
use Rattle.kz_model.specs.declared.bundle.NameRow.{NameRow}
use Rattle.kz_model.specs.declared.record.Layout.{Layout}
use Rattle.kz_model.specs.declared.layout.LayoutFault.{LayoutFault}
use Rattle.kz_model.specs.declared.grammar.Cause.TheVariants as cause
use Rattle.kz_model.specs.declared.grammar.Place.TheVariants as place
use Rattle.kz_model.specs.Grammar.Tokens.{is_name}
use Rattle.kz_model.specs.Grammar.Steps.{NamedStep, Alloc, AllocZero, Free, FreeAs, Give, Take, Read, Write, Flush, Trim}
use Rattle.kz_model.specs.Grammar.Form.{StepLine, Section, Draft, empty_draft}
use Rattle.kz_model.specs.Types.Layouts.{layouts_of}
use Rattle.kz_model.specs.Types.Plan.{classes_in_use}
use Rattle.kz_model.specs.Grammar.Stages.{else_fault, fault_if, Row, sections_of, step_lines, rows_of, type_names, cause_of, budget_fault, fault_of_layouts, types_fault, names_fault, rounds_of, order_fault, rounds_fault, later_fault, place_of, act_of, step_of, row_names, bundle_of}
use Rattle.kz_model.specs.declared.bundle.Bundle.{Bundle}
use Rattle.kz_model.specs.Grammar.Spelling.{IsDeclared, IsSpelled, Spells, bundle_text}
use Rattle.kz_model.specs.Store.Traces.{AreNumbered}
use Rattle.kz_model.specs.Grammar.Valid.{HasShortRead, IsStepWithin, ok_or_none, IsValid, ReadingIsValid}
use Rattle.kz_bundle.proofs.Declared.{declared-AreInRange}
use Rattle.kz_bundle.proofs.OneText.{one_text, some_fault, first_none, then_none, AllRounds, same_rounds}
use Rattle.kz_bundle.proofs.Table.{place_within}
use Rattle.kz_bundle.proofs.ValidLines.{KeepsTo, IsStep, IsSection, count_of, IsTold, IsDraft, draft_first, draft_last, reached_last}
use Rattle.kz_bundle.proofs.ValidOrder.{traces_in_rounds, all_counts, order_in_turn}
use Rattle.kz_bundle.proofs.ValidNames.{IsKnown, IsRow, AreKnown, known_lines, lines_keep, sections_known}
use Rattle.kz_bundle.proofs.Walking.{IsReached, reached_first, spelling_is_reading}

-- ---- the layouts

pub record AreLaidOut (types : List TypeDecl) (budget : ℕ) : Type 0 where
  pub laid_out : layouts_of types ≡ Ok (ok_or_none (layouts_of types))
  pub enough : length (classes_in_use (ok_or_none (layouts_of types))) ≤ budget

laid_out : (types : List TypeDecl) (budget : ℕ) → fault_of_layouts budget (layouts_of types) ≡ None → AreLaidOut types budget
laid_out types budget e = let given = by_layouts (layouts_of types) e in record { laid_out = given.0; enough = given.1 }
  where
    enough : (few many : ℕ) → budget_fault few many ≡ None → many ≤ few
    enough few many e =
        elim (nat_lt few many) as (λ b. nat_lt few many ≡ b → fault_if b 6 (cause.BudgetShort many) ≡ None → many ≤ few) [
          | true ↦ λ short e. some_fault (record { line = 6; cause = cause.BudgetShort many }) e
          | false ↦ λ short e. grind arith
        ] refl e

    by_layouts : (o : Result (List Layout) LayoutFault) → fault_of_layouts budget o ≡ None → (o ≡ Ok (ok_or_none o)) × (length (classes_in_use (ok_or_none o)) ≤ budget)
    by_layouts (Err fault) e = some_fault (record { line = 9 + fault.at; cause = cause_of fault.cause }) e
    by_layouts (Ok layouts) e = (refl, enough budget (length (classes_in_use layouts)) e)

-- ---- the steps

act_within : (types names : List (List ℕ)) (said : NamedStep) → IsKnown types names said → AreNumbered (length names) (length types) (act_of types names said)
act_within types names (Alloc name of) known = (place_within name names known.1, place_within of types known.0)
act_within types names (AllocZero name of) known = (place_within name names known.1, place_within of types known.0)
act_within types names (Free name) known = place_within name names known.1
act_within types names (FreeAs name of) known = (place_within name names known.1, place_within of types known.0)
act_within types names (Give name to) known = place_within name names known.1
act_within types names (Take name) known = place_within name names known.1
act_within types names (Read name off len) known = place_within name names known.1
act_within types names (Write name off bytes) known = place_within name names known.1
act_within types names (Flush of) known = place_within of types known.0
act_within types names (Trim of) known = place_within of types known.0

read_short : (types names : List (List ℕ)) (said : NamedStep) → KeepsTo said → HasShortRead (act_of types names said)
read_short types names (Read name off len) keeps = keeps
read_short types names (Alloc name of) keeps = tt
read_short types names (AllocZero name of) keeps = tt
read_short types names (Free name) keeps = tt
read_short types names (FreeAs name of) keeps = tt
read_short types names (Give name to) keeps = tt
read_short types names (Take name) keeps = tt
read_short types names (Write name off bytes) keeps = tt
read_short types names (Flush of) keeps = tt
read_short types names (Trim of) keeps = tt

step_within : (types names : List (List ℕ)) (breaks last : ℕ) (line : StepLine) → breaks ≡ last → IsStep breaks line → IsKnown types names line.said → IsStepWithin (length names) (length types) (last + 1) (step_of types names line)
step_within types names breaks last line same is known = record { act = act_within types names line.said known; read = read_short types names line.said is.0; round = omega (arith, is.1, same) }

all_rounds : (breaks : ℕ) (sections : List Section) → AllRounds breaks sections → All (λ section. section.breaks ≡ breaks) sections
all_rounds breaks [] all = All-nil (λ (section : Section). section.breaks ≡ breaks)
all_rounds breaks (section ∷ sections) all = All-cons (λ (section : Section). section.breaks ≡ breaks) section sections all.0 (all_rounds breaks sections all.1)

-- the steps of each section, by number
traces_within : (types names : List (List ℕ)) (last : ℕ) (sections : List Section) → All IsSection sections → All (λ section. All (λ line. IsKnown types names line.said) section.steps) sections →
    All (λ section. section.breaks ≡ last) sections → All (All (IsStepWithin (length names) (length types) (last + 1))) (map (λ section. map (step_of types names) section.steps) sections)
traces_within types names last sections are known rounds =
    let Within : TraceStep → Type 0 = IsStepWithin (length names) (length types) (last + 1) in
    All-map (All Within) (λ section. map (step_of types names) section.steps) sections
    (λ at d lt.
    let section = slice_index_or sections at d in
    All-map Within (step_of types names) section.steps (λ k s within. step_within types names section.breaks last (slice_index_or section.steps k s) (rounds at d lt) ((are at d lt).steps k s within) (known at d lt k s within)))

-- there are as many as were said
steps_counted : (types names : List (List ℕ)) (sections : List Section) → sum_by length (map (λ section. map (step_of types names) section.steps) sections) ≡ sum_by count_of sections
steps_counted types names [] = refl
steps_counted types names (section ∷ sections) =
    sum_by-cons length (map (step_of types names) section.steps) (map (λ section. map (step_of types names) section.steps) sections)
    ∙ ap (λ n. n + sum_by length (map (λ (section : Section). map (step_of types names) section.steps) sections)) (length-map section.steps (step_of types names))
    ∙ ap (λ n. length section.steps + n) (steps_counted types names sections)
    ∙ sym (sum_by-cons count_of section sections)

-- ---- the bundle

module _ (d : Draft) (is : IsDraft d) (reached : IsReached d) (ended : d.place ≡ place.Ended) (fine : later_fault d ≡ None) where
  abbrev types : List (List ℕ)
  types = type_names d

  abbrev rows : List Row
  rows = rows_of (step_lines d)

  after_types : else_fault (names_fault d) (rounds_fault d) ≡ None
  after_types = then_none (types_fault d) (else_fault (names_fault d) (rounds_fault d)) fine

  after_names : rounds_fault d ≡ None
  after_names = then_none (names_fault d) (rounds_fault d) after_types

  layouts : AreLaidOut d.types d.header.budget
  layouts = laid_out d.types d.header.budget (first_none (types_fault d) (else_fault (names_fault d) (rounds_fault d)) fine)

  sections : All IsSection (sections_of d)
  sections = All-push IsSection d.before d.section is.before is.section

  known : AreKnown types (row_names rows) [] (step_lines d)
  known = known_lines types rows [] (step_lines d) (lines_keep 0 (sections_of d) sections) (record { few = omega arith; each = All-nil (IsRow types) }) (first_none (names_fault d) (rounds_fault d) after_types)

  same : All (λ section. section.breaks ≡ d.section.breaks) (sections_of d)
  same = all_rounds d.section.breaks (sections_of d) (same_rounds d.before d.section (first_none (rounds_of (sections_of d)) (order_fault d d.order) after_names))

  told : (1 ≤ d.header.magazine) × (length d.before + 1 ≡ d.header.cpus)
  told = subst (λ place. IsTold place d.header.magazine d.header.cpus (length d.before)) ended is.told

  abbrev name_row : Row → NameRow
  name_row row = record { name = row.name; of = place_of row.of types }

  named : (row : Row) → IsRow types row → IsTrue (is_name (name_row row).name) × ((name_row row).of < length d.types)
  named row h = (h.0, by_length (place_of row.of types) (length types) (length d.types) (length-map d.types (λ decl. decl.name)) (place_within row.of types h.1))
    where
      by_length : (n m k : ℕ) → m ≡ k → n < m → n < k
      by_length n m k e h = omega arith

  traces : All (All (IsStepWithin (length (bundle_of d).names) (length d.types) (d.section.breaks + 1))) (bundle_of d).traces
  traces =
      let Within : ℕ → ℕ → Type 0 = λ names types. All (All (IsStepWithin names types (d.section.breaks + 1))) (bundle_of d).traces in
      subst (λ names. Within names (length d.types)) (length-map rows (λ row. row.name) ∙ sym (length-map rows name_row))
      (subst (λ many. Within (length (row_names rows)) many) (length-map d.types (λ decl. decl.name))
      (traces_within types (row_names rows) d.section.breaks (sections_of d) sections (sections_known types (row_names rows) 0 (sections_of d) known.known) same))

  cpus : length (bundle_of d).traces ≡ d.header.cpus
  cpus = length-map (sections_of d) (λ section. map (step_of types (row_names rows)) section.steps) ∙ length-append d.before (d.section ∷ []) ∙ told.1

  pub draft_valid : IsValid (bundle_of d)
  draft_valid = record {
    some_cpus = omega (arith, told.1);
    few_cpus = reached.few;
    frames = is.header.0;
    pages = is.header.1;
    budget = is.header.2;
    magazine = (told.0, is.header.3);
    depot = is.header.4;
    types = declared-AreInRange d.types is.few_types is.types;
    type_names = All-weaker IsDeclared (λ decl. IsTrue (is_name decl.name)) (λ decl h. h.0) d.types is.types;
    laid_out = layouts.laid_out;
    enough = layouts.enough;
    few_names = omega (arith, known.rows.few, length-map rows name_row);
    names = All-map (λ (row : NameRow). IsTrue (is_name row.name) × (row.of < length d.types)) name_row rows (All-weaker (IsRow types) (λ row. IsTrue (is_name row.name) × (place_of row.of types < length d.types)) named rows known.rows.each);
    rounds = (omega arith, omega (arith, is.section.breaks));
    traces = cpus;
    steps = traces;
    few_steps = omega (arith, steps_counted types (row_names rows) (sections_of d), sum_by_push count_of d.before d.section, is.counted, is.few_steps);
    in_rounds = traces_in_rounds types (row_names rows) (sections_of d) sections;
    order = order_in_turn d (bundle_of d) refl (λ round. all_counts types (row_names rows) round (sections_of d)) cpus refl (then_none (rounds_of (sections_of d)) (order_fault d d.order) after_names);
  }

pub reading_is_valid : ReadingIsValid
reading_is_valid bytes b e =
    let spells = (spelling_is_reading bytes b).0 e in
    let d = spells.said in
    subst IsValid (sym spells.bundle)
    (draft_valid d (draft_last empty_draft 1 spells.lines d draft_first spells.leads) (reached_last empty_draft 1 spells.lines d reached_first spells.leads) spells.ended spells.faultless)

-- ---- what a text spells

-- a bundle that bytes spell is one that its own text spells
pub own_text_spells : (bytes : List ℕ) (b : Bundle) → Spells bytes b → IsSpelled b
own_text_spells bytes b spells = subst (λ text. Spells text b) (one_text bytes b spells) spells

-- and such a bundle is valid
pub spelled_is_valid : (b : Bundle) → IsSpelled b → IsValid b
spelled_is_valid b spelled = reading_is_valid (bundle_text b) b ((spelling_is_reading (bundle_text b) b).1 spelled)
