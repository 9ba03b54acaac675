-- The bundle that is built has the steps of the definition's.
use Rattle.std.proofs.Common.{◌≡◌, ℕ, ◌+◌, ◌-◌, ◌≤◌, List, [], ◌∷◌, length, map, suc, None, Some, refl, ap, sym, ◌∙◌, arith, subst}
use Rattle.std.specs.Prelude.{slice_index_or, slice_index}
use Rattle.std.specs.List.{All}
use Rattle.std.proofs.lemmas.List.{length-map}
use Rattle.kz_model.specs.declared.bundle.Act.{Act}
use Rattle.kz_model.specs.declared.bundle.Act.TheVariants as act
use Rattle.kz_model.specs.declared.bundle.Bundle.{Bundle}
use Rattle.kz_model.specs.declared.bundle.NameRow.{NameRow}
use Rattle.kz_model.specs.declared.bundle.TraceStep.{TraceStep}
use Rattle.kz_model.specs.Grammar.Form.{Section}
use Rattle.kz_model.specs.Grammar.Spelling.{named_step_of, text_at}
use Rattle.kz_model.specs.Grammar.Stages.{act_of, step_of, row_names, rows_of, type_names, lines_from, place_of, bundle_of, Row}
use Rattle.kz_model.specs.Store.Traces.{AreNumbered, renumbered, renumbered_step}
use Rattle.kz_bundle.specs.declared.stages.numbers.Numbers.{Numbers}
use Rattle.kz_bundle.specs.declared.form.parts.Part.{Part}
use Rattle.kz_bundle.specs.declared.form.parts.Parts.{Parts}
use Rattle.kz_model.specs.Grammar.Tokens.{texts}
use Rattle.kz_bundle.specs.Parts.{line_meant, section_meant, sections_meant, draft_of, AreParts, IsPart}
use Rattle.kz_bundle.specs.Rows.{ArePlacesOf, name_row}
use Rattle.kz_bundle.specs.Numbers.{rows_in, AreNumbers}
use Rattle.kz_bundle.proofs.AllRounds.{sections_back, last_breaks}

-- the tables of a text, and their texts' places in the bundle
record ArePlaced (names words : List (List ℕ)) (rows types : List (List ℕ)) (of_names of_words : List ℕ) : Type 0 where
  placed_names : ArePlacesOf rows names of_names
  placed_words : ArePlacesOf types words of_words

same_act : (names words rows types : List (List ℕ)) (of_names of_words : List ℕ) → ArePlaced names words rows types of_names of_words → (a : Act) → AreNumbered (length names) (length words) a →
    renumbered of_names of_words a ≡ act_of types rows (named_step_of names words a)
same_act names words rows types of_names of_words h (act.Alloc name of) lt =
    ap (λ n. act.Alloc n (slice_index of_words of)) (h.placed_names.1 name lt.0) ∙ ap (λ n. act.Alloc (place_of (text_at names name) rows) n) (h.placed_words.1 of lt.1)
same_act names words rows types of_names of_words h (act.AllocZero name of) lt =
    ap (λ n. act.AllocZero n (slice_index of_words of)) (h.placed_names.1 name lt.0) ∙ ap (λ n. act.AllocZero (place_of (text_at names name) rows) n) (h.placed_words.1 of lt.1)
same_act names words rows types of_names of_words h (act.Free name None) lt = ap (λ n. act.Free n None) (h.placed_names.1 name lt)
same_act names words rows types of_names of_words h (act.Free name (Some of)) lt =
    ap (λ n. act.Free n (Some (slice_index of_words of))) (h.placed_names.1 name lt.0) ∙ ap (λ n. act.Free (place_of (text_at names name) rows) (Some n)) (h.placed_words.1 of lt.1)
same_act names words rows types of_names of_words h (act.Give name to) lt = ap (λ n. act.Give n to) (h.placed_names.1 name lt)
same_act names words rows types of_names of_words h (act.Take name) lt = ap (λ n. act.Take n) (h.placed_names.1 name lt)
same_act names words rows types of_names of_words h (act.Read name off len) lt = ap (λ n. act.Read n off len) (h.placed_names.1 name lt)
same_act names words rows types of_names of_words h (act.Write name off bytes) lt = ap (λ n. act.Write n off bytes) (h.placed_names.1 name lt)
same_act names words rows types of_names of_words h (act.Flush of) lt = ap (λ n. act.Flush n) (h.placed_words.1 of lt)
same_act names words rows types of_names of_words h (act.Trim of) lt = ap (λ n. act.Trim n) (h.placed_words.1 of lt)

same_step : (names words rows types : List (List ℕ)) (of_names of_words : List ℕ) → ArePlaced names words rows types of_names of_words → (s : TraceStep) → AreNumbered (length names) (length words) s.act →
    renumbered_step of_names of_words s ≡ step_of types rows (line_meant names words s)
same_step names words rows types of_names of_words h s lt =
    ap (λ a. record { line = s.line; round = s.round; act = a }) (same_act names words rows types of_names of_words h s.act lt)

same_steps : (names words rows types : List (List ℕ)) (of_names of_words : List ℕ) → ArePlaced names words rows types of_names of_words → (steps : List TraceStep) →
    All (λ s. AreNumbered (length names) (length words) s.act) steps → map (renumbered_step of_names of_words) steps ≡ map (step_of types rows) (map (line_meant names words) steps)
same_steps names words rows types of_names of_words h [] all = refl
same_steps names words rows types of_names of_words h (s ∷ steps) all =
    ap (λ x. x ∷ map (renumbered_step of_names of_words) steps) (same_step names words rows types of_names of_words h s (all 0 s (omega arith)))
    ∙ ap (λ (xs : List TraceStep). step_of types rows (line_meant names words s) ∷ xs)
    (same_steps names words rows types of_names of_words h steps (λ k d lt. all (suc k) d (omega (arith, lt))))

same_traces : (names words rows types : List (List ℕ)) (of_names of_words : List ℕ) → ArePlaced names words rows types of_names of_words → (parts : List Part) → All (IsPart (length names) (length words)) parts →
    map (λ (part : Part). map (renumbered_step of_names of_words) part.steps) parts ≡ map (λ (section : Section). map (step_of types rows) section.steps) (map (section_meant names words) parts)
same_traces names words rows types of_names of_words h [] all = refl
same_traces names words rows types of_names of_words h (part ∷ parts) all =
    ap (λ x. x ∷ map (λ (part : Part). map (renumbered_step of_names of_words) part.steps) parts)
    (same_steps names words rows types of_names of_words h part.steps (all 0 part (omega arith)).within)
    ∙ ap (λ (xs : List (List TraceStep)). map (step_of types rows) (map (line_meant names words) part.steps) ∷ xs)
    (same_traces names words rows types of_names of_words h parts (λ k d lt. all (suc k) d (omega (arith, lt))))

-- the bundle of a text's parts, with these numbers
abbrev pub built : Parts → List NameRow → ℕ → List (List TraceStep) → Bundle
built parts rows rounds traces = record {
  machine = parts.header.machine;
  seed = parts.header.seed;
  cpus = parts.header.cpus;
  frames = parts.header.frames;
  pages = parts.header.pages;
  budget = parts.header.budget;
  magazine = parts.header.magazine;
  depot = parts.header.depot;
  types = parts.types;
  names = rows;
  rounds = rounds;
  traces = traces;
  order = parts.order;
}

pub is_built : (parts : Parts) (numbers : Numbers) (names types : List ℕ) (traces : List (List TraceStep)) (last : ℕ) (e : Part) → AreParts parts → AreNumbers parts numbers →
    last ≡ length parts.sections.items - 1 → names ≡ numbers.names.items → types ≡ numbers.types.items →
    traces ≡ map (λ (part : Part). map (renumbered_step names types) part.steps) parts.sections.items →
    built parts numbers.rows ((slice_index_or parts.sections.items last e).breaks + 1) traces ≡ bundle_of (draft_of parts)
is_built parts numbers names types traces last e h numbered is is_names is_types told =
    let d = draft_of parts in
    let rows = (rows_in parts).rows in
    let by_sections : List Section → List Row = λ sections. rows_of (lines_from 0 sections) in
    let back = sections_back parts h in
    let some : 1 ≤ length parts.sections.items = omega (arith, h.cpus, h.some_cpus) in
    let breaks : (slice_index_or parts.sections.items last e).breaks + 1 ≡ d.section.breaks + 1 = ap (λ n. n + 1) (sym (last_breaks parts last e is some)) in
    let placed : ArePlaced (texts parts.names.items) (texts parts.words.items) (row_names rows) (type_names d) numbers.names.items numbers.types.items = record { placed_names = numbered.names; placed_words = numbered.types } in
    let traced : traces ≡ map (λ (section : Section). map (step_of (type_names d) (row_names rows)) section.steps) (sections_meant parts) =
    told
    ∙ ap (λ n. map (λ (part : Part). map (renumbered_step n types) part.steps) parts.sections.items) is_names
    ∙ ap (λ n. map (λ (part : Part). map (renumbered_step numbers.names.items n) part.steps) parts.sections.items) is_types
    ∙ same_traces (texts parts.names.items) (texts parts.words.items) (row_names rows) (type_names d) numbers.names.items numbers.types.items placed parts.sections.items
    (subst (λ n. All (IsPart n (length (texts parts.words.items))) parts.sections.items) (sym (length-map parts.names.items (λ word. word.now)))
    (subst (λ n. All (IsPart (length parts.names.items) n) parts.sections.items) (sym (length-map parts.words.items (λ word. word.now))) h.sections)) in
    let with_sections : List Section → Bundle = λ sections.
    built parts (map (name_row (type_names d)) (by_sections sections)) (d.section.breaks + 1) (map (λ (section : Section). map (step_of (type_names d) (row_names (by_sections sections))) section.steps) sections) in
    ap (λ r. built parts r ((slice_index_or parts.sections.items last e).breaks + 1) traces) numbered.rows
    ∙ ap (λ n. built parts (map (name_row (type_names d)) rows) n traces) breaks
    ∙ ap (built parts (map (name_row (type_names d)) rows) (d.section.breaks + 1)) traced
    ∙ ap with_sections (sym back)
