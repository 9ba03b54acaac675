-- The faults of a CPU's lines, one line after the other.
use Rattle.std.proofs.Common.{◌≡◌, ℕ, ◌+◌, ◌<◌, ◌≤◌, List, [], ◌∷◌, ◌++◌, length, map, take, drop, fold, Option, Some, None, append_assoc, refl, ap, sym, ◌∙◌, arith, subst}
use Rattle.std.specs.Prelude.{slice_index_or}
use Rattle.std.proofs.lemmas.List.{drop_more, drop_all, take_more, map-append, append-nil, length-map, length-take}
use Rattle.kz_model.specs.declared.bundle.TraceStep.{TraceStep}
use Rattle.kz_model.specs.declared.grammar.Refusal.{Refusal}
use Rattle.kz_model.specs.Grammar.Form.{Section}
use Rattle.kz_model.specs.Grammar.Stages.{Row, names_from, name_fault, with_row, of_cpu, lines_from, rows_of, else_fault, CpuLine}
use Rattle.kz_model.specs.Run.Journal.{no_step}
use Rattle.kz_bundle.specs.declared.form.parts.Part.{Part}
use Rattle.kz_bundle.specs.Parts.{line_meant, section_meant}
use Rattle.kz_bundle.specs.Rows.{Rows}
use Rattle.kz_bundle.specs.Naming.{AreDeclared}

abbrev lines_of : List (List ℕ) → List (List ℕ) → ℕ → List TraceStep → List CpuLine
lines_of names words cpu steps = of_cpu cpu (map (line_meant names words) steps)

-- the lines from this one on, with the rows so far, have the fault of all
pub record IsScanned (declared : List (Option ℕ)) (all : List Row) (old now : Rows) (cpu : ℕ) (steps : List TraceStep) (at : ℕ) : Type 0 where
  pub names : now.names ≡ old.names
  pub words : now.words ≡ old.words
  pub so_far : (types : List (List ℕ)) (tail : List CpuLine) → AreDeclared types old.words declared →
      names_from types all old.rows (lines_of old.names old.words cpu steps ++ tail) ≡ names_from types all now.rows (lines_of old.names old.words cpu (drop at steps) ++ tail)

-- the line at this place is the first of those
abbrev step_at : List TraceStep → ℕ → TraceStep
step_at steps at = slice_index_or steps at no_step

ahead : (declared : List (Option ℕ)) (all : List Row) (old now : Rows) (cpu : ℕ) (steps : List TraceStep) (at : ℕ) (types : List (List ℕ)) (tail : List CpuLine) →
    IsScanned declared all old now cpu steps at → at < length steps → AreDeclared types old.words declared →
    names_from types all old.rows (lines_of old.names old.words cpu steps ++ tail)
    ≡ else_fault (name_fault types all now.rows (cpu, line_meant old.names old.words (step_at steps at)))
    (names_from types all (with_row now.rows (cpu, line_meant old.names old.words (step_at steps at))) (lines_of old.names old.words cpu (drop (at + 1) steps) ++ tail))
ahead declared all old now cpu steps at types tail h lt are =
    h.so_far types tail are
    ∙ ap (λ (left : List TraceStep). names_from types all now.rows (lines_of old.names old.words cpu left ++ tail)) (drop_more steps at no_step lt)

-- this line has no fault, and its row is there
pub one_more_scanned : (declared : List (Option ℕ)) (all : List Row) (old now next : Rows) (cpu : ℕ) (steps : List TraceStep) (at : ℕ) (step : TraceStep) →
    IsScanned declared all old now cpu steps at → at < length steps → step ≡ step_at steps at →
    ((types : List (List ℕ)) → AreDeclared types now.words declared → name_fault types all now.rows (cpu, line_meant now.names now.words step) ≡ None) →
    next ≡ record now { rows = with_row now.rows (cpu, line_meant now.names now.words step) } → IsScanned declared all old next cpu steps (at + 1)
one_more_scanned declared all old now next cpu steps at step h lt is fine bound = record {
  names = ap (λ (rows : Rows). rows.names) bound ∙ h.names;
  words = ap (λ (rows : Rows). rows.words) bound ∙ h.words;
  so_far = λ types tail are.
      let line : List (List ℕ) → List (List ℕ) → TraceStep → CpuLine = λ names words step. (cpu, line_meant names words step) in
      let same : line old.names old.words (step_at steps at) ≡ line now.names now.words step =
      ap (λ step. line old.names old.words step) (sym is) ∙ ap (λ names. line names old.words step) (sym h.names) ∙ ap (λ words. line now.names words step) (sym h.words) in
      let P : List (List ℕ) → Type 0 = λ words. AreDeclared types words declared in
      let F : CpuLine → Option Refusal = λ line. else_fault (name_fault types all now.rows line) (names_from types all (with_row now.rows line) (lines_of old.names old.words cpu (drop (at + 1) steps) ++ tail)) in
      ahead declared all old now cpu steps at types tail h lt are
      ∙ ap F same
      ∙ ap (λ (fault : Option Refusal). else_fault fault (names_from types all (with_row now.rows (line now.names now.words step)) (lines_of old.names old.words cpu (drop (at + 1) steps) ++ tail))) (fine types (subst P (sym h.words) are))
      ∙ ap (λ (rows : Rows). names_from types all rows.rows (lines_of old.names old.words cpu (drop (at + 1) steps) ++ tail)) (sym bound);
}

-- this line has a fault
pub scanned_fault : (declared : List (Option ℕ)) (all : List Row) (old now : Rows) (cpu : ℕ) (steps : List TraceStep) (at : ℕ) (step : TraceStep) (refusal : Refusal) →
    IsScanned declared all old now cpu steps at → at < length steps → step ≡ step_at steps at →
    ((types : List (List ℕ)) → AreDeclared types now.words declared → name_fault types all now.rows (cpu, line_meant now.names now.words step) ≡ Some refusal) →
    (types : List (List ℕ)) (tail : List CpuLine) → AreDeclared types old.words declared → names_from types all old.rows (lines_of old.names old.words cpu steps ++ tail) ≡ Some refusal
scanned_fault declared all old now cpu steps at step refusal h lt is wrong types tail are =
    let line : List (List ℕ) → List (List ℕ) → TraceStep → CpuLine = λ names words step. (cpu, line_meant names words step) in
    let same : line old.names old.words (step_at steps at) ≡ line now.names now.words step =
    ap (λ step. line old.names old.words step) (sym is) ∙ ap (λ names. line names old.words step) (sym h.names) ∙ ap (λ words. line now.names words step) (sym h.words) in
    let P : List (List ℕ) → Type 0 = λ words. AreDeclared types words declared in
    let F : CpuLine → Option Refusal = λ line. else_fault (name_fault types all now.rows line) (names_from types all (with_row now.rows line) (lines_of old.names old.words cpu (drop (at + 1) steps) ++ tail)) in
    ahead declared all old now cpu steps at types tail h lt are
    ∙ ap F same
    ∙ ap (λ (fault : Option Refusal). else_fault fault (names_from types all (with_row now.rows (line now.names now.words step)) (lines_of old.names old.words cpu (drop (at + 1) steps) ++ tail))) (wrong types (subst P (sym h.words) are))

-- ---- sections

pub lines_from-push : (cpu : ℕ) (sections : List Section) (section : Section) → lines_from cpu (sections ++ section ∷ []) ≡ lines_from cpu sections ++ of_cpu (cpu + length sections) section.steps
lines_from-push cpu [] section = append-nil (of_cpu cpu section.steps) ∙ ap (λ n. of_cpu n section.steps) (omega arith)
lines_from-push cpu (first ∷ sections) section =
    ap (λ (rest : List CpuLine). of_cpu cpu first.steps ++ rest) (lines_from-push (cpu + 1) sections section ∙ ap (λ n. lines_from (cpu + 1) sections ++ of_cpu n section.steps) (omega arith))
    ∙ sym (append_assoc (of_cpu cpu first.steps) (lines_from (cpu + 1) sections) (of_cpu (cpu + length (first ∷ sections)) section.steps))

pub more_lines : (names words : List (List ℕ)) (sections : List Part) (section : Part) (cpu : ℕ) → cpu < length sections → section ≡ slice_index_or sections cpu section →
    lines_from 0 (map (section_meant names words) (take (cpu + 1) sections)) ≡ lines_from 0 (map (section_meant names words) (take cpu sections)) ++ lines_of names words cpu section.steps
more_lines names words sections section cpu lt is =
    let taken : take (cpu + 1) sections ≡ take cpu sections ++ section ∷ [] = take_more sections cpu section lt ∙ ap (λ (last : Part). take cpu sections ++ last ∷ []) (sym is) in
    ap (λ (sections : List Part). lines_from 0 (map (section_meant names words) sections)) taken
    ∙ ap (lines_from 0) (map-append (section_meant names words) (take cpu sections) (section ∷ []))
    ∙ lines_from-push 0 (map (section_meant names words) (take cpu sections)) (section_meant names words section)
    ∙ ap (λ n. lines_from 0 (map (section_meant names words) (take cpu sections)) ++ lines_of names words n section.steps)
    (omega (arith, length-map (take cpu sections) (section_meant names words), length-take cpu sections))

fold-append : {A B : Type 0} (f : B → A → B) (b : B) (xs ys : List A) → fold f b (xs ++ ys) ≡ fold f (fold f b xs) ys
fold-append f b [] ys = refl
fold-append f b (x ∷ xs) ys = fold-append f (f b x) xs ys

pub more_rows : (names words : List (List ℕ)) (sections : List Part) (section : Part) (cpu : ℕ) → cpu < length sections → section ≡ slice_index_or sections cpu section →
    rows_of (lines_from 0 (map (section_meant names words) (take (cpu + 1) sections)))
    ≡ fold with_row (rows_of (lines_from 0 (map (section_meant names words) (take cpu sections)))) (lines_of names words cpu section.steps)
more_rows names words sections section cpu lt is =
    ap rows_of (more_lines names words sections section cpu lt is)
    ∙ fold-append with_row [] (lines_from 0 (map (section_meant names words) (take cpu sections))) (lines_of names words cpu section.steps)

-- the sections from this one on, with the rows so far, have the fault of all
pub record AreScanned (declared : List (Option ℕ)) (all : List Row) (old now : Rows) (sections : List Part) (cpu : ℕ) : Type 0 where
  pub names : now.names ≡ old.names
  pub words : now.words ≡ old.words
  pub so_far : (types : List (List ℕ)) → AreDeclared types old.words declared →
      names_from types all old.rows (lines_from 0 (map (section_meant old.names old.words) sections))
      ≡ names_from types all now.rows (lines_from cpu (map (section_meant old.names old.words) (drop cpu sections)))

-- one section more: its fault, or that of those behind it
pub section_scanned : (declared : List (Option ℕ)) (all : List Row) (old now next : Rows) (sections : List Part) (section : Part) (cpu : ℕ) (fault : Option Refusal) →
    AreScanned declared all old now sections cpu → cpu < length sections → section ≡ slice_index_or sections cpu section →
    ((types : List (List ℕ)) (tail : List CpuLine) → AreDeclared types now.words declared →
    names_from types all now.rows (lines_of now.names now.words cpu section.steps ++ tail) ≡ else_fault fault (names_from types all next.rows tail)) →
    (types : List (List ℕ)) → AreDeclared types old.words declared →
    names_from types all old.rows (lines_from 0 (map (section_meant old.names old.words) sections))
    ≡ else_fault fault (names_from types all next.rows (lines_from (cpu + 1) (map (section_meant old.names old.words) (drop (cpu + 1) sections))))
section_scanned declared all old now next sections section cpu fault h lt is given types are =
    let tail = lines_from (cpu + 1) (map (section_meant old.names old.words) (drop (cpu + 1) sections)) in
    let P : List (List ℕ) → Type 0 = λ words. AreDeclared types words declared in
    let F : List (List ℕ) → List (List ℕ) → Part → Option Refusal = λ names words section. names_from types all now.rows (lines_of names words cpu section.steps ++ tail) in
    h.so_far types are
    ∙ ap (λ (left : List Part). names_from types all now.rows (lines_from cpu (map (section_meant old.names old.words) left))) (drop_more sections cpu section lt)
    ∙ ap (F old.names old.words) (sym is)
    ∙ ap (λ names. F names old.words section) (sym h.names) ∙ ap (λ words. F now.names words section) (sym h.words)
    ∙ given types tail (subst P (sym h.words) are)

pub one_more_section : (declared : List (Option ℕ)) (all : List Row) (old now next : Rows) (sections : List Part) (section : Part) (cpu : ℕ) →
    AreScanned declared all old now sections cpu → cpu < length sections → section ≡ slice_index_or sections cpu section → next.names ≡ now.names → next.words ≡ now.words →
    ((types : List (List ℕ)) (tail : List CpuLine) → AreDeclared types now.words declared →
    names_from types all now.rows (lines_of now.names now.words cpu section.steps ++ tail) ≡ names_from types all next.rows tail) →
    AreScanned declared all old next sections (cpu + 1)
one_more_section declared all old now next sections section cpu h lt is names words given = record {
  names = names ∙ h.names;
  words = words ∙ h.words;
  so_far = section_scanned declared all old now next sections section cpu None h lt is given;
}

pub none_left : (declared : List (Option ℕ)) (all : List Row) (old now : Rows) (sections : List Part) (cpu : ℕ) → AreScanned declared all old now sections cpu → length sections ≤ cpu →
    (types : List (List ℕ)) → AreDeclared types old.words declared → names_from types all old.rows (lines_from 0 (map (section_meant old.names old.words) sections)) ≡ None
none_left declared all old now sections cpu h le types are =
    h.so_far types are ∙ ap (λ (left : List Part). names_from types all now.rows (lines_from cpu (map (section_meant old.names old.words) left))) (drop_all cpu sections le)
