-- The names of a bundle whose draft has sound names.
use Rattle.std.proofs.Common.{◌≡◌, ◌⊎◌, inl, inr, ⊎_elim, ℕ, suc, ◌+◌, ◌<◌, List, [], ◌∷◌, length, map, fold, slice_index_or, Some, refl, ap, sym, ◌∙◌, subst, arith}
use Rattle.std.specs.Prelude.{Contains}
use Rattle.std.specs.Str.{bytes_eq}
use Rattle.std.specs.Cmp.Lexicographic.{bytes_decides}
use Rattle.std.proofs.lemmas.Bool.{cases_Bool, cases_order, cond-true, cond-false}
use Rattle.std.proofs.lemmas.List.{length-map, get_or-map}
use Rattle.std.proofs.lemmas.List.Elements.{Contains-get_or}
use Rattle.kz_model.specs.declared.bundle.Act.TheVariants as act
use Rattle.kz_model.specs.declared.bundle.TraceStep.{TraceStep}
use Rattle.kz_model.specs.declared.bundle.NameRow.{NameRow}
use Rattle.kz_model.specs.Grammar.Steps.{NamedStep, Alloc, AllocZero, Free, FreeAs, Give, Take, Read, Write, Flush, Trim}
use Rattle.kz_model.specs.Grammar.Form.{Draft}
use Rattle.kz_model.specs.Grammar.Stages.{Row, row_of, row_names, binds, with_row, CpuLine, sections_of, step_lines, rows_of, type_names, place_of, act_of, step_of, bundle_of}
use Rattle.kz_grammar.specs.Names.{AreDifferent}
use Rattle.kz_grammar.specs.BundleNames.{trace_at, name_at, IsAllocation, IsAllocatedOn, HasSoundNameRows, SpelledNameRowsAreSound}
use Rattle.kz_grammar.specs.NameLaws.{HasSoundNames}
use Rattle.kz_grammar.proofs.RowFacts.{HasRow, HasFirst, bound_has_row, rows_from}
use Rattle.kz_grammar.proofs.NameRows.{named_has_row}
use Rattle.kz_grammar.proofs.NameScan.{rows_differ}
use Rattle.kz_grammar.proofs.Laws.{spelled_is_sound}
use Rattle.kz_grammar.proofs.Traces.{IsOfLine, line_of_step, step_of_line}

-- ---- places of rows

abbrev pub no_row : Row
no_row = record { name = []; of = []; cpu = 0 }

-- the row of a name stands at the name's place
pub record StandsAt (rows : List Row) (place : ℕ) (row : Row) : Type 0 where
  pub within : place < length rows
  pub is : slice_index_or rows place no_row ≡ row

row_stands : (name : List ℕ) (rows : List Row) (row : Row) → row_of name rows ≡ Some row → StandsAt rows (place_of name (row_names rows)) row
row_stands name [] row e = absurd (cc)
row_stands name (first ∷ rows) row e =
    ⊎_elim
    (λ y. subst (λ n. StandsAt (first ∷ rows) n row) (sym (cond-true (bytes_eq first.name name) 0 (place_of name (row_names rows) + 1) y))
    (record { within = omega arith; is = found_same first row (sym (cond-true (bytes_eq first.name name) (Some first) (row_of name rows) y) ∙ e) }))
    (λ n. let rest = row_stands name rows row (sym (cond-false (bytes_eq first.name name) (Some first) (row_of name rows) n) ∙ e) in
    subst (λ n. StandsAt (first ∷ rows) n row) (sym (cond-false (bytes_eq first.name name) 0 (place_of name (row_names rows) + 1) n))
    (record { within = omega (arith, rest.within); is = ap (λ n. slice_index_or (first ∷ rows) n no_row) (later (place_of name (row_names rows))) ∙ rest.is }))
    (cases_Bool (bytes_eq first.name name))
  where
    found_same : (a b : Row) → Some a ≡ Some b → a ≡ b
    found_same a b e = cc

    later : (n : ℕ) → n + 1 ≡ suc n
    later n = omega arith

-- all rows are of different names
pub all_differ : (rows : List Row) (lines : List CpuLine) → AreDifferent (row_names rows) → AreDifferent (row_names (fold with_row rows lines))
all_differ rows [] differ = differ
all_differ rows (line ∷ lines) differ = all_differ (with_row rows line) lines (rows_differ rows line.0 (binds line.1.said) differ)

-- two places with one text are one
one_place : (names : List (List ℕ)) (a b : ℕ) → AreDifferent names → a < length names → b < length names → slice_index_or names a [] ≡ slice_index_or names b [] → a ≡ b
one_place names a b differ la lb same = ⊎_elim (λ e. e) (λ other. ⊎_elim (λ lt. absurd (differ a b [] lt lb same)) (λ gt. absurd (differ b a [] gt la (sym same))) other) (cases_order a b)

abbrev text_of : List Row → ℕ → List ℕ
text_of rows place = (slice_index_or rows place no_row).name

text_is : (rows : List Row) (place : ℕ) → place < length rows → slice_index_or (row_names rows) place [] ≡ text_of rows place
text_is rows place lt = get_or-map (λ (row : Row). row.name) rows place no_row [] lt

-- a row stands at its own name's place
own_place : (rows : List Row) (place : ℕ) → AreDifferent (row_names rows) → place < length rows →
    (row_of (text_of rows place) rows ≡ Some (slice_index_or rows place no_row)) × (place_of (text_of rows place) (row_names rows) ≡ place)
own_place rows place differ lt =
    let name = text_of rows place in
    let long : length (row_names rows) ≡ length rows = length-map rows (λ row. row.name) in
    let row = named_has_row name rows (subst (Contains (row_names rows)) (text_is rows place lt) (Contains-get_or (row_names rows) place [] (omega (arith, lt, long)))) in
    let stands = row_stands name rows row.0 row.1 in
    let same : place_of name (row_names rows) ≡ place =
    one_place (row_names rows) (place_of name (row_names rows)) place differ (omega (arith, stands.within, long)) (omega (arith, lt, long))
    (text_is rows (place_of name (row_names rows)) stands.within ∙ ap (λ (r : Row). r.name) stands.is ∙ row_named name rows row.0 row.1 ∙ sym (text_is rows place lt)) in
    (row.1 ∙ ap (λ (r : Row). Some r) (sym stands.is ∙ ap (λ n. slice_index_or rows n no_row) same), same)
  where
    row_named : (name : List ℕ) (rows : List Row) (row : Row) → row_of name rows ≡ Some row → row.name ≡ name
    row_named name [] row e = absurd (cc)
    row_named name (first ∷ rows) row e =
        ⊎_elim
        (λ y. sym (ap (λ (r : Row). r.name) (found_same first row (sym (cond-true (bytes_eq first.name name) (Some first) (row_of name rows) y) ∙ e))) ∙ (bytes_decides first.name name).0 y)
        (λ n. row_named name rows row (sym (cond-false (bytes_eq first.name name) (Some first) (row_of name rows) n) ∙ e))
        (cases_Bool (bytes_eq first.name name))
      where
        found_same : (a b : Row) → Some a ≡ Some b → a ≡ b
        found_same a b e = cc

-- ---- a step that allocates, and its line

-- an `a` or `z` line of texts that have these numbers
pub record IsOfTexts (types names : List (List ℕ)) (said : NamedStep) (name of : ℕ) : Type 0 where
  pub text : List ℕ
  pub type : List ℕ
  pub says : (said ≡ Alloc text type) ⊎ (said ≡ AllocZero text type)
  pub named : name ≡ place_of text names
  pub typed : of ≡ place_of type types

texts_of : (types names : List (List ℕ)) (said : NamedStep) (name of : ℕ) → (act_of types names said ≡ act.Alloc name of) ⊎ (act_of types names said ≡ act.AllocZero name of) → IsOfTexts types names said name of
texts_of types names (Alloc text type) name of (inl e) = record { text = text; type = type; says = inl refl; named = cc; typed = cc }
texts_of types names (AllocZero text type) name of (inr e) = record { text = text; type = type; says = inr refl; named = cc; typed = cc }
texts_of types names (Alloc text type) name of (inr e) = absurd (cc)
texts_of types names (AllocZero text type) name of (inl e) = absurd (cc)
texts_of types names (Free text) name of (inl e) = absurd (cc)
texts_of types names (Free text) name of (inr e) = absurd (cc)
texts_of types names (FreeAs text type) name of (inl e) = absurd (cc)
texts_of types names (FreeAs text type) name of (inr e) = absurd (cc)
texts_of types names (Give text to) name of (inl e) = absurd (cc)
texts_of types names (Give text to) name of (inr e) = absurd (cc)
texts_of types names (Take text) name of (inl e) = absurd (cc)
texts_of types names (Take text) name of (inr e) = absurd (cc)
texts_of types names (Read text off len) name of (inl e) = absurd (cc)
texts_of types names (Read text off len) name of (inr e) = absurd (cc)
texts_of types names (Write text off bytes) name of (inl e) = absurd (cc)
texts_of types names (Write text off bytes) name of (inr e) = absurd (cc)
texts_of types names (Flush type) name of (inl e) = absurd (cc)
texts_of types names (Flush type) name of (inr e) = absurd (cc)
texts_of types names (Trim type) name of (inl e) = absurd (cc)
texts_of types names (Trim type) name of (inr e) = absurd (cc)

-- ---- the bundle of a draft

module _ (d : Draft) (sound : HasSoundNames d) where
  abbrev types : List (List ℕ)
  types = type_names d

  abbrev rows : List Row
  rows = rows_of (step_lines d)

  abbrev names : List (List ℕ)
  names = row_names rows

  differ : AreDifferent names
  differ = all_differ [] (step_lines d) (λ i j x lt le. absurd (omega (arith, le)))

  -- what stands in the row of an `a` or `z` line
  record HasItsRow (cpu name of : ℕ) : Type 0 where
    row : Row
    stands : StandsAt rows name row
    one_cpu : cpu ≡ row.cpu
    one_type : of ≡ place_of row.of types

  has_its_row : (cpu name of : ℕ) (step : TraceStep) → Contains (trace_at (bundle_of d) cpu) step → IsAllocation step name of → HasItsRow cpu name of
  has_its_row cpu name of step there is = by_row (bound_has_row [] (step_lines d) (0 + cpu, line.line) texts.text texts.type line.there texts.says)
    where
      line : IsOfLine types names 0 cpu (sections_of d) step
      line = line_of_step types names 0 cpu (sections_of d) step there

      texts : IsOfTexts types names line.line.said name of
      texts = texts_of types names line.line.said name of (subst (λ (s : TraceStep). (s.act ≡ act.Alloc name of) ⊎ (s.act ≡ act.AllocZero name of)) (sym line.is) is)

      none_first : (n : ℕ) → 0 + n ≡ n
      none_first n = omega arith

      nothing : (row : Row) → row_of texts.text [] ≡ Some row → ⊥
      nothing row e = cc

      by_first : (row : Row) → row_of texts.text rows ≡ Some row → HasFirst (step_lines d) texts.text row → HasItsRow cpu name of
      by_first row found first =
          let same = sound.one_type_and_cpu (0 + cpu, line.line) first.line texts.text texts.type row.of line.there first.there texts.says first.allocates in
          record {
            row = row;
            stands = subst (λ n. StandsAt rows n row) (sym texts.named) (row_stands texts.text rows row found);
            one_cpu = sym (none_first cpu) ∙ same.1 ∙ first.on;
            one_type = texts.typed ∙ ap (λ (type : List ℕ). place_of type types) same.0;
          }

      by_row : HasRow texts.text rows → HasItsRow cpu name of
      by_row found = ⊎_elim (λ none. absurd (nothing found.0 none)) (λ first. by_first found.0 found.1 first) (rows_from texts.text [] found.0 (step_lines d) found.1)

  abbrev row_by_type : Row → NameRow
  row_by_type row = record { name = row.name; of = place_of row.of types }

  name_is : (name : ℕ) → name < length rows → (name_at (bundle_of d) name).of ≡ place_of (slice_index_or rows name no_row).of types
  name_is name lt = ap (λ (r : NameRow). r.of) (get_or-map row_by_type rows name no_row (record { name = []; of = 0 }) lt)

  names_are : (rows : List Row) → map (λ (row : NameRow). row.name) (map row_by_type rows) ≡ row_names rows
  names_are [] = refl
  names_are (row ∷ rows) = ap (λ (more : List (List ℕ)). row.name ∷ more) (names_are rows)

  -- the first line of a row, as a step
  allocated : (name : ℕ) → name < length rows → (cpu : ℕ) × IsAllocatedOn (bundle_of d) name cpu
  allocated name lt = ⊎_elim (λ none. absurd (nothing row none)) (λ first. by_first first) (rows_from row.name [] row (step_lines d) own.0)
    where
      row : Row
      row = slice_index_or rows name no_row

      own : (row_of row.name rows ≡ Some row) × (place_of row.name names ≡ name)
      own = own_place rows name differ lt

      nothing : (row : Row) → row_of row.name [] ≡ Some row → ⊥
      nothing row e = cc

      numbered : (said : NamedStep) → (said ≡ Alloc row.name row.of) ⊎ (said ≡ AllocZero row.name row.of) →
          (act_of types names said ≡ act.Alloc name (name_at (bundle_of d) name).of) ⊎ (act_of types names said ≡ act.AllocZero name (name_at (bundle_of d) name).of)
      numbered said (inl e) = inl (ap (act_of types names) e ∙ ap (λ n. act.Alloc n (place_of row.of types)) own.1 ∙ ap (act.Alloc name) (sym (name_is name lt)))
      numbered said (inr e) = inr (ap (act_of types names) e ∙ ap (λ n. act.AllocZero n (place_of row.of types)) own.1 ∙ ap (act.AllocZero name) (sym (name_is name lt)))

      by_first : HasFirst (step_lines d) row.name row → (cpu : ℕ) × IsAllocatedOn (bundle_of d) name cpu
      by_first first =
          let step = step_of_line types names 0 (sections_of d) first.line first.there in
          (step.cpu, record { step = step_of types names first.line.1; there = step.there; allocates = numbered first.line.1.said first.allocates })

  names_long : length (map row_by_type rows) ≡ length rows
  names_long = length-map rows row_by_type

  pub bundle_names : HasSoundNameRows (bundle_of d)
  bundle_names = record {
    different = subst AreDifferent (sym (names_are rows)) differ;
    within = λ cpu name of step there is. let its = has_its_row cpu name of step there is in omega (arith, its.stands.within, names_long);
    one_type = λ cpu name of step there is.
        let its = has_its_row cpu name of step there is in
        its.one_type ∙ ap (λ (row : Row). place_of row.of types) (sym its.stands.is) ∙ sym (name_is name its.stands.within);
    one_cpu = λ cpu other name of type one two there is too also.
        let its = has_its_row cpu name of one there is in
        let others = has_its_row other name type two too also in
        its.one_cpu ∙ ap (λ (row : Row). row.cpu) (sym its.stands.is ∙ others.stands.is) ∙ sym others.one_cpu;
    allocated = λ name lt. allocated name (omega (arith, lt, names_long));
  }

pub spelled_name_rows : SpelledNameRowsAreSound
spelled_name_rows bytes b spells = subst HasSoundNameRows (sym spells.bundle) (bundle_names spells.said (spelled_is_sound bytes b spells).1)
