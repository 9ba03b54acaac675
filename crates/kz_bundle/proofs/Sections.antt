-- What was kept of sections, with tables that grew and one step more.
use Rattle.std.proofs.Common.{◌≡◌, ◌≢◌, ℕ, ◌+◌, ◌<◌, ◌≤◌, ◌==◌, List, [], ◌∷◌, ◌++◌, length, map, Option, Some, None, Ok, Err, refl, ap, subst, sym, ◌∙◌, arith, length-append}
use Rattle.std.specs.Prelude.{IsTrue}
use Rattle.std.specs.List.{All}
use Rattle.std.specs.Option.{option_map_or}
use Rattle.std.proofs.lemmas.Bool.{cond-false, cond_both, ne_eqb}
use Rattle.std.proofs.lemmas.List.{append-nil, get_or_append_left, map-append}
use Rattle.std.proofs.lemmas.List.Elements.{All-push, All-weaker}
use Rattle.kz_model.proofs.Beside.{maps_alike}
use Rattle.kz_model.specs.declared.bundle.Act.{Act}
use Rattle.kz_model.specs.declared.bundle.Act.TheVariants as act
use Rattle.kz_model.specs.declared.bundle.TraceStep.{TraceStep}
use Rattle.kz_model.specs.declared.bundle.OrderLine.{OrderLine}
use Rattle.kz_model.specs.declared.grammar.Place.{Place}
use Rattle.kz_model.specs.declared.grammar.Place.TheVariants.{Steps}
use Rattle.kz_model.specs.declared.grammar.Cause.TheVariants as cause
use Rattle.kz_model.specs.declared.grammar.Counted.TheVariants as counted
use Rattle.kz_model.specs.Grammar.Tokens.{is_name}
use Rattle.kz_model.specs.Grammar.Steps as step
use Rattle.kz_model.specs.Grammar.Form.{StepLine, Section, Draft, with_step}
use Rattle.kz_model.specs.Grammar.Spelling.{named_step_of, text_at}
use Rattle.kz_model.specs.Grammar.Stages.{has, name_in, type_in}
use Rattle.kz_bundle.specs.declared.form.parts.Part.{Part}
use Rattle.kz_bundle.specs.declared.form.steps.NamedStep.{NamedStep}
use Rattle.kz_bundle.specs.declared.form.steps.NamedStep.TheVariants.{Alloc, AllocZero, Free, FreeAs, Give, Take, Read, Write, Flush, Trim}
use Rattle.kz_bundle.specs.NamedSteps.{named_step_as, IsNamed}
use Rattle.kz_bundle.specs.declared.form.reader.Reader.{Reader}
use Rattle.kz_bundle.specs.declared.form.tables.Tables.{Tables}
use Rattle.kz_model.specs.Store.Traces.{AreNumbered}
use Rattle.kz_bundle.specs.Parts.{line_meant, section_meant, IsPart}
use Rattle.kz_bundle.specs.Table.{with_text, names_after, words_after}
use Rattle.kz_bundle.specs.Reading.{so_far, HoldsAtPlace, IsReading}

-- ---- tables that grow

-- at most one text more, behind the others
pub record Grows (old new : List (List ℕ)) : Type 0 where
  pub more : List (List ℕ)
  pub one : length more ≤ 1
  pub all : new ≡ old ++ more

stays : (table : List (List ℕ)) → Grows table table
stays table = record { more = []; one = omega arith; all = sym (append-nil table) }

with_one : (text : List ℕ) (table : List (List ℕ)) → Grows table (with_text text table)
with_one text table = cond_both (has text table) table (table ++ text ∷ []) (λ new. Grows table new) (λ e. stays table) (λ e. record { more = text ∷ []; one = omega arith; all = refl })

by_option : (o : Option (List ℕ)) (table : List (List ℕ)) → Grows table (option_map_or (λ text. with_text text table) o table)
by_option None table = stays table
by_option (Some text) table = with_one text table

pub names_grow : (said : step.NamedStep) (names : List (List ℕ)) → Grows names (names_after said names)
names_grow said names = by_option (name_in said) names

pub words_grow : (said : step.NamedStep) (words : List (List ℕ)) → Grows words (words_after said words)
words_grow said words = by_option (type_in said) words

pub grown : {old new : List (List ℕ)} → Grows old new → (length old ≤ length new) × (length new ≤ length old + 1)
grown {old} {new} g = let e : length new ≡ length old + length g.more = ap length g.all ∙ length-append old g.more in (omega (arith, e), omega (arith, e, g.one))

-- names stay names
pub named_after : (said : NamedStep) (names : List (List ℕ)) → IsNamed said → All (λ name. IsTrue (is_name name)) names → All (λ name. IsTrue (is_name name)) (names_after (named_step_as said) names)
named_after said names named all = by said named
  where
    more : (name : List ℕ) → IsTrue (is_name name) → All (λ name. IsTrue (is_name name)) (with_text name names)
    more name is = cond_both (has name names) names (names ++ name ∷ []) (λ new. All (λ name. IsTrue (is_name name)) new) (λ e. all) (λ e. All-push (λ name. IsTrue (is_name name)) names name all is)

    by : (said : NamedStep) → IsNamed said → All (λ name. IsTrue (is_name name)) (names_after (named_step_as said) names)
    by (Alloc name of) is = more name.now is
    by (AllocZero name of) is = more name.now is
    by (Free name) is = more name.now is
    by (FreeAs name of) is = more name.now is
    by (Give name to) is = more name.now is
    by (Take name) is = more name.now is
    by (Read name off len) is = more name.now is
    by (Write name off bytes) is = more name.now is
    by (Flush of) is = all
    by (Trim of) is = all

-- ---- what was kept means the same

module _ (names more words others : List (List ℕ)) where
  name_stays : (at : ℕ) → at < length names → text_at (names ++ more) at ≡ text_at names at
  name_stays at lt = get_or_append_left names more [] at lt

  word_stays : (at : ℕ) → at < length words → text_at (words ++ others) at ≡ text_at words at
  word_stays at lt = get_or_append_left words others [] at lt

  two_stay : (f : List ℕ → List ℕ → step.NamedStep) (name of : ℕ) → name < length names → of < length words →
      f (text_at (names ++ more) name) (text_at (words ++ others) of) ≡ f (text_at names name) (text_at words of)
  two_stay f name of a b = ap (λ n. f n (text_at (words ++ others) of)) (name_stays name a) ∙ ap (λ t. f (text_at names name) t) (word_stays of b)

  said_stays : (a : Act) → AreNumbered (length names) (length words) a → named_step_of (names ++ more) (words ++ others) a ≡ named_step_of names words a
  said_stays (act.Alloc name of) h = two_stay (λ n t. step.Alloc n t) name of h.0 h.1
  said_stays (act.AllocZero name of) h = two_stay (λ n t. step.AllocZero n t) name of h.0 h.1
  said_stays (act.Free name None) h = ap (λ n. step.Free n) (name_stays name h)
  said_stays (act.Free name (Some of)) h = two_stay (λ n t. step.FreeAs n t) name of h.0 h.1
  said_stays (act.Give name to) h = ap (λ n. step.Give n to) (name_stays name h)
  said_stays (act.Take name) h = ap (λ n. step.Take n) (name_stays name h)
  said_stays (act.Read name off len) h = ap (λ n. step.Read n off len) (name_stays name h)
  said_stays (act.Write name off bytes) h = ap (λ n. step.Write n off bytes) (name_stays name h)
  said_stays (act.Flush of) h = ap (λ t. step.Flush t) (word_stays of h)
  said_stays (act.Trim of) h = ap (λ t. step.Trim t) (word_stays of h)

  line_stays : (s : TraceStep) → AreNumbered (length names) (length words) s.act → line_meant (names ++ more) (words ++ others) s ≡ line_meant names words s
  line_stays s h = ap (λ said. record { line = s.line; round = s.round; said = said }) (said_stays s.act h)

  steps_stay : (steps : List TraceStep) → All (λ s. AreNumbered (length names) (length words) s.act) steps → map (line_meant (names ++ more) (words ++ others)) steps ≡ map (line_meant names words) steps
  steps_stay steps all = maps_alike (line_meant (names ++ more) (words ++ others)) (line_meant names words) (λ s. AreNumbered (length names) (length words) s.act) line_stays steps all

  part_stays : (part : Part) → IsPart (length names) (length words) part → section_meant (names ++ more) (words ++ others) part ≡ section_meant names words part
  part_stays part h = ap (λ steps. record { line = part.line; breaks = part.breaks; steps = steps }) (steps_stay part.steps h.within)

  parts_stay : (parts : List Part) → All (IsPart (length names) (length words)) parts → map (section_meant (names ++ more) (words ++ others)) parts ≡ map (section_meant names words) parts
  parts_stay parts all = maps_alike (section_meant (names ++ more) (words ++ others)) (section_meant names words) (IsPart (length names) (length words)) part_stays parts all

-- the same, with tables that grew
pub parts_kept : (names names' words words' : List (List ℕ)) (parts : List Part) → Grows names names' → Grows words words' → All (IsPart (length names) (length words)) parts →
    map (section_meant names' words') parts ≡ map (section_meant names words) parts
parts_kept names names' words words' parts g h all =
    let P : List (List ℕ) → Type 0 = λ table. map (section_meant table words') parts ≡ map (section_meant names words) parts in
    let Q : List (List ℕ) → Type 0 = λ table. map (section_meant (names ++ g.more) table) parts ≡ map (section_meant names words) parts in
    subst P (sym g.all) (subst Q (sym h.all) (parts_stay names g.more words h.more parts all))

pub steps_kept : (names names' words words' : List (List ℕ)) (steps : List TraceStep) → Grows names names' → Grows words words' → All (λ s. AreNumbered (length names) (length words) s.act) steps →
    map (line_meant names' words') steps ≡ map (line_meant names words) steps
steps_kept names names' words words' steps g h all =
    let P : List (List ℕ) → Type 0 = λ table. map (line_meant table words') steps ≡ map (line_meant names words) steps in
    let Q : List (List ℕ) → Type 0 = λ table. map (line_meant (names ++ g.more) table) steps ≡ map (line_meant names words) steps in
    subst P (sym g.all) (subst Q (sym h.all) (steps_stay names g.more words h.more steps all))

-- ---- bounds

within_more : (few many low high : ℕ) (a : Act) → few ≤ many → low ≤ high → AreNumbered few low a → AreNumbered many high a
within_more few many low high (act.Alloc name of) f l h = omega arith
within_more few many low high (act.AllocZero name of) f l h = omega arith
within_more few many low high (act.Free name None) f l h = omega arith
within_more few many low high (act.Free name (Some of)) f l h = omega arith
within_more few many low high (act.Give name to) f l h = omega arith
within_more few many low high (act.Take name) f l h = omega arith
within_more few many low high (act.Read name off len) f l h = omega arith
within_more few many low high (act.Write name off bytes) f l h = omega arith
within_more few many low high (act.Flush of) f l h = omega arith
within_more few many low high (act.Trim of) f l h = omega arith

part_more : (few many low high : ℕ) → few ≤ many → low ≤ high → (part : Part) → IsPart few low part → IsPart many high part
part_more few many low high f l part h = record {
  within = All-weaker (λ (s : TraceStep). AreNumbered few low s.act) (λ (s : TraceStep). AreNumbered many high s.act) (λ s w. within_more few many low high s.act f l w) part.steps h.within;
  rounds = h.rounds;
  breaks = h.breaks;
}

-- ---- one step more

-- the reader after a step
abbrev pub after_step : Reader → Tables → List TraceStep → Reader
after_step r tables steps = record r { tables = tables; section = record r.section { steps = steps }; steps = r.steps + 1 }

module _ (r : Reader) (tables : Tables) (steps : List TraceStep) (line : ℕ) (said : step.NamedStep) (a : Act) (sound : IsReading r) (few : r.steps ≢ 1000000)
    (names : tables.names ≡ names_after said r.tables.names) (words : tables.words ≡ words_after said r.tables.words)
    (pushed : steps ≡ r.section.steps ++ record { line = line; round = r.section.breaks; act = a } ∷ []) where
  names_grew : Grows r.tables.names tables.names
  names_grew = let P : List (List ℕ) → Type 0 = λ table. Grows r.tables.names table in subst P (sym names) (names_grow said r.tables.names)

  words_grew : Grows r.tables.words tables.words
  words_grew = let P : List (List ℕ) → Type 0 = λ table. Grows r.tables.words table in subst P (sym words) (words_grow said r.tables.words)

  draft_with : List Section → Section → Draft
  draft_with before section = record {
    place = r.place;
    header = r.header;
    types = r.types;
    before = before;
    section = section;
    steps = r.steps + 1;
    order = r.order;
    order_at = r.order_at;
  }

  pub step_taken : named_step_of tables.names tables.words a ≡ said → with_step (so_far r) line said ≡ Ok (so_far (after_step r tables steps))
  unfolding draft_with
  step_taken meant =
      let old = r.tables in
      let entry : StepLine = record { line = line; round = r.section.breaks; said = said } in
      let new : TraceStep = record { line = line; round = r.section.breaks; act = a } in
      let section : List StepLine → Section = λ steps. record { line = r.section.line; breaks = r.section.breaks; steps = steps } in
      let before = map (section_meant old.names old.words) r.before.items in
      let before_is = parts_kept old.names tables.names old.words tables.words r.before.items names_grew words_grew sound.before in
      let steps_are : map (line_meant old.names old.words) r.section.steps ++ entry ∷ [] ≡ map (line_meant tables.names tables.words) steps =
      sym (ap (map (line_meant tables.names tables.words)) pushed ∙ map-append (line_meant tables.names tables.words) r.section.steps (new ∷ [])
      ∙ ap (λ kept. kept ++ line_meant tables.names tables.words new ∷ []) (steps_kept old.names tables.names old.words tables.words r.section.steps names_grew words_grew sound.section.within)
      ∙ ap (λ (said : step.NamedStep). map (line_meant old.names old.words) r.section.steps ++ record { line = line; round = r.section.breaks; said = said } ∷ []) meant) in
      cond-false (r.steps == 1000000) (Err (cause.TooMany counted.Steps)) _ (ne_eqb r.steps 1000000 few)
      ∙ ap (λ b. Ok (draft_with b (section (map (line_meant old.names old.words) r.section.steps ++ entry ∷ [])))) (sym before_is)
      ∙ ap (λ s. Ok (draft_with (map (section_meant tables.names tables.words) r.before.items) (section s))) steps_are

  pub step_sound : HoldsAtPlace r.place r.header.cpus (length r.before.items) (r.steps + 1) r.order → AreNumbered (length tables.names) (length tables.words) a → All (λ name. IsTrue (is_name name)) tables.names →
      IsReading (after_step r tables steps)
  step_sound at within named =
      let n = grown names_grew in
      let w = grown words_grew in
      let many : length steps ≡ length r.section.steps + 1 = ap length pushed ∙ length-append r.section.steps (record { line = line; round = r.section.breaks; act = a } ∷ []) in
      let old_names = length r.tables.names in
      let old_words = length r.tables.words in
      let names = length tables.names in
      let words = length tables.words in
      let P : TraceStep → Type 0 = λ s. AreNumbered names words s.act in
      let R : TraceStep → Type 0 = λ s. s.round ≤ r.section.breaks in
      let new : TraceStep = record { line = line; round = r.section.breaks; act = a } in
      let kept : All P r.section.steps = All-weaker (λ (s : TraceStep). AreNumbered old_names old_words s.act) P (λ s h. within_more old_names names old_words words s.act n.0 w.0 h) r.section.steps sound.section.within in
      record {
        at = at;
        few_cpus = sound.few_cpus;
        types = sound.types;
        names = named;
        few_names = omega (arith, n.1, sound.few_names);
        few_words = omega (arith, w.1, sound.few_words);
        before = All-weaker (IsPart old_names old_words) (IsPart names words) (part_more old_names names old_words words n.0 w.0) r.before.items sound.before;
        section = record {
          within = subst (All P) (sym pushed) (All-push P r.section.steps new kept within);
          rounds = subst (All R) (sym pushed) (All-push R r.section.steps new sound.section.rounds (omega arith));
          breaks = sound.section.breaks;
        };
        counted = omega (arith, many, sound.counted);
        few_steps = omega (arith, few, sound.few_steps);
        turns = sound.turns;
        order_at = sound.order_at;
      }

pub at_more : (p : Place) (cpus sections steps more : ℕ) (order : Option (List OrderLine)) → p ≡ Steps → HoldsAtPlace p cpus sections steps order → HoldsAtPlace p cpus sections more order
at_more p cpus sections steps more order e =
    let P : Place → Type 0 = λ p. HoldsAtPlace p cpus sections steps order → HoldsAtPlace p cpus sections more order in subst P (sym e) (λ h. h)
