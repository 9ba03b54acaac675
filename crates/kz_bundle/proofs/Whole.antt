-- What is kept of a whole text.
use Rattle.std.proofs.Common.{◌≡◌, ℕ, ◌+◌, ◌≤◌, List, [], ◌∷◌, ◌++◌, length, Vec, Global, Bor, subst, sym, ap, ◌∙◌, arith, length-append}
use Rattle.std.specs.Prelude.{sum_by, IsTrue}
use Rattle.std.specs.List.{All}
use Rattle.std.proofs.lemmas.List.{length-map}
use Rattle.std.proofs.lemmas.List.Elements.{All-push}
use Rattle.std.proofs.lemmas.List.Sums.{sum_by-append}
use Rattle.kz_model.specs.declared.grammar.Place.{Place}
use Rattle.kz_model.specs.declared.grammar.Place.TheVariants.{Ended}
use Rattle.kz_model.specs.Grammar.Tokens.{is_name, texts}
use Rattle.kz_bundle.specs.declared.form.parts.Part.{Part}
use Rattle.kz_bundle.specs.declared.form.parts.Parts.{Parts}
use Rattle.kz_bundle.specs.declared.form.reader.Reader.{Reader}
use Rattle.kz_model.specs.Grammar.Form.{turns_of}
use Rattle.kz_bundle.specs.Parts.{IsPart, AreOnce, AreParts}
use Rattle.kz_bundle.specs.Reading.{HoldsAtPlace, IsReading}

-- the parts of a reader at its end, with these tables and sections
abbrev pub parts_of : Reader → Vec (Bor (List ℕ)) Global → Vec (Bor (List ℕ)) Global → Vec Part Global → Parts
parts_of r names words sections = record {
  header = r.header;
  types = r.types;
  names = names;
  words = words;
  sections = sections;
  order = r.order;
  order_at = r.order_at;
}

module _ (r : Reader) (names words : Vec (Bor (List ℕ)) Global) (sections : Vec Part Global) (sound : IsReading r) (place : r.place ≡ Ended)
    (names_are : texts names.items ≡ r.tables.names) (words_are : texts words.items ≡ r.tables.words) (sections_are : sections.items ≡ r.before.items ++ r.section ∷ []) where
  all_cpus : length r.before.items + 1 ≡ r.header.cpus
  all_cpus = let P : Place → Type 0 = λ p. HoldsAtPlace p r.header.cpus (length r.before.items) r.steps r.order in subst P place sound.at

  names_long : length names.items ≡ length r.tables.names
  names_long = sym (length-map names.items (λ (t : Bor (List ℕ)). t.now)) ∙ ap length names_are

  words_long : length words.items ≡ length r.tables.words
  words_long = sym (length-map words.items (λ (t : Bor (List ℕ)). t.now)) ∙ ap length words_are

  many : length sections.items ≡ length r.before.items + 1
  many = ap length sections_are ∙ length-append r.before.items (r.section ∷ [])

  counted : sum_by (λ (part : Part). length part.steps) sections.items ≡ r.steps
  counted =
      let f = λ (part : Part). length part.steps in
      let parted : sum_by f sections.items ≡ sum_by f r.before.items + sum_by f (r.section ∷ []) = ap (sum_by f) sections_are ∙ sum_by-append f r.before.items (r.section ∷ []) in
      omega (arith, parted, sound.counted)

  sound_sections : All (IsPart (length names.items) (length words.items)) sections.items
  sound_sections =
      let P : List Part → Type 0 = λ parts. All (IsPart (length r.tables.names) (length r.tables.words)) parts in
      let N : ℕ → Type 0 = λ n. All (IsPart n (length words.items)) sections.items in
      let W : ℕ → Type 0 = λ n. All (IsPart (length r.tables.names) n) sections.items in
      subst N (sym names_long) (subst W (sym words_long) (subst P (sym sections_are) (All-push (IsPart (length r.tables.names) (length r.tables.words)) r.before.items r.section sound.before sound.section)))

  pub are_parts : length (turns_of r.order) ≤ 33554432 → AreOnce r.tables.names → AreOnce r.tables.words → AreParts (parts_of r names words sections)
  are_parts few_turns names_once words_once =
      let Q : List (List ℕ) → Type 0 = λ table. All (λ name. IsTrue (is_name name)) table in
      record {
        some_cpus = omega (arith, all_cpus);
        few_cpus = sound.few_cpus;
        cpus = many ∙ all_cpus;
        types = sound.types;
        names_once = subst AreOnce (sym names_are) names_once;
        names = subst Q (sym names_are) sound.names;
        words_once = subst AreOnce (sym words_are) words_once;
        sections = sound_sections;
        steps = omega (arith, counted, sound.few_steps);
        few_names = omega (arith, names_long, sound.few_names, sound.few_steps);
        few_words = omega (arith, words_long, sound.few_words, sound.few_steps);
        turns = sound.turns;
        order_at = sound.order_at;
        few_turns = few_turns;
      }
