-- Labels of fields, by their forms.
use Rattle.std.proofs.Common.{◌≡◌, ℕ, ◌&&◌, Bool, true, false, if◌then◌else◌, List, [], ◌∷◌, ◌++◌, codes, Option, Some, None, IsTrue, refl, ap, sym, ◌∙◌, append_assoc, append-nil}
use Rattle.std.specs.List.{list_any, before_first, after_first}
use Rattle.std.specs.Option.{option_map_or}
use Rattle.kz_model.specs.declared.bundle.Kind.{Kind}
use Rattle.kz_model.specs.declared.grammar.Mark.{Mark}
use Rattle.kz_model.specs.declared.grammar.Mark.TheVariants.{Fine}
use Rattle.kz_model.specs.Grammar.Tokens.{is_name, is_run, number_in}
use Rattle.kz_model.specs.Grammar.TypeLine.{Phrase, FieldAndMore, ends_with, without_last, label, field_of, labelled}
use Rattle.kz_bundle.proofs.Choices.{wrong, left, right, and_true, equal}
use Rattle.kz_bundle.proofs.NameTexts.{name_no_bracket, name_no_semicolon}
use Rattle.kz_bundle.proofs.LabelTexts.{bracket, before_is, after_is, any_there, cut_at, last_is, without_last_is, last_byte, no_last}
use Rattle.kz_bundle.proofs.Grammar.{worse_fine}
use Rattle.kz_grammar.specs.Forms.{Hole, Token, token_text, words_of, label_token, IsCount}
use Rattle.kz_grammar.proofs.Rows.{mark_of}
use Rattle.kz_grammar.proofs.Phrases.{Parses}

-- ---- the text of a label

abbrev label_text : List ℕ → Option Hole → List ℕ
label_text name count = token_text (label_token name count [])

abbrev counted : List ℕ → List ℕ → List ℕ → List ℕ
counted name run after = name ++ (91 ∷ (run ++ (93 ∷ after)))

counted_text : (name run after : List ℕ) → name ++ codes "[" ++ run ++ codes "]" ++ after ≡ counted name run after
counted_text name run after =
    append_assoc (name ++ codes "[" ++ run) (codes "]") after ∙ append_assoc (name ++ codes "[") run (93 ∷ after) ∙ append_assoc name (codes "[") (run ++ (93 ∷ after))

-- what stands after a label stands after its text
text_after : (name : List ℕ) (count : Option Hole) (after : List ℕ) → token_text (label_token name count after) ≡ label_text name count ++ after
text_after name None after = ap (λ (n : List ℕ). n ++ after) (sym (append-nil name))
text_after name (Some hole) after = ap (λ (t : List ℕ). t ++ after) (sym (append-nil (name ++ codes "[" ++ hole.run ++ codes "]")))

abbrev mark_of_count : Option Hole → Mark
mark_of_count None = Fine
mark_of_count (Some hole) = (number_in hole.low hole.high hole.run).1

count_marked : (name : List ℕ) (count : Option Hole) (after : List ℕ) → mark_of_count count ≡ mark_of (label_token name count after ∷ [])
count_marked name None after = refl
count_marked name (Some hole) after = sym (worse_fine (number_in hole.low hole.high hole.run).1)

-- ---- a label

-- a text is that of this label
record IsLabel (text name : List ℕ) (count : Option Hole) : Type 0 where
  named : IsTrue (is_name name)
  counts : IsCount count
  text_is : text ≡ label_text name count

-- what is found is the one label that the text is of
record LabelFound (text : List ℕ) (found : List ℕ × (ℕ × Mark)) : Type 0 where
  name : List ℕ
  count : Option Hole
  is : IsLabel text name count
  marked : found.1.1 ≡ mark_of_count count
  alone : (other : List ℕ) (others : Option Hole) → IsLabel text other others → (other ≡ name) × (others ≡ count)

abbrev LabelJudged : List ℕ → Option (List ℕ × (ℕ × Mark)) → Type 0
LabelJudged text None = (name : List ℕ) (count : Option Hole) → IsLabel text name count → ⊥
LabelJudged text (Some found) = LabelFound text found

abbrev count_hole : List ℕ → Hole
count_hole run = record { low = 2; high = 8192; run = run }

same_count : (hole : Hole) (run : List ℕ) → IsCount (Some hole) → hole.run ≡ run → Some hole ≡ Some (count_hole run)
same_count hole run is e =
    ap (λ (low : ℕ). Some (record { low = low; high = hole.high; run = hole.run })) is.0
    ∙ ap (λ (high : ℕ). Some (record { low = 2; high = high; run = hole.run })) is.1
    ∙ ap (λ (run : List ℕ). Some (count_hole run)) e

-- a counted label's parts
record IsCounted (text name run : List ℕ) : Type 0 where
  some : list_any bracket text ≡ true
  front : before_first bracket text ≡ name
  back : after_first bracket text ≡ run ++ 93 ∷ []
  last : ends_with 93 (after_first bracket text) ≡ true
  inner : without_last (after_first bracket text) ≡ run

is_counted : (text name run : List ℕ) → is_name name ≡ true → text ≡ counted name run [] → IsCounted text name run
is_counted text name run named e =
    let none = name_no_bracket name named in
    let back = ap (after_first bracket) e ∙ after_is bracket name 91 (run ++ 93 ∷ []) none refl in
    record {
      some = ap (list_any bracket) e ∙ any_there bracket name 91 (run ++ 93 ∷ []) refl;
      front = ap (before_first bracket) e ∙ before_is bracket name 91 (run ++ 93 ∷ []) none refl;
      back = back;
      last = ap (ends_with 93) back ∙ last_is run 93 93;
      inner = ap without_last back ∙ without_last_is run 93;
    }

label_counted : (text name : List ℕ) (hole : Hole) → IsLabel text name (Some hole) → IsCounted text name hole.run
label_counted text name hole is = is_counted text name hole.run is.named (is.text_is ∙ counted_text name hole.run [])

label_plain : (text name : List ℕ) → IsLabel text name None → (text ≡ name) × (list_any bracket text ≡ false)
label_plain text name is =
    let same = is.text_is ∙ append-nil name in
    (same, ap (list_any bracket) same ∙ name_no_bracket name is.named)

module _ (text : List ℕ) where
  abbrev front : List ℕ
  front = before_first bracket text

  abbrev back : List ℕ
  back = after_first bracket text

  abbrev inner : List ℕ
  inner = without_last back

  abbrev passes : Bool
  passes = is_name front && ends_with 93 back && is_run inner

  abbrev if_counted : Bool → Option (List ℕ × (ℕ × Mark))
  if_counted b = if b then Some (front, number_in 2 8192 inner) else None

  abbrev if_plain : Bool → Option (List ℕ × (ℕ × Mark))
  if_plain b = if b then Some (text, (1, Fine)) else None

  counted_parts : list_any bracket text ≡ true → passes ≡ true → text ≡ counted front inner []
  counted_parts some pass =
      let cut = cut_at bracket text some in
      let front_is : front ≡ cut.before = ap (before_first bracket) cut.parts ∙ before_is bracket cut.before cut.at cut.after cut.none cut.passes in
      let back_is : back ≡ cut.after = ap (after_first bracket) cut.parts ∙ after_is bracket cut.before cut.at cut.after cut.none cut.passes in
      let byte : cut.at ≡ 91 = equal cut.at 91 cut.passes in
      let last = right (is_name front) (ends_with 93 back) (left (is_name front && ends_with 93 back) (is_run inner) pass) in
      cut.parts
      ∙ ap (λ (b : ℕ). cut.before ++ b ∷ cut.after) byte
      ∙ ap (λ (f : List ℕ). f ++ 91 ∷ cut.after) (sym front_is)
      ∙ ap (λ (r : List ℕ). front ++ 91 ∷ r) (sym back_is ∙ last_byte 93 back last)

  with_bracket : list_any bracket text ≡ true → (b : Bool) → passes ≡ b → LabelJudged text (if_counted b)
  with_bracket some true pass =
      record {
        name = front;
        count = Some (count_hole inner);
        is = record {
          named = left (is_name front) (ends_with 93 back) (left (is_name front && ends_with 93 back) (is_run inner) pass);
          counts = (refl, refl, right (is_name front && ends_with 93 back) (is_run inner) pass);
          text_is = counted_parts some pass ∙ sym (counted_text front inner []);
        };
        marked = refl;
        alone = alone;
      }
    where
      alone : (other : List ℕ) (others : Option Hole) → IsLabel text other others → (other ≡ front) × (others ≡ Some (count_hole inner))
      alone other None is = wrong (sym (label_plain text other is).1 ∙ some)
      alone other (Some hole) is =
          let parts = label_counted text other hole is in
          (sym parts.front, same_count hole inner is.counts (sym parts.inner))
  with_bracket some false pass = none
    where
      none : (name : List ℕ) (count : Option Hole) → IsLabel text name count → ⊥
      none name None is = wrong (sym (label_plain text name is).1 ∙ some)
      none name (Some hole) is =
          let parts = label_counted text name hole is in
          wrong (sym pass ∙ and_true (is_name front && ends_with 93 back) (is_run inner) (and_true (is_name front) (ends_with 93 back) (ap is_name parts.front ∙ is.named) parts.last) (ap is_run parts.inner ∙ is.counts.2))

  without_bracket : list_any bracket text ≡ false → (b : Bool) → is_name text ≡ b → LabelJudged text (if_plain b)
  without_bracket none true named =
      record {
        name = text;
        count = None;
        is = record { named = named; counts = tt; text_is = sym (append-nil text) };
        marked = refl;
        alone = alone;
      }
    where
      alone : (other : List ℕ) (others : Option Hole) → IsLabel text other others → (other ≡ text) × (others ≡ None)
      alone other None is = (sym (label_plain text other is).0, refl)
      alone other (Some hole) is = wrong (sym none ∙ (label_counted text other hole is).some)
  without_bracket none false unnamed = no
    where
      no : (name : List ℕ) (count : Option Hole) → IsLabel text name count → ⊥
      no name None is = wrong (sym unnamed ∙ ap is_name (label_plain text name is).0 ∙ is.named)
      no name (Some hole) is = wrong (sym none ∙ (label_counted text name hole is).some)

  abbrev by_bracket : Bool → Option (List ℕ × (ℕ × Mark))
  by_bracket b = if b then if_counted passes else if_plain (is_name text)

  label_judged : LabelJudged text (label text)
  label_judged = by_test (list_any bracket text) refl
    where
      by_test : (b : Bool) → list_any bracket text ≡ b → LabelJudged text (by_bracket b)
      by_test true some = with_bracket some passes refl
      by_test false none = without_bracket none (is_name text) refl

-- ---- a label, with `;` where a field follows

no_semicolon : (text name : List ℕ) (count : Option Hole) → IsLabel text name count → ends_with 59 text ≡ false
no_semicolon text name None is = let plain = label_plain text name is in ap (ends_with 59) plain.0 ∙ no_last 59 name (name_no_semicolon name is.named)
no_semicolon text name (Some hole) is =
    ap (ends_with 59) (is.text_is ∙ counted_text name hole.run [] ∙ sym (append_assoc name (91 ∷ hole.run) (93 ∷ []))) ∙ last_is (name ++ (91 ∷ hole.run)) 93 59

abbrev pub ending : Bool → List ℕ
ending true = codes ";"
ending false = []

-- the label of a field, and whether another follows
pub record IsLabelled (more : Bool) (tokens : List Token) : Type 0 where
  pub name : List ℕ
  pub count : Option Hole
  pub named : IsTrue (is_name name)
  pub counts : IsCount count
  pub whole : tokens ≡ label_token name count (ending more) ∷ []

abbrev pub has_more : FieldAndMore → Bool
has_more found = found.1

-- the word of such tokens
one_word : (word : List ℕ) (words : List (List ℕ)) (name : List ℕ) (count : Option Hole) (after : List ℕ) (tokens : List Token) (rest : List (List ℕ)) →
    tokens ≡ label_token name count after ∷ [] → word ∷ words ≡ words_of tokens ++ rest → word ≡ label_text name count ++ after
one_word word words name count after tokens rest whole e = head word (token_text (label_token name count after)) words rest (e ∙ ap (λ (t : List Token). words_of t ++ rest) whole) ∙ text_after name count after
  where
    head : (v w : List ℕ) (xs ys : List (List ℕ)) → v ∷ xs ≡ w ∷ ys → v ≡ w
    head v w xs ys e = cc

module _ (kind : Kind) (word : List ℕ) (words : List (List ℕ)) where
  abbrev given : Bool → Option (List ℕ × (ℕ × Mark)) → Option (Phrase FieldAndMore)
  given more found = option_map_or (λ found. field_of kind more found words) found None

  module _ (more : Bool) (text : List ℕ) (word_is : word ≡ text ++ ending more)
      (which : (other : Bool) (name : List ℕ) (count : Option Hole) → IsTrue (is_name name) → IsCount count → word ≡ label_text name count ++ ending other → (other ≡ more) × (text ≡ label_text name count)) where
    found_label : (found : Option (List ℕ × (ℕ × Mark))) → LabelJudged text found → Parses has_more IsLabelled (word ∷ words) (given more found)
    found_label None none = λ other tokens rest is e.
        let same = which other is.name is.count is.named is.counts (one_word word words is.name is.count (ending other) tokens rest is.whole e) in
        none is.name is.count (record { named = is.named; counts = is.counts; text_is = same.1 })
    found_label (Some found) label =
        record {
          tokens = label_token label.name label.count (ending more) ∷ [];
          form = record { name = label.name; count = label.count; named = label.is.named; counts = label.is.counts; whole = refl };
          text = ap (λ (w : List ℕ). w ∷ words) (word_is ∙ ap (λ (t : List ℕ). t ++ ending more) label.is.text_is ∙ sym (text_after label.name label.count (ending more)));
          marked = label.marked ∙ count_marked label.name label.count (ending more);
          alone = λ other tokens rest is e.
              let same = which other is.name is.count is.named is.counts (one_word word words is.name is.count (ending other) tokens rest is.whole e) in
              let one = label.alone is.name is.count (record { named = is.named; counts = is.counts; text_is = same.1 }) in (
                same.0,
                is.whole
                    ∙ ap (λ (other : Bool). label_token is.name is.count (ending other) ∷ []) same.0
                    ∙ ap (λ (name : List ℕ). label_token name is.count (ending more) ∷ []) one.0
                    ∙ ap (λ (count : Option Hole). label_token label.name count (ending more) ∷ []) one.1,
              );
        }

  with_semicolon : ends_with 59 word ≡ true → Parses has_more IsLabelled (word ∷ words) (given true (label (without_last word)))
  with_semicolon e = found_label true (without_last word) (last_byte 59 word e) which (label (without_last word)) (label_judged (without_last word))
    where
      which : (other : Bool) (name : List ℕ) (count : Option Hole) → IsTrue (is_name name) → IsCount count → word ≡ label_text name count ++ ending other → (other ≡ true) × (without_last word ≡ label_text name count)
      which true name count named counts same = (refl, ap without_last same ∙ without_last_is (label_text name count) 59)
      which false name count named counts same =
          wrong (sym (no_semicolon word name count (record { named = named; counts = counts; text_is = same ∙ append-nil (label_text name count) })) ∙ e)

  without_semicolon : ends_with 59 word ≡ false → Parses has_more IsLabelled (word ∷ words) (given false (label word))
  without_semicolon e = found_label false word (sym (append-nil word)) which (label word) (label_judged word)
    where
      which : (other : Bool) (name : List ℕ) (count : Option Hole) → IsTrue (is_name name) → IsCount count → word ≡ label_text name count ++ ending other → (other ≡ false) × (word ≡ label_text name count)
      which false name count named counts same = (refl, same ∙ append-nil (label_text name count))
      which true name count named counts same = wrong (sym e ∙ ap (ends_with 59) same ∙ last_is (label_text name count) 59 59)

pub labelled_parses : (kind : Kind) (words : List (List ℕ)) → Parses has_more IsLabelled words (labelled kind words)
labelled_parses kind [] = λ more tokens rest is e. absurd (none (label_token is.name is.count (ending more)) tokens rest is.whole e)
  where
    empty : (w : List ℕ) (ws : List (List ℕ)) → [] ≡ w ∷ ws → ⊥
    empty w ws e = cc

    none : (token : Token) (tokens : List Token) (rest : List (List ℕ)) → tokens ≡ token ∷ [] → [] ≡ words_of tokens ++ rest → ⊥
    none token tokens rest whole e = empty (token_text token) rest (e ∙ ap (λ (t : List Token). words_of t ++ rest) whole)
labelled_parses kind (word ∷ words) = by_end (ends_with 59 word) refl
  where
    by_end : (b : Bool) → ends_with 59 word ≡ b → Parses has_more IsLabelled (word ∷ words) (if b then given kind word words true (label (without_last word)) else given kind word words false (label word))
    by_end true e = with_semicolon kind word words e
    by_end false e = without_semicolon kind word words e
