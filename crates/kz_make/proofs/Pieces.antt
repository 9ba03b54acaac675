-- The pieces of a made bundle, as they are written.
use Rattle.std.proofs.Common.{◌≡◌, ℕ, suc, ◌+◌, ◌-◌, ◌*◌, ◌%◌, ◌<◌, ◌≤◌, List, [], ◌∷◌, ◌++◌, Option, map, codes, refl, ap, sym, ◌∙◌, arith, add-one, append_assoc, append-nil, subst}
use Rattle.std.specs.Fmt.{decimal}
use Rattle.std.proofs.lemmas.List.{map-append}
use Rattle.std.proofs.lemmas.Fmt.{decimal_digit}
use Rattle.rand_pcg.specs.Lcg.{Lcg}
use Rattle.kz_model.specs.Zone.Words.{word_of, rest_of}
use Rattle.kz_model.specs.declared.bundle.Seed.TheVariants.{Number}
use Rattle.kz_model.specs.Grammar.Form.{Line, Machine, SeedOf, Cpus, Frames, Pages, Budget, Magazine, Depot, Declares, Opens, Does, Break, Orders, Turns, Ends}
use Rattle.kz_model.specs.Grammar.Steps.{Alloc}
use Rattle.kz_model.specs.Text.Made.{types_count, made_text, names_count, drawn_count, later_count, drawn, name_text, type_of_made, names_allocated, first_round, rounds_drawn, later_lines, section_made, sections_made, order_made, named_step_made, field_made, fields_made, type_text, type_made, types_made, after_types, fields_of_type, steps_drawn, header_made, turns_made, later_turns}
use Rattle.kz_model.specs.Grammar.Spelling.{line_text, numbered, named_step_text, field_text, fields_text, more_fields_text}
use Rattle.kz_bundle.specs.Printing.{lines_text}
use Rattle.kz_bundle.proofs.Printed.{then_lines, then_line, no_lines}
use Rattle.kz_make.specs.Writing.{words_at, IsWritten}
use Rattle.kz_make.proofs.Left.{IsDrawn, is_drawn}

-- one, and those that are left
pub one_less : (count i : ℕ) → i < count → count - i ≡ suc (count - (i + 1))
one_less count i h = omega arith

-- ---- the header

pub header_written : (number : ℕ) (out s1 s2 s3 s4 s5 s6 s7 s8 : List ℕ) →
    s1 ≡ out ++ (numbered (codes "machine") 1 ++ codes "\n") → s2 ≡ s1 ++ (numbered (codes "seed") number ++ codes "\n") →
    s3 ≡ s2 ++ (numbered (codes "cpus") 4 ++ codes "\n") → s4 ≡ s3 ++ (numbered (codes "frames") 2048 ++ codes "\n") →
    s5 ≡ s4 ++ (numbered (codes "pages") 1024 ++ codes "\n") → s6 ≡ s5 ++ (numbered (codes "budget") 24 ++ codes "\n") →
    s7 ≡ s6 ++ (numbered (codes "magazine") 8 ++ codes "\n") → s8 ≡ s7 ++ (numbered (codes "depot") 4 ++ codes "\n") → s8 ≡ out ++ lines_text (header_made number)
header_written number out s1 s2 s3 s4 s5 s6 s7 s8 e1 e2 e3 e4 e5 e6 e7 e8 =
    let two = Machine 1 ∷ SeedOf (Number number) ∷ [] in
    let four = two ++ Cpus 4 ∷ Frames 2048 ∷ [] in
    let six = four ++ Pages 1024 ∷ Budget 24 ∷ [] in
    then_line out s7 s8 (six ++ Magazine 8 ∷ []) (Depot 4)
    (then_line out s6 s7 six (Magazine 8)
    (then_line out s5 s6 (four ++ Pages 1024 ∷ []) (Budget 24)
    (then_line out s4 s5 four (Pages 1024)
    (then_line out s3 s4 (two ++ Cpus 4 ∷ []) (Frames 2048)
    (then_line out s2 s3 two (Cpus 4)
    (then_line out s1 s2 (Machine 1 ∷ []) (SeedOf (Number number)) (then_line out out s1 [] (Machine 1) (no_lines out) e1) e2)
    e3)
    e4)
    e5)
    e6)
    e7)
    e8

-- ---- the order

four_texts : (a b c d text : List ℕ) → a ≡ codes "0" → b ≡ codes "1" → c ≡ codes "2" → d ≡ codes "3" →
    (a ++ codes "\n") ++ ((b ++ codes "\n") ++ ((c ++ codes "\n") ++ ((d ++ codes "\n") ++ text))) ≡ codes "0\n1\n2\n3\n" ++ text
four_texts a b c d text e f g h = simp (e, f, g, h)

-- the four CPUs in turn
pub four_turns : (lines : List Line) → lines_text (Turns 0 ∷ Turns 1 ∷ Turns 2 ∷ Turns 3 ∷ lines) ≡ codes "0\n1\n2\n3\n" ++ lines_text lines
four_turns lines =
    four_texts (decimal 0) (decimal 1) (decimal 2) (decimal 3) (lines_text lines) (decimal_digit 0 (omega arith)) (decimal_digit 1 (omega arith)) (decimal_digit 2 (omega arith)) (decimal_digit 3 (omega arith))

-- one more piece of text, and what is left
pub text_more : (out now whole piece text later : List ℕ) → text ≡ piece ++ later → out ++ text ≡ whole → now ≡ out ++ piece → now ++ later ≡ whole
text_more out now whole piece text later more before e =
    ap (λ (s : List ℕ). s ++ later) e ∙ append_assoc out piece later ∙ ap (λ (s : List ℕ). out ++ s) (sym more) ∙ before

pub turns_more : (times i : ℕ) → i < times → lines_text (turns_made (times - i)) ≡ codes "0\n1\n2\n3\n" ++ lines_text (turns_made (times - (i + 1)))
turns_more times i h = ap (λ n. lines_text (turns_made n)) (one_less times i h) ∙ four_turns (turns_made (times - (i + 1)))

pub later_turns_more : (times i : ℕ) → i < times → later_turns (times - i) ≡ later_turns (suc (times - (i + 1)))
later_turns_more times i h = ap later_turns (one_less times i h)

-- ---- steps

-- a drawn step with its end
pub step_written : (number j cpu u v w : ℕ) (words w1 w2 w3 : Option Lcg) (out now : List ℕ) → words ≡ words_at number j → u ≡ word_of words → w1 ≡ rest_of words → v ≡ word_of w1 → w2 ≡ rest_of w1 → w ≡ word_of w2 → w3 ≡ rest_of w2 →
    now ≡ out ++ (named_step_text (named_step_made cpu u v w) ++ codes "\n") →
    IsWritten number (j + 3) w3 out (named_step_text (named_step_made cpu (drawn number j) (drawn number (j + 1)) (drawn number (j + 2))) ++ codes "\n") now
step_written number j cpu u v w words w1 w2 w3 out now at e f e1 f1 e2 f2 is =
    let first = is_drawn number j u words w1 at e f in
    let second = is_drawn number (j + 1) v w1 w2 first.rest_is e1 f1 in
    let third = is_drawn number (j + 1 + 1) w w2 w3 second.rest_is e2 f2 in
    let two : j + 1 + 1 ≡ j + 2 = omega arith in
    let three : j + 1 + 1 + 1 ≡ j + 3 = omega arith in
    record {
      text = is
          ∙ ap (λ u. out ++ (named_step_text (named_step_made cpu u v w) ++ codes "\n")) first.word_is
          ∙ ap (λ v. out ++ (named_step_text (named_step_made cpu (drawn number j) v w) ++ codes "\n")) second.word_is
          ∙ ap (λ w. out ++ (named_step_text (named_step_made cpu (drawn number j) (drawn number (j + 1)) w) ++ codes "\n")) (third.word_is ∙ ap (drawn number) two);
      words = third.rest_is ∙ ap (words_at number) three;
    }

-- ---- fields and types

-- field i by its two words
pub field_written : (number j i b c : ℕ) (words w1 w2 : Option Lcg) (out now : List ℕ) → words ≡ words_at number j → b ≡ word_of words → w1 ≡ rest_of words → c ≡ word_of w1 → w2 ≡ rest_of w1 →
    now ≡ out ++ field_text (field_made i b c) → IsWritten number (j + 2) w2 out (field_text (field_made i (drawn number j) (drawn number (j + 1)))) now
field_written number j i b c words w1 w2 out now at e f e1 f1 is =
    let first = is_drawn number j b words w1 at e f in
    let second = is_drawn number (j + 1) c w1 w2 first.rest_is e1 f1 in
    let two : j + 1 + 1 ≡ j + 2 = omega arith in
    record {
      text = is ∙ ap (λ b. out ++ field_text (field_made i b c)) first.word_is ∙ ap (λ c. out ++ field_text (field_made i (drawn number j) c)) second.word_is;
      words = second.rest_is ∙ ap (words_at number) two;
    }

-- a text behind another that is written
pub behind_written : (number j : ℕ) (words : Option Lcg) (before front out text now : List ℕ) → out ≡ before ++ front → IsWritten number j words out text now → IsWritten number j words before (front ++ text) now
behind_written number j words before front out text now e is =
    record { text = is.text ∙ ap (λ (s : List ℕ). s ++ text) e ∙ append_assoc before front text; words = is.words }

-- a type line, by its name and its fields
pub declaration_text : (out name fields : List ℕ) →
    ((((out ++ codes "type ") ++ name) ++ codes " {") ++ fields) ++ codes " }\n" ≡ out ++ (((codes "type" ++ codes " ") ++ ((name ++ codes " ") ++ ((codes "{" ++ fields) ++ codes " }"))) ++ codes "\n")
declaration_text out name fields = simp append_assoc

-- ---- lines behind lines

pub lines_text-append : (xs ys : List Line) → lines_text (xs ++ ys) ≡ lines_text xs ++ lines_text ys
lines_text-append xs ys = sym (then_lines [] (lines_text xs) (lines_text xs ++ lines_text ys) xs ys refl refl)

pub later_turns_text : (times i : ℕ) → i < times →
    lines_text (later_turns (times - i)) ≡ (codes "--\n" ++ lines_text (turns_made drawn_count)) ++ lines_text (later_turns (times - (i + 1)))
later_turns_text times i h =
    ap (λ n. lines_text (later_turns n)) (one_less times i h)
    ∙ ap (λ (text : List ℕ). codes "--\n" ++ text) (lines_text-append (turns_made drawn_count) (later_turns (times - (i + 1))))

-- two pieces behind a text
pub two_pieces : (out s t one two : List ℕ) → s ≡ out ++ one → t ≡ s ++ two → t ≡ out ++ (one ++ two)
two_pieces out s t one two e f = f ∙ ap (λ (s : List ℕ). s ++ two) e ∙ append_assoc out one two

pub order_text : lines_text order_made ≡ (codes "order\n" ++ lines_text (turns_made (names_count + drawn_count))) ++ lines_text (later_turns later_count)
order_text = ap (λ (text : List ℕ). codes "order\n" ++ text) (lines_text-append (turns_made (names_count + drawn_count)) (later_turns later_count))

-- ---- sections

pub rounds_text : (number cpu at times i : ℕ) → i < times →
    lines_text (later_lines (rounds_drawn number cpu at (times - i)))
    ≡ (codes "--\n" ++ lines_text (map Does (steps_drawn number cpu at drawn_count))) ++ lines_text (later_lines (rounds_drawn number cpu (at + 15000) (times - (i + 1))))
rounds_text number cpu at times i h =
    ap (λ n. lines_text (later_lines (rounds_drawn number cpu at n))) (one_less times i h)
    ∙ ap (λ (text : List ℕ). codes "--\n" ++ text) (lines_text-append (map Does (steps_drawn number cpu at drawn_count)) (later_lines (rounds_drawn number cpu (at + 15000) (times - (i + 1)))))

pub section_text : (number cpu at : ℕ) →
    lines_text (section_made number cpu at)
    ≡ (codes "cpu " ++ decimal cpu ++ codes "\n") ++ (lines_text (map Does (names_allocated cpu 0 names_count)) ++ (lines_text (map Does (steps_drawn number cpu at drawn_count)) ++ lines_text (later_lines (rounds_drawn number cpu (at + 15000) later_count))))
section_text number cpu at =
    ap (λ (text : List ℕ). (codes "cpu " ++ decimal cpu ++ codes "\n") ++ text) (
    lines_text-append (map Does (first_round number cpu at)) (later_lines (rounds_drawn number cpu (at + 15000) later_count))
    ∙ ap (λ (text : List ℕ). text ++ lines_text (later_lines (rounds_drawn number cpu (at + 15000) later_count))) (
    ap lines_text (map-append Does (names_allocated cpu 0 names_count) (steps_drawn number cpu at drawn_count))
    ∙ lines_text-append (map Does (names_allocated cpu 0 names_count)) (map Does (steps_drawn number cpu at drawn_count))
    )
    ∙ append_assoc (lines_text (map Does (names_allocated cpu 0 names_count))) (lines_text (map Does (steps_drawn number cpu at drawn_count))) (lines_text (later_lines (rounds_drawn number cpu (at + 15000) later_count)))
    )

-- a line, first allocations, a first round and later ones
pub section_written : (number j cpu : ℕ) (w1 w2 : Option Lcg) (out s1 s2 s3 s4 s5 now : List ℕ) → s1 ≡ out ++ codes "cpu " → s2 ≡ s1 ++ decimal cpu → s3 ≡ s2 ++ codes "\n" →
    s4 ≡ s3 ++ lines_text (map Does (names_allocated cpu 0 names_count)) → IsWritten number (j + 15000) w1 s4 (lines_text (map Does (steps_drawn number cpu j drawn_count))) s5 →
    IsWritten number (j + 15000 + 45000) w2 s5 (lines_text (later_lines (rounds_drawn number cpu (j + 15000) later_count))) now →
    IsWritten number (j + 60000) w2 out (lines_text (section_made number cpu j)) now
section_written number j cpu w1 w2 out s1 s2 s3 s4 s5 now e1 e2 e3 e4 first later =
    let opened = two_pieces out s2 s3 (codes "cpu " ++ decimal cpu) (codes "\n") (two_pieces out s1 s2 (codes "cpu ") (decimal cpu) e1 e2) e3 in
    let steps = behind_written number (j + 15000 + 45000) w2 s4 (lines_text (map Does (steps_drawn number cpu j drawn_count))) s5 _ now first.text later in
    let names = behind_written number (j + 15000 + 45000) w2 s3 (lines_text (map Does (names_allocated cpu 0 names_count))) s4 _ now e4 steps in
    let all = behind_written number (j + 15000 + 45000) w2 out (codes "cpu " ++ decimal cpu ++ codes "\n") s3 _ now opened names in
    let end : j + 15000 + 45000 ≡ j + 60000 = omega arith in
    record { text = all.text ∙ ap (λ (text : List ℕ). out ++ text) (sym (section_text number cpu j)); words = all.words ∙ ap (words_at number) end }

-- one step more
pub steps_text : (number cpu at times i : ℕ) → i < times →
    lines_text (map Does (steps_drawn number cpu at (times - i)))
    ≡ (named_step_text (named_step_made cpu (drawn number at) (drawn number (at + 1)) (drawn number (at + 2))) ++ codes "\n") ++ lines_text (map Does (steps_drawn number cpu (at + 3) (times - (i + 1))))
steps_text number cpu at times i h = ap (λ n. lines_text (map Does (steps_drawn number cpu at n))) (one_less times i h)

pub allocated_text : (cpu times i : ℕ) → i < times →
    lines_text (map Does (names_allocated cpu i (times - i)))
    ≡ (named_step_text (Alloc (name_text cpu i) (type_of_made cpu i)) ++ codes "\n") ++ lines_text (map Does (names_allocated cpu (i + 1) (times - (i + 1))))
allocated_text cpu times i h = ap (λ n. lines_text (map Does (names_allocated cpu i n))) (one_less times i h)

pub sections_text : (number at times i : ℕ) → i < times →
    lines_text (sections_made number i at (times - i)) ≡ lines_text (section_made number i at) ++ lines_text (sections_made number (i + 1) (at + 60000) (times - (i + 1)))
sections_text number at times i h =
    ap (λ n. lines_text (sections_made number i at n)) (one_less times i h)
    ∙ lines_text-append (section_made number i at) (sections_made number (i + 1) (at + 60000) (times - (i + 1)))

-- ---- types and fields

pub types_text : (number at times i : ℕ) → i < times →
    lines_text (map Declares (types_made number at i (times - i)))
    ≡ (line_text (Declares (type_made number at i)) ++ codes "\n") ++ lines_text (map Declares (types_made number (at + 1 + 2 * fields_of_type number at) (i + 1) (times - (i + 1))))
types_text number at times i h = ap (λ n. lines_text (map Declares (types_made number at i n))) (one_less times i h)

pub after_text : (number at times i : ℕ) → i < times → after_types number at (times - i) ≡ after_types number (at + 1 + 2 * fields_of_type number at) (times - (i + 1))
after_text number at times i h = ap (after_types number at) (one_less times i h)

pub more_fields : (number at times i : ℕ) → i < times →
    more_fields_text (fields_made number at i (times - i))
    ≡ (codes "; " ++ field_text (field_made i (drawn number at) (drawn number (at + 1)))) ++ more_fields_text (fields_made number (at + 2) (i + 1) (times - (i + 1)))
more_fields number at times i h = ap (λ n. more_fields_text (fields_made number at i n)) (one_less times i h)

pub first_field : (number at times : ℕ) → 1 ≤ times →
    fields_text (fields_made number at 0 times) ≡ (codes " " ++ field_text (field_made 0 (drawn number at) (drawn number (at + 1)))) ++ more_fields_text (fields_made number (at + 2) 1 (times - 1))
first_field number at times h = let one : times ≡ suc (times - 1) = omega arith in ap (λ n. fields_text (fields_made number at 0 n)) one

-- a type line, by its first word and its fields
pub declaration_written : (number j t count : ℕ) (w1 w2 : Option Lcg) (out s1 s2 s3 s4 now : List ℕ) → s1 ≡ out ++ codes "type " → s2 ≡ s1 ++ type_text t → s3 ≡ s2 ++ codes " {" →
    count ≡ fields_of_type number j → IsWritten number (j + 1 + 2 * count) w2 s3 (fields_text (fields_made number (j + 1) 0 count)) s4 → now ≡ s4 ++ codes " }\n" →
    IsWritten number (j + 1 + 2 * fields_of_type number j) w2 out (line_text (Declares (type_made number j t)) ++ codes "\n") now
declaration_written number j t count w1 w2 out s1 s2 s3 s4 now e1 e2 e3 count_is fields e4 =
    let made = subst (λ count. IsWritten number (j + 1 + 2 * count) w2 s3 (fields_text (fields_made number (j + 1) 0 count)) s4) count_is fields in
    record {
      text = e4
          ∙ ap (λ (s : List ℕ). s ++ codes " }\n") (made.text
          ∙ ap (λ (s : List ℕ). s ++ fields_text (fields_made number (j + 1) 0 (fields_of_type number j))) (e3 ∙ ap (λ (s : List ℕ). s ++ codes " {") (e2 ∙ ap (λ (s : List ℕ). s ++ type_text t) e1)))
          ∙ declaration_text out (type_text t) (fields_text (fields_made number (j + 1) 0 (fields_of_type number j)));
      words = made.words;
    }

-- ---- the whole

pub bundle_written : (number : ℕ) (w1 : Option Lcg) (s0 s1 s2 s3 s4 s5 : List ℕ) → s0 ≡ [] → s1 ≡ s0 ++ lines_text (header_made number) →
    IsWritten number (after_types number 0 types_count) w1 s1 (lines_text (map Declares (types_made number 0 0 types_count))) s2 →
    s3 ≡ s2 ++ lines_text (sections_made number 0 (after_types number 0 types_count) 4) → s4 ≡ s3 ++ lines_text order_made → s5 ≡ s4 ++ codes "end\n" → s5 ≡ made_text number
bundle_written number w1 s0 s1 s2 s3 s4 s5 e0 e1 types e3 e4 e5 =
    let header = header_made number in
    let declared = header ++ map Declares (types_made number 0 0 types_count) in
    let sections = declared ++ sections_made number 0 (after_types number 0 types_count) 4 in
    then_line [] s4 s5 (sections ++ order_made) Ends
    (then_lines [] s3 s4 sections order_made
    (then_lines [] s2 s3 declared (sections_made number 0 (after_types number 0 types_count) 4)
    (then_lines [] s1 s2 header (map Declares (types_made number 0 0 types_count))
    (then_lines [] s0 s1 [] header e0 e1)
    types.text)
    e3)
    e4)
    e5
