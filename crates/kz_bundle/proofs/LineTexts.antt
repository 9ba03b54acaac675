-- Each line that a place allows, read and written.
use Rattle.std.proofs.Common.{◌≡◌, ℕ, ◌-◌, ◌+◌, ◌^◌, ◌<◌, ◌≤◌, ◌==◌, ◌&&◌, eqb, Bool, true, false, List, [], ◌∷◌, ◌++◌, length, codes, Option, Some, None, IsTrue, refl, ap, sym, ◌∙◌, arith, subst, if◌then◌else◌}
use Rattle.std.specs.Fmt.{decimal}
use Rattle.std.specs.List.{list_all}
use lib.Pointwise.{pointwise}
use Rattle.kz_model.specs.declared.bundle.Seed.{Seed}
use Rattle.kz_model.specs.declared.bundle.Seed.TheVariants.{Plain, Number}
use Rattle.kz_model.specs.declared.grammar.Mark.{Mark}
use Rattle.kz_model.specs.declared.grammar.Mark.TheVariants.{Fine}
use Rattle.kz_model.specs.declared.grammar.Place.{Place}
use Rattle.kz_model.specs.declared.grammar.Place.TheVariants as place
use Rattle.kz_model.specs.Grammar.Tokens.{tokens_of, is, is_digit, is_run, number_in}
use Rattle.kz_model.specs.Grammar.Steps.{NamedStep, Alloc, AllocZero, Free, FreeAs, Give, Take, Read, Write, Flush, Trim, number_line, step_line}
use Rattle.kz_model.specs.Grammar.TypeLine.{type_line}
use Rattle.kz_model.specs.Grammar.Form.{Line, Machine, SeedOf, Cpus, Frames, Pages, Budget, Magazine, Depot, Declares, Opens, Does, Break, Orders, Turns, Ends, Draft, is_last, is_head, is_alone, as_line, seed_of, seed_line, header_line, cpu_line, line_of_types, line_of_steps, turn_line, line_of_order, line_at}
use Rattle.kz_model.specs.Text.Lines.{hex_bytes}
use Rattle.kz_model.specs.Grammar.Spelling.{spaced, numbered, seed_text, named_step_text, line_text, IsName, IsNamedStep, IsFrom, IsSeed, IsAllowed}
use Rattle.kz_bundle.proofs.Choices.{wrong, left, right, not_so, equal, found_same, none_found, all_append, chosen, only, is_same}
use Rattle.kz_bundle.proofs.Splits.{dark, inked, inked_dark, last_word}
use Rattle.kz_bundle.proofs.NumberTexts.{in_word, number_in_is, number_in-decimal, decimal_run, decimal_dark, decimal_digits}
use Rattle.kz_bundle.proofs.NameTexts.{name_dark}
use Rattle.kz_bundle.proofs.HexTexts.{hex_dark}
use Rattle.kz_bundle.proofs.StepTexts.{one_word, two_words, spaced_words, number_line_is, number_line_reads, step_says, tokens_of-said, said_words, step_reads}
use Rattle.kz_bundle.proofs.TypeTexts.{type_says, type_words, type_reads, type_inked}

-- ---- what a line says

-- the text is that of this line, which may stand here
abbrev pub Says : Place → Draft → List ℕ → Line → Type 0
Says place d text line = (text ≡ line_text line) × IsAllowed place d line

abbrev pub marked : {A : Type 0} → A → Mark → Option (A × Mark)
marked a mark = Some (a, mark)

as_line_is : {A : Type 0} (f : A → Line) (o : Option (A × Mark)) (p : Place) (d : Draft) (text : List ℕ) (line : Line) → as_line f o ≡ marked line Fine →
    ((a : A) → o ≡ marked a Fine → Says p d text (f a)) → Says p d text line
as_line_is f None p d text line e says = none_found (line, Fine) e
as_line_is f (Some found) p d text line e says =
    let same = found_same (f found.0, found.1) (line, Fine) e in
    subst (Says p d text) (ap (λ (l : Line × Mark). l.0) same) (says found.0 (ap (λ (mark : Mark). marked found.0 mark) (ap (λ (l : Line × Mark). l.1) same)))

is_line : (p : Place) (d : Draft) (text : List ℕ) (a line : Line) → marked a Fine ≡ marked line Fine → Says p d text a → Says p d text line
is_line p d text a line e says = subst (Says p d text) (ap (λ (l : Line × Mark). l.0) (found_same (a, Fine) (line, Fine) e)) says

exactly : (n k : ℕ) → IsFrom k k n → n ≡ k
exactly n k h = omega (arith, h.0, h.1)

seed_found : (text : List ℕ) (seed : Seed) → seed_line (tokens_of text) ≡ marked seed Fine → (text ≡ seed_text seed) × IsSeed seed
seed_found text seed e = by_words (tokens_of text) refl e
  where
    by_words : (words : List (List ℕ)) → tokens_of text ≡ words → seed_line words ≡ marked seed Fine → (text ≡ seed_text seed) × IsSeed seed
    by_words [] cut e = none_found (seed, Fine) e
    by_words (w ∷ []) cut e = none_found (seed, Fine) e
    by_words (w ∷ n ∷ []) cut e =
        only (is (codes "seed") w && is_run n) (if is (codes "plain") n then Some (Plain, Fine) else Some (seed_of (number_in 0 (2 ^ 64 - 1) n))) (seed, Fine) (λ both e.
        let text_is : text ≡ spaced (codes "seed") n = two_words text w n cut ∙ ap (λ (w : List ℕ). spaced w n) (is_same (codes "seed") w (left (is (codes "seed") w) (is_run n) both)) in
        chosen (is (codes "plain") n) (marked Plain Fine) (Some (seed_of (number_in 0 (2 ^ 64 - 1) n))) (marked seed Fine)
        (λ t e. subst (λ seed. (text ≡ seed_text seed) × IsSeed seed) (ap (λ (s : Seed × Mark). s.0) (found_same (Plain, Fine) (seed, Fine) e)) (text_is ∙ ap (spaced (codes "seed")) (is_same (codes "plain") n t), tt))
        (λ f e.
        let same = found_same (seed_of (number_in 0 (2 ^ 64 - 1) n)) (seed, Fine) e in
        let number = number_in_is 0 (2 ^ 64 - 1) n (number_in 0 (2 ^ 64 - 1) n).0 (ap (λ (mark : Mark). pair (number_in 0 (2 ^ 64 - 1) n).0 mark) (ap (λ (s : Seed × Mark). s.1) same)) in
        subst (λ seed. (text ≡ seed_text seed) × IsSeed seed) (ap (λ (s : Seed × Mark). s.0) same) (text_is ∙ ap (spaced (codes "seed")) number.0, small (number_in 0 (2 ^ 64 - 1) n).0 number.1))
        e) e
      where
        pair : ℕ → Mark → ℕ × Mark
        pair n mark = (n, mark)

        small : (n : ℕ) → IsFrom 0 (2 ^ 64 - 1) n → n < 2 ^ 64
        small n h = omega (arith, h.1)
    by_words (w ∷ n ∷ x ∷ words) cut e = none_found (seed, Fine) e

module _ (at : ℕ) (d : Draft) (text : List ℕ) (line : Line) where
  header_number : (word : List ℕ) (low high k : ℕ) (f : ℕ → Line) → ((n : ℕ) → (text ≡ numbered word n) → at ≡ k → IsFrom low high n → Says (place.Header at) d text (f n)) →
      at ≡ k → as_line f (number_line word low high (tokens_of text)) ≡ marked line Fine → Says (place.Header at) d text line
  header_number word low high k f says here e =
      as_line_is f (number_line word low high (tokens_of text)) (place.Header at) d text line e (λ n found.
      let is = number_line_is word low high text n found in
      says n is.0 here is.1)

  header_says : at ≤ 7 → header_line at (tokens_of text) ≡ marked line Fine → Says (place.Header at) d text line
  header_says most =
      chosen (at == 0) _ _ _ (λ t. header_number (codes "machine") 1 1 0 Machine (λ n e here is. (e, (here, exactly n 1 is))) (equal at 0 t))
      (λ f0. chosen (at == 1) _ _ _ (λ t e. as_line_is SeedOf (seed_line (tokens_of text)) (place.Header at) d text line e (λ seed found. let is = seed_found text seed found in (is.0, (equal at 1 t, is.1))))
      (λ f1. chosen (at == 2) _ _ _ (λ t. header_number (codes "cpus") 1 16 2 Cpus (λ n e here is. (e, (here, is))) (equal at 2 t))
      (λ f2. chosen (at == 3) _ _ _ (λ t. header_number (codes "frames") 1 8192 3 Frames (λ n e here is. (e, (here, is))) (equal at 3 t))
      (λ f3. chosen (at == 4) _ _ _ (λ t. header_number (codes "pages") 1 4096 4 Pages (λ n e here is. (e, (here, is))) (equal at 4 t))
      (λ f4. chosen (at == 5) _ _ _ (λ t. header_number (codes "budget") 1 128 5 Budget (λ n e here is. (e, (here, is))) (equal at 5 t))
      (λ f5. chosen (at == 6) _ _ _ (λ t. header_number (codes "magazine") 1 32 6 Magazine (λ n e here is. (e, (here, is))) (equal at 6 t))
      (λ f6. header_number (codes "depot") 0 16 7 Depot (λ n e here is. (e, (here, is))) (last at most f0 f1 f2 f3 f4 f5 f6))))))))
    where
      last : (at : ℕ) → at ≤ 7 → (at == 0) ≡ false → (at == 1) ≡ false → (at == 2) ≡ false → (at == 3) ≡ false → (at == 4) ≡ false → (at == 5) ≡ false → (at == 6) ≡ false → at ≡ 7
      last at most f0 f1 f2 f3 f4 f5 f6 = grind arith

cpu_says : (p : Place) (cpu : ℕ) (d : Draft) (text : List ℕ) (line : Line) → cpu_line cpu (tokens_of text) ≡ marked line Fine →
    ((n : ℕ) → n ≡ cpu → IsAllowed p d (Opens n)) → Says p d text line
cpu_says p cpu d text line e allowed =
    as_line_is Opens (number_line (codes "cpu") cpu cpu (tokens_of text)) p d text line e (λ n found.
    let is = number_line_is (codes "cpu") cpu cpu text n found in
    (is.0, allowed n (exactly n cpu is.1)))

types_says : (d : Draft) (text : List ℕ) (line : Line) → line_of_types (tokens_of text) ≡ marked line Fine → Says place.Types d text line
types_says d text line =
    chosen (is_head (codes "type") (tokens_of text)) _ _ _
    (λ t e. as_line_is Declares (type_line (tokens_of text)) place.Types d text line e (λ decl found. type_says text decl found))
    (λ f e. cpu_says place.Types 0 d text line e (λ n same. same))

-- the one word of a line
alone_is : (word text : List ℕ) → is_alone word (tokens_of text) ≡ true → text ≡ word
alone_is word text e = by_words (tokens_of text) refl e
  where
    by_words : (words : List (List ℕ)) → tokens_of text ≡ words → is_alone word words ≡ true → text ≡ word
    by_words [] cut e = wrong e
    by_words (w ∷ []) cut e = one_word text w cut ∙ is_same word w e
    by_words (w ∷ x ∷ words) cut e = wrong e

not_last : (b : Bool) → b ≡ false → IsTrue b → ⊥
not_last true f e = wrong (sym f)
not_last false f e = wrong e

steps_says : (d : Draft) (text : List ℕ) (line : Line) → line_of_steps d (tokens_of text) ≡ marked line Fine → Says place.Steps d text line
steps_says d text line =
    chosen (is_alone (codes "--") (tokens_of text)) _ _ _
    (λ t e. is_line place.Steps d text Break line e (alone_is (codes "--") text t, tt))
    (λ f. chosen (is_alone (codes "end") (tokens_of text) && is_last d) _ _ _
    (λ t e. is_line place.Steps d text Ends line e (alone_is (codes "end") text (left (is_alone (codes "end") (tokens_of text)) (is_last d) t), right (is_alone (codes "end") (tokens_of text)) (is_last d) t))
    (λ f. chosen (is_alone (codes "order") (tokens_of text) && is_last d) _ _ _
    (λ t e. is_line place.Steps d text Orders line e (alone_is (codes "order") text (left (is_alone (codes "order") (tokens_of text)) (is_last d) t), right (is_alone (codes "order") (tokens_of text)) (is_last d) t))
    (λ f. chosen (is_head (codes "cpu") (tokens_of text)) _ _ _
    (λ t. chosen (is_last d) _ _ _
    (λ l e. none_found (line, Fine) e)
    (λ l e. cpu_says place.Steps (length d.before + 1) d text line e (λ n same. (not_last (is_last d) l, same))))
    (λ f e. as_line_is Does (step_line d.header.cpus (tokens_of text)) place.Steps d text line e (λ said found. step_says d.header.cpus text said found)))))

turn_found : (cpus : ℕ) (text : List ℕ) (n : ℕ) → turn_line cpus (tokens_of text) ≡ marked n Fine → (text ≡ decimal n) × IsFrom 0 (cpus - 1) n
turn_found cpus text n e = by_words (tokens_of text) refl e
  where
    by_words : (words : List (List ℕ)) → tokens_of text ≡ words → turn_line cpus words ≡ marked n Fine → (text ≡ decimal n) × IsFrom 0 (cpus - 1) n
    by_words [] cut e = none_found (n, Fine) e
    by_words (w ∷ []) cut e =
        only (is_run w) (Some (number_in 0 (cpus - 1) w)) (n, Fine) (λ run e.
        let is = number_in_is 0 (cpus - 1) w n (found_same (number_in 0 (cpus - 1) w) (n, Fine) e) in
        (one_word text w cut ∙ is.0, is.1)) e
    by_words (w ∷ x ∷ words) cut e = none_found (n, Fine) e

order_says : (d : Draft) (text : List ℕ) (line : Line) → line_of_order d (tokens_of text) ≡ marked line Fine → Says place.Order d text line
order_says d text line =
    chosen (is_alone (codes "--") (tokens_of text)) _ _ _
    (λ t e. is_line place.Order d text Break line e (alone_is (codes "--") text t, tt))
    (λ f. chosen (is_alone (codes "end") (tokens_of text)) _ _ _
    (λ t e. is_line place.Order d text Ends line e (alone_is (codes "end") text t, tt))
    (λ f e. as_line_is Turns (turn_line d.header.cpus (tokens_of text)) place.Order d text line e (λ n found. turn_found d.header.cpus text n found)))

-- the header has eight lines
abbrev pub InHeader : Place → Type 0
InHeader (place.Header at) = at ≤ 7
InHeader place = Unit {0}

-- what is read is the text of a line that may stand here
pub line_says : (p : Place) (d : Draft) (text : List ℕ) (line : Line) → InHeader p → line_at p d (tokens_of text) ≡ marked line Fine → Says p d text line
line_says (place.Header at) d text line most e = header_says at d text line most e
line_says place.Types d text line most e = types_says d text line e
line_says place.Steps d text line most e = steps_says d text line e
line_says place.Order d text line most e = order_says d text line e
line_says place.Ended d text line most e = none_found (line, Fine) e

-- ---- how a line is read

-- what no number begins with
no_number : (c : ℕ) (word digits : List ℕ) → is_digit c ≡ false → list_all is_digit digits ≡ true → is (c ∷ word) digits ≡ false
no_number c word [] other e = refl
no_number c word (d ∷ digits) other e =
    let differs : eqb d c ≡ false = apart d c (left (is_digit d) (list_all is_digit digits) e) other in
    ap (λ b. b && pointwise eqb digits word) differs
  where
    apart : (d c : ℕ) → is_digit d ≡ true → is_digit c ≡ false → eqb d c ≡ false
    apart d c e f = grind arith

seed_reads : (seed : Seed) → IsSeed seed → seed_line (tokens_of (seed_text seed)) ≡ marked seed Fine
seed_reads Plain is = refl
seed_reads (Number n) is =
    let number = number_in-decimal 0 (2 ^ 64 - 1) n (omega arith, omega arith) (omega arith) in
    ap seed_line (spaced_words (codes "seed") (decimal n) (decimal n ∷ []) refl (last_word (decimal n) (decimal_dark n is)))
    ∙ rw (decimal_run n is, no_number 112 (codes "lain") (decimal n) refl (decimal_digits n is), number) refl

header_reads : (at k : ℕ) (d : Draft) (line : Line) → at ≡ k → header_line k (tokens_of (line_text line)) ≡ marked line Fine → line_at (place.Header at) d (tokens_of (line_text line)) ≡ marked line Fine
header_reads at k d line here e = subst (λ k. header_line k (tokens_of (line_text line)) ≡ marked line Fine) (sym here) e

does_reads : (d : Draft) (said : NamedStep) → d.header.cpus ≤ 2 ^ 64 → IsNamedStep d.header.cpus said → line_of_steps d (said_words said) ≡ marked (Does said) Fine
does_reads d (Alloc name of) small is = ap (as_line Does) (step_reads d.header.cpus (Alloc name of) small is)
does_reads d (AllocZero name of) small is = ap (as_line Does) (step_reads d.header.cpus (AllocZero name of) small is)
does_reads d (Free name) small is = ap (as_line Does) (step_reads d.header.cpus (Free name) small is)
does_reads d (FreeAs name of) small is = ap (as_line Does) (step_reads d.header.cpus (FreeAs name of) small is)
does_reads d (Give name to) small is = ap (as_line Does) (step_reads d.header.cpus (Give name to) small is)
does_reads d (Take name) small is = ap (as_line Does) (step_reads d.header.cpus (Take name) small is)
does_reads d (Read name off len) small is = ap (as_line Does) (step_reads d.header.cpus (Read name off len) small is)
does_reads d (Write name off bytes) small is = ap (as_line Does) (step_reads d.header.cpus (Write name off bytes) small is)
does_reads d (Flush of) small is = ap (as_line Does) (step_reads d.header.cpus (Flush of) small is)
does_reads d (Trim of) small is = ap (as_line Does) (step_reads d.header.cpus (Trim of) small is)

-- a CPU's number fits
pub record Fits (d : Draft) : Type 0 where
  pub cpus : d.header.cpus ≤ 16
  pub before : length d.before ≤ 16

two_of : (word : List ℕ) (n : ℕ) → dark word ≡ true → n < 2 ^ 64 → tokens_of (numbered word n) ≡ word ∷ decimal n ∷ []
two_of word n e small = spaced_words word (decimal n) (decimal n ∷ []) e (last_word (decimal n) (decimal_dark n small))

-- a line that may stand here is read
pub line_reads : (p : Place) (d : Draft) (line : Line) → Fits d → IsAllowed p d line → line_at p d (tokens_of (line_text line)) ≡ marked line Fine
line_reads (place.Header at) d (Machine n) fits is =
    header_reads at 0 d (Machine n) is.0 (ap (as_line Machine) (number_line_reads (codes "machine") 1 1 n refl (omega (arith, is.1), omega (arith, is.1)) (omega arith)))
line_reads (place.Header at) d (SeedOf seed) fits is = header_reads at 1 d (SeedOf seed) is.0 (ap (as_line SeedOf) (seed_reads seed is.1))
line_reads (place.Header at) d (Cpus n) fits is = header_reads at 2 d (Cpus n) is.0 (ap (as_line Cpus) (number_line_reads (codes "cpus") 1 16 n refl is.1 (omega arith)))
line_reads (place.Header at) d (Frames n) fits is = header_reads at 3 d (Frames n) is.0 (ap (as_line Frames) (number_line_reads (codes "frames") 1 8192 n refl is.1 (omega arith)))
line_reads (place.Header at) d (Pages n) fits is = header_reads at 4 d (Pages n) is.0 (ap (as_line Pages) (number_line_reads (codes "pages") 1 4096 n refl is.1 (omega arith)))
line_reads (place.Header at) d (Budget n) fits is = header_reads at 5 d (Budget n) is.0 (ap (as_line Budget) (number_line_reads (codes "budget") 1 128 n refl is.1 (omega arith)))
line_reads (place.Header at) d (Magazine n) fits is = header_reads at 6 d (Magazine n) is.0 (ap (as_line Magazine) (number_line_reads (codes "magazine") 1 32 n refl is.1 (omega arith)))
line_reads (place.Header at) d (Depot n) fits is = header_reads at 7 d (Depot n) is.0 (ap (as_line Depot) (number_line_reads (codes "depot") 0 16 n refl is.1 (omega arith)))
line_reads place.Types d (Declares decl) fits is = ap line_of_types (type_words decl is) ∙ ap (as_line Declares) (type_reads decl is)
line_reads place.Types d (Opens cpu) fits is =
    ap line_of_types (two_of (codes "cpu") cpu refl (omega arith)) ∙ ap (cpu_line 0) (sym (two_of (codes "cpu") cpu refl (omega arith)))
    ∙ ap (as_line Opens) (number_line_reads (codes "cpu") 0 0 cpu refl (omega arith, omega arith) (omega arith))
line_reads place.Steps d (Does said) fits is =
    let small : d.header.cpus ≤ 2 ^ 64 = omega (arith, fits.cpus) in
    ap (line_of_steps d) (tokens_of-said d.header.cpus said small is) ∙ does_reads d said small is
line_reads place.Steps d Break fits is = refl
line_reads place.Steps d (Opens cpu) fits is =
    let small : length d.before + 1 < 2 ^ 64 = omega (arith, fits.before) in
    let few : cpu < 2 ^ 64 = omega (arith, is.1) in
    ap (line_of_steps d) (two_of (codes "cpu") cpu refl few)
    ∙ ap (λ b. if b then None else cpu_line (length d.before + 1) (codes "cpu" ∷ decimal cpu ∷ [])) (not_so (is_last d) is.0)
    ∙ ap (cpu_line (length d.before + 1)) (sym (two_of (codes "cpu") cpu refl few))
    ∙ ap (as_line Opens) (number_line_reads (codes "cpu") (length d.before + 1) (length d.before + 1) cpu refl (omega (arith, is.1), omega (arith, is.1)) small)
line_reads place.Steps d Orders fits is = rw is refl
line_reads place.Steps d Ends fits is = rw is refl
line_reads place.Order d (Turns cpu) fits is =
    let small : d.header.cpus - 1 < 2 ^ 64 = omega (arith, fits.cpus) in
    let few : cpu < 2 ^ 64 = omega (arith, is.1) in
    let digits = decimal_digits cpu few in
    ap (line_of_order d) (last_word (decimal cpu) (decimal_dark cpu few))
    ∙ rw (no_number 45 (codes "-") (decimal cpu) refl digits, no_number 101 (codes "nd") (decimal cpu) refl digits, decimal_run cpu few, number_in-decimal 0 (d.header.cpus - 1) cpu is small) refl
line_reads place.Order d Break fits is = refl
line_reads place.Order d Ends fits is = refl
line_reads p d line fits is = absurd is

-- ---- no line holds an end

numbered_inked : (word : List ℕ) (n : ℕ) → inked word ≡ true → n < 2 ^ 64 → inked (numbered word n) ≡ true
numbered_inked word n e small = all_append _ (word ++ codes " ") (decimal n) (all_append _ word (codes " ") e refl) (inked_dark (decimal n) (decimal_dark n small))

spaced_inked : (word more : List ℕ) → inked word ≡ true → inked more ≡ true → inked (spaced word more) ≡ true
spaced_inked word more e f = all_append _ (word ++ codes " ") more (all_append _ word (codes " ") e refl) f

name_inked : (name : List ℕ) → IsName name → inked name ≡ true
name_inked name is = inked_dark name (name_dark name is)

number_inked : (low high n : ℕ) → IsFrom low high n → high < 2 ^ 64 → inked (decimal n) ≡ true
number_inked low high n is small = inked_dark (decimal n) (decimal_dark n (in_word low high n is small))

said_inked : (cpus : ℕ) (said : NamedStep) → cpus ≤ 2 ^ 64 → IsNamedStep cpus said → inked (named_step_text said) ≡ true
said_inked cpus (Alloc name of) small is = spaced_inked (codes "a") (spaced name of) refl (spaced_inked name of (name_inked name is.0) (name_inked of is.1))
said_inked cpus (AllocZero name of) small is = spaced_inked (codes "z") (spaced name of) refl (spaced_inked name of (name_inked name is.0) (name_inked of is.1))
said_inked cpus (Free name) small is = spaced_inked (codes "f") name refl (name_inked name is)
said_inked cpus (FreeAs name of) small is = spaced_inked (codes "f") (spaced name of) refl (spaced_inked name of (name_inked name is.0) (name_inked of is.1))
said_inked cpus (Give name to) small is = spaced_inked (codes "g") (numbered name to) refl (spaced_inked name (decimal to) (name_inked name is.0) (number_inked 0 (cpus - 1) to is.1 (omega arith)))
said_inked cpus (Take name) small is = spaced_inked (codes "t") name refl (name_inked name is)
said_inked cpus (Read name off len) small is =
    spaced_inked (codes "r") (spaced name (numbered (decimal off) len)) refl (spaced_inked name (numbered (decimal off) len) (name_inked name is.0)
    (spaced_inked (decimal off) (decimal len) (number_inked 0 8191 off is.1 (omega arith)) (number_inked 1 32 len is.2 (omega arith))))
said_inked cpus (Write name off bytes) small is =
    spaced_inked (codes "w") (spaced name (spaced (decimal off) (hex_bytes bytes))) refl (spaced_inked name (spaced (decimal off) (hex_bytes bytes)) (name_inked name is.0)
    (spaced_inked (decimal off) (hex_bytes bytes) (number_inked 0 8191 off is.1 (omega arith)) (inked_dark (hex_bytes bytes) (hex_dark bytes is.3))))
said_inked cpus (Flush of) small is = spaced_inked (codes "flush") of refl (name_inked of is)
said_inked cpus (Trim of) small is = spaced_inked (codes "trim") of refl (name_inked of is)

seed_inked : (seed : Seed) → IsSeed seed → inked (seed_text seed) ≡ true
seed_inked Plain is = refl
seed_inked (Number n) is = numbered_inked (codes "seed") n refl is

-- a line that may stand here has no byte 10
pub line_inked : (p : Place) (d : Draft) (line : Line) → Fits d → IsAllowed p d line → inked (line_text line) ≡ true
line_inked (place.Header at) d (Machine n) fits is = numbered_inked (codes "machine") n refl (omega (arith, is.1))
line_inked (place.Header at) d (SeedOf seed) fits is = seed_inked seed is.1
line_inked (place.Header at) d (Cpus n) fits is = numbered_inked (codes "cpus") n refl (in_word 1 16 n is.1 (omega arith))
line_inked (place.Header at) d (Frames n) fits is = numbered_inked (codes "frames") n refl (in_word 1 8192 n is.1 (omega arith))
line_inked (place.Header at) d (Pages n) fits is = numbered_inked (codes "pages") n refl (in_word 1 4096 n is.1 (omega arith))
line_inked (place.Header at) d (Budget n) fits is = numbered_inked (codes "budget") n refl (in_word 1 128 n is.1 (omega arith))
line_inked (place.Header at) d (Magazine n) fits is = numbered_inked (codes "magazine") n refl (in_word 1 32 n is.1 (omega arith))
line_inked (place.Header at) d (Depot n) fits is = numbered_inked (codes "depot") n refl (in_word 0 16 n is.1 (omega arith))
line_inked place.Types d (Declares decl) fits is = type_inked decl is
line_inked place.Types d (Opens cpu) fits is = numbered_inked (codes "cpu") cpu refl (omega arith)
line_inked place.Steps d (Does said) fits is = said_inked d.header.cpus said (omega (arith, fits.cpus)) is
line_inked place.Steps d (Opens cpu) fits is = numbered_inked (codes "cpu") cpu refl (omega (arith, is.1, fits.before))
line_inked place.Steps d Break fits is = refl
line_inked place.Steps d Orders fits is = refl
line_inked place.Steps d Ends fits is = refl
line_inked place.Order d (Turns cpu) fits is = number_inked 0 (d.header.cpus - 1) cpu is (omega (arith, fits.cpus))
line_inked place.Order d Break fits is = refl
line_inked place.Order d Ends fits is = refl
line_inked p d line fits is = absurd is
