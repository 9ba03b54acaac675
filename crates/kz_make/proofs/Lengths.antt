-- The text of a made bundle is short.
use Rattle.std.proofs.Common.{◌≡◌, ℕ, zero, suc, ◌+◌, ◌*◌, ◌%◌, ◌^◌, ◌<◌, ◌≤◌, ◌&&◌, true, nat_le, List, [], ◌∷◌, ◌++◌, length, map, codes, All, refl, arith, length-append}
use Rattle.std.specs.Fmt.{decimal}
use Rattle.std.specs.List.{list_all}
use Rattle.std.proofs.lemmas.Fmt.{length-decimal-le}
use Rattle.std.proofs.lemmas.List.Elements.{All-head, All-tail}
use Rattle.kz_model.specs.declared.bundle.Seed.TheVariants.{Number}
use Rattle.kz_model.specs.Grammar.Tokens.{is_small, is_name_byte}
use Rattle.kz_model.specs.Text.Lines.{hex_bytes, hex_of_byte}
use Rattle.kz_model.specs.Grammar.Steps.{NamedStep, Alloc, AllocZero, Free, FreeAs, Give, Take, Read, Write, Flush, Trim}
use Rattle.kz_model.specs.Grammar.Form.{Line, Machine, SeedOf, Cpus, Frames, Pages, Budget, Magazine, Depot, Declares, Opens, Does, Break, Orders, Turns, Ends}
use Rattle.kz_model.specs.Grammar.Spelling.{spaced, numbered, kind_text, field_text, fields_text, more_fields_text, body_text, named_step_text, line_text, IsName, IsNamedStep}
use Rattle.kz_model.specs.Text.Made.{types_count, names_count, drawn_count, later_count, drawn, kind_by, kind_made, field_made, fields_made, fields_of_type, type_text, type_made, types_made, after_types, first_round, rounds_drawn, later_lines, section_made, sections_made, turns_made, later_turns, order_made, header_made, made_text}
use Rattle.kz_bundle.specs.Printing.{lines_text}
use Rattle.kz_bundle.proofs.Choices.{right}
use Rattle.kz_make.proofs.Counts.{types_are, names_are, drawn_are}
use Rattle.kz_make.proofs.Counts.{later_are as later_counted}
use Rattle.kz_make.proofs.Leading.{steps_of}
use Rattle.kz_make.proofs.Naming.{type_is_name, field_is_name}
use Rattle.kz_make.proofs.Ruled.{length-rounds_drawn, steps_of_cpu}
use Rattle.kz_make.proofs.NamedStepsMade.{IsStepOf, first_are, later_are}

-- ---- words

length-spaced : (word more : List ℕ) → length (spaced word more) ≡ length word + 1 + length more
length-spaced word more = omega (arith, length-append (word ++ codes " ") more, length-append word (codes " "))

decimal_short : (n : ℕ) → n < 2 ^ 64 → length (decimal n) ≤ 20
decimal_short n few = length-decimal-le 20 n (omega arith) (omega arith) few

digit_short : (n : ℕ) → n < 10 → length (decimal n) ≤ 1
digit_short n few = length-decimal-le 1 n (omega arith) (omega arith) (omega arith)

name_short : (name : List ℕ) → IsName name → length name ≤ 32
name_short [] is = omega arith
name_short (byte ∷ bytes) is = let tail = within (length bytes) 31 (right (is_small byte && list_all is_name_byte bytes) (nat_le (length bytes) 31) is) in omega arith
  where
    within : (m n : ℕ) → nat_le m n ≡ true → m ≤ n
    within m n e = grind arith

numbered_short : (word : List ℕ) (n : ℕ) → n < 2 ^ 64 → length (numbered word n) ≤ length word + 21
numbered_short word n few = omega (arith, length-spaced word (decimal n), decimal_short n few)

length-hex_bytes : (bytes : List ℕ) → length (hex_bytes bytes) ≡ 2 * length bytes
length-hex_bytes [] = refl
length-hex_bytes (byte ∷ bytes) = omega (arith, length-append (hex_of_byte byte) (hex_bytes bytes), length-hex_bytes bytes)

-- ---- lines

-- the bytes of lines, each with its end
abbrev size : List Line → ℕ
size lines = length (lines_text lines)

size-cons : (line : Line) (lines : List Line) → size (line ∷ lines) ≡ length (line_text line) + 1 + size lines
size-cons line lines = omega (arith, length-append (line_text line ++ 10 ∷ []) (lines_text lines), length-append (line_text line) (10 ∷ []))

size-append : (front back : List Line) → size (front ++ back) ≡ size front + size back
size-append [] back = omega arith
size-append (line ∷ front) back = omega (arith, size-cons line (front ++ back), size-cons line front, size-append front back)

-- ---- types

kind_short : (c n : ℕ) → length (kind_text (kind_by c n)) ≤ 26
kind_short c zero = omega arith
kind_short c (suc zero) = omega arith
kind_short c (suc (suc zero)) = omega arith
kind_short c (suc (suc (suc zero))) = omega arith
kind_short c (suc (suc (suc (suc zero)))) = omega arith
kind_short c (suc (suc (suc (suc (suc n))))) = numbered_short (codes "bytes") (1 + c % 200) (omega arith)

field_short : (i b c : ℕ) → i < 2 ^ 64 → length (field_text (field_made i b c)) ≤ 59
field_short i b c few =
    let name = codes "f" ++ decimal i in
    omega (arith, length-spaced (kind_text (kind_made b c)) (name ++ []), kind_short c (b % 6), length-append name [], name_short name (field_is_name i few))

more_fields_short : (number j i more : ℕ) → i + more ≤ 6 → length (more_fields_text (fields_made number j i more)) ≤ 61 * more
more_fields_short number j i zero few = omega arith
more_fields_short number j i (suc more) few =
    let field = field_made i (drawn number j) (drawn number (j + 1)) in
    let later = fields_made number (j + 2) (i + 1) more in
    omega (arith, length-append (field_text field) (more_fields_text later), field_short i (drawn number j) (drawn number (j + 1)) (omega (arith, few)), more_fields_short number (j + 2) (i + 1) more (omega (arith, few)))

fields_short : (number j count : ℕ) → count ≤ 6 → length (fields_text (fields_made number j 0 count)) ≤ 61 * count
fields_short number j zero few = omega arith
fields_short number j (suc more) few =
    let field = field_made 0 (drawn number j) (drawn number (j + 1)) in
    let later = fields_made number (j + 2) 1 more in
    omega (arith, length-append (field_text field) (more_fields_text later), field_short 0 (drawn number j) (drawn number (j + 1)) (omega arith), more_fields_short number (j + 2) 1 more (omega (arith, few)))

type_short : (number j t : ℕ) → t < 2 ^ 64 → length (line_text (Declares (type_made number j t))) ≤ 409
type_short number j t few =
    let fields = fields_made number (j + 1) 0 (fields_of_type number j) in
    let count : fields_of_type number j ≤ 6 = omega arith in
    omega (
      arith,
      count,
      length-spaced (codes "type") (spaced (type_text t) (body_text fields)),
      length-spaced (type_text t) (body_text fields),
      length-append (fields_text fields) (codes " }"),
      name_short (type_text t) (type_is_name t few),
      fields_short number (j + 1) (fields_of_type number j) count,
    )

types_short : (number j t more : ℕ) → t + more ≤ 1024 → size (map Declares (types_made number j t more)) ≤ 410 * more
types_short number j t zero few = omega arith
types_short number j t (suc more) few =
    let at = j + 1 + 2 * fields_of_type number j in
    omega (arith, size-cons (Declares (type_made number j t)) (map Declares (types_made number at (t + 1) more)), type_short number j t (omega (arith, few)), types_short number at (t + 1) more (omega (arith, few)))

-- ---- steps

said_short : (said : NamedStep) → IsNamedStep 4 said → length (named_step_text said) ≤ 126
said_short (Alloc name of) is = omega (arith, length-spaced (codes "a") (spaced name of), length-spaced name of, name_short name is.0, name_short of is.1)
said_short (AllocZero name of) is = omega (arith, length-spaced (codes "z") (spaced name of), length-spaced name of, name_short name is.0, name_short of is.1)
said_short (Free name) is = omega (arith, length-spaced (codes "f") name, name_short name is)
said_short (FreeAs name of) is = omega (arith, length-spaced (codes "f") (spaced name of), length-spaced name of, name_short name is.0, name_short of is.1)
said_short (Give name to) is = omega (arith, length-spaced (codes "g") (numbered name to), numbered_short name to (omega (arith, is.1.1)), name_short name is.0)
said_short (Take name) is = omega (arith, length-spaced (codes "t") name, name_short name is)
said_short (Read name off len) is =
    omega (
      arith,
      length-spaced (codes "r") (spaced name (numbered (decimal off) len)),
      length-spaced name (numbered (decimal off) len),
      numbered_short (decimal off) len (omega (arith, is.2.1)),
      decimal_short off (omega (arith, is.1.1)),
      name_short name is.0,
    )
said_short (Write name off bytes) is =
    omega (
      arith,
      length-spaced (codes "w") (spaced name (spaced (decimal off) (hex_bytes bytes))),
      length-spaced name (spaced (decimal off) (hex_bytes bytes)),
      length-spaced (decimal off) (hex_bytes bytes),
      length-hex_bytes bytes,
      is.2.1,
      decimal_short off (omega (arith, is.1.1)),
      name_short name is.0,
    )
said_short (Flush of) is = omega (arith, length-spaced (codes "flush") of, name_short of is)
said_short (Trim of) is = omega (arith, length-spaced (codes "trim") of, name_short of is)

steps_short : (cpu : ℕ) (saids : List NamedStep) → All (IsStepOf cpu) saids → size (map Does saids) ≤ 127 * length saids
steps_short cpu [] all = omega arith
steps_short cpu (said ∷ saids) all =
    omega (arith, size-cons (Does said) (map Does saids), said_short said (All-head (IsStepOf cpu) said saids all).said, steps_short cpu saids (All-tail (IsStepOf cpu) said saids all))

rounds_short : (cpu : ℕ) (rounds : List (List NamedStep)) → All (All (IsStepOf cpu)) rounds → size (later_lines rounds) ≤ 3 * length rounds + 127 * steps_of rounds
rounds_short cpu [] all = omega arith
rounds_short cpu (round ∷ rounds) all =
    omega (
      arith,
      size-cons Break (map Does round ++ later_lines rounds),
      size-append (map Does round) (later_lines rounds),
      steps_short cpu round (All-head (All (IsStepOf cpu)) round rounds all),
      rounds_short cpu rounds (All-tail (All (IsStepOf cpu)) round rounds all),
    )

section_short : (number cpu j : ℕ) → cpu < 4 → size (section_made number cpu j) ≤ 2600000
section_short number cpu j few =
    let first = first_round number cpu j in
    let later = rounds_drawn number cpu (j + 15000) later_count in
    omega (
      arith,
      size-cons (Opens cpu) (map Does first ++ later_lines later),
      numbered_short (codes "cpu") cpu (omega (arith, few)),
      size-append (map Does first) (later_lines later),
      steps_short cpu first (first_are cpu few number j),
      rounds_short cpu later (later_are cpu few number (j + 15000) later_count),
      length-rounds_drawn number cpu (j + 15000) later_count,
      later_counted,
      steps_of_cpu number cpu j,
    )

sections_short : (number cpu j more : ℕ) → cpu + more ≤ 4 → size (sections_made number cpu j more) ≤ 2600000 * more
sections_short number cpu j zero few = omega arith
sections_short number cpu j (suc more) few =
    omega (
      arith,
      size-append (section_made number cpu j) (sections_made number (cpu + 1) (j + 60000) more),
      section_short number cpu j (omega (arith, few)),
      sections_short number (cpu + 1) (j + 60000) more (omega (arith, few)),
    )

-- ---- the order

turns_short : (times : ℕ) → size (turns_made times) ≤ 8 * times
turns_short zero = omega arith
turns_short (suc times) =
    let later = turns_made times in
    omega (
      arith,
      size-cons (Turns 0) (Turns 1 ∷ Turns 2 ∷ Turns 3 ∷ later),
      size-cons (Turns 1) (Turns 2 ∷ Turns 3 ∷ later),
      size-cons (Turns 2) (Turns 3 ∷ later),
      size-cons (Turns 3) later,
      digit_short 0 (omega arith),
      digit_short 1 (omega arith),
      digit_short 2 (omega arith),
      digit_short 3 (omega arith),
      turns_short times,
    )

later_turns_short : (more : ℕ) → size (later_turns more) ≤ 40003 * more
later_turns_short zero = omega arith
later_turns_short (suc more) =
    omega (arith, size-cons Break (turns_made drawn_count ++ later_turns more), size-append (turns_made drawn_count) (later_turns more), turns_short drawn_count, drawn_are, later_turns_short more)

order_short : size order_made ≤ 200000
order_short =
    let first = turns_made (names_count + drawn_count) in
    let later = later_turns later_count in
    omega (arith, size-cons Orders (first ++ later), size-append first later, turns_short (names_count + drawn_count), names_are, drawn_are, later_turns_short later_count, later_counted)

-- ---- the whole

header_short : (number : ℕ) → number < 2 ^ 64 → size (header_made number) ≤ 240
header_short number few =
    let budget = Budget 24 ∷ Magazine 8 ∷ Depot 4 ∷ [] in
    let cpus = Cpus 4 ∷ Frames 2048 ∷ Pages 1024 ∷ budget in
    omega (
      arith,
      size-cons (Machine 1) (SeedOf (Number number) ∷ cpus),
      size-cons (SeedOf (Number number)) cpus,
      size-cons (Cpus 4) (Frames 2048 ∷ Pages 1024 ∷ budget),
      size-cons (Frames 2048) (Pages 1024 ∷ budget),
      size-cons (Pages 1024) budget,
      size-cons (Budget 24) (Magazine 8 ∷ Depot 4 ∷ []),
      size-cons (Magazine 8) (Depot 4 ∷ []),
      size-cons (Depot 4) [],
      numbered_short (codes "machine") 1 (omega arith),
      numbered_short (codes "seed") number few,
      numbered_short (codes "cpus") 4 (omega arith),
      numbered_short (codes "frames") 2048 (omega arith),
      numbered_short (codes "pages") 1024 (omega arith),
      numbered_short (codes "budget") 24 (omega arith),
      numbered_short (codes "magazine") 8 (omega arith),
      numbered_short (codes "depot") 4 (omega arith),
    )

pub made_text_is_short : (number : ℕ) → number < 2 ^ 64 → length (made_text number) ≤ 33554432
made_text_is_short number few =
    let header = header_made number in
    let types = map Declares (types_made number 0 0 types_count) in
    let sections = sections_made number 0 (after_types number 0 types_count) 4 in
    omega (
      arith,
      size-append (header ++ types ++ sections ++ order_made) (Ends ∷ []),
      size-append (header ++ types ++ sections) order_made,
      size-append (header ++ types) sections,
      size-append header types,
      header_short number few,
      types_short number 0 0 types_count (omega (arith, types_are)),
      types_are,
      sections_short number 0 (after_types number 0 types_count) 4 (omega arith),
      order_short,
      size-cons Ends [],
    )
