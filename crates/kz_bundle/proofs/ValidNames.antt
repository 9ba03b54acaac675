-- What holds of the names and the step lines of a draft in which no name has a fault.
use Rattle.std.proofs.Common.{◌≡◌, ℕ, ◌+◌, ◌≤◌, ◌==◌, true, false, not, fold, List, [], ◌∷◌, ◌++◌, length, map, All, Option, Some, None, refl, arith, if◌then◌else◌, length-append}
use Rattle.std.specs.Option.{option_map_or, IfSome}
use Rattle.std.proofs.lemmas.List.Elements.{All-nil, All-cons, All-head, All-tail, All-push, All-append, All-map}
use Rattle.kz_model.specs.declared.grammar.Cause.TheVariants as cause
use Rattle.kz_model.specs.declared.grammar.Counted.TheVariants as counted
use Rattle.kz_model.specs.declared.grammar.Refusal.{Refusal}
use Rattle.kz_model.specs.Grammar.Tokens.{is as is_text}
use Rattle.kz_model.specs.Grammar.Steps.{NamedStep, Alloc, AllocZero}
use Rattle.kz_model.specs.Grammar.Form.{Section}
use Rattle.kz_model.specs.Grammar.Stages.{else_fault, fault_if, Row, has, row_of, is_there, binds, type_in, name_in, gives_to, with_bound, with_row, CpuLine, of_cpu, lines_from, bound_fault, name_fault, names_from, row_names}
use Rattle.kz_model.specs.Grammar.Spelling.{IsName}
use Rattle.kz_bundle.proofs.OneText.{some_fault, first_none, then_none, right_one, named}
use Rattle.kz_bundle.proofs.ValidLines.{KeepsTo, IsSection}

-- ---- all of a list in parts

all_parts : {A : Type 0} (P : A → Type 0) (xs ys : List A) → All P (xs ++ ys) → All P xs × All P ys
all_parts P [] ys all = (All-nil P, all)
all_parts P (x ∷ xs) ys all = let rest = all_parts P xs ys (All-tail P x (xs ++ ys) all) in (All-cons P x xs (All-head P x (xs ++ ys) all) rest.0, rest.1)

all_mapped : {A B : Type 0} (P : B → Type 0) (f : A → B) (xs : List A) → All P (map f xs) → All (λ x. P (f x)) xs
all_mapped P f [] all = All-nil (λ x. P (f x))
all_mapped P f (x ∷ xs) all = All-cons (λ x. P (f x)) x xs (All-head P (f x) (map f xs) all) (all_mapped P f xs (All-tail P (f x) (map f xs) all))

-- ---- one line

-- its type is among the types, and its name among the names
abbrev pub IsKnown : List (List ℕ) → List (List ℕ) → NamedStep → Type 0
IsKnown types names said = IfSome (type_in said) (λ of. has of types ≡ true) × IfSome (name_in said) (λ name. has name names ≡ true)

known_type : (types : List (List ℕ)) (line : ℕ) (o : Option (List ℕ)) → option_map_or {U = Option Refusal} (λ of. fault_if (not (has of types)) line cause.UnknownType) o None ≡ None → IfSome o (λ of. has of types ≡ true)
known_type types line None e = tt
known_type types line (Some of) e = right_one (has of types) line cause.UnknownType e

known_name : (all : List Row) (line : ℕ) (o : Option (List ℕ)) → option_map_or {U = Option Refusal} (λ name. fault_if (not (is_there (row_of name all))) line cause.UnknownName) o None ≡ None → IfSome o (λ name. has name (row_names all) ≡ true)
known_name all line None e = tt
known_name all line (Some name) e = named name all (right_one (is_there (row_of name all)) line cause.UnknownName e)

-- what a line without a fault says
record IsFaultless (types : List (List ℕ)) (all rows : List Row) (line : CpuLine) : Type 0 where
  known : IsKnown types (row_names all) line.1.said
  bound : bound_fault rows line.1.line line.0 (binds line.1.said) ≡ None

faultless : (types : List (List ℕ)) (all rows : List Row) (line : CpuLine) → name_fault types all rows line ≡ None → IsFaultless types all rows line
faultless types all rows line e =
    let types_none = option_map_or {U = Option Refusal} (λ of. fault_if (not (has of types)) line.1.line cause.UnknownType) (type_in line.1.said) None in
    let names_none = option_map_or {U = Option Refusal} (λ name. fault_if (not (is_there (row_of name all))) line.1.line cause.UnknownName) (name_in line.1.said) None in
    let gift = option_map_or {U = Option Refusal} (λ to. fault_if (to == line.0) line.1.line cause.GiveToSelf) (gives_to line.1.said) None in
    let bound = bound_fault rows line.1.line line.0 (binds line.1.said) in
    let rest = then_none types_none (else_fault bound (else_fault names_none gift)) e in
    record {
      known = (
        known_type types line.1.line (type_in line.1.said) (first_none types_none (else_fault bound (else_fault names_none gift)) e),
        known_name all line.1.line (name_in line.1.said) (first_none names_none gift (then_none bound (else_fault names_none gift) rest)),
      );
      bound = first_none bound (else_fault names_none gift) rest;
    }

-- ---- the rows

-- a row's name is a name, and its type is among these
abbrev pub IsRow : List (List ℕ) → Row → Type 0
IsRow types row = IsName row.name × (has row.of types ≡ true)

pub record AreRows (types : List (List ℕ)) (rows : List Row) : Type 0 where
  pub few : length rows ≤ 100000
  pub each : All (IsRow types) rows

abbrev IsBound : List (List ℕ) → Option (List ℕ × List ℕ) → Type 0
IsBound types o = IfSome o (λ bound. IsName bound.0 × (has bound.1 types ≡ true))

is_bound : (types names : List (List ℕ)) (said : NamedStep) → KeepsTo said → IsKnown types names said → IsBound types (binds said)
is_bound types names (Alloc name of) keeps known = (keeps, known.0)
is_bound types names (AllocZero name of) keeps known = (keeps, known.0)
is_bound types names said keeps known = tt

-- there is room for one more
room : (n : ℕ) (line : ℕ) → n ≤ 100000 → fault_if (n == 100000) line (cause.TooMany counted.Names) ≡ None → n + 1 ≤ 100000
room n line few e =
    elim (n == 100000) as (λ b. (n == 100000) ≡ b → fault_if b line (cause.TooMany counted.Names) ≡ None → n + 1 ≤ 100000) [
      | true ↦ λ full e. some_fault (record { line = line; cause = cause.TooMany counted.Names }) e
      | false ↦ λ full e. grind arith
    ] refl e

row_more : (types : List (List ℕ)) (rows : List Row) (line cpu : ℕ) (o : Option (List ℕ × List ℕ)) → AreRows types rows → IsBound types o → bound_fault rows line cpu o ≡ None → AreRows types (with_bound rows cpu o)
row_more types rows line cpu None are is e = are
row_more types rows line cpu (Some bound) are is e =
    elim (row_of bound.0 rows) as (λ found.
    option_map_or (λ row. else_fault (fault_if (not (is_text bound.1 row.of)) line cause.NameOfTwoTypes) (fault_if (not (row.cpu == cpu)) line cause.NameOfTwoCpus)) found
    (fault_if (length rows == 100000) line (cause.TooMany counted.Names)) ≡ None → AreRows types (if is_there found then rows else rows ++ new ∷ [])) [
      | None ↦ λ e. record { few = one_longer (length rows) (length (rows ++ new ∷ [])) (length-append rows (new ∷ [])) (room (length rows) line are.few e); each = All-push (IsRow types) rows new are.each is }
      | Some row ↦ λ e. are
    ] e
  where
    new : Row
    new = record { name = bound.0; of = bound.1; cpu = cpu }

    one_longer : (n m : ℕ) → m ≡ n + 1 → n + 1 ≤ 100000 → m ≤ 100000
    one_longer n m e h = omega arith

-- ---- all lines

-- each line is known, and so are the rows that stand behind them
pub record AreKnown (types names : List (List ℕ)) (before : List Row) (lines : List CpuLine) : Type 0 where
  pub known : All (λ line. IsKnown types names line.1.said) lines
  pub rows : AreRows types (fold with_row before lines)

pub known_lines : (types : List (List ℕ)) (all rows : List Row) (lines : List CpuLine) → All (λ line. KeepsTo line.1.said) lines → AreRows types rows → names_from types all rows lines ≡ None → AreKnown types (row_names all) rows lines
known_lines types all rows [] keep are e = record { known = All-nil (λ (line : CpuLine). IsKnown types (row_names all) line.1.said); rows = are }
known_lines types all rows (line ∷ lines) keep are e =
    let Keeps : CpuLine → Type 0 = λ line. KeepsTo line.1.said in
    let Known : CpuLine → Type 0 = λ line. IsKnown types (row_names all) line.1.said in
    let one = faultless types all rows line (first_none (name_fault types all rows line) (names_from types all (with_row rows line) lines) e) in
    let bound = is_bound types (row_names all) line.1.said (All-head Keeps line lines keep) one.known in
    let rest = known_lines types all (with_row rows line) lines (All-tail Keeps line lines keep) (row_more types rows line.1.line line.0 (binds line.1.said) are bound one.bound)
    (then_none (name_fault types all rows line) (names_from types all (with_row rows line) lines) e) in
    record { known = All-cons Known line lines one.known rest.known; rows = rest.rows }

-- ---- the lines of sections

pub lines_keep : (cpu : ℕ) (sections : List Section) → All IsSection sections → All (λ line. KeepsTo line.1.said) (lines_from cpu sections)
lines_keep cpu [] all = All-nil (λ (line : CpuLine). KeepsTo line.1.said)
lines_keep cpu (section ∷ sections) all =
    let Keeps : CpuLine → Type 0 = λ line. KeepsTo line.1.said in
    let first = All-head IsSection section sections all in
    All-append Keeps (of_cpu cpu section.steps) (lines_from (cpu + 1) sections) (All-map Keeps (λ line. (cpu, line)) section.steps (λ k d lt. (first.steps k d lt).0))
    (lines_keep (cpu + 1) sections (All-tail IsSection section sections all))

pub sections_known : (types names : List (List ℕ)) (cpu : ℕ) (sections : List Section) → All (λ line. IsKnown types names line.1.said) (lines_from cpu sections) →
    All (λ section. All (λ line. IsKnown types names line.said) section.steps) sections
sections_known types names cpu [] all = All-nil (λ (section : Section). All (λ line. IsKnown types names line.said) section.steps)
sections_known types names cpu (section ∷ sections) all =
    let Known : CpuLine → Type 0 = λ line. IsKnown types names line.1.said in
    let parts = all_parts Known (of_cpu cpu section.steps) (lines_from (cpu + 1) sections) all in
    All-cons (λ (section : Section). All (λ line. IsKnown types names line.said) section.steps) section sections (all_mapped Known (λ line. (cpu, line)) section.steps parts.0) (sections_known types names (cpu + 1) sections parts.1)
