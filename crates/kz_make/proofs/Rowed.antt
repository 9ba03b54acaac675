-- The names of a made bundle: no line has a fault in them.
use Rattle.std.proofs.Common.{◌≡◌, ◌≢◌, ℕ, zero, suc, ◌+◌, ◌^◌, ◌<◌, ◌≤◌, ◌==◌, ◌||◌, not, Bool, true, false, fold, List, [], ◌∷◌, ◌++◌, length, map, All, Option, Some, None, refl, ap, sym, ◌∙◌, arith, subst, if◌then◌else◌, append_assoc, append-nil, length-append}
use Rattle.std.specs.Option.{option_map_or, IfSome}
use Rattle.std.proofs.lemmas.List.Elements.{All-nil, All-cons, All-head, All-tail, All-push}
use Rattle.kz_model.specs.declared.grammar.Cause.TheVariants as cause
use Rattle.kz_model.specs.declared.grammar.Counted.TheVariants as counted
use Rattle.kz_model.specs.declared.grammar.Refusal.{Refusal}
use Rattle.kz_model.specs.Grammar.Tokens.{is}
use Rattle.kz_model.specs.Grammar.Steps.{NamedStep}
use Rattle.kz_model.specs.Grammar.Stages.{else_fault, fault_if, Row, has, row_of, is_there, binds, type_in, name_in, gives_to, with_bound, with_row, CpuLine, rows_of, bound_fault, name_fault, names_from}
use Rattle.kz_model.specs.Text.Made.{name_text, type_text, type_of_made}
use Rattle.kz_bundle.proofs.Choices.{is_same, is_itself}
use Rattle.kz_make.proofs.Naming.{names_same}
use Rattle.kz_make.proofs.NamedStepsMade.{IsBoundBy, IsTypeOfMade, IsNameOfMade, IsStepOf}

-- ---- a name stays among the rows

row_of-append : (name : List ℕ) (rows more : List Row) → is_there (row_of name rows) ≡ true → is_there (row_of name (rows ++ more)) ≡ true
row_of-append name [] more e = absurd (wrong e)
  where
    wrong : false ≡ true → ⊥
    wrong e = cc
row_of-append name (row ∷ rows) more e =
    elim (is name row.name) as (λ b. is_there (if b then Some row else row_of name rows) ≡ true → is_there (if b then Some row else row_of name (rows ++ more)) ≡ true) [
      | true ↦ λ e. refl
      | false ↦ λ e. row_of-append name rows more e
    ] e

row_of-push : (name of : List ℕ) (cpu : ℕ) (rows : List Row) → is_there (row_of name (rows ++ record { name = name; of = of; cpu = cpu } ∷ [])) ≡ true
row_of-push name of cpu [] = ap (λ b. is_there {A = Row} (if b then Some (record { name = name; of = of; cpu = cpu }) else None)) (is_itself name)
row_of-push name of cpu (row ∷ rows) =
    elim (is name row.name) as (λ b. is_there (if b then Some row else row_of name (rows ++ record { name = name; of = of; cpu = cpu } ∷ [])) ≡ true) [ true ↦ refl | false ↦ row_of-push name of cpu rows ]

stays : (name : List ℕ) (rows : List Row) (cpu : ℕ) (o : Option (List ℕ × List ℕ)) → is_there (row_of name rows) ≡ true → is_there (row_of name (with_bound rows cpu o)) ≡ true
stays name rows cpu None e = e
stays name rows cpu (Some bound) e =
    elim (is_there (row_of bound.0 rows)) as (λ b. is_there (row_of name (if b then rows else rows ++ record { name = bound.0; of = bound.1; cpu = cpu } ∷ [])) ≡ true) [
      | true ↦ e
      | false ↦ row_of-append name rows (record { name = bound.0; of = bound.1; cpu = cpu } ∷ []) e
    ]

pub stays_on : (name : List ℕ) (rows : List Row) (lines : List CpuLine) → is_there (row_of name rows) ≡ true → is_there (row_of name (fold with_row rows lines)) ≡ true
stays_on name rows [] e = e
stays_on name rows (line ∷ lines) e = stays_on name (with_row rows line) lines (stays name rows line.0 (binds line.1.said) e)

comes : (name of : List ℕ) (rows : List Row) (cpu : ℕ) → is_there (row_of name (with_bound rows cpu (Some (name, of)))) ≡ true
comes name of rows cpu = by_there (is_there (row_of name rows)) refl
  where
    by_there : (b : Bool) → is_there (row_of name rows) ≡ b → is_there (row_of name (if b then rows else rows ++ record { name = name; of = of; cpu = cpu } ∷ [])) ≡ true
    by_there true e = e
    by_there false e = row_of-push name of cpu rows

-- a line among these that binds the name
pub record IsBoundIn (name : List ℕ) (lines : List CpuLine) : Type 0 where
  pub before : List CpuLine
  pub line : CpuLine
  pub after : List CpuLine
  pub of : List ℕ
  pub parts : lines ≡ before ++ line ∷ after
  pub binds_it : binds line.1.said ≡ Some (name, of)

pub bound_left : (name : List ℕ) (xs ys : List CpuLine) → IsBoundIn name xs → IsBoundIn name (xs ++ ys)
bound_left name xs ys b = record {
  before = b.before;
  line = b.line;
  after = b.after ++ ys;
  of = b.of;
  parts = ap (λ (lines : List CpuLine). lines ++ ys) b.parts ∙ append_assoc b.before (b.line ∷ b.after) ys;
  binds_it = b.binds_it;
}

pub bound_right : (name : List ℕ) (xs ys : List CpuLine) → IsBoundIn name ys → IsBoundIn name (xs ++ ys)
bound_right name xs ys b = record {
  before = xs ++ b.before;
  line = b.line;
  after = b.after;
  of = b.of;
  parts = ap (λ (lines : List CpuLine). xs ++ lines) b.parts ∙ sym (append_assoc xs b.before (b.line ∷ b.after));
  binds_it = b.binds_it;
}

fold-append : (rows : List Row) (xs ys : List CpuLine) → fold with_row rows (xs ++ ys) ≡ fold with_row (fold with_row rows xs) ys
fold-append rows [] ys = refl
fold-append rows (x ∷ xs) ys = fold-append (with_row rows x) xs ys

pub is_known : (name : List ℕ) (lines : List CpuLine) → IsBoundIn name lines → is_there (row_of name (rows_of lines)) ≡ true
is_known name lines b =
    let before = rows_of b.before in
    let here : is_there (row_of name (with_row before b.line)) ≡ true = subst (λ o. is_there (row_of name (with_bound before b.line.0 o)) ≡ true) (sym b.binds_it) (comes name b.of before b.line.0) in
    ap (λ rows. is_there (row_of name rows)) (ap rows_of b.parts ∙ fold-append [] b.before (b.line ∷ b.after)) ∙ stays_on name (with_row before b.line) b.after here

-- ---- the rows are those of names with their types

pub record IsRowOfMade (row : Row) : Type 0 where
  pub few : row.cpu < 4
  pub bound : IsBoundBy row.cpu row.name row.of

-- a line of a CPU's step
pub record IsLineOfMade (line : CpuLine) : Type 0 where
  pub few : line.0 < 4
  pub step : IsStepOf line.0 line.1.said

with_bound_made : (rows : List Row) (cpu : ℕ) (o : Option (List ℕ × List ℕ)) → cpu < 4 → IfSome o (λ b. IsBoundBy cpu b.0 b.1) → All IsRowOfMade rows → All IsRowOfMade (with_bound rows cpu o)
with_bound_made rows cpu None few bound all = all
with_bound_made rows cpu (Some b) few bound all =
    elim (is_there (row_of b.0 rows)) as (λ there. All IsRowOfMade (if there then rows else rows ++ record { name = b.0; of = b.1; cpu = cpu } ∷ [])) [
      | true ↦ all
      | false ↦ All-push IsRowOfMade rows (record { name = b.0; of = b.1; cpu = cpu }) all (record { few = few; bound = bound })
    ]

with_bound_few : (rows : List Row) (cpu : ℕ) (o : Option (List ℕ × List ℕ)) → length (with_bound rows cpu o) ≤ length rows + 1
with_bound_few rows cpu None = omega arith
with_bound_few rows cpu (Some b) =
    elim (is_there (row_of b.0 rows)) as (λ there. length (if there then rows else rows ++ record { name = b.0; of = b.1; cpu = cpu } ∷ []) ≤ length rows + 1) [
      | true ↦ omega arith
      | false ↦ omega (arith, length-append rows (record { name = b.0; of = b.1; cpu = cpu } ∷ []))
    ]

-- ---- no line has a fault

-- the row that is found is one of these, and has the name
record IsFound (name : List ℕ) (row : Row) : Type 0 where
  made : IsRowOfMade row
  name_is : row.name ≡ name

found : (name : List ℕ) (rows : List Row) → All IsRowOfMade rows → IfSome (row_of name rows) (IsFound name)
found name [] all = tt
found name (row ∷ rows) all = by_name (is name row.name) refl (found name rows (All-tail IsRowOfMade row rows all))
  where
    by_name : (b : Bool) → is name row.name ≡ b → IfSome (row_of name rows) (IsFound name) → IfSome (if b then Some row else row_of name rows) (IsFound name)
    by_name true e rest = record { made = All-head IsRowOfMade row rows all; name_is = is_same name row.name e }
    by_name false e rest = rest

same_type : (cpu k : ℕ) (of : List ℕ) → of ≡ type_of_made cpu k → is (type_of_made cpu k) of ≡ true
same_type cpu k of e = ap (is (type_of_made cpu k)) e ∙ is_itself (type_of_made cpu k)

no_bound_fault : (rows : List Row) (line cpu : ℕ) (o : Option (List ℕ × List ℕ)) → cpu < 4 → length rows < 100000 → All IsRowOfMade rows → IfSome o (λ b. IsBoundBy cpu b.0 b.1) → bound_fault rows line cpu o ≡ None
no_bound_fault rows line cpu None few short all bound = refl
no_bound_fault rows line cpu (Some b) few short all bound = by_row (row_of b.0 rows) (found b.0 rows all)
  where
    room : (length rows == 100000) ≡ false
    room = grind arith

    by_row : (o : Option Row) → IfSome o (IsFound b.0) →
        option_map_or (λ row. else_fault (fault_if (not (is b.1 row.of)) line cause.NameOfTwoTypes) (fault_if (not (row.cpu == cpu)) line cause.NameOfTwoCpus)) o (fault_if (length rows == 100000) line (cause.TooMany counted.Names)) ≡ None
    by_row None f = ap (λ t. fault_if t line (cause.TooMany counted.Names)) room
    by_row (Some row) f =
        let same = names_same row.cpu f.made.bound.k cpu bound.k f.made.few few (omega (arith, f.made.bound.few)) (omega (arith, bound.few)) (sym f.made.bound.name_is ∙ f.name_is ∙ bound.name_is) in
        let types : is b.1 row.of ≡ true =
        ap (λ of. is of row.of) bound.type_is ∙ same_type cpu bound.k row.of (f.made.bound.type_is ∙ ap (λ c. type_of_made c f.made.bound.k) same.cpus ∙ ap (type_of_made cpu) same.numbers) in
        let cpus : (row.cpu == cpu) ≡ true = let e = same.cpus in grind arith in
        ap (λ t. else_fault (fault_if (not t) line cause.NameOfTwoTypes) (fault_if (not (row.cpu == cpu)) line cause.NameOfTwoCpus)) types ∙ ap (λ t. fault_if (not t) line cause.NameOfTwoCpus) cpus

module _ (types : List (List ℕ)) (all : List Row) (types_known : (t : ℕ) → t < 40 → has (type_text t) types ≡ true)
    (names_known : (cpu k : ℕ) → cpu < 4 → k < 250 → is_there (row_of (name_text cpu k) all) ≡ true) where
  no_type_fault : (line : ℕ) (o : Option (List ℕ)) → IfSome o IsTypeOfMade → option_map_or {U = Option Refusal} (λ of. fault_if (not (has of types)) line cause.UnknownType) o None ≡ None
  no_type_fault line None is = refl
  no_type_fault line (Some of) is = ap (λ t. fault_if (not t) line cause.UnknownType) (ap (λ of. has of types) is.type_is ∙ types_known is.t is.few)

  no_name_fault : (line : ℕ) (o : Option (List ℕ)) → IfSome o IsNameOfMade → option_map_or {U = Option Refusal} (λ name. fault_if (not (is_there (row_of name all))) line cause.UnknownName) o None ≡ None
  no_name_fault line None is = refl
  no_name_fault line (Some name) is = ap (λ t. fault_if (not t) line cause.UnknownName) (ap (λ name. is_there (row_of name all)) is.name_is ∙ names_known is.cpu is.k is.few_cpus is.few)

  no_gift_fault : (line cpu : ℕ) (o : Option ℕ) → IfSome o (λ to. to ≢ cpu) → option_map_or {U = Option Refusal} (λ to. fault_if (to == cpu) line cause.GiveToSelf) o None ≡ None
  no_gift_fault line cpu None other = refl
  no_gift_fault line cpu (Some to) other = ap (λ t. fault_if t line cause.GiveToSelf) differs
    where
      differs : (to == cpu) ≡ false
      differs = grind arith

  none_of_four : (a b c d : Option Refusal) → a ≡ None → b ≡ None → c ≡ None → d ≡ None → else_fault a (else_fault b (else_fault c d)) ≡ None
  none_of_four a b c d e f g h = rw (e, f, g, h) refl

  no_line_fault : (rows : List Row) (line : CpuLine) → length rows < 100000 → All IsRowOfMade rows → IsLineOfMade line → name_fault types all rows line ≡ None
  no_line_fault rows line short made is =
      none_of_four _ _ _ _ (no_type_fault line.1.line (type_in line.1.said) is.step.of) (no_bound_fault rows line.1.line line.0 (binds line.1.said) is.few short made is.step.bound)
      (no_name_fault line.1.line (name_in line.1.said) is.step.name) (no_gift_fault line.1.line line.0 (gives_to line.1.said) is.step.gives)

  pub no_names_fault : (rows : List Row) (lines : List CpuLine) → length rows + length lines ≤ 100000 → All IsRowOfMade rows → All IsLineOfMade lines → names_from types all rows lines ≡ None
  no_names_fault rows [] short made are = refl
  no_names_fault rows (line ∷ lines) short made are =
      let is = All-head IsLineOfMade line lines are in
      let first = no_line_fault rows line (omega (arith, short)) made is in
      let rest = no_names_fault (with_row rows line) lines (omega (arith, short, with_bound_few rows line.0 (binds line.1.said))) (with_bound_made rows line.0 (binds line.1.said) is.few is.step.bound made) (All-tail IsLineOfMade line lines are) in
      ap (λ o. else_fault o (names_from types all (with_row rows line) lines)) first ∙ rest
