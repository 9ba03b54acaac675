-- Counts of lines that are addressed to a zone.
use Rattle.std.proofs.Common.{◌≡◌, ◌≢◌, ◌<◌, ◌≤◌, ℕ, zero, suc, ◌==◌, ◌+◌, Bool, true, false, if◌then◌else◌, List, [], ◌∷◌, ◌++◌, length, take, drop, slice_index_or, sum_by, refl, ap, sym, ◌∙◌, subst, arith, length-append}
use Rattle.std.proofs.lemmas.List.{take_all, take_more, take-append-drop}
use Rattle.std.proofs.lemmas.List.Elements.{filter-append}
use Rattle.std.proofs.lemmas.List.Sums.{sum_by_more}
use Rattle.kz_model.specs.declared.bundle.Act.{Act}
use Rattle.kz_model.specs.declared.bundle.Bundle.{Bundle}
use Rattle.kz_model.specs.declared.bundle.TraceStep.{TraceStep}
use Rattle.kz_model.specs.declared.step.Step.{Step}
use Rattle.kz_model.specs.declared.record.Plan.{Plan}
use Rattle.kz_model.specs.Run.Journal.{addressed, no_step, steps_among, trace_of}
use Rattle.kz_model.specs.Run.Rooms.{sum_below, lines_among, lines_on, of_kind, kind_among, zone_lines}
use Rattle.kz_model.specs.Grammar.Valid.{IsValid}
use Rattle.kz_model.proofs.Addressed.{steps_among-append}
use Rattle.kz_model.proofs.Sums.{sum_below-le}

-- ---- numbers that are equal and others

pub same_number : (n : ℕ) → (n == n) ≡ true
same_number n = grind arith

pub other_number : (n m : ℕ) → m ≢ n → (n == m) ≡ false
other_number n m ne = grind arith

-- ---- counts

-- a count of lines that adds up
abbrev pub Adds : (List TraceStep → ℕ) → Type 0
Adds count = (xs ys : List TraceStep) → count (xs ++ ys) ≡ count xs + count ys

pub count_within : (count : List TraceStep → ℕ) → Adds count → (lines : List TraceStep) (n : ℕ) → count (take n lines) ≤ count lines
count_within count adds lines n = omega (arith, ap count (take-append-drop n lines), adds (take n lines) (drop n lines))

pub count_more : (count : List TraceStep → ℕ) → Adds count → (lines : List TraceStep) (n : ℕ) → n < length lines → count (take (n + 1) lines) ≡ count (take n lines) + count (slice_index_or lines n no_step ∷ [])
count_more count adds lines n lt = ap count (take_more lines n no_step lt) ∙ adds (take n lines) (slice_index_or lines n no_step ∷ [])

pub lines_add : (b : Bundle) (plan : Plan) (zone : ℕ) → Adds (lines_among b plan zone)
lines_add b plan zone xs ys = ap (λ (l : List Step). length l) (steps_among-append b plan zone xs ys) ∙ length-append (steps_among b plan zone xs) (steps_among b plan zone ys)

pub kind_adds : (b : Bundle) (plan : Plan) (kind : Act → Bool) (zone : ℕ) → Adds (kind_among b plan kind zone)
kind_adds b plan kind zone xs ys = ap (lines_among b plan zone) (filter-append (λ (line : TraceStep). kind line.act) xs ys) ∙ lines_add b plan zone (of_kind kind xs) (of_kind kind ys)

-- one line, on its zone and on others
pub line_here : (b : Bundle) (plan : Plan) (line : TraceStep) → lines_among b plan (addressed b plan line.act).0 (line ∷ []) ≡ 1
line_here b plan line = let there = addressed b plan line.act in ap (λ t. length (if t then there.1 ∷ [] else [])) (same_number there.0)

pub line_away : (b : Bundle) (plan : Plan) (zone : ℕ) (line : TraceStep) → zone ≢ (addressed b plan line.act).0 → lines_among b plan zone (line ∷ []) ≡ 0
line_away b plan zone line ne = let there = addressed b plan line.act in ap (λ t. length (if t then there.1 ∷ [] else [])) (other_number there.0 zone ne)

pub kind_here : (b : Bundle) (plan : Plan) (kind : Act → Bool) (line : TraceStep) → kind_among b plan kind (addressed b plan line.act).0 (line ∷ []) ≡ (if kind line.act then 1 else 0)
kind_here b plan kind line =
    elim (kind line.act) as (λ is. lines_among b plan (addressed b plan line.act).0 (if is then line ∷ [] else []) ≡ (if is then 1 else 0)) [
      | true ↦ line_here b plan line
      | false ↦ refl
    ]

-- no more lines are of a kind than there are
pub kind_within : (b : Bundle) (plan : Plan) (kind : Act → Bool) (zone : ℕ) (lines : List TraceStep) → kind_among b plan kind zone lines ≤ lines_among b plan zone lines
kind_within b plan kind zone [] = omega arith
kind_within b plan kind zone (line ∷ lines) =
    let there = addressed b plan line.act in
    let few = kind_within b plan kind zone lines in
    let some = steps_among b plan zone (of_kind kind lines) in
    let all = steps_among b plan zone lines in
    elim (kind line.act) as (λ is. lines_among b plan zone (if is then line ∷ of_kind kind lines else of_kind kind lines) ≤ length (if there.0 == zone then there.1 ∷ all else all)) [
      | true ↦ elim (there.0 == zone) as (λ t. length (if t then there.1 ∷ some else some) ≤ length (if t then there.1 ∷ all else all)) [ true ↦ omega (arith, few) | false ↦ few ]
      | false ↦ elim (there.0 == zone) as (λ t. length some ≤ length (if t then there.1 ∷ all else all)) [ true ↦ omega (arith, few) | false ↦ few ]
    ]

-- ---- lines of all CPUs

-- a sum over the places of a list
sum_by_places : {X : Type 0} (f : X → ℕ) (xs : List X) (d : X) (n : ℕ) → n ≤ length xs → sum_below (λ k. f (slice_index_or xs k d)) n ≡ sum_by f (take n xs)
sum_by_places f xs d zero le = refl
sum_by_places f xs d (suc n) le =
    let more = sum_by_places f xs d n (omega arith) in
    ap (λ m. m + f (slice_index_or xs n d)) more ∙ sym (sum_by_more f xs n d (omega arith)) ∙ ap (λ n. sum_by f (take n xs)) (one_more n)
  where
    one_more : (n : ℕ) → n + 1 ≡ suc n
    one_more n = omega arith

steps_few : (b : Bundle) (plan : Plan) (zone : ℕ) (lines : List TraceStep) → length (steps_among b plan zone lines) ≤ length lines
steps_few b plan zone [] = omega arith
steps_few b plan zone (line ∷ lines) =
    let there = addressed b plan line.act in
    elim (there.0 == zone) as (λ t. length (if t then there.1 ∷ steps_among b plan zone lines else steps_among b plan zone lines) ≤ suc (length lines)) [
      | true ↦ omega (arith, steps_few b plan zone lines)
      | false ↦ omega (arith, steps_few b plan zone lines)
    ]

pub lines_are_few : (b : Bundle) (plan : Plan) (zone : ℕ) → IsValid b → zone_lines b plan zone ≤ sum_by length b.traces
lines_are_few b plan zone valid =
    let all : sum_below (λ cpu. length (trace_of b cpu)) b.cpus ≡ sum_by length b.traces =
    sum_by_places length b.traces [] b.cpus (few valid.traces) ∙ ap (λ (l : List (List TraceStep)). sum_by length l) (take_all b.cpus b.traces (enough valid.traces)) in
    subst (λ n. zone_lines b plan zone ≤ n) all (sum_below-le (lines_on b plan zone) (λ cpu. length (trace_of b cpu)) b.cpus (λ cpu lt. steps_few b plan zone (trace_of b cpu)))
  where
    few : length b.traces ≡ b.cpus → b.cpus ≤ length b.traces
    few e = omega arith

    enough : length b.traces ≡ b.cpus → length b.traces ≤ b.cpus
    enough e = omega arith
