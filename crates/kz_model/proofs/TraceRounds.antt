-- A trace, round by round.
use Rattle.std.proofs.Common.{◌≡◌, ◌≢◌, ◌<◌, ◌≤◌, ℕ, zero, suc, ◌==◌, ◌+◌, ◌-◌, nat_lt, true, false, if◌then◌else◌, List, [], ◌∷◌, ◌++◌, length, slice_index_or, All, Option, refl, ap, sym, ◌∙◌, subst, arith, length-append}
use Rattle.std.specs.List.{filter, filter_map, flat_map, range_with_len, cons_option}
use Rattle.std.specs.List.Sorted.{IsNonDecreasingBy}
use Rattle.std.proofs.lemmas.Grind.{flat_map-append}
use Rattle.std.proofs.lemmas.List.{get_or_append_left, get_or-append-add, get_or_past}
use Rattle.std.proofs.lemmas.List.Sums.{get_or-le-sum_by}
use Rattle.std.proofs.lemmas.List.Elements.{All-get_or, All-head, All-tail, All-weaker, All-nil, filter_map-append}
use Rattle.kz_model.specs.declared.bundle.Bundle.{Bundle}
use Rattle.kz_model.specs.declared.bundle.TraceStep.{TraceStep}
use Rattle.kz_model.specs.Run.Journal.{trace_of, lines_of_round}
use Rattle.kz_model.specs.Grammar.Turns.{is_of_round}
use Rattle.kz_model.specs.Grammar.Valid.{IsStepWithin, IsValid}

-- ---- ranges

pub range_split : (a from m n : ℕ) → a + m ≡ n → range_with_len from n ≡ range_with_len from a ++ range_with_len (from + a) m
range_split zero from m n is =
    let same : n ≡ m = omega arith in
    let at : from ≡ from + 0 = omega arith in
    ap (λ n. range_with_len from n) same ∙ ap (λ from. range_with_len from m) at
range_split (suc a) from m zero is = absurd (omega arith)
range_split (suc a) from m (suc n) is =
    let at : (from + 1) + a ≡ from + suc a = omega arith in
    ap (λ (l : List ℕ). from ∷ l) (range_split a (from + 1) m n (omega arith) ∙ ap (λ next. range_with_len (from + 1) a ++ range_with_len next m) at)

pub range_push : (from n : ℕ) → range_with_len from (n + 1) ≡ range_with_len from n ++ (from + n) ∷ []
range_push from n = range_split n from 1 (n + 1) refl

pub filter_map_push : {A : Type 0} (f : ℕ → Option A) (n : ℕ) → filter_map f (range_with_len 0 (suc n)) ≡ filter_map f (range_with_len 0 n) ++ cons_option (f n) []
filter_map_push f n =
    ap (λ (l : List ℕ). filter_map f l) (range_split n 0 1 (suc n) one_more)
    ∙ filter_map-append f (range_with_len 0 n) (range_with_len (0 + n) 1)
    ∙ ap (λ at. filter_map f (range_with_len 0 n) ++ cons_option (f at) []) from_zero
  where
    one_more : n + 1 ≡ suc n
    one_more = omega arith

    from_zero : 0 + n ≡ n
    from_zero = omega arith

-- ---- rounds

-- the lines of these rounds
abbrev pub by_rounds : List TraceStep → ℕ → ℕ → List TraceStep
by_rounds trace from n = flat_map (λ round. filter (is_of_round round) trace) (range_with_len from n)

no_lines : (n from : ℕ) → by_rounds [] from n ≡ []
no_lines zero from = refl
no_lines (suc n) from = no_lines n (from + 1)

earlier_line : (line : TraceStep) (rest : List TraceStep) (n from : ℕ) → line.round < from → by_rounds (line ∷ rest) from n ≡ by_rounds rest from n
earlier_line line rest zero from lt = refl
earlier_line line rest (suc n) from lt =
    let none : (line.round == from) ≡ false = grind arith in
    ap (λ t. (if t then line ∷ filter (is_of_round from) rest else filter (is_of_round from) rest) ++ by_rounds (line ∷ rest) (from + 1) n) none
    ∙ ap (λ (l : List TraceStep). filter (is_of_round from) rest ++ l) (earlier_line line rest n (from + 1) (omega arith))

none_of_later : (round at : ℕ) (lines : List TraceStep) → at < round → All (λ line. round ≤ line.round) lines → filter (is_of_round at) lines ≡ []
none_of_later round at [] lt later = refl
none_of_later round at (line ∷ lines) lt later =
    let here : round ≤ line.round = All-head (λ (line : TraceStep). round ≤ line.round) line lines later in
    let none : (line.round == at) ≡ false = grind arith in
    ap (λ t. if t then line ∷ filter (is_of_round at) lines else filter (is_of_round at) lines) none
    ∙ none_of_later round at lines lt (All-tail (λ (line : TraceStep). round ≤ line.round) line lines later)

first_line : (line : TraceStep) (rest : List TraceStep) (n from : ℕ) → from ≤ line.round → line.round < from + n → All (λ other. line.round ≤ other.round) rest → by_rounds (line ∷ rest) from n ≡ line ∷ by_rounds rest from n
first_line line rest zero from low high later = absurd (omega arith)
first_line line rest (suc n) from low high later =
    let mine = filter (is_of_round from) rest in
    elim (line.round == from) as (λ t. (line.round == from) ≡ t → (if t then line ∷ mine else mine) ++ by_rounds (line ∷ rest) (from + 1) n ≡ line ∷ (mine ++ by_rounds rest (from + 1) n)) [
      | true ↦ λ e.
          let is : line.round ≡ from = grind arith in
          ap (λ (l : List TraceStep). line ∷ (mine ++ l)) (earlier_line line rest n (from + 1) (omega arith))
      | false ↦ λ e.
          let ne : line.round ≢ from = grind arith in
          let none : mine ≡ [] = none_of_later line.round from rest (omega arith) later in
          ap (λ (l : List TraceStep). l ++ by_rounds (line ∷ rest) (from + 1) n) none
          ∙ first_line line rest n (from + 1) (omega arith) (omega arith) later
          ∙ sym (ap (λ (l : List TraceStep). line ∷ (l ++ by_rounds rest (from + 1) n)) none)
    ] refl

trace_is : (trace : List TraceStep) (n : ℕ) → IsNonDecreasingBy (λ line. line.round) trace → All (λ line. line.round < n) trace → trace ≡ by_rounds trace 0 n
trace_is [] n rising below = sym (no_lines n 0)
trace_is (line ∷ rest) n rising below =
    ap (λ (l : List TraceStep). line ∷ l) (trace_is rest n (λ i j d le lt. rising (suc i) (suc j) d (omega arith) (omega arith)) (All-tail (λ (line : TraceStep). line.round < n) line rest below))
    ∙ sym (first_line line rest n 0 (omega arith) (in_zero (All-head (λ (line : TraceStep). line.round < n) line rest below)) (λ k d lt. rising 0 (suc k) d (omega arith) (omega arith)))
  where
    in_zero : line.round < n → line.round < 0 + n
    in_zero lt = omega arith

-- ---- the traces of a valid bundle

pub short_traces : (b : Bundle) → IsValid b → All (λ trace. length trace ≤ 1000000) b.traces
short_traces b valid = λ k d lt. omega (arith, get_or-le-sum_by (λ (trace : List TraceStep). length trace) b.traces k d lt, valid.few_steps)

-- a CPU that is none of the bundle's has no lines
pub steps_within : (b : Bundle) → IsValid b → (cpu : ℕ) → All (IsStepWithin (length b.names) (length b.types) b.rounds) (trace_of b cpu)
steps_within b valid cpu =
    let P = IsStepWithin (length b.names) (length b.types) b.rounds in
    elim (nat_lt cpu (length b.traces)) as (λ t. nat_lt cpu (length b.traces) ≡ t → All P (trace_of b cpu)) [
      | true ↦ λ e. let lt : cpu < length b.traces = grind arith in All-get_or (All P) b.traces cpu [] lt valid.steps
      | false ↦ λ e. let past : length b.traces ≤ cpu = grind arith in subst (All P) (sym (get_or_past b.traces cpu [] past)) (All-nil P)
    ] refl

in_rounds : (b : Bundle) → IsValid b → (cpu : ℕ) → IsNonDecreasingBy (λ line. line.round) (trace_of b cpu)
in_rounds b valid cpu =
    elim (nat_lt cpu (length b.traces)) as (λ t. nat_lt cpu (length b.traces) ≡ t → IsNonDecreasingBy (λ (line : TraceStep). line.round) (trace_of b cpu)) [
      | true ↦ λ e. let lt : cpu < length b.traces = grind arith in All-get_or (IsNonDecreasingBy (λ (line : TraceStep). line.round)) b.traces cpu [] lt valid.in_rounds
      | false ↦ λ e. let past : length b.traces ≤ cpu = grind arith in subst (IsNonDecreasingBy (λ (line : TraceStep). line.round)) (sym (get_or_past b.traces cpu [] past)) (λ i j d le lt. absurd (omega arith))
    ] refl

pub trace_by_rounds : (b : Bundle) → IsValid b → (cpu : ℕ) → trace_of b cpu ≡ by_rounds (trace_of b cpu) 0 b.rounds
trace_by_rounds b valid cpu =
    trace_is (trace_of b cpu) b.rounds (in_rounds b valid cpu)
    (All-weaker (IsStepWithin (length b.names) (length b.types) b.rounds) (λ (line : TraceStep). line.round < b.rounds) (λ line is. is.round) (trace_of b cpu) (steps_within b valid cpu))

-- a CPU's line by its round and its place in the round
pub record IsPlaced (b : Bundle) (cpu round place : ℕ) : Type 0 where
  pub within : length (by_rounds (trace_of b cpu) 0 round) + place < length (trace_of b cpu)
  pub same : (d : TraceStep) → slice_index_or (trace_of b cpu) (length (by_rounds (trace_of b cpu) 0 round) + place) d ≡ slice_index_or (lines_of_round b cpu round) place d

pub is_placed : (b : Bundle) → IsValid b → (cpu round place : ℕ) → round < b.rounds → place < length (lines_of_round b cpu round) → IsPlaced b cpu round place
is_placed b valid cpu round place lt in' =
    let trace = trace_of b cpu in
    let of_round = λ (round : ℕ). filter (is_of_round round) trace in
    let before = by_rounds trace 0 round in
    let more = b.rounds - round - 1 in
    let here = lines_of_round b cpu round in
    let after = by_rounds trace (0 + round + 1) more in
    let parted : trace ≡ before ++ (filter (is_of_round (0 + round)) trace ++ after) =
    trace_by_rounds b valid cpu
    ∙ ap (λ (rounds : List ℕ). flat_map of_round rounds) (range_split round 0 (suc more) b.rounds (rest round b.rounds lt))
    ∙ flat_map-append of_round (range_with_len 0 round) (range_with_len (0 + round) (suc more)) in
    let now : trace ≡ before ++ (here ++ after) = parted ∙ ap (λ at. before ++ (filter (is_of_round at) trace ++ after)) (same round) in
    record {
      within = subst (λ n. length before + place < n) (sym (ap (λ (l : List TraceStep). length l) now ∙ length-append before (here ++ after) ∙ ap (λ n. length before + n) (length-append here after))) (omega arith);
      same = λ d. ap (λ (l : List TraceStep). slice_index_or l (length before + place) d) now ∙ get_or-append-add before (here ++ after) place d ∙ get_or_append_left here after d place in';
    }
  where
    rest : (round rounds : ℕ) → round < rounds → round + suc (rounds - round - 1) ≡ rounds
    rest round rounds lt = omega arith

    same : (n : ℕ) → 0 + n ≡ n
    same n = omega arith
