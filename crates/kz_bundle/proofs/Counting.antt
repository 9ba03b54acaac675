-- Lines are counted one by one.
use Rattle.std.proofs.Common.{◌≡◌, ◌≢◌, ℕ, ◌+◌, ◌<◌, ◌≤◌, ◌==◌, nat_lt, true, false, cond, Bool, List, [], ◌∷◌, length, map, replicate, sum, take, slice_index, slice_index_or, slice_set, Some, None, refl, ap, sym, ◌∙◌, subst, arith, inl, inr}
use Rattle.std.proofs.Math.Seq.{take-length}
use Rattle.std.proofs.lemmas.Bool.{cases_eq}
use Rattle.std.proofs.lemmas.Bool.Decides.{nat_tests}
use Rattle.std.proofs.lemmas.List.{get_or-replicate, length-replicate}
use Rattle.std.proofs.lemmas.List.FromFn.{fill_by_all, get_or-map-range_with_len, length-map-range_with_len}
use Rattle.std.specs.List.{range_with_len}
use Rattle.kz_model.specs.declared.bundle.Act.{Act}
use Rattle.kz_model.specs.declared.bundle.Act.TheVariants as act
use Rattle.kz_model.specs.declared.bundle.Bundle.{Bundle}
use Rattle.kz_model.specs.declared.bundle.TraceStep.{TraceStep}
use Rattle.kz_model.specs.declared.record.Plan.{Plan}
use Rattle.kz_model.specs.declared.step.Step.{Step}
use Rattle.kz_model.specs.Run.Rooms.{sum_below, is_allocating, is_giving, kind_among}
use Rattle.kz_model.specs.Run.Journal.{addressed, trace_of}
use Rattle.kz_model.specs.Types.Planned.{IsPlanned}
use Rattle.kz_model.specs.Run.Rooms.{lines_among, lines_on, steps_on}
use Rattle.kz_model.specs.Run.Journal.{no_step}
use Rattle.kz_model.specs.Grammar.Valid.{IsValid}
use Rattle.kz_model.proofs.LineCounts.{Adds}
use Rattle.kz_model.proofs.LineCounts.{count_within, count_more, lines_add, kind_adds, line_here, line_away, kind_here, kind_within}
use Rattle.kz_model.proofs.LineCounts.{lines_are_few}
use Rattle.kz_model.proofs.Sums.{sum_below-same, sum_below-zero, sum_below-le, sum_below-one, sum_below-set, sum_range}
use Rattle.kz_bundle.specs.declared.planned.counts.ZoneLines.{ZoneLines}
use Rattle.kz_bundle.specs.Counted.{allocations_in, counted, counted_on, gifts_in, lines_before, no_lines, one_more}
use Rattle.kz_bundle.proofs.InRange.{range_alike, range_set}
use Rattle.kz_bundle.proofs.Zoned.{planned_is_valid, zone_there}

abbrev lines_of : List ℕ → ℕ → ℕ → ZoneLines
lines_of by_cpu allocating giving = record { by_cpu = by_cpu; allocating = allocating; giving = giving }

lines_alike : (xs ys : List ℕ) (k l m n : ℕ) → xs ≡ ys → k ≡ l → m ≡ n → lines_of xs k m ≡ lines_of ys l n
lines_alike xs ys k l m n e f g = ap (λ xs. lines_of xs k m) e ∙ ap (λ k. lines_of ys k m) f ∙ ap (lines_of ys l) g

-- ---- the lines so far

lines-here : (b : Bundle) (cpu at : ℕ) → lines_before b cpu at cpu ≡ take at (trace_of b cpu)
lines-here b cpu at =
    let below : nat_lt cpu cpu ≡ false = grind (arith, nat_tests) in
    let same : (cpu == cpu) ≡ true = grind (arith, nat_tests) in
    rw (below, same) refl

lines-apart : (b : Bundle) (cpu at more other : ℕ) → other ≢ cpu → lines_before b cpu at other ≡ lines_before b cpu more other
lines-apart b cpu at more other apart =
    let same : (other == cpu) ≡ false = grind (arith, nat_tests) in
    rw same refl

-- a count of them is no more than that of all lines
module _ (b : Bundle) (count : List TraceStep → ℕ) (adds : Adds count) where
  abbrev of_test : Bool → Bool → ℕ → ℕ → List TraceStep
  of_test before here at other = cond before (trace_of b other) (cond here (take at (trace_of b other)) [])

  within_by : (before here : Bool) (at other : ℕ) → count (of_test before here at other) ≤ count (trace_of b other)
  within_by true here at other = omega arith
  within_by false true at other = count_within count adds (trace_of b other) at
  within_by false false at other = omega (arith, adds [] [])

  count_before : (cpu at other : ℕ) → count (lines_before b cpu at other) ≤ count (trace_of b other)
  count_before cpu at other = within_by (nat_lt other cpu) (other == cpu) at other

-- all CPUs' lines on a zone are among those of the bundle
few_on : (b : Bundle) (plan : Plan) (zone : ℕ) (lines : ℕ → List TraceStep) (count : List TraceStep → ℕ) → IsValid b → ((cpu : ℕ) → count (lines cpu) ≤ lines_among b plan zone (trace_of b cpu)) →
    sum_below (λ cpu. count (lines cpu)) b.cpus ≤ 1000000
few_on b plan zone lines count is within =
    omega (arith, sum_below-le (λ cpu. count (lines cpu)) (lines_on b plan zone) b.cpus (λ cpu lt. within cpu), lines_are_few b plan zone is, is.few_steps)

pub few_lines : (b : Bundle) (plan : Plan) (cpu at zone : ℕ) → IsValid b → sum_below (λ k. lines_among b plan zone (lines_before b cpu at k)) b.cpus ≤ 1000000
few_lines b plan cpu at zone is = few_on b plan zone (lines_before b cpu at) (lines_among b plan zone) is (count_before b (lines_among b plan zone) (lines_add b plan zone) cpu at)

pub few_of : (b : Bundle) (plan : Plan) (kind : Act → Bool) (cpu at zone : ℕ) → IsValid b → sum_below (λ k. kind_among b plan kind zone (lines_before b cpu at k)) b.cpus ≤ 1000000
few_of b plan kind cpu at zone is =
    few_on b plan zone (lines_before b cpu at) (kind_among b plan kind zone) is
    (λ k. let all = count_before b (kind_among b plan kind zone) (kind_adds b plan kind zone) cpu at k in omega (arith, all, kind_within b plan kind zone (trace_of b k)))

-- ---- one line more

-- counts with room for one more line of a CPU
pub record AreFew (cpu : ℕ) (counts : ZoneLines) : Type 0 where
  pub there : cpu < length counts.by_cpu
  pub lines : slice_index counts.by_cpu cpu ≤ 1000000
  pub allocating : counts.allocating ≤ 1000000
  pub giving : counts.giving ≤ 1000000

allocates : (b : Bundle) (plan : Plan) (line : Act) → cond (is_allocating line) 1 0 ≡ allocations_in (addressed b plan line).1
allocates b plan (act.Free name None) = refl
allocates b plan (act.Free name (Some of)) = refl
allocates b plan line = refl

gives : (b : Bundle) (plan : Plan) (line : Act) → cond (is_giving line) 1 0 ≡ gifts_in (addressed b plan line).1
gives b plan (act.Free name None) = refl
gives b plan (act.Free name (Some of)) = refl
gives b plan line = refl

module _ (b : Bundle) (plan : Plan) (cpu at : ℕ) (low : cpu < b.cpus) (inside : at < length (trace_of b cpu)) where
  abbrev line : TraceStep
  line = slice_index_or (trace_of b cpu) at no_step

  abbrev there : ℕ × Step
  there = addressed b plan line.act

  abbrev before : ℕ → List TraceStep
  before = lines_before b cpu at

  abbrev after : ℕ → List TraceStep
  after = lines_before b cpu (at + 1)

  module _ (count : List TraceStep → ℕ) (adds : Adds count) where
    count_here : count (after cpu) ≡ count (before cpu) + count (line ∷ [])
    count_here = ap count (lines-here b cpu (at + 1)) ∙ count_more count adds (trace_of b cpu) at inside ∙ ap (λ lines. count lines + count (line ∷ [])) (sym (lines-here b cpu at))

    count_apart : (other : ℕ) → other ≢ cpu → count (after other) ≡ count (before other)
    count_apart other apart = ap count (lines-apart b cpu (at + 1) at other apart)

    count_all : sum_below (λ k. count (after k)) b.cpus ≡ sum_below (λ k. count (before k)) b.cpus + count (line ∷ [])
    count_all = omega (arith, sum_below-set (λ k. count (before k)) (λ k. count (after k)) b.cpus cpu low (λ k lt apart. count_apart k apart), count_here)

    count_none : count (line ∷ []) ≡ 0 → (other : ℕ) → count (before other) ≡ count (after other)
    count_none none other = elim (cases_eq other cpu) [
      | inl same ↦ ap (λ k. count (before k)) same ∙ omega (arith, count_here, none) ∙ sym (ap (λ k. count (after k)) same)
      | inr apart ↦ sym (count_apart other apart)
    ]

  -- on the line's own zone
  counted_here : one_more cpu there.1 (counted_on b plan before there.0) ≡ counted_on b plan after there.0
  counted_here =
      let lines : List TraceStep → ℕ = lines_among b plan there.0 in
      let first : slice_index (map (λ k. lines (before k)) (range_with_len 0 b.cpus)) cpu ≡ lines (before cpu) = get_or-map-range_with_len (λ k. lines (before k)) 0 b.cpus cpu cpu 0 low (omega arith) in
      let one : lines (after cpu) ≡ lines (before cpu) + 1 = count_here lines (lines_add b plan there.0) ∙ ap (λ n. lines (before cpu) + n) (line_here b plan line) in
      lines_alike _ _ _ _ _ _
      (range_set (λ k. lines (before k)) (λ k. lines (after k)) b.cpus cpu (slice_index (map (λ k. lines (before k)) (range_with_len 0 b.cpus)) cpu + 1) low (ap (λ n. n + 1) first ∙ sym one)
      (λ k lt apart. sym (count_apart lines (lines_add b plan there.0) k apart)))
      (of_kind is_allocating (allocations_in there.1) (allocates b plan line.act))
      (of_kind is_giving (gifts_in there.1) (gives b plan line.act))
    where
      of_kind : (kind : Act → Bool) (n : ℕ) → cond (kind line.act) 1 0 ≡ n →
          sum_below (λ k. kind_among b plan kind there.0 (before k)) b.cpus + n ≡ sum_below (λ k. kind_among b plan kind there.0 (after k)) b.cpus
      of_kind kind n is = omega (arith, count_all (kind_among b plan kind there.0) (kind_adds b plan kind there.0), kind_here b plan kind line, is)

  -- on another zone
  counted_away : (zone : ℕ) → zone ≢ there.0 → counted_on b plan before zone ≡ counted_on b plan after zone
  counted_away zone away =
      let none : lines_among b plan zone (line ∷ []) ≡ 0 = line_away b plan zone line away in
      lines_alike _ _ _ _ _ _
      (range_alike (λ k. lines_among b plan zone (before k)) (λ k. lines_among b plan zone (after k)) b.cpus (λ k lt. count_none (lines_among b plan zone) (lines_add b plan zone) none k))
      (of_kind is_allocating)
      (of_kind is_giving)
    where
      of_kind : (kind : Act → Bool) → sum_below (λ k. kind_among b plan kind zone (before k)) b.cpus ≡ sum_below (λ k. kind_among b plan kind zone (after k)) b.cpus
      of_kind kind =
          let none : kind_among b plan kind zone (line ∷ []) ≡ 0 = omega (arith, kind_within b plan kind zone (line ∷ []), line_away b plan zone line away) in
          sum_below-same (λ k. kind_among b plan kind zone (before k)) (λ k. kind_among b plan kind zone (after k)) b.cpus (λ k lt. count_none (kind_among b plan kind zone) (kind_adds b plan kind zone) none k)

  pub counted_more : there.0 < length plan.zones → slice_set (counted b plan before) there.0 (one_more cpu there.1 (counted_on b plan before there.0)) ≡ counted b plan after
  counted_more within = range_set (counted_on b plan before) (counted_on b plan after) (length plan.zones) there.0 (one_more cpu there.1 (counted_on b plan before there.0)) within counted_here (λ k lt away. counted_away k away)

-- ---- the table

module _ (b : Bundle) (plan : Plan) (cpu at : ℕ) (table : List ZoneLines) (planned : IsPlanned b plan) (low : cpu < b.cpus) (inside : at < length (trace_of b cpu))
    (are : table ≡ counted b plan (lines_before b cpu at)) (found : ℕ × Step) (is_found : found ≡ addressed b plan (slice_index_or (trace_of b cpu) at no_step).act) where
  in_zones : found.0 < length plan.zones
  in_zones = zone_there b plan cpu at found planned inside is_found

  pub found_within : found.0 < length table
  found_within = omega (arith, in_zones, ap length are, length-map-range_with_len (counted_on b plan (lines_before b cpu at)) 0 (length plan.zones))

  module _ (old : ZoneLines) where
    row_is : slice_index_or table found.0 old ≡ counted_on b plan (lines_before b cpu at) found.0
    row_is = ap (λ (table : List ZoneLines). slice_index_or table found.0 old) are ∙ get_or-map-range_with_len (counted_on b plan (lines_before b cpu at)) 0 (length plan.zones) found.0 found.0 old in_zones (omega arith)

    -- there is room for one more
    pub row_few : AreFew cpu (slice_index_or table found.0 old)
    row_few =
        let lines : ℕ → ℕ = λ k. lines_among b plan found.0 (lines_before b cpu at k) in
        let long = length-map-range_with_len lines 0 b.cpus in
        let mine = get_or-map-range_with_len lines 0 b.cpus cpu cpu 0 low (omega arith) in
        subst (AreFew cpu) (sym row_is)
        (record {
          there = omega (arith, long, low);
          lines = omega (arith, mine, sum_below-one lines b.cpus cpu low, few_lines b plan cpu at found.0 (planned_is_valid planned));
          allocating = few_of b plan is_allocating cpu at found.0 (planned_is_valid planned);
          giving = few_of b plan is_giving cpu at found.0 (planned_is_valid planned);
        })

    pub row_counted : slice_set table found.0 (one_more cpu found.1 (slice_index_or table found.0 old)) ≡ counted b plan (lines_before b cpu (at + 1))
    row_counted =
        ap (λ lines. slice_set table found.0 (one_more cpu found.1 lines)) row_is
        ∙ ap (λ (table : List ZoneLines). slice_set table found.0 (one_more cpu found.1 (counted_on b plan (lines_before b cpu at) found.0))) are
        ∙ ap (λ (t : ℕ × Step). slice_set (counted b plan (lines_before b cpu at)) t.0 (one_more cpu t.1 (counted_on b plan (lines_before b cpu at) t.0))) is_found
        ∙ counted_more b plan cpu at low inside (subst (λ (t : ℕ × Step). t.0 < length plan.zones) is_found in_zones)

-- ---- first and last

counted_same : (b : Bundle) (plan : Plan) (lines other : ℕ → List TraceStep) → ((cpu : ℕ) → cpu < b.cpus → lines cpu ≡ other cpu) → counted b plan lines ≡ counted b plan other
counted_same b plan lines other same =
    range_alike (counted_on b plan lines) (counted_on b plan other) (length plan.zones)
    (λ zone lt. lines_alike _ _ _ _ _ _
    (range_alike (λ cpu. lines_among b plan zone (lines cpu)) (λ cpu. lines_among b plan zone (other cpu)) b.cpus (λ cpu low. ap (lines_among b plan zone) (same cpu low)))
    (of_kind zone is_allocating)
    (of_kind zone is_giving))
  where
    of_kind : (zone : ℕ) (kind : Act → Bool) → sum_below (λ cpu. kind_among b plan kind zone (lines cpu)) b.cpus ≡ sum_below (λ cpu. kind_among b plan kind zone (other cpu)) b.cpus
    of_kind zone kind =
        sum_below-same (λ cpu. kind_among b plan kind zone (lines cpu)) (λ cpu. kind_among b plan kind zone (other cpu)) b.cpus (λ cpu low. ap (kind_among b plan kind zone) (same cpu low))

pub counted_first : (b : Bundle) (plan : Plan) → replicate (length plan.zones) (no_lines b.cpus) ≡ counted b plan (lines_before b 0 0)
counted_first b plan =
    fill_by_all (counted_on b plan (lines_before b 0 0)) (replicate (length plan.zones) (no_lines b.cpus)) (length plan.zones) (no_lines 0) (length-replicate (length plan.zones) (no_lines b.cpus))
    (λ zone lt. get_or-replicate (length plan.zones) zone (no_lines b.cpus) (no_lines 0) lt
    ∙ lines_alike _ _ _ _ _ _
    (fill_by_all (λ cpu. lines_among b plan zone (lines_before b 0 0 cpu)) (replicate b.cpus 0) b.cpus 0 (length-replicate b.cpus 0)
    (λ cpu low. get_or-replicate b.cpus cpu 0 0 low ∙ sym (ap (lines_among b plan zone) (none cpu))))
    (sym (of_kind zone is_allocating))
    (sym (of_kind zone is_giving)))
  where
    none_by : (here : Bool) (lines : List TraceStep) → cond here (take 0 lines) [] ≡ []
    none_by true lines = refl
    none_by false lines = refl

    none : (cpu : ℕ) → lines_before b 0 0 cpu ≡ []
    none cpu = let below : nat_lt cpu 0 ≡ false = grind (arith, nat_tests) in rw below (none_by (cpu == 0) (trace_of b cpu))

    of_kind : (zone : ℕ) (kind : Act → Bool) → sum_below (λ cpu. kind_among b plan kind zone (lines_before b 0 0 cpu)) b.cpus ≡ 0
    of_kind zone kind = sum_below-zero (λ cpu. kind_among b plan kind zone (lines_before b 0 0 cpu)) b.cpus (λ cpu low. ap (kind_among b plan kind zone) (none cpu))

pub counted_next : (b : Bundle) (plan : Plan) (cpu : ℕ) → counted b plan (lines_before b cpu (length (trace_of b cpu))) ≡ counted b plan (lines_before b (cpu + 1) 0)
counted_next b plan cpu = counted_same b plan (lines_before b cpu (length (trace_of b cpu))) (lines_before b (cpu + 1) 0) (λ other low. next other)
  where
    by_test : (here low : Bool) (lines : List TraceStep) → cond low lines [] ≡ cond low lines (cond here (take 0 lines) [])
    by_test true true lines = refl
    by_test true false lines = refl
    by_test false low lines = refl

    next : (other : ℕ) → lines_before b cpu (length (trace_of b cpu)) other ≡ lines_before b (cpu + 1) 0 other
    next other = elim (cases_eq other cpu) [
      | inl same ↦
          let low : nat_lt cpu (cpu + 1) ≡ true = grind (arith, nat_tests) in
          let last : lines_before b (cpu + 1) 0 cpu ≡ trace_of b cpu = rw low refl in
          ap (λ k. lines_before b cpu (length (trace_of b cpu)) k) same ∙ lines-here b cpu (length (trace_of b cpu)) ∙ take-length (trace_of b cpu)
          ∙ sym (ap (λ k. lines_before b (cpu + 1) 0 k) same ∙ last)
      | inr apart ↦
          let here : (other == cpu) ≡ false = grind (arith, nat_tests) in
          let below : nat_lt other (cpu + 1) ≡ nat_lt other cpu = grind (arith, nat_tests) in
          rw (here, below) (by_test (other == cpu + 1) (nat_lt other cpu) (trace_of b other))
    ]

pub counted_last : (b : Bundle) (plan : Plan) → counted b plan (lines_before b b.cpus 0) ≡ counted b plan (trace_of b)
counted_last b plan = counted_same b plan (lines_before b b.cpus 0) (trace_of b) (λ cpu low. let all : nat_lt cpu b.cpus ≡ true = grind (arith, nat_tests) in rw all refl)

-- ---- all lines

-- all CPUs' lines on a zone
pub few_steps_on : (b : Bundle) (plan : Plan) (zone : ℕ) → IsValid b → sum (steps_on b plan zone) ≤ 1000000
few_steps_on b plan zone is = omega (arith, sum_range (lines_on b plan zone) b.cpus, lines_are_few b plan zone is, is.few_steps)
