-- How many lines there are: on each zone, and in all.
use Rattle.std.proofs.Common.{◌≡◌, ◌<◌, ◌≤◌, ◌+◌, ◌*◌, ℕ, zero, suc, ◌==◌, true, false, if◌then◌else◌, List, [], ◌∷◌, length, map, slice_index_or, sum, sum_by, All, refl, ap, sym, ◌∙◌, subst, arith}
use Rattle.std.specs.List.{range_with_len}
use Rattle.std.proofs.lemmas.List.FromFn.{fill_by_all}
use Rattle.std.proofs.lemmas.List.Elements.{All-head, All-tail}
use Rattle.std.proofs.lemmas.List.Sums.{sum-map}
use Rattle.std.proofs.lemmas.List.{get_or-map, length-map}
use Rattle.kz_model.specs.declared.bundle.Bundle.{Bundle}
use Rattle.kz_model.specs.declared.bundle.TraceStep.{TraceStep}
use Rattle.kz_model.specs.declared.record.Plan.{Plan}
use Rattle.kz_model.specs.declared.record.Room.{Room}
use Rattle.kz_model.specs.declared.supply.SupplyEntry.{SupplyEntry}
use Rattle.kz_model.specs.Run.Rooms.{is_allocating, sum_below, zone_lines, zone_allocations}
use Rattle.kz_model.specs.Run.Journal.{params_of, addressed, trace_of, steps_among, log_at}
use Rattle.kz_model.specs.Run.Rooms.{lines_on, steps_on}
use Rattle.kz_model.specs.Grammar.Valid.{IsValid}
use Rattle.kz_laws.proofs.LineKinds.{kind_few}
use Rattle.kz_model.proofs.Sums.{sum_below-same, sum_below-zero, sum_below-le, sum_below-one, sum_range}
use Rattle.kz_bundle.specs.declared.planned.rooms.ZoneLoad.{ZoneLoad}
use Rattle.kz_bundle.specs.Counted.{load_of, loads_of}
use Rattle.kz_machine.specs.Needs.{needed_of, needed_rooms, allocations_of, most_entries, frames_in}

-- ---- sums

pub sum_below-add : (f g : ℕ → ℕ) (n : ℕ) → sum_below (λ k. f k + g k) n ≡ sum_below f n + sum_below g n
sum_below-add f g zero = refl
sum_below-add f g (suc n) = omega (arith, sum_below-add f g n)

sum_below-swap : (f : ℕ → ℕ → ℕ) (m n : ℕ) → sum_below (λ i. sum_below (f i) n) m ≡ sum_below (λ j. sum_below (λ i. f i j) m) n
sum_below-swap f zero n = sym (sum_below-zero (λ j. 0) n (λ j lt. refl))
sum_below-swap f (suc m) n = ap (λ k. k + sum_below (f m) n) (sum_below-swap f m n) ∙ sym (sum_below-add (λ j. sum_below (λ i. f i j) m) (f m) n)

-- the sum over a list by its places
pub sum_by_places : {X : Type 0} (f : X → ℕ) (d : X) (xs : List X) → sum_below (λ k. f (slice_index_or xs k d)) (length xs) ≡ sum_by f xs
sum_by_places {X} f d xs =
    let at : ℕ → ℕ = λ k. f (slice_index_or xs k d) in
    sym (sum_range at (length xs))
    ∙ ap sum (sym (fill_by_all at (map f xs) (length xs) 0 (length-map xs f) (λ k lt. get_or-map f xs k d 0 lt)))
    ∙ sum-map f xs

-- ---- each line is on one zone

-- one zone of them is this one
one_of : (k n : ℕ) → sum_below (λ zone. if k == zone then 1 else 0) n ≤ 1
one_of k zero = omega arith
one_of k (suc n) =
    elim (k == n) as (λ b. (k == n) ≡ b → sum_below (λ zone. if k == zone then 1 else 0) n + (if b then 1 else 0) ≤ 1) [
      | true ↦ λ e.
          let is : k ≡ n = grind arith in
          let none = sum_below-zero (λ zone. if k == zone then 1 else 0) n (λ zone lt. let other : (k == zone) ≡ false = grind arith in rw other refl) in
          omega arith
      | false ↦ λ e. let rest = one_of k n in omega arith
    ] refl

lines_spread : (b : Bundle) (plan : Plan) (n : ℕ) (lines : List TraceStep) → sum_below (λ zone. length (steps_among b plan zone lines)) n ≤ length lines
lines_spread b plan n [] = let none = sum_below-zero (λ zone. length (steps_among b plan zone [])) n (λ zone lt. refl) in omega arith
lines_spread b plan n (line ∷ lines) =
    let there = addressed b plan line.act in
    let rest = λ (zone : ℕ). length (steps_among b plan zone lines) in
    let split : sum_below (λ zone. length (steps_among b plan zone (line ∷ lines))) n ≡ sum_below (λ zone. (if there.0 == zone then 1 else 0) + rest zone) n =
    sum_below-same (λ zone. length (steps_among b plan zone (line ∷ lines))) (λ zone. (if there.0 == zone then 1 else 0) + rest zone) n
    (λ zone lt. elim (there.0 == zone) as (λ t. length (if t then there.1 ∷ steps_among b plan zone lines else steps_among b plan zone lines) ≡ (if t then 1 else 0) + rest zone) [
      | true ↦ one_first (rest zone)
      | false ↦ none_first (rest zone)
    ]) in
    let ones = one_of there.0 n in
    let others = lines_spread b plan n lines in
    let parts = sum_below-add (λ zone. if there.0 == zone then 1 else 0) rest n in
    omega arith
  where
    one_first : (n : ℕ) → suc n ≡ 1 + n
    one_first n = omega arith

    none_first : (n : ℕ) → n ≡ 0 + n
    none_first n = omega arith

-- all lines of the bundle
pub all_lines : (b : Bundle) (plan : Plan) (n : ℕ) → IsValid b → sum_below (zone_lines b plan) n ≤ 1000000
all_lines b plan n valid =
    let swapped = sum_below-swap (λ zone cpu. lines_on b plan zone cpu) n b.cpus in
    let few = sum_below-le (λ cpu. sum_below (λ zone. lines_on b plan zone cpu) n) (λ cpu. length (trace_of b cpu)) b.cpus (λ cpu lt. lines_spread b plan n (trace_of b cpu)) in
    let all : sum_below (λ cpu. length (trace_of b cpu)) b.cpus ≡ sum_by length b.traces =
    ap (sum_below (λ cpu. length (trace_of b cpu))) (sym valid.traces) ∙ sum_by_places (λ (trace : List TraceStep). length trace) [] b.traces in
    let most = valid.few_steps in
    omega arith

pub trace_few : (b : Bundle) (cpu : ℕ) → IsValid b → cpu < b.cpus → length (trace_of b cpu) ≤ 1000000
trace_few b cpu valid lt =
    let one = sum_below-one (λ cpu. length (trace_of b cpu)) b.cpus cpu lt in
    let all : sum_below (λ cpu. length (trace_of b cpu)) b.cpus ≡ sum_by length b.traces =
    ap (sum_below (λ cpu. length (trace_of b cpu))) (sym valid.traces) ∙ sum_by_places (λ (trace : List TraceStep). length trace) [] b.traces in
    let most = valid.few_steps in
    omega arith

-- ---- what rooms say

-- a zone's steps of all CPUs
pub zone_steps : (b : Bundle) (plan : Plan) (zone : ℕ) → sum (steps_on b plan zone) ≡ zone_lines b plan zone
zone_steps b plan zone = sum_range (lines_on b plan zone) b.cpus

map_twice : {X Y Z : Type 0} (f : X → Y) (g : Y → Z) (xs : List X) → map g (map f xs) ≡ map (λ x. g (f x)) xs
map_twice f g [] = refl
map_twice f g (x ∷ xs) = ap (λ l. g (f x) ∷ l) (map_twice f g xs)

-- how many lines allocate, by the loads of the zones
pub allocations_are : (b : Bundle) (plan : Plan) (loads : List ZoneLoad) → loads ≡ loads_of b plan → map (λ load. load.allocating) loads ≡ allocations_of b plan
allocations_are b plan loads are = ap (λ (loads : List ZoneLoad). map (λ load. load.allocating) loads) are ∙ map_twice (load_of b plan) (λ (load : ZoneLoad). load.allocating) (range_with_len 0 (length plan.zones))

pub entries_are : (b : Bundle) (plan : Plan) → most_entries (allocations_of b plan) ≡ 2 * sum_below (zone_allocations b plan) (length plan.zones)
entries_are b plan = ap (λ m. 2 * m) (sum_range (zone_allocations b plan) (length plan.zones))

pub allocations_few : (b : Bundle) (plan : Plan) (n : ℕ) → IsValid b → sum_below (zone_allocations b plan) n ≤ 1000000
allocations_few b plan n valid = omega (arith, sum_below-le (zone_allocations b plan) (zone_lines b plan) n (λ zone lt. kind_few b plan is_allocating zone), all_lines b plan n valid)

-- the frames of all chunks that the rooms have
pub frames_are : (b : Bundle) (plan : Plan) → frames_in (needed_rooms b plan) ≡ sum_below (λ zone. (params_of b plan zone).pages * (needed_of b plan zone).chunks) (length plan.zones)
frames_are b plan =
    let n = length plan.zones in
    ap sum (map_twice (needed_of b plan) (λ (room : Room). room.params.pages * room.chunks) (range_with_len 0 n))
    ∙ sum_range (λ zone. (params_of b plan zone).pages * (needed_of b plan zone).chunks) n

pub sum_below-most : (f : ℕ → ℕ) (n most : ℕ) → ((k : ℕ) → k < n → f k ≤ most) → sum_below f n ≤ n * most
sum_below-most f zero most le = omega arith
sum_below-most f (suc n) most le =
    let rest = sum_below-most f n most (λ k lt. le k (omega arith)) in
    let last = le n (omega arith) in
    let product : suc n * most ≡ n * most + most = omega arith in
    omega arith

-- ---- sums with room

-- where no number is above another's, and one leaves so much room, the sum does
pub sum_below-room : (f g : ℕ → ℕ) (n at room : ℕ) → at < n → f at + room ≤ g at → ((k : ℕ) → k < n → f k ≤ g k) → sum_below f n + room ≤ sum_below g n
sum_below-room f g zero at room lt less le = absurd (omega arith)
sum_below-room f g (suc n) at room lt less le =
    elim (at == n) as (λ b. (at == n) ≡ b → sum_below f (suc n) + room ≤ sum_below g (suc n)) [
      | true ↦ λ e.
          let is : at ≡ n = grind arith in
          let last : f n + room ≤ g n = subst (λ k. f k + room ≤ g k) is less in
          let rest = sum_below-le f g n (λ k below. le k (omega arith)) in
          omega arith
      | false ↦ λ e.
          let ne : at < n = grind arith in
          let rest = sum_below-room f g n at room ne less (λ k below. le k (omega arith)) in
          let last = le n (omega arith) in
          omega arith
    ] refl

pub sum_below-twice : (f : ℕ → ℕ) (n : ℕ) → sum_below (λ k. 2 * f k) n ≡ 2 * sum_below f n
sum_below-twice f zero = refl
sum_below-twice f (suc n) = omega (arith, sum_below-twice f n)

-- ---- each entry of a log is a zone's

entry_counts : (zone : ℕ) (entry : SupplyEntry) (log : List SupplyEntry) → length (log_at zone (entry ∷ log)) ≡ (if entry.zone == zone then 1 else 0) + length (log_at zone log)
entry_counts zone entry log =
    elim (entry.zone == zone) as (λ t. length (if t then entry ∷ log_at zone log else log_at zone log) ≡ (if t then 1 else 0) + length (log_at zone log)) [ true ↦ omega arith | false ↦ omega arith ]

abbrev ones : SupplyEntry → ℕ → ℕ
ones entry zone = if entry.zone == zone then 1 else 0

pub log_spread : (n : ℕ) (log : List SupplyEntry) → All (λ entry. entry.zone < n) log → length log ≤ sum_below (λ zone. length (log_at zone log)) n
log_spread n [] are = omega arith
log_spread n (entry ∷ log) are =
    let Within : SupplyEntry → Type 0 = λ entry. entry.zone < n in
    let split : sum_below (λ zone. length (log_at zone (entry ∷ log))) n ≡ sum_below (ones entry) n + sum_below (λ zone. length (log_at zone log)) n =
    sum_below-same (λ zone. length (log_at zone (entry ∷ log))) (λ zone. ones entry zone + length (log_at zone log)) n (λ zone lt. entry_counts zone entry log)
    ∙ sum_below-add (ones entry) (λ zone. length (log_at zone log)) n in
    let here : ones entry entry.zone ≡ 1 = let is : (entry.zone == entry.zone) ≡ true = grind arith in ap (λ t. if t then 1 else 0) is in
    let one = sum_below-one (ones entry) n entry.zone (All-head Within entry log are) in
    let others = log_spread n log (All-tail Within entry log are) in
    omega (arith, split, here, one, others)
