-- The lines of an order are in turn, and each is a CPU's next.
use Rattle.std.proofs.Common.{◌≡◌, ◌<◌, ◌≤◌, ℕ, zero, suc, ◌+◌, ◌-◌, List, [], ◌∷◌, ◌++◌, length, replicate, slice_index, slice_set, All, Option, None, Some, refl, ap, sym, ◌∙◌, subst, arith, append_assoc}
use Rattle.std.specs.List.{filter, flat_map, range_with_len}
use Rattle.std.specs.Option.{IfSome, unwrap_or}
use Rattle.std.proofs.lemmas.List.{get_or-set_same, get_or-set_other, get_or-map, get_or_default, append-nil, length-set, length-map, length-replicate, set-set, set-get_or}
use Rattle.std.proofs.lemmas.List.Elements.{All-get_or, All-filter}
use Rattle.kz_model.specs.declared.bundle.Bundle.{Bundle}
use Rattle.kz_model.specs.declared.bundle.TraceStep.{TraceStep}
use Rattle.kz_model.specs.declared.bundle.OrderLine.{OrderLine}
use Rattle.kz_model.specs.declared.bundle.OrderLine.TheVariants.{Cpu, Round}
use Rattle.kz_model.specs.declared.bundle.Act.TheVariants as act
use Rattle.kz_model.specs.declared.record.Plan.{Plan}
use Rattle.kz_model.specs.Run.Journal.{addressed, trace_of, lines_of_round}
use Rattle.kz_model.specs.Run.Order.{Progress, opening_progress, next_line, order_step, default_round, default_rounds, order_of}
use Rattle.kz_model.specs.Types.Planned.{HasZones}
use Rattle.kz_model.specs.Grammar.Turns.{is_of_round, counts_in, AreDone, AreInTurn}
use Rattle.kz_laws.specs.Undelayed.{AreNextLines}
use Rattle.kz_model.specs.Grammar.Valid.{IsValid}
use Rattle.kz_laws.proofs.OrderRuns.{step_counts, zeros}
use Rattle.kz_model.proofs.Addressed.{lines_within}
use Rattle.kz_laws.proofs.Undelayed.{mine_or_other}

-- ---- what each CPU has left of a round

-- all of its lines, as the round begins
pub counts_at : (b : Bundle) (round cpu : ℕ) → length b.traces ≡ b.cpus → cpu < b.cpus → slice_index (counts_in b round) cpu ≡ length (lines_of_round b cpu round)
counts_at b round cpu long lt = get_or-map (λ (trace : List TraceStep). length (filter (is_of_round round) trace)) b.traces cpu [] 0 (subst (λ n. cpu < n) (sym long) lt)

pub length-counts : (b : Bundle) (round : ℕ) → length b.traces ≡ b.cpus → length (counts_in b round) ≡ b.cpus
length-counts b round long = length-map b.traces (λ (trace : List TraceStep). length (filter (is_of_round round) trace)) ∙ long

-- nothing is left where each has nothing
are_done : (left : List ℕ) → ((cpu : ℕ) → cpu < length left → slice_index left cpu ≡ 0) → AreDone left
are_done left none cpu d lt = get_or_default left cpu d 0 lt ∙ none cpu lt

-- ---- the default order

-- a CPU's lines of a round, and then these
cpu_in_turn : (b : Bundle) (round cpu n : ℕ) (left : List ℕ) (more : List OrderLine) → cpu < b.cpus → cpu < length left → slice_index left cpu ≡ n → AreInTurn b round (slice_set left cpu 0) more → AreInTurn b round left (replicate n (Cpu cpu) ++ more)
cpu_in_turn b round cpu zero left more lt within is rest =
    subst (λ left. AreInTurn b round left more) (ap (λ n. slice_set left cpu n) (sym is) ∙ set-get_or left cpu 0) rest
cpu_in_turn b round cpu (suc n) left more lt within is rest =
    let after = slice_set left cpu (slice_index left cpu - 1) in (
      lt,
      some (slice_index left cpu) n is,
      cpu_in_turn b round cpu n after more lt (subst (λ n. cpu < n) (sym (length-set left cpu (slice_index left cpu - 1))) within)
          (get_or-set_same left cpu (slice_index left cpu - 1) 0 within ∙ fewer (slice_index left cpu) n is)
          (subst (λ left. AreInTurn b round left more) (sym (set-set left cpu (slice_index left cpu - 1) 0)) rest),
    )
  where
    some : (m n : ℕ) → m ≡ suc n → 0 < m
    some m n is = omega arith

    fewer : (m n : ℕ) → m ≡ suc n → m - 1 ≡ n
    fewer m n is = omega arith

-- these CPUs' lines of a round, and then what may follow when all are done
cpus_in_turn : (b : Bundle) (round n from : ℕ) (left : List ℕ) (more : List OrderLine) → from + n ≡ b.cpus → length left ≡ b.cpus →
    ((cpu : ℕ) → cpu < from → slice_index left cpu ≡ 0) → ((cpu : ℕ) → from ≤ cpu → cpu < b.cpus → slice_index left cpu ≡ length (lines_of_round b cpu round)) →
    ((left : List ℕ) → AreDone left → AreInTurn b round left more) →
    AreInTurn b round left (flat_map (λ cpu. replicate (length (lines_of_round b cpu round)) (Cpu cpu)) (range_with_len from n) ++ more)
cpus_in_turn b round zero from left more all long none rest then' = then' left (are_done left (λ cpu lt. none cpu (omega arith)))
cpus_in_turn b round (suc n) from left more all long none rest then' =
    let xs = replicate (length (lines_of_round b from round)) (Cpu from) in
    let ys = flat_map (λ cpu. replicate (length (lines_of_round b cpu round)) (Cpu cpu)) (range_with_len (from + 1) n) in
    let after = slice_set left from 0 in
    let in-cpus : from < b.cpus = omega arith in
    let within : from < length left = omega arith in
    subst (λ lines. AreInTurn b round left lines) (sym (append_assoc xs ys more))
    (cpu_in_turn b round from (length (lines_of_round b from round)) left (ys ++ more) in-cpus within (rest from (omega arith) in-cpus)
    (cpus_in_turn b round n (from + 1) after more (omega arith) (length-set left from 0 ∙ long)
    (λ cpu lt. mine_or_other (λ cpu. cpu < from + 1 → slice_index after cpu ≡ 0) from cpu
    (λ lt. get_or-set_same left from 0 0 within)
    (λ ne lt. get_or-set_other left from cpu 0 0 ne ∙ none cpu (omega arith)) lt)
    (λ cpu low lt. get_or-set_other left from cpu 0 0 (λ same. absurd (omega arith)) ∙ rest cpu (omega arith) lt)
    then'))

-- a round in the default order
round_in_turn : (b : Bundle) (round : ℕ) (more : List OrderLine) → length b.traces ≡ b.cpus → ((left : List ℕ) → AreDone left → AreInTurn b round left more) → AreInTurn b round (counts_in b round) (default_round b round ++ more)
round_in_turn b round more long then' =
    cpus_in_turn b round b.cpus 0 (counts_in b round) more (omega arith) (length-counts b round long) (λ cpu lt. absurd (omega arith)) (λ cpu low lt. counts_at b round cpu long lt) then'

rounds_in_turn : (b : Bundle) (more round : ℕ) → length b.traces ≡ b.cpus → round + suc more ≡ b.rounds → AreInTurn b round (counts_in b round) (default_rounds b round (suc more))
rounds_in_turn b zero round long all =
    subst (λ lines. AreInTurn b round (counts_in b round) lines) (append-nil (default_round b round)) (round_in_turn b round [] long (λ left done. (done, omega arith)))
rounds_in_turn b (suc more) round long all =
    round_in_turn b round (Round ∷ default_rounds b (round + 1) (suc more)) long (λ left done. (done, omega arith, rounds_in_turn b more (round + 1) long (omega arith)))

default_in_turn : (b : Bundle) → length b.traces ≡ b.cpus → 1 ≤ b.rounds → AreInTurn b 0 (counts_in b 0) (default_rounds b 0 b.rounds)
default_in_turn b long some = by_rounds b.rounds refl some
  where
    by_rounds : (n : ℕ) → n ≡ b.rounds → 1 ≤ n → AreInTurn b 0 (counts_in b 0) (default_rounds b 0 n)
    by_rounds zero is some = absurd (omega arith)
    by_rounds (suc more) is some = rounds_in_turn b more 0 long (omega arith)

pub order_in_turn : (b : Bundle) → IsValid b → AreInTurn b 0 (counts_in b 0) (order_of b)
order_in_turn b valid = by_order b.order valid.order
  where
    by_order : (o : Option (List OrderLine)) → IfSome o (AreInTurn b 0 (counts_in b 0)) → AreInTurn b 0 (counts_in b 0) (unwrap_or o (default_rounds b 0 b.rounds))
    by_order None is = default_in_turn b valid.traces valid.rounds.0
    by_order (Some lines) is = is

-- ---- lines in turn, beside a run

-- each CPU has so many lines of the round left, and the lines from here on are in turn
pub record IsInTurn (b : Bundle) (g : Progress) (left : List ℕ) (lines : List OrderLine) : Type 0 where
  pub turns : AreInTurn b g.round left lines
  pub within : g.round < b.rounds
  pub long : length left ≡ b.cpus
  pub done : length g.done ≡ b.cpus
  pub both : (cpu : ℕ) → cpu < b.cpus → slice_index left cpu + slice_index g.done cpu ≡ length (lines_of_round b cpu g.round)

pub first_in_turn : (b : Bundle) (plan : Plan) → IsValid b → IsInTurn b (opening_progress b plan) (counts_in b 0) (order_of b)
first_in_turn b plan valid =
    record {
      turns = order_in_turn b valid;
      within = some_rounds b.rounds valid.rounds.0;
      long = length-counts b 0 valid.traces;
      done = length-replicate {A = ℕ} b.cpus 0;
      both = λ cpu lt. both_of (counts_at b 0 cpu valid.traces lt) (zeros b.cpus cpu);
    }
  where
    both_of : {m n l : ℕ} → m ≡ l → n ≡ 0 → m + n ≡ l
    both_of e f = omega arith

    some_rounds : (n : ℕ) → 1 ≤ n → 0 < n
    some_rounds n some = omega arith

-- one more line of a CPU
pub turn_of_cpu : (b : Bundle) (plan : Plan) (g : Progress) (left : List ℕ) (cpu : ℕ) (lines : List OrderLine) → IsInTurn b g left (Cpu cpu ∷ lines) →
    (cpu < b.cpus) × (slice_index g.done cpu < length (lines_of_round b cpu g.round)) × IsInTurn b (order_step b plan g (Cpu cpu)) (slice_set left cpu (slice_index left cpu - 1)) lines
turn_of_cpu b plan g left cpu lines is =
    let h = order_step b plan g (Cpu cpu) in
    let counts = step_counts b plan g cpu in
    let n = slice_index left cpu in
    let m = slice_index g.done cpu in
    let lt = is.turns.0 in (
      lt,
      some_left n m (length (lines_of_round b cpu g.round)) is.turns.1 (is.both cpu lt),
      record {
        turns = subst (λ round. AreInTurn b round (slice_set left cpu (n - 1)) lines) (sym counts.1) is.turns.2;
        within = subst (λ round. round < b.rounds) (sym counts.1) is.within;
        long = length-set left cpu (n - 1) ∙ is.long;
        done = ap (λ (done : List ℕ). length done) counts.0 ∙ length-set g.done cpu (m + 1) ∙ is.done;
        both = λ other lt'.
            mine_or_other (λ other. other < b.cpus → slice_index (slice_set left cpu (n - 1)) other + slice_index h.done other ≡ length (lines_of_round b other h.round)) cpu other
            (λ lt'. one_less n m (length (lines_of_round b cpu g.round)) is.turns.1 (is.both cpu lt)
            (get_or-set_same left cpu (n - 1) 0 (subst (λ n. cpu < n) (sym is.long) lt))
            (ap (λ (done : List ℕ). slice_index done cpu) counts.0 ∙ get_or-set_same g.done cpu (m + 1) 0 (subst (λ n. cpu < n) (sym is.done) lt))
            ∙ ap (λ round. length (lines_of_round b cpu round)) (sym counts.1))
            (λ ne lt'. same_sum (get_or-set_other left cpu other (n - 1) 0 ne) (ap (λ (done : List ℕ). slice_index done other) counts.0 ∙ get_or-set_other g.done cpu other (m + 1) 0 ne) (is.both other lt')
            ∙ ap (λ round. length (lines_of_round b other round)) (sym counts.1)) lt';
      },
    )
  where
    some_left : (n m l : ℕ) → 0 < n → n + m ≡ l → m < l
    some_left n m l some both = omega arith

    one_less : (n m l : ℕ) {a c : ℕ} → 0 < n → n + m ≡ l → a ≡ n - 1 → c ≡ m + 1 → a + c ≡ l
    one_less n m l some both e f = omega arith

    same_sum : {a c n m l : ℕ} → a ≡ n → c ≡ m → n + m ≡ l → a + c ≡ l
    same_sum e f both = omega arith

-- a round's end: each CPU has done all of its lines
pub turn_of_round : (b : Bundle) (plan : Plan) (g : Progress) (left : List ℕ) (lines : List OrderLine) → length b.traces ≡ b.cpus → IsInTurn b g left (Round ∷ lines) →
    ((cpu : ℕ) → cpu < b.cpus → slice_index g.done cpu ≡ length (lines_of_round b cpu g.round)) × (g.round + 1 < b.rounds) × IsInTurn b (order_step b plan g Round) (counts_in b (g.round + 1)) lines
turn_of_round b plan g left lines long is = (
  λ cpu lt. all_of (is.turns.0 cpu 0 (subst (λ n. cpu < n) (sym is.long) lt)) (is.both cpu lt),
  is.turns.1,
  record {
    turns = is.turns.2;
    within = is.turns.1;
    long = length-counts b (g.round + 1) long;
    done = length-replicate {A = ℕ} b.cpus 0;
    both = λ cpu lt. both_of (counts_at b (g.round + 1) cpu long lt) (zeros b.cpus cpu);
  },
)
  where
    all_of : {n m l : ℕ} → n ≡ 0 → n + m ≡ l → m ≡ l
    all_of e f = omega arith

    both_of : {m n l : ℕ} → m ≡ l → n ≡ 0 → m + n ≡ l
    both_of e f = omega arith

-- at the end the last round is done
pub turn_ends : (b : Bundle) (g : Progress) (left : List ℕ) → IsInTurn b g left [] → ((cpu : ℕ) → cpu < b.cpus → slice_index g.done cpu ≡ length (lines_of_round b cpu g.round)) × (g.round + 1 ≡ b.rounds)
turn_ends b g left is = (λ cpu lt. all_of (is.turns.0 cpu 0 (subst (λ n. cpu < n) (sym is.long) lt)) (is.both cpu lt), is.turns.1)
  where
    all_of : {n m l : ℕ} → n ≡ 0 → n + m ≡ l → m ≡ l
    all_of e f = omega arith

-- ---- the zones of lines

-- a line is addressed to the zone of one of the types
pub round_within : (b : Bundle) (plan : Plan) → IsValid b → HasZones b plan → (cpu round : ℕ) → All (λ line. (addressed b plan line.act).0 < length plan.zones) (lines_of_round b cpu round)
round_within b plan valid zones cpu round =
    All-filter (is_of_round round) (λ (line : TraceStep). (addressed b plan line.act).0 < length plan.zones) (trace_of b cpu) (lines_within b plan valid zones cpu)

pub next_within : (b : Bundle) (plan : Plan) (g : Progress) (cpu : ℕ) → IsValid b → HasZones b plan → slice_index g.done cpu < length (lines_of_round b cpu g.round) → (addressed b plan (next_line b cpu g).act).0 < length plan.zones
next_within b plan g cpu valid zones more =
    All-get_or (λ (line : TraceStep). (addressed b plan line.act).0 < length plan.zones) (lines_of_round b cpu g.round) (slice_index g.done cpu) (record { line = 0; round = 0; act = act.Flush 0 }) more
    (round_within b plan valid zones cpu g.round)

are_next : (b : Bundle) (plan : Plan) → IsValid b → HasZones b plan → (lines : List OrderLine) (g : Progress) (left : List ℕ) → IsInTurn b g left lines → AreNextLines b plan g lines
are_next b plan valid zones [] g left is = tt
are_next b plan valid zones (Cpu cpu ∷ lines) g left is =
    let one = turn_of_cpu b plan g left cpu lines is in
    ((one.0, one.1, next_within b plan g cpu valid zones one.1), are_next b plan valid zones lines (order_step b plan g (Cpu cpu)) (slice_set left cpu (slice_index left cpu - 1)) one.2)
are_next b plan valid zones (Round ∷ lines) g left is =
    (tt, are_next b plan valid zones lines (order_step b plan g Round) (counts_in b (g.round + 1)) (turn_of_round b plan g left lines valid.traces is).2)

pub order_is_next : (b : Bundle) (plan : Plan) → IsValid b → HasZones b plan → AreNextLines b plan (opening_progress b plan) (order_of b)
order_is_next b plan valid zones = are_next b plan valid zones (order_of b) (opening_progress b plan) (counts_in b 0) (first_in_turn b plan valid)
