-- How much the default order has of each CPU, and what is left of it at a CPU's turn.
use Rattle.std.proofs.Common.{◌≡◌, ◌≢◌, ◌<◌, ◌≤◌, ◌+◌, ◌-◌, ℕ, zero, suc, ◌==◌, nat_lt, ◌&&◌, Bool, true, false, if◌then◌else◌, List, [], ◌∷◌, ◌++◌, length, replicate, slice_index_or, Option, None, All, refl, ap, sym, ◌∙◌, subst, arith, append_assoc}
use Rattle.std.specs.List.{filter, flat_map, range_with_len}
use Rattle.std.specs.Option.{unwrap_or}
use Rattle.std.specs.List.Sorted.{IsNonDecreasingBy}
use Rattle.std.proofs.lemmas.List.{append-nil}
use Rattle.std.proofs.lemmas.List.Elements.{All-get_or, All-head, All-tail}
use Rattle.kz_model.specs.declared.bundle.Bundle.{Bundle}
use Rattle.kz_model.specs.declared.bundle.OrderLine.{OrderLine}
use Rattle.kz_model.specs.declared.bundle.OrderLine.TheVariants.{Cpu, Round}
use Rattle.kz_model.specs.declared.bundle.TraceStep.{TraceStep}
use Rattle.kz_model.specs.declared.record.Plan.{Plan}
use Rattle.kz_model.specs.Run.Journal.{trace_of, lines_of_round}
use Rattle.kz_model.specs.Run.Order.{default_round, default_rounds, order_of}
use Rattle.kz_model.specs.Run.Journal.{no_step}
use Rattle.kz_model.specs.Grammar.Valid.{IsValid}
use Rattle.kz_laws.specs.Play.{replies_so_far, line_to_play, play_after_lines}
use Rattle.kz_model.proofs.TraceRounds.{steps_within}
use Rattle.kz_machine.specs.Left.{IsLeft, turns_from, rounds_after, turns_of, rounds_in, lines_until, IsRest, has_line_at}
use Rattle.kz_machine.specs.Machine.{Machine, replies_at}
use Rattle.kz_machine.proofs.Played.{turns_of-append, rounds_in-append, left_round, left_replies, left_turn, place_is}
use Rattle.kz_bundle.proofs.Zoned.{planned_is_valid}

-- ---- a CPU's turns

turns_mine : (n cpu : ℕ) → turns_of cpu (replicate n (Cpu cpu)) ≡ n
turns_mine zero cpu = refl
turns_mine (suc n) cpu = let here : (cpu == cpu) ≡ true = grind arith in rw here (omega (arith, turns_mine n cpu))

turns_other : (n other cpu : ℕ) → other ≢ cpu → turns_of cpu (replicate n (Cpu other)) ≡ 0
turns_other zero other cpu ne = refl
turns_other (suc n) other cpu ne = let here : (other == cpu) ≡ false = grind arith in rw here (omega (arith, turns_other n other cpu ne))

no_rounds : (n cpu : ℕ) → rounds_in (replicate n (Cpu cpu)) ≡ 0
no_rounds zero cpu = refl
no_rounds (suc n) cpu = no_rounds n cpu

-- the turns of these CPUs in a round
abbrev turns_between : Bundle → ℕ → ℕ → ℕ → List OrderLine
turns_between b round from n = flat_map (λ cpu. replicate (length (lines_of_round b cpu round)) (Cpu cpu)) (range_with_len from n)

between_none : (b : Bundle) (round from n cpu : ℕ) → cpu < from → turns_of cpu (turns_between b round from n) ≡ 0
between_none b round from zero cpu lt = refl
between_none b round from (suc n) cpu lt =
    let here = turns_other (length (lines_of_round b from round)) from cpu (λ same. absurd (omega arith)) in
    let rest = between_none b round (from + 1) n cpu (omega arith) in
    omega (arith, here, rest, turns_of-append cpu (replicate (length (lines_of_round b from round)) (Cpu from)) (turns_between b round (from + 1) n))

between_mine : (b : Bundle) (round from n cpu : ℕ) → from ≤ cpu → cpu < from + n → turns_of cpu (turns_between b round from n) ≡ length (lines_of_round b cpu round)
between_mine b round from zero cpu le lt = absurd (omega arith)
between_mine b round from (suc n) cpu le lt =
    let k = length (lines_of_round b from round) in
    let all = turns_of-append cpu (replicate k (Cpu from)) (turns_between b round (from + 1) n) in
    elim (from == cpu) as (λ t. (from == cpu) ≡ t → turns_of cpu (turns_between b round from (suc n)) ≡ length (lines_of_round b cpu round)) [
      | true ↦ λ e.
          let is : from ≡ cpu = grind arith in
          let here : turns_of cpu (replicate k (Cpu from)) ≡ k = subst (λ cpu. turns_of cpu (replicate k (Cpu from)) ≡ k) is (turns_mine k from) in
          let rest = between_none b round (from + 1) n cpu (omega arith) in
          let same : k ≡ length (lines_of_round b cpu round) = ap (λ cpu. length (lines_of_round b cpu round)) is in
          omega (arith, all, here, rest, same)
      | false ↦ λ e.
          let ne : from ≢ cpu = grind arith in
          let here = turns_other k from cpu ne in
          let rest = between_mine b round (from + 1) n cpu (omega arith) (omega arith) in
          omega (arith, all, here, rest)
    ] refl

between_rounds : (b : Bundle) (round from n : ℕ) → rounds_in (turns_between b round from n) ≡ 0
between_rounds b round from zero = refl
between_rounds b round from (suc n) =
    omega (arith, rounds_in-append (replicate (length (lines_of_round b from round)) (Cpu from)) (turns_between b round (from + 1) n), no_rounds (length (lines_of_round b from round)) from, between_rounds b round (from + 1) n)

-- ---- lines before a round

-- one round more
until_more : (round : ℕ) (lines : List TraceStep) → length (filter (λ line. nat_lt line.round (round + 1)) lines) ≡ length (filter (λ line. nat_lt line.round round) lines) + length (filter (λ line. line.round == round) lines)
until_more round [] = refl
until_more round (line ∷ lines) =
    let rest = until_more round lines in
    let a = length (filter (λ (line : TraceStep). nat_lt line.round (round + 1)) lines) in
    let c = length (filter (λ (line : TraceStep). nat_lt line.round round) lines) in
    let e = length (filter (λ (line : TraceStep). line.round == round) lines) in
    one_of line.round a c e
    (sized (nat_lt line.round (round + 1)) line (filter (λ (line : TraceStep). nat_lt line.round (round + 1)) lines))
    (sized (nat_lt line.round round) line (filter (λ (line : TraceStep). nat_lt line.round round) lines))
    (sized (line.round == round) line (filter (λ (line : TraceStep). line.round == round) lines)) rest
  where
    sized : (t : Bool) (line : TraceStep) (rest : List TraceStep) → length (if t then line ∷ rest else rest) ≡ (if t then 1 else 0) + length rest
    sized true line rest = omega arith
    sized false line rest = omega arith

    one_of : (r a c e : ℕ) {x y z : ℕ} → x ≡ (if nat_lt r (round + 1) then 1 else 0) + a → y ≡ (if nat_lt r round then 1 else 0) + c → z ≡ (if r == round then 1 else 0) + e → a ≡ c + e → x ≡ y + z
    one_of r a c e is js ks rest = grind arith

until_none : (lines : List TraceStep) → length (filter (λ line. nat_lt line.round 0) lines) ≡ 0
until_none [] = refl
until_none (line ∷ lines) = let none : nat_lt line.round 0 ≡ false = grind arith in rw none (until_none lines)

until_all : (rounds : ℕ) (lines : List TraceStep) → All (λ line. line.round < rounds) lines → length (filter (λ line. nat_lt line.round rounds) lines) ≡ length lines
until_all rounds [] are = refl
until_all rounds (line ∷ lines) are =
    let Within : TraceStep → Type 0 = λ line. line.round < rounds in
    let here : line.round < rounds = All-head Within line lines are in
    let passes : nat_lt line.round rounds ≡ true = grind arith in
    rw passes (ap (λ n. suc n) (until_all rounds lines (All-tail Within line lines are)))

-- lines that are all before a round are counted
until_first : (round k : ℕ) (lines : List TraceStep) → k ≤ length lines → ((i : ℕ) → i < k → (slice_index_or lines i no_step).round < round) → k ≤ length (filter (λ line. nat_lt line.round round) lines)
until_first round zero lines le are = omega arith
until_first round (suc k) [] le are = absurd (omega arith)
until_first round (suc k) (line ∷ lines) le are =
    let here : line.round < round = are 0 (omega arith) in
    let passes : nat_lt line.round round ≡ true = grind arith in
    let rest = until_first round k lines (omega arith) (λ i lt. are (suc i) (omega arith)) in
    rw passes (omega (arith, rest))

-- ---- the default order as a whole

-- the lines of these rounds
rounds_count : (b : Bundle) (cpu n round : ℕ) → cpu < b.cpus → turns_of cpu (default_rounds b round n) + lines_until b cpu round ≡ lines_until b cpu (round + n)
rounds_count b cpu zero round lt = let same : lines_until b cpu (round + 0) ≡ lines_until b cpu round = ap (lines_until b cpu) (omega arith) in omega (arith, same)
rounds_count b cpu (suc zero) round lt =
    let here = between_mine b round 0 b.cpus cpu (omega arith) (omega arith) in
    let more = until_more round (trace_of b cpu) in
    omega (arith, here, more)
rounds_count b cpu (suc (suc n)) round lt =
    let here = between_mine b round 0 b.cpus cpu (omega arith) (omega arith) in
    let more = until_more round (trace_of b cpu) in
    let rest = rounds_count b cpu (suc n) (round + 1) lt in
    let parts = turns_of-append cpu (default_round b round) (Round ∷ default_rounds b (round + 1) (suc n)) in
    let same : lines_until b cpu (round + 1 + suc n) ≡ lines_until b cpu (round + suc (suc n)) = ap (lines_until b cpu) (omega arith) in
    omega (arith, here, more, rest, parts, same)

rounds_ended : (b : Bundle) (n round : ℕ) → rounds_in (default_rounds b round (suc n)) ≡ n
rounds_ended b zero round = between_rounds b round 0 b.cpus
rounds_ended b (suc n) round =
    let here = between_rounds b round 0 b.cpus in
    let rest = rounds_ended b n (round + 1) in
    let parts = rounds_in-append (default_round b round) (Round ∷ default_rounds b (round + 1) (suc n)) in
    omega (arith, here, rest, parts)

all_before : (b : Bundle) (cpu : ℕ) → IsValid b → lines_until b cpu b.rounds ≡ length (trace_of b cpu)
all_before b cpu valid = until_all b.rounds (trace_of b cpu) (λ k d lt. (steps_within b valid cpu k d lt).round)

-- what follows a round has the lines of the later ones
after_count : (b : Bundle) (cpu next : ℕ) → IsValid b → cpu < b.cpus → next ≤ b.rounds → turns_of cpu (rounds_after b next) + lines_until b cpu next ≡ length (trace_of b cpu)
after_count b cpu next valid lt le =
    let all = all_before b cpu valid in
    elim (nat_lt next b.rounds) as (λ t. nat_lt next b.rounds ≡ t → turns_of cpu (if t then Round ∷ default_rounds b next (b.rounds - next) else []) + lines_until b cpu next ≡ length (trace_of b cpu)) [
      | true ↦ λ e.
          let below : next < b.rounds = grind arith in
          let count = rounds_count b cpu (b.rounds - next) next lt in
          let end : lines_until b cpu (next + (b.rounds - next)) ≡ lines_until b cpu b.rounds = ap (lines_until b cpu) (omega arith) in
          omega (arith, count, end, all)
      | false ↦ λ e.
          let is : next ≡ b.rounds = grind arith in
          let end : lines_until b cpu next ≡ lines_until b cpu b.rounds = ap (lines_until b cpu) is in
          omega (arith, end, all)
    ] refl

after_rounds : (b : Bundle) (next : ℕ) → next ≤ b.rounds → rounds_in (rounds_after b next) + next ≡ b.rounds
after_rounds b next le =
    elim (nat_lt next b.rounds) as (λ t. nat_lt next b.rounds ≡ t → rounds_in (if t then Round ∷ default_rounds b next (b.rounds - next) else []) + next ≡ b.rounds) [
      | true ↦ λ e.
          let below : next < b.rounds = grind arith in
          let some : b.rounds - next ≡ suc (b.rounds - next - 1) = omega arith in
          let ended : rounds_in (default_rounds b next (b.rounds - next)) ≡ b.rounds - next - 1 = ap (λ n. rounds_in (default_rounds b next n)) some ∙ rounds_ended b (b.rounds - next - 1) next in
          omega (arith, ended)
      | false ↦ λ e. let is : next ≡ b.rounds = grind arith in omega (arith, is)
    ] refl

-- the line between two rounds
pub round_next : (b : Bundle) (round : ℕ) → round < b.rounds → rounds_after b round ≡ Round ∷ default_rounds b round (b.rounds - round)
round_next b round lt = let more : nat_lt round b.rounds ≡ true = grind arith in ap (λ t. if t then Round ∷ default_rounds b round (b.rounds - round) else []) more

-- a round, and what follows it
pub round_parted : (b : Bundle) (round : ℕ) → round < b.rounds → default_rounds b round (b.rounds - round) ≡ default_round b round ++ rounds_after b (round + 1)
round_parted b round lt = by_rest (b.rounds - round) refl
  where
    by_rest : (n : ℕ) → n ≡ b.rounds - round → default_rounds b round n ≡ default_round b round ++ rounds_after b (round + 1)
    by_rest zero is = absurd (omega arith)
    by_rest (suc zero) is = let last : nat_lt (round + 1) b.rounds ≡ false = grind arith in rw last (sym (append-nil (default_round b round)))
    by_rest (suc (suc n)) is =
        let more : nat_lt (round + 1) b.rounds ≡ true = grind arith in
        let rest : b.rounds - (round + 1) ≡ suc n = omega arith in
        rw more (ap (λ n. default_round b round ++ Round ∷ default_rounds b (round + 1) n) (sym rest))

module _ (b : Bundle) (none : b.order ≡ None) where
  order_is : order_of b ≡ default_rounds b 0 b.rounds
  order_is = ap (λ (o : Option (List OrderLine)). unwrap_or o (default_rounds b 0 b.rounds)) none

  -- the order begins with its first round
  pub order_parted : 0 < b.rounds → order_of b ≡ default_round b 0 ++ rounds_after b 1
  order_parted some = let all : b.rounds ≡ b.rounds - 0 = omega arith in order_is ∙ ap (default_rounds b 0) all ∙ round_parted b 0 some

  -- what follows a CPU's turns
  pub rest_of_turns : (cpu round : ℕ) → IsValid b → cpu < b.cpus → round < b.rounds → IsRest b cpu round (turns_from b round (cpu + 1) ++ rounds_after b (round + 1))
  rest_of_turns cpu round valid lt in-rounds =
      let none_here = between_none b round (cpu + 1) (b.cpus - (cpu + 1)) cpu (omega arith) in
      let no_end = between_rounds b round (cpu + 1) (b.cpus - (cpu + 1)) in
      let start = until_none (trace_of b cpu) in
      record {
        is_cpu = lt;
        total = let count = rounds_count b cpu b.rounds 0 lt in let all = all_before b cpu valid in
            let end : lines_until b cpu (0 + b.rounds) ≡ lines_until b cpu b.rounds = ap (lines_until b cpu) (omega arith) in
            ap (turns_of cpu) order_is ∙ omega (arith, count, all, start, end);
        later = let parts = turns_of-append cpu (turns_from b round (cpu + 1)) (rounds_after b (round + 1)) in let after = after_count b cpu (round + 1) valid lt (omega arith) in omega (arith, parts, none_here, after);
        rounds =
            let parts = rounds_in-append (turns_from b round (cpu + 1)) (rounds_after b (round + 1)) in
            let after = after_rounds b (round + 1) (omega arith) in
            let some : b.rounds ≡ suc (b.rounds - 1) = omega arith in
            let ended : rounds_in (default_rounds b 0 b.rounds) ≡ b.rounds - 1 = ap (λ n. rounds_in (default_rounds b 0 n)) some ∙ rounds_ended b (b.rounds - 1) 0 in
            let order = ap rounds_in order_is in
            omega (arith, parts, no_end, after, ended, order);
      }

-- the turns of a CPU, and then those of the CPUs behind it
pub turns_parted : (b : Bundle) (round cpu : ℕ) (rest : List OrderLine) → cpu < b.cpus → turns_from b round cpu ++ rest ≡ replicate (length (lines_of_round b cpu round)) (Cpu cpu) ++ (turns_from b round (cpu + 1) ++ rest)
turns_parted b round cpu rest lt =
    let n : b.cpus - cpu ≡ suc (b.cpus - (cpu + 1)) = omega arith in
    ap (λ n. turns_between b round cpu n ++ rest) n
    ∙ append_assoc (replicate (length (lines_of_round b cpu round)) (Cpu cpu)) (turns_from b round (cpu + 1)) rest

-- no CPU is behind the last
pub turns_end : (b : Bundle) (round cpu : ℕ) (rest : List OrderLine) → b.cpus ≤ cpu → turns_from b round cpu ++ rest ≡ rest
turns_end b round cpu rest le = let none : b.cpus - cpu ≡ 0 = omega arith in ap (λ n. turns_between b round cpu n ++ rest) none

-- along a trace the rounds do not fall
in_rounds : (b : Bundle) (cpu : ℕ) → IsValid b → cpu < b.cpus → IsNonDecreasingBy (λ line. line.round) (trace_of b cpu)
in_rounds b cpu valid lt = All-get_or (IsNonDecreasingBy (λ (line : TraceStep). line.round)) b.traces cpu [] (subst (λ n. cpu < n) (sym valid.traces) lt) valid.in_rounds

-- ---- a CPU's next line

module _ (b : Bundle) (plan : Plan) (m : Machine) (cpu round : ℕ) (rest : List OrderLine) (is : IsRest b cpu round rest) where
  -- where it has turns left, its next line is of the round
  pub line_is_left : (n : ℕ) → IsLeft b plan m (replicate (suc n) (Cpu cpu) ++ rest) → has_line_at (trace_of b cpu) (length (replies_at m.replies cpu).items) round ≡ true
  line_is_left n left =
      let more = replicate n (Cpu cpu) ++ rest in
      let turn = left_turn b plan m cpu more left in
      let place = place_is b plan m cpu more left in
      let rounds = left_round b plan m (Cpu cpu ∷ more) left in
      let parts = rounds_in-append (replicate n (Cpu cpu)) rest in
      let none = no_rounds n cpu in
      let all = is.rounds in
      let at = left.at.round in
      let of_round = turn.in_round in
      let some : nat_lt (length (replies_so_far (play_after_lines b plan left.lines) cpu)) (length (trace_of b cpu)) ≡ true = let lt = turn.some in grind arith in
      let same : ((line_to_play b (play_after_lines b plan left.lines) cpu).round == round) ≡ true = let here : (line_to_play b (play_after_lines b plan left.lines) cpu).round ≡ round = omega (arith, rounds, parts, none, all, at, of_round) in grind arith in
      ap (λ n. has_line_at (trace_of b cpu) n round) place ∙ ap (λ t. t && ((line_to_play b (play_after_lines b plan left.lines) cpu).round == round)) some ∙ same

  -- where it has none, its next line is of a later round
  pub no_line_is_left : IsLeft b plan m rest → IsValid b → has_line_at (trace_of b cpu) (length (replies_at m.replies cpu).items) round ≡ true → ⊥
  no_line_is_left left valid has =
      let trace = trace_of b cpu in
      let at = length (replies_at m.replies cpu).items in
      let parts = both_of (nat_lt at (length trace)) ((slice_index_or trace at no_step).round == round) has in
      let within : at < length trace = let t = parts.0 in grind arith in
      let here : (slice_index_or trace at no_step).round ≡ round = let t = parts.1 in grind arith in
      let replies = left_replies b plan m rest left cpu is.is_cpu in
      let before : suc at ≤ lines_until b cpu (round + 1) =
      until_first (round + 1) (suc at) trace within (λ i lt. let le = in_rounds b cpu valid is.is_cpu i at no_step (omega arith) within in omega (arith, le, here)) in
      omega (arith, replies, is.total, is.later, before)
    where
      both_of : (x y : Bool) → (x && y) ≡ true → (x ≡ true) × (y ≡ true)
      both_of true true e = (refl, refl)
      both_of true false e = absurd (cc)
      both_of false y e = absurd (cc)

  -- so its lines are done one by one
  pub line_next : (n : ℕ) → IsLeft b plan m (replicate n (Cpu cpu) ++ rest) → has_line_at (trace_of b cpu) (length (replies_at m.replies cpu).items) round ≡ true → (k : ℕ) × IsLeft b plan m (Cpu cpu ∷ (replicate k (Cpu cpu) ++ rest))
  line_next zero left has = absurd (no_line_is_left left (planned_is_valid left.at.planned) has)
  line_next (suc k) left has = (k, left)

  pub none_next : (n : ℕ) → IsLeft b plan m (replicate n (Cpu cpu) ++ rest) → has_line_at (trace_of b cpu) (length (replies_at m.replies cpu).items) round ≡ false → IsLeft b plan m rest
  none_next zero left none = left
  none_next (suc k) left none = let has = line_is_left k left in absurd (cc)

-- a line that is done has a reply
pub one_fewer : (b : Bundle) (plan : Plan) (m n : Machine) (cpu : ℕ) (rest : List OrderLine) → IsLeft b plan m (Cpu cpu ∷ rest) → IsLeft b plan n rest →
    length (trace_of b cpu) - length (replies_at n.replies cpu).items < length (trace_of b cpu) - length (replies_at m.replies cpu).items
one_fewer b plan m n cpu rest left now =
    let turn = left_turn b plan m cpu rest left in
    let place = place_is b plan m cpu rest left in
    let before = left_replies b plan m (Cpu cpu ∷ rest) left cpu turn.is_cpu in
    let after = left_replies b plan n rest now cpu turn.is_cpu in
    let own : (cpu == cpu) ≡ true = grind arith in
    let one : turns_of cpu (Cpu cpu ∷ rest) ≡ 1 + turns_of cpu rest = ap (λ t. (if t then 1 else 0) + turns_of cpu rest) own in
    let some = turn.some in
    omega (arith, place, before, after, one, some)
