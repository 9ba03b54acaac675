-- A machine that has done an order up to some lines.
use Rattle.std.proofs.Common.{◌≡◌, ◌≢◌, ◌<◌, ◌+◌, ℕ, zero, suc, ◌==◌, true, false, if◌then◌else◌, List, [], ◌∷◌, ◌++◌, length, drop, replicate, slice_index_or, refl, ap, sym, ◌∙◌, subst, arith, append_assoc, length-append}
use Rattle.std.specs.List.{fold}
use Rattle.std.proofs.lemmas.List.{append-nil, drop_more, get_or-map, get_or-set_same, get_or-set_other, length-map, length-set, length-replicate}
use Rattle.std.proofs.lemmas.List.Sums.{fold-append}
use Rattle.kz_model.specs.declared.bundle.Bundle.{Bundle}
use Rattle.kz_model.specs.declared.bundle.OrderLine.{OrderLine}
use Rattle.kz_model.specs.declared.bundle.OrderLine.TheVariants.{Cpu, Round}
use Rattle.kz_model.specs.declared.record.Plan.{Plan}
use Rattle.kz_model.specs.declared.step.Reply.{Reply}
use Rattle.kz_model.specs.declared.step.Step.{Step}
use Rattle.kz_model.specs.Run.Journal.{addressed}
use Rattle.kz_model.specs.Run.Order.{order_of}
use Rattle.kz_laws.specs.Play.{Play, replies_so_far, line_to_play, opening_play, effect_there, play_after_line, play_after_round, play_after_order_line, play_after_lines, play_run}
use Rattle.kz_laws.specs.PlayedAt.{IsPlayedAt, HasTurn}
use Rattle.kz_laws.proofs.Prefixes.{plays_are_sound, turns_have_lines}
use Rattle.kz_model.specs.Store.Replies.{RepliesSoFar}
use Rattle.kz_machine.specs.RecordRoom.{no_replies}
use Rattle.kz_machine.specs.Left.{IsLeft, turns_of, rounds_in}
use Rattle.kz_machine.specs.Machine.{Machine, replies_at}
use Rattle.kz_machine.specs.Stands.{StandsForPlay, IsTurn, IsRoundsEnd}
use Rattle.kz_machine.proofs.Fit.{has_elements}
use Rattle.kz_bundle.proofs.Zoned.{planned_is_valid}

-- ---- what is played, line by line

-- a CPU has a reply for each of its turns
replies_more : (b : Bundle) (plan : Plan) (cpu : ℕ) (lines : List OrderLine) (s : Play) → cpu < length s.replies → length (replies_so_far (fold (play_after_order_line b plan) s lines) cpu) ≡ length (replies_so_far s cpu) + turns_of cpu lines
replies_more b plan cpu [] s lt = omega arith
replies_more b plan cpu (Round ∷ lines) s lt = replies_more b plan cpu lines (play_after_round b s) lt
replies_more b plan cpu (Cpu other ∷ lines) s lt =
    let line = addressed b plan (line_to_play b s other).act in
    let t = play_after_line b plan s other in
    let said = replies_so_far s other ++ (effect_there b plan s other line.0 line.1).reply ∷ [] in
    let rest = replies_more b plan cpu lines t (subst (λ n. cpu < n) (sym (length-set s.replies other said)) lt) in
    let one : length (replies_so_far t cpu) ≡ length (replies_so_far s cpu) + (if other == cpu then 1 else 0) =
    elim (other == cpu) as (λ b'. (other == cpu) ≡ b' → length (replies_so_far t cpu) ≡ length (replies_so_far s cpu) + (if b' then 1 else 0)) [
      | true ↦ λ e.
          let is : other ≡ cpu = grind arith in
          let here : other < length s.replies = subst (λ n. n < length s.replies) (sym is) lt in
          subst (λ k. length (replies_so_far t k) ≡ length (replies_so_far s k) + 1) is
          (ap (λ (l : List Reply). length l) (get_or-set_same s.replies other said [] here) ∙ length-append (replies_so_far s other) ((effect_there b plan s other line.0 line.1).reply ∷ []))
      | false ↦ λ e.
          let ne : cpu ≢ other = grind arith in
          ap (λ (l : List Reply). length l) (get_or-set_other s.replies other cpu said [] ne) ∙ plain (length (replies_so_far s cpu))
    ] refl in
    omega (arith, rest, one)
  where
    plain : (n : ℕ) → n ≡ n + 0
    plain n = omega arith

no_reply : (cpus cpu : ℕ) → length (slice_index_or {A = List Reply} (replicate cpus []) cpu []) ≡ 0
no_reply zero cpu = refl
no_reply (suc cpus) zero = refl
no_reply (suc cpus) (suc cpu) = no_reply cpus cpu

replies_played : (b : Bundle) (plan : Plan) (cpu : ℕ) (lines : List OrderLine) → cpu < b.cpus → length (replies_so_far (play_after_lines b plan lines) cpu) ≡ turns_of cpu lines
replies_played b plan cpu lines lt =
    let all = replies_more b plan cpu lines (opening_play b plan) (subst (λ n. cpu < n) (sym (length-replicate {A = List Reply} b.cpus [])) lt) in
    let none = no_reply b.cpus cpu in
    omega (arith, all, none)

rounds_more : (b : Bundle) (plan : Plan) (lines : List OrderLine) (s : Play) → (fold (play_after_order_line b plan) s lines).round ≡ s.round + rounds_in lines
rounds_more b plan [] s = omega arith
rounds_more b plan (Cpu other ∷ lines) s = rounds_more b plan lines (play_after_line b plan s other)
rounds_more b plan (Round ∷ lines) s = let rest = rounds_more b plan lines (play_after_round b s) in omega (arith, rest)

rounds_played : (b : Bundle) (plan : Plan) (lines : List OrderLine) → (play_after_lines b plan lines).round ≡ rounds_in lines
rounds_played b plan lines = let all = rounds_more b plan lines (opening_play b plan) in omega (arith, all)

pub turns_of-append : (cpu : ℕ) (xs ys : List OrderLine) → turns_of cpu (xs ++ ys) ≡ turns_of cpu xs + turns_of cpu ys
turns_of-append cpu [] ys = omega arith
turns_of-append cpu (Cpu other ∷ xs) ys = omega (arith, turns_of-append cpu xs ys)
turns_of-append cpu (Round ∷ xs) ys = turns_of-append cpu xs ys

pub rounds_in-append : (xs ys : List OrderLine) → rounds_in (xs ++ ys) ≡ rounds_in xs + rounds_in ys
rounds_in-append [] ys = omega arith
rounds_in-append (Cpu other ∷ xs) ys = rounds_in-append xs ys
rounds_in-append (Round ∷ xs) ys = omega (arith, rounds_in-append xs ys)

-- ---- the machine at these lines

module _ (b : Bundle) (plan : Plan) (m : Machine) (left : List OrderLine) (is : IsLeft b plan m left) where
  abbrev pub now_played : Play
  now_played = play_after_lines b plan is.lines

  pub left_sound : IsPlayedAt b plan is.lines now_played
  left_sound = plays_are_sound b plan (planned_is_valid is.at.planned) is.at.fit.zones (has_elements b plan is.at.fit) is.lines left is.parted

  pub may_end : IsRoundsEnd b plan now_played
  may_end = record { sound = left_sound.sound; within = left_sound.round }

  pub left_round : m.round + rounds_in left ≡ rounds_in (order_of b)
  left_round =
      let play_after_step = rounds_played b plan is.lines in
      let parts = rounds_in-append is.lines left in
      let order = ap rounds_in is.parted in
      let round = is.at.round in
      omega (arith, play_after_step, parts, order, round)

  replies_long : length m.replies ≡ b.cpus
  replies_long = sym (length-map m.replies (λ (r : RepliesSoFar). r.items)) ∙ ap (λ (l : List (List Reply)). length l) is.at.replies ∙ left_sound.sound.cpus

  pub left_within : (cpu : ℕ) → cpu < b.cpus → cpu < length m.replies
  left_within cpu lt = subst (λ n. cpu < n) (sym replies_long) lt

  pub replies_are : (cpu : ℕ) → cpu < b.cpus → (replies_at m.replies cpu).items ≡ replies_so_far now_played cpu
  replies_are cpu lt = sym (get_or-map (λ (r : RepliesSoFar). r.items) m.replies cpu no_replies [] (left_within cpu lt)) ∙ ap (λ (l : List (List Reply)). slice_index_or l cpu []) is.at.replies

  pub left_replies : (cpu : ℕ) → cpu < b.cpus → length (replies_at m.replies cpu).items + turns_of cpu left ≡ turns_of cpu (order_of b)
  left_replies cpu lt =
      let here = ap (λ (l : List Reply). length l) (replies_are cpu lt) ∙ replies_played b plan cpu is.lines lt in
      let parts = turns_of-append cpu is.lines left in
      let order = ap (turns_of cpu) is.parted in
      omega (arith, here, parts, order)

-- with a CPU's line next
module _ (b : Bundle) (plan : Plan) (m : Machine) (cpu : ℕ) (rest : List OrderLine) (is : IsLeft b plan m (Cpu cpu ∷ rest)) where
  abbrev s : Play
  s = play_after_lines b plan is.lines

  pub left_turn : HasTurn b plan s cpu
  left_turn = turns_have_lines b plan (planned_is_valid is.at.planned) is.at.fit.zones is.lines rest cpu is.parted

  pub turn_is : (zone : ℕ) (step : Step) → addressed b plan (line_to_play b s cpu).act ≡ (zone, step) → IsTurn b plan s cpu zone step
  turn_is zone step line = record { sound = (left_sound b plan m (Cpu cpu ∷ rest) is).sound; turn = left_turn; line = line }

  pub place_is : length (replies_at m.replies cpu).items ≡ length (replies_so_far s cpu)
  place_is = ap (λ (l : List Reply). length l) (replies_are b plan m (Cpu cpu ∷ rest) is cpu left_turn.is_cpu)

  pub line_done : (n : Machine) → StandsForPlay b plan n (play_after_line b plan s cpu) → IsLeft b plan n rest
  line_done n at =
      record {
        lines = is.lines ++ Cpu cpu ∷ [];
        parted = append_assoc is.lines (Cpu cpu ∷ []) rest ∙ is.parted;
        at = subst (λ (s : Play). StandsForPlay b plan n s) (sym (fold-append (play_after_order_line b plan) (opening_play b plan) is.lines (Cpu cpu ∷ []))) at;
      }

-- with a round's end next
pub round_done : (b : Bundle) (plan : Plan) (m n : Machine) (rest : List OrderLine) (is : IsLeft b plan m (Round ∷ rest)) → StandsForPlay b plan n (play_after_round b (play_after_lines b plan is.lines)) → IsLeft b plan n rest
round_done b plan m n rest is at =
    record {
      lines = is.lines ++ Round ∷ [];
      parted = append_assoc is.lines (Round ∷ []) rest ∙ is.parted;
      at = subst (λ (s : Play). StandsForPlay b plan n s) (sym (fold-append (play_after_order_line b plan) (opening_play b plan) is.lines (Round ∷ []))) at;
    }

-- with nothing left
pub run_done : (b : Bundle) (plan : Plan) (m n : Machine) (is : IsLeft b plan m []) → StandsForPlay b plan n (play_after_round b (play_after_lines b plan is.lines)) → StandsForPlay b plan n (play_run b plan)
run_done b plan m n is at = subst (λ (lines : List OrderLine). StandsForPlay b plan n (play_after_round b (play_after_lines b plan lines))) (sym (append-nil is.lines) ∙ is.parted) at

-- the next of some lines
pub next_left : (b : Bundle) (plan : Plan) (m : Machine) (lines : List OrderLine) (i : ℕ) (line : OrderLine) → i < length lines → slice_index_or lines i (Cpu 0) ≡ line → IsLeft b plan m (drop i lines) → IsLeft b plan m (line ∷ drop (i + 1) lines)
next_left b plan m lines i line lt is left = subst (λ (l : List OrderLine). IsLeft b plan m l) (drop_more lines i (Cpu 0) lt ∙ ap (λ (line : OrderLine). line ∷ drop (i + 1) lines) is) left
