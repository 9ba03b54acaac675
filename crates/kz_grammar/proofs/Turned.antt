-- What is sound has no fault: sentences that hold are not broken at any line.
use Rattle.std.proofs.Common.{◌≡◌, ⊎_elim, ℕ, zero, suc, ◌+◌, ◌≤◌, ◌==◌, Bool, true, false, if◌then◌else◌, List, [], ◌∷◌, ◌++◌, refl, ap, subst, arith}
use Rattle.std.proofs.lemmas.List.Elements.{Contains-append_right}
use Rattle.std.proofs.lemmas.List.{append-nil}
use Rattle.kz_model.specs.declared.bundle.OrderLine.{OrderLine}
use Rattle.kz_model.specs.declared.bundle.OrderLine.TheVariants as turn
use Rattle.kz_model.specs.Grammar.Form.{Section}
use Rattle.kz_grammar.specs.Rounds.{HaveEquallyManyBreaks, IsRoundsFault, breaks_in, turns_in, IsWholeOrder, BreaksOrder, IsOrderFault}
use Rattle.kz_grammar.proofs.Members.{contains_first}

-- ---- rounds

pub equally_many : (sections : List Section) (number : ℕ) → HaveEquallyManyBreaks sections → IsRoundsFault sections number → ⊥
equally_many sections number same fault =
    let all = subst HaveEquallyManyBreaks fault.parts same in
    fault.broken (all fault.section fault.first (Contains-append_right (fault.first ∷ fault.between) (fault.section ∷ fault.after) fault.section (contains_first fault.section fault.after))
    (contains_first fault.first (fault.between ++ fault.section ∷ fault.after)))

-- ---- an order

-- a turn counts in its round, whatever follows
turn_counts : (before after : List OrderLine) (cpu round : ℕ) → breaks_in before ≡ round → turns_in before cpu round + 1 ≤ turns_in (before ++ turn.Cpu cpu ∷ after) cpu round
turn_counts [] after cpu zero e = here (cpu == cpu) (turns_in after cpu 0) (itself cpu)
  where
    itself : (n : ℕ) → (n == n) ≡ true
    itself n = grind arith

    here : (b : Bool) (n : ℕ) → b ≡ true → 0 + 1 ≤ (if b then 1 else 0) + n
    here true n e = omega arith
    here false n e = absurd (cc)
turn_counts [] after cpu (suc round) e = absurd (omega arith)
turn_counts (turn.Cpu first ∷ before) after cpu zero e =
    more (if first == cpu then 1 else 0) (turns_in before cpu 0) (turns_in (before ++ turn.Cpu cpu ∷ after) cpu 0) (turn_counts before after cpu zero e)
  where
    more : (a n m : ℕ) → n + 1 ≤ m → a + n + 1 ≤ a + m
    more a n m le = omega arith
turn_counts (turn.Cpu first ∷ before) after cpu (suc round) e = turn_counts before after cpu (suc round) e
turn_counts (turn.Round ∷ before) after cpu zero e = absurd (omega arith)
turn_counts (turn.Round ∷ before) after cpu (suc round) e = turn_counts before after cpu round (omega arith)

-- a round that is over has no more turns
round_ended : (before after : List OrderLine) (cpu round : ℕ) → breaks_in before ≡ round → turns_in (before ++ turn.Round ∷ after) cpu round ≡ turns_in before cpu round
round_ended [] after cpu zero e = refl
round_ended [] after cpu (suc round) e = absurd (omega arith)
round_ended (turn.Cpu first ∷ before) after cpu zero e = ap (λ n. (if first == cpu then 1 else 0) + n) (round_ended before after cpu zero e)
round_ended (turn.Cpu first ∷ before) after cpu (suc round) e = round_ended before after cpu (suc round) e
round_ended (turn.Round ∷ before) after cpu zero e = absurd (omega arith)
round_ended (turn.Round ∷ before) after cpu (suc round) e = round_ended before after cpu round (omega arith)

breaks_more : (before after : List OrderLine) → breaks_in before + 1 ≤ breaks_in (before ++ turn.Round ∷ after)
breaks_more [] after = omega arith
breaks_more (turn.Cpu first ∷ before) after = breaks_more before after
breaks_more (turn.Round ∷ before) after = omega (arith, breaks_more before after)

pub whole_order : (sections : List Section) (last : ℕ) (lines : List OrderLine) (at number : ℕ) → IsWholeOrder sections last lines → IsOrderFault sections last lines at number → ⊥
whole_order sections last lines at number whole fault = by_rest fault.rest (subst (IsWholeOrder sections last) fault.parts whole) fault.broken
  where
    by_rest : (rest : List OrderLine) → IsWholeOrder sections last (fault.before ++ rest) → BreaksOrder sections last fault.before rest → ⊥
    by_rest [] whole broken =
        let is = subst (IsWholeOrder sections last) (append-nil fault.before) whole in
        ⊎_elim (λ some. absurd (omega (arith, some.1, is.turns some.0 (breaks_in fault.before) fault.first.rounds))) (λ other. other is.rounds) broken
    by_rest (turn.Cpu cpu ∷ after) whole none =
        absurd (omega (arith, none, whole.turns cpu (breaks_in fault.before) fault.first.rounds, turn_counts fault.before after cpu (breaks_in fault.before) refl))
    by_rest (turn.Round ∷ after) whole broken =
        ⊎_elim
        (λ some. absurd (omega (arith, some.1, whole.turns some.0 (breaks_in fault.before) fault.first.rounds, round_ended fault.before after some.0 (breaks_in fault.before) refl)))
        (λ (same : breaks_in fault.before ≡ last). absurd (omega (arith, same, whole.rounds, breaks_more fault.before after)))
        broken
