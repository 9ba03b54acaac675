-- The rounds of traces do not fall, and the lines of an order without a fault are in turn.
use Rattle.std.proofs.Common.{◌≡◌, ℕ, zero, suc, ◌+◌, ◌-◌, ◌<◌, ◌≤◌, ◌==◌, ◌||◌, Bool, true, false, not, List, [], ◌∷◌, length, map, All, slice_index, slice_index_or, slice_set, Option, None, Some, refl, ap, sym, ◌∙◌, subst, arith, if◌then◌else◌}
use Rattle.std.specs.List.{filter}
use Rattle.std.specs.List.Sorted.{IsNonDecreasingBy}
use Rattle.std.specs.Option.{IfSome}
use Rattle.std.proofs.lemmas.List.{get_or-map, length-map, length-set}
use Rattle.std.proofs.lemmas.List.Elements.{All-weaker, All-map}
use Rattle.std.proofs.lemmas.List.Sums.{AllPass-from_list_all}
use Rattle.kz_model.specs.declared.bundle.Bundle.{Bundle}
use Rattle.kz_model.specs.declared.bundle.TraceStep.{TraceStep}
use Rattle.kz_model.specs.declared.bundle.OrderLine.{OrderLine}
use Rattle.kz_model.specs.declared.bundle.OrderLine.TheVariants as turn
use Rattle.kz_model.specs.declared.grammar.Cause.{Cause}
use Rattle.kz_model.specs.declared.grammar.Cause.TheVariants as cause
use Rattle.kz_model.specs.Grammar.Steps.{Flush}
use Rattle.kz_model.specs.Grammar.Form.{StepLine, Section, Draft}
use Rattle.kz_model.specs.Grammar.Stages.{fault_if, steps_in, left_in, none_left, order_from, order_fault, sections_of, step_of}
use Rattle.kz_model.specs.Grammar.Turns.{is_of_round, counts_in, AreDone, AreInTurn}
use Rattle.kz_bundle.proofs.Choices.{equal, or_left, or_right}
use Rattle.kz_bundle.proofs.OneText.{some_fault, first_none, then_none}
use Rattle.kz_bundle.proofs.ValidLines.{IsSection}

-- ---- the rounds of a trace

no_line : StepLine
no_line = record { line = 0; round = 0; said = Flush [] }

rounds_kept : (types names : List (List ℕ)) (steps : List StepLine) → IsNonDecreasingBy (λ (line : StepLine). line.round) steps → IsNonDecreasingBy (λ (line : TraceStep). line.round) (map (step_of types names) steps)
rounds_kept types names steps rising i j d le lt =
    let within : j < length steps = subst (λ n. j < n) (length-map steps (step_of types names)) lt in
    let at : (k : ℕ) → k < length steps → (slice_index_or (map (step_of types names) steps) k d).round ≡ (slice_index_or steps k no_line).round =
    λ k there. ap (λ (line : TraceStep). line.round) (get_or-map (step_of types names) steps k no_line d there) in
    omega (arith, rising i j no_line le within, at i (omega arith), at j within)

pub traces_in_rounds : (types names : List (List ℕ)) (sections : List Section) → All IsSection sections → All (IsNonDecreasingBy (λ (line : TraceStep). line.round)) (map (λ section. map (step_of types names) section.steps) sections)
traces_in_rounds types names sections are =
    All-map (IsNonDecreasingBy (λ (line : TraceStep). line.round)) (λ (section : Section). map (step_of types names) section.steps) sections
    (All-weaker IsSection (λ (section : Section). IsNonDecreasingBy (λ (line : TraceStep). line.round) (map (step_of types names) section.steps)) (λ section is. rounds_kept types names section.steps is.in_rounds) sections are)

-- ---- the steps that are left

counts : (types names : List (List ℕ)) (round : ℕ) (steps : List StepLine) → steps_in round steps ≡ length (filter (is_of_round round) (map (step_of types names) steps))
counts types names round [] = refl
counts types names round (step ∷ steps) =
    let again = counts types names round steps in
    elim (step.round == round) as (λ b. (if b then 1 else 0) + steps_in round steps ≡ length (if b then step_of types names step ∷ filter (is_of_round round) (map (step_of types names) steps) else filter (is_of_round round) (map (step_of types names) steps))) [
      | true ↦ omega (arith, again)
      | false ↦ omega (arith, again)
    ]

pub all_counts : (types names : List (List ℕ)) (round : ℕ) (sections : List Section) →
    left_in round sections ≡ map (λ trace. length (filter (is_of_round round) trace)) (map (λ section. map (step_of types names) section.steps) sections)
all_counts types names round [] = refl
all_counts types names round (section ∷ sections) =
    ap (λ n. n ∷ left_in round sections) (counts types names round section.steps)
    ∙ ap (λ (left : List ℕ). length (filter (is_of_round round) (map (step_of types names) section.steps)) ∷ left) (all_counts types names round sections)

-- ---- the order

not_wrong : (wrong : Bool) (line : ℕ) (c : Cause) → fault_if wrong line c ≡ None → wrong ≡ false
not_wrong true line c e = some_fault (record { line = line; cause = c }) e
not_wrong false line c e = refl

so : (b : Bool) → not b ≡ false → b ≡ true
so true e = refl
so false e = absurd (cc)

done : (left : List ℕ) → none_left left ≡ true → AreDone left
done left e = All-weaker (λ n. (n == 0) ≡ true) (λ n. n ≡ 0) (λ n is. equal n 0 is) left (AllPass-from_list_all (λ n. n == 0) left e)

-- a CPU that has something left is one of them
one_of : (left : List ℕ) (cpu : ℕ) → 0 < slice_index left cpu → cpu < length left
one_of [] cpu some = absurd (omega (arith, some))
one_of (n ∷ left) zero some = omega arith
one_of (n ∷ left) (suc cpu) some = omega (arith, one_of left cpu some)

in_turn : (b : Bundle) (sections : List Section) (last : ℕ) → b.rounds ≡ last + 1 → ((round : ℕ) → left_in round sections ≡ counts_in b round) → length b.traces ≡ b.cpus →
    (lines : List OrderLine) (round line : ℕ) (left : List ℕ) → length left ≡ b.cpus → round ≤ last → order_from sections last round left line lines ≡ None → AreInTurn b round left lines
in_turn b sections last rounds same cpus [] round line left long le e =
    let wrong = not_wrong (not (none_left left) || not (round == last)) line cause.BadOrder e in
    let here : round ≡ last = equal round last (so (round == last) (or_right (not (none_left left)) (not (round == last)) wrong)) in
    (done left (so (none_left left) (or_left (not (none_left left)) (not (round == last)) wrong)), ap (λ n. n + 1) here ∙ sym rounds)
in_turn b sections last rounds same cpus (turn.Cpu cpu ∷ lines) round line left long le e =
    let after = slice_set left cpu (slice_index left cpu - 1) in
    let one = fault_if (slice_index left cpu == 0) line cause.BadOrder in
    let rest = order_from sections last round after (line + 1) lines in
    let none : (slice_index left cpu == 0) ≡ false = not_wrong (slice_index left cpu == 0) line cause.BadOrder (first_none one rest e) in
    let some : 0 < slice_index left cpu = grind arith in
    (subst (λ n. cpu < n) long (one_of left cpu some), some, in_turn b sections last rounds same cpus lines round (line + 1) after (length-set left cpu (slice_index left cpu - 1) ∙ long) le (then_none one rest e))
in_turn b sections last rounds same cpus (turn.Round ∷ lines) round line left long le e =
    let one = fault_if (not (none_left left) || (round == last)) line cause.BadOrder in
    let rest = order_from sections last (round + 1) (left_in (round + 1) sections) (line + 1) lines in
    let wrong = not_wrong (not (none_left left) || (round == last)) line cause.BadOrder (first_none one rest e) in
    let other : (round == last) ≡ false = or_right (not (none_left left)) (round == last) wrong in
    let before : round < last = not_last round last le other in (
      done left (so (none_left left) (or_left (not (none_left left)) (round == last) wrong)),
      omega (arith, before, rounds),
      subst (λ left. AreInTurn b (round + 1) left lines) (same (round + 1))
          (in_turn b sections last rounds same cpus lines (round + 1) (line + 1) (left_in (round + 1) sections) (ap (λ (left : List ℕ). length left) (same (round + 1)) ∙ length-map b.traces _ ∙ cpus) (omega (arith, before)) (then_none one rest e)),
    )
  where
    not_last : (round last : ℕ) → round ≤ last → (round == last) ≡ false → round < last
    not_last round last le other = grind arith

-- the order of a draft without a fault there, in its bundle
pub order_in_turn : (d : Draft) (b : Bundle) → b.rounds ≡ d.section.breaks + 1 → ((round : ℕ) → left_in round (sections_of d) ≡ counts_in b round) → length b.traces ≡ b.cpus → b.order ≡ d.order →
    order_fault d d.order ≡ None → IfSome b.order (AreInTurn b 0 (counts_in b 0))
order_in_turn d b rounds same cpus is e = subst (λ (o : Option (List OrderLine)). IfSome o (AreInTurn b 0 (counts_in b 0))) (sym is) (by_order d.order e)
  where
    by_order : (o : Option (List OrderLine)) → order_fault d o ≡ None → IfSome o (AreInTurn b 0 (counts_in b 0))
    by_order None e = tt
    by_order (Some lines) e =
        subst (λ left. AreInTurn b 0 left lines) (same 0)
        (in_turn b (sections_of d) d.section.breaks rounds same cpus lines 0 (d.order_at + 1) (left_in 0 (sections_of d)) (ap (λ (left : List ℕ). length left) (same 0) ∙ length-map b.traces _ ∙ cpus) (omega arith) e)
