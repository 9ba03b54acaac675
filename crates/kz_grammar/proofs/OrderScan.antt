-- The lines of an order one after the other: it is whole, or the first line that breaks it.
use Rattle.std.proofs.Common.{◌≡◌, ◌≢◌, inl, inr, ⊎_elim, ℕ, zero, suc, ◌+◌, ◌-◌, ◌<◌, ◌≤◌, ◌==◌, ◌||◌, ◌&&◌, Bool, true, false, not, List, [], ◌∷◌, ◌++◌, length, slice_index, slice_set, Option, Some, None, refl, ap, sym, ◌∙◌, subst, arith, length-append}
use Rattle.std.specs.List.{list_all}
use Rattle.std.proofs.lemmas.Bool.{cases_Bool, cases_eq, and_cases, or_cases, or_parts, cond-true, cond-false, not-true, not-false}
use Rattle.std.proofs.lemmas.List.{append_assoc, append-nil, get_or-set_same, get_or-set_other}
use Rattle.kz_model.specs.declared.bundle.OrderLine.{OrderLine}
use Rattle.kz_model.specs.declared.bundle.OrderLine.TheVariants as turn
use Rattle.kz_model.specs.declared.grammar.Cause.TheVariants as cause
use Rattle.kz_model.specs.declared.grammar.Refusal.{Refusal}
use Rattle.kz_model.specs.Grammar.Form.{Section}
use Rattle.kz_model.specs.Grammar.Stages.{left_in, none_left, order_from}
use Rattle.kz_bundle.proofs.Choices.{equal}
use Rattle.kz_grammar.specs.Rounds.{steps_of, breaks_in, turns_in, IsWholeOrder, IsOrderSoFar, HasStepLeft, BreaksOrder, IsOrderFault}
use Rattle.kz_grammar.proofs.Cases.{refusal_at, test_then, test_alone}
use Rattle.kz_grammar.proofs.TurnCounts.{breaks-turn, breaks-round, turns-newest, turns-other, turns-round, turns-later}

-- ---- what is left of a round

pub left_is : (round : ℕ) (sections : List Section) (cpu : ℕ) → slice_index (left_in round sections) cpu ≡ steps_of sections cpu round
left_is round [] cpu = none cpu
  where
    none : (cpu : ℕ) → slice_index [] cpu ≡ 0
    none cpu = refl
left_is round (section ∷ sections) zero = refl
left_is round (section ∷ sections) (suc cpu) = left_is round sections cpu

in_list : (left : List ℕ) (cpu : ℕ) → slice_index left cpu ≢ 0 → cpu < length left
in_list [] cpu some = absurd (some refl)
in_list (n ∷ left) zero some = omega arith
in_list (n ∷ left) (suc cpu) some = omega (arith, in_list left cpu some)

none_of : (left : List ℕ) → none_left left ≡ true → (cpu : ℕ) → slice_index left cpu ≡ 0
none_of [] e cpu = refl
none_of (n ∷ left) e zero = first n (list_all (λ n. n == 0) left) e
  where
    first : (n : ℕ) (b : Bool) → ((n == 0) && b) ≡ true → n ≡ 0
    first n b e = grind arith
none_of (n ∷ left) e (suc cpu) = none_of left (rest (n == 0) (none_left left) e) cpu
  where
    rest : (a b : Bool) → (a && b) ≡ true → b ≡ true
    rest true b e = e
    rest false b e = absurd (cc)

-- a CPU that has something left
some_of : (left : List ℕ) → none_left left ≡ false → (cpu : ℕ) × (slice_index left cpu ≢ 0)
some_of [] e = absurd (cc)
some_of (n ∷ left) e =
    ⊎_elim
    (λ here. (0, differ n here))
    (λ later. let rest = some_of left later in (suc rest.0, rest.1))
    (and_cases (n == 0) (none_left left) e)
  where
    differ : (n : ℕ) → (n == 0) ≡ false → n ≢ 0
    differ n e same = grind arith

-- ---- lines so far

-- the lines so far are in order, and this is left of the newest round
pub record IsLeft (sections : List Section) (last round : ℕ) (left : List ℕ) (before : List OrderLine) : Type 0 where
  pub newest : breaks_in before ≡ round
  pub within : round ≤ last
  pub over : (cpu before_it : ℕ) → before_it < round → turns_in before cpu before_it ≡ steps_of sections cpu before_it
  pub some : (cpu : ℕ) → turns_in before cpu round + slice_index left cpu ≡ steps_of sections cpu round

pub so_far : (sections : List Section) (last round : ℕ) (left : List ℕ) (before : List OrderLine) → IsLeft sections last round left before → IsOrderSoFar sections last before
so_far sections last round left before h = record {
  rounds = omega (arith, h.newest, h.within);
  over = λ cpu r lt. h.over cpu r (omega (arith, lt, h.newest));
  newest = λ cpu. subst (λ r. turns_in before cpu r ≤ steps_of sections cpu r) (sym h.newest) (omega (arith, h.some cpu));
}

-- a CPU that has something left has had fewer turns than steps
step_left : (sections : List Section) (last round : ℕ) (left : List ℕ) (before : List OrderLine) → IsLeft sections last round left before → none_left left ≡ false → HasStepLeft sections before
step_left sections last round left before h some =
    let one = some_of left some in
    (one.0, subst (λ r. turns_in before one.0 r < steps_of sections one.0 r) (sym h.newest) (less (turns_in before one.0 round) (slice_index left one.0) (steps_of sections one.0 round) (h.some one.0) one.1))
  where
    less : (a b c : ℕ) → a + b ≡ c → b ≢ 0 → a < c
    less a b c e some = omega arith

-- each CPU has had all turns of the newest round
all_had : (sections : List Section) (last round : ℕ) (left : List ℕ) (before : List OrderLine) → IsLeft sections last round left before → none_left left ≡ true → (cpu : ℕ) → turns_in before cpu round ≡ steps_of sections cpu round
all_had sections last round left before h none cpu = omega (arith, h.some cpu, none_of left none cpu)

turn_taken : (sections : List Section) (last round : ℕ) (left : List ℕ) (before : List OrderLine) (cpu : ℕ) → IsLeft sections last round left before → slice_index left cpu ≢ 0 →
    IsLeft sections last round (slice_set left cpu (slice_index left cpu - 1)) (before ++ turn.Cpu cpu ∷ [])
turn_taken sections last round left before cpu h some = record {
  newest = breaks-turn before cpu ∙ h.newest;
  within = h.within;
  over = λ other r lt. turns-other before cpu other r (λ same. absurd (omega (arith, same, h.newest, lt))) ∙ h.over other r lt;
  some = λ other.
      ⊎_elim
      (λ (same : other ≡ cpu). subst (λ (c : ℕ). turns_in (before ++ turn.Cpu cpu ∷ []) c round + slice_index (slice_set left cpu (slice_index left cpu - 1)) c ≡ steps_of sections c round) (sym same) here)
      (λ differ. ap (λ n. n + slice_index (slice_set left cpu (slice_index left cpu - 1)) other) (turns-newest before cpu other round h.newest ∙ ap (λ n. turns_in before other round + n) (cond-false (cpu == other) 1 0 (not_same cpu other differ)))
      ∙ ap (λ n. turns_in before other round + 0 + n) (get_or-set_other left cpu other (slice_index left cpu - 1) 0 differ) ∙ omega (arith, h.some other))
      (cases_eq other cpu);
}
  where
    not_same : (a b : ℕ) → b ≢ a → (a == b) ≡ false
    not_same a b differ = ⊎_elim (λ y. absurd (differ (equal a b y))) (λ n. n) (cases_Bool (a == b))
      where
        equal : (a b : ℕ) → (a == b) ≡ true → b ≡ a
        equal a b e = grind arith

    itself : (a : ℕ) → (a == a) ≡ true
    itself a = grind arith

    moved : (a b c : ℕ) → a + b ≡ c → b ≢ 0 → a + 1 + (b - 1) ≡ c
    moved a b c e some = omega arith

    here : turns_in (before ++ turn.Cpu cpu ∷ []) cpu round + slice_index (slice_set left cpu (slice_index left cpu - 1)) cpu ≡ steps_of sections cpu round
    here =
        ap (λ n. n + slice_index (slice_set left cpu (slice_index left cpu - 1)) cpu) (turns-newest before cpu cpu round h.newest ∙ ap (λ n. turns_in before cpu round + n) (cond-true (cpu == cpu) 1 0 (itself cpu)))
        ∙ ap (λ n. turns_in before cpu round + 1 + n) (get_or-set_same left cpu (slice_index left cpu - 1) 0 (in_list left cpu some))
        ∙ moved (turns_in before cpu round) (slice_index left cpu) (steps_of sections cpu round) (h.some cpu) some

round_over : (sections : List Section) (last round : ℕ) (left : List ℕ) (before : List OrderLine) → IsLeft sections last round left before → none_left left ≡ true → round ≢ last →
    IsLeft sections last (round + 1) (left_in (round + 1) sections) (before ++ turn.Round ∷ [])
round_over sections last round left before h none other = record {
  newest = breaks-round before ∙ ap (λ n. n + 1) h.newest;
  within = omega (arith, h.within, other);
  over = λ cpu r lt. turns-round before cpu r ∙ ⊎_elim
      (λ (same : r ≡ round). subst (λ n. turns_in before cpu n ≡ steps_of sections cpu n) (sym same) (all_had sections last round left before h none cpu))
      (λ differ. h.over cpu r (omega (arith, lt, differ)))
      (cases_eq r round);
  some = λ cpu. ap (λ n. n + slice_index (left_in (round + 1) sections) cpu) (turns-round before cpu (round + 1) ∙ turns-later before cpu (round + 1) (omega (arith, h.newest)))
      ∙ none_first (slice_index (left_in (round + 1) sections) cpu) ∙ left_is (round + 1) sections cpu;
}
  where
    none_first : (n : ℕ) → 0 + n ≡ n
    none_first n = omega arith

-- ---- all lines

-- the order is whole, or the first line that breaks it
abbrev pub OrderOutcome : List Section → ℕ → List OrderLine → ℕ → Option Refusal → Type 0
OrderOutcome sections last lines at None = IsWholeOrder sections last lines
OrderOutcome sections last lines at (Some refusal) = (refusal.cause ≡ cause.BadOrder) × IsOrderFault sections last lines at refusal.line

not_equal : (a b : ℕ) → (a == b) ≡ false → a ≢ b
not_equal a b e same = grind arith

differ : (a b : ℕ) → not (a == b) ≡ true → a ≢ b
differ a b e same = grind arith

module _ (sections : List Section) (last : ℕ) (whole : List OrderLine) (at : ℕ) where
  abbrev Outcome : Option Refusal → Type 0
  Outcome = OrderOutcome sections last whole at

  fault : (round : ℕ) (left : List ℕ) (before rest : List OrderLine) (line : ℕ) → whole ≡ before ++ rest → line ≡ at + 1 + length before → IsLeft sections last round left before →
      BreaksOrder sections last before rest → Outcome (refusal_at line cause.BadOrder)
  fault round left before rest line parts number h broken = (refl, record { before = before; rest = rest; parts = parts; numbered = number; broken = broken; first = so_far sections last round left before h })

  whole_order : (round : ℕ) (left : List ℕ) (before : List OrderLine) → IsLeft sections last round left before → none_left left ≡ true → round ≡ last → IsWholeOrder sections last before
  whole_order round left before h none is = record {
    rounds = h.newest ∙ is;
    turns = λ cpu r le. ⊎_elim
        (λ (same : r ≡ round). subst (λ n. turns_in before cpu n ≡ steps_of sections cpu n) (sym same) (all_had sections last round left before h none cpu))
        (λ differ. h.over cpu r (omega (arith, le, is, differ)))
        (cases_eq r round);
  }

  one_line_more : (before : List OrderLine) (entry : OrderLine) (line : ℕ) → line ≡ at + 1 + length before → line + 1 ≡ at + 1 + length (before ++ entry ∷ [])
  one_line_more before entry line e = omega (arith, e, length-append before (entry ∷ []))

  pub scan : (round : ℕ) (left : List ℕ) (before lines : List OrderLine) (line : ℕ) → whole ≡ before ++ lines → line ≡ at + 1 + length before → IsLeft sections last round left before →
      Outcome (order_from sections last round left line lines)
  scan round left before [] line parts number h =
      test_alone Outcome (not (none_left left) || not (round == last)) line cause.BadOrder
      (λ wrong. fault round left before [] line parts number h (⊎_elim (λ some. inl (step_left sections last round left before h (not-true (none_left left) some)))
      (λ other. inr (λ same. differ round last other (sym h.newest ∙ same))) (or_cases (not (none_left left)) (not (round == last)) wrong)))
      (λ fine. let parts' = or_parts (not (none_left left)) (not (round == last)) fine in
      subst (IsWholeOrder sections last) (sym (parts ∙ append-nil before)) (whole_order round left before h (not-false (none_left left) parts'.0) (equal round last (not-false (round == last) parts'.1))))
  scan round left before (turn.Cpu cpu ∷ lines) line parts number h =
      test_then Outcome (slice_index left cpu == 0) line cause.BadOrder (order_from sections last round (slice_set left cpu (slice_index left cpu - 1)) (line + 1) lines)
      (λ none. fault round left before (turn.Cpu cpu ∷ lines) line parts number h
      (subst (λ r. turns_in before cpu r ≡ steps_of sections cpu r) (sym h.newest) (omega (arith, h.some cpu, equal (slice_index left cpu) 0 none))))
      (λ some. scan round (slice_set left cpu (slice_index left cpu - 1)) (before ++ turn.Cpu cpu ∷ []) lines (line + 1) (parts ∙ sym (append_assoc before (turn.Cpu cpu ∷ []) lines))
      (one_line_more before (turn.Cpu cpu) line number) (turn_taken sections last round left before cpu h (not_equal (slice_index left cpu) 0 some)))
  scan round left before (turn.Round ∷ lines) line parts number h =
      test_then Outcome (not (none_left left) || (round == last)) line cause.BadOrder (order_from sections last (round + 1) (left_in (round + 1) sections) (line + 1) lines)
      (λ wrong. fault round left before (turn.Round ∷ lines) line parts number h (⊎_elim (λ some. inl (step_left sections last round left before h (not-true (none_left left) some)))
      (λ same. inr (h.newest ∙ equal round last same)) (or_cases (not (none_left left)) (round == last) wrong)))
      (λ fine. let parts' = or_parts (not (none_left left)) (round == last) fine in
      scan (round + 1) (left_in (round + 1) sections) (before ++ turn.Round ∷ []) lines (line + 1) (parts ∙ sym (append_assoc before (turn.Round ∷ []) lines))
      (one_line_more before turn.Round line number) (round_over sections last round left before h (not-false (none_left left) parts'.0) (not_equal round last parts'.1)))
