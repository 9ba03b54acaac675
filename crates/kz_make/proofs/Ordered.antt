-- The order in which four CPUs take turns until each round is done.
use Rattle.std.proofs.Common.{◌≡◌, ℕ, zero, suc, ◌+◌, ◌-◌, ◌<◌, ◌==◌, ◌||◌, not, true, false, List, [], ◌∷◌, ◌++◌, length, map, get_or, slice_index, Some, None, refl, ap, sym, ◌∙◌, arith, subst}
use Rattle.std.specs.Prelude.{slice_set}
use Rattle.kz_model.specs.declared.bundle.OrderLine.{OrderLine}
use Rattle.kz_model.specs.declared.bundle.OrderLine.TheVariants as turn
use Rattle.kz_model.specs.declared.grammar.Cause.TheVariants as cause
use Rattle.kz_model.specs.declared.grammar.Refusal.{Refusal}
use Rattle.kz_model.specs.Grammar.Form.{Section, Draft}
use Rattle.kz_model.specs.Grammar.Stages.{else_fault, fault_if, steps_in, left_in, none_left, order_from, order_fault, rounds_of, rounds_fault}
use Rattle.kz_make.proofs.Sectioned.{HasRounds}

-- so many for each CPU
abbrev pub four : ℕ → List ℕ
four n = n ∷ n ∷ n ∷ n ∷ []

abbrev pub round_turns : ℕ → List OrderLine
round_turns zero = []
round_turns (suc n) = turn.Cpu 0 ∷ turn.Cpu 1 ∷ turn.Cpu 2 ∷ turn.Cpu 3 ∷ round_turns n

abbrev pub later_round_turns : List ℕ → List OrderLine
later_round_turns [] = []
later_round_turns (n ∷ counts) = turn.Round ∷ round_turns n ++ later_round_turns counts

module _ (sections : List Section) (last : ℕ) where
  -- a CPU that has a step left does it
  turn_taken : (round line cpu k : ℕ) (left : List ℕ) (lines : List OrderLine) → slice_index left cpu ≡ suc k → order_from sections last round (slice_set left cpu k) (line + 1) lines ≡ None →
      order_from sections last round left line (turn.Cpu cpu ∷ lines) ≡ None
  turn_taken round line cpu k left lines e rest =
      let one : suc k - 1 ≡ k = omega arith in
      let some : (suc k == 0) ≡ false = grind arith in
      ap (λ n. else_fault (fault_if (n == 0) line cause.BadOrder) (order_from sections last round (slice_set left cpu (n - 1)) (line + 1) lines)) e
      ∙ ap (λ b. else_fault (fault_if b line cause.BadOrder) (order_from sections last round (slice_set left cpu (suc k - 1)) (line + 1) lines)) some
      ∙ ap (λ n. order_from sections last round (slice_set left cpu n) (line + 1) lines) one
      ∙ rest

  turns_taken : (round n line : ℕ) (lines : List OrderLine) → ((line : ℕ) → order_from sections last round (four 0) line lines ≡ None) → order_from sections last round (four n) line (round_turns n ++ lines) ≡ None
  turns_taken round zero line lines rest = rest line
  turns_taken round (suc n) line lines rest =
      let more = round_turns n ++ lines in
      turn_taken round line 0 n (suc n ∷ suc n ∷ suc n ∷ suc n ∷ []) (turn.Cpu 1 ∷ turn.Cpu 2 ∷ turn.Cpu 3 ∷ more) refl
      (turn_taken round (line + 1) 1 n (n ∷ suc n ∷ suc n ∷ suc n ∷ []) (turn.Cpu 2 ∷ turn.Cpu 3 ∷ more) refl
      (turn_taken round (line + 1 + 1) 2 n (n ∷ n ∷ suc n ∷ suc n ∷ []) (turn.Cpu 3 ∷ more) refl
      (turn_taken round (line + 1 + 1 + 1) 3 n (n ∷ n ∷ n ∷ suc n ∷ []) more refl (turns_taken round n (line + 1 + 1 + 1 + 1) lines rest))))

  -- what is left of the order, by the rounds that are left
  pub order_done : (round n line : ℕ) (counts : List ℕ) → round + length counts ≡ last → ((i : ℕ) → i < length counts → left_in (round + 1 + i) sections ≡ four (get_or counts i 0)) →
      order_from sections last round (four n) line (round_turns n ++ later_round_turns counts) ≡ None
  order_done round n line [] e left =
      let here : (round == last) ≡ true = grind arith in
      turns_taken round n line [] (λ line. ap (λ b. fault_if (false || not b) line cause.BadOrder) here)
  order_done round n line (count ∷ counts) e left =
      let not_last : (round == last) ≡ false = grind arith in
      let zero_on : round + 1 + 0 ≡ round + 1 = omega arith in
      let next : left_in (round + 1) sections ≡ four count = ap (λ r. left_in r sections) (sym zero_on) ∙ left 0 (omega arith) in
      let rest = λ (line : ℕ). order_done (round + 1) count (line + 1) counts (omega (arith, e)) (λ i h. let on : round + 1 + 1 + i ≡ round + 1 + suc i = omega arith in ap (λ r. left_in r sections) on ∙ left (suc i) (omega arith)) in
      turns_taken round n line (turn.Round ∷ round_turns count ++ later_round_turns counts) (λ line.
      ap (λ b. else_fault (fault_if (false || b) line cause.BadOrder) (order_from sections last (round + 1) (left_in (round + 1) sections) (line + 1) (round_turns count ++ later_round_turns counts))) not_last
      ∙ ap (λ left. order_from sections last (round + 1) left (line + 1) (round_turns count ++ later_round_turns counts)) next
      ∙ rest line)

-- ---- four sections with the same rounds

module _ (first : ℕ) (later : List ℕ) (a b c d : Section) (has_a : HasRounds first later a) (has_b : HasRounds first later b) (has_c : HasRounds first later c) (has_d : HasRounds first later d) where
  same_rounds : (section : Section) (n : ℕ) → section.breaks ≡ n → (section.breaks == n) ≡ true
  same_rounds section n e = grind arith

  four_left : (r : ℕ) → left_in r (a ∷ b ∷ c ∷ d ∷ []) ≡ four (get_or (first ∷ later) r 0)
  four_left r =
      ap (λ n. n ∷ steps_in r b.steps ∷ steps_in r c.steps ∷ steps_in r d.steps ∷ []) (has_a.steps r)
      ∙ ap (λ n. get_or (first ∷ later) r 0 ∷ n ∷ steps_in r c.steps ∷ steps_in r d.steps ∷ []) (has_b.steps r)
      ∙ ap (λ n. get_or (first ∷ later) r 0 ∷ get_or (first ∷ later) r 0 ∷ n ∷ steps_in r d.steps ∷ []) (has_c.steps r)
      ∙ ap (λ n. get_or (first ∷ later) r 0 ∷ get_or (first ∷ later) r 0 ∷ get_or (first ∷ later) r 0 ∷ n ∷ []) (has_d.steps r)

  pub no_rounds_fault : rounds_of (a ∷ b ∷ c ∷ d ∷ []) ≡ None
  no_rounds_fault =
      ap (λ t. else_fault (fault_if (not t) b.line cause.RoundsDiffer) (else_fault (fault_if (not (c.breaks == a.breaks)) c.line cause.RoundsDiffer) (else_fault (fault_if (not (d.breaks == a.breaks)) d.line cause.RoundsDiffer) None)))
      (same_rounds b a.breaks (has_b.breaks ∙ sym has_a.breaks))
      ∙ ap (λ t. else_fault (fault_if (not t) c.line cause.RoundsDiffer) (else_fault (fault_if (not (d.breaks == a.breaks)) d.line cause.RoundsDiffer) None)) (same_rounds c a.breaks (has_c.breaks ∙ sym has_a.breaks))
      ∙ ap (λ t. else_fault (fault_if (not t) d.line cause.RoundsDiffer) None) (same_rounds d a.breaks (has_d.breaks ∙ sym has_a.breaks))

  pub no_order_fault : (line : ℕ) → order_from (a ∷ b ∷ c ∷ d ∷ []) d.breaks 0 (left_in 0 (a ∷ b ∷ c ∷ d ∷ [])) line (round_turns first ++ later_round_turns later) ≡ None
  no_order_fault line =
      ap (λ left. order_from (a ∷ b ∷ c ∷ d ∷ []) d.breaks 0 left line (round_turns first ++ later_round_turns later)) (four_left 0)
      ∙ order_done (a ∷ b ∷ c ∷ d ∷ []) d.breaks 0 first line later (omega (arith, has_d.breaks)) (λ i h. let on : 0 + 1 + i ≡ suc i = omega arith in ap (λ r. left_in r (a ∷ b ∷ c ∷ d ∷ [])) on ∙ four_left (suc i))
