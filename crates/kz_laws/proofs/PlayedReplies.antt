-- The replies in the run of an order as it goes: each CPU's lines with the replies at their places.
use Rattle.std.proofs.Common.{◌≡◌, ◌≢◌, ◌<◌, ◌≤◌, ℕ, zero, suc, ◌==◌, ◌+◌, ◌&&◌, true, false, if◌then◌else◌, List, [], ◌∷◌, ◌++◌, length, take, map, replicate, slice_index, slice_index_or, slice_set, All, refl, ap, sym, ◌∙◌, subst, arith, append_assoc, length-append}
use Rattle.std.specs.List.{flat_map, range_with_len}
use Rattle.std.proofs.lemmas.Grind.{flat_map-append}
use Rattle.std.proofs.lemmas.List.{append-nil, get_or-set_same, get_or-set_other, get_or_append_left, get_or_push, length-take-le, take_more, take_all}
use Rattle.std.proofs.lemmas.List.Elements.{All-head, All-tail, All-take}
use Rattle.kz_model.specs.declared.bundle.Bundle.{Bundle}
use Rattle.kz_model.specs.declared.bundle.TraceStep.{TraceStep}
use Rattle.kz_model.specs.declared.bundle.Act.TheVariants as act
use Rattle.kz_model.specs.declared.bundle.OrderLine.TheVariants.{Cpu, Round}
use Rattle.kz_model.specs.declared.step.Step.{Step}
use Rattle.kz_model.specs.declared.step.Reply.{Reply}
use Rattle.kz_model.specs.declared.step.Reply.TheVariants as reply
use Rattle.kz_model.specs.declared.record.Plan.{Plan}
use Rattle.kz_model.specs.Run.Journal.{addressed, trace_of, lines_of_round, steps_among}
use Rattle.kz_model.specs.Run.Order.{Progress, next_line, one_step, order_step}
use Rattle.kz_laws.specs.Play.{Play, replies_so_far, line_to_play, effect_there, play_after_step, play_after_round}
use Rattle.kz_model.specs.Run.Journal.{no_step}
use Rattle.kz_laws.specs.Undelayed.{replies_at, IsNextLine}
use Rattle.kz_model.specs.Grammar.Valid.{IsValid}
use Rattle.kz_laws.proofs.OrderLines.{seen, seen_mine, seen_other}
use Rattle.kz_model.proofs.Addressed.{steps_among-append}
use Rattle.kz_laws.proofs.OrderRuns.{step_counts, zeros}
use Rattle.kz_model.proofs.LineCounts.{same_number, other_number}
use Rattle.kz_laws.proofs.Played.{Told, AreBeside, more_told, told_elsewhere, seen_now}
use Rattle.kz_laws.proofs.Printed.{replies_at-append}
use Rattle.kz_model.proofs.TraceRounds.{range_push, by_rounds, is_placed}
use Rattle.kz_laws.proofs.Undelayed.{mine_or_other}

-- ---- replies to lines, by the replies on each zone

-- the reply to a line of a CPU, behind these lines of its round, by the replies to its steps on each zone
abbrev pub reply_to : Bundle → Plan → (ℕ → List Reply) → List TraceStep → TraceStep → Reply
reply_to b plan said earlier line = let zone = (addressed b plan line.act).0 in slice_index_or (said zone) (length (steps_among b plan zone earlier)) reply.Done

abbrev pub replies_to : Bundle → Plan → (ℕ → List Reply) → List TraceStep → List TraceStep → List Reply
replies_to b plan said earlier [] = []
replies_to b plan said earlier (line ∷ lines) = reply_to b plan said earlier line ∷ replies_to b plan said (earlier ++ line ∷ []) lines

replies_to-push : (b : Bundle) (plan : Plan) (said : ℕ → List Reply) (lines earlier : List TraceStep) (line : TraceStep) →
    replies_to b plan said earlier (lines ++ line ∷ []) ≡ replies_to b plan said earlier lines ++ reply_to b plan said (earlier ++ lines) line ∷ []
replies_to-push b plan said [] earlier line = ap (λ earlier. reply_to b plan said earlier line ∷ []) (sym (append-nil earlier))
replies_to-push b plan said (first ∷ lines) earlier line =
    ap (λ (l : List Reply). reply_to b plan said earlier first ∷ l)
    (replies_to-push b plan said lines (earlier ++ first ∷ []) line
    ∙ ap (λ before. replies_to b plan said (earlier ++ first ∷ []) lines ++ reply_to b plan said before line ∷ []) (append_assoc earlier (first ∷ []) lines))

pub length-replies_to : (b : Bundle) (plan : Plan) (said : ℕ → List Reply) (earlier lines : List TraceStep) → length (replies_to b plan said earlier lines) ≡ length lines
length-replies_to b plan said earlier [] = refl
length-replies_to b plan said earlier (line ∷ lines) = ap (λ n. suc n) (length-replies_to b plan said (earlier ++ line ∷ []) lines)

-- the line's step is among those of the lines up to it
pub step_within : (b : Bundle) (plan : Plan) (earlier lines : List TraceStep) (line : TraceStep) →
    let zone = (addressed b plan line.act).0 in length (steps_among b plan zone earlier) < length (steps_among b plan zone (earlier ++ line ∷ lines))
step_within b plan earlier lines line =
    let there = addressed b plan line.act in
    let rest = steps_among b plan there.0 lines in
    let one : steps_among b plan there.0 (line ∷ lines) ≡ there.1 ∷ rest = ap (λ t. if t then there.1 ∷ rest else rest) (same_number there.0) in
    subst (λ n. length (steps_among b plan there.0 earlier) < n)
    (sym (ap (λ (l : List Step). length l) (steps_among-append b plan there.0 earlier (line ∷ lines)) ∙ length-append (steps_among b plan there.0 earlier) (steps_among b plan there.0 (line ∷ lines)) ∙ ap (λ (l : List Step). length (steps_among b plan there.0 earlier) + length l) one))
    (omega arith)

-- they depend on the replies to those steps alone
pub replies_to-same : (b : Bundle) (plan : Plan) (said other : ℕ → List Reply) (earlier lines : List TraceStep) → All (λ line. (addressed b plan line.act).0 < length plan.zones) lines →
    ((zone k : ℕ) → zone < length plan.zones → k < length (steps_among b plan zone (earlier ++ lines)) → slice_index_or (said zone) k reply.Done ≡ slice_index_or (other zone) k reply.Done) →
    replies_to b plan said earlier lines ≡ replies_to b plan other earlier lines
replies_to-same b plan said other earlier [] within same = refl
replies_to-same b plan said other earlier (line ∷ lines) within same =
    let zone = (addressed b plan line.act).0 in
    let P : TraceStep → Type 0 = λ line. (addressed b plan line.act).0 < length plan.zones in
    let more = replies_to-same b plan said other (earlier ++ line ∷ []) lines (All-tail P line lines within)
    (λ zone k in' lt. same zone k in' (subst (λ lines. k < length (steps_among b plan zone lines)) (append_assoc earlier (line ∷ []) lines) lt)) in
    ap (λ (r : Reply). r ∷ replies_to b plan said (earlier ++ line ∷ []) lines) (same zone (length (steps_among b plan zone earlier)) (All-head P line lines within) (step_within b plan earlier lines line))
    ∙ ap (λ (l : List Reply). reply_to b plan other earlier line ∷ l) more

-- ---- what was told

-- the replies to a CPU's steps of a round on a zone
abbrev pub said_at : (ℕ → Told) → ℕ → ℕ → ℕ → List Reply
said_at told cpu round zone = replies_at cpu round (told zone).places (told zone).replies

abbrev pub of_round : Bundle → Plan → (ℕ → Told) → ℕ → ℕ → List Reply
of_round b plan told cpu round = replies_to b plan (said_at told cpu round) [] (lines_of_round b cpu round)

-- those of the rounds before this one
abbrev pub of_rounds : Bundle → Plan → (ℕ → Told) → ℕ → ℕ → List Reply
of_rounds b plan told cpu round = flat_map (of_round b plan told cpu) (range_with_len 0 round)

-- a CPU's lines of this round so far
abbrev pub done_lines : Bundle → Progress → ℕ → List TraceStep
done_lines b g cpu = take (slice_index g.done cpu) (lines_of_round b cpu g.round)

-- Each CPU has the replies to its lines so far, and there is one reply at each of its steps of the round.
pub record AreTold (b : Bundle) (plan : Plan) (g : Progress) (s : Play) (told : ℕ → Told) : Type 0 where
  pub replies : (cpu : ℕ) → cpu < b.cpus → replies_so_far s cpu ≡ of_rounds b plan told cpu g.round ++ replies_to b plan (said_at told cpu g.round) [] (done_lines b g cpu)
  pub counted : (cpu zone : ℕ) → cpu < b.cpus → zone < length plan.zones → length (said_at told cpu g.round zone) ≡ length (seen b plan g cpu zone)
  pub later : (cpu round zone : ℕ) → zone < length plan.zones → g.round < round → said_at told cpu round zone ≡ []

-- a CPU has as many replies as lines so far
rounds_long : (b : Bundle) (plan : Plan) (told : ℕ → Told) (cpu n from : ℕ) → length (flat_map (of_round b plan told cpu) (range_with_len from n)) ≡ length (by_rounds (trace_of b cpu) from n)
rounds_long b plan told cpu zero from = refl
rounds_long b plan told cpu (suc n) from =
    let more = range_with_len (from + 1) n in
    length-append (of_round b plan told cpu from) (flat_map (of_round b plan told cpu) more)
    ∙ ap (λ n. n + length (flat_map (of_round b plan told cpu) more)) (length-replies_to b plan (said_at told cpu from) [] (lines_of_round b cpu from))
    ∙ ap (λ n. length (lines_of_round b cpu from) + n) (rounds_long b plan told cpu n (from + 1))
    ∙ sym (length-append (lines_of_round b cpu from) (by_rounds (trace_of b cpu) (from + 1) n))

pub replies_long : (b : Bundle) (plan : Plan) (g : Progress) (s : Play) (told : ℕ → Told) (cpu : ℕ) → cpu < b.cpus → slice_index g.done cpu ≤ length (lines_of_round b cpu g.round) → AreTold b plan g s told →
    length (replies_so_far s cpu) ≡ length (by_rounds (trace_of b cpu) 0 g.round) + slice_index g.done cpu
replies_long b plan g s told cpu lt le are =
    let last = replies_to b plan (said_at told cpu g.round) [] (done_lines b g cpu) in
    ap (λ (l : List Reply). length l) (are.replies cpu lt)
    ∙ length-append (of_rounds b plan told cpu g.round) last
    ∙ ap (λ n. n + length last) (rounds_long b plan told cpu g.round 0)
    ∙ ap (λ n. length (by_rounds (trace_of b cpu) 0 g.round) + n) (length-replies_to b plan (said_at told cpu g.round) [] (done_lines b g cpu) ∙ length-take-le (slice_index g.done cpu) (lines_of_round b cpu g.round) le)

-- so the play takes the line that the order's run takes
pub same_line : (b : Bundle) (plan : Plan) (g : Progress) (s : Play) (told : ℕ → Told) (cpu : ℕ) → IsValid b → cpu < b.cpus → g.round < b.rounds → slice_index g.done cpu < length (lines_of_round b cpu g.round) → AreTold b plan g s told →
    line_to_play b s cpu ≡ next_line b cpu g
same_line b plan g s told cpu valid lt in-rounds more are =
    ap (λ n. slice_index_or (trace_of b cpu) n no_step) (replies_long b plan g s told cpu lt (few (slice_index g.done cpu) (length (lines_of_round b cpu g.round)) more) are)
    ∙ (is_placed b valid cpu g.round (slice_index g.done cpu) in-rounds more).same no_step
  where
    few : (n m : ℕ) → n < m → n ≤ m
    few n m lt = omega arith

pub told_at_start : (b : Bundle) (plan : Plan) (g : Progress) (s : Play) → g.round ≡ 0 → g.done ≡ replicate b.cpus 0 → ((cpu : ℕ) → cpu < b.cpus → replies_so_far s cpu ≡ []) →
    AreTold b plan g s (λ zone. record { lines = []; places = []; replies = [] })
told_at_start b plan g s at done none =
    let zero_done : (cpu : ℕ) → slice_index g.done cpu ≡ 0 = λ cpu. ap (λ (done : List ℕ). slice_index done cpu) done ∙ zeros b.cpus cpu in
    let told : ℕ → Told = λ zone. record { lines = []; places = []; replies = [] } in
    record {
      replies = λ cpu lt.
          none cpu lt ∙ sym (ap (λ round. of_rounds b plan told cpu round ++ replies_to b plan (said_at told cpu g.round) [] (done_lines b g cpu)) at
          ∙ ap (λ n. replies_to b plan (said_at told cpu g.round) [] (take n (lines_of_round b cpu g.round))) (zero_done cpu));
      counted = λ cpu zone lt in'. sym (ap (λ n. length (steps_among b plan zone (take n (lines_of_round b cpu g.round)))) (zero_done cpu));
      later = λ cpu round zone in' lt. refl;
    }

-- what is equal at each zone gives equal replies
rounds_same : (b : Bundle) (plan : Plan) (told now : ℕ → Told) (cpu n from : ℕ) → ((round : ℕ) → All (λ line. (addressed b plan line.act).0 < length plan.zones) (lines_of_round b cpu round)) →
    ((round zone : ℕ) → round < from + n → zone < length plan.zones → said_at now cpu round zone ≡ said_at told cpu round zone) →
    flat_map (of_round b plan now cpu) (range_with_len from n) ≡ flat_map (of_round b plan told cpu) (range_with_len from n)
rounds_same b plan told now cpu zero from within same = refl
rounds_same b plan told now cpu (suc n) from within same =
    let more = range_with_len (from + 1) n in
    ap (λ (l : List Reply). l ++ flat_map (of_round b plan now cpu) more)
    (replies_to-same b plan (said_at now cpu from) (said_at told cpu from) [] (lines_of_round b cpu from) (within from) (λ zone k in' lt. ap (λ (l : List Reply). slice_index_or l k reply.Done) (same from zone (omega arith) in')))
    ∙ ap (λ (l : List Reply). of_round b plan told cpu from ++ l) (rounds_same b plan told now cpu n (from + 1) within (λ round zone lt in'. same round zone (omega arith) in'))

-- ---- one more line

module _ (b : Bundle) (plan : Plan) (g : Progress) (s : Play) (told : ℕ → Told) (cpu : ℕ) (within : (cpu round : ℕ) → All (λ line. (addressed b plan line.act).0 < length plan.zones) (lines_of_round b cpu round))
    (next : IsNextLine b plan g (Cpu cpu)) (beside : AreBeside b plan g s told) (are : AreTold b plan g s told) where
  abbrev line : ℕ × Step
  line = addressed b plan (next_line b cpu g).act

  abbrev at : ℕ
  at = line.0

  abbrev h : Progress
  h = one_step b plan cpu g

  abbrev r : Reply
  r = (effect_there b plan s cpu at line.1).reply

  abbrev t : Play
  t = play_after_step b plan s cpu at line.1

  abbrev now : ℕ → Told
  now = more_told b plan g cpu r told

  abbrev n : ℕ
  n = slice_index g.done cpu

  abbrev lines : List TraceStep
  lines = lines_of_round b cpu g.round

  counts : (h.done ≡ slice_set g.done cpu (n + 1)) × (h.round ≡ g.round)
  counts = step_counts b plan g cpu

  in-done : cpu < length g.done
  in-done = subst (λ n. cpu < n) (sym beside.sized.done) next.0

  -- what is said at the line's zone, and at the others
  said_here : (other round : ℕ) → said_at now other round at ≡ said_at told other round at ++ (if (cpu == other) && (g.round == round) then r ∷ [] else [])
  said_here other round =
      let is = beside.zones at next.2 in
      ap (λ t. replies_at other round ((told at).places ++ map (λ (step : ℕ × Step). (g.round, step.0)) (if t then (cpu, line.1) ∷ [] else [])) ((told at).replies ++ (if t then r ∷ [] else []))) (same_number at)
      ∙ replies_at-append other round (told at).places ((g.round, cpu) ∷ []) (told at).replies (r ∷ []) (is.in_step.printed.placed ∙ ap (λ (l : List Reply). length l) (sym is.replies))

  said_away : (other round zone : ℕ) → zone ≢ at → said_at now other round zone ≡ said_at told other round zone
  said_away other round zone ne = ap (λ (t : Told). replies_at other round t.places t.replies) (told_elsewhere b plan g cpu zone r told ne)

  said_same : (other round zone : ℕ) → ((cpu == other) && (g.round == round)) ≡ false → said_at now other round zone ≡ said_at told other round zone
  said_same other round zone not_here =
      mine_or_other (λ zone. said_at now other round zone ≡ said_at told other round zone) at zone
      (said_here other round ∙ ap (λ t. said_at told other round at ++ (if t then r ∷ [] else [])) not_here ∙ append-nil (said_at told other round at))
      (λ ne. said_away other round zone ne)

  said_of_other : (other round zone : ℕ) → other ≢ cpu → said_at now other round zone ≡ said_at told other round zone
  said_of_other other round zone ne = said_same other round zone (ap (λ t. t && (g.round == round)) (other_number cpu other ne))

  said_in_other : (other round zone : ℕ) → round ≢ g.round → said_at now other round zone ≡ said_at told other round zone
  said_in_other other round zone ne =
      said_same other round zone (ap (λ t. (cpu == other) && t) (other_number g.round round ne) ∙ elim (cpu == other) as (λ t. (t && false) ≡ false) [ true ↦ refl | false ↦ refl ])

  said_mine : said_at now cpu g.round at ≡ said_at told cpu g.round at ++ r ∷ []
  said_mine = said_here cpu g.round ∙ ap (λ t. said_at told cpu g.round at ++ (if t && (g.round == g.round) then r ∷ [] else [])) (same_number cpu) ∙ ap (λ t. said_at told cpu g.round at ++ (if t then r ∷ [] else [])) (same_number g.round)

  past_same : (other : ℕ) → of_rounds b plan now other g.round ≡ of_rounds b plan told other g.round
  past_same other = rounds_same b plan told now other g.round 0 (within other) (λ round zone lt in'. said_in_other other round zone (λ is. absurd (omega arith)))

  -- the replies before this line are as before
  first_same : replies_to b plan (said_at now cpu g.round) [] (take n lines) ≡ replies_to b plan (said_at told cpu g.round) [] (take n lines)
  first_same =
      replies_to-same b plan (said_at now cpu g.round) (said_at told cpu g.round) [] (take n lines) (All-take (λ (line : TraceStep). (addressed b plan line.act).0 < length plan.zones) n lines (within cpu g.round))
      (λ zone k in' lt.
      mine_or_other (λ zone. zone < length plan.zones → k < length (steps_among b plan zone (take n lines)) → slice_index_or (said_at now cpu g.round zone) k reply.Done ≡ slice_index_or (said_at told cpu g.round zone) k reply.Done) at zone
      (λ in' lt. ap (λ (l : List Reply). slice_index_or l k reply.Done) said_mine
      ∙ get_or_append_left (said_at told cpu g.round at) (r ∷ []) reply.Done k (subst (λ n. k < n) (sym (are.counted cpu at next.0 in')) lt))
      (λ ne in' lt. ap (λ (l : List Reply). slice_index_or l k reply.Done) (said_away cpu g.round zone ne)) in' lt)

  last_is : reply_to b plan (said_at now cpu g.round) (take n lines) (next_line b cpu g) ≡ r
  last_is =
      ap (λ (l : List Reply). slice_index_or l (length (steps_among b plan at (take n lines))) reply.Done) said_mine
      ∙ get_or_push (said_at told cpu g.round at) r reply.Done (length (steps_among b plan at (take n lines))) (are.counted cpu at next.0 next.2)

  abbrev told_in : ℕ → ℕ → ℕ → List Reply
  told_in other round n = of_rounds b plan now other round ++ replies_to b plan (said_at now other round) [] (take n (lines_of_round b other round))

  replies_mine : replies_so_far t cpu ≡ told_in cpu h.round (slice_index h.done cpu)
  replies_mine =
      let past = of_rounds b plan told cpu g.round in
      let first = replies_to b plan (said_at told cpu g.round) [] (take n lines) in
      get_or-set_same s.replies cpu (replies_so_far s cpu ++ r ∷ []) [] (subst (λ n. cpu < n) (sym beside.cpus_long) next.0)
      ∙ ap (λ (l : List Reply). l ++ r ∷ []) (are.replies cpu next.0)
      ∙ append_assoc past first (r ∷ [])
      ∙ sym (ap (λ round. told_in cpu round (slice_index h.done cpu)) counts.1
      ∙ ap (λ n. told_in cpu g.round n) (ap (λ (done : List ℕ). slice_index done cpu) counts.0 ∙ get_or-set_same g.done cpu (n + 1) 0 in-done)
      ∙ ap (λ lines. of_rounds b plan now cpu g.round ++ replies_to b plan (said_at now cpu g.round) [] lines) (take_more lines n (record { line = 0; round = 0; act = act.Flush 0 }) next.1)
      ∙ ap (λ (l : List Reply). of_rounds b plan now cpu g.round ++ l) (replies_to-push b plan (said_at now cpu g.round) (take n lines) [] (next_line b cpu g))
      ∙ ap (λ (l : List Reply). l ++ (replies_to b plan (said_at now cpu g.round) [] (take n lines) ++ reply_to b plan (said_at now cpu g.round) (take n lines) (next_line b cpu g) ∷ [])) (past_same cpu)
      ∙ ap (λ (l : List Reply). past ++ (l ++ reply_to b plan (said_at now cpu g.round) (take n lines) (next_line b cpu g) ∷ [])) first_same
      ∙ ap (λ (r : Reply). past ++ (first ++ r ∷ [])) last_is)

  replies_other : (other : ℕ) → other ≢ cpu → other < b.cpus → replies_so_far t other ≡ told_in other h.round (slice_index h.done other)
  replies_other other ne lt =
      let first = take (slice_index g.done other) (lines_of_round b other g.round) in
      get_or-set_other s.replies cpu other (replies_so_far s cpu ++ r ∷ []) [] ne
      ∙ are.replies other lt
      ∙ sym (ap (λ round. told_in other round (slice_index h.done other)) counts.1
      ∙ ap (λ n. told_in other g.round n) (ap (λ (done : List ℕ). slice_index done other) counts.0 ∙ get_or-set_other g.done cpu other (n + 1) 0 ne)
      ∙ ap (λ (l : List Reply). l ++ replies_to b plan (said_at now other g.round) [] first) (past_same other)
      ∙ ap (λ (l : List Reply). of_rounds b plan told other g.round ++ l)
      (replies_to-same b plan (said_at now other g.round) (said_at told other g.round) [] first (All-take (λ (line : TraceStep). (addressed b plan line.act).0 < length plan.zones) (slice_index g.done other) (lines_of_round b other g.round) (within other g.round))
      (λ zone k in' lt. ap (λ (l : List Reply). slice_index_or l k reply.Done) (said_of_other other g.round zone ne))))

  counted_mine : (zone : ℕ) → zone < length plan.zones → length (said_at now cpu g.round zone) ≡ length (seen b plan h cpu zone)
  counted_mine zone in' =
      mine_or_other (λ zone. zone < length plan.zones → length (said_at now cpu g.round zone) ≡ length (seen b plan h cpu zone)) at zone
      (λ in'.
      let mine : steps_among b plan at (next_line b cpu g ∷ []) ≡ line.1 ∷ [] = ap (λ t. if t then line.1 ∷ [] else []) (same_number at) in
      ap (λ (l : List Reply). length l) said_mine
      ∙ length-append (said_at told cpu g.round at) (r ∷ [])
      ∙ ap (λ n. n + 1) (are.counted cpu at next.0 in')
      ∙ sym (ap (λ (l : List Step). length l) (seen_now b plan g h cpu at cpu counts.1 counts.0 ∙ seen_mine b plan g cpu at in-done next.1 ∙ ap (λ (l : List Step). seen b plan g cpu at ++ l) mine)
      ∙ length-append (seen b plan g cpu at) (line.1 ∷ [])))
      (λ ne in'.
      let none : steps_among b plan zone (next_line b cpu g ∷ []) ≡ [] = ap (λ t. if t then line.1 ∷ [] else []) (other_number at zone ne) in
      ap (λ (l : List Reply). length l) (said_away cpu g.round zone ne)
      ∙ are.counted cpu zone next.0 in'
      ∙ sym (ap (λ (l : List Step). length l) (seen_now b plan g h cpu zone cpu counts.1 counts.0 ∙ seen_mine b plan g cpu zone in-done next.1 ∙ ap (λ (l : List Step). seen b plan g cpu zone ++ l) none ∙ append-nil (seen b plan g cpu zone)))) in'

  pub line_told : AreTold b plan h t now
  line_told = record {
    replies = λ other lt. mine_or_other (λ other. other < b.cpus → replies_so_far t other ≡ told_in other h.round (slice_index h.done other)) cpu other (λ lt. replies_mine) (λ ne lt. replies_other other ne lt) lt;
    counted = λ other zone lt in'.
        ap (λ round. length (said_at now other round zone)) counts.1
        ∙ mine_or_other (λ other. other < b.cpus → length (said_at now other g.round zone) ≡ length (seen b plan h other zone)) cpu other
        (λ lt. counted_mine zone in')
        (λ ne lt. ap (λ (l : List Reply). length l) (said_of_other other g.round zone ne) ∙ are.counted other zone lt in'
        ∙ sym (ap (λ (l : List Step). length l) (seen_now b plan g h cpu zone other counts.1 counts.0 ∙ seen_other b plan g cpu other zone ne))) lt;
    later = λ other round zone in' below.
        let after : g.round < round = subst (λ n. n < round) counts.1 below in
        said_in_other other round zone (λ is. absurd (omega arith)) ∙ are.later other round zone in' after;
  }

-- ---- a round's end

-- the rounds before a round, and the round
pub one_more_round : (b : Bundle) (plan : Plan) (told : ℕ → Told) (cpu round : ℕ) → of_rounds b plan told cpu round ++ of_round b plan told cpu round ≡ of_rounds b plan told cpu (round + 1)
one_more_round b plan told cpu round =
    ap (λ (l : List Reply). of_rounds b plan told cpu round ++ l) (sym (append-nil (of_round b plan told cpu round)))
    ∙ ap (λ at. of_rounds b plan told cpu round ++ flat_map (of_round b plan told cpu) (at ∷ [])) (sym from_zero)
    ∙ sym (ap (λ (rounds : List ℕ). flat_map (of_round b plan told cpu) rounds) (range_push 0 round) ∙ flat_map-append (of_round b plan told cpu) (range_with_len 0 round) ((0 + round) ∷ []))
  where
    from_zero : 0 + round ≡ round
    from_zero = omega arith

pub round_told : (b : Bundle) (plan : Plan) (g : Progress) (s : Play) (told : ℕ → Told) → ((cpu : ℕ) → cpu < b.cpus → slice_index g.done cpu ≡ length (lines_of_round b cpu g.round)) → AreTold b plan g s told →
    AreTold b plan (order_step b plan g Round) (play_after_round b s) told
round_told b plan g s told all are =
    let h = order_step b plan g Round in
    let none : (cpu : ℕ) → slice_index h.done cpu ≡ 0 = zeros b.cpus in
    record {
      replies = λ cpu lt.
          let lines = lines_of_round b cpu g.round in
          are.replies cpu lt
          ∙ ap (λ n. of_rounds b plan told cpu g.round ++ replies_to b plan (said_at told cpu g.round) [] (take n lines)) (all cpu lt)
          ∙ ap (λ lines. of_rounds b plan told cpu g.round ++ replies_to b plan (said_at told cpu g.round) [] lines) (take_all (length lines) lines (itself (length lines)))
          ∙ one_more_round b plan told cpu g.round
          ∙ sym (append-nil (of_rounds b plan told cpu (g.round + 1)))
          ∙ ap (λ n. of_rounds b plan told cpu (g.round + 1) ++ replies_to b plan (said_at told cpu (g.round + 1)) [] (take n (lines_of_round b cpu (g.round + 1)))) (sym (none cpu));
      counted = λ cpu zone lt in'.
          ap (λ (l : List Reply). length l) (are.later cpu (g.round + 1) zone in' (omega arith))
          ∙ sym (ap (λ n. length (steps_among b plan zone (take n (lines_of_round b cpu (g.round + 1))))) (none cpu));
      later = λ cpu round zone in' below. are.later cpu round zone in' (omega arith);
    }
  where
    itself : (n : ℕ) → n ≤ n
    itself n = omega arith
