-- The lines of a CPU with the replies to them, round by round.
use Rattle.std.proofs.Common.{◌≡◌, ℕ, zero, suc, ◌+◌, ◌<◌, ◌==◌, Bool, true, false, if◌then◌else◌, List, [], ◌∷◌, ◌++◌, length, take, drop, map, slice_index_or, codes, refl, ap, sym, ◌∙◌, arith, length-append}
use Rattle.std.specs.List.{filter, flat_map, range_with_len}
use Rattle.std.proofs.Math.Seq.{take-append_seam, drop-append_seam}
use Rattle.std.proofs.lemmas.List.{length-map, map-append}
use Rattle.kz_model.specs.declared.bundle.Bundle.{Bundle}
use Rattle.kz_model.specs.declared.bundle.TraceStep.{TraceStep}
use Rattle.kz_model.specs.declared.record.Plan.{Plan}
use Rattle.kz_model.specs.declared.record.Visit.{Visit}
use Rattle.kz_model.specs.declared.step.Reply.{Reply}
use Rattle.kz_model.specs.declared.step.Reply.TheVariants as reply
use Rattle.kz_model.specs.declared.supply.SupplyEntry.{SupplyEntry}
use Rattle.kz_model.specs.Run.Journal.{zone_row, params_of, addressed, steps_among, trace_of}
use Rattle.kz_model.specs.Text.Report.{Answered, answered_after, answered_lines, zone_replies, replies_carried, base_of, round_lines, rounds_lines}
use Rattle.kz_model.specs.Run.Journal.{bases}
use Rattle.kz_model.specs.Text.Lines.{reply_line}
use Rattle.kz_model.specs.Grammar.Turns.{is_of_round}
use Rattle.kz_model.proofs.TraceRounds.{by_rounds}
use Rattle.kz_report.specs.Lines.{params_with, said, answered_line, count_in_front, rounds_left}
use Rattle.kz_report.proofs.Lookups.{map_same}

-- ---- the lines that are said again

abbrev pub replies_of : List Answered → List Reply
replies_of lines = map (λ line. line.reply) lines

-- what the replies to lines are said to be, whatever stands behind them
said_after : (b : Bundle) (plan : Plan) (journals : List (List Visit)) (log : List SupplyEntry) (cpu round : ℕ) (earlier lines : List TraceStep) (more : List Reply) →
    said b plan lines (replies_of (answered_after b plan journals log cpu round earlier lines) ++ more) ≡ answered_after b plan journals log cpu round earlier lines
said_after b plan journals log cpu round earlier [] more = refl
said_after b plan journals log cpu round earlier (line ∷ lines) more =
    let zone = (addressed b plan line.act).0 in
    let replies = replies_carried cpu round (slice_index_or journals zone []) (zone_replies b plan journals log zone) in
    let first : Answered = record { act = line.act; zone = zone; reply = slice_index_or replies (length (steps_among b plan zone earlier)) reply.Done } in
    ap (λ (others : List Answered). first ∷ others) (said_after b plan journals log cpu round (earlier ++ line ∷ []) lines more)

length-after : (b : Bundle) (plan : Plan) (journals : List (List Visit)) (log : List SupplyEntry) (cpu round : ℕ) (earlier lines : List TraceStep) →
    length (answered_after b plan journals log cpu round earlier lines) ≡ length lines
length-after b plan journals log cpu round earlier [] = refl
length-after b plan journals log cpu round earlier (line ∷ lines) = ap suc (length-after b plan journals log cpu round (earlier ++ line ∷ []) lines)

-- ---- rounds in front

in_front : (round : ℕ) (trace others : List TraceStep) → count_in_front round others ≡ 0 → count_in_front round (filter (is_of_round round) trace ++ others) ≡ length (filter (is_of_round round) trace)
in_front round [] others none = none
in_front round (line ∷ trace) others none =
    let mine = filter (is_of_round round) trace in
    let again = in_front round trace others none in
    elim (line.round == round) as (λ t. (line.round == round) ≡ t → count_in_front round ((if t then line ∷ mine else mine) ++ others) ≡ length (if t then line ∷ mine else mine)) [
      | true ↦ λ e. ap (λ (t : Bool). if t then suc (count_in_front round (mine ++ others)) else 0) e ∙ ap suc again
      | false ↦ λ e. again
    ] refl

passed_over : (round later : ℕ) (trace others : List TraceStep) → round < later → count_in_front round others ≡ 0 → count_in_front round (filter (is_of_round later) trace ++ others) ≡ 0
passed_over round later [] others lt none = none
passed_over round later (line ∷ trace) others lt none =
    let mine = filter (is_of_round later) trace in
    elim (line.round == later) as (λ t. (line.round == later) ≡ t → count_in_front round ((if t then line ∷ mine else mine) ++ others) ≡ 0) [
      | true ↦ λ e.
          let other : (line.round == round) ≡ false = grind arith in
          ap (λ (t : Bool). if t then suc (count_in_front round (mine ++ others)) else 0) other
      | false ↦ λ e. passed_over round later trace others lt none
    ] refl

none_in_front : (round : ℕ) (trace : List TraceStep) (n from : ℕ) → round < from → count_in_front round (by_rounds trace from n) ≡ 0
none_in_front round trace zero from lt = refl
none_in_front round trace (suc n) from lt = passed_over round from trace (by_rounds trace (from + 1) n) lt (none_in_front round trace n (from + 1) (omega arith))

-- ---- lines

same_reply : (b : Bundle) (plan : Plan) (zone base : ℕ) (r : Reply) → reply_line (params_with (zone_row plan zone)) base r ≡ reply_line (params_of b plan zone) base r
same_reply b plan zone base (reply.Block block) = refl
same_reply b plan zone base reply.Done = refl
same_reply b plan zone base reply.NoName = refl
same_reply b plan zone base reply.NameBusy = refl
same_reply b plan zone base (reply.WrongZone asked owner) = refl
same_reply b plan zone base reply.NotHeld = refl
same_reply b plan zone base reply.NotGiven = refl
same_reply b plan zone base reply.OutOfBlock = refl
same_reply b plan zone base reply.Unmapped = refl
same_reply b plan zone base (reply.Bytes bytes) = refl
same_reply b plan zone base (reply.Trimmed pages) = refl
same_reply b plan zone base (reply.NoSpace left) = refl
same_reply b plan zone base (reply.NoFrames free) = refl

-- these are the first pages of all zones' chunks
abbrev pub AreBases : List SupplyEntry → List (List ℕ) → Type 0
AreBases log pages = (zone : ℕ) → slice_index_or pages zone [] ≡ bases zone log

same_round : (b : Bundle) (plan : Plan) (log : List SupplyEntry) (pages : List (List ℕ)) (lines : List Answered) → AreBases log pages → map (answered_line plan pages) lines ≡ round_lines b plan log lines
same_round b plan log pages lines are =
    map_same (answered_line plan pages) (λ (line : Answered). reply_line (params_of b plan line.zone) (base_of (bases line.zone log) line.reply) line.reply) lines
    (λ line. ap (λ (pages : List ℕ). reply_line (params_with (zone_row plan line.zone)) (base_of pages line.reply) line.reply) (are line.zone) ∙ same_reply b plan line.zone (base_of (bases line.zone log) line.reply) line.reply)

-- ---- a CPU

-- the CPU's lines of these rounds, with their replies
abbrev pub of_rounds : Bundle → Plan → List (List Visit) → List SupplyEntry → ℕ → ℕ → ℕ → List Answered
of_rounds b plan journals log cpu round n = flat_map (λ round. answered_lines b plan journals log cpu round) (range_with_len round n)

pub length-of_rounds : (b : Bundle) (plan : Plan) (journals : List (List Visit)) (log : List SupplyEntry) (cpu n round : ℕ) →
    length (replies_of (of_rounds b plan journals log cpu round n)) ≡ length (by_rounds (trace_of b cpu) round n)
length-of_rounds b plan journals log cpu zero round = refl
length-of_rounds b plan journals log cpu (suc n) round =
    let here = answered_lines b plan journals log cpu round in
    let lines = filter (is_of_round round) (trace_of b cpu) in
    let others = of_rounds b plan journals log cpu (round + 1) n in
    omega (arith, length-of_rounds b plan journals log cpu n (round + 1), length-map others (λ (line : Answered). line.reply), length-map (here ++ others) (λ (line : Answered). line.reply), length-append here others, length-append lines (by_rounds (trace_of b cpu) (round + 1) n), length-after b plan journals log cpu round [] lines)

-- what is left of a CPU's lines and replies gives what is left of its lines in the report
pub rounds_same : (b : Bundle) (plan : Plan) (journals : List (List Visit)) (log : List SupplyEntry) (pages : List (List ℕ)) (cpu n round : ℕ) → AreBases log pages →
    rounds_left b plan pages round n (by_rounds (trace_of b cpu) round n) (replies_of (of_rounds b plan journals log cpu round n)) ≡ rounds_lines b plan journals log cpu round n
rounds_same b plan journals log pages cpu zero round are = refl
rounds_same b plan journals log pages cpu (suc n) round are =
    let trace = trace_of b cpu in
    let lines = filter (is_of_round round) trace in
    let later = by_rounds trace (round + 1) n in
    let here = answered_lines b plan journals log cpu round in
    let others = of_rounds b plan journals log cpu (round + 1) n in
    let long : length (replies_of here) ≡ length lines = length-map here (λ (line : Answered). line.reply) ∙ length-after b plan journals log cpu round [] lines in
    let replies : replies_of (here ++ others) ≡ replies_of here ++ replies_of others = map-append (λ (line : Answered). line.reply) here others in
    let F : List (List ℕ) → List (List ℕ) → List (List ℕ) = λ now rest. now ++ (if n == 0 then [] else codes "--" ∷ rest) in
    let G : ℕ → List Reply → List (List ℕ) = λ count replies. F (map (answered_line plan pages) (said b plan (take count (lines ++ later)) replies)) (rounds_left b plan pages (round + 1) n (drop count (lines ++ later)) (drop count replies)) in
    ap (λ count. G count (replies_of (here ++ others))) (in_front round trace later (none_in_front round trace n (round + 1) (omega arith)))
    ∙ ap (G (length lines)) replies
    ∙ ap (λ now. F (map (answered_line plan pages) (said b plan now (replies_of here ++ replies_of others))) (rounds_left b plan pages (round + 1) n (drop (length lines) (lines ++ later)) (drop (length lines) (replies_of here ++ replies_of others)))) (take-append_seam lines later)
    ∙ ap (λ (now : List Answered). F (map (answered_line plan pages) now) (rounds_left b plan pages (round + 1) n (drop (length lines) (lines ++ later)) (drop (length lines) (replies_of here ++ replies_of others)))) (said_after b plan journals log cpu round [] lines (replies_of others))
    ∙ ap (λ now. F now (rounds_left b plan pages (round + 1) n (drop (length lines) (lines ++ later)) (drop (length lines) (replies_of here ++ replies_of others)))) (same_round b plan log pages here are)
    ∙ ap (λ rest. F (round_lines b plan log here) (rounds_left b plan pages (round + 1) n rest (drop (length lines) (replies_of here ++ replies_of others)))) (drop-append_seam lines later)
    ∙ ap (λ count. F (round_lines b plan log here) (rounds_left b plan pages (round + 1) n later (drop count (replies_of here ++ replies_of others)))) (sym long)
    ∙ ap (λ rest. F (round_lines b plan log here) (rounds_left b plan pages (round + 1) n later rest)) (drop-append_seam (replies_of here) (replies_of others))
    ∙ ap (F (round_lines b plan log here)) (rounds_same b plan journals log pages cpu n (round + 1) are)

said-append : (b : Bundle) (plan : Plan) (xs ys : List TraceStep) (rs qs : List Reply) → length rs ≡ length xs → said b plan (xs ++ ys) (rs ++ qs) ≡ said b plan xs rs ++ said b plan ys qs
said-append b plan [] ys [] qs long = refl
said-append b plan [] ys (r ∷ rs) qs long = absurd (omega arith)
said-append b plan (x ∷ xs) ys [] qs long = absurd (omega arith)
said-append b plan (x ∷ xs) ys (r ∷ rs) qs long =
    let first : Answered = record { act = x.act; zone = (addressed b plan x.act).0; reply = r } in
    ap (λ (others : List Answered). first ∷ others) (said-append b plan xs ys rs qs (omega arith))

said_nothing : (b : Bundle) (plan : Plan) (lines : List TraceStep) (replies : List Reply) → said b plan lines (replies ++ []) ≡ said b plan lines replies
said_nothing b plan [] replies = refl
said_nothing b plan (line ∷ lines) [] = refl
said_nothing b plan (line ∷ lines) (r ∷ replies) =
    let first : Answered = record { act = line.act; zone = (addressed b plan line.act).0; reply = r } in
    ap (λ (others : List Answered). first ∷ others) (said_nothing b plan lines replies)

-- what a CPU's lines of these rounds are said to be
pub said_rounds : (b : Bundle) (plan : Plan) (journals : List (List Visit)) (log : List SupplyEntry) (cpu n round : ℕ) →
    said b plan (by_rounds (trace_of b cpu) round n) (replies_of (of_rounds b plan journals log cpu round n)) ≡ of_rounds b plan journals log cpu round n
said_rounds b plan journals log cpu zero round = refl
said_rounds b plan journals log cpu (suc n) round =
    let lines = filter (is_of_round round) (trace_of b cpu) in
    let later = by_rounds (trace_of b cpu) (round + 1) n in
    let here = answered_lines b plan journals log cpu round in
    let others = of_rounds b plan journals log cpu (round + 1) n in
    let long : length (replies_of here) ≡ length lines = length-map here (λ (line : Answered). line.reply) ∙ length-after b plan journals log cpu round [] lines in
    ap (said b plan (lines ++ later)) (map-append (λ (line : Answered). line.reply) here others)
    ∙ said-append b plan lines later (replies_of here) (replies_of others) long
    ∙ ap (λ (now : List Answered). now ++ said b plan later (replies_of others)) (sym (said_nothing b plan lines (replies_of here)) ∙ said_after b plan journals log cpu round [] lines [])
    ∙ ap (λ (rest : List Answered). here ++ rest) (said_rounds b plan journals log cpu n (round + 1))
