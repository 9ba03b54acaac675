-- One piece of a text after another.
use Rattle.std.proofs.Common.{◌≡◌, ℕ, zero, suc, ◌+◌, ◌-◌, ◌<◌, ◌≤◌, ◌==◌, nat_lt, Bool, true, false, if◌then◌else◌, List, [], ◌∷◌, ◌++◌, length, take, drop, map, slice_index_or, codes, ap, sym, ◌∙◌, arith, append_assoc}
use Rattle.std.proofs.Math.Seq.{drop-cons}
use Rattle.std.proofs.lemmas.List.{append-nil, drop-drop, drop_all}
use Rattle.std.proofs.lemmas.Grind.{flat_map-append}
use Rattle.kz_model.specs.Store.Replies.{no_reply}
use Rattle.kz_model.specs.declared.bundle.Bundle.{Bundle}
use Rattle.kz_model.specs.declared.bundle.TraceStep.{TraceStep}
use Rattle.kz_model.specs.declared.record.Plan.{Plan}
use Rattle.kz_model.specs.declared.step.Reply.{Reply}
use Rattle.kz_model.specs.Run.Journal.{addressed}
use Rattle.kz_model.specs.Text.Report.{Answered}
use Rattle.kz_model.specs.Text.Lines.{text_of_lines}
use Rattle.kz_model.specs.Run.Journal.{no_step}
use Rattle.kz_report.specs.Lines.{said, answered_line, count_in_front, break_lines, rounds_left}

pub text-append : (xs ys : List (List ℕ)) → text_of_lines (xs ++ ys) ≡ text_of_lines xs ++ text_of_lines ys
text-append xs ys = flat_map-append (λ (line : List ℕ). line ++ 10 ∷ []) xs ys

pub one_text : (line : List ℕ) → text_of_lines (line ∷ []) ≡ line ++ codes "\n"
one_text line = append-nil (line ++ codes "\n")

-- ---- rounds in front

pub front_here : (round at : ℕ) (trace : List TraceStep) → at < length trace →
    count_in_front round (drop at trace) ≡ (if (slice_index_or trace at no_step).round == round then suc (count_in_front round (drop (at + 1) trace)) else 0)
front_here round at trace lt =
    let next : suc at ≡ at + 1 = omega arith in
    ap (count_in_front round) (drop-cons trace at no_step lt) ∙ ap (λ k. if (slice_index_or trace at no_step).round == round then suc (count_in_front round (drop k trace)) else 0) next

pub front_past : (round at : ℕ) (trace : List TraceStep) → length trace ≤ at → count_in_front round (drop at trace) ≡ 0
front_past round at trace past = ap (count_in_front round) (drop_all at trace past)

pub front_within : (round : ℕ) (lines : List TraceStep) → count_in_front round lines ≤ length lines
front_within round [] = omega arith
front_within round (line ∷ lines) =
    elim (line.round == round) as (λ t. (if t then suc (count_in_front round lines) else 0) ≤ length (line ∷ lines)) [ true ↦ omega (arith, front_within round lines) | false ↦ omega arith ]

-- ---- the lines of these places

pub one_said : (b : Bundle) (plan : Plan) (trace : List TraceStep) (replies : List Reply) (at end : ℕ) (d : Reply) → at < end → end ≤ length trace → length replies ≡ length trace →
    said b plan (take (end - at) (drop at trace)) (drop at replies)
    ≡ record { act = (slice_index_or trace at no_step).act; zone = (addressed b plan (slice_index_or trace at no_step).act).0; reply = slice_index_or replies at d } ∷ said b plan (take (end - (at + 1)) (drop (at + 1) trace)) (drop (at + 1) replies)
one_said b plan trace replies at end d lt within long =
    let next : suc at ≡ at + 1 = omega arith in
    let left : end - at ≡ suc (end - (at + 1)) = omega arith in
    ap (λ k. said b plan (take k (drop at trace)) (drop at replies)) left
    ∙ ap (λ (lines : List TraceStep). said b plan (take (suc (end - (at + 1))) lines) (drop at replies)) (drop-cons trace at no_step (omega arith))
    ∙ ap (λ (rs : List Reply). said b plan (slice_index_or trace at no_step ∷ take (end - (at + 1)) (drop (suc at) trace)) rs) (drop-cons replies at d (omega arith))
    ∙ ap (λ k. record { act = (slice_index_or trace at no_step).act; zone = (addressed b plan (slice_index_or trace at no_step).act).0; reply = slice_index_or replies at d } ∷ said b plan (take (end - (at + 1)) (drop k trace)) (drop k replies)) next

pub none_said : (b : Bundle) (plan : Plan) (trace : List TraceStep) (replies : List Reply) (at end : ℕ) → end ≤ at → said b plan (take (end - at) (drop at trace)) (drop at replies) ≡ []
none_said b plan trace replies at end past =
    let none : end - at ≡ 0 = omega arith in
    ap (λ k. said b plan (take k (drop at trace)) (drop at replies)) none

-- what is written so far, followed by what is left, is the whole: one line on
pub line_on : (lines later : List Answered) (line first : Answered) (show : Answered → List ℕ) (s t whole : List ℕ) → lines ≡ first ∷ later → line ≡ first →
    s ++ text_of_lines (map show lines) ≡ whole → t ≡ s ++ (show line ++ codes "\n") → t ++ text_of_lines (map show later) ≡ whole
line_on lines later line first show s t whole split same before e =
    ap (λ t. t ++ text_of_lines (map show later)) (e ∙ ap (λ (line : Answered). s ++ (show line ++ codes "\n")) same)
    ∙ append_assoc s (show first ++ codes "\n") (text_of_lines (map show later))
    ∙ ap (λ (lines : List Answered). s ++ text_of_lines (map show lines)) (sym split)
    ∙ before

pub nothing_left : (s whole rest : List ℕ) → rest ≡ [] → s ++ rest ≡ whole → s ≡ whole
nothing_left s whole rest none e = sym (append-nil s) ∙ ap (λ (rest : List ℕ). s ++ rest) (sym none) ∙ e

-- ---- rounds

-- a break, and the rounds that follow
broken : (b : Bundle) (plan : Plan) (pages : List (List ℕ)) (round more : ℕ) (lines : List TraceStep) (replies : List Reply) (follows : Bool) → follows ≡ nat_lt 0 more →
    (if more == 0 then [] else codes "--" ∷ rounds_left b plan pages round more lines replies) ≡ break_lines follows ++ rounds_left b plan pages round more lines replies
broken b plan pages round zero lines replies follows is = ap (λ f. break_lines f ++ []) (sym is)
broken b plan pages round (suc more) lines replies follows is =
    let yes : nat_lt 0 (suc more) ≡ true = grind arith in
    let some : (suc more == 0) ≡ false = grind arith in
    ap (λ (t : Bool). if t then [] else codes "--" ∷ rounds_left b plan pages round (suc more) lines replies) some
    ∙ ap (λ f. break_lines f ++ rounds_left b plan pages round (suc more) lines replies) (sym (is ∙ yes))

-- one round on
pub round_on : (b : Bundle) (plan : Plan) (pages : List (List ℕ)) (trace : List TraceStep) (replies : List Reply) (round rounds from end : ℕ) (follows : Bool) (s t u whole : List ℕ) →
    round < rounds → end ≡ from + count_in_front round (drop from trace) → follows ≡ nat_lt (round + 1) rounds →
    s ++ text_of_lines (rounds_left b plan pages round (rounds - round) (drop from trace) (drop from replies)) ≡ whole →
    t ≡ s ++ text_of_lines (map (answered_line plan pages) (said b plan (take (end - from) (drop from trace)) (drop from replies))) →
    u ≡ t ++ text_of_lines (break_lines follows) →
    u ++ text_of_lines (rounds_left b plan pages (round + 1) (rounds - (round + 1)) (drop end trace) (drop end replies)) ≡ whole
round_on b plan pages trace replies round rounds from end follows s t u whole lt is_end is_follows before written broke =
    let count = count_in_front round (drop from trace) in
    let more = rounds - (round + 1) in
    let left : rounds - round ≡ suc more = omega arith in
    let back : end - from ≡ count = omega (arith, is_end) in
    let follows_is : follows ≡ nat_lt 0 more = is_follows ∙ same_test (round + 1) rounds in
    let here = map (answered_line plan pages) (said b plan (take count (drop from trace)) (drop from replies)) in
    let rest = rounds_left b plan pages (round + 1) more (drop count (drop from trace)) (drop count (drop from replies)) in
    let lines_there : drop end trace ≡ drop count (drop from trace) = ap (λ k. drop k trace) is_end ∙ sym (drop-drop count from trace) in
    let replies_there : drop end replies ≡ drop count (drop from replies) = ap (λ k. drop k replies) is_end ∙ sym (drop-drop count from replies) in
    ap (λ u. u ++ text_of_lines (rounds_left b plan pages (round + 1) more (drop end trace) (drop end replies)))
    (broke ∙ ap (λ t. t ++ text_of_lines (break_lines follows)) (written ∙ ap (λ k. s ++ text_of_lines (map (answered_line plan pages) (said b plan (take k (drop from trace)) (drop from replies)))) back))
    ∙ ap (λ (lines : List TraceStep). ((s ++ text_of_lines here) ++ text_of_lines (break_lines follows)) ++ text_of_lines (rounds_left b plan pages (round + 1) more lines (drop end replies))) lines_there
    ∙ ap (λ (rs : List Reply). ((s ++ text_of_lines here) ++ text_of_lines (break_lines follows)) ++ text_of_lines (rounds_left b plan pages (round + 1) more (drop count (drop from trace)) rs)) replies_there
    ∙ grouped s (text_of_lines here) (text_of_lines (break_lines follows)) (text_of_lines rest)
    ∙ ap (λ l. s ++ (text_of_lines here ++ l)) (sym (text-append (break_lines follows) rest))
    ∙ ap (λ (l : List (List ℕ)). s ++ (text_of_lines here ++ text_of_lines l)) (sym (broken b plan pages (round + 1) more (drop count (drop from trace)) (drop count (drop from replies)) follows follows_is))
    ∙ ap (λ l. s ++ l) (sym (text-append here (if more == 0 then [] else codes "--" ∷ rest)))
    ∙ ap (λ k. s ++ text_of_lines (rounds_left b plan pages round k (drop from trace) (drop from replies))) (sym left)
    ∙ before
  where
    grouped : (s a b c : List ℕ) → ((s ++ a) ++ b) ++ c ≡ s ++ (a ++ (b ++ c))
    grouped s a b c = simp append_assoc

    same_test : (n rounds : ℕ) → nat_lt n rounds ≡ nat_lt 0 (rounds - n)
    same_test n rounds = grind arith

pub no_rounds : (b : Bundle) (plan : Plan) (pages : List (List ℕ)) (trace : List TraceStep) (replies : List Reply) (round rounds : ℕ) → rounds ≤ round →
    text_of_lines (rounds_left b plan pages round (rounds - round) trace replies) ≡ []
no_rounds b plan pages trace replies round rounds past =
    let none : rounds - round ≡ 0 = omega arith in
    ap (λ k. text_of_lines (rounds_left b plan pages round k trace replies)) none

-- ---- the line at a place

pub place_on : (b : Bundle) (plan : Plan) (pages : List (List ℕ)) (trace : List TraceStep) (replies : List Reply) (at end : ℕ) (step : TraceStep) (r : Reply) (s t whole : List ℕ) →
    at < end → end ≤ length trace → length replies ≡ length trace → step ≡ slice_index_or trace at no_step → r ≡ slice_index_or replies at no_reply →
    s ++ text_of_lines (map (answered_line plan pages) (said b plan (take (end - at) (drop at trace)) (drop at replies))) ≡ whole →
    t ≡ s ++ (answered_line plan pages (record { act = step.act; zone = (addressed b plan step.act).0; reply = r }) ++ codes "\n") →
    t ++ text_of_lines (map (answered_line plan pages) (said b plan (take (end - (at + 1)) (drop (at + 1) trace)) (drop (at + 1) replies))) ≡ whole
place_on b plan pages trace replies at end step r s t whole lt within long is_step is_reply before written =
    let line : TraceStep → Reply → Answered = λ step r. record { act = step.act; zone = (addressed b plan step.act).0; reply = r } in
    line_on (said b plan (take (end - at) (drop at trace)) (drop at replies)) (said b plan (take (end - (at + 1)) (drop (at + 1) trace)) (drop (at + 1) replies)) (line step r) (line (slice_index_or trace at no_step) (slice_index_or replies at no_reply)) (answered_line plan pages) s t whole
    (one_said b plan trace replies at end no_reply lt within long)
    (ap (λ (step : TraceStep). line step r) is_step ∙ ap (λ (r : Reply). line (slice_index_or trace at no_step) r) is_reply)
    before written

-- ---- pieces by four and by five

pub four_parts : (a b c d : List ℕ) → a ++ (b ++ (c ++ d)) ≡ ((a ++ b) ++ c) ++ d
four_parts a b c d = simp append_assoc

-- lines behind lines
pub then_lines : (base s t : List ℕ) (xs ys : List (List ℕ)) → s ≡ base ++ text_of_lines xs → t ≡ s ++ text_of_lines ys → t ≡ base ++ text_of_lines (xs ++ ys)
then_lines base s t xs ys before e =
    e ∙ ap (λ s. s ++ text_of_lines ys) before ∙ append_assoc base (text_of_lines xs) (text_of_lines ys) ∙ ap (λ l. base ++ l) (sym (text-append xs ys))

-- the whole, section by section
pub all_sections : (first last : List ℕ) (plan cpus uses chunks visits asks : List (List ℕ)) (s0 s1 s2 s3 s4 s5 s6 s7 s8 : List ℕ) →
    s1 ≡ s0 ++ (first ++ codes "\n") → s2 ≡ s1 ++ text_of_lines plan → s3 ≡ s2 ++ text_of_lines cpus → s4 ≡ s3 ++ text_of_lines uses → s5 ≡ s4 ++ text_of_lines chunks →
    s6 ≡ s5 ++ text_of_lines visits → s7 ≡ s6 ++ text_of_lines asks → s8 ≡ s7 ++ (last ++ codes "\n") →
    s8 ≡ s0 ++ text_of_lines (first ∷ (plan ++ cpus ++ uses ++ chunks ++ visits ++ asks ++ last ∷ []))
all_sections first last plan cpus uses chunks visits asks s0 s1 s2 s3 s4 s5 s6 s7 s8 e1 e2 e3 e4 e5 e6 e7 e8 =
    then_lines s0 s7 s8 (first ∷ (plan ++ cpus ++ uses ++ chunks ++ visits ++ asks)) (last ∷ [])
    (then_lines s0 s6 s7 (first ∷ (plan ++ cpus ++ uses ++ chunks ++ visits)) asks
    (then_lines s0 s5 s6 (first ∷ (plan ++ cpus ++ uses ++ chunks)) visits
    (then_lines s0 s4 s5 (first ∷ (plan ++ cpus ++ uses)) chunks
    (then_lines s0 s3 s4 (first ∷ (plan ++ cpus)) uses
    (then_lines s0 s2 s3 (first ∷ plan) cpus
    (then_lines s0 s1 s2 (first ∷ []) plan
    (e1 ∙ ap (λ l. s0 ++ l) (sym (one_text first))) e2) e3) e4) e5) e6) e7)
    (e8 ∙ ap (λ l. s7 ++ l) (sym (one_text last)))
