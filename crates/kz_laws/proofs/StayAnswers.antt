-- What a CPU's stays were answered is what the report says of its lines.
use Rattle.std.proofs.Common.{◌≡◌, ℕ, suc, ◌<◌, ◌==◌, ◌&&◌, true, false, if◌then◌else◌, List, [], ◌∷◌, ◌++◌, length, drop, map, slice_index_or, Option, None, Some, refl, ap, sym, ◌∙◌, arith, append_assoc, length-append}
use Rattle.std.specs.List.{All}
use Rattle.std.specs.Option.{option_map_or}
use Rattle.std.proofs.Math.Seq.{get_or-append_seam}
use Rattle.std.proofs.lemmas.List.{length-map}
use Rattle.std.proofs.lemmas.List.Elements.{All-head, All-tail}
use Rattle.kz_model.specs.declared.bundle.Bundle.{Bundle}
use Rattle.kz_model.specs.declared.bundle.TraceStep.{TraceStep}
use Rattle.kz_model.specs.declared.step.Reply.{Reply}
use Rattle.kz_model.specs.declared.step.Reply.TheVariants as reply
use Rattle.kz_model.specs.declared.step.Step.{Step}
use Rattle.kz_model.specs.declared.record.Plan.{Plan}
use Rattle.kz_model.specs.declared.record.Visit.{Visit}
use Rattle.kz_model.specs.declared.record.ZoneParams.{ZoneParams}
use Rattle.kz_model.specs.declared.supply.SupplyEntry.{SupplyEntry}
use Rattle.kz_model.specs.Zone.State.{ZoneState, opening}
use Rattle.kz_model.specs.Zone.Alone.{Course, alone}
use Rattle.kz_model.specs.Run.Journal.{params_of, addressed, lines_of_round, steps_among, answers_at, alone_at}
use Rattle.kz_model.specs.Run.Recorded.{zone_mapped}
use Rattle.kz_model.specs.Text.Report.{Answered, answered_after, answered_lines, replies_carried, zone_replies}
use Rattle.kz_laws.specs.declared.stays.Stay.{Stay}
use Rattle.kz_laws.specs.Stays.{IsStay, AreStays, visits_in, steps_in_stay, answers_in, replies_in, replies_made_to}
use Rattle.kz_laws.specs.StayLaws.{AreStaysOfRun, AreReplies, journals_of, replies_among}
use Rattle.kz_laws.proofs.OrderJournals.{course_lengths}
use Rattle.kz_laws.proofs.StayCourses.{take-front, drop-front}
use Rattle.kz_laws.proofs.StayRuns.{journal_is, spelled_is, made_of, alone_is}

-- ---- the replies to a CPU's stays in a round

stay_long : (p : ZoneParams) (state : ZoneState) (s : Stay) (c : Course) → IsStay p state s c → length s.replies ≡ length s.steps
stay_long p state s c is =
    ap (λ (l : List Reply). length l) (sym is.replied) ∙ (course_lengths p state (steps_in_stay s) (answers_in s.entries) c is.made_is).replies ∙ length-map s.steps (λ (step : Step). (s.cpu, step))

pub replies_carried_are : (p : ZoneParams) (cpu round : ℕ) (state end : ZoneState) (stays : List Stay) → AreStays p state stays end → replies_carried cpu round (visits_in stays) (replies_in stays) ≡ replies_made_to cpu round stays
replies_carried_are p cpu round state end [] are = refl
replies_carried_are p cpu round state end (s ∷ stays) are =
    let mine = (s.cpu == cpu) && (s.round == round) in
    let long = stay_long p state s are.0 are.1 in
    ap (λ (l : List Reply). (if mine then l else []) ++ replies_carried cpu round (visits_in stays) (drop (length s.steps) (s.replies ++ replies_in stays))) (take-front (length s.steps) s.replies (replies_in stays) long)
    ∙ ap (λ (l : List Reply). (if mine then s.replies else []) ++ replies_carried cpu round (visits_in stays) l) (drop-front (length s.steps) s.replies (replies_in stays) long)
    ∙ ap (λ (l : List Reply). (if mine then s.replies else []) ++ l) (replies_carried_are p cpu round are.0.end end stays are.2)

-- ---- the replies to lines on a zone

among_long : (b : Bundle) (plan : Plan) (zone : ℕ) (lines : List TraceStep) (replies : List Reply) → length replies ≡ length lines → length (replies_among b plan zone lines replies) ≡ length (steps_among b plan zone lines)
among_long b plan zone [] replies long = refl
among_long b plan zone (line ∷ lines) [] long = absurd (omega arith)
among_long b plan zone (line ∷ lines) (r ∷ replies) long =
    let rest = among_long b plan zone lines replies (omega arith) in
    let there = addressed b plan line.act in
    elim (there.0 == zone) as (λ t. length (if t then r ∷ replies_among b plan zone lines replies else replies_among b plan zone lines replies) ≡ length (if t then there.1 ∷ steps_among b plan zone lines else steps_among b plan zone lines)) [
      | true ↦ ap (λ n. suc n) rest
      | false ↦ rest
    ]

among-append : (b : Bundle) (plan : Plan) (zone : ℕ) (lines more : List TraceStep) (replies others : List Reply) → length replies ≡ length lines →
    replies_among b plan zone (lines ++ more) (replies ++ others) ≡ replies_among b plan zone lines replies ++ replies_among b plan zone more others
among-append b plan zone [] more [] others long = refl
among-append b plan zone [] more (r ∷ replies) others long = absurd (omega arith)
among-append b plan zone (line ∷ lines) more [] others long = absurd (omega arith)
among-append b plan zone (line ∷ lines) more (r ∷ replies) others long =
    let rest = among-append b plan zone lines more replies others (omega arith) in
    let front = replies_among b plan zone lines replies in
    let back = replies_among b plan zone more others in
    let all = replies_among b plan zone (lines ++ more) (replies ++ others) in
    elim ((addressed b plan line.act).0 == zone) as (λ t. (if t then r ∷ all else all) ≡ (if t then r ∷ front else front) ++ back) [
      | true ↦ ap (λ (l : List Reply). r ∷ l) rest
      | false ↦ rest
    ]

one_among : (b : Bundle) (plan : Plan) (line : TraceStep) (lines : List TraceStep) (r : Reply) (replies : List Reply) →
    let zone = (addressed b plan line.act).0 in replies_among b plan zone (line ∷ lines) (r ∷ replies) ≡ r ∷ replies_among b plan zone lines replies
one_among b plan line lines r replies =
    let zone = (addressed b plan line.act).0 in
    let same : (zone == zone) ≡ true = grind arith in
    ap (λ t. if t then r ∷ replies_among b plan zone lines replies else replies_among b plan zone lines replies) same

-- ---- lines one after the other

module _ (b : Bundle) (plan : Plan) (journals : List (List Visit)) (log : List SupplyEntry) (cpu round : ℕ) (given : ℕ → List Reply)
    (is_given : (zone : ℕ) → zone < length plan.zones → replies_carried cpu round (slice_index_or journals zone []) (zone_replies b plan journals log zone) ≡ given zone) where
  answered_rest : (earlier lines : List TraceStep) (before replies : List Reply) → length before ≡ length earlier → length replies ≡ length lines →
      All (λ line. (addressed b plan line.act).0 < length plan.zones) lines →
      ((zone : ℕ) → zone < length plan.zones → replies_among b plan zone (earlier ++ lines) (before ++ replies) ≡ given zone) →
      map (λ line. line.reply) (answered_after b plan journals log cpu round earlier lines) ≡ replies
  answered_rest earlier [] before [] long same zones are = refl
  answered_rest earlier [] before (r ∷ replies) long same zones are = absurd (omega arith)
  answered_rest earlier (line ∷ lines) before [] long same zones are = absurd (omega arith)
  answered_rest earlier (line ∷ lines) before (r ∷ replies) long same zones are =
      let Within : TraceStep → Type 0 = λ line. (addressed b plan line.act).0 < length plan.zones in
      let zone = (addressed b plan line.act).0 in
      let there : zone < length plan.zones = All-head Within line lines zones in
      let front = replies_among b plan zone earlier before in
      let back = replies_among b plan zone lines replies in
      let at = length (steps_among b plan zone earlier) in
      let carried_here : replies_carried cpu round (slice_index_or journals zone []) (zone_replies b plan journals log zone) ≡ front ++ r ∷ back =
      is_given zone there ∙ sym (are zone there) ∙ among-append b plan zone earlier (line ∷ lines) before (r ∷ replies) long
      ∙ ap (λ (l : List Reply). front ++ l) (one_among b plan line lines r replies) in
      let here : slice_index_or (replies_carried cpu round (slice_index_or journals zone []) (zone_replies b plan journals log zone)) at reply.Done ≡ r =
      ap (λ (l : List Reply). slice_index_or l at reply.Done) carried_here
      ∙ ap (λ n. slice_index_or (front ++ r ∷ back) n reply.Done) (sym (among_long b plan zone earlier before long))
      ∙ get_or-append_seam front r back reply.Done in
      let long_more : length (before ++ r ∷ []) ≡ length (earlier ++ line ∷ []) = grind (arith, length-append before (r ∷ []), length-append earlier (line ∷ [])) in
      let rest : map (λ line. line.reply) (answered_after b plan journals log cpu round (earlier ++ line ∷ []) lines) ≡ replies =
      answered_rest (earlier ++ line ∷ []) lines (before ++ r ∷ []) replies long_more (omega arith) (All-tail Within line lines zones)
      (λ z lt. ap (λ (l : List TraceStep). replies_among b plan z l ((before ++ r ∷ []) ++ replies)) (append_assoc earlier (line ∷ []) lines)
      ∙ ap (λ (l : List Reply). replies_among b plan z (earlier ++ line ∷ lines) l) (append_assoc before (r ∷ []) replies) ∙ are z lt) in
      ap (λ (x : Reply). x ∷ map (λ (line : Answered). line.reply) (answered_after b plan journals log cpu round (earlier ++ line ∷ []) lines)) here ∙ ap (λ (l : List Reply). r ∷ l) rest

-- ---- the whole

module _ (b : Bundle) (plan : Plan) (stays : ℕ → List Stay) (ends : ℕ → ZoneState) (log : List SupplyEntry) (rounds : List ℕ) (are : AreStaysOfRun b plan stays ends log rounds) where
  abbrev journals : List (List Visit)
  journals = journals_of plan stays

  alone_there : (zone : ℕ) (there : zone < length plan.zones) → alone_at b plan journals log zone ≡ Some (made_of b plan stays ends log rounds are zone there).0
  alone_there zone there =
      ap (λ (o : Option (List (ℕ × Step))). option_map_or (λ steps. alone (params_of b plan zone) steps (answers_at zone log)) o None) (spelled_is b plan stays ends log rounds are zone there)
      ∙ alone_is b plan stays ends log rounds are zone there

  replies_there : (zone : ℕ) → zone < length plan.zones → zone_replies b plan journals log zone ≡ replies_in (stays zone)
  replies_there zone there =
      ap (λ (o : Option Course). option_map_or (λ c. c.replies) o []) (alone_there zone there) ∙ (made_of b plan stays ends log rounds are zone there).1.replied

  given_there : (cpu round zone : ℕ) → zone < length plan.zones → replies_carried cpu round (slice_index_or journals zone []) (zone_replies b plan journals log zone) ≡ replies_made_to cpu round (stays zone)
  given_there cpu round zone there =
      ap (λ (journal : List Visit). replies_carried cpu round journal (zone_replies b plan journals log zone)) (journal_is b plan stays ends log rounds are zone there)
      ∙ ap (λ (replies : List Reply). replies_carried cpu round (visits_in (stays zone)) replies) (replies_there zone there)
      ∙ replies_carried_are (params_of b plan zone) cpu round (opening (params_of b plan zone)) (ends zone) (stays zone) (are.each zone there).alone

  lines_answered : (cpu round : ℕ) (replies : List Reply) → AreReplies b plan stays cpu round replies → map (λ line. line.reply) (answered_lines b plan journals log cpu round) ≡ replies
  lines_answered cpu round replies so =
      answered_rest b plan journals log cpu round (λ zone. replies_made_to cpu round (stays zone)) (given_there cpu round) [] (lines_of_round b cpu round) [] replies refl so.long so.zones so.each

  chunks_there : (zone : ℕ) → zone < length plan.zones → zone_mapped b plan journals log zone ≡ map (λ chunk. chunk.mapped) (ends zone).shared.chunks
  chunks_there zone there =
      ap (λ (o : Option Course). map (λ chunk. chunk.mapped) (option_map_or (λ c. c.end.shared.chunks) o [])) (alone_there zone there)
      ∙ ap (λ (state : ZoneState). map (λ chunk. chunk.mapped) state.shared.chunks) (made_of b plan stays ends log rounds are zone there).1.is_end

  pub stays_answered : ((cpu round : ℕ) (replies : List Reply) → AreReplies b plan stays cpu round replies → map (λ line. line.reply) (answered_lines b plan journals log cpu round) ≡ replies) ×
      ((zone : ℕ) → zone < length plan.zones → zone_mapped b plan journals log zone ≡ map (λ chunk. chunk.mapped) (ends zone).shared.chunks)
  stays_answered = (lines_answered, chunks_there)
