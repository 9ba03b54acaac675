-- What a record of a run of a valid bundle gives for its report.
use Rattle.std.proofs.Common.{◌≡◌, ℕ, zero, suc, ◌+◌, ◌<◌, ◌≤◌, ◌==◌, nat_lt, Bool, true, false, if◌then◌else◌, ◌&&◌, List, [], ◌∷◌, ◌++◌, length, drop, map, slice_index_or, None, All, codes, decimal, refl, ap, sym, ◌∙◌, subst, arith, append_assoc}
use Rattle.std.specs.List.{filter, enumerate_from}
use Rattle.std.proofs.lemmas.List.{get_or_past}
use Rattle.std.proofs.lemmas.List.Elements.{All-get_or, All-head, All-tail}
use Rattle.kz_model.specs.declared.bundle.Bundle.{Bundle}
use Rattle.kz_model.specs.declared.bundle.TraceStep.{TraceStep}
use Rattle.kz_model.specs.declared.record.Plan.{Plan}
use Rattle.kz_model.specs.declared.record.Record.{Record}
use Rattle.kz_model.specs.declared.record.Visit.{Visit}
use Rattle.kz_model.specs.declared.record.ZoneRow.{ZoneRow}
use Rattle.kz_model.specs.declared.step.Reply.{Reply}
use Rattle.kz_model.specs.declared.supply.SupplyEntry.{SupplyEntry}
use Rattle.kz_model.specs.Run.Journal.{zone_row, trace_of, steps_among, steps_of, carried}
use Rattle.kz_model.specs.Types.Planned.{IsFitRow}
use Rattle.kz_model.specs.Run.Recorded.{cpu_answered, cpu_replies}
use Rattle.kz_model.specs.Text.Report.{cpu_lines, rounds_lines, chunk_line, zone_chunks, zone_visits_lines}
use Rattle.kz_model.specs.Run.Journal.{bases}
use Rattle.kz_model.specs.Run.Runs.{Carries}
use Rattle.kz_model.specs.Text.Lines.{text_of_lines}
use Rattle.kz_model.specs.Grammar.Turns.{is_of_round}
use Rattle.kz_model.specs.Grammar.Valid.{IsValid}
use Rattle.kz_model.specs.Zone.State.{Chunk}
use Rattle.kz_model.proofs.TraceRounds.{trace_by_rounds, steps_within}
use Rattle.kz_report.specs.Lines.{IsReportable, said, rounds_left, mapped_line, visits_after}
use Rattle.kz_report.proofs.AnsweredLines.{AreBases, length-of_rounds, rounds_same, said_rounds}
use Rattle.kz_report.proofs.VisitLines.{RiseWithin, rises, visits_same}
use Rattle.kz_bundle.proofs.Zoned.{planned_is_valid}

-- ---- the rows

pub row_fit : (plan : Plan) (zone : ℕ) → All IsFitRow plan.zones → ((zone_row plan zone).submap < 5) × ((zone_row plan zone).shape.element ≤ 8192)
row_fit plan zone rows =
    let P : ZoneRow → Type 0 = λ row. (row.submap < 5) × (row.shape.element ≤ 8192) in
    elim (nat_lt zone (length plan.zones)) as (λ t. nat_lt zone (length plan.zones) ≡ t → P (zone_row plan zone)) [
      | true ↦ λ e. let lt : zone < length plan.zones = grind arith in let fit = rows zone (zone_row plan 0) lt in there zone lt
      | false ↦ λ e. let past : length plan.zones ≤ zone = grind arith in subst P (sym (get_or_past plan.zones zone _ past)) (omega arith, omega arith)
    ] refl
  where
    there : (zone : ℕ) → zone < length plan.zones → ((zone_row plan zone).submap < 5) × ((zone_row plan zone).shape.element ≤ 8192)
    there zone lt = let fit = All-get_or IsFitRow plan.zones zone _ lt rows in (fit.submap, fit.shape.most_element)

-- ---- a CPU's section

pub record HasSection (b : Bundle) (plan : Plan) (made : Record) (cpu : ℕ) : Type 0 where
  pub long : length (slice_index_or made.replies cpu []) ≡ length (trace_of b cpu)
  pub lines : (pages : List (List ℕ)) → AreBases made.supply pages →
      rounds_left b plan pages 0 b.rounds (trace_of b cpu) (slice_index_or made.replies cpu []) ≡ rounds_lines b plan made.visits made.supply cpu 0 b.rounds
  pub answered : said b plan (trace_of b cpu) (slice_index_or made.replies cpu []) ≡ cpu_answered b plan made.visits made.supply cpu

pub has_section : (b : Bundle) (plan : Plan) (made : Record) (cpu : ℕ) → IsReportable b plan made → cpu < b.cpus → HasSection b plan made cpu
has_section b plan made cpu h lt =
    let rounds = trace_by_rounds b (planned_is_valid h.planned) cpu in
    let replies = h.answered.replies cpu lt in
    let there = cpu_replies b plan made.visits made.supply cpu in
    record {
      long = ap (λ (rs : List Reply). length rs) replies ∙ length-of_rounds b plan made.visits made.supply cpu b.rounds 0 ∙ sym (ap (λ (lines : List TraceStep). length lines) rounds);
      lines = λ pages are.
          ap (λ (rs : List Reply). rounds_left b plan pages 0 b.rounds (trace_of b cpu) rs) replies
          ∙ ap (λ (lines : List TraceStep). rounds_left b plan pages 0 b.rounds lines there) rounds
          ∙ rounds_same b plan made.visits made.supply pages cpu b.rounds 0 are;
      answered =
          ap (said b plan (trace_of b cpu)) replies
          ∙ ap (λ (lines : List TraceStep). said b plan lines there) rounds
          ∙ said_rounds b plan made.visits made.supply cpu b.rounds 0;
    }

pub section_written : (b : Bundle) (plan : Plan) (made : Record) (pages : List (List ℕ)) (cpu : ℕ) (trace : List TraceStep) (replies : List Reply) (s t u : List ℕ) → IsReportable b plan made → cpu < b.cpus → AreBases made.supply pages →
    trace ≡ trace_of b cpu → replies ≡ slice_index_or made.replies cpu [] → t ≡ s ++ (codes "cpu " ++ (decimal cpu ++ codes "\n")) → u ≡ t ++ text_of_lines (rounds_left b plan pages 0 b.rounds trace replies) →
    u ≡ s ++ text_of_lines (cpu_lines b plan made.visits made.supply cpu)
section_written b plan made pages cpu trace replies s t u h lt are is_trace is_replies begun written =
    let lines = rounds_lines b plan made.visits made.supply cpu 0 b.rounds in
    written
    ∙ ap (λ t. t ++ text_of_lines (rounds_left b plan pages 0 b.rounds trace replies)) begun
    ∙ ap (λ (trace : List TraceStep). (s ++ (codes "cpu " ++ (decimal cpu ++ codes "\n"))) ++ text_of_lines (rounds_left b plan pages 0 b.rounds trace replies)) is_trace
    ∙ ap (λ (rs : List Reply). (s ++ (codes "cpu " ++ (decimal cpu ++ codes "\n"))) ++ text_of_lines (rounds_left b plan pages 0 b.rounds (trace_of b cpu) rs)) is_replies
    ∙ ap (λ lines. (s ++ (codes "cpu " ++ (decimal cpu ++ codes "\n"))) ++ text_of_lines lines) ((has_section b plan made cpu h lt).lines pages are)
    ∙ grouped s (codes "cpu ") (decimal cpu) (codes "\n") (text_of_lines lines)
  where
    grouped : (s a c e rest : List ℕ) → (s ++ (a ++ (c ++ e))) ++ rest ≡ s ++ (((a ++ c) ++ e) ++ rest)
    grouped s a c e rest = simp append_assoc

-- ---- chunks

pub chunks_same : (b : Bundle) (plan : Plan) (log : List SupplyEntry) (zone n : ℕ) (chunks : List Chunk) →
    map (mapped_line zone (zone_row plan zone) (bases zone log)) (enumerate_from n (map (λ chunk. chunk.mapped) chunks)) ≡ map (chunk_line b plan log zone) (enumerate_from n chunks)
chunks_same b plan log zone n [] = refl
chunks_same b plan log zone n (chunk ∷ chunks) =
    ap (λ (lines : List (List ℕ)). mapped_line zone (zone_row plan zone) (bases zone log) (n, chunk.mapped) ∷ lines) (chunks_same b plan log zone (n + 1) chunks)

pub chunks_written : (b : Bundle) (plan : Plan) (made : Record) (all : List (List ℕ)) (zone : ℕ) (row : ZoneRow) (pages : List ℕ) (mapped : List Bool) (s t : List ℕ) → IsReportable b plan made → zone < length plan.zones → AreBases made.supply all →
    row ≡ zone_row plan zone → pages ≡ slice_index_or all zone [] → mapped ≡ slice_index_or made.mapped zone [] → t ≡ s ++ text_of_lines (map (mapped_line zone row pages) (enumerate_from 0 mapped)) →
    t ≡ s ++ text_of_lines (map (chunk_line b plan made.supply zone) (enumerate_from 0 (zone_chunks b plan made.visits made.supply zone)))
chunks_written b plan made all zone row pages mapped s t h lt are is_row is_pages is_mapped written =
    let chunks = zone_chunks b plan made.visits made.supply zone in
    written
    ∙ ap (λ (row : ZoneRow). s ++ text_of_lines (map (mapped_line zone row pages) (enumerate_from 0 mapped))) is_row
    ∙ ap (λ (pages : List ℕ). s ++ text_of_lines (map (mapped_line zone (zone_row plan zone) pages) (enumerate_from 0 mapped))) (is_pages ∙ are zone)
    ∙ ap (λ (mapped : List Bool). s ++ text_of_lines (map (mapped_line zone (zone_row plan zone) (bases zone made.supply)) (enumerate_from 0 mapped))) (is_mapped ∙ h.answered.mapped zone lt)
    ∙ ap (λ lines. s ++ text_of_lines lines) (chunks_same b plan made.supply zone 0 chunks)

-- ---- visits

-- each visit's steps are some
each_counts : (visits : List Visit) (needs : List Bool) → Carries visits needs → All (λ v. 1 ≤ v.count) visits
each_counts [] needs carries = λ k d lt. absurd (omega arith)
each_counts (v ∷ visits) needs carries = all_of (each_counts visits (drop v.count needs) carries.2)
  where
    all_of : All (λ v. 1 ≤ v.count) visits → All (λ v. 1 ≤ v.count) (v ∷ visits)
    all_of rest zero d lt = carries.0
    all_of rest (suc k) d lt = rest k d (omega arith)

-- what a visit carries is carried of its CPU and round
carried_there : (visits : List Visit) (k : ℕ) (d : Visit) → k < length visits → (slice_index_or visits k d).count ≤ carried (slice_index_or visits k d).cpu (slice_index_or visits k d).round visits
carried_there [] k d lt = absurd (omega arith)
carried_there (v ∷ visits) zero d lt =
    let same : (v.cpu == v.cpu) ≡ true = grind arith in
    let also : (v.round == v.round) ≡ true = grind arith in
    let here : (if (v.cpu == v.cpu) && (v.round == v.round) then v.count else 0) ≡ v.count = ap (λ t. if t && (v.round == v.round) then v.count else 0) same ∙ ap (λ t. if t then v.count else 0) also in
    omega (arith, here)
carried_there (v ∷ visits) (suc k) d lt = omega (arith, carried_there visits k d (omega arith))

no_line : (round rounds : ℕ) (trace : List TraceStep) → rounds ≤ round → All (λ line. line.round < rounds) trace → filter (is_of_round round) trace ≡ []
no_line round rounds [] past below = refl
no_line round rounds (line ∷ trace) past below =
    let here : line.round < rounds = All-head (λ (line : TraceStep). line.round < rounds) line trace below in
    let other : (line.round == round) ≡ false = grind arith in
    ap (λ (t : Bool). if t then line ∷ filter (is_of_round round) trace else filter (is_of_round round) trace) other
    ∙ no_line round rounds trace past (All-tail (λ (line : TraceStep). line.round < rounds) line trace below)

-- a round that the bundle doesn't have has no steps
no_steps : (b : Bundle) (plan : Plan) (cpu zone round : ℕ) → IsValid b → b.rounds ≤ round → length (steps_of b plan cpu zone round) ≡ 0
no_steps b plan cpu zone round valid past =
    ap (λ (lines : List TraceStep). length (steps_among b plan zone lines))
    (no_line round b.rounds (trace_of b cpu) past (λ k d lt. (steps_within b valid cpu k d lt).round))

-- a zone's visits rise within the bundle's rounds
pub visits_rise : (b : Bundle) (plan : Plan) (made : Record) (zone : ℕ) → IsReportable b plan made → zone < length plan.zones → RiseWithin 0 b.rounds (slice_index_or made.visits zone [])
visits_rise b plan made zone h lt =
    let run = h.run.each zone lt in
    let visits = slice_index_or made.visits zone [] in
    rises b.rounds visits run.in_rounds (λ k d below.
    let v = slice_index_or visits k d in
    elim (nat_lt v.round b.rounds) as (λ t. nat_lt v.round b.rounds ≡ t → v.round < b.rounds) [
      | true ↦ λ e. grind arith
      | false ↦ λ e.
          let past : b.rounds ≤ v.round = grind arith in
          absurd (omega (arith, each_counts visits _ run.carries k d below, carried_there visits k d below, run.complete v.cpu v.round, no_steps b plan v.cpu zone v.round (planned_is_valid h.planned) past))
    ] refl)

pub visits_written : (b : Bundle) (plan : Plan) (made : Record) (zone : ℕ) (visits : List Visit) (s t : List ℕ) → IsReportable b plan made → zone < length plan.zones → visits ≡ slice_index_or made.visits zone [] →
    t ≡ s ++ visits_after zone None visits → t ≡ s ++ text_of_lines (zone_visits_lines b zone (slice_index_or made.visits zone []))
visits_written b plan made zone visits s t h lt is written =
    written ∙ ap (λ (visits : List Visit). s ++ visits_after zone None visits) is
    ∙ ap (λ l. s ++ l) (visits_same b zone (slice_index_or made.visits zone []) (visits_rise b plan made zone h lt))
