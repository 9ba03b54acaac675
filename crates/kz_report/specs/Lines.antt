-- The lines of a text, each from what the code has at hand.
use Rattle.std.specs.Prelude.{◌≡◌, ℕ, zero, suc, ◌+◌, ◌==◌, Bool, if◌then◌else◌, List, [], ◌∷◌, ◌++◌, length, take, drop, map, slice_index, slice_index_or, slice_set, Option, None, Some, codes, decimal, All}
use Rattle.std.specs.Option.{option_map_or}
use Rattle.std.specs.Str.{IsAscii}
use Rattle.kz_model.specs.declared.bundle.Bundle.{Bundle}
use Rattle.kz_model.specs.declared.bundle.Seed.TheVariants.{Plain}
use Rattle.kz_model.specs.declared.bundle.TraceStep.{TraceStep}
use Rattle.kz_model.specs.declared.record.Layout.{Layout}
use Rattle.kz_model.specs.declared.record.Plan.{Plan}
use Rattle.kz_model.specs.declared.record.Record.{Record}
use Rattle.kz_model.specs.declared.record.Visit.{Visit}
use Rattle.kz_model.specs.declared.record.ZoneParams.{ZoneParams}
use Rattle.kz_model.specs.declared.record.ZoneRow.{ZoneRow}
use Rattle.kz_model.specs.declared.step.Reply.{Reply}
use Rattle.kz_model.specs.declared.supply.SupplyEntry.{SupplyEntry}
use Rattle.kz_model.specs.Run.Supply.{address}
use Rattle.kz_model.specs.Text.Lines.{hex, reply_line, visit_text}
use Rattle.kz_model.specs.Run.Journal.{zone_row, zone_of_type, addressed}
use Rattle.kz_model.specs.Types.Planned.{IsPlanned, IsFitPlan}
use Rattle.kz_model.specs.Run.Recorded.{IsAnswered}
use Rattle.kz_model.specs.Text.Report.{Answered, type_line, zone_line, base_of, no_type, no_layout}
use Rattle.kz_model.specs.Run.Journal.{page_of}
use Rattle.kz_model.specs.Run.Runs.{IsRun}

-- ---- a plan

-- the line of this type
abbrev pub type_line_of : Bundle → Plan → List Layout → ℕ → List ℕ
type_line_of b plan layouts of =
    let zone = zone_of_type plan of in
    type_line (slice_index_or b.types of no_type) (slice_index_or layouts of no_layout)
    (zone_row plan zone).shape.element zone

abbrev pub numbered_zone_line : ℕ × ZoneRow → List ℕ
numbered_zone_line numbered = zone_line numbered.0 numbered.1

-- each type has a layout and a zone, and the names and the letters are text
pub record AreText (b : Bundle) (plan : Plan) (layouts : List Layout) : Type 0 where
  pub laid_out : length layouts ≡ length b.types
  pub zoned : length plan.of_type ≡ length b.types
  pub names : All (λ decl. IsAscii decl.name) b.types
  pub letters : All (λ layout. IsAscii layout.letters) layouts

-- ---- a report

-- A record that a report is made of: that of a run of the bundle, whose plan is fit.
pub record IsReportable (b : Bundle) (plan : Plan) (made : Record) : Type 0 where
  pub planned : IsPlanned b plan
  pub run : IsRun b plan made.visits made.supply
  pub answered : IsAnswered b plan made
  pub fit : IsFitPlan b plan

-- ---- the replies

-- what the line of a reply has of a zone
abbrev pub params_with : ZoneRow → ZoneParams
params_with row = record {
  zone = 0;
  element = row.shape.element;
  count = row.shape.count;
  pages =
      row.shape.pages;
  cpus = 0;
  magazine = 0;
  depot = 0;
  seed = Plain;
  submap = row.submap;
}

-- these lines, each with the reply to it
abbrev pub said : Bundle → Plan → List TraceStep → List Reply → List Answered
said b plan [] replies = []
said b plan (line ∷ lines) [] = []
said b plan (line ∷ lines) (reply ∷ replies) =
    record { act = line.act; zone = (addressed b plan line.act).0; reply = reply } ∷ said b plan lines replies

-- the line of a reply, with the first page of each chunk by zone
abbrev pub answered_line : Plan → List (List ℕ) → Answered → List ℕ
answered_line plan pages line =
    reply_line (params_with (zone_row plan line.zone)) (base_of (slice_index_or pages line.zone []) line.reply)
    line.reply

-- the first page of each chunk by zone, after one entry more of the supply's log
abbrev pub with_entry : List (List ℕ) → SupplyEntry → List (List ℕ)
with_entry pages entry = option_map_or
    (λ page. slice_set pages entry.zone (slice_index_or pages entry.zone [] ++ page ∷ [])) (page_of entry.answer) pages

-- how many lines in front are of this round
abbrev pub count_in_front : ℕ → List TraceStep → ℕ
count_in_front round [] = 0
count_in_front round (line ∷ lines) = if line.round == round then suc (count_in_front round lines) else 0

-- the line between two rounds
abbrev pub break_lines : Bool → List (List ℕ)
break_lines more = if more then codes "--" ∷ [] else []

-- the rounds of a CPU from this one on, of the lines and the replies that are left, with a line `--` between two
abbrev pub rounds_left : Bundle → Plan → List (List ℕ) → ℕ → ℕ → List TraceStep → List Reply → List (List ℕ)
rounds_left b plan pages round zero lines replies = []
rounds_left b plan pages round (suc more) lines replies =
    let count = count_in_front round lines in
    map (answered_line plan pages) (said b plan (take count lines) replies)
    ++ (if more == 0 then [] else codes "--" ∷ rounds_left b plan pages (round + 1) more (drop count lines) (drop count replies))

-- ---- a zone's chunks

abbrev pub mapped_line : ℕ → ZoneRow → List ℕ → ℕ × Bool → List ℕ
mapped_line zone row pages chunk =
    codes "chunk " ++ decimal zone ++ codes " " ++ decimal chunk.0 ++ codes " "
    ++ hex (address row.submap (slice_index pages chunk.0) row.shape.element (record { chunk = chunk.0; index = 0 }))
    ++ (if chunk.1 then codes " mapped" else codes " unmapped")

-- ---- a zone's visits

abbrev pub visits_begin : ℕ → ℕ → List ℕ
visits_begin zone round = codes "visits " ++ decimal zone ++ codes " " ++ decimal round

-- what stands before a visit of this round, after one of the begun line's round
abbrev pub before_visit : ℕ → Option ℕ → ℕ → List ℕ
before_visit zone None round = visits_begin zone round
before_visit zone (Some begun) round = if begun == round then [] else codes "\n" ++ visits_begin zone round

-- the end of a line that is open
abbrev pub end_of_open : Option ℕ → List ℕ
end_of_open None = []
end_of_open (Some begun) = codes "\n"

-- these visits, after a line of this round that is open, and the end of the last line
abbrev pub visits_after : ℕ → Option ℕ → List Visit → List ℕ
visits_after zone begun [] = end_of_open begun
visits_after zone begun (v ∷ visits) = before_visit zone begun v.round
    ++ (visit_text v ++ visits_after zone (Some v.round) visits)
