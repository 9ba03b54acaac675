-- The report of a run.
use Rattle.std.specs.Prelude.{ℕ, zero, suc, ◌+◌, ◌-◌, ◌&&◌, ◌==◌, Bool, false, if◌then◌else◌, List, [], ◌∷◌, ◌++◌, length, take, drop, map, slice_index, slice_index_or, Option, None, Some, codes, decimal}
use Rattle.std.specs.List.{filter, flat_map, count_by, enumerate_from, range_with_len}
use Rattle.std.specs.Option.{option_map_or}
use Rattle.kz_model.specs.declared.bundle.Bundle.{Bundle}
use Rattle.kz_model.specs.declared.bundle.TypeDecl.{TypeDecl}
use Rattle.kz_model.specs.declared.bundle.TraceStep.{TraceStep}
use Rattle.kz_model.specs.declared.bundle.Act.{Act}
use Rattle.kz_model.specs.declared.bundle.Act.TheVariants as act
use Rattle.kz_model.specs.declared.step.Reply.{Reply}
use Rattle.kz_model.specs.declared.step.Reply.TheVariants as reply
use Rattle.kz_model.specs.declared.record.Plan.{Plan}
use Rattle.kz_model.specs.declared.record.Layout.{Layout}
use Rattle.kz_model.specs.declared.record.ZoneRow.{ZoneRow}
use Rattle.kz_model.specs.declared.record.Visit.{Visit}
use Rattle.kz_model.specs.declared.supply.SupplyEntry.{SupplyEntry}
use Rattle.kz_model.specs.Run.Supply.{address}
use Rattle.kz_model.specs.Zone.State.{Chunk}
use Rattle.kz_model.specs.Run.Journal.{params_of, zone_row, zone_of_type, type_of_name, addressed, lines_of_round, steps_among, alone_at, bases}
use Rattle.kz_model.specs.Run.Order.{order_run}
use Rattle.kz_model.specs.Grammar.Valid.{layouts_in, plan_in}
use Rattle.kz_model.specs.Text.Lines.{hex, reply_line, ask_line, visits_line, text_of_lines}

-- ---- what a run gives

-- the replies to a zone's steps
abbrev pub zone_replies : Bundle → Plan → List (List Visit) → List SupplyEntry → ℕ → List Reply
zone_replies b plan journals log zone = option_map_or (λ c. c.replies) (alone_at b plan journals log zone) []

-- the zone's chunks at the end
abbrev pub zone_chunks : Bundle → Plan → List (List Visit) → List SupplyEntry → ℕ → List Chunk
zone_chunks b plan journals log zone = option_map_or (λ c. c.end.shared.chunks) (alone_at b plan journals log zone) []

-- of the replies to the steps that these visits carry, those to a CPU's steps of a round
abbrev pub replies_carried : ℕ → ℕ → List Visit → List Reply → List Reply
replies_carried cpu round [] replies = []
replies_carried cpu round (v ∷ visits) replies =
    (if (v.cpu == cpu) && (v.round == round) then take v.count replies else [])
    ++ replies_carried cpu round visits (drop v.count replies)

-- the first page of the chunk that a reply's block is in
abbrev pub base_of : List ℕ → Reply → ℕ
base_of pages (reply.Block block) = slice_index pages block.chunk
base_of pages reply = 0

-- a step line with the reply to it, and the zone that it is addressed to
pub record Answered : Type 0 where
  pub act : Act
  pub zone : ℕ
  pub reply : Reply

-- these lines of a CPU's round, after the earlier ones, each with the reply at its place
abbrev pub answered_after : Bundle → Plan → List (List Visit) → List SupplyEntry → ℕ → ℕ → List TraceStep →
    List TraceStep → List Answered
answered_after b plan journals log cpu round earlier [] = []
answered_after b plan journals log cpu round earlier (line ∷ lines) =
    let zone = (addressed b plan line.act).0 in
    let replies = replies_carried cpu round (slice_index_or journals zone []) (zone_replies b plan journals log zone) in
    record {
      act = line.act;
      zone = zone;
      reply =
          slice_index_or replies (length (steps_among b plan zone earlier)) reply.Done;
    }
    ∷ answered_after b plan journals log cpu round (earlier ++ line ∷ []) lines

-- a CPU's lines of a round, each with its reply
abbrev pub answered_lines : Bundle → Plan → List (List Visit) → List SupplyEntry → ℕ → ℕ → List Answered
answered_lines b plan journals log cpu round =
    answered_after b plan journals log cpu round [] (lines_of_round b cpu round)

-- all lines of all CPUs
abbrev pub all_answered_lines : Bundle → Plan → List (List Visit) → List SupplyEntry → List Answered
all_answered_lines b plan journals log =
    flat_map (λ cpu. flat_map (λ round. answered_lines b plan journals log cpu round) (range_with_len 0 b.rounds))
    (range_with_len 0 b.cpus)

-- ---- the lines

abbrev pub type_line : TypeDecl → Layout → ℕ → ℕ → List ℕ
type_line decl layout class zone =
    codes "type " ++ decl.name ++ codes " size " ++ decimal layout.size ++ codes " align " ++ decimal layout.align
    ++ codes " letters " ++ layout.letters ++ codes " class " ++ decimal class ++ codes " zone " ++ decimal zone

abbrev pub submap_name : ℕ → List ℕ
submap_name submap = if submap == 4 then codes "D" else codes "G" ++ decimal submap

abbrev pub zone_name : ZoneRow → List ℕ
zone_name row = option_map_or (λ bucket. codes "kt." ++ decimal row.shape.element ++ codes "." ++ decimal bucket) row.bucket (codes "data." ++ decimal row.shape.element)

abbrev pub zone_line : ℕ → ZoneRow → List ℕ
zone_line zone row =
    codes "zone " ++ decimal zone ++ codes " " ++ zone_name row ++ codes " element " ++ decimal row.shape.element ++ codes " count " ++ decimal row.shape.count
    ++ codes " pages " ++ decimal row.shape.pages ++ codes " submap " ++ submap_name row.submap ++ codes " types " ++ decimal row.types

abbrev pub no_type : TypeDecl
no_type = record { name = []; fields = [] }

abbrev pub no_layout : Layout
no_layout = record { size = 0; align = 0; letters = [] }

-- the type lines and the zone lines
abbrev pub plan_lines : Bundle → Plan → List Layout → List (List ℕ)
plan_lines b plan layouts =
    map (λ of. let zone = zone_of_type plan of in
    type_line (slice_index_or b.types of no_type) (slice_index_or layouts of no_layout)
    (zone_row plan zone).shape.element zone) (range_with_len 0 (length b.types))
    ++ map (λ row. zone_line row.0 row.1) (enumerate_from 0 plan.zones)

-- the lines of a CPU's round
abbrev pub round_lines : Bundle → Plan → List SupplyEntry → List Answered → List (List ℕ)
round_lines b plan log lines =
    map (λ line. reply_line (params_of b plan line.zone) (base_of (bases line.zone log) line.reply) line.reply) lines

-- the rounds of a CPU from this one on, with a line `--` between two
abbrev pub rounds_lines : Bundle → Plan → List (List Visit) → List SupplyEntry → ℕ → ℕ → ℕ → List (List ℕ)
rounds_lines b plan journals log cpu round zero = []
rounds_lines b plan journals log cpu round (suc more) =
    round_lines b plan log (answered_lines b plan journals log cpu round)
    ++ (if more == 0 then [] else codes "--" ∷ rounds_lines b plan journals log cpu (round + 1) more)

abbrev pub cpu_lines : Bundle → Plan → List (List Visit) → List SupplyEntry → ℕ → List (List ℕ)
cpu_lines b plan journals log cpu =
    (codes "cpu " ++ decimal cpu) ∷ rounds_lines b plan journals log cpu 0 b.rounds

-- the type of the block that a line was given: it allocates, and was answered by a block
abbrev pub type_given : Bundle → Act → Reply → Option ℕ
type_given b (act.Alloc name of) (reply.Block block) = Some (type_of_name b name)
type_given b (act.AllocZero name of) (reply.Block block) = Some (type_of_name b name)
type_given b act reply = None

-- the type of the block that a line freed: it frees, and was done
abbrev pub type_freed : Bundle → Act → Reply → Option ℕ
type_freed b (act.Free name asked) reply.Done = Some (type_of_name b name)
type_freed b act reply = None

-- the line was given a block of this type
abbrev pub is_alloc_of : Bundle → ℕ → Answered → Bool
is_alloc_of b of line = option_map_or (λ given. given == of) (type_given b line.act line.reply) false

-- the line freed a block of this type
abbrev pub is_free_of : Bundle → ℕ → Answered → Bool
is_free_of b of line = option_map_or (λ free_effect. free_effect == of) (type_freed b line.act line.reply) false

abbrev pub use_line : Bundle → List Answered → ℕ → List ℕ
use_line b lines of =
    let allocs = count_by (is_alloc_of b of) lines in
    let frees = count_by (is_free_of b of) lines in
    codes "use " ++ (slice_index_or b.types of no_type).name ++ codes " allocs " ++ decimal allocs ++ codes " frees " ++ decimal frees ++ codes " live " ++ decimal (allocs - frees)

abbrev pub chunk_line : Bundle → Plan → List SupplyEntry → ℕ → ℕ × Chunk → List ℕ
chunk_line b plan log zone chunk =
    let p = params_of b plan zone in
    codes "chunk " ++ decimal zone ++ codes " " ++ decimal chunk.0 ++ codes " "
    ++ hex (address p.submap (slice_index (bases zone log) chunk.0) p.element (record { chunk = chunk.0; index = 0 }))
    ++ (if chunk.1.mapped then codes " mapped" else codes " unmapped")

-- a zone's visits of each round in which it has one
abbrev pub zone_visits_lines : Bundle → ℕ → List Visit → List (List ℕ)
zone_visits_lines b zone visits =
    flat_map (λ round. let there = filter (λ v. v.round == round) visits in if length there == 0 then []
    else visits_line zone round there ∷ []) (range_with_len 0 b.rounds)

abbrev pub report_lines : Bundle → Plan → List Layout → List (List Visit) → List SupplyEntry → List (List ℕ)
report_lines b plan layouts journals log =
    let zones = range_with_len 0 (length plan.zones) in
    codes "report 1" ∷ (plan_lines b plan layouts
    ++ flat_map (cpu_lines b plan journals log) (range_with_len 0 b.cpus)
    ++ map (use_line b (all_answered_lines b plan journals log)) (range_with_len 0 (length b.types))
    ++ flat_map (λ zone. map (chunk_line b plan log zone) (enumerate_from 0 (zone_chunks b plan journals log zone)))
    zones
    ++ flat_map (λ zone. zone_visits_lines b zone (slice_index_or journals zone [])) zones
    ++ map ask_line log
    ++ codes "end" ∷ [])

-- the text of the report of a run
abbrev pub report_text : Bundle → Plan → List Layout → List (List Visit) → List SupplyEntry → List ℕ
report_text b plan layouts journals log = text_of_lines (report_lines b plan layouts journals log)

-- the text of a plan
abbrev pub plan_text : Bundle → Plan → List Layout → List ℕ
plan_text b plan layouts = text_of_lines (codes "plan 1" ∷ plan_lines b plan layouts ++ codes "end" ∷ [])

-- ---- the texts of a bundle

-- the text of its plan
abbrev pub planned_text : Bundle → List ℕ
planned_text b = plan_text b (plan_in b) (layouts_in b)

-- the text of the report of the run of its order
abbrev pub replayed_text : Bundle → List ℕ
replayed_text b = let run = order_run b (plan_in b) in report_text b (plan_in b) (layouts_in b) run.journals run.log
