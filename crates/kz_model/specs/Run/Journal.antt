-- The visits of CPUs to a zone, and when they and the supply's log are a run of a bundle.
use Rattle.std.specs.Prelude.{ℕ, ◌+◌, ◌&&◌, nat_le, ◌==◌, if◌then◌else◌, List, [], ◌∷◌, ◌++◌, length, take, drop, map, slice_index, slice_index_or, Option, None, Some}
use Rattle.std.specs.List.{filter, filter_map}
use Rattle.std.specs.Option.{option_map_or}
use Rattle.kz_model.specs.declared.bundle.Bundle.{Bundle}
use Rattle.kz_model.specs.declared.bundle.TraceStep.{TraceStep}
use Rattle.kz_model.specs.declared.bundle.Act.{Act}
use Rattle.kz_model.specs.declared.bundle.Act.TheVariants as act
use Rattle.kz_model.specs.declared.step.Step.{Step}
use Rattle.kz_model.specs.declared.step.Step.TheVariants.{Alloc, AllocZero, Free, Give, Take, Read, Write, Flush, Trim}
use Rattle.kz_model.specs.declared.record.Plan.{Plan}
use Rattle.kz_model.specs.declared.record.ZoneRow.{ZoneRow}
use Rattle.kz_model.specs.declared.record.ZoneParams.{ZoneParams}
use Rattle.kz_model.specs.declared.record.Visit.{Visit}
use Rattle.kz_model.specs.declared.supply.SupplyEntry.{SupplyEntry}
use Rattle.kz_model.specs.declared.supply.Ask.{Ask}
use Rattle.kz_model.specs.declared.supply.Answer.{Answer}
use Rattle.kz_model.specs.declared.supply.Answer.TheVariants.{Base}
use Rattle.kz_model.specs.Zone.Alone.{Course, alone}

-- ---- the zones of a plan, and the steps that are addressed to each

abbrev pub zone_row : Plan → ℕ → ZoneRow
zone_row plan zone =
    slice_index_or plan.zones zone
    (record { bucket = None; submap = 0; shape = record { element = 0; count = 0; pages = 0 }; types = 0 })

-- the parameters of a zone
abbrev pub params_of : Bundle → Plan → ℕ → ZoneParams
params_of b plan zone =
    let row = zone_row plan zone in
    record {
      zone = zone;
      element = row.shape.element;
      count = row.shape.count;
      pages = row.shape.pages;
      cpus = b.cpus;
      magazine = b.magazine;
      depot = b.depot;
      seed = b.seed;
      submap = row.submap;
    }

-- the zone of a type
abbrev pub zone_of_type : Plan → ℕ → ℕ
zone_of_type plan of = slice_index plan.of_type of

-- the type of a name
abbrev pub type_of_name : Bundle → ℕ → ℕ
type_of_name b name = (slice_index_or b.names name (record { name = []; of = 0 })).of

abbrev pub zone_of_name : Bundle → Plan → ℕ → ℕ
zone_of_name b plan name = zone_of_type plan (type_of_name b name)

-- the zone that a line is addressed to, and its step there
abbrev pub addressed : Bundle → Plan → Act → ℕ × Step
addressed b plan (act.Alloc name of) = (zone_of_name b plan name, Alloc name)
addressed b plan (act.AllocZero name of) = (zone_of_name b plan name, AllocZero name)
addressed b plan (act.Free name None) = (zone_of_name b plan name, Free name None)
addressed b plan (act.Free name (Some of)) = (zone_of_name b plan name, Free name (Some (zone_of_type plan of)))
addressed b plan (act.Give name to) = (zone_of_name b plan name, Give name to)
addressed b plan (act.Take name) = (zone_of_name b plan name, Take name)
addressed b plan (act.Read name off len) = (zone_of_name b plan name, Read name off len)
addressed b plan (act.Write name off bytes) = (zone_of_name b plan name, Write name off bytes)
addressed b plan (act.Flush of) = (zone_of_type plan of, Flush)
addressed b plan (act.Trim of) = (zone_of_type plan of, Trim)

-- no step line: what stands where there is none
abbrev pub no_step : TraceStep
no_step = record { line = 0; round = 0; act = act.Flush 0 }

-- the step lines of a CPU
abbrev pub trace_of : Bundle → ℕ → List TraceStep
trace_of b cpu = slice_index_or b.traces cpu []

-- those of one round
abbrev pub lines_of_round : Bundle → ℕ → ℕ → List TraceStep
lines_of_round b cpu round = filter (λ line. line.round == round) (trace_of b cpu)

-- the steps of these lines that are addressed to the zone
abbrev pub steps_among : Bundle → Plan → ℕ → List TraceStep → List Step
steps_among b plan zone [] = []
steps_among b plan zone (line ∷ lines) =
    let there = addressed b plan line.act in
    if there.0 == zone then there.1 ∷ steps_among b plan zone lines else steps_among b plan zone lines

-- a CPU's steps of a round that are addressed to the zone, in the order of the text
abbrev pub steps_of : Bundle → Plan → ℕ → ℕ → ℕ → List Step
steps_of b plan cpu zone round = steps_among b plan zone (lines_of_round b cpu round)

-- ---- the journal of a zone

-- how many steps these visits carry of a CPU and round
abbrev pub carried : ℕ → ℕ → List Visit → ℕ
carried cpu round [] = 0
carried cpu round (v ∷ visits) =
    (if (v.cpu == cpu) && (v.round == round) then v.count else 0) + carried cpu round visits

-- how many steps of a CPU these visits carry in all rounds
abbrev pub carried_of : ℕ → List Visit → ℕ
carried_of cpu [] = 0
carried_of cpu (v ∷ visits) = (if v.cpu == cpu then v.count else 0) + carried_of cpu visits

-- the steps that a visit carries, after these visits; nothing where there are not so many
abbrev pub steps_carried : Bundle → Plan → ℕ → List Visit → Visit → Option (List (ℕ × Step))
steps_carried b plan zone earlier v =
    let steps = steps_of b plan v.cpu zone v.round in
    let from = carried v.cpu v.round earlier in
    if nat_le (from + v.count) (length steps)
    then Some (map (λ step. (v.cpu, step)) (take v.count (drop from steps)))
    else None

-- the steps of visits, after these earlier ones
abbrev pub spell_after : Bundle → Plan → ℕ → List Visit → List Visit → Option (List (ℕ × Step))
spell_after b plan zone earlier [] = Some []
spell_after b plan zone earlier (v ∷ visits) =
    option_map_or (λ here.
    option_map_or (λ rest. Some (here ++ rest)) (spell_after b plan zone (earlier ++ v ∷ []) visits) None)
    (steps_carried b plan zone earlier v) None

-- the zone's list of steps: its visits in order, each spelled out
abbrev pub spell : Bundle → Plan → List (List Visit) → ℕ → Option (List (ℕ × Step))
spell b plan journals zone = spell_after b plan zone [] (slice_index_or journals zone [])

-- ---- the supply's log

-- the entries of a zone
abbrev pub log_at : ℕ → List SupplyEntry → List SupplyEntry
log_at zone log = filter (λ entry. entry.zone == zone) log

abbrev pub asks_at : ℕ → List SupplyEntry → List Ask
asks_at zone log = map (λ entry. entry.ask) (log_at zone log)

abbrev pub answers_at : ℕ → List SupplyEntry → List Answer
answers_at zone log = map (λ entry. entry.answer) (log_at zone log)

-- the page that an answer grants for a new chunk
abbrev pub page_of : Answer → Option ℕ
page_of (Base page) = Some page
page_of answer = None

-- the first page of each chunk of a zone
abbrev pub bases : ℕ → List SupplyEntry → List ℕ
bases zone log = filter_map page_of (answers_at zone log)

-- the zone alone over its journal, with the supply's answers to it
abbrev pub alone_at : Bundle → Plan → List (List Visit) → List SupplyEntry → ℕ → Option Course
alone_at b plan journals log zone =
    option_map_or (λ steps. alone (params_of b plan zone) steps (answers_at zone log)) (spell b plan journals zone) None
