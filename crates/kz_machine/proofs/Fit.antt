-- The rooms of a bundle's zones are fit.
use Rattle.std.proofs.Common.{◌≡◌, ◌<◌, ◌≤◌, ◌+◌, ◌*◌, ◌/◌, ◌^◌, ℕ, min, sum, None, length, All, slice_index_or, ap, sym, subst, arith}
use Rattle.std.proofs.Math.Nat.{div-le_self, min-le_left, min-le_right, mul-le-mul_left, mul-div-le}
use Rattle.std.proofs.lemmas.List.Elements.{All-get_or, All-from_get_or}
use Rattle.std.proofs.lemmas.List.FromFn.{get_or-map-range_with_len, length-map-range_with_len}
use Rattle.kz_model.specs.declared.bundle.Bundle.{Bundle}
use Rattle.kz_model.specs.declared.record.Plan.{Plan}
use Rattle.kz_model.specs.declared.record.Room.{Room}
use Rattle.kz_model.specs.declared.record.ZoneRow.{ZoneRow}
use Rattle.kz_model.specs.Run.Journal.{params_of}
use Rattle.kz_model.specs.Types.Planned.{IsFitRow, IsFitPlan}
use Rattle.kz_model.specs.Types.Planned.{HasElements}
use Rattle.kz_model.specs.Run.Rooms.{lines_on, steps_on}
use Rattle.kz_model.specs.Grammar.Valid.{IsValid}
use Rattle.kz_zone.specs.Room.{AreFitParams, IsFitRoom}
use Rattle.kz_machine.specs.Lookups.{no_room}
use Rattle.kz_machine.specs.Needs.{needed_of, needed_rooms, frames_in}
use Rattle.kz_model.proofs.Sums.{sum_below-one}
use Rattle.kz_machine.proofs.Lines.{all_lines, zone_steps, frames_are, sum_below-most}
use Rattle.kz_model.specs.Run.Rooms.{zone_lines, zone_allocations}

-- what a run needs of a zone's room, by its place
pub room_here : (b : Bundle) (plan : Plan) (zone : ℕ) (d : Room) → zone < length plan.zones → slice_index_or (needed_rooms b plan) zone d ≡ needed_of b plan zone
room_here b plan zone d lt = get_or-map-range_with_len (needed_of b plan) 0 (length plan.zones) zone zone d lt (omega arith)

pub rooms_long : (b : Bundle) (plan : Plan) → length (needed_rooms b plan) ≡ length plan.zones
rooms_long b plan = length-map-range_with_len (needed_of b plan) 0 (length plan.zones)

-- a CPU's steps on a zone, in the zone's room
pub steps_here : (b : Bundle) (plan : Plan) (zone cpu : ℕ) → cpu < b.cpus → slice_index_or (needed_of b plan zone).steps cpu 0 ≡ lines_on b plan zone cpu
steps_here b plan zone cpu lt = get_or-map-range_with_len (lines_on b plan zone) 0 b.cpus cpu cpu 0 lt (omega arith)

pub params_fit : (b : Bundle) (plan : Plan) (zone : ℕ) → IsValid b → IsFitPlan b plan → zone < length plan.zones → AreFitParams (params_of b plan zone)
params_fit b plan zone valid fit lt =
    let row = All-get_or IsFitRow plan.zones zone (record { bucket = None; submap = 0; shape = record { element = 0; count = 0; pages = 0 }; types = 0 }) lt fit.rows in
    let shape = row.shape in
    let few = fit.few in
    let some = valid.some_cpus in
    let cpus = valid.few_cpus in
    record {
      shape = record {
        least_element = shape.least_element;
        most_element = shape.most_element;
        some_count = shape.some_count;
        most_count = shape.most_count;
        some_pages = shape.some_pages;
        most_pages = shape.most_pages;
        within = shape.within;
      };
      zone = omega arith;
      some_cpus = omega arith;
      most_cpus = omega arith;
      some_magazine = valid.magazine.0;
      most_magazine = valid.magazine.1;
      depot = valid.depot;
      submap = row.submap;
    }

pub room_fit : (b : Bundle) (plan : Plan) (zone : ℕ) → IsValid b → IsFitPlan b plan → zone < length plan.zones → IsFitRoom (needed_of b plan zone)
room_fit b plan zone valid fit lt =
    let few = div-le_self b.pages (params_of b plan zone).pages in
    let rows = sum (steps_on b plan zone) in
    let less = min-le_left (min (b.pages / (params_of b plan zone).pages) (zone_allocations b plan zone)) (b.frames / (params_of b plan zone).pages + 1) in
    let least = min-le_left (b.pages / (params_of b plan zone).pages) (zone_allocations b plan zone) in
    let pages = valid.pages in
    let all = all_lines b plan (length plan.zones) valid in
    let one = sum_below-one (zone_lines b plan) (length plan.zones) zone lt in
    let steps = zone_steps b plan zone in
    record {
      params = params_fit b plan zone valid fit lt;
      chunks = omega arith;
      cpus = length-map-range_with_len (lines_on b plan zone) 0 b.cpus;
      steps = omega arith;
    }

pub rooms_fit : (b : Bundle) (plan : Plan) → IsValid b → IsFitPlan b plan → All IsFitRoom (needed_rooms b plan)
rooms_fit b plan valid fit =
    All-from_get_or IsFitRoom (needed_rooms b plan) no_room (λ zone within.
    let lt : zone < length plan.zones = subst (λ n. zone < n) (rooms_long b plan) within in
    subst IsFitRoom (sym (room_here b plan zone no_room lt)) (room_fit b plan zone valid fit lt))

pub rooms_cpus : (b : Bundle) (plan : Plan) → All (λ room. room.params.cpus ≡ b.cpus) (needed_rooms b plan)
rooms_cpus b plan =
    All-from_get_or (λ (room : Room). room.params.cpus ≡ b.cpus) (needed_rooms b plan) no_room (λ zone within.
    let lt : zone < length plan.zones = subst (λ n. zone < n) (rooms_long b plan) within in
    ap (λ (room : Room). room.params.cpus) (room_here b plan zone no_room lt))

pub has_elements : (b : Bundle) (plan : Plan) → IsFitPlan b plan → HasElements plan
has_elements b plan fit =
    All-from_get_or (λ (row : ZoneRow). 0 < row.shape.count) plan.zones no_row (λ zone lt. (All-get_or IsFitRow plan.zones zone no_row lt fit.rows).shape.some_count)
  where
    no_row : ZoneRow
    no_row = record { bucket = None; submap = 0; shape = record { element = 0; count = 0; pages = 0 }; types = 0 }

-- the frames of all chunks that are needed
pub frames_few : (b : Bundle) (plan : Plan) → IsValid b → IsFitPlan b plan → frames_in (needed_rooms b plan) < 2 ^ 32
frames_few b plan valid fit =
    let n = length plan.zones in
    let few = fit.few in
    let frames = valid.frames in
    let one : (zone : ℕ) → zone < n → (params_of b plan zone).pages * (needed_of b plan zone).chunks ≤ 8200 =
    λ zone lt.
    let pages = (params_of b plan zone).pages in
    let most = (params_fit b plan zone valid fit lt).shape.most_pages in
    let least = min-le_right (min (b.pages / pages) (zone_allocations b plan zone)) (b.frames / pages + 1) in
    let full = mul-le-mul_left pages least in
    let whole = mul-div-le b.frames pages in
    let split : pages * (b.frames / pages + 1) ≡ pages * (b.frames / pages) + pages = omega arith in
    omega arith in
    let sums = sum_below-most (λ zone. (params_of b plan zone).pages * (needed_of b plan zone).chunks) n 8200 one in
    omega (arith, frames_are b plan)
