-- What a record of a run holds beside its visits and its log.
use Rattle.std.specs.Prelude.{◌≡◌, ℕ, ◌<◌, Bool, List, [], length, map, slice_index_or}
use Rattle.std.specs.List.{flat_map, range_with_len}
use Rattle.kz_model.specs.declared.bundle.Bundle.{Bundle}
use Rattle.kz_model.specs.declared.step.Reply.{Reply}
use Rattle.kz_model.specs.declared.record.Plan.{Plan}
use Rattle.kz_model.specs.declared.record.Record.{Record}
use Rattle.kz_model.specs.declared.record.Visit.{Visit}
use Rattle.kz_model.specs.declared.supply.SupplyEntry.{SupplyEntry}
use Rattle.kz_model.specs.Text.Report.{Answered, answered_lines, zone_chunks}
use Rattle.kz_model.specs.Run.Order.{order_run}

-- a CPU's lines of all rounds, each with its reply
abbrev pub cpu_answered : Bundle → Plan → List (List Visit) → List SupplyEntry → ℕ → List Answered
cpu_answered b plan journals log cpu =
    flat_map (λ round. answered_lines b plan journals log cpu round) (range_with_len 0 b.rounds)

abbrev pub cpu_replies : Bundle → Plan → List (List Visit) → List SupplyEntry → ℕ → List Reply
cpu_replies b plan journals log cpu = map (λ line. line.reply) (cpu_answered b plan journals log cpu)

-- whether each chunk of a zone is mapped at the end
abbrev pub zone_mapped : Bundle → Plan → List (List Visit) → List SupplyEntry → ℕ → List Bool
zone_mapped b plan journals log zone = map (λ chunk. chunk.mapped) (zone_chunks b plan journals log zone)

-- The record's replies and its chunks' states are those that its visits and its log give.
pub record IsAnswered (b : Bundle) (plan : Plan) (made : Record) : Type 0 where
  pub cpus : length made.replies ≡ b.cpus
  pub replies : (cpu : ℕ) → cpu < b.cpus → slice_index_or made.replies cpu []
      ≡ cpu_replies b plan made.visits made.supply cpu
  pub zones : length made.mapped ≡ length plan.zones
  pub mapped : (zone : ℕ) → zone < length plan.zones → slice_index_or made.mapped zone []
      ≡ zone_mapped b plan made.visits made.supply zone

-- The record is that of the run of the bundle's order.
pub record IsOfOrder (b : Bundle) (plan : Plan) (made : Record) : Type 0 where
  pub visits : made.visits ≡ (order_run b plan).journals
  pub supply : made.supply ≡ (order_run b plan).log
  pub answered : IsAnswered b plan made
