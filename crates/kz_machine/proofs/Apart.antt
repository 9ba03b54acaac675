-- A record of the run of a bundle's order is that of a run, and keeps its zones apart.
use Rattle.std.proofs.Common.{List, subst, sym}
use Rattle.kz_model.specs.declared.bundle.Bundle.{Bundle}
use Rattle.kz_model.specs.declared.record.Plan.{Plan}
use Rattle.kz_model.specs.declared.record.Record.{Record}
use Rattle.kz_model.specs.declared.record.Visit.{Visit}
use Rattle.kz_model.specs.declared.supply.SupplyEntry.{SupplyEntry}
use Rattle.kz_laws.specs.Isolation.{IsIsolated}
use Rattle.kz_model.specs.Run.Order.{order_run}
use Rattle.kz_model.specs.Types.Planned.{IsPlanned}
use Rattle.kz_model.specs.Run.Recorded.{IsOfOrder}
use Rattle.kz_model.specs.Run.Runs.{IsRun}
use Rattle.kz_laws.proofs.Isolated.{runs_are_isolated}
use Rattle.kz_laws.proofs.OrderIsRun.{order_is_run}
use Rattle.kz_bundle.proofs.Zoned.{planned_is_fit, planned_is_valid}

-- the run of the order is a run
pub run_of_order : (b : Bundle) (plan : Plan) → IsPlanned b plan → let run = order_run b plan in IsRun b plan run.journals run.log
run_of_order b plan h = order_is_run b plan (planned_is_valid h) (planned_is_fit h).zones

-- so is what a record of it has
pub record_is_run : (b : Bundle) (plan : Plan) (made : Record) → IsPlanned b plan → IsOfOrder b plan made → IsRun b plan made.visits made.supply
record_is_run b plan made h of_order =
    subst (λ (journals : List (List Visit)). IsRun b plan journals made.supply) (sym of_order.visits)
    (subst (λ (log : List SupplyEntry). IsRun b plan (order_run b plan).journals log) (sym of_order.supply) (run_of_order b plan h))

pub record_is_isolated : (b : Bundle) (plan : Plan) (made : Record) → IsPlanned b plan → IsOfOrder b plan made → IsIsolated b plan made.visits made.supply
record_is_isolated b plan made h of_order =
    runs_are_isolated b plan made.visits made.supply (planned_is_valid h) (planned_is_fit h).rows (record_is_run b plan made h of_order)
