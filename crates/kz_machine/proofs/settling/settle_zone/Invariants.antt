use Rattle.std.proofs.Common.{List}
use Rattle.kz_model.specs.declared.bundle.Bundle.{Bundle}
use Rattle.kz_model.specs.declared.record.Plan.{Plan}
use Rattle.kz_model.specs.declared.supply.SupplyEntry.{SupplyEntry}
use Rattle.kz_laws.specs.Play.{ZonePlay}
use Rattle.kz_machine.specs.Settling.{AreSettledBelow}
use Rattle.kz_machine.proofs.settling.settle_zone.Given as goal

abbrev pub invariant-loop-cpu : goal.invariant-loop-cpu
invariant-loop-cpu l =
    (b : Bundle) (plan : Plan) (log : List SupplyEntry) (z : ZonePlay) → AreSettledBelow b plan log l.round l.zone z l.initial.cpus 0 l.initial.cpus l.initial.book →
    AreSettledBelow b plan log l.round l.zone z l.initial.cpus l.cpu-index l.cpus l.book
