use Rattle.std.proofs.Common.{◌≡◌}
use Rattle.kz_model.specs.declared.bundle.Bundle.{Bundle}
use Rattle.kz_model.specs.declared.record.Plan.{Plan}
use Rattle.kz_laws.specs.Play.{Play}
use Rattle.kz_laws.specs.PlayedAt.{IsPlaySound}
use Rattle.kz_machine.specs.Settling.{AreSettled}
use Rattle.kz_machine.proofs.settling.settle.Given as goal

abbrev pub invariant-loop-zone : goal.invariant-loop-zone
invariant-loop-zone l =
    (b : Bundle) (plan : Plan) (s : Play) → s.round ≡ l.round → IsPlaySound b plan s → AreSettled b plan s 0 l.initial.cpus l.initial.books → AreSettled b plan s l.zone l.cpus l.books
