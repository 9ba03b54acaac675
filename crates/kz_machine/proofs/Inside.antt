-- What holds of a machine holds of its fields.
use Rattle.std.proofs.Common.{◌≡◌, sym, subst}
use Rattle.kz_model.specs.declared.bundle.Bundle.{Bundle}
use Rattle.kz_model.specs.declared.record.Plan.{Plan}
use Rattle.kz_laws.specs.Play.{Play}
use Rattle.kz_machine.specs.declared.machine.Machine.TheInside.{Inside}
use Rattle.kz_machine.specs.declared.machine.Machine.TheView.{view}
use Rattle.kz_machine.specs.Machine.{Machine}
use Rattle.kz_machine.specs.Stands.{StandsForPlay}

pub inside_at : (i : Inside) (m : Machine) (b : Bundle) (plan : Plan) (s : Play) → view i ≡ m → StandsForPlay b plan m s → StandsForPlay b plan (view i) s
inside_at i m b plan s is at = subst (λ (m : Machine). StandsForPlay b plan m s) (sym is) at
