use Rattle.kz_laws.proofs.OrderIsRun.{order_is_run}
use Rattle.kz_laws.proofs.laws.orders_make_runs.Goals as goal

pub returns : goal.returns
returns c = order_is_run
