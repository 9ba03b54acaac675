use Rattle.kz_laws.proofs.StayRuns.{stays_run}
use Rattle.kz_laws.proofs.stays.stays_make_runs.Goals as goal

pub returns : goal.returns
returns c = stays_run
