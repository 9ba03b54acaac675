use Rattle.kz_laws.proofs.ReportOfRun.{report_names_its_run}
use Rattle.kz_laws.proofs.laws.a_report_names_its_run.Goals as goal

pub returns : goal.returns
returns c = report_names_its_run
