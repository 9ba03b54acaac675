-- A report names its run.
use Rattle.std.specs.Prelude.{◌≡◌, List}
use Rattle.kz_model.specs.declared.bundle.Bundle.{Bundle}
use Rattle.kz_model.specs.declared.record.Plan.{Plan}
use Rattle.kz_model.specs.declared.record.Visit.{Visit}
use Rattle.kz_model.specs.declared.supply.SupplyEntry.{SupplyEntry}
use Rattle.kz_model.specs.Text.Report.{report_text}
use Rattle.kz_model.specs.Run.Runs.{IsRun}
use Rattle.kz_model.specs.Grammar.Valid.{IsValid, layouts_in, plan_in}

-- Runs of a valid bundle with the same report are one run: the same visits in each zone, and the same log.
abbrev pub ReportNamesItsRun : Type 0
ReportNamesItsRun =
    (b : Bundle) (plan : Plan) (journals others : List (List Visit)) (log another : List SupplyEntry) →
    IsValid b → plan ≡ plan_in b → IsRun b plan journals log → IsRun b plan others another →
    report_text b plan (layouts_in b) journals log ≡ report_text b plan (layouts_in b) others another →
    (journals ≡ others) × (log ≡ another)
