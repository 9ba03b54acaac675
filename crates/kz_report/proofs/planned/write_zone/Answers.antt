use Rattle.std.proofs.Common.{List, ℕ, ◌++◌, ap, ◌∙◌}
use Rattle.std.specs.String.{string_bytes}
use Rattle.kz_report.proofs.Results.{if_ok}
use Rattle.kz_report.proofs.PlanText.{zone_text}
use Rattle.kz_report.proofs.planned.write_zone.Goals as goal

pub returns : goal.returns
returns c = if_ok c.write.result _ _ (λ x e. e ∙ ap (λ (text : List ℕ). string_bytes c.args.out.now ++ text) (zone_text c.args.zone c.args.row)) c.write.ensures.bytes
