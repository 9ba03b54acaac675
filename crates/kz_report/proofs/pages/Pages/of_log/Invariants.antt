use Rattle.std.proofs.Common.{◌≡◌, map, take}
use Rattle.std.specs.List.{range_with_len}
use Rattle.kz_model.specs.Run.Journal.{bases}
use Rattle.kz_report.proofs.pages.Pages.of_log.Given as goal

-- the pages that the entries so far give
abbrev pub invariant-loop-entry : goal.invariant-loop-entry
invariant-loop-entry l = l.pages ≡ map (λ zone. bases zone (take l.entry-index l.log)) (range_with_len 0 l.zones)
