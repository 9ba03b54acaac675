use Rattle.std.proofs.Common.{◌≡◌, [], map}
use Rattle.std.specs.List.{range_with_len}
use Rattle.kz_model.specs.Run.Journal.{bases}
use Rattle.kz_report.proofs.pages.Pages.none.Given as goal

-- the zones so far have no pages
abbrev pub invariant-loop : goal.invariant-loop
invariant-loop l = map (λ pages. pages.items) l.of_zones.items ≡ map (λ zone. bases zone []) (range_with_len 0 l.counter)
