use Rattle.std.proofs.Common.{List, ℕ, ap, ◌∙◌, arith}
use Rattle.kz_report.specs.Lines.{with_entry}
use Rattle.kz_report.proofs.BasePages.{pushed_at}
use Rattle.kz_report.proofs.pages.Pages.add.Goals as goal

pub returns-in_ok-push : goal.returns-in_ok-push
returns-in_ok-push c =
    pushed_at c.self.inside.of_zones.items c.args.entry c.in-Base.page c.index_mut.result.now c.push.new.self (omega (arith, c.if-zone-len.true, c.len.ensures, c.self.inside.of_zones.ok.0)) c.in-Base.is c.index_mut.ensures.value c.in_ok-push.ensures.items
    ∙ ap (λ (pages : List (List ℕ)). with_entry pages c.args.entry) c.self.view_is
