use Rattle.kz_report.proofs.BasePages.{none_more}
use Rattle.kz_report.proofs.pages.Pages.none.Goals as goal

pub loop-preserved : goal.loop-preserved
loop-preserved c = none_more c.loop.of_zones.items c.push.new.self.items c.new.result c.loop.counter c.loop.invariant c.in_ok-push.ensures.items c.new.ensures.items
