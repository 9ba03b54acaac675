use Rattle.std.proofs.Common.{◌==◌, rules}
use borrow.Author.Tests.{tests}
use Rattle.std.proofs.lemmas.Iterator.{YieldsList-from_slice}
use Rattle.std.proofs.lemmas.Iterator.Search.{find_from_yields_List}
use Rattle.kz_plan.proofs.zones.deal_of.Goals as goal

pub returns : goal.returns
returns c =
    find_from_yields_List (λ deal. deal.class == c.args.class) _ _ _ c.find.ensures.ran (YieldsList-from_slice c.args.deals.now cc) (λ x b q k. search (rules, tests))
