use Rattle.std.proofs.Common.{rules, refl}
use borrow.Author.Tests.{tests}
use Rattle.std.specs.List.{list_any}
use Rattle.std.proofs.lemmas.Iterator.Consumers.{count_from_yields_List, YieldsList-from_filter, YieldsList-at}
use Rattle.kz_model.specs.Types.Plan.{is_general}
use Rattle.kz_plan.proofs.Classes.{all_classes-from_range}
use Rattle.kz_plan.proofs.grouping.general_classes.Goals as goal

pub returns : goal.returns
returns c =
    count_from_yields_List c.filter-in_use.result c.count.result c.count.ensures.ran
    (YieldsList-from_filter _ (λ class. list_any (is_general class) c.args.layouts.now) (YieldsList-at c.filter-in_use.ensures.source (all_classes-from_range refl)) c.filter-in_use.ensures.closure (λ x r q k. search (rules, tests)))
