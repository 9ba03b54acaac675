use Rattle.std.proofs.Common.{rules, refl}
use borrow.Author.Tests.{tests}
use Rattle.std.specs.List.{list_any}
use Rattle.std.proofs.lemmas.Iterator.{items_from_collect}
use Rattle.std.proofs.lemmas.Iterator.Consumers.{YieldsList-from_filter, YieldsList-at}
use Rattle.kz_model.specs.Types.Plan.{is_data}
use Rattle.kz_plan.proofs.Classes.{all_classes-from_range}
use Rattle.kz_plan.proofs.grouping.data_classes.Goals as goal

pub returns : goal.returns
returns c =
    items_from_collect c.collect.result c.collect.ensures.ran
    (YieldsList-from_filter _ (λ class. list_any (is_data class) c.args.layouts.now) (YieldsList-at c.filter.ensures.source (all_classes-from_range refl)) c.filter.ensures.closure (λ x r q k. search (rules, tests)))
