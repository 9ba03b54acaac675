use Rattle.std.proofs.Common.{◌+◌, ◌<◌, ℕ, List, length, All, subst, sym, ◌∙◌}
use Rattle.kz_model.specs.Types.Plan.{data_classes}
use Rattle.kz_plan.proofs.Plans.{types-same, rows-plan, zones-below}
use Rattle.kz_plan.proofs.planning.plan_of_deals.Goals as goal

pub rows-requires-clause-there : goal.rows-requires-clause-there
rows-requires-clause-there c =
    let layouts = c.args.layouts.now in
    let deals = c.args.deals.now in
    let types = types-same layouts deals c.args.general c.deref-2.result.now c.in_ok-of_type.of_type.items c.deref.result.now (data_classes layouts) c.deref-2.ensures.value c.in_ok-of_type.ensures
    (c.deref.ensures.value ∙ c.in_ok-data_classes.ensures) in
    subst (λ (classes : List ℕ). All (λ zone. zone < c.args.general + length classes) c.deref-2.result.now) (sym (c.deref-3.ensures.value ∙ c.in_ok-data_classes.ensures))
    (zones-below layouts deals c.args.general (data_classes layouts) c.deref-2.result.now c.requires.zones c.requires.there types)

pub returns : goal.returns
returns c =
    let layouts = c.args.layouts.now in
    let deals = c.args.deals.now in
    let classes = c.deref.ensures.value ∙ c.in_ok-data_classes.ensures in
    let items = c.in_ok-of_type.of_type.items in
    rows-plan c.args.seed layouts deals c.args.general c.from_vec.result c.deref-2.result.now c.from_vec-2.result c.deref-3.result.now (data_classes layouts) (c.from_vec.ensures ∙ c.in_ok-zones.ensures)
    (types-same layouts deals c.args.general c.deref-2.result.now items c.deref.result.now (data_classes layouts) c.deref-2.ensures.value c.in_ok-of_type.ensures classes)
    (types-same layouts deals c.args.general c.from_vec-2.result items c.deref.result.now (data_classes layouts) c.from_vec-2.ensures c.in_ok-of_type.ensures classes)
    (c.deref-3.ensures.value ∙ c.in_ok-data_classes.ensures)
