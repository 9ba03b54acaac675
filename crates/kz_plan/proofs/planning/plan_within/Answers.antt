use Rattle.std.proofs.Common.{List, length, sum, refl, ap, subst, sym, ◌∙◌, arith}
use Rattle.kz_model.specs.Types.Plan.{Group, groups_of}
use Rattle.kz_plan.specs.Parts.{AreGroups, AreParts}
use Rattle.kz_plan.proofs.Plans.{groups_of-length, groups_of-are, parts-of, dealt-same, zones-are, types-there, plan-is}
use Rattle.kz_plan.proofs.planning.plan_within.Goals as goal

pub parts-requires-clause-groups : goal.parts-requires-clause-groups
parts-requires-clause-groups c =
    subst (λ (groups : List Group). AreGroups groups) (sym (c.deref.ensures.value ∙ c.in_ok-groups.ensures)) (groups_of-are c.args.layouts.now c.args.seed c.requires.few)

pub parts-requires-clause-enough : goal.parts-requires-clause-enough
parts-requires-clause-enough c = omega (arith, ap length (c.deref.ensures.value ∙ c.in_ok-groups.ensures), groups_of-length c.args.layouts.now c.args.seed)

pub deals-requires-clause-groups : goal.deals-requires-clause-groups
deals-requires-clause-groups c =
    subst (λ (groups : List Group). AreGroups groups) (sym (c.deref-2.ensures.value ∙ c.in_ok-groups.ensures)) (groups_of-are c.args.layouts.now c.args.seed c.requires.few)

pub plan_of_deals-requires-clause-zones : goal.plan_of_deals-requires-clause-zones
plan_of_deals-requires-clause-zones c =
    let groups = groups_of c.args.layouts.now c.args.seed in
    let parts = c.in_ok-parts.parts.items in
    zones-are c.args.layouts.now groups parts c.deref-4.result.now c.total.result
    (subst (λ (gs : List Group). AreParts gs parts) (c.deref.ensures.value ∙ c.in_ok-groups.ensures) c.in_ok-parts.ensures.parts)
    (dealt-same c.deref-4.result.now c.in_ok-deals.deals.items c.deref-2.result.now groups c.deref-3.result.now parts c.deref-4.ensures.value c.in_ok-deals.ensures (c.deref-2.ensures.value ∙ c.in_ok-groups.ensures) c.deref-3.ensures.value)
    (c.total.ensures ∙ ap sum c.deref-5.ensures.value)

pub plan_of_deals-requires-clause-there : goal.plan_of_deals-requires-clause-there
plan_of_deals-requires-clause-there c =
    let groups = groups_of c.args.layouts.now c.args.seed in
    let parts = c.in_ok-parts.parts.items in
    types-there c.args.layouts.now c.args.seed groups parts c.deref-4.result.now refl
    (subst (λ (gs : List Group). AreParts gs parts) (c.deref.ensures.value ∙ c.in_ok-groups.ensures) c.in_ok-parts.ensures.parts)
    (dealt-same c.deref-4.result.now c.in_ok-deals.deals.items c.deref-2.result.now groups c.deref-3.result.now parts c.deref-4.ensures.value c.in_ok-deals.ensures (c.deref-2.ensures.value ∙ c.in_ok-groups.ensures) c.deref-3.ensures.value)

pub returns-clause-planned : goal.returns-clause-planned
returns-clause-planned c =
    let groups = groups_of c.args.layouts.now c.args.seed in
    let parts = c.in_ok-parts.parts.items in
    plan-is c.args.layouts.now c.args.budget c.args.seed parts _ c.deref-4.result.now c.total.result
    (parts-of c.args.layouts.now c.args.budget c.args.seed c.deref.result.now parts (c.deref.ensures.value ∙ c.in_ok-groups.ensures) c.in_ok-parts.ensures.division)
    (dealt-same c.deref-4.result.now c.in_ok-deals.deals.items c.deref-2.result.now groups c.deref-3.result.now parts c.deref-4.ensures.value c.in_ok-deals.ensures (c.deref-2.ensures.value ∙ c.in_ok-groups.ensures) c.deref-3.ensures.value)
    (c.total.ensures ∙ ap sum c.deref-5.ensures.value) c.in_ok-plan_of_deals.ensures
