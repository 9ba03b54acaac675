use Rattle.std.proofs.Common.{◌∙◌}
use Rattle.kz_plan.proofs.Homes.{Finds-class, found_some, found_place, found_zone}
use Rattle.kz_plan.proofs.zones.general_zone.Goals as goal

pub unwrap-deal-requires : goal.unwrap-deal-requires
unwrap-deal-requires c =
    found_some c.deal_of.result c.args.deals.now c.args.layout.now
    (Finds-class c.deal_of.result c.args.deals.now c.args.layout.now c.class_at.result c.deal_of.ensures c.class_at.ensures.class) c.requires.there

pub zone_of-requires : goal.zone_of-requires
zone_of-requires c =
    found_place c.deal_of.result c.unwrap-deal.result c.args.deals.now c.args.layout.now c.as_slice.result.now
    (Finds-class c.deal_of.result c.args.deals.now c.args.layout.now c.class_at.result c.deal_of.ensures c.class_at.ensures.class) c.unwrap-deal.ensures c.as_slice.ensures c.requires.there

pub returns : goal.returns
returns c =
    c.zone_of.ensures
    ∙ found_zone c.deal_of.result c.unwrap-deal.result c.args.deals.now c.args.layout.now c.as_slice.result.now
    (Finds-class c.deal_of.result c.args.deals.now c.args.layout.now c.class_at.result c.deal_of.ensures c.class_at.ensures.class) c.unwrap-deal.ensures c.as_slice.ensures
