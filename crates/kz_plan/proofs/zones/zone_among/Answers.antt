use Rattle.std.proofs.Common.{cond, ap, sym, ◌∙◌}
use Rattle.kz_model.specs.Types.Plan.{class_at, data_zone, general_zone}
use Rattle.kz_plan.proofs.Homes.{data_some, data_place}
use Rattle.kz_plan.proofs.zones.zone_among.Goals as goal

pub unwrap-place-requires : goal.unwrap-place-requires
unwrap-place-requires c =
    data_some c.place_of.result c.args.data_classes.now c.args.layout.now c.class_at.result c.place_of.ensures c.class_at.ensures.class
    (c.requires.there.in_data (sym c.is_data_only.ensures ∙ c.if-is_data_only.true))

pub returns-then-is_data_only : goal.returns-then-is_data_only
returns-then-is_data_only c =
    let layout = c.args.layout.now in
    data_place c.place_of.result c.unwrap-place.result c.args.general c.args.data_classes.now layout c.class_at.result c.place_of.ensures c.class_at.ensures.class c.unwrap-place.ensures
    ∙ ap (λ b. cond b (data_zone c.args.general c.args.data_classes.now (class_at layout)) (general_zone c.args.deals.now layout)) (sym c.if-is_data_only.true ∙ c.is_data_only.ensures)
