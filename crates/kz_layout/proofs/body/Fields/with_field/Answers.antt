use Rattle.std.proofs.Common.{◌/◌, sym, subst, ap, ◌∙◌, ◌≤◌, arith}
use Rattle.kz_model.specs.Types.Cover.{over}
use Rattle.kz_layout.specs.Granules.{Stands, laid_codes}
use Rattle.kz_layout.specs.contracts.body.Body.{the_view as body_view}
use Rattle.kz_layout.specs.contracts.body.Fields.{the_view as fields_view}
use Rattle.kz_layout.proofs.Bodies.{field_stands, field_fills, fields_with_one, granule_near}
use Rattle.kz_layout.proofs.body.Fields.with_field.Goals as goal

pub lay_part-requires-clause-within : goal.lay_part-requires-clause-within
lay_part-requires-clause-within c =
    let fields = fields_view c.self.inside in
    let near = granule_near c.args.in_union fields (body_view c.part.inside) c.next_offset-offset.result c.part.invariant.fields.aligned c.next_offset-offset.ensures in
    subst (λ n. c.next_offset-offset.result / 8 ≤ n) (sym c.self.invariant.many) near

pub invariant_of-result : goal.invariant_of-result
invariant_of-result c =
    let fields = fields_view c.self.inside in
    let part = body_view c.part.inside in
    let laid = c.in_ok-lay_part.ensures ∙ ap (λ p. over fields.codes (laid_codes c.next_offset-offset.result c.args.count p)) (sym c.part.view_is) in
    fields_with_one c.args.in_union fields part c.next_offset-offset.result c.args.count c.max.result c.max-2.result c.lay_part.new.codes.items c.self.invariant c.part.invariant
    c.next_offset-offset.ensures (omega arith) c.max.ensures c.max-2.ensures laid

pub returns-clause-gives : goal.returns-clause-gives
returns-clause-gives c = λ before m stands part_stands.
    let fields = fields_view c.self.inside in
    let part = body_view c.part.inside in
    let laid = c.in_ok-lay_part.ensures ∙ ap (λ p. over fields.codes (laid_codes c.next_offset-offset.result c.args.count p)) (sym c.part.view_is) in
    field_stands c.args.in_union fields part before m c.next_offset-offset.result c.args.count c.max.result c.max-2.result c.lay_part.new.codes.items
    (subst (λ b. Stands b before) (sym c.self.view_is) stands) (subst (λ b. Stands b m) (sym c.part.view_is) part_stands) c.self.invariant.aligned c.part.invariant c.requires.some
    c.next_offset-offset.ensures (omega arith) c.max.ensures c.max-2.ensures laid

pub returns-clause-some : goal.returns-clause-some
returns-clause-some c =
    subst (λ n. 1 ≤ n) (sym c.max.ensures) (field_fills (fields_view c.self.inside) (body_view c.part.inside) c.next_offset-offset.result c.args.count c.part.invariant c.requires.some)
