use Rattle.std.proofs.Common.{All, false, sym, ap, ◌∙◌, subst}
use Rattle.std.proofs.lemmas.Result.{err_from_is_err_and}
use Rattle.kz_model.specs.Types.Layouts.{IsSoundField, no_fields, fields_from, is_earlier, place_of, then_do, whole}
use Rattle.kz_layout.specs.Gives.{Gives}
use Rattle.kz_layout.specs.Granules.{Stands}
use Rattle.kz_layout.specs.Shown.{types_at}
use Rattle.kz_layout.proofs.Bodies.{all_stand_long}
use Rattle.kz_layout.proofs.Walks.{same_type, new_type}
use Rattle.kz_layout.proofs.layouter.type_body.Goals as goal

pub fields_of-requires : goal.fields_of-requires
fields_of-requires c = (8, subst (All (IsSoundField 8)) (sym c.as_slice.ensures) c.requires)

pub returns-then-is_taken : goal.returns-then-is_taken
returns-then-is_taken c = λ covers all other.
    let place = place_of c.args.decl.now.name c.args.names.now in
    let taken = ap (λ n. is_earlier n place) (sym (all_stand_long c.args.earlier.now covers all)) ∙ sym c.is_taken.ensures ∙ c.if-is_taken.true in
    same_type (types_at c.args.names.now covers) c.args.decl.now taken

pub returns-in_err-fields_of : goal.returns-in_err-fields_of
returns-in_err-fields_of c = λ covers all.
    let p = err_from_is_err_and c.from_residual.result c.from_residual.ensures.1 in
    let place = place_of c.args.decl.now.name c.args.names.now in
    let types = types_at c.args.names.now covers in
    let new = ap (λ n. is_earlier n place) (sym (all_stand_long c.args.earlier.now covers all)) ∙ sym c.is_taken.ensures ∙ c.if-is_taken.false in
    let given = new_type types c.args.decl.now new ∙ ap (λ fields. then_do (fields_from types false no_fields fields) whole) (sym c.as_slice.ensures) in
    rw (p.1, p.2) (λ other. given ∙ ap (λ r. then_do r whole) (c.in_err-fields_of.ensures covers all other))

pub returns : goal.returns
returns c = λ covers all.
    let place = place_of c.args.decl.now.name c.args.names.now in
    let types = types_at c.args.names.now covers in
    let new = ap (λ n. is_earlier n place) (sym (all_stand_long c.args.earlier.now covers all)) ∙ sym c.is_taken.ensures ∙ c.if-is_taken.false in
    let inner = c.in_ok-fields_of.ensures covers all in
    let given = new_type types c.args.decl.now new ∙ ap (λ fields. then_do (fields_from types false no_fields fields) whole) (sym c.as_slice.ensures) ∙ ap (λ r. then_do r whole) inner.1 in
    subst (Gives Stands c.whole.result) (sym given) (c.whole.ensures inner.0 inner.2)
