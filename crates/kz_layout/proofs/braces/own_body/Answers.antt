use Rattle.std.proofs.Common.{sym, ap, ◌∙◌, subst}
use Rattle.kz_model.specs.Types.Layouts.{own_cover, declared_one, earlier_one, place_of}
use Rattle.kz_layout.specs.Granules.{Stands}
use Rattle.kz_layout.specs.Shown.{types_at}
use Rattle.kz_layout.proofs.Bodies.{one_stands, none_stands}
use Rattle.kz_layout.proofs.braces.own_body.Goals as goal

pub returns-in-None-get : goal.returns-in-None-get
returns-in-None-get c = λ covers inside all shows other.
    let none = none_stands c.args.earlier.now covers c.in-Some.place all c.in-None-get.ensures.lookup.3 in
    ap (own_cover (types_at c.args.names.now covers) inside) c.in-Struct.is ∙ ap (λ name. declared_one covers (place_of name c.args.names.now)) (sym c.as_slice.ensures) ∙ ap (declared_one covers) (sym c.in-Some.ensures) ∙ ap earlier_one none

pub returns-in-Struct : goal.returns-in-Struct
returns-in-Struct c = λ covers inside all shows.
    let found = c.in-Some-get.ensures.lookup in
    let one = one_stands c.args.earlier.now covers c.in-Some.place c.in-Some-get.body.now all found.3.0 found.1 in
    let given = ap (own_cover (types_at c.args.names.now covers) inside) c.in-Struct.is ∙ ap (λ name. declared_one covers (place_of name c.args.names.now)) (sym c.as_slice.ensures) ∙ ap (declared_one covers) (sym c.in-Some.ensures) ∙ ap earlier_one one.1 in
    (one.0, given, subst (λ b. Stands b one.0) (sym c.in_ok-copy-in-Some-get.ensures) one.2)
