use Rattle.std.proofs.Common.{ap, refl, ◌∙◌, cond, Some, nat_eq}
use Rattle.std.specs.Map.{lookup}
use Rattle.kz_bundle.specs.declared.form.index.Index.{Index}
use Rattle.kz_bundle.proofs.Keys.{are_bytes, found_more_short, found_more_long}
use Rattle.kz_bundle.proofs.form.index.Index.insert.Goals as goal

pub returns-in_ok-insert-clause-ok : goal.returns-in_ok-insert-clause-ok
returns-in_ok-insert-clause-ok c =
    let text = c.args.text.now in
    let new : Index = record { short = c.insert.new.self; long = c.args.self.now.long } in
    found_more_short c.args.self.now new text c.args.number (are_bytes text c.type_inv.text) c.if-text-le-MOST_PACKED.true
    (λ key. c.in_ok-insert.ensures.updates.0 key ∙ ap (λ k. cond (nat_eq k key) (Some c.args.number) (lookup (nat_eq key) c.args.self.now.short.entries)) c.key_of.ensures) refl

pub returns-in_ok-insert-2-clause-ok : goal.returns-in_ok-insert-2-clause-ok
returns-in_ok-insert-2-clause-ok c = λ other bytes.
    let new : Index = record { short = c.args.self.now.short; long = c.insert-else-text-le-MOST_PACKED.new.self } in
    found_more_long c.args.self.now new c.args.text.now c.args.number c.if-text-le-MOST_PACKED.false c.in_ok-insert-2.ensures.updates refl other
