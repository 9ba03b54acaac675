use Rattle.std.proofs.Common.{◌≡◌, ◌+◌, drop, ap, sym, ◌∙◌, arith}
use Rattle.std.proofs.Math.ListN.{get_or}
use Rattle.kz_model.specs.declared.record.Layout.{Layout}
use Rattle.kz_model.specs.Types.Plan.{is_general, with_signature}
use Rattle.kz_model.specs.Grammar.Tokens.{texts}
use Rattle.kz_plan.proofs.Signatures.{signatures_with, signatures_with-general, signatures_with-other, with_signature-texts}
use Rattle.kz_plan.proofs.grouping.signatures.Goals.{then-is_general+in_ok-insert, else-is_general}
use Rattle.kz_plan.proofs.grouping.signatures.Goals as goal

pub loop-layout-preserved : goal.loop-layout-preserved
loop-layout-preserved c =
    let l = c.loop-layout in
    let d = c.layout-item.result in
    let layouts = c.args.layouts.now in
    let class = c.args.class in
    let here : is_general class (get_or layouts l.layout-index d) ≡ c.is_general.result = ap (is_general class) (sym c.layout-item.is) ∙ sym c.is_general.ensures in
    elim c.if-is_general.branch [
      | then-is_general+in_ok-insert w ↦
          let found : texts w.insert.new.self.keys ≡ with_signature (texts l.distinct.keys) (get_or layouts l.layout-index d).letters =
          ap texts w.in_ok-insert.ensures.keys ∙ with_signature-texts l.distinct.keys w.as_slice.result
          ∙ ap (with_signature (texts l.distinct.keys)) (w.as_slice.ensures ∙ ap (λ (t : Layout). t.letters) c.layout-item.is) in
          ap (λ set. signatures_with (texts set.keys) (drop (l.layout-index + 1) layouts) class) w.distinct-is
          ∙ ap (λ found. signatures_with found (drop (l.layout-index + 1) layouts) class) found
          ∙ sym (signatures_with-general (texts l.distinct.keys) layouts class l.layout-index d (omega arith) (here ∙ w.if-is_general.true))
          ∙ l.invariant
      | else-is_general w ↦
          ap (λ set. signatures_with (texts set.keys) (drop (l.layout-index + 1) layouts) class) w.distinct-is
          ∙ sym (signatures_with-other (texts l.distinct.keys) layouts class l.layout-index d (omega arith) (here ∙ w.if-is_general.false))
          ∙ l.invariant
    ]
