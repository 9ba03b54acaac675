use Rattle.std.proofs.Common.{ℕ, length, arith, ap, ◌∙◌}
use Rattle.std.proofs.lemmas.List.{length-set, length-append}
use Rattle.kz_layout.proofs.Overs.{laid_none, laid_inside, laid_past}
use Rattle.kz_layout.proofs.over.lay_one.Goals.{then-at-len, else-at-len+in_ok-push}
use Rattle.kz_layout.proofs.over.lay_one.Goals as goal

pub loop-i-init : goal.loop-i-init
loop-i-init c = record { laid = laid_none _ _ c.requires.within; within = omega arith }

pub loop-i-preserved : goal.loop-i-preserved
loop-i-preserved c = elim c.if-at-len.branch [
  | then-at-len w ↦
      let items = ap (λ v. v.items) w.codes-is in
      let laid = laid_inside c.args.codes.now.items c.loop-i.codes.items c.args.part.now c.args.from c.loop-i.i w.index_mut.result.now 0 c.loop-i.invariant.laid (omega arith) (omega arith) in
      record { laid = cc (w.index_mut.ensures.value); within = omega (arith, ap length items, length-set {A = ℕ}) }
  | else-at-len+in_ok-push w ↦
      let items = ap (λ v. v.items) w.codes-is ∙ w.in_ok-push.ensures.items in
      let laid = laid_past c.args.codes.now.items c.loop-i.codes.items c.args.part.now c.args.from c.loop-i.i 0 c.loop-i.invariant.laid (omega arith) (omega arith) in
      record { laid = items ∙ laid; within = omega (arith, ap length items, length-append {A = ℕ}) }
]
