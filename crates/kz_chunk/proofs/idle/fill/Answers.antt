use Rattle.std.proofs.Common.{◌++◌, ◌∷◌, [], List, ℕ, ap, ◌∙◌, sym, arith}
use Rattle.kz_chunk.proofs.InPlace.{range_more}
use Rattle.kz_chunk.proofs.idle.fill.Goals as goal

pub loop-element-preserved : goal.loop-element-preserved
loop-element-preserved c =
    let l = c.loop-element in
    record {
      items = c.push.ensures.items ∙ ap (λ (xs : List ℕ). xs ++ l.element ∷ []) l.invariant.items ∙ sym (range_more l.element);
      many = omega (arith, l.invariant.many, c.push.ensures.len);
    }
