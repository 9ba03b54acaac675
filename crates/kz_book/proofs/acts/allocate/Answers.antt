use Rattle.std.proofs.Common.{refl, ap}
use Rattle.kz_zone.specs.Pair.{Pair}
use Rattle.kz_book.specs.Acts.{scene}
use Rattle.kz_book.proofs.Supplied.{acts_alloc}
use Rattle.kz_book.proofs.acts.allocate.Goals as goal

pub returns-in-Ok-clause-acts : goal.returns-in-Ok-clause-acts
returns-in-Ok-clause-acts g c = λ cpu name.
    let h = c.in-Ok.ensures in
    acts_alloc (scene c.args.zone.now c.args.pair.now.blocks c.args.bound.now) (scene c.fill.new.zone c.pop.new.pair.blocks c.pop.new.bound) c.fill.new.pair.blocks c.pop.result cpu name _ _ _
    (record { shows = h.shows; blocks = λ s at. ap (λ (p : Pair). p.blocks) (h.stack s at) }) h.asked refl
    (record { newest = c.pop.ensures.block; rest = ap (λ (p : Pair). p.blocks) c.pop.ensures.stack; bound = c.pop.ensures.bound })
