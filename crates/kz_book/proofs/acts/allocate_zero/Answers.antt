use Rattle.std.proofs.Common.{refl, ap, subst, replicate}
use Rattle.kz_model.specs.declared.record.ZoneParams.{ZoneParams}
use Rattle.kz_model.specs.Zone.Rules.{with_bytes}
use Rattle.kz_model.specs.Zone.State.{Shared}
use Rattle.kz_zone.specs.Pair.{Pair}
use Rattle.kz_zone.specs.Zone.{StandsFor}
use Rattle.kz_book.specs.Acts.{scene}
use Rattle.kz_book.proofs.Orderly.{filled_block}
use Rattle.kz_book.proofs.Supplied.{acts_alloc_zero}
use Rattle.kz_book.proofs.acts.allocate_zero.Goals as goal

pub zero-requires-clause-there : goal.zero-requires-clause-there
zero-requires-clause-there g c =
    let at = c.requires.at.2 in
    let h = c.in-Ok.ensures in
    (filled_block _ _ _ at c.fill.new.zone c.fill.new.pair.blocks c.pop-block.result h.same.params (h.shows at.state.shared at.at.shows) (ap (λ (p : Pair). p.blocks) (h.stack at.state.shared at.at.shows)) c.pop-block.ensures.block).there

pub zero-requires-clause-mapped : goal.zero-requires-clause-mapped
zero-requires-clause-mapped g c =
    let at = c.requires.at.2 in
    let h = c.in-Ok.ensures in
    (filled_block _ _ _ at c.fill.new.zone c.fill.new.pair.blocks c.pop-block.result h.same.params (h.shows at.state.shared at.at.shows) (ap (λ (p : Pair). p.blocks) (h.stack at.state.shared at.at.shows)) c.pop-block.ensures.block).mapped

pub returns-in-Ok-clause-acts : goal.returns-in-Ok-clause-acts
returns-in-Ok-clause-acts g c = λ cpu name.
    let h = c.in-Ok.ensures in
    acts_alloc_zero (scene c.args.zone.now c.args.pair.now.blocks c.args.bound.now) (scene c.zero.new.self c.pop-block.new.pair.blocks c.pop-block.new.bound) c.fill.new.zone c.fill.new.pair.blocks c.pop-block.result cpu name _ _ _
    (record { shows = h.shows; blocks = λ s at. ap (λ (p : Pair). p.blocks) (h.stack s at) }) h.asked refl
    (record { newest = c.pop-block.ensures.block; rest = ap (λ (p : Pair). p.blocks) c.pop-block.ensures.stack; bound = c.pop-block.ensures.bound })
    c.zero.ensures.same.bases c.zero.ensures.same.count
    (subst (λ (p : ZoneParams). (s : Shared) → StandsFor c.fill.new.zone s → StandsFor c.zero.new.self (with_bytes p c.pop-block.result 0 (replicate p.element 0) s)) h.same.params c.zero.ensures.shows)
