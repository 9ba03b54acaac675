use Rattle.std.proofs.Common.{ap, arith}
use Rattle.kz_bundle.specs.declared.planned.rooms.ZoneLoad.{ZoneLoad}
use Rattle.kz_bundle.proofs.InRange.{made_all, made_more, next_is}
use Rattle.kz_bundle.proofs.planned.rooms.rooms.Goals as goal

pub loop-load-preserved : goal.loop-load-preserved
loop-load-preserved c =
    let l = c.loop-load in
    made_more l.invariant c.in-Some.ensures.steps.0 (ap (λ (load : ZoneLoad). load.room) (next_is l.invariant c.in-Some.ensures.steps.0)) c.in_ok-push.ensures.items

pub returns : goal.returns
returns c =
    let l = c.loop-load in
    made_all l.invariant (omega (arith, c.in-None.ensures.steps.0, l.load-iterator.rest.ok))
