use Rattle.std.proofs.Common.{refl, arith}
use Rattle.kz_plan.proofs.Places.{next_bucket}
use Rattle.kz_plan.proofs.dealing.buckets.Goals as goal

pub loop-place-preserved : goal.loop-place-preserved
loop-place-preserved c =
    next_bucket c.loop-place.buckets c.insert.new.self c.args.zones _ c.loop-place.place c.args.order.now _ c.loop-place.invariant c.requires.distinct (omega arith)
    c.in_ok-insert.ensures.updates refl
