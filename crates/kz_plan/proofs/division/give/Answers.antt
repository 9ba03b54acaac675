use Rattle.std.proofs.Common.{◌<◌, length, arith}
use Rattle.kz_plan.specs.Sharing.{IsNextClass}
use Rattle.kz_plan.proofs.SharesGrow.{in_order-more, sum-with_more}
use Rattle.kz_plan.proofs.division.give.Goals as goal

pub loop-left-preserved : goal.loop-left-preserved
loop-left-preserved c =
    let next : IsNextClass c.args.counts.now c.loop-left.parts (length c.args.counts.now) c.in-Some.class = c.in-Some.ensures in
    let inside : c.in-Some.class < length c.loop-left.parts = omega (arith, next.inside, c.loop-left.invariant.in_order.same_length) in
    record {
      in_order = in_order-more c.args.counts.now c.loop-left.parts c.in-Some.class c.loop-left.invariant.in_order next;
      at_most = omega arith;
      total = omega (arith, sum-with_more c.loop-left.parts c.in-Some.class inside);
    }
