use Rattle.kz_bundle.proofs.Printed.{break_more}
use Rattle.kz_bundle.proofs.printing.print_breaks.Goals as goal

pub loop-preserved : goal.loop-preserved
loop-preserved c = break_more _ c.loop.out.items c.extend_from_slice.new.self.items c.args.count c.loop.counter c.loop-test.true c.loop.invariant c.in_ok-extend_from_slice.ensures.items
