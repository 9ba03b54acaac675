use Rattle.std.proofs.Common.{arith}
use Rattle.kz_bundle.proofs.Printed.{type_more}
use Rattle.kz_bundle.proofs.printing.print_types.Goals as goal

pub loop-at-preserved : goal.loop-at-preserved
loop-at-preserved c =
    type_more c.line.result.now _ c.loop-at.out.items c.extend_from_slice.new.self.items c.extend_from_slice-in-loop-at.new.self.items c.args.types.now c.loop-at.at (omega arith) c.line.ensures
    c.loop-at.invariant c.in_ok-extend_from_slice.ensures.items c.in_ok-extend_from_slice-2.ensures.items
