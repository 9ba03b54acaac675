use Rattle.std.proofs.Common.{◌+◌, ◌*◌, List, [], length, ap, arith}
use Rattle.kz_model.specs.declared.bundle.TraceStep.{TraceStep}
use Rattle.kz_report.proofs.Lookups.{item_is}
use Rattle.kz_report.proofs.Tally.{cpu_on, cpu_few}
use Rattle.kz_report.proofs.uses.uses_of.Goals as goal

pub loop-cpu-preserved : goal.loop-cpu-preserved
loop-cpu-preserved c =
    let cpu = c.loop-cpu.cpu in
    let b = c.args.bundle.now in
    let made = c.args.made.now in
    let trace = item_is b.traces c.as_slice.result.now cpu c.index-as_slice-cpu.result [] (omega (arith, c.requires.traces)) c.as_slice.ensures c.index-as_slice-cpu.is in
    let replies = item_is made.replies c.as_slice-in-loop-cpu.result.now cpu c.index-as_slice-cpu-in-loop-cpu.result [] (omega (arith, c.requires.replies)) c.as_slice-in-loop-cpu.ensures c.index-as_slice-cpu-in-loop-cpu.is in
    let short = c.requires.few cpu [] (omega (arith, c.requires.traces)) in
    record {
      left = cpu_on b made.replies cpu b.cpus c.index-as_slice-cpu.result c.index-as_slice-cpu-in-loop-cpu.result c.loop-cpu.uses.items c.count_trace.new.uses.items _ c.loop-cpu-test.true trace replies c.loop-cpu.invariant.left c.count_trace.ensures;
      few = cpu_few b c.index-as_slice-cpu.result c.index-as_slice-cpu-in-loop-cpu.result (cpu * 1000000) ((cpu + 1) * 1000000) c.loop-cpu.uses.items c.count_trace.new.uses.items (omega (arith, short, ap (λ (lines : List TraceStep). length lines) trace)) c.loop-cpu.invariant.few c.count_trace.ensures;
    }
