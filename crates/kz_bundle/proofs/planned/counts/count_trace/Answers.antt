use Rattle.std.proofs.Common.{◌≡◌, ◌≤◌, [], length, ap, ◌∙◌, arith}
use Rattle.kz_model.specs.Run.Journal.{trace_of}
use Rattle.kz_model.proofs.TraceRounds.{short_traces}
use Rattle.kz_bundle.specs.Counted.{counted, lines_before}
use Rattle.kz_bundle.proofs.Counting.{counted_next}
use Rattle.kz_bundle.proofs.Zoned.{found_trace, planned_is_valid}
use Rattle.kz_bundle.proofs.planned.counts.count_trace.Goals as goal

pub bounds-as_slice-cpu : goal.bounds-as_slice-cpu
bounds-as_slice-cpu c =
    let traces = (planned_is_valid c.requires.planned).traces in
    omega (arith, traces, c.requires.cpu, ap length c.as_slice.ensures)

pub overflow_cast-at : goal.overflow_cast-at
overflow_cast-at c =
    let b = c.args.bundle.now in
    let valid = planned_is_valid c.requires.planned in
    let same = found_trace b c.args.cpu c.as_slice.result.now c.index-as_slice-cpu.result valid c.requires.cpu c.index-as_slice-cpu.is c.as_slice.ensures in
    let few : length (trace_of b c.args.cpu) ≤ 1000000 = short_traces b valid c.args.cpu [] (omega (arith, valid.traces, c.requires.cpu)) in
    omega (arith, c.loop-at-test.true, c.len-at-end.ensures, ap length same, few)

pub count_line-requires-clause-line : goal.count_line-requires-clause-line
count_line-requires-clause-line c =
    let b = c.args.bundle.now in
    let valid = planned_is_valid c.requires.planned in
    let same = found_trace b c.args.cpu c.as_slice.result.now c.index-as_slice-cpu.result valid c.requires.cpu c.index-as_slice-cpu.is c.as_slice.ensures in
    omega (arith, c.loop-at-test.true, c.len-at-end.ensures, ap length same)

pub returns : goal.returns
returns c =
    let b = c.args.bundle.now in
    let plan = c.args.plan.now in
    let l = c.loop-at in
    let valid = planned_is_valid c.requires.planned in
    let same = found_trace b c.args.cpu c.as_slice.result.now c.index-as_slice-cpu.result valid c.requires.cpu c.index-as_slice-cpu.is c.as_slice.ensures in
    let ended : l.at ≡ length (trace_of b c.args.cpu) = omega (arith, c.loop-at-test.false, l.auto.at-end, c.len-at-end.ensures, ap length same) in
    l.invariant ∙ ap (λ at. counted b plan (lines_before b c.args.cpu at)) ended ∙ counted_next b plan c.args.cpu
