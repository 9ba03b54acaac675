use Rattle.std.proofs.Common.{◌≡◌, replicate, ap, ◌∙◌, arith}
use Rattle.kz_bundle.specs.Counted.{counted, lines_before, no_lines}
use Rattle.kz_bundle.proofs.Counting.{counted_first, counted_last}
use Rattle.kz_bundle.proofs.planned.counts.count_lines.Goals as goal

pub loop-cpu-init : goal.loop-cpu-init
loop-cpu-init c = c.in_ok-table.ensures ∙ ap (λ n. replicate n (no_lines c.args.bundle.now.cpus)) c.len.ensures ∙ counted_first c.args.bundle.now c.args.plan.now

pub returns : goal.returns
returns c =
    let b = c.args.bundle.now in
    let plan = c.args.plan.now in
    let ended : c.loop-cpu.cpu ≡ b.cpus = omega (arith, c.loop-cpu-test.false, c.loop-cpu.auto.cpu-end) in
    c.loop-cpu.invariant ∙ ap (λ cpu. counted b plan (lines_before b cpu 0)) ended ∙ counted_last b plan
