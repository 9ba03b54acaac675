use Rattle.std.proofs.Common.{◌<◌, ◌++◌, replicate, sym, ◌∙◌, subst}
use Rattle.kz_model.specs.declared.bundle.OrderLine.TheVariants.{Cpu}
use Rattle.kz_machine.proofs.Default.{line_next, none_next, one_fewer}
use Rattle.kz_machine.proofs.Played.{left_within}
use Rattle.kz_bundle.proofs.Zoned.{planned_is_valid}
use Rattle.kz_machine.proofs.running.play_lines.Goals as goal

pub has_line-requires-clause-replies : goal.has_line-requires-clause-replies
has_line-requires-clause-replies c =
    let r = c.requires in
    let left = c.loop-machine.invariant r.0 r.1 r.2 r.3 in
    left_within c.args.bundle.now c.args.plan.now c.loop-machine.machine (replicate left.0 (Cpu c.args.cpu) ++ r.1) left.1 c.args.cpu r.3.is_cpu

pub has_line-requires-clause-traces : goal.has_line-requires-clause-traces
has_line-requires-clause-traces c = let r = c.requires in subst (λ n. c.args.cpu < n) (sym (planned_is_valid r.2.at.planned).traces) r.3.is_cpu

pub play-requires : goal.play-requires
play-requires c =
    let r = c.requires in
    let left = c.loop-machine.invariant r.0 r.1 r.2 r.3 in
    let next = line_next c.args.bundle.now c.args.plan.now c.loop-machine.machine c.args.cpu c.args.round r.1 r.3 left.0 left.1 (sym c.has_line.ensures ∙ c.loop-machine-test.true) in
    (replicate next.0 (Cpu c.args.cpu) ++ r.1, next.1)

pub loop-machine-smaller : goal.loop-machine-smaller
loop-machine-smaller c =
    let r = c.requires in
    let left = c.loop-machine.invariant r.0 r.1 r.2 r.3 in
    let next = line_next c.args.bundle.now c.args.plan.now c.loop-machine.machine c.args.cpu c.args.round r.1 r.3 left.0 left.1 (sym c.has_line.ensures ∙ c.loop-machine-test.true) in
    let rest = replicate next.0 (Cpu c.args.cpu) ++ r.1 in
    one_fewer c.args.bundle.now c.args.plan.now c.loop-machine.machine c.play.new.machine c.args.cpu rest next.1 (c.play.ensures rest next.1)

pub loop-machine-preserved : goal.loop-machine-preserved
loop-machine-preserved c n rest first is =
    let left = c.loop-machine.invariant n rest first is in
    let next = line_next c.args.bundle.now c.args.plan.now c.loop-machine.machine c.args.cpu c.args.round rest is left.0 left.1 (sym c.has_line.ensures ∙ c.loop-machine-test.true) in
    (next.0, c.play.ensures (replicate next.0 (Cpu c.args.cpu) ++ rest) next.1)

pub returns : goal.returns
returns c n rest first is =
    let left = c.loop-machine.invariant n rest first is in
    none_next c.args.bundle.now c.args.plan.now c.loop-machine.machine c.args.cpu c.args.round rest is left.0 left.1 (sym c.has_line.ensures ∙ c.loop-machine-test.false)
