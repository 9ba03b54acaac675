use Rattle.std.proofs.Common.{◌+◌, ◌++◌, List, length, subst}
use Rattle.kz_model.specs.declared.bundle.OrderLine.{OrderLine}
use Rattle.kz_model.specs.Run.Journal.{lines_of_round}
use Rattle.kz_machine.specs.Left.{IsLeft, turns_from, rounds_after}
use Rattle.kz_machine.proofs.Default.{rest_of_turns, turns_parted}
use Rattle.kz_bundle.proofs.Zoned.{planned_is_valid}
use Rattle.kz_machine.proofs.running.play_round.Goals as goal

pub play_lines-requires : goal.play_lines-requires
play_lines-requires c =
    let b = c.args.bundle.now in
    let cpu = c.loop-cpu.cpu in
    let round = c.args.round in
    let left = c.loop-cpu.invariant in (
      length (lines_of_round b cpu round),
      turns_from b round (cpu + 1) ++ rounds_after b (round + 1),
      subst (λ (l : List OrderLine). IsLeft b c.args.plan.now c.loop-cpu.machine l) (turns_parted b round cpu (rounds_after b (round + 1)) c.loop-cpu-test.true) left,
      rest_of_turns b c.requires.order cpu round (planned_is_valid left.at.planned) c.loop-cpu-test.true c.requires.round,
    )

pub loop-cpu-preserved : goal.loop-cpu-preserved
loop-cpu-preserved c =
    let b = c.args.bundle.now in
    let cpu = c.loop-cpu.cpu in
    let round = c.args.round in
    let left = c.loop-cpu.invariant in
    c.play_lines.ensures (length (lines_of_round b cpu round)) (turns_from b round (cpu + 1) ++ rounds_after b (round + 1))
    (subst (λ (l : List OrderLine). IsLeft b c.args.plan.now c.loop-cpu.machine l) (turns_parted b round cpu (rounds_after b (round + 1)) c.loop-cpu-test.true) left)
    (rest_of_turns b c.requires.order cpu round (planned_is_valid left.at.planned) c.loop-cpu-test.true c.requires.round)
