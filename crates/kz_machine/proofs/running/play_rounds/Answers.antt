use Rattle.std.proofs.Common.{◌-◌, List, ◌∷◌, subst, arith}
use Rattle.kz_model.specs.declared.bundle.OrderLine.{OrderLine}
use Rattle.kz_model.specs.declared.bundle.OrderLine.TheVariants.{Round}
use Rattle.kz_model.specs.Run.Order.{default_rounds}
use Rattle.kz_laws.specs.Play.{play_after_lines}
use Rattle.kz_machine.specs.Left.{IsLeft}
use Rattle.kz_machine.proofs.Default.{round_parted, order_parted, round_next}
use Rattle.kz_machine.proofs.Played.{may_end, round_done}
use Rattle.kz_bundle.proofs.Zoned.{planned_is_valid}
use Rattle.kz_machine.proofs.running.play_rounds.Goals as goal

pub play_round-requires-clause-left : goal.play_round-requires-clause-left
play_round-requires-clause-left c =
    let left = c.requires.left in
    let some = (planned_is_valid left.at.planned).rounds.0 in
    subst (λ (l : List OrderLine). IsLeft c.args.bundle.now c.args.plan.now c.args.machine.now l) (order_parted c.args.bundle.now c.requires.order (omega arith)) left

pub end_round-requires : goal.end_round-requires
end_round-requires c =
    let b = c.args.bundle.now in
    let plan = c.args.plan.now in
    let round = c.loop-round.round in
    let left = subst (λ (l : List OrderLine). IsLeft b plan c.loop-round.machine l) (round_next b round c.loop-round-test.true) c.loop-round.invariant in
    (b, plan, play_after_lines b plan left.lines, left.at, may_end b plan c.loop-round.machine (Round ∷ default_rounds b round (b.rounds - round)) left)

pub play_round-requires-in-loop-round-clause-left : goal.play_round-requires-in-loop-round-clause-left
play_round-requires-in-loop-round-clause-left c =
    let b = c.args.bundle.now in
    let plan = c.args.plan.now in
    let round = c.loop-round.round in
    let rest = default_rounds b round (b.rounds - round) in
    let left = subst (λ (l : List OrderLine). IsLeft b plan c.loop-round.machine l) (round_next b round c.loop-round-test.true) c.loop-round.invariant in
    let done = round_done b plan c.loop-round.machine c.end_round.new.self rest left (c.end_round.ensures b plan (play_after_lines b plan left.lines) left.at (may_end b plan c.loop-round.machine (Round ∷ rest) left)) in
    subst (λ (l : List OrderLine). IsLeft b plan c.end_round.new.self l) (round_parted b round c.loop-round-test.true) done
