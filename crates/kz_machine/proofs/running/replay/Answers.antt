use Rattle.std.proofs.Common.{[], refl, sym, subst}
use Rattle.kz_model.specs.declared.record.Record.{Record}
use Rattle.kz_laws.specs.Play.{play_run}
use Rattle.kz_model.specs.Run.Recorded.{IsOfOrder}
use Rattle.kz_laws.proofs.PlayedRuns.{ordered_runs_are_played}
use Rattle.kz_laws.proofs.Prefixes.{runs_end_sound}
use Rattle.kz_machine.proofs.Apart.{record_is_isolated}
use Rattle.kz_machine.proofs.Fit.{has_elements}
use Rattle.kz_machine.proofs.Played.{now_played, may_end, run_done}
use Rattle.kz_bundle.proofs.Zoned.{planned_is_valid}
use Rattle.kz_machine.proofs.running.replay.Goals as goal

pub play_order-requires : goal.play_order-requires
play_order-requires c = record { lines = []; parted = refl; at = c.in_ok-machine.ensures }

pub end_round-requires : goal.end_round-requires
end_round-requires c =
    let b = c.args.bundle.now in
    let plan = c.args.plan.now in
    let left = c.play_order.ensures in
    (b, plan, now_played b plan c.play_order.new.machine [] left, left.at, may_end b plan c.play_order.new.machine [] left)

pub finish-requires : goal.finish-requires
finish-requires c =
    let b = c.args.bundle.now in
    let plan = c.args.plan.now in
    let m = c.play_order.new.machine in
    let left = c.play_order.ensures in
    let at = run_done b plan m c.end_round.new.self left (c.end_round.ensures b plan (now_played b plan m [] left) left.at (may_end b plan m [] left)) in
    (b, plan, play_run b plan, at, runs_end_sound b plan (planned_is_valid c.requires) at.fit.zones (has_elements b plan at.fit))

pub returns-clause-order : goal.returns-clause-order
returns-clause-order c =
    let b = c.args.bundle.now in
    let plan = c.args.plan.now in
    let m = c.play_order.new.machine in
    let left = c.play_order.ensures in
    let at = run_done b plan m c.end_round.new.self left (c.end_round.ensures b plan (now_played b plan m [] left) left.at (may_end b plan m [] left)) in
    let sound = runs_end_sound b plan (planned_is_valid c.requires) at.fit.zones (has_elements b plan at.fit) in
    subst (λ (made : Record). IsOfOrder b plan made) (sym (c.finish.ensures b plan (play_run b plan) at sound)) (ordered_runs_are_played b plan (planned_is_valid c.requires) at.fit.zones)

pub returns-clause-isolated : goal.returns-clause-isolated
returns-clause-isolated c =
    record_is_isolated c.args.bundle.now c.args.plan.now c.finish.result c.requires (returns-clause-order c)
