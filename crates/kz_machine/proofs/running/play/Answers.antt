use Rattle.std.proofs.Common.{◌<◌, ℕ, length, slice_index_or, ap, sym, ◌∙◌, subst, arith}
use Rattle.kz_model.specs.declared.step.Step.{Step}
use Rattle.kz_model.specs.Run.Journal.{addressed, trace_of}
use Rattle.kz_laws.specs.Play.{play_after_step}
use Rattle.kz_model.specs.Run.Journal.{no_step}
use Rattle.kz_machine.specs.Stands.{StandsForPlay}
use Rattle.kz_machine.proofs.Lines.{trace_few}
use Rattle.kz_machine.proofs.Played.{left_within, left_turn, turn_is, place_is, line_done, now_played}
use Rattle.kz_bundle.proofs.Zoned.{planned_is_valid}
use Rattle.kz_machine.proofs.running.play.Goals as goal

pub replied-at-requires : goal.replied-at-requires
replied-at-requires c = let left = c.requires.1 in left_within _ _ _ _ left c.args.cpu (left_turn _ _ _ c.args.cpu c.requires.0 left).is_cpu

pub overflow_cast-at : goal.overflow_cast-at
overflow_cast-at c =
    let left = c.requires.1 in
    let turn = left_turn _ _ _ c.args.cpu c.requires.0 left in
    let place = c.replied-at.ensures ∙ place_is _ _ _ c.args.cpu c.requires.0 left in
    let few = trace_few c.args.bundle.now c.args.cpu (planned_is_valid left.at.planned) turn.is_cpu in
    omega (arith, place, few, turn.some)

pub addressed-zone-requires-clause-cpu : goal.addressed-zone-requires-clause-cpu
addressed-zone-requires-clause-cpu c = (left_turn _ _ _ c.args.cpu c.requires.0 c.requires.1).is_cpu

pub addressed-zone-requires-clause-line : goal.addressed-zone-requires-clause-line
addressed-zone-requires-clause-line c =
    let turn = left_turn _ _ _ c.args.cpu c.requires.0 c.requires.1 in
    let place = c.replied-at.ensures ∙ place_is _ _ _ c.args.cpu c.requires.0 c.requires.1 in
    subst (λ n. n < length (trace_of c.args.bundle.now c.args.cpu)) (sym place) turn.some

pub step-requires : goal.step-requires
step-requires c =
    let b = c.args.bundle.now in
    let plan = c.args.plan.now in
    let left = c.requires.1 in
    let place = c.replied-at.ensures ∙ place_is b plan c.args.machine.now c.args.cpu c.requires.0 left in
    let line = ap (λ n. addressed b plan (slice_index_or (trace_of b c.args.cpu) n no_step).act) (sym place) ∙ sym c.addressed-zone.ensures in
    (b, plan, now_played b plan c.args.machine.now _ left, left.at, turn_is b plan c.args.machine.now c.args.cpu c.requires.0 left c.addressed-zone.result.0 c.addressed-zone.result.1 line)

pub returns : goal.returns
returns c rest left =
    let b = c.args.bundle.now in
    let plan = c.args.plan.now in
    let m = c.args.machine.now in
    let s = now_played b plan m _ left in
    let place = c.replied-at.ensures ∙ place_is b plan m c.args.cpu rest left in
    let line = ap (λ n. addressed b plan (slice_index_or (trace_of b c.args.cpu) n no_step).act) (sym place) ∙ sym c.addressed-zone.ensures in
    let turn = turn_is b plan m c.args.cpu rest left c.addressed-zone.result.0 c.addressed-zone.result.1 line in
    line_done b plan m c.args.cpu rest left c.step.new.self
    (subst (λ (line : ℕ × Step). StandsForPlay b plan c.step.new.self (play_after_step b plan s c.args.cpu line.0 line.1)) (sym line) (c.step.ensures.plays b plan s left.at turn))
