use Rattle.std.proofs.Common.{◌<◌, length, slice_set, ap, ◌∙◌, arith}
use Rattle.std.proofs.lemmas.List.Edits.{map_over_more}
use Rattle.kz_model.specs.Store.Traces.{renumbered_kept}
use Rattle.kz_model.specs.declared.store.short.ShortAct.{ShortAct}
use Rattle.kz_model.specs.declared.store.short.ShortStep.{ShortStep}
use Rattle.kz_model.proofs.store.short.renumber_all.Goals as goal

pub loop-at-preserved : goal.loop-at-preserved
loop-at-preserved c =
    let step : ShortStep = c.index.result.now in
    let lt : c.loop-at.at < length c.args.steps.now.items = omega (arith, c.loop-at-test.true, c.loop-at.auto.at-end, c.len-at-end.ensures, c.args.steps.now.ok) in
    ap (λ (act : ShortAct). slice_set c.loop-at.steps.items c.loop-at.at (record { line = step.line; round = step.round; act = act })) c.renumbered.ensures
    ∙ map_over_more (renumbered_kept c.args.names.now c.args.types.now) c.args.steps.now.items c.loop-at.steps.items c.loop-at.at step lt c.loop-at.invariant c.index.ensures
