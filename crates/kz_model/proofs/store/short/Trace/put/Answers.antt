-- As of a push, where room was made before.
use Rattle.std.proofs.Common.{◌≡◌, List, ◌∷◌, [], ◌++◌, ap, ◌∙◌}
use Rattle.kz_model.specs.declared.bundle.TraceStep.{TraceStep}
use Rattle.kz_model.specs.declared.store.short.ShortStep.{ShortStep}
use Rattle.kz_model.proofs.Beside.{pushed_meant, pushed_within}
use Rattle.kz_model.proofs.Shorts.{steps_beside}
use Rattle.kz_model.proofs.store.short.Trace.put.Goals as goal

abbrev kept_step : goal.After-push_reserved → ShortStep
kept_step c = record { line = c.args.line; round = c.args.round; act = c.in_ok-act.act }

pushed : (c : goal.After-push_reserved) → c.push_reserved.new.self.items ≡ c.self.inside.steps.items ++ kept_step c ∷ []
pushed c = c.push_reserved.ensures.items ∙ ap (λ (steps : List ShortStep). steps ++ kept_step c ∷ []) c.in_ok-make_room.ensures.kept

pub invariant_of-self-2 : goal.invariant_of-self-2
invariant_of-self-2 c =
    (pushed_within steps_beside _ _ _ _ (kept_step c) c.short_of.ensures.more c.self.invariant.0 c.in_ok-act.ensures.within (pushed c), c.short_of.ensures.few)

pub returns-clause-ok : goal.returns-clause-ok
returns-clause-ok c =
    let step : TraceStep = record { line = c.args.line; round = c.args.round; act = c.args.act } in
    pushed_meant steps_beside _ _ _ _ (kept_step c) step c.short_of.ensures.more c.self.invariant.0
    (ap (λ act. record { line = c.args.line; round = c.args.round; act = act }) c.in_ok-act.ensures.meant) (pushed c)
    ∙ ap (λ steps. steps ++ step ∷ []) c.self.view_is
