-- The steps mean what they meant, with other numbers.
use Rattle.std.proofs.Common.{List, length, map, ap, sym, ◌∙◌, subst}
use Rattle.std.specs.List.{All}
use Rattle.kz_model.specs.declared.bundle.TraceStep.{TraceStep}
use Rattle.kz_model.specs.declared.store.short.ShortStep.{ShortStep}
use Rattle.kz_model.specs.Store.Traces.{step_meant, renumbered_step, AreNumbered}
use Rattle.kz_model.proofs.Shorts.{AreWithin, all_unmap, all_renumbered, renumbered-meant}
use Rattle.kz_model.proofs.store.short.Trace.renumber.Goals as goal

pub renumber_all-requires : goal.renumber_all-requires
renumber_all-requires c =
    let P : TraceStep → Type 0 = λ step. AreNumbered (length c.args.names.now) (length c.args.types.now) step.act in
    let Q : List TraceStep → Type 0 = λ steps. All P steps in
    (c.self.inside.pieces.items, all_unmap (step_meant c.self.inside.pieces.items) P c.self.inside.steps.items (subst Q (sym c.self.view_is) c.requires))

pub invariant_of-self : goal.invariant_of-self
invariant_of-self c =
    let P : List ShortStep → Type 0 = λ steps. AreWithin c.self.inside.pieces.items steps in
    (subst P (sym c.renumber_all.ensures) (all_renumbered c.self.inside.pieces.items c.args.names.now c.args.types.now c.self.inside.steps.items c.self.invariant.0), c.self.invariant.1)

pub returns : goal.returns
returns c =
    ap (map (step_meant c.self.inside.pieces.items)) c.renumber_all.ensures
    ∙ renumbered-meant c.self.inside.pieces.items c.args.names.now c.args.types.now c.self.inside.steps.items
    ∙ ap (map (renumbered_step c.args.names.now c.args.types.now)) c.self.view_is
