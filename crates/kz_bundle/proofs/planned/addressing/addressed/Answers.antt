use Rattle.std.proofs.Common.{List, length, slice_index_or, ap, sym, ◌∙◌, subst}
use Rattle.kz_model.specs.declared.bundle.TraceStep.{TraceStep}
use Rattle.kz_model.specs.Run.Journal.{no_step}
use Rattle.kz_model.specs.Store.Traces.{AreNumbered}
use Rattle.kz_model.proofs.TraceRounds.{steps_within}
use Rattle.kz_bundle.proofs.Zoned.{are_zoned, found_trace, planned_is_valid}
use Rattle.kz_bundle.proofs.planned.addressing.addressed.Goals as goal

pub addressed_act-requires-clause-zoned : goal.addressed_act-requires-clause-zoned
addressed_act-requires-clause-zoned c = are_zoned c.args.bundle.now c.args.plan.now c.requires.planned

-- the step is that of the CPU's line, whose names and types are the bundle's
pub addressed_act-requires-clause-within : goal.addressed_act-requires-clause-within
addressed_act-requires-clause-within c =
    let b = c.args.bundle.now in
    let valid = planned_is_valid c.requires.planned in
    let same = found_trace b c.args.cpu c.as_slice.result.now c.index-as_slice-cpu.result valid c.requires.cpu c.index-as_slice-cpu.is c.as_slice.ensures in
    let line = c.step.ensures ∙ ap (λ (trace : List TraceStep). slice_index_or trace c.args.at no_step) same in
    subst (λ (line : TraceStep). AreNumbered (length b.names) (length b.types) line.act) (sym line) (steps_within b valid c.args.cpu c.args.at no_step c.requires.line).act
