-- A planned bundle is valid, its plan is fit, and its lines are addressed to the plan's zones.
use Rattle.std.proofs.Common.{◌≡◌, ℕ, ◌<◌, List, length, slice_index_or, [], ap, sym, ◌∙◌, subst, arith}
use Rattle.std.proofs.lemmas.List.{get_or_default}
use Rattle.kz_model.specs.declared.bundle.Bundle.{Bundle}
use Rattle.kz_model.specs.declared.bundle.TraceStep.{TraceStep}
use Rattle.kz_model.specs.declared.record.Plan.{Plan}
use Rattle.kz_model.specs.declared.step.Step.{Step}
use Rattle.kz_model.specs.Run.Journal.{addressed, trace_of}
use Rattle.kz_model.specs.Grammar.Valid.{IsValid}
use Rattle.kz_model.specs.Types.Planned.{IsFitPlan, IsPlanned}
use Rattle.kz_model.specs.Run.Journal.{no_step}
use Rattle.kz_model.proofs.Addressed.{lines_within}
use Rattle.kz_plan.proofs.Fit.{plans_are_fit}
use Rattle.kz_bundle.specs.Counted.{AreZoned}
use Rattle.kz_bundle.proofs.Validity.{spelled_is_valid}

pub planned_is_valid : {b : Bundle} {plan : Plan} → IsPlanned b plan → IsValid b
planned_is_valid is = spelled_is_valid _ is.spelled

pub planned_is_fit : {b : Bundle} {plan : Plan} → IsPlanned b plan → IsFitPlan b plan
planned_is_fit is = plans_are_fit _ _ (planned_is_valid is) is.is_plan

pub are_zoned : (b : Bundle) (plan : Plan) → IsPlanned b plan → AreZoned b plan
are_zoned b plan is =
    let types : length plan.of_type ≡ length b.types = (planned_is_fit is).types in
    record { types = types; names = λ name inside. omega (arith, types, ((planned_is_valid is).names name (record { name = []; of = 0 }) inside).1) }

-- the zone that a line was found to be addressed to
pub zone_there : (b : Bundle) (plan : Plan) (cpu at : ℕ) (there : ℕ × Step) → IsPlanned b plan → at < length (trace_of b cpu) → there ≡ addressed b plan (slice_index_or (trace_of b cpu) at no_step).act →
    there.0 < length plan.zones
zone_there b plan cpu at there is inside found =
    subst (λ (there : ℕ × Step). there.0 < length plan.zones) (sym found) (lines_within b plan (planned_is_valid is) (planned_is_fit is).zones cpu at no_step inside)

-- what is found among a bundle's traces at a CPU's place is the CPU's trace
pub found_trace : (b : Bundle) (cpu : ℕ) (traces : List (List TraceStep)) (found : List TraceStep) → IsValid b → cpu < b.cpus → found ≡ slice_index_or traces cpu found → traces ≡ b.traces → found ≡ trace_of b cpu
found_trace b cpu traces found valid low is are =
    is ∙ ap (λ (traces : List (List TraceStep)). slice_index_or traces cpu found) are ∙ get_or_default b.traces cpu found [] (omega (arith, valid.traces, low))
