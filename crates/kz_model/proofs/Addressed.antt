-- The steps of lines that are addressed to a zone.
use Rattle.std.proofs.Common.{ℕ, ◌<◌, length, None, Some, All, ◌≡◌, ◌==◌, true, false, if◌then◌else◌, List, [], ◌∷◌, ◌++◌, refl, ap}
use Rattle.std.proofs.lemmas.List.Elements.{All-weaker}
use Rattle.kz_model.specs.declared.bundle.Act.{Act}
use Rattle.kz_model.specs.declared.bundle.Act.TheVariants as act
use Rattle.kz_model.specs.declared.bundle.Bundle.{Bundle}
use Rattle.kz_model.specs.declared.bundle.TraceStep.{TraceStep}
use Rattle.kz_model.specs.declared.step.Step.{Step}
use Rattle.kz_model.specs.declared.record.Plan.{Plan}
use Rattle.kz_model.specs.Run.Journal.{addressed, steps_among, zone_of_type, type_of_name, trace_of}
use Rattle.kz_model.specs.Types.Planned.{HasZones}
use Rattle.kz_model.specs.Store.Traces.{AreNumbered}
use Rattle.kz_model.specs.Grammar.Valid.{IsStepWithin, IsValid}
use Rattle.kz_model.proofs.TraceRounds.{steps_within}

pub steps_among-append : (b : Bundle) (plan : Plan) (zone : ℕ) (xs ys : List TraceStep) → steps_among b plan zone (xs ++ ys) ≡ steps_among b plan zone xs ++ steps_among b plan zone ys
steps_among-append b plan zone [] ys = refl
steps_among-append b plan zone (x ∷ xs) ys =
    let again = steps_among-append b plan zone xs ys in
    let there = addressed b plan x.act in
    elim (there.0 == zone) as (λ t. (if t then there.1 ∷ steps_among b plan zone (xs ++ ys) else steps_among b plan zone (xs ++ ys)) ≡ (if t then there.1 ∷ steps_among b plan zone xs else steps_among b plan zone xs) ++ steps_among b plan zone ys) [
      | true ↦ ap (λ (l : List Step). there.1 ∷ l) again
      | false ↦ again
    ]

-- ---- each line is addressed to a zone of the plan

zone_within : (b : Bundle) (plan : Plan) → IsValid b → HasZones b plan → (line : Act) → AreNumbered (length b.names) (length b.types) line → (addressed b plan line).0 < length plan.zones
zone_within b plan valid zones line is = by_act line is
  where
    of_name : (name : ℕ) → name < length b.names → zone_of_type plan (type_of_name b name) < length plan.zones
    of_name name lt = zones (type_of_name b name) (valid.names name (record { name = []; of = 0 }) lt).1

    by_act : (line : Act) → AreNumbered (length b.names) (length b.types) line → (addressed b plan line).0 < length plan.zones
    by_act (act.Alloc name of) is = of_name name is.0
    by_act (act.AllocZero name of) is = of_name name is.0
    by_act (act.Free name None) is = of_name name is
    by_act (act.Free name (Some of)) is = of_name name is.0
    by_act (act.Give name to) is = of_name name is
    by_act (act.Take name) is = of_name name is
    by_act (act.Read name off len) is = of_name name is
    by_act (act.Write name off bytes) is = of_name name is
    by_act (act.Flush of) is = zones of is
    by_act (act.Trim of) is = zones of is

-- so each step line of the bundle is addressed to a zone of the plan
pub lines_within : (b : Bundle) (plan : Plan) → IsValid b → HasZones b plan → (cpu : ℕ) → All (λ line. (addressed b plan line.act).0 < length plan.zones) (trace_of b cpu)
lines_within b plan valid zones cpu =
    All-weaker (IsStepWithin (length b.names) (length b.types) b.rounds) (λ (line : TraceStep). (addressed b plan line.act).0 < length plan.zones) (λ line is. zone_within b plan valid zones line.act is.act) (trace_of b cpu)
    (steps_within b valid cpu)
