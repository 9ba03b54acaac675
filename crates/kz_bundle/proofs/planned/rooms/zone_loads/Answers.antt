use Rattle.std.proofs.Common.{◌≡◌, length, ap, sym, ◌∙◌, arith}
use Rattle.kz_model.specs.Run.Journal.{trace_of}
use Rattle.kz_bundle.specs.Counted.{counted_on, load_of}
use Rattle.kz_bundle.proofs.InRange.{made_all, made_long, made_more, next_is, next_within}
use Rattle.kz_bundle.proofs.Zoned.{planned_is_fit}
use Rattle.kz_bundle.proofs.planned.rooms.zone_loads.Goals as goal

pub overflow_cast-zone : goal.overflow_cast-zone
overflow_cast-zone c =
    let b = c.args.bundle.now in
    let plan = c.args.plan.now in
    let l = c.loop-lines in
    omega (arith, next_within l.invariant c.in-Some.ensures.steps.0, made_long l.invariant, c.len-zone.ensures, (planned_is_fit c.requires).few)

pub load_of-requires-clause-zone : goal.load_of-requires-clause-zone
load_of-requires-clause-zone c =
    let l = c.loop-lines in
    omega (arith, next_within l.invariant c.in-Some.ensures.steps.0, made_long l.invariant, c.len-zone.ensures)

pub load_of-requires-clause-lines : goal.load_of-requires-clause-lines
load_of-requires-clause-lines c =
    let b = c.args.bundle.now in
    let plan = c.args.plan.now in
    let l = c.loop-lines in
    let here : c.len-zone.result ≡ length l.yielded = omega (arith, made_long l.invariant, c.len-zone.ensures) in
    next_is l.invariant c.in-Some.ensures.steps.0 ∙ ap (counted_on b plan (trace_of b)) (sym here)

pub loop-lines-preserved : goal.loop-lines-preserved
loop-lines-preserved c =
    let b = c.args.bundle.now in
    let plan = c.args.plan.now in
    let l = c.loop-lines in
    let here : c.len-zone.result ≡ length l.yielded = omega (arith, made_long l.invariant, c.len-zone.ensures) in
    made_more l.invariant c.in-Some.ensures.steps.0 (c.load_of.ensures ∙ ap (load_of b plan) here) c.in_ok-push.ensures.items

pub returns : goal.returns
returns c =
    let l = c.loop-lines in
    made_all l.invariant (omega (arith, c.in-None.ensures.steps.0, l.lines-iterator.rest.ok))
