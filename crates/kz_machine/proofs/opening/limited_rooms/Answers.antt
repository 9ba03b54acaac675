use Rattle.std.proofs.Common.{◌<◌, length, ap, sym, ◌∙◌, subst, arith}
use Rattle.kz_bundle.specs.declared.planned.rooms.ZoneLoad.{ZoneLoad}
use Rattle.kz_bundle.proofs.InRange.{made_all, made_more, next_is, next_within}
use Rattle.kz_machine.specs.Needs.{needed}
use Rattle.kz_machine.proofs.Fit.{params_fit}
use Rattle.kz_bundle.proofs.Zoned.{planned_is_valid}
use Rattle.kz_machine.proofs.opening.limited_rooms.Goals as goal

pub limited-requires-clause-pages : goal.limited-requires-clause-pages
limited-requires-clause-pages c =
    let b = c.args.bundle.now in
    let plan = c.args.plan.now in
    let l = c.loop-load in
    let fit = params_fit b plan (length l.yielded) (planned_is_valid c.requires.planned) (c.plans_are_fit.ensures b plan (planned_is_valid c.requires.planned) c.requires.planned.is_plan) (next_within l.invariant c.in-Some.ensures.steps.0) in
    subst (λ (load : ZoneLoad). 0 < load.room.params.pages) (sym (next_is l.invariant c.in-Some.ensures.steps.0)) fit.shape.some_pages

pub limited-requires-clause-frames : goal.limited-requires-clause-frames
limited-requires-clause-frames c = (planned_is_valid c.requires.planned).frames

pub loop-load-preserved : goal.loop-load-preserved
loop-load-preserved c =
    let b = c.args.bundle.now in
    let l = c.loop-load in
    made_more l.invariant c.in-Some.ensures.steps.0 (c.limited.ensures ∙ ap (λ (load : ZoneLoad). needed b.frames load.allocating load.giving load.room) (next_is l.invariant c.in-Some.ensures.steps.0)) c.in_ok-push.ensures.items

pub returns : goal.returns
returns c =
    let l = c.loop-load in
    made_all l.invariant (omega (arith, c.in-None.ensures.steps.0, l.load-iterator.rest.ok))
