use Rattle.std.proofs.Common.{◌≡◌, ◌≤◌, All, length, map, min, [], ap, ap₂, sym, ◌∙◌, subst, arith, List, refl}
use Rattle.std.specs.List.{range_with_len}
use Rattle.kz_model.specs.declared.record.Room.{Room}
use Rattle.kz_model.specs.declared.bundle.TraceStep.{TraceStep}
use Rattle.kz_supply.specs.Thin.{ThinSupply}
use Rattle.kz_cpu.specs.Cpu.{opened_cpu}
use Rattle.kz_zone.specs.Room.{IsFitRoom}
use Rattle.kz_model.specs.Store.Replies.{RepliesSoFar}
use Rattle.kz_machine.specs.RecordRoom.{HasRecordRoom}
use Rattle.kz_machine.specs.Needs.{most_entries, frames_in, frames_needed}
use Rattle.kz_machine.specs.Opening.{AreOpened}
use Rattle.kz_model.proofs.TraceRounds.{short_traces}
use Rattle.kz_machine.proofs.Lines.{allocations_are, allocations_few, entries_are}
use Rattle.kz_machine.proofs.Fit.{rooms_fit, rooms_cpus, frames_few}
use Rattle.kz_machine.proofs.Opens.{opens_at}
use Rattle.kz_bundle.proofs.Zoned.{planned_is_valid}
use Rattle.kz_machine.proofs.machine.Machine.boot.Goals as goal

pub frames_of-frames-requires-clause-few : goal.frames_of-frames-requires-clause-few
frames_of-frames-requires-clause-few c =
    let b = c.args.bundle.now in
    let plan = c.args.plan.now in
    let few = frames_few b plan (planned_is_valid c.requires) (c.plans_are_fit.ensures b plan (planned_is_valid c.requires) c.requires.is_plan) in
    omega (arith, few, ap frames_in (c.deref-2.ensures.value ∙ c.in_ok-rooms.ensures))

pub frames_of-frames-requires-clause-pages : goal.frames_of-frames-requires-clause-pages
frames_of-frames-requires-clause-pages c = (planned_is_valid c.requires).pages

pub entries_of-entries-requires : goal.entries_of-entries-requires
entries_of-entries-requires c =
    let b = c.args.bundle.now in
    let plan = c.args.plan.now in
    let few = allocations_few b plan (length plan.zones) (planned_is_valid c.requires) in
    let is = ap most_entries (allocations_are b plan c.deref.result.now (c.deref.ensures.value ∙ c.in_ok-loads.ensures)) in
    let are = entries_are b plan in
    omega arith

pub overflow_cast-names : goal.overflow_cast-names
overflow_cast-names c = omega (arith, c.len-names.ensures, (planned_is_valid c.requires).few_names)

pub cpus_of-requires-clause-fit : goal.cpus_of-requires-clause-fit
cpus_of-requires-clause-fit c =
    let b = c.args.bundle.now in
    let plan = c.args.plan.now in
    subst (λ (rooms : List Room). All IsFitRoom rooms) (sym (c.deref-3.ensures.value ∙ c.in_ok-rooms.ensures)) (rooms_fit b plan (planned_is_valid c.requires) (c.plans_are_fit.ensures b plan (planned_is_valid c.requires) c.requires.is_plan))

pub cpus_of-requires-clause-cpus : goal.cpus_of-requires-clause-cpus
cpus_of-requires-clause-cpus c =
    let b = c.args.bundle.now in
    let plan = c.args.plan.now in
    subst (λ (rooms : List Room). All (λ room. room.params.cpus ≡ b.cpus) rooms) (sym (c.deref-3.ensures.value ∙ c.in_ok-rooms.ensures)) (rooms_cpus b plan)

pub cpus_of-requires-clause-few : goal.cpus_of-requires-clause-few
cpus_of-requires-clause-few c = let pages = (planned_is_valid c.requires).pages in grind arith

pub books_of-requires : goal.books_of-requires
books_of-requires c =
    let b = c.args.bundle.now in
    let plan = c.args.plan.now in
    subst (λ (rooms : List Room). All IsFitRoom rooms) (sym (c.deref-4.ensures.value ∙ c.in_ok-rooms.ensures)) (rooms_fit b plan (planned_is_valid c.requires) (c.plans_are_fit.ensures b plan (planned_is_valid c.requires) c.requires.is_plan))

pub replies_of-requires : goal.replies_of-requires
replies_of-requires c = subst (λ (traces : List (List TraceStep)). All (λ trace. length trace ≤ 1000000) traces) (sym c.as_slice.ensures) (short_traces c.args.bundle.now (planned_is_valid c.requires))

pub returns : goal.returns
returns c =
    let b = c.args.bundle.now in
    let plan = c.args.plan.now in
    let entries = c.entries_of-entries.ensures ∙ ap most_entries (allocations_are b plan c.deref.result.now (c.deref.ensures.value ∙ c.in_ok-loads.ensures)) in
    let made = c.frames_of-frames.ensures ∙ ap (frames_needed b.pages) (c.deref-2.ensures.value ∙ c.in_ok-rooms.ensures) in
    opens_at b plan _ c.requires (c.plans_are_fit.ensures b plan (planned_is_valid c.requires) c.requires.is_plan)
    (c.in_ok-cpus_of.ensures ∙ ap₂ (λ (l : List Room) names. map (λ cpu. opened_cpu cpu l names) (range_with_len 0 b.cpus)) (c.deref-3.ensures.value ∙ c.in_ok-rooms.ensures) c.len-names.ensures)
    (subst (λ (l : List Room). AreOpened l c.in_ok-books_of.field-0.items) (c.deref-4.ensures.value ∙ c.in_ok-rooms.ensures) c.in_ok-books_of.ensures)
    c.in_ok-rooms.ensures
    (c.in_ok-new.ensures ∙ ap₂ (λ n m. let s : ThinSupply = record { counted = record { frames = b.frames; pages = b.pages; room = n; log = [] }; made = min b.frames m } in s) entries made)
    (c.in_ok-replies_of.ensures ∙ ap (λ (traces : List (List TraceStep)). map (λ trace. let r : RepliesSoFar = record { room = length trace; items = [] } in r) traces) c.as_slice.ensures)
    refl
    (subst (λ (l : List Room). HasRecordRoom l b.cpus c.in_ok-new-2.field-0) (c.deref-5.ensures.value ∙ c.in_ok-rooms.ensures) c.in_ok-new-2.ensures)
