use Rattle.std.proofs.Common.{arith}
use Rattle.kz_machine.specs.declared.machine.Machine.TheView.{view}
use Rattle.kz_machine.proofs.Inside.{inside_at}
use Rattle.kz_machine.proofs.Indexed.{within_rooms, may_step, may_reply, step_plays, step_replies}
use Rattle.kz_machine.proofs.machine.Machine.step.Goals as goal

pub index-requires : goal.index-requires
index-requires c =
    let r = c.requires in
    let m = view c.self.inside in
    let within = within_rooms m c.args.cpu c.args.zone c.args.step.now r.0 r.1 r.2 (inside_at c.self.inside _ r.0 r.1 r.2 c.self.view_is r.3) r.4 in
    omega (arith, within, c.self.inside.rooms.ok.0)

pub one_step-requires-clause-ready : goal.one_step-requires-clause-ready
one_step-requires-clause-ready c =
    let r = c.requires in
    may_step (view c.self.inside) c.args.cpu c.args.zone c.args.step.now r.0 r.1 r.2 (inside_at c.self.inside _ r.0 r.1 r.2 c.self.view_is r.3) r.4 c.index_mut.result.now c.index_mut-2.result.now c.index.result.now
    c.index_mut.ensures.value c.index_mut-2.ensures.value c.index.ensures

pub one_step-requires-clause-room : goal.one_step-requires-clause-room
one_step-requires-clause-room c =
    let r = c.requires in
    may_reply (view c.self.inside) c.args.cpu c.args.zone c.args.step.now r.0 r.1 r.2 (inside_at c.self.inside _ r.0 r.1 r.2 c.self.view_is r.3) r.4 c.index_mut-3.result.now c.index_mut-3.ensures.value

pub returns-clause-plays : goal.returns-clause-plays
returns-clause-plays c b plan s at turn =
    step_plays (view c.self.inside) c.args.cpu c.args.zone c.args.step.now b plan s (inside_at c.self.inside _ b plan s c.self.view_is at) turn c.index_mut.result.now c.index_mut-2.result.now c.index.result.now
    c.index_mut.ensures.value c.index_mut-2.ensures.value c.index.ensures c.one_step.new.cpu c.one_step.new.book c.one_step.new.supply c.one_step.result c.one_step.ensures.does
    c.index_mut-3.result.now c.one_step.new.replies c.index_mut-3.ensures.value c.one_step.ensures.items (omega (arith, c.one_step.ensures.room))

pub returns-clause-reply : goal.returns-clause-reply
returns-clause-reply c b plan s at turn =
    step_replies (view c.self.inside) c.args.cpu c.args.zone c.args.step.now b plan s (inside_at c.self.inside _ b plan s c.self.view_is at) turn c.index_mut.result.now c.index_mut-2.result.now c.index.result.now
    c.index_mut.ensures.value c.index_mut-2.ensures.value c.index.ensures c.one_step.new.cpu c.one_step.new.book c.one_step.new.supply c.one_step.result c.one_step.ensures.does
    c.index_mut-3.result.now c.one_step.new.replies c.index_mut-3.ensures.value c.one_step.ensures.items (omega (arith, c.one_step.ensures.room))
