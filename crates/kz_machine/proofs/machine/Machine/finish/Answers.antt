use Rattle.std.proofs.Common.{◌∙◌}
use Rattle.kz_machine.specs.declared.machine.Machine.TheView.{view}
use Rattle.kz_machine.proofs.Finishing.{visits_fit, mapped_fit, mark_rooms_fit, record_is}
use Rattle.kz_machine.proofs.Inside.{inside_at}
use Rattle.kz_machine.proofs.machine.Machine.finish.Goals as goal

pub record-requires-clause-visits : goal.record-requires-clause-visits
record-requires-clause-visits c =
    let r = c.requires in
    visits_fit (view c.self.inside) r.0 r.1 r.2 (inside_at c.self.inside _ r.0 r.1 r.2 c.self.view_is r.3) r.4

pub record-requires-clause-mapped : goal.record-requires-clause-mapped
record-requires-clause-mapped c =
    let r = c.requires in
    mapped_fit (view c.self.inside) r.0 r.1 r.2 (inside_at c.self.inside _ r.0 r.1 r.2 c.self.view_is r.3) r.4

pub record-requires-clause-mark_rooms : goal.record-requires-clause-mark_rooms
record-requires-clause-mark_rooms c =
    let r = c.requires in
    mark_rooms_fit (view c.self.inside) r.0 r.1 r.2 (inside_at c.self.inside _ r.0 r.1 r.2 c.self.view_is r.3) r.4

pub returns : goal.returns
returns c b plan s at sound =
    c.record.ensures
    ∙ record_is (view c.self.inside) b plan s (inside_at c.self.inside _ b plan s c.self.view_is at) sound
