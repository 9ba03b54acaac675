use Rattle.kz_zone.proofs.Settled.{settled_idle}
use Rattle.kz_zone.proofs.zone.Zone.flush.Goals as goal

pub returns-clause-same : goal.returns-clause-same
returns-clause-same c =
    let i = c.self.inside in
    settled_idle c.args.self.now i.chunks c.empty_stack.new.chunks c.args.from.now.blocks i.transit i.depot.lists i.depot.lists i.words c.self.view_is c.empty_stack.ensures.chunks
