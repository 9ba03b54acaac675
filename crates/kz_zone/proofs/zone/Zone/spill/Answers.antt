use Rattle.std.proofs.Common.{take, ap, sym, ◌∙◌, subst}
use Rattle.kz_zone.specs.Pair.{Pair}
use Rattle.kz_zone.specs.Zone.{Zone, shared_of}
use Rattle.kz_zone.specs.Out.{AreOut}
use Rattle.kz_zone.proofs.PutBack.{out_of_front}
use Rattle.kz_zone.proofs.Settled.{settled_idle}
use Rattle.kz_zone.proofs.zone.Zone.spill.Goals as goal

pub put_all-requires : goal.put_all-requires
put_all-requires c =
    let z = c.args.self.now in
    let old = c.args.from.now in
    let front = c.front.ensures ∙ ap (λ (p : Pair). take p.magazine p.blocks) (c.put.ensures.unchanged c.if-put.false).1 in
    let out = out_of_front z.params (shared_of z) old.magazine old.blocks c.requires.away in
    subst (AreOut c.self.inside.chunks.params c.self.inside.chunks.chunks) (sym front) (subst (λ (z : Zone). AreOut z.params z.chunks (take old.magazine old.blocks)) (sym c.self.view_is) out)

pub returns-clause-same : goal.returns-clause-same
returns-clause-same c =
    let i = c.self.inside in
    settled_idle c.args.self.now i.chunks c.put_all.new.chunks c.front.result.now i.transit i.depot.lists c.put.new.self.lists i.words c.self.view_is c.put_all.ensures
