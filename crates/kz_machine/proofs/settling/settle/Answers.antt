use Rattle.std.proofs.Common.{◌<◌, length, subst, sym, arith}
use Rattle.kz_laws.specs.Play.{zone_play}
use Rattle.kz_machine.specs.Settling.{AreSettledBelow}
use Rattle.kz_machine.proofs.Settled.{book_begins, zone_ends}
use Rattle.kz_machine.proofs.settling.settle.Goals as goal

pub settle_zone-requires : goal.settle_zone-requires
settle_zone-requires c =
    let r = c.requires.at in
    let n = c.loop-zone.zone in (
      r.0,
      r.1,
      r.2.log,
      zone_play r.2 n,
      book_begins r.0 r.1 r.2 n c.loop-zone.cpus c.loop-zone.books r.4 (c.loop-zone.invariant r.0 r.1 r.2 r.3 r.4 r.5) (omega arith) c.args.round c.index-books-zone.result r.3,
    )

pub loop-zone-preserved : goal.loop-zone-preserved
loop-zone-preserved c b plan s round sound first =
    let n = c.loop-zone.zone in
    let at = c.loop-zone.invariant b plan s round sound first in
    let lt : n < length c.loop-zone.books = omega arith in
    zone_ends b plan s n c.loop-zone.cpus c.loop-zone.books sound at lt c.settle_zone.new.cpus c.settle_zone.new.book
    (subst (λ round. AreSettledBelow b plan s.log round n (zone_play s n) c.loop-zone.cpus b.cpus c.settle_zone.new.cpus c.settle_zone.new.book) (sym round)
    (c.settle_zone.ensures b plan s.log (zone_play s n) (book_begins b plan s n c.loop-zone.cpus c.loop-zone.books sound at lt c.args.round c.index-books-zone.result round)))
