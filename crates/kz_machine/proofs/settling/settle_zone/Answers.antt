use Rattle.std.proofs.Common.{◌≡◌, sym, subst, arith}
use Rattle.kz_machine.specs.Settling.{AreSettledBelow}
use Rattle.kz_machine.proofs.Settled.{may_settle, one_settled, none_to_settle}
use Rattle.kz_machine.proofs.settling.settle_zone.Goals as goal
use Rattle.kz_machine.proofs.settling.settle_zone.Goals.{then-has_recent, else-has_recent}

pub has_recent-requires : goal.has_recent-requires
has_recent-requires c =
    let r = c.requires in
    let may = may_settle r.0 r.1 r.2 c.args.round c.args.zone r.3 c.args.cpus.now c.loop-cpu.cpu-index c.loop-cpu.cpus c.loop-cpu.book (c.loop-cpu.invariant r.0 r.1 r.2 r.3 r.4) (omega arith) c.cpu-item.result in
    may.zone_there

pub settle-requires-clause-cpu : goal.settle-requires-clause-cpu
settle-requires-clause-cpu c =
    let r = c.requires in
    let may = may_settle r.0 r.1 r.2 c.args.round c.args.zone r.3 c.args.cpus.now c.loop-cpu.cpu-index c.loop-cpu.cpus c.loop-cpu.book (c.loop-cpu.invariant r.0 r.1 r.2 r.3 r.4) (omega arith) c.cpu-item.result in
    may.one_of

pub settle-requires-clause-same_params : goal.settle-requires-clause-same_params
settle-requires-clause-same_params c =
    let r = c.requires in
    let may = may_settle r.0 r.1 r.2 c.args.round c.args.zone r.3 c.args.cpus.now c.loop-cpu.cpu-index c.loop-cpu.cpus c.loop-cpu.book (c.loop-cpu.invariant r.0 r.1 r.2 r.3 r.4) (omega arith) c.cpu-item.result in
    may.same_params

pub settle-requires-clause-at : goal.settle-requires-clause-at
settle-requires-clause-at c =
    let r = c.requires in
    let may = may_settle r.0 r.1 r.2 c.args.round c.args.zone r.3 c.args.cpus.now c.loop-cpu.cpu-index c.loop-cpu.cpus c.loop-cpu.book (c.loop-cpu.invariant r.0 r.1 r.2 r.3 r.4) (omega arith) c.cpu-item.result in
    (may.history, may.keeps, may.caught)

pub settle-requires-clause-room : goal.settle-requires-clause-room
settle-requires-clause-room c =
    let r = c.requires in
    let may = may_settle r.0 r.1 r.2 c.args.round c.args.zone r.3 c.args.cpus.now c.loop-cpu.cpu-index c.loop-cpu.cpus c.loop-cpu.book (c.loop-cpu.invariant r.0 r.1 r.2 r.3 r.4) (omega arith) c.cpu-item.result in
    may.room

pub loop-cpu-preserved : goal.loop-cpu-preserved
loop-cpu-preserved c b plan log z first =
    let at = c.loop-cpu.invariant b plan log z first in
    elim c.if-has_recent.branch [
      | then-has_recent w ↦
          let settled = one_settled b plan log c.args.round c.args.zone z c.args.cpus.now c.loop-cpu.cpu-index c.loop-cpu.cpus c.loop-cpu.book at (omega arith) c.cpu-item.result w.settle.new.self w.settle.new.book
          (sym w.if-has_recent.ensures) w.settle.ensures.visits w.settle.ensures.keeps w.settle.ensures.recent w.settle.ensures.elsewhere in
          rw (w.cpus-is, w.book-is) settled
      | else-has_recent w ↦
          let settled = none_to_settle b plan log c.args.round c.args.zone z c.args.cpus.now c.loop-cpu.cpu-index c.loop-cpu.cpus c.loop-cpu.book at (omega arith) c.cpu-item.result (sym w.if-has_recent.ensures) in
          rw (w.cpus-is, w.book-is) settled
    ]

pub returns : goal.returns
returns c b plan log z first =
    let at = c.loop-cpu.invariant b plan log z first in
    let end : c.loop-cpu.cpu-index ≡ b.cpus = omega (arith, at.long) in
    subst (λ n. AreSettledBelow b plan log c.args.round c.args.zone z c.args.cpus.now n c.loop-cpu.cpus c.loop-cpu.book) end at
